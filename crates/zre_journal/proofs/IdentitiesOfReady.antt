-- The identity that came on a connection is that of the READY that its octets say.
use Rattle.std.proofs.Common.{◌≡◌, ℕ, Bool, true, false, cond, not, ◌&&◌, eqb, ltb, List, [], ◌∷◌, ◌++◌, length, map, Option, Some, None, refl, sym, ap, ◌∙◌, subst, eqb-true, eq-eqb, inl, inr, append_assoc}
use Rattle.std.specs.Option.{option_or}
use Rattle.std.specs.List.{AllByRecursion}
use Rattle.zre_values.specs.declared.limits.TheConstants.{PEERS, CONNECTIONS}
use Rattle.zre_values.specs.declared.peer_id.PeerId.{PeerId}
use Rattle.zre_values.specs.declared.endpoint.Endpoint.{Endpoint}
use Rattle.zre_values.specs.Endpoint.{endpoint_in}
use Rattle.zre_zmtp.specs.declared.fault.ZmtpFault.{ZmtpFault}
use Rattle.zre_outside.specs.declared.entry.Entry.{Entry}
use Rattle.zre_outside.specs.declared.entry.Input.{Input}
use Rattle.zre_outside.specs.declared.entry.Input.TheVariants as input
use Rattle.zre_mailbox.specs.declared.arrival.Arrival.{Arrival}
use Rattle.zre_mailbox.specs.declared.arrival.Arrival.TheVariants as arrival
use Rattle.zre_mailbox.specs.Conn.{identity_in}
use Rattle.zre_mailbox.specs.Talk.{Said, Arrived, Fault, arrivals, fault_in, fault_said, talk, is_traffic, AreTraffic, IsInOrder}
use Rattle.zre_mailbox.proofs.TalkGrows.{goes}
use Rattle.zre_mailbox.proofs.ConnAfterOctets.{introduced_stays}
use Rattle.zre_mailbox.proofs.ArrivalsInOrder.{in_order}
use Rattle.zre_msg.specs.declared.message.Message.{Message}
use Rattle.zre_peer.specs.declared.causes.Cause.TheVariants as cause
use Rattle.zre_peer.specs.Runs.{is_hello, due}
use Rattle.zre_peer.specs.Views.{view_of, is_small}
use Rattle.zre_values.specs.declared.settings.Settings.{Settings as Config}
use Rattle.zre_journal.specs.Arrivals.{at_opened, end_of_run, taken_over, start_unknown, start, at_first, at_message, at_ready, at_said, at_place, at_places}
use Rattle.zre_journal.specs.Chronicle.{Mark, Comes, Identifies, after}
use Rattle.zre_journal.specs.Connections.{open_ones, is_new, identity, runs, is_live, other_with}
use Rattle.zre_journal.specs.Events.{chronicle}
use Rattle.zre_journal.specs.Happens.{at_input}
use Rattle.zre_journal.specs.Heard.{bytes, was_opened, piece_of}
use Rattle.zre_journal.specs.Peers.{Life, lives, life_of, counted}
use Rattle.zre_journal.specs.Places.{is_piece, IsEntry, Arrives}
use Rattle.zre_journal.specs.Proper.{IsProper}
use Rattle.zre_journal.proofs.ProperChronicles.{is_proper, comes_proper}
use Rattle.zre_journal.proofs.MarksOfEntries.{all_brought}
use Rattle.zre_journal.proofs.EachMarkOfEntries.{Ground, Brought, quiet}
use Rattle.zre_journal.proofs.JoinedEntries.{after-append}
use Rattle.zre_journal.proofs.NumberedLists.{All-join}
use Rattle.zre_journal.proofs.PlacesInLedgers.{IsMoment, its_moment}
use Rattle.zre_journal.proofs.HeardUnchanged.{Quiet, AreQuiet, is_of}
use Rattle.zre_journal.proofs.SaidOnConnections.{place_outcome, places_outcome, input_quiet}
use Rattle.zre_journal.proofs.SaidWithinLimit.{MaySay, newly_fine}
use Rattle.zre_journal.proofs.ProperPeers.{Comes-proper}
use Rattle.zre_journal.proofs.WhenMarksCome.{Each, all_same, each_same, choice, all_end, all_taken, all_answer}
use Rattle.zre_journal.proofs.PlaceByPlace.{walk}

-- ---- who is introduced by what is said

after_fault : (f : Option ZmtpFault) (xs ys : List Said) (a : Arrival) → fault_said f ≡ xs ++ Arrived a ∷ ys → ⊥
after_fault None [] ys a z = let w : [] ≡ Arrived a ∷ ys = z in absurd cc
after_fault None (x ∷ xs) ys a z = let w : [] ≡ x ∷ (xs ++ Arrived a ∷ ys) = z in absurd cc
after_fault (Some f) [] ys a z = let w : Fault f ≡ Arrived a = cc in absurd cc
after_fault (Some f) (x ∷ []) ys a z = let w : [] ≡ Arrived a ∷ ys = cc in absurd cc
after_fault (Some f) (x ∷ y ∷ xs) ys a z = let w : [] ≡ y ∷ (xs ++ Arrived a ∷ ys) = cc in absurd cc

not_in_traffic : (f : Option ZmtpFault) (p : PeerId) (came : List Arrival) → AreTraffic came → (xs ys : List Said) → map (λ a. Arrived a) came ++ fault_said f ≡ xs ++ Arrived (arrival.Shaken p) ∷ ys → ⊥
not_in_traffic f p [] t xs ys z = after_fault f xs ys (arrival.Shaken p) z
not_in_traffic f p (a ∷ came) t [] ys z =
    let w : Arrived a ≡ Arrived (arrival.Shaken p) = cc in
    let same : a ≡ arrival.Shaken p = cc in
    let y : false ≡ true = subst (λ x. is_traffic x ≡ true) same t.0 in
    absurd cc
not_in_traffic f p (a ∷ came) t (x ∷ xs) ys z = not_in_traffic f p came t.1 xs ys (let w : Arrived a ∷ (map (λ b. Arrived b) came ++ fault_said f) ≡ x ∷ (xs ++ Arrived (arrival.Shaken p) ∷ ys) = z in cc)

pub ready_in : (own p : PeerId) (o : List ℕ) (xs ys : List Said) → talk own o ≡ xs ++ Arrived (arrival.Shaken p) ∷ ys → identity_in (arrivals own o) ≡ Some p
ready_in own p o xs ys e = by (in_order own o)
  where
    all : List Arrival → List Said
    all came = map (λ a. Arrived a) came ++ fault_said (fault_in own o)

    is : (came : List Arrival) → arrivals own o ≡ came → all came ≡ xs ++ Arrived (arrival.Shaken p) ∷ ys
    is came z = ap all (sym z) ∙ e

    greeted : (xs : List Said) → Arrived arrival.Greeted ∷ fault_said (fault_in own o) ≡ xs ++ Arrived (arrival.Shaken p) ∷ ys → ⊥
    greeted [] z = let w : Arrived arrival.Greeted ≡ Arrived (arrival.Shaken p) = cc in absurd cc
    greeted (x ∷ xs) z = after_fault (fault_in own o) xs ys (arrival.Shaken p) (let w : Arrived arrival.Greeted ∷ fault_said (fault_in own o) ≡ x ∷ (xs ++ Arrived (arrival.Shaken p) ∷ ys) = z in cc)

    met : (q : PeerId) (came : List Arrival) → AreTraffic came → (xs : List Said) → Arrived arrival.Greeted ∷ Arrived (arrival.Shaken q) ∷ (map (λ a. Arrived a) came ++ fault_said (fault_in own o)) ≡ xs ++ Arrived (arrival.Shaken p) ∷ ys → q ≡ p
    met q came t [] z = let w : Arrived arrival.Greeted ≡ Arrived (arrival.Shaken p) = cc in absurd cc
    met q came t (x ∷ []) z = let w : Arrived (arrival.Shaken q) ≡ Arrived (arrival.Shaken p) = cc in cc
    met q came t (x ∷ y ∷ xs) z = absurd (not_in_traffic (fault_in own o) p came t xs ys (let w : Arrived arrival.Greeted ∷ Arrived (arrival.Shaken q) ∷ (map (λ a. Arrived a) came ++ fault_said (fault_in own o)) ≡ x ∷ y ∷ (xs ++ Arrived (arrival.Shaken p) ∷ ys) = z in cc))

    by : IsInOrder own (arrivals own o) → identity_in (arrivals own o) ≡ Some p
    by (inl z) = absurd (after_fault (fault_in own o) xs ys (arrival.Shaken p) (is [] z))
    by (inr (inl z)) = absurd (greeted xs (is (arrival.Greeted ∷ []) z))
    by (inr (inr i)) = ap identity_in i.is ∙ ap (λ q. Some q) (met i.peer i.traffic i.are_traffic xs (is (arrival.Greeted ∷ arrival.Shaken i.peer ∷ i.traffic) i.is))

-- ---- marks that introduce nobody

-- neither an entry nor an introduction
abbrev Unidentified : Mark → Type 0
Unidentified (Comes e) = ⊥
Unidentified (Identifies c p) = ⊥
Unidentified _ = Unit {0}

abbrev AreUnidentified : List Mark → Type 0
AreUnidentified hs = AllByRecursion Unidentified hs

record IsSame (c : ℕ) (L K : List Mark) : Type 0 where
  identity_is : identity c L ≡ identity c K
  bytes_are : bytes c L ≡ bytes c K

-- what each of these marks leaves as it is, all of them do
all_of : (c : ℕ) (P : Mark → Type 0) → ((h : Mark) (H : List Mark) → P h → IsSame c (h ∷ H) H) → (hs K : List Mark) → AllByRecursion P hs → IsSame c (after hs K) K
all_of c P one hs K u = record {
  identity_is = all_same P (identity c) (λ h H z. (one h H z).identity_is) hs K u;
  bytes_are = all_same P (bytes c) (λ h H z. (one h H z).bytes_are) hs K u;
}

unidentified_same : (c : ℕ) (hs K : List Mark) → AreUnidentified hs → IsSame c (after hs K) K
unidentified_same c hs K u = all_of c Unidentified one hs K u
  where
    one : (h : Mark) (H : List Mark) → Unidentified h → IsSame c (h ∷ H) H
    one (Comes e) H z = absurd z
    one (Identifies d p) H z = absurd z
    one _ H z = record { identity_is = refl; bytes_are = refl }

quiet_same : (c : ℕ) (hs K : List Mark) → AreQuiet c hs → IsSame c (after hs K) K
quiet_same c hs K u = all_of c (Quiet c) one hs K u
  where
    one : (h : Mark) (H : List Mark) → Quiet c h → IsSame c (h ∷ H) H
    one (Comes e) H z = absurd z
    one (Identifies d p) H z = record { identity_is = ap (λ t. option_or (cond t (Some p) None) (identity c H)) z; bytes_are = refl }
    one _ H z = record { identity_is = refl; bytes_are = refl }

-- marks that come about bring no octets
brought_bytes : (g : Config) (w : Ground) (t : Bool) (c : ℕ) (hs K : List Mark) → Each (Brought g w t) hs K → bytes c (after hs K) ≡ bytes c K
brought_bytes g w t c hs K b = each_same (Brought g w t) (bytes c) one hs K b
  where
    one : (h : Mark) (H : List Mark) → Brought g w t h H → bytes c (h ∷ H) ≡ bytes c H
    one (Comes e) H z = absurd z.1
    one _ H z = refl

module _ (g : Config) (K : List Mark) where
  unidentified_unknown : (c : ℕ) (p : PeerId) (m : Message) (e : Option Endpoint) → AreUnidentified (start_unknown g c p m e K)
  unidentified_unknown c p m None = (tt, tt)
  unidentified_unknown c p m (Some e) = choice AreUnidentified (ltb (length (lives K)) PEERS) _ _ (λ z. (tt, (tt, (tt, tt)))) (λ z. (tt, tt))

  unidentified_start : (c : ℕ) (p : PeerId) (m : Message) (v : Option Life) → AreUnidentified (start g c p m v K)
  unidentified_start c p m (Some v) = (tt, tt)
  unidentified_start c p m None = unidentified_unknown c p m (endpoint_in (view_of (m ∷ [])).endpoint)

  unidentified_first : (c : ℕ) (i : Option PeerId) (m : Message) → AreUnidentified (at_first g c i m K)
  unidentified_first c None m = tt
  unidentified_first c (Some p) m = choice AreUnidentified (not (is_hello m.body && eqb m.sequence 1)) _ _ (λ z. (tt, tt)) (λ z. choice AreUnidentified (not (is_small (view_of (m ∷ [])))) _ _ (λ y. (tt, tt)) (λ y. unidentified_start c p m (life_of p K)))

  unidentified_message : (c : ℕ) (r : Option ℕ) (m : Message) → AreUnidentified (at_message g c r m K)
  unidentified_message c None m = unidentified_first c (identity c K) m
  unidentified_message c (Some l) m = choice AreUnidentified (is_hello m.body) _ _ (λ z. (tt, tt)) (λ z. choice AreUnidentified (not (eqb m.sequence (due (counted l K)))) _ _ (λ y. (tt, tt))
      (λ y. choice AreUnidentified (not (is_small (view_of (counted l K ++ m ∷ [])))) _ _ (λ x. (tt, tt)) (λ x. (tt, all_answer Unidentified (λ l why. tt) (λ c why. tt) (λ l b. tt) g l m.body K))))

  unidentified_opened : (c : ℕ) → AreUnidentified (at_opened g c K)
  unidentified_opened c = choice AreUnidentified (is_new c K) _ _ (λ z. choice AreUnidentified (ltb (length (open_ones K)) CONNECTIONS) _ _ (λ y. (tt, tt)) (λ y. (tt, tt))) (λ z. tt)

-- ---- place by place

-- who came on c is whom its octets introduce
abbrev pub IsIntroduced : Config → List Mark → Type 0
IsIntroduced g K = (c : ℕ) (p : PeerId) → identity c K ≡ Some p → identity_in (arrivals g.id (bytes c K)) ≡ Some p

module _ (g : Config) (J : List Entry) where
  abbrev P : List Mark → Type 0
  P K = IsIntroduced g K

  same_one : (d : ℕ) (L K : List Mark) → IsSame d L K → P K → (p : PeerId) → identity d L ≡ Some p → identity_in (arrivals g.id (bytes d L)) ≡ Some p
  same_one d L K s o p i = ap (λ b. identity_in (arrivals g.id b)) s.bytes_are ∙ o d p (sym s.identity_is ∙ i)

  come : (H : List Mark) (e : Entry) → P H → P (Comes e ∷ H)
  come H e o c p i = introduced_stays g.id (bytes c H) (cond (was_opened c H) (piece_of c e.input) []) p (o c p i)

  entry : (earlier : List Entry) (e : Entry) (later : List Entry) → IsEntry g J earlier e later → is_piece e.input ≡ false
      → P (Comes e ∷ chronicle g earlier) → P (after (at_input g e.input (chronicle g earlier) (Comes e ∷ chronicle g earlier)) (Comes e ∷ chronicle g earlier))
  entry earlier e later at n o d = same_one d (after (at_input g e.input H M) M) M (by d e.input n) o
    where
      H : List Mark
      H = chronicle g earlier

      M : List Mark
      M = Comes e ∷ H

      q : IsProper M
      q = comes_proper g earlier e

      far : (d : ℕ) (i : Input) → is_of d i ≡ false → IsSame d (after (at_input g i H M) M) M
      far d i z = quiet_same d (at_input g i H M) M (input_quiet g i H M q d z)

      by : (d : ℕ) (i : Input) → is_piece i ≡ false → IsSame d (after (at_input g i H M) M) M
      by d (input.Piece c o) z = absurd (let w : true ≡ false = z in cc)
      by d (input.Opened c) z = unidentified_same d (at_opened g c M) M (unidentified_opened g M c)
      by d i z = far d i refl

  module _ (c : ℕ) (one : Said) (K : List Mark) (a : Arrives g J c one K) (o : P K) where
    it : IsMoment g one K
    it = its_moment g J c one K a

    -- all that its octets say
    says : talk g.id (bytes c K) ≡ (talk g.id (bytes c (chronicle g a.earlier)) ++ a.said) ++ one ∷ a.more
    says =
        let H = chronicle g a.earlier in
        let M = Comes a.entry ∷ H in
        let w : Ground = record { of = λ d. true; stops = false } in
        let fine = front a.said (one ∷ a.more) (subst (AllByRecursion (MaySay g.id)) a.completes (newly_fine g.id c H M)) in
        let still : bytes c K ≡ bytes c M = ap (bytes c) a.moment ∙ brought_bytes g w true c (at_places g c a.said M) M (all_brought (places_outcome g w c refl a.said fine M (Comes-proper H (is_proper g a.earlier) a.entry))) in
        ap (talk g.id) still ∙ (goes g.id (bytes c H) (cond (was_opened c H) (piece_of c a.entry.input) [])).said ∙ ap (λ xs. talk g.id (bytes c H) ++ xs) a.completes
        ∙ sym (append_assoc (talk g.id (bytes c H)) a.said (one ∷ a.more))
      where
        front : (xs ys : List Said) → AllByRecursion (MaySay g.id) (xs ++ ys) → AllByRecursion (MaySay g.id) xs
        front [] ys z = tt
        front (x ∷ xs) ys z = (z.0, front xs ys z.1)

    abbrev Q : List Mark → Type 0
    Q hs = (p : PeerId) → identity c (after hs K) ≡ Some p → identity_in (arrivals g.id (bytes c (after hs K))) ≡ Some p

    plain : (hs : List Mark) → AreUnidentified hs → Q hs
    plain hs u = same_one c (after hs K) K (unidentified_same c hs K u) o

    on_ready : (p : PeerId) → one ≡ Arrived (arrival.Shaken p) → (i : Option PeerId) → Q (at_ready g c p i K)
    on_ready p is (Some q) r i = o c r i
    on_ready p is None r i =
        let hs = taken_over g (other_with p c K) K in
        let s = unidentified_same c hs K (all_taken Unidentified (λ l why. tt) (λ c why. tt) (λ l b. tt) g (other_with p c K) K) in
        let now : after (hs ++ Identifies c p ∷ []) K ≡ Identifies c p ∷ after hs K = after-append hs (Identifies c p ∷ []) K in
        let who : Some p ≡ Some r = sym (ap (λ t. option_or (cond t (Some p) None) (identity c (after hs K))) (eq-eqb c c refl)) ∙ ap (identity c) (sym now) ∙ i in
        ap (λ b. identity_in (arrivals g.id b)) (ap (bytes c) now ∙ s.bytes_are)
        ∙ ready_in g.id p (bytes c K) (talk g.id (bytes c (chronicle g a.earlier)) ++ a.said) a.more (says ∙ ap (λ x. (talk g.id (bytes c (chronicle g a.earlier)) ++ a.said) ++ x ∷ a.more) is)
        ∙ who

    said : (s : Said) → one ≡ s → Q (at_said g c s K)
    said (Arrived arrival.Greeted) is = plain (at_said g c (Arrived arrival.Greeted) K) (tt, tt)
    said (Arrived (arrival.Shaken p)) is = on_ready p is (identity c K)
    said (Arrived (arrival.Ping t)) is = plain (at_said g c (Arrived (arrival.Ping t)) K) (tt, tt)
    said (Arrived (arrival.Message m)) is = plain (at_message g c (runs c K) m K) (unidentified_message g K c (runs c K) m)
    said (Fault f) is = plain (at_said g c (Fault f) K) (All-join Unidentified (end_of_run g (runs c K) cause.Fault) _ (all_end Unidentified (λ l why. tt) (λ c why. tt) (λ l b. tt) g (runs c K) cause.Fault) (tt, tt))

    own : Q (at_place g c one K)
    own = choice Q (is_live c K) _ _ (λ live. said one refl) (λ dead. o c)

    place : P (after (at_place g c one K) K)
    place d = by (eqb d c) refl
      where
        w : Ground
        w = record { of = λ x. eqb x c; stops = false }

        by : (t : Bool) → eqb d c ≡ t → (p : PeerId) → identity d (after (at_place g c one K) K) ≡ Some p → identity_in (arrivals g.id (bytes d (after (at_place g c one K) K))) ≡ Some p
        by true e = subst (λ x. (p : PeerId) → identity x (after (at_place g c one K) K) ≡ Some p → identity_in (arrivals g.id (bytes x (after (at_place g c one K) K))) ≡ Some p) (sym (eqb-true d c e)) own
        by false e = same_one d (after (at_place g c one K) K) K (quiet_same d (at_place g c one K) K
            (quiet g w true d e (at_place g c one K) K (all_brought (place_outcome g w c (eq-eqb c c refl) one it.may K it.proper)))) o

  pub is_introduced : IsIntroduced g (chronicle g J)
  is_introduced = walk g J P (λ H e o. come H e o) entry (λ c one K a o. place c one K a o) (λ c p i. cc)
