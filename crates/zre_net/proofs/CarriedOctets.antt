-- What connections carry: of each, the octets that have come and those that wait are all that it was made to carry.
use Rattle.std.proofs.Common.{◌≡◌, ◌⊎◌, ℕ, ◌+◌, ◌^◌, ◌≤◌, ◌<◌, Bool, true, false, cond, eqb, ltb, leb, List, [], ◌∷◌, ◌++◌, length, Option, Some, None, is_some, refl, sym, ap, ◌∙◌, subst, inl, inr, arith, eqb-true, eq-eqb, true≢false, append_assoc, append-nil}
use Rattle.std.specs.Option.{option_map_or}
use Rattle.std.specs.List.{filter_map, AllByRecursion}
use Rattle.std.proofs.lemmas.Bool.{le-leb, ne_eqb}
use Rattle.zre_values.specs.Address.{IsAddress}
use Rattle.zre_values.specs.declared.peer_id.PeerId.{PeerId}
use Rattle.zre_outside.specs.declared.act.Act.{Act}
use Rattle.zre_outside.specs.declared.act.Act.TheVariants as act
use Rattle.zre_outside.specs.declared.entry.Input.{Input}
use Rattle.zre_outside.specs.declared.entry.Input.TheVariants as input
use Rattle.zre_msg.specs.Spelling.{octets}
use Rattle.zre_journal.specs.Chronicle.{Mark}
use Rattle.zre_journal.specs.Config.{CanBe}
use Rattle.zre_values.specs.Settings.{is_valid}
use Rattle.zre_journal.specs.Events.{chronicle}
use Rattle.zre_journal.specs.Heard.{bytes, was_opened, piece_of}
use Rattle.zre_journal.proofs.HeardUnchanged.{is_of}
use Rattle.zre_journal.proofs.NumberedLists.{All-join}
use Rattle.zre_net.specs.declared.moves.Move.{Move}
use Rattle.zre_net.specs.declared.moves.Move.TheVariants as move
use Rattle.zre_net.specs.declared.moves.Part.{Part}
use Rattle.zre_net.specs.declared.moves.Part.TheVariants as part
use Rattle.zre_net.specs.Agreement.{carried, streamed}
use Rattle.zre_net.specs.Carried.{spelling, pending}
use Rattle.zre_net.specs.Comes.{turn_of}
use Rattle.zre_net.specs.Grammar.{can_carry}
use Rattle.zre_net.specs.History.{Incarnation, NodeTurn, Happening, Happens, IsKnown, incarnations, running, journal, chronicle_of, settings_of}
use Rattle.zre_net.specs.Lists.{nth}
use Rattle.zre_net.specs.Numbers.{Route, CarriedConn, acts_of, route_in, routes, conns, queued_on}
use Rattle.zre_net.proofs.LinksOnlyGrow.{links_grow}
use Rattle.zre_net.proofs.JournalsOfIncarnations.{length-last, same_who, other_journal, chronicle_now, other_chronicle}
use Rattle.zre_net.proofs.ListsCountedFromOne.{some_one, nth_more, nth_cases, all_map, past_all}
use Rattle.zre_net.proofs.OpenedAfterEntry.{IsOld, bytes_now, still_old, opened_now, opened_same}
use Rattle.zre_net.proofs.RowsStandForSame.{starting, after_start, known_started, number_is, starting_known}

-- ---- what is so of connections

pub record IsCarried (H : List Happening) (x : ℕ) (c : CarriedConn) : Type 0 where
  pub number : c.number ≡ x
  pub to_known : IsKnown H c.to
  pub from_known : IsKnown H c.along.from
  pub sayable : AllByRecursion (λ p. can_carry H p c ≡ true) (carried x H)
  pub old : IsOld x (chronicle_of c.to H)
  pub octets : was_opened x (chronicle_of c.to H) ≡ true → bytes x (chronicle_of c.to H) ++ pending x H ≡ streamed c.along H (carried x H)
  pub elsewhere : (b : Incarnation) → IsKnown H b → eqb b.number c.to.number ≡ false → was_opened x (chronicle_of b H) ≡ false

pub record Carries (H : List Happening) : Type 0 where
  pub can : (a : Incarnation) → IsKnown H a → CanBe a.settings
  pub runs : (n : ℕ) (a : Incarnation) → running n H ≡ Some a → IsKnown H a
  pub owners : AllByRecursion (λ (s : Route). IsKnown H s.from) (routes H)
  pub silent : (a : Incarnation) → length (incarnations H) < a.number → journal a H ≡ []
  pub each : (x : ℕ) (c : CarriedConn) → nth x (conns H) ≡ Some c → IsCarried H x c
  pub none_yet : (x : ℕ) → nth x (conns H) ≡ None → carried x H ≡ []
  pub unopened : (x : ℕ) → nth x (conns H) ≡ None → (b : Incarnation) → IsKnown H b → was_opened x (chronicle_of b H) ≡ false

-- ---- parts that can be carried stay so, with their octets

some_more : {A : Type 0} (o : Option A) (xs ys : List A) (k : ℕ) → nth k xs ≡ o → is_some o ≡ true → nth k (xs ++ ys) ≡ o
some_more None xs ys k e s = absurd (true≢false (sym s))
some_more (Some x) xs ys k e s = nth_more k xs ys x e

module _ (h : Happening) (H : List Happening) where
  message_stays : (s : Route) (k : ℕ) → is_some (nth k (queued_on s H)) ≡ true → nth k (queued_on s (h ∷ H)) ≡ nth k (queued_on s H)
  message_stays s k some = let g = links_grow s h H in ap (nth k) g.1 ∙ some_more (nth k (queued_on s H)) (queued_on s H) g.0 k refl some

  still_sayable : (c : CarriedConn) (p : Part) → can_carry H p c ≡ true → can_carry (h ∷ H) p c ≡ true
  still_sayable c part.Greeting e = refl
  still_sayable c part.Ready e = refl
  still_sayable c (part.Message k) e = ap (λ o. is_some o) (message_stays c.along k e) ∙ e

  pub all_sayable : (c : CarriedConn) (ps : List Part) → AllByRecursion (λ p. can_carry H p c ≡ true) ps → AllByRecursion (λ p. can_carry (h ∷ H) p c ≡ true) ps
  all_sayable c [] a = tt
  all_sayable c (p ∷ ps) a = (still_sayable c p a.0, all_sayable c ps a.1)

  same_spelling : (c : CarriedConn) (p : Part) → can_carry H p c ≡ true → spelling c.along (h ∷ H) p ≡ spelling c.along H p
  same_spelling c part.Greeting e = refl
  same_spelling c part.Ready e = refl
  same_spelling c (part.Message k) e = ap (λ o. option_map_or octets o []) (message_stays c.along k e)

  pub same_stream : (c : CarriedConn) (ps : List Part) → AllByRecursion (λ p. can_carry H p c ≡ true) ps → streamed c.along (h ∷ H) ps ≡ streamed c.along H ps
  same_stream c [] a = refl
  same_stream c (p ∷ ps) a = ap (λ o. o ++ streamed c.along (h ∷ H) ps) (same_spelling c p a.0) ∙ ap (λ o. spelling c.along H p ++ o) (same_stream c ps a.1)

pub streamed_last : (s : Route) (H : List Happening) (ps : List Part) (p : Part) → streamed s H (ps ++ p ∷ []) ≡ streamed s H ps ++ spelling s H p
streamed_last s H [] p = append-nil (spelling s H p)
streamed_last s H (q ∷ ps) p = ap (λ o. spelling s H q ++ o) (streamed_last s H ps p) ∙ sym (append_assoc (spelling s H q) (streamed s H ps) (spelling s H p))

pub not_of : (x : ℕ) (i : Input) → is_of x i ≡ false → piece_of x i ≡ []
not_of x (input.Piece d o) e = ap (λ b. cond b o []) e
not_of x (input.Datagram from o) e = refl
not_of x (input.Opened c) e = refl
not_of x (input.Shut c) e = refl
not_of x (input.Linked l) e = refl
not_of x (input.Reply l o) e = refl
not_of x (input.Unlinked l) e = refl
not_of x (input.Took l n) e = refl
not_of x input.Tick e = refl
not_of x (input.Do c) e = refl
not_of x input.End e = refl

-- ---- an entry comes

module _ (H : List Happening) (s : Carries H) (m : Move) (a : Incarnation) (at : ℕ) (i : Input) (known : IsKnown H a) where
  abbrev T : NodeTurn
  T = turn_of a at i

  abbrev N : List Happening
  N = Happens m (Some T) ∷ H

  module _ (still : incarnations N ≡ incarnations H) (brought : (x : ℕ) → carried x N ≡ carried x H)
      (to_it : (x : ℕ) (c : CarriedConn) → nth x (conns H) ≡ Some c → is_of x i ≡ true → c.to ≡ a)
      (left : (x : ℕ) (c : CarriedConn) → nth x (conns H) ≡ Some c → piece_of x i ++ pending x N ≡ pending x H) where
    pub known_now : (b : Incarnation) → IsKnown H b → IsKnown N b
    known_now b e = ap (nth b.number) still ∙ e

    pub known_then : (b : Incarnation) → IsKnown N b → IsKnown H b
    known_then b e = ap (nth b.number) (sym still) ∙ e

    -- what is so of the chronicle of each after the entry, by whether it is that of a
    either : (P : Incarnation → List Mark → Type 0) (b : Incarnation) → IsKnown H b → P a (chronicle_of a N) → (eqb b.number a.number ≡ false → P b (chronicle_of b H)) → P b (chronicle_of b N)
    either P b k p q = by (eqb b.number a.number) refl
      where
        by : (t : Bool) → eqb b.number a.number ≡ t → P b (chronicle_of b N)
        by true z = subst (λ c. P c (chronicle_of c N)) (same_who H a b known k (sym (eqb-true b.number a.number z))) p
        by false z = subst (P b) (sym (other_chronicle H m a at i b z)) (q z)

    -- it isn't about connections of others
    not_its : (x : ℕ) (c : CarriedConn) → nth x (conns H) ≡ Some c → eqb c.to.number a.number ≡ false → is_of x i ≡ false
    not_its x c e far = by (is_of x i) refl
      where
        by : (t : Bool) → is_of x i ≡ t → t ≡ false
        by true z = absurd (true≢false (sym (eq-eqb c.to.number a.number (ap (λ (b : Incarnation). b.number) (to_it x c e z))) ∙ far))
        by false z = refl

    pub carried_on : (x : ℕ) (c : CarriedConn) → nth x (conns H) ≡ Some c → IsCarried N x c
    carried_on x c e = record {
      number = k.number;
      to_known = known_now c.to k.to_known;
      from_known = known_now c.along.from k.from_known;
      sayable = subst (AllByRecursion (λ p. can_carry N p c ≡ true)) (sym (brought x)) (all_sayable (Happens m (Some T)) H c (carried x H) k.sayable);
      old = either (λ b K. (b ≡ c.to) → IsOld x K) c.to k.to_known (λ z. subst (IsOld x) (sym (chronicle_now H m a at i)) (still_old a.settings (journal a H) T.entry x (subst (λ b. IsOld x (chronicle_of b H)) (sym z) k.old))) (λ z y. k.old) refl;
      octets = octets_now;
      elsewhere = λ b l far. either (λ d K. (d ≡ b) → was_opened x K ≡ false) b (known_then b l) (λ z. ap (was_opened x) (chronicle_now H m a at i) ∙ opened_same a.settings (journal a H) T.entry x (foreign b far z) ∙ k.elsewhere a known (ap (λ (d : Incarnation). eqb d.number c.to.number) z ∙ far))
          (λ z y. k.elsewhere b (known_then b l) far) refl;
    }
      where
        k : IsCarried H x c
        k = s.each x c e

        foreign : (b : Incarnation) → eqb b.number c.to.number ≡ false → a ≡ b → is_of x i ≡ false
        foreign b far z = not_its x c e (ne_eqb c.to.number a.number (λ y. true≢false (sym (eq-eqb b.number c.to.number (ap (λ (d : Incarnation). d.number) (sym z) ∙ sym y)) ∙ far)))

        same : streamed c.along N (carried x N) ≡ streamed c.along H (carried x H)
        same = ap (streamed c.along N) (brought x) ∙ same_stream (Happens m (Some T)) H c (carried x H) k.sayable

        octets_now : was_opened x (chronicle_of c.to N) ≡ true → bytes x (chronicle_of c.to N) ++ pending x N ≡ streamed c.along N (carried x N)
        octets_now = either (λ b K. (b ≡ c.to) → was_opened x K ≡ true → bytes x K ++ pending x N ≡ streamed c.along N (carried x N)) c.to k.to_known (λ z. its z) (λ z y. others z) refl
          where
            its : a ≡ c.to → was_opened x (chronicle_of a N) ≡ true → bytes x (chronicle_of a N) ++ pending x N ≡ streamed c.along N (carried x N)
            its z o =
                let K = chronicle_of a H in
                let was : was_opened x K ≡ true = sym (opened_now a.settings (journal a H) T.entry x (subst (λ b. IsOld x (chronicle_of b H)) (sym z) k.old)) ∙ ap (was_opened x) (sym (chronicle_now H m a at i)) ∙ o in
                ap (λ b. b ++ pending x N) (ap (bytes x) (chronicle_now H m a at i) ∙ bytes_now a.settings (journal a H) T.entry x ∙ ap (λ t. bytes x K ++ cond t (piece_of x i) []) was)
                ∙ append_assoc (bytes x K) (piece_of x i) (pending x N)
                ∙ ap (λ o. bytes x K ++ o) (left x c e)
                ∙ subst (λ b. was_opened x (chronicle_of b H) ≡ true → bytes x (chronicle_of b H) ++ pending x H ≡ streamed c.along H (carried x H)) (sym z) k.octets was
                ∙ sym same

            others : eqb c.to.number a.number ≡ false → was_opened x (chronicle_of c.to H) ≡ true → bytes x (chronicle_of c.to H) ++ pending x N ≡ streamed c.along N (carried x N)
            others far o =
                ap (λ p. bytes x (chronicle_of c.to H) ++ (p ++ pending x N)) (sym (not_of x i (not_its x c e far)))
                ∙ ap (λ p. bytes x (chronicle_of c.to H) ++ p) (left x c e) ∙ k.octets o ∙ sym same

    pub unopened_on : (x : ℕ) → nth x (conns H) ≡ None → is_of x i ≡ false → (b : Incarnation) → IsKnown N b → was_opened x (chronicle_of b N) ≡ false
    unopened_on x e far b l = either (λ d K. was_opened x K ≡ false) b (known_then b l) (ap (was_opened x) (chronicle_now H m a at i) ∙ opened_same a.settings (journal a H) T.entry x far ∙ s.unopened x e a known) (λ z. s.unopened x e b (known_then b l))

    pub owners_on : AllByRecursion (λ (r : Route). IsKnown N r.from) (routes N)
    owners_on = All-join (λ (r : Route). IsKnown N r.from) (routes H) (filter_map (route_in a) (acts_of T H)) (all_map (λ (r : Route). IsKnown H r.from) (λ (r : Route). IsKnown N r.from) (λ r z. known_now r.from z) (routes H) s.owners) (from_it (acts_of T H))
      where
        from_it : (acts : List Act) → AllByRecursion (λ (r : Route). IsKnown N r.from) (filter_map (route_in a) acts)
        from_it [] = tt
        from_it (act.Connect l to ∷ acts) = (known_now a known, from_it acts)
        from_it (_ ∷ acts) = from_it acts

    pub silent_on : (b : Incarnation) → length (incarnations N) < b.number → journal b N ≡ []
    silent_on b z =
        let n = ap (λ xs. length xs) still in
        other_journal H m a at i b (past_all a.number (incarnations H) a known b.number (omega (arith, z, n))) ∙ s.silent b (omega (arith, z, n))

    -- where no connection opens
    pub comes_on : ((n : ℕ) (b : Incarnation) → running n N ≡ Some b → running n H ≡ Some b) → conns N ≡ conns H → ((x : ℕ) → nth x (conns H) ≡ None → is_of x i ≡ false) → Carries N
    comes_on runs stay new = record {
      can = λ b l. s.can b (known_then b l);
      runs = λ n b r. known_now b (s.runs n b (runs n b r));
      owners = owners_on;
      silent = silent_on;
      each = λ x c e. carried_on x c (ap (nth x) (sym stay) ∙ e);
      none_yet = λ x e. brought x ∙ s.none_yet x (ap (nth x) (sym stay) ∙ e);
      unopened = λ x e. let e' = ap (nth x) (sym stay) ∙ e in unopened_on x e' (new x e');
    }

-- ---- no entry comes

pub nothing_comes : (H : List Happening) → Carries H → (m : Move) → (let N = Happens m None ∷ H in
    (incarnations N ≡ incarnations H) × (conns N ≡ conns H) × ((x : ℕ) → carried x N ≡ carried x H) × ((x : ℕ) → pending x N ≡ pending x H)
    × ((n : ℕ) (b : Incarnation) → running n N ≡ Some b → running n H ≡ Some b)) → Carries (Happens m None ∷ H)
nothing_comes H s m p = record {
  can = λ b l. s.can b (then b l);
  runs = λ n b r. now b (s.runs n b (p.4 n b r));
  owners = all_map (λ (r : Route). IsKnown H r.from) (λ (r : Route). IsKnown N r.from) (λ r z. now r.from z) (routes H) s.owners;
  silent = λ b z. s.silent b (let n = ap (λ xs. length xs) p.0 in omega (arith, n, z));
  each = λ x c e. one x c (s.each x c (ap (nth x) (sym p.1) ∙ e));
  none_yet = λ x e. p.2 x ∙ s.none_yet x (ap (nth x) (sym p.1) ∙ e);
  unopened = λ x e b l. s.unopened x (ap (nth x) (sym p.1) ∙ e) b (then b l);
}
  where
    N : List Happening
    N = Happens m None ∷ H

    now : (b : Incarnation) → IsKnown H b → IsKnown (Happens m None ∷ H) b
    now b e = ap (nth b.number) p.0 ∙ e

    then : (b : Incarnation) → IsKnown (Happens m None ∷ H) b → IsKnown H b
    then b e = ap (nth b.number) (sym p.0) ∙ e

    one : (x : ℕ) (c : CarriedConn) → IsCarried H x c → IsCarried (Happens m None ∷ H) x c
    one x c k = record {
      number = k.number;
      to_known = now c.to k.to_known;
      from_known = now c.along.from k.from_known;
      sayable = subst (AllByRecursion (λ q. can_carry (Happens m None ∷ H) q c ≡ true)) (sym (p.2 x)) (all_sayable (Happens m None) H c (carried x H) k.sayable);
      old = k.old;
      octets = λ o. ap (λ q. bytes x (chronicle_of c.to H) ++ q) (p.3 x) ∙ k.octets o ∙ sym (ap (streamed c.along (Happens m None ∷ H)) (p.2 x) ∙ same_stream (Happens m None) H c (carried x H) k.sayable);
      elsewhere = λ b l far. k.elsewhere b (then b l) far;
    }

-- ---- a node starts

-- the fields of a start are as they are read
pub record HasFields (id : List ℕ) (name host : List ℕ) (port : ℕ) : Type 0 where
  pub sixteen : length id ≡ 16
  pub short : length name ≤ 255
  pub address : IsAddress host
  pub fits : port < 2 ^ 16

abbrev pub MayStart : Move → Type 0
MayStart (move.Start n at id name host port) = HasFields id.0 name host port
MayStart _ = Unit {0}

valid_settings : (id : PeerId) (name host : List ℕ) (port : ℕ) → length name ≤ 255 → ltb 0 port ≡ true → is_valid (settings_of id name host port) ≡ true
valid_settings id name host port short some = let n : leb (length name) 255 ≡ true = le-leb (length name) 255 short in rw (n, some) refl

module _ (H : List Happening) (s : Carries H) (n at : ℕ) (id : PeerId) (name host : List ℕ) (port : ℕ) (f : HasFields id.0 name host port) (some : ltb 0 port ≡ true) where
  abbrev new : Incarnation
  new = starting H n at id name host port

  abbrev S : List Happening
  S = after_start H n at id name host port

  before : (P : Incarnation → Type 0) (b : Incarnation) → IsKnown S b → (IsKnown H b → P b) → P new → P b
  before P b k p q = by (nth_cases b.number (incarnations H) new b k)
    where
      by : (nth b.number (incarnations H) ≡ Some b) ⊎ ((b.number ≡ length (incarnations H) + 1) × (b ≡ new)) → P b
      by (inl z) = p z
      by (inr z) = subst P (sym z.1) q

  can_start : CanBe new.settings
  can_start = record { valid = valid_settings id name host port f.short some; sixteen = f.sixteen; host_is = f.address; port_fits = f.fits }

  never_opened : (x : ℕ) → was_opened x (chronicle_of new H) ≡ false
  never_opened x = ap (λ J. was_opened x (chronicle new.settings J)) (s.silent new (let e = number_is H n at id name host port in omega (arith, e)))

  pub starts_on : Carries S
  starts_on = record {
    can = λ b k. before (λ d. CanBe d.settings) b k (λ z. s.can b z) can_start;
    runs = λ k b r. by k b (eqb k n) refl r;
    owners = all_map (λ (r : Route). IsKnown H r.from) (λ (r : Route). IsKnown S r.from) (λ r z. known_started H n at id name host port r.from z) (routes H) s.owners;
    silent = λ b z. s.silent b (let l = length-last (incarnations H) new in omega (arith, l, z));
    each = λ x c e. one x c (s.each x c e);
    none_yet = s.none_yet;
    unopened = λ x e b k. before (λ d. was_opened x (chronicle_of d H) ≡ false) b k (λ z. s.unopened x e b z) (never_opened x);
  }
    where
      by : (k : ℕ) (b : Incarnation) (t : Bool) → eqb k n ≡ t → cond t (Some new) (running k H) ≡ Some b → IsKnown S b
      by k b true e r = subst (IsKnown S) (some_one r) (starting_known H n at id name host port)
      by k b false e r = known_started H n at id name host port b (s.runs k b r)

      one : (x : ℕ) (c : CarriedConn) → IsCarried H x c → IsCarried S x c
      one x c k = record {
        number = k.number;
        to_known = known_started H n at id name host port c.to k.to_known;
        from_known = known_started H n at id name host port c.along.from k.from_known;
        sayable = all_sayable (Happens (move.Start n at id name host port) None) H c (carried x H) k.sayable;
        old = k.old;
        octets = λ o. k.octets o ∙ sym (same_stream (Happens (move.Start n at id name host port) None) H c (carried x H) k.sayable);
        elsewhere = λ b l far. before (λ d. was_opened x (chronicle_of d H) ≡ false) b l (λ z. k.elsewhere b z far) (never_opened x);
      }
