-- What an entry puts on a link, as it can be seen from outside: by how many messages were put, and by what waits.
use Rattle.std.proofs.Common.{◌≡◌, ℕ, ◌+◌, ◌%◌, ◌^◌, ◌≤◌, ◌<◌, Bool, true, false, cond, eqb, List, [], ◌∷◌, ◌++◌, length, drop, map, Some, None, IsSome, is_some, find, refl, sym, ap, ◌∙◌, subst, inl, inr, arith, append_assoc, append-nil, true≢false, eqb-true}
use Rattle.std.proofs.lemmas.List.{drop-append-le, length-drop, drop_at}
use Rattle.zre_outside.specs.declared.entry.Entry.{Entry}
use Rattle.zre_msg.specs.declared.message.Body.{Body}
use Rattle.zre_msg.specs.Spelling.{octets}
use Rattle.zre_link.specs.Text.{Member, Says, Pongs, bodies_in, numbered_from, text_of, next_message}
use Rattle.zre_link.proofs.AppendedMembers.{bodies-more, text_more}
use Rattle.zre_values.specs.declared.settings.Settings.{Settings as Config}
use Rattle.zre_journal.specs.Chronicle.{Mark, Comes, Puts, PutsPong, Sends, Ends, Born, after, followed}
use Rattle.zre_journal.specs.Connections.{is_end_of}
use Rattle.zre_journal.specs.Done.{puts}
use Rattle.zre_journal.specs.Events.{chronicle}
use Rattle.zre_journal.specs.Happens.{has_stopped, at_input, with_entry}
use Rattle.zre_journal.specs.Links.{line, bodies, queued, text, taken, unsent}
use Rattle.zre_journal.specs.Peers.{Life, lives, life}
use Rattle.zre_journal.specs.Proper.{IsProper}
use Rattle.zre_journal.proofs.ProperChronicles.{is_proper}
use Rattle.zre_journal.proofs.JoinedEntries.{continues}
use Rattle.zre_journal.proofs.KnownPeers.{life_stays}
use Rattle.zre_journal.proofs.NumberedLists.{eqb-comm}
use Rattle.zre_journal.proofs.SaidOnConnections.{input_allowed}
use Rattle.zre_journal.proofs.ProperPeers.{Comes-proper}
use Rattle.zre_journal.proofs.WhenMarksCome.{May, Allowed, all_same}
use Rattle.zre_journal.proofs.SaidOnLinks.{numbered_length}
use Rattle.zre_net.specs.Sender.{spelled, is_slight}
use Rattle.zre_net.proofs.LinkPerEntry.{Fate, IsQuiet, GoesOn, pongs, input_fate}

-- what an entry put on l: nothing, or these messages at its end, and then it goes on if there are any
pub data Put (l : ℕ) (H K : List Mark) : Type 0 where
  Nothing : bodies l K ≡ bodies l H → Put l H K
  Messages : (bs : List Body) → line l K ≡ line l H ++ map (λ b. Says b) bs → taken l K ≡ taken l H → (0 < length bs → IsSome (life l K)) → Put l H K

module _ (l : ℕ) where
  -- ---- from marks

  quiet_bodies : (hs H : List Mark) → IsQuiet l hs → bodies l (after hs H) ≡ bodies l H
  quiet_bodies hs H q = all_same (λ h. puts l h ≡ false) (bodies l) one hs H q
    where
      with_pongs : (ms : List Member) (t : List ℕ) → bodies_in (ms ++ Pongs t ∷ []) ≡ bodies_in ms
      with_pongs [] t = refl
      with_pongs (Says b ∷ ms) t = ap (λ bs. b ∷ bs) (with_pongs ms t)
      with_pongs (Pongs u ∷ ms) t = with_pongs ms t

      maybe : (K : List Mark) (b : Bool) (t : List ℕ) → bodies_in (followed (line l K) (cond b (Some (Pongs t)) None)) ≡ bodies l K
      maybe K true t = with_pongs (line l K) t
      maybe K false t = refl

      none : (K : List Mark) (b : Bool) (x : Body) → b ≡ false → bodies_in (followed (line l K) (cond b (Some (Says x)) None)) ≡ bodies l K
      none K true x e = absurd (true≢false e)
      none K false x e = refl

      one : (h : Mark) (K : List Mark) → puts l h ≡ false → bodies l (h ∷ K) ≡ bodies l K
      one (Puts k b) K e = none K (eqb l k) b e
      one (PutsPong k t) K e = maybe K (eqb l k) t
      one _ K e = refl

  life_kept : (h : Mark) (H : List Mark) → is_end_of l h ≡ false → IsSome (life l H) → IsSome (life l (h ∷ H))
  life_kept (Ends k why) H e s = subst IsSome (sym (life_stays H k l why (eqb-comm k l ∙ e))) s
  life_kept (Born k p to) H e s = more (lives H) s
    where
      more : (vs : List Life) → IsSome (find (λ (v : Life). eqb l v.link) vs) → IsSome (find (λ (v : Life). eqb l v.link) (vs ++ record { link = k; id = p; endpoint = to } ∷ []))
      more [] z = absurd cc
      more (v ∷ vs) z = by (eqb l v.link) z (λ y. more vs y)
        where
          by : (b : Bool) → IsSome (cond b (Some v) (find (λ (u : Life). eqb l u.link) vs)) → (IsSome (find (λ (u : Life). eqb l u.link) vs) → IsSome (find (λ (u : Life). eqb l u.link) (vs ++ record { link = k; id = p; endpoint = to } ∷ [])))
              → IsSome (cond b (Some v) (find (λ (u : Life). eqb l u.link) (vs ++ record { link = k; id = p; endpoint = to } ∷ [])))
          by true y r = y
          by false y r = r y
  life_kept _ H e s = s

  pub record Going (bs : List Body) (H K : List Mark) : Type 0 where
    pub line_is : line l K ≡ line l H ++ map (λ b. Says b) bs
    pub taken_is : taken l K ≡ taken l H
    pub known : 0 < length bs → IsSome (life l K)
    pub stays : IsSome (life l H) → IsSome (life l K)

  goes : (hs H : List Mark) → GoesOn l hs → Allowed hs H → (bs : List Body) × Going bs H (after hs H)
  goes [] H g a = ([], record { line_is = sym (append-nil (line l H)); taken_is = refl; known = λ z. absurd (omega (arith, z)); stays = λ s. s })
  goes (h ∷ hs) H g a = by h g.0.0 g.0.1 a.0 (goes hs (h ∷ H) g.1 a.1)
    where
      W : Mark → List Mark
      W k = after hs (k ∷ H)

      same : (k : Mark) → line l (k ∷ H) ≡ line l H → taken l (k ∷ H) ≡ taken l H → is_end_of l k ≡ false → (bs : List Body) × Going bs (k ∷ H) (after hs (k ∷ H)) → (bs : List Body) × Going bs H (after hs (k ∷ H))
      same k e t n r = (
        r.0,
        record {
          line_is = r.1.line_is ∙ ap (λ (ms : List Member). ms ++ map (λ b. Says b) r.0) e;
          taken_is = r.1.taken_is ∙ t;
          known = r.1.known;
          stays = λ s. r.1.stays (life_kept k H n s);
        },
      )

      said : (b : Bool) (k : ℕ) (x : Body) → eqb l k ≡ b → IsSome (life k H) → (bs : List Body) × Going bs (Puts k x ∷ H) (after hs (Puts k x ∷ H)) → (bs : List Body) × Going bs H (after hs (Puts k x ∷ H))
      said false k x e s r = same (Puts k x) (ap (λ z. followed (line l H) (cond z (Some (Says x)) None)) e) refl refl r
      said true k x e s r = (
        x ∷ r.0,
        record {
          line_is = r.1.line_is ∙ ap (λ z. followed (line l H) (cond z (Some (Says x)) None) ++ map (λ b. Says b) r.0) e ∙ append_assoc (line l H) (Says x ∷ []) (map (λ b. Says b) r.0);
          taken_is = r.1.taken_is;
          known = λ z. r.1.stays (subst (λ n. IsSome (life n H)) (sym (eqb-true l k e)) s);
          stays = r.1.stays;
        },
      )

      ponged : (k : ℕ) (t : List ℕ) → eqb l k ≡ false → line l (PutsPong k t ∷ H) ≡ line l H
      ponged k t e = ap (λ z. followed (line l H) (cond z (Some (Pongs t)) None)) e

      sent : (k n : ℕ) → eqb l k ≡ false → taken l (Sends k n ∷ H) ≡ taken l H
      sent k n e = ap (λ z. cond z (taken l H + n) (taken l H)) e

      by : (k : Mark) → is_end_of l k ≡ false → pongs l k ≡ false → May k H → (bs : List Body) × Going bs (k ∷ H) (after hs (k ∷ H)) → (bs : List Body) × Going bs H (after hs (k ∷ H))
      by (Puts k x) n p m r = said (eqb l k) k x refl m r
      by (PutsPong k t) n p m r = same (PutsPong k t) (ponged k t p) refl refl r
      by (Sends k c) n p m r = same (Sends k c) refl (sent k c p) refl r
      by k n p m r = same k refl refl n r

-- ---- entries

module _ (g : Config) (J : List Entry) (e : Entry) (l : ℕ) where
  abbrev H : List Mark
  H = chronicle g J

  abbrev K : List Mark
  K = with_entry g e H

  reached : chronicle g (J ++ e ∷ []) ≡ K
  reached = (continues g J (e ∷ [])).happened

  pub put_by : is_slight g e.input H (Comes e ∷ H) → Put l H K
  put_by slight = by (has_stopped H)
    where
      M : List Mark
      M = Comes e ∷ H

      q : IsProper M
      q = Comes-proper H (is_proper g J) e

      from : (hs : List Mark) → Fate l hs → Allowed hs M → Put l H (after hs M)
      from hs (inl n) a = Nothing (quiet_bodies l hs M n)
      from hs (inr n) a = let r = goes l hs M n a in Messages r.0 r.1.line_is r.1.taken_is r.1.known

      by : (b : Bool) → Put l H (after (cond b [] (at_input g e.input H M)) M)
      by true = Nothing refl
      by false = from (at_input g e.input H M) (input_fate l g M q e.input H slight) (input_allowed g e.input H M q)

-- ---- what is seen

numbered-more : (n : ℕ) (bs : List Body) (b : Body) → numbered_from n (bs ++ b ∷ []) ≡ numbered_from n bs ++ record { sequence = (length bs + n) % 2 ^ 16; body = b } ∷ []
numbered-more n [] b = ap (λ i. record { sequence = i % 2 ^ 16; body = b } ∷ []) (let e : n ≡ 0 + n = omega arith in e)
numbered-more n (x ∷ bs) b =
    let count : length bs + (n + 1) ≡ length (x ∷ bs) + n = omega arith in
    ap (λ ms. record { sequence = n % 2 ^ 16; body = x } ∷ ms) (numbered-more (n + 1) bs b ∙ ap (λ i. numbered_from (n + 1) bs ++ record { sequence = i % 2 ^ 16; body = b } ∷ []) count)

map-more : {A B : Type 0} (f : A → B) (xs : List A) (x : A) → map f (xs ++ x ∷ []) ≡ map f xs ++ f x ∷ []
map-more f [] x = refl
map-more f (y ∷ xs) x = ap (λ ys. f y ∷ ys) (map-more f xs x)

pub spelled-length : (l : ℕ) (H : List Mark) → length (spelled l H) ≡ length (bodies l H)
spelled-length l H = mapped octets (queued l H) ∙ numbered_length 1 (bodies l H)
  where
    mapped : {A B : Type 0} (f : A → B) (xs : List A) → length (map f xs) ≡ length xs
    mapped f [] = refl
    mapped f (x ∷ xs) = let r = mapped f xs in omega (arith, r)

bodies-said : (ms : List Member) (bs : List Body) → length (bodies_in (ms ++ map (λ b. Says b) bs)) ≡ length (bodies_in ms) + length bs
bodies-said [] [] = refl
bodies-said [] (b ∷ bs) = let r = bodies-said [] bs in omega (arith, r)
bodies-said (Says x ∷ ms) bs = let r = bodies-said ms bs in omega (arith, r)
bodies-said (Pongs t ∷ ms) bs = bodies-said ms bs

module _ (g : Config) (l : ℕ) (H K : List Mark) where
  same_spelled : bodies l K ≡ bodies l H → spelled l K ≡ spelled l H
  same_spelled e = ap (λ bs. map octets (numbered_from 1 bs)) e

  no_more : (bs : List Body) → line l K ≡ line l H ++ map (λ b. Says b) bs → length bs ≡ 0 → bodies l K ≡ bodies l H
  no_more [] e z = ap bodies_in e ∙ ap bodies_in (append-nil (line l H))
  no_more (b ∷ bs) e z = absurd (omega (arith, z))

  -- as many messages as before are the same
  pub as_many : Put l H K → length (bodies l K) ≡ length (spelled l H) → spelled l K ≡ spelled l H
  as_many (Nothing e) n = same_spelled e
  as_many (Messages bs e t k) n = same_spelled (no_more bs e (let a = ap (λ ms. length (bodies_in ms)) e in let b = bodies-said (line l H) bs in let c = spelled-length l H in omega (arith, a, b, c, n)))

  -- and so they are where the link is gone
  pub when_gone : Put l H K → life l K ≡ None → spelled l K ≡ spelled l H
  when_gone (Nothing e) n = same_spelled e
  when_gone (Messages [] e t k) n = same_spelled (no_more [] e refl)
  when_gone (Messages (b ∷ bs) e t k) n = absurd (true≢false (sym (k (omega arith)) ∙ ap is_some n))

  -- one message more is what waits after what waited
  pub one_more : (w : ℕ) (waits : List ℕ) → Put l H K → length (bodies l K) ≡ length (spelled l H) + 1 → w ≡ unsent g l H → taken l H ≤ length (text g l H)
      → waits ≡ drop (taken l K) (text g l K) → spelled l K ≡ spelled l H ++ drop w waits ∷ []
  one_more w waits (Nothing e) n u within d = absurd (let a = ap (λ bs. length bs) e in let c = spelled-length l H in omega (arith, a, c, n))
  one_more w waits (Messages [] e t k) n u within d = absurd (let a = ap (λ bs. length bs) (no_more [] e refl) in let c = spelled-length l H in omega (arith, a, c, n))
  one_more w waits (Messages (b ∷ c ∷ bs) e t k) n u within d = absurd (let a = ap (λ ms. length (bodies_in ms)) e in let f = bodies-said (line l H) (b ∷ c ∷ bs) in let s = spelled-length l H in omega (arith, a, f, s, n))
  one_more w waits (Messages (b ∷ []) e t k) n u within d =
      ap (λ ms. map octets (numbered_from 1 (bodies_in ms))) e ∙ ap (λ bs. map octets (numbered_from 1 bs)) (bodies-more (line l H) b) ∙ ap (map octets) (numbered-more 1 (bodies l H) b)
      ∙ map-more octets (numbered_from 1 (bodies l H)) (next_message (line l H) b) ∙ ap (λ o. spelled l H ++ o ∷ []) (sym last)
    where
      new : List ℕ
      new = octets (next_message (line l H) b)

      old : List ℕ
      old = drop (taken l H) (text g l H)

      grown : waits ≡ old ++ new
      grown = d ∙ ap (λ n. drop n (text g l K)) t ∙ ap (λ ms. drop (taken l H) (text_of g.id ms)) e ∙ ap (drop (taken l H)) (text_more g.id (line l H) b) ∙ drop-append-le (taken l H) (text g l H) new within

      last : drop w waits ≡ new
      last = ap (drop w) grown ∙ drop_at old new w (length-drop (taken l H) (text g l H) ∙ sym u)
