-- What is so of connections stays so with each move that may come.
use Rattle.std.proofs.Common.{◌≡◌, ◌⊎◌, ℕ, zero, suc, ◌+◌, Bool, true, false, cond, ◌&&◌, eqb, ltb, leb, List, [], ◌∷◌, ◌++◌, length, take, drop, Option, Some, None, is_some, is_none, refl, sym, ap, ◌∙◌, subst, inl, inr, arith, eqb-true, true≢false, append_assoc, append-nil}
use Rattle.std.specs.Prelude.{option_map}
use Rattle.std.specs.Option.{option_map_or}
use Rattle.std.specs.List.{list_all, AllByRecursion}
use Rattle.std.proofs.lemmas.Bool.{and_parts, ne_eqb}
use Rattle.std.proofs.lemmas.List.{take-append-drop}
use Rattle.zre_outside.specs.declared.entry.Input.{Input}
use Rattle.zre_outside.specs.declared.entry.Input.TheVariants as input
use Rattle.zre_journal.specs.Chronicle.{followed}
use Rattle.zre_journal.specs.Heard.{bytes, was_opened}
use Rattle.zre_journal.proofs.ChroniclesKeepJournals.{keeps}
use Rattle.zre_journal.proofs.HeardUnchanged.{is_of}
use Rattle.zre_net.specs.declared.moves.Move.{Move}
use Rattle.zre_net.specs.declared.moves.Move.TheVariants as move
use Rattle.zre_net.specs.declared.moves.Part.{Part}
use Rattle.zre_net.specs.Agreement.{carried, streamed}
use Rattle.zre_net.specs.Carried.{spelling, appended, pending}
use Rattle.zre_net.specs.Comes.{turn_of, with_move, at_broadcast}
use Rattle.zre_net.specs.Grammar.{agrees, can_carry, is_there, may_come, passes}
use Rattle.zre_net.specs.History.{Incarnation, NodeTurn, Happening, Happens, IsKnown, incarnations, running, journal, chronicle_of}
use Rattle.zre_net.specs.Lists.{nth}
use Rattle.zre_net.specs.Numbers.{Broadcast, Route, CarriedConn, routes, broadcasts, conns, conn_of}
use Rattle.zre_net.proofs.JournalsOfIncarnations.{chronicle_now, other_chronicle}
use Rattle.zre_net.proofs.ListsCountedFromOne.{some_one, nth_past, nth_more, nth_last, nth_cases, all_at}
use Rattle.zre_net.proofs.OpenedAfterEntry.{IsOld, bytes_same, new_old}
use Rattle.zre_net.proofs.NothingWaitsUnnumbered.{no_pending}
use Rattle.zre_net.proofs.CarriedOctets.{streamed_last, all_sayable, same_stream, not_of, IsCarried, Carries, carried_on, unopened_on, owners_on, silent_on, comes_on, nothing_comes, MayStart, starts_on}

-- ---- a connection is made to carry one part more

module _ (H : List Happening) (s : Carries H) (x : ℕ) (p : Part) (may : may_come (move.Carry x p) H ≡ true) where
  abbrev C : List Happening
  C = Happens (move.Carry x p) None ∷ H

  record IsFit : Type 0 where
    c : CarriedConn
    there : nth x (conns H) ≡ Some c
    fits : can_carry H p c ≡ true

  its : IsFit
  its = by (nth x (conns H)) refl may
    where
      by : (o : Option CarriedConn) → nth x (conns H) ≡ o → passes (can_carry H p) o ≡ true → IsFit
      by None e z = absurd (true≢false (sym z))
      by (Some c) e z = record { c = c; there = e; fits = z }

  other_part : (y : ℕ) → eqb y x ≡ false → carried y C ≡ carried y H
  other_part y e = ap (λ t. followed (carried y H) (cond t (Some p) None)) e

  one_part : (y : ℕ) → eqb y x ≡ true → carried y C ≡ carried y H ++ p ∷ []
  one_part y e = ap (λ t. followed (carried y H) (cond t (Some p) None)) e

  not_there : (y : ℕ) → nth y (conns H) ≡ None → eqb y x ≡ false
  not_there y e = by (eqb y x) refl
    where
      by : (t : Bool) → eqb y x ≡ t → t ≡ false
      by true z = absurd (let w : None ≡ Some its.c = sym e ∙ ap (λ j. nth j (conns H)) (eqb-true y x z) ∙ its.there in cc)
      by false z = refl

  all_last : (c : CarriedConn) (ps : List Part) → AllByRecursion (λ q. can_carry C q c ≡ true) ps → can_carry C p c ≡ true → AllByRecursion (λ q. can_carry C q c ≡ true) (ps ++ p ∷ [])
  all_last c [] a e = (e, tt)
  all_last c (q ∷ ps) a e = (a.0, all_last c ps a.1 e)

  more_carried : (y : ℕ) (d : CarriedConn) → nth y (conns H) ≡ Some d → IsCarried C y d
  more_carried y d e = by (eqb y x) refl
    where
      k : IsCarried H y d
      k = s.each y d e

      still : streamed d.along C (carried y H) ≡ streamed d.along H (carried y H)
      still = same_stream (Happens (move.Carry x p) None) H d (carried y H) k.sayable

      said : AllByRecursion (λ q. can_carry C q d ≡ true) (carried y H)
      said = all_sayable (Happens (move.Carry x p) None) H d (carried y H) k.sayable

      by : (t : Bool) → eqb y x ≡ t → IsCarried C y d
      by true z =
          let same : d ≡ its.c = some_one (sym e ∙ ap (λ j. nth j (conns H)) (eqb-true y x z) ∙ its.there) in
          let fits : can_carry H p d ≡ true = ap (can_carry H p) same ∙ its.fits in
          let now : can_carry C p d ≡ true = (all_sayable (Happens (move.Carry x p) None) H d (p ∷ []) (fits, tt)).0 in
          let adds : appended x p H ≡ spelling d.along H p = ap (λ o. option_map_or (λ (c : CarriedConn). spelling c.along H p) o []) its.there ∙ ap (λ (c : CarriedConn). spelling c.along H p) (sym same) in
          let spells : spelling d.along C p ≡ spelling d.along H p = sym (append-nil (spelling d.along C p)) ∙ same_stream (Happens (move.Carry x p) None) H d (p ∷ []) (fits, tt) ∙ append-nil (spelling d.along H p) in
          record {
            number = k.number;
            to_known = k.to_known;
            from_known = k.from_known;
            sayable = subst (AllByRecursion (λ q. can_carry C q d ≡ true)) (sym (one_part y z)) (all_last d (carried y H) said now);
            old = k.old;
            octets = λ o.
                ap (λ t. bytes y (chronicle_of d.to H) ++ cond t (pending y H ++ appended y p H) (pending y H)) z
                ∙ sym (append_assoc (bytes y (chronicle_of d.to H)) (pending y H) (appended y p H))
                ∙ ap (λ b. b ++ appended y p H) (k.octets o ∙ sym still) ∙ ap (λ j. streamed d.along C (carried y H) ++ appended j p H) (eqb-true y x z)
                ∙ ap (λ b. streamed d.along C (carried y H) ++ b) (adds ∙ sym spells)
                ∙ sym (streamed_last d.along C (carried y H) p) ∙ sym (ap (streamed d.along C) (one_part y z));
            elsewhere = k.elsewhere;
          }
      by false z = record {
        number = k.number;
        to_known = k.to_known;
        from_known = k.from_known;
        sayable = subst (AllByRecursion (λ q. can_carry C q d ≡ true)) (sym (other_part y z)) said;
        old = k.old;
        octets = λ o. ap (λ t. bytes y (chronicle_of d.to H) ++ cond t (pending y H ++ appended y p H) (pending y H)) z ∙ k.octets o ∙ sym still ∙ sym (ap (streamed d.along C) (other_part y z));
        elsewhere = k.elsewhere;
      }

  carries_on : Carries C
  carries_on = record {
    can = s.can;
    runs = s.runs;
    owners = s.owners;
    silent = s.silent;
    each = more_carried;
    none_yet = λ y e. other_part y (not_there y e) ∙ s.none_yet y e;
    unopened = s.unopened;
  }

-- ---- a connection opens

module _ (H : List Happening) (s : Carries H) (g n at : ℕ) (a : Incarnation) (r : Route) (runs_it : running n H ≡ Some a) (route : nth g (routes H) ≡ Some r) where
  abbrev x0 : ℕ
  x0 = length (conns H) + 1

  abbrev i0 : Input
  i0 = input.Opened x0

  abbrev O : List Happening
  O = Happens (move.Open g n at) (Some (turn_of a at i0)) ∷ H

  abbrev c0 : CarriedConn
  c0 = record { number = x0; along = r; to = a }

  opened : conns O ≡ conns H ++ c0 ∷ []
  opened = ap (λ o. followed (conns H) (conn_of x0 o (running n H))) route ∙ ap (λ o. followed (conns H) (conn_of x0 (Some r) o)) runs_it

  a_known : IsKnown H a
  a_known = s.runs n a runs_it

  r_known : IsKnown H r.from
  r_known = all_at (λ (q : Route). IsKnown H q.from) g (routes H) r s.owners route

  none_there : nth x0 (conns H) ≡ None
  none_there = nth_past x0 (conns H) (omega arith)

  not_before : (x : ℕ) (c : CarriedConn) → nth x (conns H) ≡ Some c → is_of x i0 ≡ false
  not_before x c e = ne_eqb x x0 (λ z. let w : None ≡ Some c = sym none_there ∙ ap (λ j. nth j (conns H)) (sym z) ∙ e in cc)

  to_it : (x : ℕ) (c : CarriedConn) → nth x (conns H) ≡ Some c → is_of x i0 ≡ true → c.to ≡ a
  to_it x c e z = absurd (true≢false (sym z ∙ not_before x c e))

  new_carried : IsCarried O x0 c0
  new_carried = record {
    number = refl;
    to_known = a_known;
    from_known = r_known;
    sayable = subst (AllByRecursion (λ p. can_carry O p c0 ≡ true)) (sym none_yet) tt;
    old = subst (IsOld x0) (sym (chronicle_now H (move.Open g n at) a at i0)) (new_old a.settings (journal a H) (turn_of a at i0).entry x0 refl);
    octets = λ o. ap (λ b. b ++ pending x0 H) (ap (bytes x0) (chronicle_now H (move.Open g n at) a at i0) ∙ bytes_same a.settings (journal a H) (turn_of a at i0).entry x0 refl ∙ no_bytes)
        ∙ no_pending x0 H (omega arith) ∙ sym (ap (streamed r O) none_yet);
    elsewhere = λ b l far. ap (was_opened x0) (other_chronicle H (move.Open g n at) a at i0 b far) ∙ s.unopened x0 none_there b l;
  }
    where
      none_yet : carried x0 O ≡ []
      none_yet = s.none_yet x0 none_there

      no_bytes : bytes x0 (chronicle_of a H) ≡ []
      no_bytes = (keeps a.settings (journal a H)).none_before_opening x0 (s.unopened x0 none_there a a_known)

  opens_on : Carries O
  opens_on = record {
    can = s.can;
    runs = s.runs;
    owners = owners_on H s (move.Open g n at) a at i0 a_known refl (λ x. refl) to_it (λ x c e. refl);
    silent = silent_on H s (move.Open g n at) a at i0 a_known refl (λ x. refl) to_it (λ x c e. refl);
    each = λ x c e. by x c (nth_cases x (conns H) c0 c (ap (nth x) (sym opened) ∙ e));
    none_yet = λ x e. s.none_yet x (fewer x e).0;
    unopened = λ x e. unopened_on H s (move.Open g n at) a at i0 a_known refl (λ y. refl) to_it (λ y c z. refl) x (fewer x e).0 (fewer x e).1;
  }
    where
      by : (x : ℕ) (c : CarriedConn) → (nth x (conns H) ≡ Some c) ⊎ ((x ≡ x0) × (c ≡ c0)) → IsCarried O x c
      by x c (inl z) = carried_on H s (move.Open g n at) a at i0 a_known refl (λ y. refl) to_it (λ y d e. refl) x c z
      by x c (inr z) = subst (λ y. IsCarried O y c) (sym z.0) (subst (IsCarried O x0) (sym z.1) new_carried)

      fewer : (x : ℕ) → nth x (conns O) ≡ None → (nth x (conns H) ≡ None) × (is_of x i0 ≡ false)
      fewer x e = (none (nth x (conns H)) refl, ne_eqb x x0 (λ z. let w : None ≡ Some c0 = sym e ∙ ap (λ j. nth j (conns O)) z ∙ ap (nth x0) opened ∙ nth_last (conns H) c0 in cc))
        where
          none : (o : Option CarriedConn) → nth x (conns H) ≡ o → o ≡ None
          none None z = refl
          none (Some c) z = absurd (let w : None ≡ Some c = sym e ∙ ap (nth x) opened ∙ nth_more x (conns H) (c0 ∷ []) c z in cc)

-- ---- octets come

module _ (H : List Happening) (s : Carries H) (y count at : ℕ) (d : CarriedConn) (there : nth y (conns H) ≡ Some d) where
  abbrev ip : Input
  ip = input.Piece y (take count (pending y H))

  pieces_on : Carries (Happens (move.Piece y count at) (Some (turn_of d.to at ip)) ∷ H)
  pieces_on = comes_on H s (move.Piece y count at) d.to at ip ((s.each y d there).to_known) refl (λ x. refl)
      (λ x c e z. ap (λ (k : CarriedConn). k.to) (some_one (sym e ∙ ap (λ j. nth j (conns H)) (eqb-true x y z) ∙ there)))
      (λ x c e. left x (eqb x y) refl) (λ n b r. r) refl
      (λ x e. ne_eqb x y (λ z. let w : None ≡ Some d = sym e ∙ ap (λ j. nth j (conns H)) z ∙ there in cc))
    where
      left : (x : ℕ) (t : Bool) → eqb x y ≡ t → cond t (take count (pending y H)) [] ++ cond t (drop count (pending x H)) (pending x H) ≡ pending x H
      left x true z = ap (λ j. take count (pending j H) ++ drop count (pending x H)) (sym (eqb-true x y z)) ∙ take-append-drop count (pending x H)
      left x false z = refl

-- ---- each move

-- a move that starts, ends and opens nothing, and carries nothing
record IsPlain (m : Move) : Type 0 where
  incarnations_stay : (t : Option NodeTurn) (H : List Happening) → incarnations (Happens m t ∷ H) ≡ incarnations H
  running_stays : (t : Option NodeTurn) (H : List Happening) (n : ℕ) (b : Incarnation) → running n (Happens m t ∷ H) ≡ Some b → running n H ≡ Some b
  conns_stay : (t : Option NodeTurn) (H : List Happening) → conns (Happens m t ∷ H) ≡ conns H
  carried_stays : (t : Option NodeTurn) (H : List Happening) (x : ℕ) → carried x (Happens m t ∷ H) ≡ carried x H
  pending_stays : (t : Option NodeTurn) (H : List Happening) (x : ℕ) → pending x (Happens m t ∷ H) ≡ pending x H

module _ (H : List Happening) (s : Carries H) (m : Move) (p : IsPlain m) where
  none_comes : Carries (Happens m None ∷ H)
  none_comes = nothing_comes H s m (p.incarnations_stay None H, p.conns_stay None H, p.carried_stays None H, p.pending_stays None H, p.running_stays None H)

  module _ (i : Input) (far : (x : ℕ) → is_of x i ≡ false) (at : ℕ) where
    one_comes : (a : Incarnation) → IsKnown H a → Carries (Happens m (Some (turn_of a at i)) ∷ H)
    one_comes a k =
        let t = Some (turn_of a at i) in
        comes_on H s m a at i k (p.incarnations_stay t H) (p.carried_stays t H) (λ x c e z. absurd (true≢false (sym z ∙ far x)))
        (λ x c e. ap (λ o. o ++ pending x (Happens m t ∷ H)) (not_of x i (far x)) ∙ p.pending_stays t H x) (p.running_stays t H) (p.conns_stay t H) (λ x e. far x)

    comes_at : (n : ℕ) (o : Option Incarnation) → running n H ≡ o → Carries (Happens m (option_map (λ a. turn_of a at i) o) ∷ H)
    comes_at n None e = none_comes
    comes_at n (Some a) e = one_comes a (s.runs n a e)

  comes_on_link : (i : ℕ → Input) → ((l x : ℕ) → is_of x (i l) ≡ false) → (g at : ℕ) (o : Option Route) → nth g (routes H) ≡ o → Carries (Happens m (option_map (λ (r : Route). turn_of r.from at (i r.link)) o) ∷ H)
  comes_on_link i far g at None e = none_comes
  comes_on_link i far g at (Some r) e = one_comes (i r.link) (far r.link) at r.from (all_at (λ (q : Route). IsKnown H q.from) g (routes H) r s.owners e)

pub step : (m : Move) (H : List Happening) → Carries H → may_come m H ≡ true → MayStart m → Carries (with_move m H)
step (move.Start n at id name host port) H s may f =
    let p = and_parts (is_none (running n H) && list_all (agrees n id) (incarnations H)) (ltb 0 port) may in
    starts_on H s n at id name host port f p.1
step (move.Crash n) H s may f = nothing_comes H s (move.Crash n) (refl, refl, λ x. refl, λ x. refl, λ k b r. by k b (eqb k n) r)
  where
    by : (k : ℕ) (b : Incarnation) (t : Bool) → cond t None (running k H) ≡ Some b → running k H ≡ Some b
    by k b true r = absurd (let w : None ≡ Some b = r in cc)
    by k b false r = r
step (move.Tick n at) H s may f = comes_at H s (move.Tick n at) (record { incarnations_stay = λ t K. refl; running_stays = λ t K k b r. r; conns_stay = λ t K. refl; carried_stays = λ t K x. refl; pending_stays = λ t K x. refl }) input.Tick (λ x. refl) at n (running n H) refl
step (move.Do n at c) H s may f = comes_at H s (move.Do n at c) (record { incarnations_stay = λ t K. refl; running_stays = λ t K k b r. r; conns_stay = λ t K. refl; carried_stays = λ t K x. refl; pending_stays = λ t K x. refl }) (input.Do c) (λ x. refl) at n (running n H) refl
step (move.Beacon k n at) H s may f = by (nth k (broadcasts H))
  where
    p : IsPlain (move.Beacon k n at)
    p = record { incarnations_stay = λ t K. refl; running_stays = λ t K k b r. r; conns_stay = λ t K. refl; carried_stays = λ t K x. refl; pending_stays = λ t K x. refl }

    by : (o : Option Broadcast) → Carries (Happens (move.Beacon k n at) (at_broadcast n at H o) ∷ H)
    by None = none_comes H s (move.Beacon k n at) p
    by (Some b) = comes_at H s (move.Beacon k n at) p (input.Datagram b.from.settings.host b.octets) (λ x. refl) at n (running n H) refl
step (move.Open g n at) H s may f = by (running n H) refl (nth g (routes H)) refl may
  where
    by : (o : Option Incarnation) → running n H ≡ o → (q : Option Route) → nth g (routes H) ≡ q → (is_some o && is_some q) ≡ true → Carries (Happens (move.Open g n at) (option_map (λ a. turn_of a at (input.Opened (length (conns H) + 1))) o) ∷ H)
    by None e q k z = absurd (true≢false (sym z))
    by (Some a) e None k z = absurd (true≢false (sym z))
    by (Some a) e (Some r) k z = opens_on H s g n at a r e k
step (move.Carry x p) H s may f = carries_on H s x p may
step (move.Piece x count at) H s may f = by (nth x (conns H)) refl may
  where
    by : (o : Option CarriedConn) → nth x (conns H) ≡ o → passes (λ (c : CarriedConn). is_there H c.to && leb count (length (pending x H))) o ≡ true → Carries (Happens (move.Piece x count at) (option_map (λ (c : CarriedConn). turn_of c.to at (input.Piece x (take count (pending x H)))) o) ∷ H)
    by None e z = absurd (true≢false (sym z))
    by (Some c) e z = pieces_on H s x count at c e
step (move.Shut x at) H s may f = by (nth x (conns H)) refl
  where
    p : IsPlain (move.Shut x at)
    p = record { incarnations_stay = λ t K. refl; running_stays = λ t K k b r. r; conns_stay = λ t K. refl; carried_stays = λ t K x. refl; pending_stays = λ t K x. refl }

    by : (o : Option CarriedConn) → nth x (conns H) ≡ o → Carries (Happens (move.Shut x at) (option_map (λ (c : CarriedConn). turn_of c.to at (input.Shut x)) o) ∷ H)
    by None e = none_comes H s (move.Shut x at) p
    by (Some c) e = one_comes H s (move.Shut x at) p (input.Shut x) (λ y. refl) at c.to ((s.each x c e).to_known)
step (move.Linked g at) H s may f = comes_on_link H s (move.Linked g at) (record { incarnations_stay = λ t K. refl; running_stays = λ t K k b r. r; conns_stay = λ t K. refl; carried_stays = λ t K x. refl; pending_stays = λ t K x. refl }) (λ l. input.Linked l) (λ l x. refl) g at (nth g (routes H)) refl
step (move.Unlinked g at) H s may f = comes_on_link H s (move.Unlinked g at) (record { incarnations_stay = λ t K. refl; running_stays = λ t K k b r. r; conns_stay = λ t K. refl; carried_stays = λ t K x. refl; pending_stays = λ t K x. refl }) (λ l. input.Unlinked l) (λ l x. refl) g at (nth g (routes H)) refl
step (move.Reply g at o) H s may f = comes_on_link H s (move.Reply g at o) (record { incarnations_stay = λ t K. refl; running_stays = λ t K k b r. r; conns_stay = λ t K. refl; carried_stays = λ t K x. refl; pending_stays = λ t K x. refl }) (λ l. input.Reply l o) (λ l x. refl) g at (nth g (routes H)) refl
step (move.Took g count at) H s may f = comes_on_link H s (move.Took g count at) (record { incarnations_stay = λ t K. refl; running_stays = λ t K k b r. r; conns_stay = λ t K. refl; carried_stays = λ t K x. refl; pending_stays = λ t K x. refl }) (λ l. input.Took l count) (λ l x. refl) g at (nth g (routes H)) refl

pub begins : Carries []
begins = record {
  can = λ a k. absurd (none a.number k);
  runs = λ n a r. absurd (let w : None ≡ Some a = r in cc);
  owners = tt;
  silent = λ a z. refl;
  each = λ x c e. absurd (none x e);
  none_yet = λ x e. refl;
  unopened = λ x e b k. absurd (none b.number k);
}
  where
    none : {A : Type 0} {a : A} (k : ℕ) → nth k [] ≡ Some a → ⊥
    none zero e = cc
    none (suc k) e = cc
