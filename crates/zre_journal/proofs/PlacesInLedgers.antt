-- A message that comes on a connection, its place in a ledger, and what comes of it.
use Rattle.std.proofs.Common.{◌≡◌, ℕ, ◌<◌, true, false, cond, not, List, [], ◌∷◌, ◌++◌, length, Some, refl, sym, ap, ◌∙◌, subst, append_assoc, append-nil}
use Rattle.std.specs.Prelude.{slice_get}
use Rattle.std.proofs.lemmas.Bool.{and_from}
use Rattle.std.proofs.lemmas.List.Elements.{filter_map-append}
use Rattle.std.specs.List.{AllByRecursion}
use Rattle.zre_outside.specs.declared.entry.Entry.{Entry}
use Rattle.zre_mailbox.specs.declared.arrival.Arrival.TheVariants as arrival
use Rattle.zre_mailbox.specs.Talk.{Said, Arrived, completed as completed_by, talk}
use Rattle.zre_mailbox.proofs.TalkGrows.{goes}
use Rattle.zre_msg.specs.declared.message.Message.{Message}
use Rattle.zre_peer.specs.Ledger.{IsPicked, ArePicked}
use Rattle.zre_values.specs.declared.settings.Settings.{Settings as Config}
use Rattle.zre_journal.specs.Arrivals.{at_said, at_place, at_places, at_message}
use Rattle.zre_journal.specs.Chronicle.{Mark, Comes, after}
use Rattle.zre_journal.specs.Connections.{is_open, is_ignored, is_live, runs}
use Rattle.zre_journal.specs.Events.{chronicle}
use Rattle.zre_journal.specs.Happens.{at_input, marks, with_entry, chronicle_after}
use Rattle.zre_journal.specs.Heard.{bytes, was_opened, piece_of, newly_completed}
use Rattle.zre_journal.specs.Hearing.{message_in, heard, heard_on}
use Rattle.zre_journal.specs.Ledger.{Ledger, IsDrawn, IsPlaced}
use Rattle.zre_journal.specs.Peers.{runner, counted}
use Rattle.zre_journal.specs.Places.{Arrives}
use Rattle.zre_journal.specs.Proper.{IsProper}
use Rattle.zre_journal.proofs.ProperChronicles.{is_proper, after_marks, comes_proper}
use Rattle.zre_journal.proofs.MarksOfEntries.{all_brought}
use Rattle.zre_journal.proofs.EachMarkOfEntries.{Ground, allowed}
use Rattle.zre_journal.proofs.WithinCounts.{AreNamed, named, named_more}
use Rattle.zre_journal.proofs.CountedIsSaid.{spoken, Follows, places_follow}
use Rattle.zre_journal.proofs.JoinedEntries.{continues, after-append, in_turn-append}
use Rattle.zre_journal.proofs.LawsOfChronicles.{IsTold, told_more, told_of}
use Rattle.zre_journal.proofs.MessagesOfLedgers.{is_judged}
use Rattle.zre_journal.proofs.RunsOnOctets.{come, follows_octets}
use Rattle.zre_journal.proofs.SaidOnConnections.{places_outcome}
use Rattle.zre_journal.proofs.SaidWithinLimit.{MaySay, newly_fine}
use Rattle.zre_journal.proofs.ProperPeers.{has_started, run_is}
use Rattle.zre_journal.proofs.WhenMarksCome.{Allowed, step}

-- ---- lists that only grow

-- marks are put before those that were there
marks_more : (hs H : List Mark) → (newer : List Mark) × (after hs H ≡ newer ++ H)
marks_more [] H = ([], refl)
marks_more (h ∷ hs) H = let r = marks_more hs (h ∷ H) in (r.0 ++ h ∷ [], r.1 ∙ sym (append_assoc r.0 (h ∷ []) H))

entries_more : (g : Config) (es : List Entry) (H : List Mark) → (newer : List Mark) × (chronicle_after g es H ≡ newer ++ H)
entries_more g [] H = ([], refl)
entries_more g (e ∷ es) H =
    let r = entries_more g es (with_entry g e H) in
    let m = marks_more (marks g e H) (Comes e ∷ H) in
    (r.0 ++ (m.0 ++ Comes e ∷ []), r.1 ∙ ap (λ X. r.0 ++ X) (m.1 ∙ sym (append_assoc m.0 (Comes e ∷ []) H)) ∙ sym (append_assoc r.0 (m.0 ++ Comes e ∷ []) H))

-- octets are joined to those that came
bytes_more : (c : ℕ) (newer H : List Mark) → (o : List ℕ) × (bytes c (newer ++ H) ≡ bytes c H ++ o)
bytes_more c [] H = ([], sym (append-nil (bytes c H)))
bytes_more c (Comes e ∷ hs) H =
    let r = bytes_more c hs H in
    let p = cond (was_opened c (hs ++ H)) (piece_of c e.input) [] in
    (r.0 ++ p, ap (λ b. b ++ p) r.1 ∙ append_assoc (bytes c H) r.0 p)
bytes_more c (_ ∷ hs) H = bytes_more c hs H

-- the place of one of many
picked_at : (sent : List Message) (picks : List ℕ) (xs ys : List Message) (m : Message) → ArePicked sent picks (xs ++ m ∷ ys) → (pick : ℕ) × (slice_get picks (length xs) ≡ Some pick) × IsPicked sent pick m
picked_at sent [] [] ys m p = absurd p
picked_at sent [] (x ∷ xs) ys m p = absurd p
picked_at sent (pick ∷ picks) [] ys m p = (pick, refl, p.0)
picked_at sent (pick ∷ picks) (x ∷ xs) ys m p = picked_at sent picks xs ys m p.1

All-front : {A : Type 0} (P : A → Type 0) (xs ys : List A) → AllByRecursion P (xs ++ ys) → AllByRecursion P xs
All-front P [] ys a = tt
All-front P (x ∷ xs) ys a = (a.0, All-front P xs ys a.1)

pub All-next : {A : Type 0} (P : A → Type 0) (xs : List A) (y : A) (ys : List A) → AllByRecursion P (xs ++ y ∷ ys) → P y
All-next P [] y ys a = a.0
All-next P (x ∷ xs) y ys a = All-next P xs y ys a.1

-- ---- at its place

-- what is so of the moment at which something is said
pub record IsMoment (g : Config) (one : Said) (K : List Mark) : Type 0 where
  pub may : MaySay g.id one
  pub proper : IsProper K
  pub told : IsTold K
  pub named : AreNamed K

module _ (g : Config) (J : List Entry) (c : ℕ) (one : Said) (K : List Mark) (a : Arrives g J c one K) where
  abbrev H : List Mark
  H = chronicle g a.earlier

  abbrev M : List Mark
  M = Comes a.entry ∷ H

  q : IsProper M
  q = comes_proper g a.earlier a.entry

  -- all that its octets have said by then
  abbrev before : List Said
  before = talk g.id (bytes c H)

  all : talk g.id (bytes c M) ≡ before ++ newly_completed g.id c H M
  all = (goes g.id (bytes c H) (cond (was_opened c H) (piece_of c a.entry.input) [])).said

  whole : talk g.id (bytes c M) ≡ (before ++ a.said) ++ one ∷ a.more
  whole = all ∙ ap (λ xs. before ++ xs) a.completes ∙ sym (append_assoc before a.said (one ∷ a.more))

  all_fine : AllByRecursion (MaySay g.id) (a.said ++ one ∷ a.more)
  all_fine = subst (AllByRecursion (MaySay g.id)) a.completes (newly_fine g.id c H M)

  fine : AllByRecursion (MaySay g.id) a.said
  fine = All-front (MaySay g.id) a.said (one ∷ a.more) all_fine

  abbrev hs : List Mark
  hs = at_places g c a.said M

  may : Allowed hs M
  may = let w : Ground = record { of = λ d. true; stops = false } in allowed g w true hs M (all_brought (places_outcome g w c refl a.said fine M q))

  both : IsProper (after hs M) × IsTold (after hs M)
  both = after_marks g IsTold told_more hs M may q (told_more (Comes a.entry) H (is_proper g a.earlier) tt (told_of g a.earlier))

  proper : IsProper K
  proper = subst IsProper (sym a.moment) both.0

  told : IsTold K
  told = subst IsTold (sym a.moment) both.1

  names : AreNamed K
  names = subst AreNamed (sym a.moment) (after_marks g AreNamed (λ h H p m o. named_more h H p m (step h H p m) o) hs M may q (λ l v e. named g a.earlier l v e)).1

  follows : Follows c (before ++ a.said) K
  follows = subst (Follows c (before ++ a.said)) (sym a.moment)
      (places_follow g c a.said before M fine
      (λ n ys zs z. spoken g.id (bytes c M) ys (zs ++ one ∷ a.more) n
      (whole ∙ ap (λ xs. xs ++ one ∷ a.more) z ∙ append_assoc ys (Arrived (arrival.Message n) ∷ zs) (one ∷ a.more)))
      q (come g c before a.entry H (follows_octets g a.earlier c)))

  -- what the journal makes of the rest
  joined : chronicle g J ≡ chronicle_after g a.later (with_entry g a.entry H)
  joined = ap (chronicle g) a.is_entry.in_journal ∙ (continues g a.earlier (a.entry ∷ a.later)).happened

  pub its_moment : IsMoment g one K
  its_moment = record { may = All-next (MaySay g.id) a.said one a.more all_fine; proper = proper; told = told; named = names }

  -- ---- a message on a connection that runs a peer

  module _ (m : Message) (is : one ≡ Arrived (arrival.Message m)) (l : ℕ) (run : runs c K ≡ Some l) where
    is_run : runner l K ≡ Some c
    is_run = run_is K proper c l run

    live : is_live c K ≡ true
    live = and_from (is_open c K) (not (is_ignored c K)) (proper.running.is_heard c l is_run (has_started K proper c l run).1) (rw run refl)

    counts : counted l K ≡ heard (before ++ a.said)
    counts = told.same c l is_run ∙ sym (follows.whole live)

    some : 0 < length (counted l K)
    some = subst (λ ms. 0 < length ms) (sym (told.same c l is_run)) (told.begun c l (has_started K proper c l run).0)

    -- the entry's other marks come after its own
    abbrev its_marks : List Mark
    its_marks = at_message g c (runs c K) m K

    abbrev rest : List Mark
    rest = at_places g c a.more (after its_marks K)

    here : at_place g c one K ≡ its_marks
    here = ap (λ s. at_place g c s K) is ∙ ap (λ b. cond b (at_said g c (Arrived (arrival.Message m)) K) []) live

    entry_is : with_entry g a.entry H ≡ after rest (after its_marks K)
    entry_is =
        ap (λ b. after (cond b [] (at_input g a.entry.input H M)) M) a.is_entry.going
        ∙ ap (λ i. after (at_input g i H M) M) a.is_piece
        ∙ ap (λ xs. after (at_places g c xs M) M) a.completes
        ∙ ap (λ ks. after ks M) (in_turn-append (at_place g c) a.said (one ∷ a.more) M)
        ∙ after-append hs (at_places g c (one ∷ a.more) (after hs M)) M
        ∙ ap (λ X. after (at_places g c (one ∷ a.more) X) X) (sym a.moment)
        ∙ after-append (at_place g c one K) (at_places g c a.more (after (at_place g c one K) K)) K
        ∙ ap (λ ks. after (at_places g c a.more (after ks K)) (after ks K)) here

    goes_on : (newer : List Mark) × (chronicle g J ≡ newer ++ after its_marks K)
    goes_on =
        let e = entries_more g a.later (with_entry g a.entry H) in
        let k = marks_more rest (after its_marks K) in
        (e.0 ++ k.0, joined ∙ e.1 ∙ ap (λ X. e.0 ++ X) (entry_is ∙ k.1) ∙ sym (append_assoc e.0 k.0 (after its_marks K)))

    -- what its octets say in the whole journal
    heard_all : (ys : List Message) × (heard_on g c (chronicle g J) ≡ counted l K ++ m ∷ ys)
    heard_all =
        let e = entries_more g a.later (with_entry g a.entry H) in
        let k = marks_more (marks g a.entry H) M in
        let b = bytes_more c (e.0 ++ k.0) M in
        let octets : bytes c (chronicle g J) ≡ bytes c M ++ b.0 = ap (bytes c) (joined ∙ e.1 ∙ ap (λ X. e.0 ++ X) k.1 ∙ sym (append_assoc e.0 k.0 M)) ∙ b.1 in
        let said = completed_by g.id (bytes c M) b.0 in (
          heard a.more ++ heard said,
          ap (λ o. heard (talk g.id o)) octets ∙ ap heard ((goes g.id (bytes c M) b.0).said) ∙ filter_map-append message_in (talk g.id (bytes c M)) said
              ∙ ap (λ xs. heard xs ++ heard said) whole
              ∙ ap (λ xs. xs ++ heard said) (filter_map-append message_in (before ++ a.said) (one ∷ a.more))
              ∙ ap (λ s. (heard (before ++ a.said) ++ heard (s ∷ a.more)) ++ heard said) is
              ∙ append_assoc (heard (before ++ a.said)) (m ∷ heard a.more) (heard said)
              ∙ ap (λ xs. xs ++ m ∷ (heard a.more ++ heard said)) (sym counts),
        )

    pub is_placed : (b : Ledger) → IsDrawn g b (chronicle g J) → IsPlaced g b J c l m K
    is_placed b drawn =
        let p = picked_at (b.sent c) (b.picks c) (counted l K) heard_all.0 m (subst (ArePicked (b.sent c) (b.picks c)) heard_all.1 (drawn.are_picked c)) in
        record {
          pick = p.0;
          at_its_turn = p.1;
          is_message = p.2;
          is_judged = λ near. is_judged g (b.sent c) c l p.0 m K (drawn.are_numbered c) p.2 run some near;
          newer = goes_on.0;
          goes_on = goes_on.1;
        }
