-- A piece that is cut in two brings about the same.
use Rattle.std.proofs.Common.{◌≡◌, ℕ, Bool, true, false, true≢false, cond, not, ◌&&◌, eqb, List, [], ◌∷◌, ◌++◌, length, drop, map, filter, refl, sym, ap, ◌∙◌, subst, arith, eqb-true, eq-eqb, append_assoc, append-nil}
use Rattle.std.specs.Prelude.{max}
use Rattle.std.proofs.lemmas.List.{append_cancel_left}
use Rattle.std.proofs.lemmas.List.Elements.{filter-append}
use Rattle.std.specs.List.{AllByRecursion}
use Rattle.zre_mailbox.specs.Talk.{Said, talk, completed as completed_by}
use Rattle.zre_mailbox.proofs.TalkGrows.{completed-append}
use Rattle.zre_outside.specs.declared.act.Act.TheVariants as act
use Rattle.zre_outside.specs.declared.entry.Entry.{Entry}
use Rattle.zre_outside.specs.declared.entry.Input.TheVariants as input
use Rattle.zre_values.specs.declared.settings.Settings.{Settings as Config}
use Rattle.zre_journal.specs.Arrivals.{at_place, at_places}
use Rattle.zre_journal.specs.Chronicle.{Mark, Comes, after}
use Rattle.zre_journal.specs.Connections.{open_ones, is_open, is_ignored, is_live}
use Rattle.zre_journal.specs.Cutting.{is_entry, but_entries, is_offer, but_offers, piece, IsSameCut}
use Rattle.zre_journal.specs.Done.{done, offers, is_offered, acts_at}
use Rattle.zre_journal.specs.Events.{chronicle, events, acts, events_at, events_after, acts_after}
use Rattle.zre_journal.specs.Happens.{has_stopped, at_input, marks, with_entry}
use Rattle.zre_journal.specs.Heard.{clock, opens, was_opened, bytes, newly_completed}
use Rattle.zre_journal.specs.Peers.{Life, lives}
use Rattle.zre_journal.specs.Proper.{IsProper}
use Rattle.zre_journal.specs.Told.{told}
use Rattle.zre_journal.proofs.WithoutEntryMarks.{AreAlike, after_alike, all_places, all_told}
use Rattle.zre_journal.proofs.ProperChronicles.{is_proper, comes_proper}
use Rattle.zre_journal.proofs.MarkByMark.{on, are_others}
use Rattle.zre_journal.proofs.JoinedEntries.{continues, after-append, told-append, done-append, in_turn-append}
use Rattle.zre_journal.proofs.ProperAfterMarks.{Comes-proper}
use Rattle.zre_journal.proofs.NumberedLists.{any_has}
use Rattle.zre_journal.proofs.SoundMarks.{Sound, AreSound, AreOthers}
use Rattle.zre_journal.proofs.SaidOnConnections.{input_sound}
use Rattle.zre_journal.proofs.WhenMarksCome.{all_same}

-- ---- marks that are no entries

abbrev pub AreInner : List Mark → Type 0
AreInner hs = AllByRecursion (λ h. is_entry h ≡ false) hs

pub inner_of : (g : Config) (hs K : List Mark) → AreSound g hs K → AreInner hs
inner_of g [] K s = tt
inner_of g (h ∷ hs) K s = (one h s.0, inner_of g hs (h ∷ K) s.1)
  where
    one : (h : Mark) → Sound g h K → is_entry h ≡ false
    one (Comes e) z = absurd z
    one _ z = refl

pub inner_clock : (hs K : List Mark) → AreInner hs → clock (after hs K) ≡ clock K
inner_clock hs K n = all_same (λ h. is_entry h ≡ false) clock one hs K n
  where
    one : (h : Mark) (H : List Mark) → is_entry h ≡ false → clock (h ∷ H) ≡ clock H
    one (Comes e) H z = absurd (true≢false z)
    one _ H z = refl

pub inner_bytes : (d : ℕ) (hs K : List Mark) → AreInner hs → bytes d (after hs K) ≡ bytes d K
inner_bytes d hs K n = all_same (λ h. is_entry h ≡ false) (bytes d) one hs K n
  where
    one : (h : Mark) (H : List Mark) → is_entry h ≡ false → bytes d (h ∷ H) ≡ bytes d H
    one (Comes e) H z = absurd (true≢false z)
    one _ H z = refl

still_opened : (c : ℕ) (hs K : List Mark) → was_opened c K ≡ true → was_opened c (after hs K) ≡ true
still_opened c [] K o = o
still_opened c (h ∷ hs) K o = still_opened c hs (h ∷ K) (by (opens c h))
  where
    by : (b : Bool) → cond b true (was_opened c K) ≡ true
    by true = refl
    by false = o

still_on : (g : Config) (hs K : List Mark) → AreSound g hs K → has_stopped K ≡ false → has_stopped (after hs K) ≡ false
still_on g [] K s n = n
still_on g (h ∷ hs) K s n = still_on g hs (h ∷ K) s.1 (on g h K s.0 n)

no_places : (g : Config) (c : ℕ) (xs : List Said) (K : List Mark) → is_live c K ≡ false → at_places g c xs K ≡ []
no_places g c [] K e = refl
no_places g c (x ∷ xs) K e = rw e (no_places g c xs K e)

no_offers : (vs : List Life) → but_offers (map (λ (v : Life). act.Offer v.link) vs) ≡ []
no_offers [] = refl
no_offers (v ∷ vs) = no_offers vs

module _ (g : Config) where
  -- but for offers, acts are those of the marks
  acts_of : (e : Entry) (H : List Mark) → but_offers (acts_at g e H) ≡ but_offers (done g.id (marks g e H))
  acts_of e H = by (has_stopped H)
    where
      M : List Mark
      M = Comes e ∷ H

      by : (b : Bool) → let hs = cond b [] (at_input g e.input H M) in but_offers (cond b [] (done g.id hs ++ offers g e hs (with_entry g e H))) ≡ but_offers (done g.id hs)
      by true = refl
      by false =
          let hs = at_input g e.input H M in
          filter-append (λ a. not (is_offer a)) (done g.id hs) (offers g e hs (with_entry g e H))
          ∙ ap (λ xs. but_offers (done g.id hs) ++ xs) (no_offers (filter (is_offered g e hs (with_entry g e H)) (lives (with_entry g e H)))) ∙ append-nil (but_offers (done g.id hs))

  module _ (J : List Entry) (at c : ℕ) (a b : List ℕ) where
    abbrev H : List Mark
    H = chronicle g J

    abbrev one : Entry
    one = piece at c a

    abbrev two : Entry
    two = piece at c b

    abbrev whole : Entry
    whole = piece at c (a ++ b)

    -- from the marks of the pieces, whose marks together are those of the whole
    module _ (M N : List Mark) (ones : marks g one H ≡ M) (twos : marks g two (after M (Comes one ∷ H)) ≡ N) (wholes : marks g whole H ≡ M ++ N) (inner : AreInner M) (inner' : AreInner N)
        (opened : was_opened c (after M (Comes one ∷ H)) ≡ was_opened c H) where
      abbrev X : List Mark
      X = after M (Comes one ∷ H)

      abbrev Y : List Mark
      Y = after M (Comes whole ∷ H)

      middle : with_entry g one H ≡ X
      middle = ap (λ hs. after hs (Comes one ∷ H)) ones

      twos_there : marks g two (with_entry g one H) ≡ N
      twos_there = ap (marks g two) middle ∙ twos

      last : with_entry g two (with_entry g one H) ≡ after N (Comes two ∷ X)
      last = ap (λ hs. after hs (Comes two ∷ with_entry g one H)) twos_there ∙ ap (λ Z. after N (Comes two ∷ Z)) middle

      at_once : with_entry g whole H ≡ after N Y
      at_once = ap (λ hs. after hs (Comes whole ∷ H)) wholes ∙ after-append M N (Comes whole ∷ H)

      alike : AreAlike X Y
      alike = after_alike M (Comes one ∷ H) (Comes whole ∷ H) refl

      two_pieces : chronicle g (J ++ one ∷ two ∷ []) ≡ after N (Comes two ∷ X)
      two_pieces = (continues g J (one ∷ two ∷ [])).happened ∙ last

      one_piece : chronicle g (J ++ whole ∷ []) ≡ after N Y
      one_piece = (continues g J (whole ∷ [])).happened ∙ at_once

      same_events : events_after g (one ∷ two ∷ []) H ≡ events_after g (whole ∷ []) H
      same_events =
          ap (λ hs. told hs (Comes one ∷ H) ++ (events_at g two (with_entry g one H) ++ [])) ones
          ∙ ap (λ es. told M (Comes one ∷ H) ++ es) (append-nil (events_at g two (with_entry g one H)) ∙ ap (λ hs. told hs (Comes two ∷ with_entry g one H)) twos_there ∙ ap (λ Z. told N (Comes two ∷ Z)) middle ∙ all_told N (Comes two ∷ X) Y alike)
          ∙ ap (λ es. es ++ told N Y) (all_told M (Comes one ∷ H) (Comes whole ∷ H) refl)
          ∙ sym (append-nil (events_at g whole H) ∙ ap (λ hs. told hs (Comes whole ∷ H)) wholes ∙ told-append M N (Comes whole ∷ H))

      same_acts : but_offers (acts_after g (one ∷ two ∷ []) H) ≡ but_offers (acts_after g (whole ∷ []) H)
      same_acts =
          filter-append (λ x. not (is_offer x)) (acts_at g one H) (acts_at g two (with_entry g one H) ++ [])
          ∙ ap (λ xs. but_offers (acts_at g one H) ++ but_offers xs) (append-nil (acts_at g two (with_entry g one H)))
          ∙ ap (λ xs. xs ++ but_offers (acts_at g two (with_entry g one H))) (acts_of one H ∙ ap (λ hs. but_offers (done g.id hs)) ones)
          ∙ ap (λ xs. but_offers (done g.id M) ++ xs) (acts_of two (with_entry g one H) ∙ ap (λ hs. but_offers (done g.id hs)) twos_there)
          ∙ sym (ap but_offers (append-nil (acts_at g whole H)) ∙ acts_of whole H ∙ ap (λ hs. but_offers (done g.id hs)) wholes ∙ ap but_offers (done-append g.id M N) ∙ filter-append (λ x. not (is_offer x)) (done g.id M) (done g.id N))

      same_bytes : (d : ℕ) → bytes d (Comes two ∷ X) ≡ bytes d (Comes whole ∷ H)
      same_bytes d = ap (λ o. o ++ cond (was_opened d X) (cond (eqb d c) b []) []) (inner_bytes d M (Comes one ∷ H) inner) ∙ by (eqb d c) refl
        where
          none : (t : Bool) → cond {A = List ℕ} t [] [] ≡ []
          none true = refl
          none false = refl

          joined : (t : Bool) → (bytes d H ++ cond t a []) ++ cond t b [] ≡ bytes d H ++ cond t (a ++ b) []
          joined true = append_assoc (bytes d H) a b
          joined false = append-nil (bytes d H ++ [])

          by : (t : Bool) → eqb d c ≡ t → (bytes d H ++ cond (was_opened d H) (cond t a []) []) ++ cond (was_opened d X) (cond t b []) [] ≡ bytes d H ++ cond (was_opened d H) (cond t (a ++ b) []) []
          by true e = ap (λ t. (bytes d H ++ cond (was_opened d H) a []) ++ cond t b []) (ap (λ x. was_opened x X) (eqb-true d c e) ∙ opened ∙ ap (λ x. was_opened x H) (sym (eqb-true d c e))) ∙ joined (was_opened d H)
          by false e = ap (λ o. (bytes d H ++ cond (was_opened d H) [] []) ++ o) (none (was_opened d X)) ∙ append-nil (bytes d H ++ cond (was_opened d H) [] [])

      pub from_marks : IsSameCut g J at c a b
      from_marks = record {
        happened = ap but_entries two_pieces ∙ after_alike N (Comes two ∷ X) Y alike ∙ sym (ap but_entries one_piece);
        told = (continues g J (one ∷ two ∷ [])).told ∙ ap (λ es. events g J ++ es) same_events ∙ sym (continues g J (whole ∷ [])).told;
        done = ap but_offers (continues g J (one ∷ two ∷ [])).done ∙ filter-append (λ x. not (is_offer x)) (acts g J) (acts_after g (one ∷ two ∷ []) H) ∙ ap (λ xs. but_offers (acts g J) ++ xs) same_acts
            ∙ sym (ap but_offers (continues g J (whole ∷ [])).done ∙ filter-append (λ x. not (is_offer x)) (acts g J) (acts_after g (whole ∷ []) H));
        clock_is = ap clock two_pieces ∙ inner_clock N (Comes two ∷ X) inner' ∙ ap (λ n. max at n) (inner_clock M (Comes one ∷ H) inner) ∙ twice at (clock H)
            ∙ sym (ap clock one_piece ∙ inner_clock N Y inner' ∙ inner_clock M (Comes whole ∷ H) inner);
        octets_are = λ d. ap (bytes d) two_pieces ∙ inner_bytes d N (Comes two ∷ X) inner' ∙ same_bytes d ∙ sym (ap (bytes d) one_piece ∙ inner_bytes d N Y inner' ∙ inner_bytes d M (Comes whole ∷ H) inner);
      }
        where
          twice : (x n : ℕ) → max x (max x n) ≡ max x n
          twice x n = omega arith

    -- after a stop
    stopped : has_stopped H ≡ true → IsSameCut g J at c a b
    stopped s = from_marks [] [] (nothing one H s) (nothing two (Comes one ∷ H) s) (nothing whole H s) tt tt refl
      where
        nothing : (e : Entry) (K : List Mark) → has_stopped K ≡ true → marks g e K ≡ []
        nothing e K z = ap (λ t. cond t [] (at_input g e.input K (Comes e ∷ K))) z

    module _ (going : has_stopped H ≡ false) where
      -- the marks of an entry while the node goes on
      all_marks : (e : Entry) (K : List Mark) → has_stopped K ≡ false → marks g e K ≡ at_input g e.input K (Comes e ∷ K)
      all_marks e K z = ap (λ t. cond t [] (at_input g e.input K (Comes e ∷ K))) z

      -- on a connection that was never opened
      unheard : was_opened c H ≡ false → IsSameCut g J at c a b
      unheard n = from_marks [] [] (none a H going dead) (none b (Comes one ∷ H) going dead) (none (a ++ b) H going dead) tt tt refl
        where
          closed : (t : Bool) → is_open c H ≡ t → t ≡ false
          closed false e = refl
          closed true e = absurd (true≢false (sym (any_has (λ x. was_opened x H ≡ true) c (open_ones H) (is_proper g J).opening.were_opened e) ∙ n))

          dead : is_live c H ≡ false
          dead = ap (λ t. t && not (is_ignored c H)) (closed (is_open c H) refl)

          none : (octets : List ℕ) (K : List Mark) → has_stopped K ≡ false → is_live c K ≡ false → marks g (piece at c octets) K ≡ []
          none octets K z d = all_marks (piece at c octets) K z ∙ no_places g c (newly_completed g.id c K (Comes (piece at c octets) ∷ K)) (Comes (piece at c octets) ∷ K) d

      module _ (o : was_opened c H ≡ true) where
        -- the octets of an entry, and what they complete
        octets_now : (octets : List ℕ) (K : List Mark) → was_opened c K ≡ true → bytes c (Comes (piece at c octets) ∷ K) ≡ bytes c K ++ octets
        octets_now octets K z = ap (λ t. bytes c K ++ cond t (cond (eqb c c) octets []) []) z ∙ ap (λ t. bytes c K ++ cond t octets []) (eq-eqb c c refl)

        said_now : (octets : List ℕ) (K : List Mark) → was_opened c K ≡ true → newly_completed g.id c K (Comes (piece at c octets) ∷ K) ≡ completed_by g.id (bytes c K) octets
        said_now octets K z = ap (λ x. drop (length (talk g.id (bytes c K))) (talk g.id x)) (octets_now octets K z)

        abbrev xs : List Said
        xs = completed_by g.id (bytes c H) a

        abbrev ys : List Said
        ys = completed_by g.id (bytes c H ++ a) b

        abbrev P : List Mark
        P = Comes one ∷ H

        abbrev W : List Mark
        W = Comes whole ∷ H

        abbrev M : List Mark
        M = at_places g c xs P

        abbrev R : List Mark
        R = after M P

        abbrev N : List Mark
        N = at_places g c ys (Comes two ∷ R)

        sound : AreSound g M P
        sound = subst (λ zs. AreSound g (at_places g c zs P) P) (said_now a H o) (input_sound g (input.Piece c a) H P (comes_proper g J one) refl (are_others g J))

        inner : AreInner M
        inner = inner_of g M P sound

        ones : marks g one H ≡ M
        ones = all_marks one H going ∙ ap (λ zs. at_places g c zs P) (said_now a H o)

        opened : was_opened c R ≡ true
        opened = still_opened c M P o

        octets : bytes c R ≡ bytes c H ++ a
        octets = inner_bytes c M P inner ∙ octets_now a H o

        said : newly_completed g.id c R (Comes two ∷ R) ≡ ys
        said = said_now b R opened ∙ ap (λ x. completed_by g.id x b) octets

        twos : marks g two R ≡ N
        twos = all_marks two R (still_on g M P sound going) ∙ ap (λ zs. at_places g c zs (Comes two ∷ R)) said

        reached : chronicle g (J ++ one ∷ []) ≡ R
        reached = (continues g J (one ∷ [])).happened ∙ ap (λ hs. after hs P) ones

        inner' : AreInner N
        inner' = inner_of g N (Comes two ∷ R) (subst (λ zs. AreSound g (at_places g c zs (Comes two ∷ R)) (Comes two ∷ R)) said
            (input_sound g (input.Piece c b) R (Comes two ∷ R) (Comes-proper R (subst IsProper reached (is_proper g (J ++ one ∷ []))) two) refl (subst (AreOthers g) reached (are_others g (J ++ one ∷ [])))))

        wholes : marks g whole H ≡ M ++ N
        wholes = all_marks whole H going ∙ ap (λ zs. at_places g c zs W) (said_now (a ++ b) H o ∙ completed-append g.id (bytes c H) a b) ∙ in_turn-append (at_place g c) xs ys W
            ∙ ap (λ ms. ms ++ at_places g c ys (after ms W)) (all_places g c xs W P refl) ∙ ap (λ ns. M ++ ns) (all_places g c ys (after M W) (Comes two ∷ R) (after_alike M W P refl))

        heard : IsSameCut g J at c a b
        heard = from_marks M N ones twos wholes inner inner' (opened ∙ sym o)

    pub same_cut : IsSameCut g J at c a b
    same_cut = by (has_stopped H) refl (was_opened c H) refl
      where
        by : (s : Bool) → has_stopped H ≡ s → (t : Bool) → was_opened c H ≡ t → IsSameCut g J at c a b
        by true s t o = stopped s
        by false s true o = heard s o
        by false s false o = unheard s o

    -- what the two tell and ask for, one after the other, is what the whole does
    pub events_twice : events_at g one H ++ events_at g two (with_entry g one H) ≡ events_at g whole H
    events_twice =
        let p = append_cancel_left (events g J) (events_at g one H ++ (events_at g two (with_entry g one H) ++ [])) (events_at g whole H ++ []) (sym (continues g J (one ∷ two ∷ [])).told ∙ same_cut.told ∙ (continues g J (whole ∷ [])).told) in
        ap (λ es. events_at g one H ++ es) (sym (append-nil (events_at g two (with_entry g one H)))) ∙ p ∙ append-nil (events_at g whole H)

    pub acts_twice : but_offers (acts_at g one H ++ acts_at g two (with_entry g one H)) ≡ but_offers (acts_at g whole H)
    acts_twice =
        let l = ap but_offers (continues g J (one ∷ two ∷ [])).done ∙ filter-append (λ x. not (is_offer x)) (acts g J) (acts_at g one H ++ (acts_at g two (with_entry g one H) ++ [])) in
        let r = ap but_offers (continues g J (whole ∷ [])).done ∙ filter-append (λ x. not (is_offer x)) (acts g J) (acts_at g whole H ++ []) in
        let p = append_cancel_left (but_offers (acts g J)) (but_offers (acts_at g one H ++ (acts_at g two (with_entry g one H) ++ []))) (but_offers (acts_at g whole H ++ [])) (sym l ∙ same_cut.done ∙ r) in
        ap (λ xs. but_offers (acts_at g one H ++ xs)) (sym (append-nil (acts_at g two (with_entry g one H)))) ∙ p ∙ ap but_offers (append-nil (acts_at g whole H))
