-- What worlds tell, step by step, and the deeds of acts.
use Rattle.std.proofs.Common.{◌≡◌, ℕ, zero, suc, ◌+◌, List, [], ◌∷◌, ◌++◌, take, Option, Some, None, refl, sym, ap, ◌∙◌, arith, subst, length, get_or, ◌<◌, add-one, append_assoc, append-nil}
use Rattle.std.proofs.Math.Seq.{take-suc}
use Rattle.std.specs.Prelude.{option_map, option_to_list}
use Rattle.zre_outside.specs.declared.act.Act.{Act}
use Rattle.zre_outside.specs.declared.deed.Deed.{Deed}
use Rattle.zre_outside.specs.declared.entry.Entry.{Entry}
use Rattle.zre_outside.specs.declared.entry.Command.{Command}
use Rattle.zre_outside.specs.declared.turn.Turn.TheVariants as turn
use Rattle.zre_outside.specs.Worlds.{Log, after_turn, with_deed}
use Rattle.zre_values.specs.declared.settings.Settings.{Settings as Config}
use Rattle.zre_journal.specs.Asked.{AreDue, IsDueAct}
use Rattle.zre_journal.specs.Chronicle.{Mark}
use Rattle.zre_journal.specs.Events.{chronicle, acts_after}
use Rattle.zre_actor.specs.Work.{went, IsDeed, AreDeeds, beside, acts_of}

alike : (l : Log) (g g' : List Entry) (n n' : ℕ) (h h' : List Command) (d d' : List Deed) → g ≡ g' → n ≡ n' → h ≡ h' → d ≡ d'
    → (let log : List Entry → ℕ → List Command → List Deed → Log = λ a b c e. record { begun = l.begun; given = a; looks = b; handed = c; done = e } in log g n h d ≡ log g' n' h' d')
alike l g g' n n' h h' d d' eg en eh ed = λ i. record { begun = l.begun; given = eg i; looks = en i; handed = eh i; done = ed i }

pub went-none : (told : Option Log) → told ≡ option_map (went [] 0 [] []) told
went-none None = refl
went-none (Some l) = ap Some (alike l l.given (l.given ++ []) l.looks (l.looks + 0) l.handed (l.handed ++ []) l.done (l.done ++ []) (sym (append-nil l.given)) (omega arith) (sym (append-nil l.handed)) (sym (append-nil l.done)))

pub went-went : (told : Option Log) (g g' : List Entry) (n n' : ℕ) (h h' : List Command) (d d' : List Deed)
    → option_map (went g' n' h' d') (option_map (went g n h d) told) ≡ option_map (went (g ++ g') (n + n') (h ++ h') (d ++ d')) told
went-went None g g' n n' h h' d d' = refl
went-went (Some l) g g' n n' h h' d d' = ap Some (alike l ((l.given ++ g) ++ g') (l.given ++ (g ++ g')) (l.looks + n + n') (l.looks + (n + n')) ((l.handed ++ h) ++ h') (l.handed ++ (h ++ h')) ((l.done ++ d) ++ d') (l.done ++ (d ++ d'))
    (append_assoc l.given g g') (omega arith) (append_assoc l.handed h h') (append_assoc l.done d d'))

pub one_deed : (told : Option Log) (d : Deed) → option_map (with_deed d) told ≡ option_map (went [] 0 [] (d ∷ [])) told
one_deed None d = refl
one_deed (Some l) d = ap Some (alike l l.given (l.given ++ []) l.looks (l.looks + 0) l.handed (l.handed ++ []) (l.done ++ d ∷ []) (l.done ++ d ∷ []) (sym (append-nil l.given)) (omega arith) (sym (append-nil l.handed)) refl)

pub one_look : (told : Option Log) (c : Option Command) → option_map (after_turn c turn.Look) told ≡ option_map (went [] 1 [] []) told
one_look None c = refl
one_look (Some l) c = ap Some (alike l l.given (l.given ++ []) (l.looks + 1) (l.looks + 1) l.handed (l.handed ++ []) l.done (l.done ++ []) (sym (append-nil l.given)) refl (sym (append-nil l.handed)) (sym (append-nil l.done)))

pub one_entry : (told : Option Log) (c : Option Command) (e : Entry) → option_map (after_turn c (turn.Entry e)) told ≡ option_map (went (e ∷ []) 0 (option_to_list c) []) told
one_entry None c e = refl
one_entry (Some l) c e = ap Some (alike l (l.given ++ e ∷ []) (l.given ++ e ∷ []) l.looks (l.looks + 0) (l.handed ++ option_to_list c) (l.handed ++ option_to_list c) l.done (l.done ++ []) refl (omega arith) refl (sym (append-nil l.done)))

-- ---- deeds of acts

pub AreDeeds-append : (g : Config) (xs ys : List (List Entry × Act)) (ds es : List Deed) → AreDeeds g xs ds → AreDeeds g ys es → AreDeeds g (xs ++ ys) (ds ++ es)
AreDeeds-append g [] ys [] es a b = b
AreDeeds-append g [] ys (d ∷ ds) es a b = absurd a
AreDeeds-append g (x ∷ xs) ys [] es a b = absurd a
AreDeeds-append g (x ∷ xs) ys (d ∷ ds) es a b = (a.0, AreDeeds-append g xs ys ds es a.1 b)

pub beside-append : (J : List Entry) (acts more : List Act) → beside J (acts ++ more) ≡ beside J acts ++ beside J more
beside-append J [] more = refl
beside-append J (a ∷ acts) more = let x : List Entry × Act = (J, a) in ap (λ l. x ∷ l) (beside-append J acts more)

-- one act more was done
pub did_more : (g : Config) (J : List Entry) (acts : List Act) (a : Act) (d : Deed) (ds : List Deed) (told told' told'' : Option Log) → AreDeeds g (beside J acts) ds → told' ≡ option_map (went [] 0 [] ds) told
    → IsDeed g J a d → told'' ≡ option_map (with_deed d) told'
    → (es : List Deed) × AreDeeds g (beside J (acts ++ a ∷ [])) es × (told'' ≡ option_map (went [] 0 [] es) told)
did_more g J acts a d ds told told' told'' old is one new =
    let both : AreDeeds g (beside J acts ++ (J, a) ∷ []) (ds ++ d ∷ []) = AreDeeds-append g (beside J acts) ((J, a) ∷ []) ds (d ∷ []) old (one, tt) in
    let along : beside J (acts ++ a ∷ []) ≡ beside J acts ++ (J, a) ∷ [] = beside-append J acts (a ∷ []) in (
      ds ++ d ∷ [],
      subst (λ xs. AreDeeds g xs (ds ++ d ∷ [])) (sym along) both,
      new ∙ ap (option_map (with_deed d)) is ∙ one_deed (option_map (went [] 0 [] ds) told) d ∙ went-went told [] [] 0 0 [] [] ds (d ∷ []),
    )

-- the act at this place
pub take_next : (acts : List Act) (i : ℕ) (a : Act) → i < length acts → a ≡ get_or acts i a → take (i + 1) acts ≡ take i acts ++ a ∷ []
take_next acts i a lt is = ap (λ n. take n acts) (add-one i) ∙ take-suc acts i a lt ∙ ap (λ x. take i acts ++ x ∷ []) (sym is)

-- and it may be done
pub due_at : (g : Config) (H : List Mark) (acts : List Act) (i : ℕ) (a : Act) → i < length acts → a ≡ get_or acts i a → AreDue g H acts → IsDueAct g H a
due_at g H [] i a lt is due = absurd (omega (arith, lt))
due_at g H (x ∷ acts) zero a lt is due = subst (IsDueAct g H) (sym is) due.0
due_at g H (x ∷ acts) (suc i) a lt is due = due_at g H acts i a (omega (arith, lt)) is due.1

-- ---- turns

same_went : (told : Option Log) (g g' : List Entry) (n n' : ℕ) (h h' : List Command) (d d' : List Deed) → g ≡ g' → n ≡ n' → h ≡ h' → d ≡ d' → option_map (went g n h d) told ≡ option_map (went g' n' h' d') told
same_went told g g' n n' h h' d d' eg en eh ed = λ i. option_map (went (eg i) (en i) (eh i) (ed i)) told

-- a look was answered
pub after_look : (s t t' : Option Log) (c : Option Command) (es : List Entry) (n : ℕ) (h : List Command) (ds : List Deed) → t ≡ option_map (went es n h ds) s → t' ≡ option_map (after_turn c turn.Look) t → t' ≡ option_map (went es (n + 1) h ds) s
after_look s t t' c es n h ds is new = new ∙ one_look t c ∙ ap (option_map (went [] 1 [] [])) is ∙ went-went s es [] n 1 h [] ds []
    ∙ same_went s (es ++ []) es (n + 1) (n + 1) (h ++ []) h (ds ++ []) ds (append-nil es) refl (append-nil h) (append-nil ds)

-- an entry was given, and these deeds done
pub after_entry : (s t u t' : Option Log) (c : Option Command) (e : Entry) (es : List Entry) (n : ℕ) (h : List Command) (ds more : List Deed)
    → t ≡ option_map (went es n h ds) s → u ≡ option_map (after_turn c (turn.Entry e)) t → t' ≡ option_map (went [] 0 [] more) u → t' ≡ option_map (went (es ++ e ∷ []) n (h ++ option_to_list c) (ds ++ more)) s
after_entry s t u t' c e es n h ds more is given done =
    done ∙ ap (option_map (went [] 0 [] more)) (given ∙ one_entry t c e ∙ ap (option_map (went (e ∷ []) 0 (option_to_list c) [])) is ∙ went-went s es (e ∷ []) n 0 h (option_to_list c) ds [])
    ∙ went-went s (es ++ e ∷ []) [] (n + 0) 0 (h ++ option_to_list c) [] (ds ++ []) more
    ∙ same_went s ((es ++ e ∷ []) ++ []) (es ++ e ∷ []) (n + 0 + 0) n ((h ++ option_to_list c) ++ []) (h ++ option_to_list c) ((ds ++ []) ++ more) (ds ++ more)
    (append-nil (es ++ e ∷ [])) (omega arith) (append-nil (h ++ option_to_list c)) (ap (λ x. x ++ more) (append-nil ds))

-- ---- the acts of entries

abbrev its_acts : Config → Entry → List Entry → List (List Entry × Act)
its_acts g e J = beside (J ++ e ∷ []) (acts_after g (e ∷ []) (chronicle g J))

pub acts_of-snoc : (g : Config) (J es : List Entry) (e : Entry) → acts_of g J (es ++ e ∷ []) ≡ acts_of g J es ++ beside ((J ++ es) ++ e ∷ []) (acts_after g (e ∷ []) (chronicle g (J ++ es)))
acts_of-snoc g J [] e = append-nil (its_acts g e J) ∙ ap (its_acts g e) (sym (append-nil J))
acts_of-snoc g J (x ∷ xs) e =
    ap (λ l. its_acts g x J ++ l) (acts_of-snoc g (J ++ x ∷ []) xs e ∙ ap (λ M. acts_of g (J ++ x ∷ []) xs ++ its_acts g e M) (append_assoc J (x ∷ []) xs))
    ∙ sym (append_assoc (its_acts g x J) (acts_of g (J ++ x ∷ []) xs) (its_acts g e (J ++ x ∷ xs)))
