-- What both captures say, by what came before it was seen that the second has begun and since.
use Rattle.std.proofs.Common.{◌≡◌, ℕ, Bool, true, false, cond, ◌||◌, List, [], ◌∷◌, ◌++◌, Option, Some, None, option_map, refl, sym, ap, ◌∙◌, subst, true≢false}
use Rattle.std.specs.Prelude.{is_some}
use Rattle.std.specs.Option.{option_or}
use Rattle.std.proofs.Math.Bool.{or-false}
use Rattle.zre_capture.specs.Journal.{journal, settings, bad, bad_at_end}
use Rattle.zre_capture.specs.declared.fault.BadCapture.{BadCapture}
use Rattle.zre_capture.specs.declared.format.Format.TheVariants.{Second}
use Rattle.zre_values.specs.declared.settings.Settings.{Settings}
use Rattle.zre_outside.specs.declared.entry.Entry.{Entry}
use Rattle.zre_records.specs.audit.Audit.{earlier, later, is_again, later_bad, later_bad_at_end, moved, place, judgement, verdict, audit}
use Rattle.zre_records.specs.audit.Cut.{mark, lines_of}
use Rattle.zre_records.specs.audit.Seam.{is_whole, after, before_seam, from_seam}
use Rattle.zre_records.proofs.audit.SecondCaptureBegins.{Cutting, IsCut, cutting}
use Rattle.zre_records.proofs.audit.SecondCaptureBegins.Cutting.{Cut, Alone}
use Rattle.zre_records.proofs.audit.UnfinishedLine.{settings_with_mark, journal_with_mark, bad_with_mark, bad_at_line_feed, mark_good, mark_at_end, nothing_at_end}
use Rattle.zre_records.proofs.audit.BeforeSecondCapture.{lines_more}
use Rattle.zre_records.proofs.replay.CaptureInPieces.{not_bad}

-- ---- the first capture

-- what came before says the same
pub record IsEarlier (p u : List ℕ) : Type 0 where
  pub settings_is : settings Second p ≡ settings Second u
  pub journal_is : journal Second p ≡ journal Second u
  pub bad_is : bad Second p ≡ bad Second u
  pub lines_is : lines_of p ≡ lines_of u

same : (p u : List ℕ) → p ≡ u → IsEarlier p u
same p u e = record {
  settings_is = ap (settings Second) e;
  journal_is = ap (journal Second) e;
  bad_is = ap (bad Second) e;
  lines_is = ap lines_of e;
}

lines_with_mark : (q : List ℕ) → lines_of (q ++ 10 ∷ []) ≡ lines_of (q ++ 10 ∷ mark)
lines_with_mark q = lines_more q (10 ∷ []) ∙ sym (lines_more q (10 ∷ mark))

with_mark : (q : List ℕ) → IsEarlier (q ++ 10 ∷ []) (q ++ 10 ∷ mark)
with_mark q = record {
  settings_is = settings_with_mark q;
  journal_is = journal_with_mark q;
  bad_is = bad_with_mark q;
  lines_is = lines_with_mark q;
}

of_cut : (o q t : List ℕ) → IsCut o q t → IsEarlier (earlier o) (before_seam o)
of_cut o q t k =
    subst (λ (u : List ℕ). IsEarlier (earlier o) u) (sym k.front)
    (subst (λ (p : List ℕ). IsEarlier p (q ++ 10 ∷ mark)) (sym (ap (λ (c : List ℕ × List ℕ). c.0) k.parts)) (with_mark q))

pub is_earlier : (o : List ℕ) → IsEarlier (earlier o) (before_seam o)
is_earlier o = by (cutting o)
  where
    by : Cutting o → IsEarlier (earlier o) (before_seam o)
    by (Cut q t k) = of_cut o q t k
    by (Alone k) = same (earlier o) (before_seam o) (ap (λ (c : List ℕ × List ℕ). c.0) k.parts ∙ sym k.front)

-- ---- the second

-- it has begun, with its mark at least
pub record IsLaterOf (o t : List ℕ) : Type 0 where
  pub later_is : later o ≡ mark ++ t
  pub end_is : bad_at_end Second (earlier o) ≡ bad Second (before_seam o)

-- or not
pub record IsNone (o : List ℕ) : Type 0 where
  pub later_is : later o ≡ []
  pub all : before_seam o ≡ o
  pub end_is : bad_at_end Second (earlier o) ≡ bad_at_end Second (before_seam o)

later_of_cut : (o q t : List ℕ) → IsCut o q t → IsLaterOf o t
later_of_cut o q t k = record {
  later_is = ap (λ (c : List ℕ × List ℕ). c.1) k.parts;
  end_is = ap (λ (c : List ℕ × List ℕ). bad_at_end Second c.0) k.parts ∙ bad_at_line_feed q ∙ ap (bad Second) (sym k.front);
}

pub is_begun : (o : List ℕ) (b : ℕ) (t : List ℕ) → from_seam o ≡ b ∷ t → IsLaterOf o (b ∷ t)
is_begun o b t e = by (cutting o)
  where
    by : Cutting o → IsLaterOf o (b ∷ t)
    by (Cut q r k) = subst (λ (x : List ℕ). IsLaterOf o x) (sym k.rest ∙ e) (later_of_cut o q r k)
    by (Alone k) = let z : [] ≡ b ∷ t = sym k.rest ∙ e in absurd cc

pub is_marked : (o : List ℕ) → from_seam o ≡ [] → is_whole (after None (before_seam o)) ≡ true → IsLaterOf o []
is_marked o e w = by (cutting o)
  where
    by : Cutting o → IsLaterOf o []
    by (Cut q r k) = subst (λ (x : List ℕ). IsLaterOf o x) (sym k.rest ∙ e) (later_of_cut o q r k)
    by (Alone k) = absurd (true≢false (sym w ∙ ap (λ (x : List ℕ). is_whole (after None x)) k.front ∙ k.unmarked))

pub is_none : (o : List ℕ) → from_seam o ≡ [] → is_whole (after None (before_seam o)) ≡ false → IsNone o
is_none o e w = by (cutting o)
  where
    by : Cutting o → IsNone o
    by (Cut q r k) = absurd (true≢false (sym k.whole ∙ w))
    by (Alone k) = record {
      later_is = ap (λ (c : List ℕ × List ℕ). c.1) k.parts;
      all = k.front;
      end_is = ap (λ (c : List ℕ × List ℕ). bad_at_end Second c.0) k.parts ∙ ap (bad_at_end Second) (sym k.front);
    }

-- ---- nothing of it but its mark is refused

not_again : (told : Option Settings) → is_again told [] ≡ false
not_again None = refl
not_again (Some s) = refl

mark_not_again : (told : Option Settings) → is_again told mark ≡ false
mark_not_again None = refl
mark_not_again (Some s) = refl

unless : {A : Type 0} (b : Bool) (x y : A) → b ≡ false → cond b x y ≡ y
unless b x y e = rw e refl

pub mark_not_bad : (told : Option Settings) → later_bad told mark ≡ None
mark_not_bad told = unless (is_again told mark) _ (bad Second mark) (mark_not_again told) ∙ mark_good

pub nothing_not_bad : (told : Option Settings) → later_bad told [] ≡ None
nothing_not_bad told = unless (is_again told []) _ (bad Second []) (not_again told) ∙ not_bad Second

mark_end : (told : Option Settings) → later_bad_at_end told mark ≡ Some (record { line = 1; column = 12 })
mark_end told = unless (is_again told mark) _ (bad_at_end Second mark) (mark_not_again told) ∙ mark_at_end

nothing_end : (told : Option Settings) → later_bad_at_end told [] ≡ Some (record { line = 1; column = 1 })
nothing_end told = unless (is_again told []) _ (bad_at_end Second []) (not_again told) ∙ nothing_at_end

-- ---- octets that are refused however they go on

pub either_whole : (o : List ℕ) → from_seam o ≡ [] → later_bad (settings Second (earlier o)) (later o) ≡ None
either_whole o e = by (is_whole (after None (before_seam o))) refl
  where
    by : (w : Bool) → is_whole (after None (before_seam o)) ≡ w → later_bad (settings Second (earlier o)) (later o) ≡ None
    by true w = ap (later_bad (settings Second (earlier o))) (is_marked o e w).later_is ∙ mark_not_bad (settings Second (earlier o))
    by false w = ap (later_bad (settings Second (earlier o))) (is_none o e w).later_is ∙ nothing_not_bad (settings Second (earlier o))

pub stopped_first : (o : List ℕ) → from_seam o ≡ [] → audit.is_stopped o ≡ is_some (bad Second (before_seam o))
stopped_first o e =
    ap (λ (b : Option BadCapture). is_some (bad Second (earlier o)) || is_some b) (either_whole o e) ∙ or-false (is_some (bad Second (earlier o))) ∙ ap is_some (is_earlier o).bad_is

pub stopped_both : (o : List ℕ) (b : ℕ) (t : List ℕ) → from_seam o ≡ b ∷ t
    → audit.is_stopped o ≡ (is_some (bad Second (before_seam o)) || is_some (later_bad (settings Second (before_seam o)) (mark ++ b ∷ t)))
stopped_both o b t e =
    ap (λ (x : Option BadCapture). is_some x || is_some (later_bad (settings Second (earlier o)) (later o))) (is_earlier o).bad_is
    ∙ ap (λ (s : Option Settings). is_some (bad Second (before_seam o)) || is_some (later_bad s (later o))) (is_earlier o).settings_is
    ∙ ap (λ (x : List ℕ). is_some (bad Second (before_seam o)) || is_some (later_bad (settings Second (before_seam o)) x)) (is_begun o b t e).later_is

-- ---- the place

-- by what of the first is bad, and by what of the second
place_by : (o : List ℕ) (first last : Option BadCapture) → bad_at_end Second (earlier o) ≡ first → later_bad_at_end (settings Second (earlier o)) (later o) ≡ last
    → place o ≡ option_or first (option_map (moved (lines_of (before_seam o))) last)
place_by o first last e l =
    ap (λ (x : Option BadCapture). option_or x (option_map (moved (lines_of (earlier o))) (later_bad_at_end (settings Second (earlier o)) (later o)))) e
    ∙ ap (λ (n : ℕ). option_or first (option_map (moved n) (later_bad_at_end (settings Second (earlier o)) (later o)))) (is_earlier o).lines_is
    ∙ ap (λ (x : Option BadCapture). option_or first (option_map (moved (lines_of (before_seam o))) x)) l

pub place_both : (o : List ℕ) (b : ℕ) (t : List ℕ) → from_seam o ≡ b ∷ t
    → place o ≡ option_or (bad Second (before_seam o)) (option_map (moved (lines_of (before_seam o))) (later_bad_at_end (settings Second (before_seam o)) (mark ++ b ∷ t)))
place_both o b t e =
    let k = is_begun o b t e in
    place_by o _ _ k.end_is
    (ap (λ (s : Option Settings). later_bad_at_end s (later o)) (is_earlier o).settings_is ∙ ap (later_bad_at_end (settings Second (before_seam o))) k.later_is)

pub place_marked : (o : List ℕ) → from_seam o ≡ [] → is_whole (after None (before_seam o)) ≡ true
    → place o ≡ option_or (bad Second (before_seam o)) (option_map (moved (lines_of (before_seam o))) (Some (record { line = 1; column = 12 })))
place_marked o e w =
    let k = is_marked o e w in
    place_by o _ _ k.end_is (ap (later_bad_at_end (settings Second (earlier o))) k.later_is ∙ mark_end (settings Second (earlier o)))

pub place_none : (o : List ℕ) → from_seam o ≡ [] → is_whole (after None (before_seam o)) ≡ false
    → place o ≡ option_or (bad_at_end Second (before_seam o)) (option_map (moved (lines_of (before_seam o))) (Some (record { line = 1; column = 1 })))
place_none o e w =
    let k = is_none o e w in
    place_by o _ _ k.end_is (ap (later_bad_at_end (settings Second (earlier o))) k.later_is ∙ nothing_end (settings Second (earlier o)))

-- ---- the verdict

no_judgement : (s : Option Settings) (J K : List Entry) → judgement s None J K ≡ []
no_judgement None J K = refl
no_judgement (Some s) J K = refl

pub no_verdict : (o : List ℕ) → from_seam o ≡ [] → verdict o ≡ []
no_verdict o e = by (is_whole (after None (before_seam o))) refl
  where
    silent : (t : List ℕ) → later o ≡ t → settings Second t ≡ None → verdict o ≡ []
    silent t l n =
        ap (λ (x : List ℕ). judgement (settings Second (earlier o)) (settings Second x) (journal Second (earlier o)) (journal Second (later o))) l
        ∙ ap (λ (s : Option Settings). judgement (settings Second (earlier o)) s (journal Second (earlier o)) (journal Second (later o))) n
        ∙ no_judgement (settings Second (earlier o)) (journal Second (earlier o)) (journal Second (later o))

    by : (w : Bool) → is_whole (after None (before_seam o)) ≡ w → verdict o ≡ []
    by true w = silent mark (is_marked o e w).later_is refl
    by false w = silent [] (is_none o e w).later_is refl

pub verdict_both : (o : List ℕ) (b : ℕ) (t : List ℕ) → from_seam o ≡ b ∷ t
    → verdict o ≡ judgement (settings Second (before_seam o)) (settings Second (mark ++ b ∷ t)) (journal Second (before_seam o)) (journal Second (mark ++ b ∷ t))
verdict_both o b t e =
    ap (λ (s : Option Settings). judgement s (settings Second (later o)) (journal Second (earlier o)) (journal Second (later o))) (is_earlier o).settings_is
    ∙ ap (λ (J : List Entry). judgement (settings Second (before_seam o)) (settings Second (later o)) J (journal Second (later o))) (is_earlier o).journal_is
    ∙ ap (λ (x : List ℕ). judgement (settings Second (before_seam o)) (settings Second x) (journal Second (before_seam o)) (journal Second x)) (is_begun o b t e).later_is
