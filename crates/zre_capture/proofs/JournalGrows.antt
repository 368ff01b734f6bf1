-- The journal of more octets begins with that of fewer.
use Rattle.std.proofs.Common.{◌≡◌, ℕ, ◌<◌, ◌==◌, Bool, true, false, cond, List, [], ◌∷◌, ◌++◌, length, Option, Some, None, refl, sym, ap, ◌∙◌, arith, append_assoc}
use Rattle.std.specs.List.{onto_first}
use Rattle.zre_outside.specs.declared.entry.Entry.{Entry}
use Rattle.zre_capture.specs.Journal.{line_of, lines_in, next, entries_from, settings_in, start, settings, journal}
use Rattle.zre_capture.specs.declared.format.Format.{Format}
use Rattle.zre_capture.specs.declared.line_start.LineStart.{LineStart}
use Rattle.zre_values.specs.declared.settings.Settings.{Settings}
use Rattle.zre_capture.proofs.LineByLine.{entries-good, entries-bad}

-- parts after parts: the first of these goes on with the last of those
abbrev joined : List (List ℕ) → List (List ℕ) → List (List ℕ)
joined [] ms = ms
joined (t ∷ []) [] = t ∷ []
joined (t ∷ []) (m ∷ ms) = (t ++ m) ∷ ms
joined (t ∷ u ∷ ls) ms = t ∷ joined (u ∷ ls) ms

data Parts (ls : List (List ℕ)) : Type 0 where
  IsParts : (t : List ℕ) (ts : List (List ℕ)) → ls ≡ t ∷ ts → Parts ls

some_parts : (o : List ℕ) → Parts (lines_in o)
some_parts [] = IsParts [] [] refl
some_parts (b ∷ o) = by (b == 10) (lines_in o)
  where
    by : (d : Bool) (ls : List (List ℕ)) → Parts (cond d ([] ∷ ls) (onto_first b ls))
    by true ls = IsParts [] ls refl
    by false [] = IsParts (b ∷ []) [] refl
    by false (t ∷ ts) = IsParts (b ∷ t) ts refl

-- one octet before
onto_joined : (b : ℕ) (ls ms : List (List ℕ)) → Parts ls → Parts ms → onto_first b (joined ls ms) ≡ joined (onto_first b ls) ms
onto_joined b ls ms (IsParts t [] e) (IsParts m more f) = rw (e, f) refl
onto_joined b ls ms (IsParts t (u ∷ us) e) p = rw e refl

after_line : (ls ms : List (List ℕ)) → Parts ls → [] ∷ joined ls ms ≡ joined ([] ∷ ls) ms
after_line ls ms (IsParts t ts e) = rw e refl

lines_joined : (o x : List ℕ) → lines_in (o ++ x) ≡ joined (lines_in o) (lines_in x)
lines_joined [] x = by (some_parts x)
  where
    by : Parts (lines_in x) → lines_in x ≡ joined ([] ∷ []) (lines_in x)
    by (IsParts t ts e) = rw e refl
lines_joined (b ∷ o) x = by (lines_joined o x) (b == 10)
  where
    by : lines_in (o ++ x) ≡ joined (lines_in o) (lines_in x) → (d : Bool) → cond d ([] ∷ lines_in (o ++ x)) (onto_first b (lines_in (o ++ x))) ≡ joined (cond d ([] ∷ lines_in o) (onto_first b (lines_in o))) (lines_in x)
    by r true = ap (λ ls. [] ∷ ls) r ∙ after_line (lines_in o) (lines_in x) (some_parts o)
    by r false = ap (onto_first b) r ∙ onto_joined b (lines_in o) (lines_in x) (some_parts o) (some_parts x)

some_joined : (u : List ℕ) (ls ms : List (List ℕ)) → 0 < length (joined (u ∷ ls) ms)
some_joined u [] [] = omega arith
some_joined u [] (m ∷ ms) = omega arith
some_joined u (v ∷ ls) ms = omega arith

-- the entries of parts after parts begin with those of the first
grows_by : (p : LineStart) (ls ms : List (List ℕ)) → (more : List Entry) × (entries_from p (joined ls ms) ≡ entries_from p ls ++ more)
unfolding entries_from
grows_by p [] ms = (entries_from p ms, refl)
grows_by p (t ∷ []) ms = (entries_from p (joined (t ∷ []) ms), refl)
grows_by p (t ∷ u ∷ ls) ms = by (λ es. grows_by (next p es) (u ∷ ls) ms) (line_of p t) refl
  where
    by : ((es : List Entry) → (more : List Entry) × (entries_from (next p es) (joined (u ∷ ls) ms) ≡ entries_from (next p es) (u ∷ ls) ++ more)) → (o : Option (List Entry)) → line_of p t ≡ o
        → (more : List Entry) × (entries_from p (t ∷ joined (u ∷ ls) ms) ≡ entries_from p (t ∷ u ∷ ls) ++ more)
    by r None e = ([], entries-bad p t (joined (u ∷ ls) ms) (some_joined u ls ms) e ∙ sym (ap (λ es. es ++ []) (entries-bad p t (u ∷ ls) (omega arith) e)))
    by r (Some es) e = (
      (r es).0,
      entries-good p t es (joined (u ∷ ls) ms) (some_joined u ls ms) e ∙ ap (λ fs. es ++ fs) (r es).1 ∙ sym (append_assoc es (entries_from (next p es) (u ∷ ls)) (r es).0)
          ∙ sym (ap (λ fs. fs ++ (r es).0) (entries-good p t es (u ∷ ls) (omega arith) e)),
    )

pub journal_grows : (f : Format) (o x : List ℕ) → (more : List Entry) × (journal f (o ++ x) ≡ journal f o ++ more)
journal_grows f o x = let r = grows_by (start f) (lines_in o) (lines_in x) in (r.0, ap (entries_from (start f)) (lines_joined o x) ∙ r.1)

-- settings that are told stay
head_stays : (f : Format) (ls ms : List (List ℕ)) (s : Settings) → settings_in f ls ≡ Some s → settings_in f (joined ls ms) ≡ Some s
head_stays f [] ms s e = absurd cc
head_stays f (t ∷ []) ms s e = absurd cc
head_stays f (t ∷ u ∷ []) [] s e = e
head_stays f (t ∷ u ∷ []) (m ∷ ms) s e = e
head_stays f (t ∷ u ∷ v ∷ ls) ms s e = e

pub settings_stay : (f : Format) (o x : List ℕ) (s : Settings) → settings f o ≡ Some s → settings f (o ++ x) ≡ Some s
settings_stay f o x s e = ap (settings_in f) (lines_joined o x) ∙ head_stays f (lines_in o) (lines_in x) s e
