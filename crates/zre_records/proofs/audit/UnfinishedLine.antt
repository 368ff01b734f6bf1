-- What is unfinished in a capture and isn't too long tells nothing.
use Rattle.std.proofs.Common.{◌≡◌, ℕ, ◌+◌, ◌<◌, ◌≤◌, ◌==◌, Bool, true, false, cond, List, [], ◌∷◌, ◌++◌, length, Option, Some, None, refl, sym, ap, ◌∙◌, arith}
use Rattle.std.specs.Prelude.{nat_lt}
use Rattle.std.specs.List.{onto_first}
use Rattle.std.specs.Option.{option_map_or, option_or}
use Rattle.std.proofs.lemmas.Bool.{ltb-true, ne_eqb}
use Rattle.zre_outside.specs.declared.entry.Entry.{Entry}
use Rattle.zre_capture.specs.Formats.{longest}
use Rattle.zre_capture.specs.Journal.{journal, settings, settings_in, bad, bad_from, bad_at_end, bad_line, end_from, entries_from, line_of, lines_in, next, start}
use Rattle.zre_capture.specs.declared.fault.BadCapture.{BadCapture}
use Rattle.zre_capture.specs.declared.format.Format.{Format}
use Rattle.zre_capture.specs.declared.format.Format.TheVariants.{Second}
use Rattle.zre_capture.specs.declared.line_start.LineStart.{LineStart}
use Rattle.zre_capture.proofs.LineByLine.{some_lines}
use Rattle.zre_records.specs.audit.Cut.{mark}

-- ---- lines after a line feed

onto_more : (b : ℕ) (ls ms : List (List ℕ)) → 0 < length ls → onto_first b (ls ++ ms) ≡ onto_first b ls ++ ms
onto_more b [] ms some = absurd (omega (arith, some))
onto_more b (t ∷ ls) ms some = refl

pub lines_after : (q x : List ℕ) → lines_in (q ++ 10 ∷ x) ≡ lines_in q ++ lines_in x
lines_after [] x = refl
lines_after (b ∷ q) x = by (b == 10) (lines_after q x)
  where
    by : (d : Bool) → lines_in (q ++ 10 ∷ x) ≡ lines_in q ++ lines_in x
        → cond d ([] ∷ lines_in (q ++ 10 ∷ x)) (onto_first b (lines_in (q ++ 10 ∷ x))) ≡ cond d ([] ∷ lines_in q) (onto_first b (lines_in q)) ++ lines_in x
    by true r = ap (λ (ls : List (List ℕ)). [] ∷ ls) r
    by false r = ap (onto_first b) r ∙ onto_more b (lines_in q) (lines_in x) (some_lines q)

-- ---- the last line

settings_same : (f : Format) (ls : List (List ℕ)) (a b : List ℕ) → 0 < length ls → settings_in f (ls ++ a ∷ []) ≡ settings_in f (ls ++ b ∷ [])
settings_same f [] a b some = absurd (omega (arith, some))
settings_same f (t ∷ []) a b some = refl
settings_same f (t ∷ u ∷ ls) a b some = refl

entries_same : (p : LineStart) (ls : List (List ℕ)) (a b : List ℕ) → entries_from p (ls ++ a ∷ []) ≡ entries_from p (ls ++ b ∷ [])
unfolding entries_from
entries_same p [] a b = refl
entries_same p (t ∷ []) a b = refl
entries_same p (t ∷ u ∷ ls) a b = by (line_of p t) (λ es. entries_same (next p es) (u ∷ ls) a b)
  where
    by : (o : Option (List Entry)) → ((es : List Entry) → entries_from (next p es) (u ∷ ls ++ a ∷ []) ≡ entries_from (next p es) (u ∷ ls ++ b ∷ []))
        → option_map_or (λ es. es ++ entries_from (next p es) (u ∷ ls ++ a ∷ [])) o [] ≡ option_map_or (λ es. es ++ entries_from (next p es) (u ∷ ls ++ b ∷ [])) o []
    by None r = refl
    by (Some es) r = ap (λ (fs : List Entry). es ++ fs) (r es)

short_is : (n m : ℕ) → m ≤ n → nat_lt n m ≡ false
short_is n m le = by (nat_lt n m) refl
  where
    by : (d : Bool) → nat_lt n m ≡ d → d ≡ false
    by false e = refl
    by true e = absurd (omega (arith, ltb-true n m e, le))

bad_same : (p : LineStart) (ls : List (List ℕ)) (a b : List ℕ) → length a ≤ longest p.format → length b ≤ longest p.format → bad_from p (ls ++ a ∷ []) ≡ bad_from p (ls ++ b ∷ [])
unfolding bad_from
bad_same p [] a b s t = rw (short_is (longest p.format) (length a) s, short_is (longest p.format) (length b) t) refl
bad_same p (l ∷ []) a b s t = by (line_of p l) (λ es. bad_same (next p es) [] a b s t)
  where
    by : (o : Option (List Entry)) → ((es : List Entry) → bad_from (next p es) (a ∷ []) ≡ bad_from (next p es) (b ∷ []))
        → option_map_or (λ es. bad_from (next p es) (a ∷ [])) o (Some (bad_line p l)) ≡ option_map_or (λ es. bad_from (next p es) (b ∷ [])) o (Some (bad_line p l))
    by None r = refl
    by (Some es) r = r es
bad_same p (l ∷ u ∷ ls) a b s t = by (line_of p l) (λ es. bad_same (next p es) (u ∷ ls) a b s t)
  where
    by : (o : Option (List Entry)) → ((es : List Entry) → bad_from (next p es) (u ∷ ls ++ a ∷ []) ≡ bad_from (next p es) (u ∷ ls ++ b ∷ []))
        → option_map_or (λ es. bad_from (next p es) (u ∷ ls ++ a ∷ [])) o (Some (bad_line p l)) ≡ option_map_or (λ es. bad_from (next p es) (u ∷ ls ++ b ∷ [])) o (Some (bad_line p l))
    by None r = refl
    by (Some es) r = r es

-- what ends with a line feed has no end that is bad
end_later : (p : LineStart) (ls : List (List ℕ)) → (p.line == 1) ≡ false → 1 ≤ p.line → end_from p (ls ++ [] ∷ []) ≡ None
unfolding end_from
end_later p [] e le = rw e refl
end_later p (l ∷ []) e le = by (line_of p l) (λ es. end_later (next p es) [] (later p.line le) (omega arith))
  where
    later : (n : ℕ) → 1 ≤ n → (n + 1 == 1) ≡ false
    later n le = ne_eqb (n + 1) 1 (λ q. omega (arith, q, le))

    by : (o : Option (List Entry)) → ((es : List Entry) → end_from (next p es) ([] ∷ []) ≡ None) → option_map_or (λ es. end_from (next p es) ([] ∷ [])) o None ≡ None
    by None r = refl
    by (Some es) r = r es
end_later p (l ∷ u ∷ ls) e le = by (line_of p l) (λ es. end_later (next p es) (u ∷ ls) (later p.line le) (omega arith))
  where
    later : (n : ℕ) → 1 ≤ n → (n + 1 == 1) ≡ false
    later n le = ne_eqb (n + 1) 1 (λ q. omega (arith, q, le))

    by : (o : Option (List Entry)) → ((es : List Entry) → end_from (next p es) (u ∷ ls ++ [] ∷ []) ≡ None) → option_map_or (λ es. end_from (next p es) (u ∷ ls ++ [] ∷ [])) o None ≡ None
    by None r = refl
    by (Some es) r = r es

end_first : (f : Format) (ls : List (List ℕ)) → 0 < length ls → end_from (start f) (ls ++ [] ∷ []) ≡ None
unfolding end_from
end_first f [] some = absurd (omega (arith, some))
end_first f (l ∷ []) some = by (line_of (start f) l)
  where
    by : (o : Option (List Entry)) → option_map_or (λ es. end_from (next (start f) es) ([] ∷ [])) o None ≡ None
    by None = refl
    by (Some es) = end_later (next (start f) es) [] refl (omega arith)
end_first f (l ∷ u ∷ ls) some = by (line_of (start f) l)
  where
    by : (o : Option (List Entry)) → option_map_or (λ es. end_from (next (start f) es) (u ∷ ls ++ [] ∷ [])) o None ≡ None
    by None = refl
    by (Some es) = end_later (next (start f) es) (u ∷ ls) refl (omega arith)

-- ---- a capture that ends with a line feed, and the mark of another after it

whole_lines : (q : List ℕ) → lines_in (q ++ 10 ∷ []) ≡ lines_in q ++ [] ∷ []
whole_lines q = lines_after q []

mark_lines : (q : List ℕ) → lines_in (q ++ 10 ∷ mark) ≡ lines_in q ++ mark ∷ []
mark_lines q = lines_after q mark

pub settings_with_mark : (q : List ℕ) → settings Second (q ++ 10 ∷ []) ≡ settings Second (q ++ 10 ∷ mark)
settings_with_mark q =
    ap (settings_in Second) (whole_lines q) ∙ settings_same Second (lines_in q) [] mark (some_lines q) ∙ sym (ap (settings_in Second) (mark_lines q))

pub journal_with_mark : (q : List ℕ) → journal Second (q ++ 10 ∷ []) ≡ journal Second (q ++ 10 ∷ mark)
journal_with_mark q =
    ap (entries_from (start Second)) (whole_lines q) ∙ entries_same (start Second) (lines_in q) [] mark ∙ sym (ap (entries_from (start Second)) (mark_lines q))

pub bad_with_mark : (q : List ℕ) → bad Second (q ++ 10 ∷ []) ≡ bad Second (q ++ 10 ∷ mark)
bad_with_mark q =
    ap (bad_from (start Second)) (whole_lines q) ∙ bad_same (start Second) (lines_in q) [] mark (omega arith) (omega arith) ∙ sym (ap (bad_from (start Second)) (mark_lines q))

or_none : (b : Option BadCapture) → option_or b None ≡ b
or_none None = refl
or_none (Some b) = refl

pub bad_at_line_feed : (q : List ℕ) → bad_at_end Second (q ++ 10 ∷ []) ≡ bad Second (q ++ 10 ∷ mark)
bad_at_line_feed q =
    ap (option_or (bad Second (q ++ 10 ∷ []))) (ap (end_from (start Second)) (whole_lines q) ∙ end_first Second (lines_in q) (some_lines q))
    ∙ or_none (bad Second (q ++ 10 ∷ [])) ∙ bad_with_mark q

-- ---- of the second capture only its mark

pub mark_good : bad Second mark ≡ None
unfolding bad_from
mark_good = refl

pub mark_at_end : bad_at_end Second mark ≡ Some (record { line = 1; column = 12 })
unfolding bad_from end_from
mark_at_end = refl

pub nothing_at_end : bad_at_end Second [] ≡ Some (record { line = 1; column = 1 })
unfolding bad_from end_from
nothing_at_end = refl
