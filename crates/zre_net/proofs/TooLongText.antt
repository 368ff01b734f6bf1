-- A text that is too long: what stands after the limit doesn't matter.
use Rattle.std.proofs.Common.{◌≡◌, ℕ, zero, suc, ◌+◌, ◌<◌, ◌≤◌, ◌==◌, ◌&&◌, not, leb, Bool, true, false, cond, List, [], ◌∷◌, ◌++◌, length, take, Some, None, is_some, refl, sym, ap, ◌∙◌, arith, append_assoc, length-append, eqb-true, true≢false}
use Rattle.std.specs.List.{onto_first}
use Rattle.std.proofs.lemmas.Bool.{leb-true, leb-false}
use Rattle.std.proofs.lemmas.List.Splits.{slice_split-cons_yes, slice_split-cons_no}
use Rattle.zre_net.specs.Reading.{parts_in, is_line, says, bad_from, bad_line}
use Rattle.zre_net.proofs.TextLineByLine.{bad_of, some_parts}

-- the parts of a text after octets of its first line
abbrev prefixed : List ℕ → List (List ℕ) → List (List ℕ)
prefixed w [] = w ∷ []
prefixed w (p ∷ ps) = (w ++ p) ∷ ps

of_none : (ps : List (List ℕ)) → 0 < length ps → prefixed [] ps ≡ ps
of_none [] some = absurd (omega (arith, some))
of_none (p ∷ ps) some = refl

of_more : (w : List ℕ) (b : ℕ) (ps : List (List ℕ)) → prefixed w (onto_first b ps) ≡ prefixed (w ++ b ∷ []) ps
of_more w b [] = refl
of_more w b (p ∷ ps) = ap (λ x. x ∷ ps) (sym (append_assoc w (b ∷ []) p))

too_late : (a b c d : Bool) → b ≡ false → (a && b && c && d) ≡ false
too_late true false c d e = refl
too_late false false c d e = refl
too_late a true c d e = absurd (true≢false e)

in_time : (a b c d : Bool) → (a && b && c && d) ≡ true → b ≡ true
in_time a true c d e = refl
in_time true false c d e = absurd (true≢false (sym e))
in_time false false c d e = absurd (true≢false (sym e))

some_octets : (n : ℕ) → 0 < n → (n == 0) ≡ false
some_octets n z = by (n == 0) refl
  where
    by : (t : Bool) → (n == 0) ≡ t → (n == 0) ≡ false
    by false e = e
    by true e = absurd (omega (arith, eqb-true n 0 e, z))

above : (a b : ℕ) → b < a → leb a b ≡ false
above a b z = by (leb a b) refl
  where
    by : (t : Bool) → leb a b ≡ t → leb a b ≡ false
    by false e = e
    by true e = absurd (omega (arith, leb-true a b e, z))

-- where the octets of the line pass the limit, it is bad
passed : (n used : ℕ) (w : List ℕ) (ps : List (List ℕ)) → used ≤ 16777216 → 16777217 ≤ used + length w → bad_from n used (prefixed w ps) ≡ Some n
unfolding bad_from
passed n used w [] low far = ap (λ b. cond (b && not (n == 1)) None (Some n)) (some_octets (length w) (omega (arith, low, far)))
passed n used w (p ∷ []) low far = ap (λ b. cond (b && not (n == 1)) None (Some n)) (some_octets (length (w ++ p)) (omega (arith, low, far, length-append w p)))
passed n used w (p ∷ q ∷ qs) low far =
    let line = w ++ p in
    let end = used + (length line + 1) in
    ap (λ b. cond b (bad_from (n + 1) end (q ∷ qs)) (Some n))
    (too_late (leb n 262144) (leb end 16777216) (leb (length line) 4194304) (says n line) (above end 16777216 (omega (arith, far, length-append w p))))

-- one octet more: it ends the line, or belongs to it
step : (b : ℕ) (o : List ℕ) (n used m : ℕ) (w : List ℕ)
    → (used + (length (w ++ []) + 1) ≤ 16777216 → bad_from (n + 1) (used + (length (w ++ []) + 1)) (prefixed [] (parts_in (take m o))) ≡ bad_from (n + 1) (used + (length (w ++ []) + 1)) (prefixed [] (parts_in o)))
    → bad_from n used (prefixed (w ++ b ∷ []) (parts_in (take m o))) ≡ bad_from n used (prefixed (w ++ b ∷ []) (parts_in o))
    → bad_from n used (prefixed w (parts_in (b ∷ take m o))) ≡ bad_from n used (prefixed w (parts_in (b ∷ o)))
step b o n used m w next more = by (b == 10) refl
  where
    end : ℕ
    end = used + (length (w ++ []) + 1)

    ended : (t : Bool) → is_line n end (w ++ []) ≡ t
        → cond t (bad_from (n + 1) end (parts_in (take m o))) (Some n) ≡ cond t (bad_from (n + 1) end (parts_in o)) (Some n)
    ended false z = refl
    ended true z =
        ap (bad_from (n + 1) end) (sym (of_none (parts_in (take m o)) (some_parts (take m o))))
        ∙ next (leb-true end 16777216 (in_time (leb n 262144) (leb end 16777216) (leb (length (w ++ [])) 4194304) (says n (w ++ [])) z))
        ∙ ap (bad_from (n + 1) end) (of_none (parts_in o) (some_parts o))

    by : (t : Bool) → (b == 10) ≡ t → bad_from n used (prefixed w (parts_in (b ∷ take m o))) ≡ bad_from n used (prefixed w (parts_in (b ∷ o)))
    by true z =
        ap (λ ps. bad_from n used (prefixed w ps)) (slice_split-cons_yes (λ x. x == 10) b (take m o) z)
        ∙ bad_of n used (w ++ []) (parts_in (take m o)) (some_parts (take m o))
        ∙ ended (is_line n end (w ++ [])) refl
        ∙ sym (bad_of n used (w ++ []) (parts_in o) (some_parts o))
        ∙ sym (ap (λ ps. bad_from n used (prefixed w ps)) (slice_split-cons_yes (λ x. x == 10) b o z))
    by false z =
        ap (λ ps. bad_from n used (prefixed w ps)) (slice_split-cons_no (λ x. x == 10) b (take m o) z)
        ∙ ap (bad_from n used) (of_more w b (parts_in (take m o)))
        ∙ more
        ∙ sym (ap (bad_from n used) (of_more w b (parts_in o)))
        ∙ sym (ap (λ ps. bad_from n used (prefixed w ps)) (slice_split-cons_no (λ x. x == 10) b o z))

-- of the text after some octets of a line no more count than there is room for, and one
on : (o : List ℕ) (n used m : ℕ) (w : List ℕ) → used ≤ 16777216 → used + length w + m ≡ 16777217
    → bad_from n used (prefixed w (parts_in (take m o))) ≡ bad_from n used (prefixed w (parts_in o))
on [] n used zero w low e = refl
on [] n used (suc m) w low e = refl
on (b ∷ o) n used zero w low e =
    passed n used w (parts_in []) low (omega (arith, e)) ∙ sym (passed n used w (parts_in (b ∷ o)) low (omega (arith, e)))
on (b ∷ o) n used (suc m) w low e =
    step b o n used m w
    (λ within. on o (n + 1) (used + (length (w ++ []) + 1)) m [] within (omega (arith, e, length-append w [])))
    (on o n used m (w ++ b ∷ []) low (omega (arith, e, length-append w (b ∷ []))))

pub as_short : (text : List ℕ) → bad_line (take 16777217 text) ≡ bad_line text
as_short text =
    sym (ap (bad_from 1 0) (of_none (parts_in (take 16777217 text)) (some_parts (take 16777217 text))))
    ∙ on text 1 0 16777217 [] (omega arith) refl
    ∙ ap (bad_from 1 0) (of_none (parts_in text) (some_parts text))

-- ---- a text without a bad line is within the limit

none_of_some : {n : ℕ} → Some n ≡ None → ⊥
none_of_some e = true≢false (ap is_some e)

goes_past : (b : ℕ) (o : List ℕ) (n used : ℕ) (w : List ℕ)
    → (used + (length (w ++ []) + 1) ≤ 16777216 → bad_from (n + 1) (used + (length (w ++ []) + 1)) (prefixed [] (parts_in o)) ≡ None → ⊥)
    → (bad_from n used (prefixed (w ++ b ∷ []) (parts_in o)) ≡ None → ⊥)
    → bad_from n used (prefixed w (parts_in (b ∷ o))) ≡ None → ⊥
goes_past b o n used w next more is = by (b == 10) refl
  where
    end : ℕ
    end = used + (length (w ++ []) + 1)

    ended : (t : Bool) → is_line n end (w ++ []) ≡ t → cond t (bad_from (n + 1) end (parts_in o)) (Some n) ≡ None → ⊥
    ended false z none = none_of_some none
    ended true z none =
        next (leb-true end 16777216 (in_time (leb n 262144) (leb end 16777216) (leb (length (w ++ [])) 4194304) (says n (w ++ [])) z))
        (ap (bad_from (n + 1) end) (of_none (parts_in o) (some_parts o)) ∙ none)

    by : (t : Bool) → (b == 10) ≡ t → ⊥
    by true z =
        ended (is_line n end (w ++ [])) refl
        (sym (bad_of n used (w ++ []) (parts_in o) (some_parts o))
        ∙ sym (ap (λ ps. bad_from n used (prefixed w ps)) (slice_split-cons_yes (λ x. x == 10) b o z)) ∙ is)
    by false z =
        more (sym (ap (bad_from n used) (of_more w b (parts_in o)))
        ∙ sym (ap (λ ps. bad_from n used (prefixed w ps)) (slice_split-cons_no (λ x. x == 10) b o z)) ∙ is)

past : (o : List ℕ) (n used m : ℕ) (w : List ℕ) → used ≤ 16777216 → used + length w + m ≡ 16777217 → m ≤ length o
    → bad_from n used (prefixed w (parts_in o)) ≡ None → ⊥
past o n used zero w low e far none = none_of_some (sym (passed n used w (parts_in o) low (omega (arith, e))) ∙ none)
past [] n used (suc m) w low e far none = absurd (omega (arith, far))
past (b ∷ o) n used (suc m) w low e far none =
    goes_past b o n used w
    (λ within. past o (n + 1) (used + (length (w ++ []) + 1)) m [] within (omega (arith, e, length-append w [])) (omega (arith, far)))
    (past o n used m (w ++ b ∷ []) low (omega (arith, e, length-append w (b ∷ []))) (omega (arith, far)))
    none

pub is_short : (text : List ℕ) → bad_line text ≡ None → length text ≤ 16777216
is_short text none = by (leb (length text) 16777216) refl
  where
    by : (t : Bool) → leb (length text) 16777216 ≡ t → length text ≤ 16777216
    by true e = leb-true (length text) 16777216 e
    by false e = absurd (past text 1 0 16777217 [] (omega arith) refl (omega (arith, leb-false (length text) 16777216 e))
        (ap (bad_from 1 0) (of_none (parts_in text) (some_parts text)) ∙ none))
