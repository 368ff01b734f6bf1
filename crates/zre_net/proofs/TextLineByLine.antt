-- Texts, line by line.
use Rattle.std.proofs.Common.{◌≡◌, ℕ, ◌+◌, ◌<◌, ◌==◌, ◌&&◌, not, cond, List, [], ◌∷◌, ◌++◌, length, Some, None, refl, ap, ◌∙◌, arith}
use Rattle.std.proofs.lemmas.List.Splits.{length-slice_split}
use Rattle.zre_capture.specs.Parts.{Lacks}
use Rattle.zre_capture.proofs.TextParts.{between-cut, between-whole}
use Rattle.zre_capture.proofs.FirstBadColumn.{but_last-more}
use Rattle.zre_net.specs.Fields.{move_of}
use Rattle.zre_net.specs.Reading.{parts_in, but_last, lines_in, is_line, bad_from, with_first, moves_in, moves_of}

pub some_parts : (text : List ℕ) → 0 < length (parts_in text)
some_parts text = omega (arith, length-slice_split (λ b. b == 10) text)

-- ---- the first bad line

pub bad_of : (n used : ℕ) (line : List ℕ) (ps : List (List ℕ)) → 0 < length ps
    → bad_from n used (line ∷ ps) ≡ cond (is_line n (used + (length line + 1)) line) (bad_from (n + 1) (used + (length line + 1)) ps) (Some n)
unfolding bad_from
bad_of n used line [] some = absurd (omega (arith, some))
bad_of n used line (p ∷ ps) some = refl

pub bad-cut : (n used : ℕ) (text line after : List ℕ) → text ≡ line ++ (10 ∷ after) → Lacks 10 line
    → bad_from n used (parts_in text) ≡ cond (is_line n (used + (length line + 1)) line) (bad_from (n + 1) (used + (length line + 1)) (parts_in after)) (Some n)
bad-cut n used text line after e none = ap (bad_from n used) (between-cut 10 text line after e none) ∙ bad_of n used line (parts_in after) (some_parts after)

-- ---- moves

pub lines-cut : (text line after : List ℕ) → text ≡ line ++ (10 ∷ after) → Lacks 10 line → lines_in text ≡ line ∷ lines_in after
lines-cut text line after e none = ap but_last (between-cut 10 text line after e none) ∙ but_last-more line (parts_in after) (some_parts after)

pub lines-whole : (text : List ℕ) → Lacks 10 text → lines_in text ≡ []
lines-whole text none = ap but_last (between-whole 10 text none)

pub moves-cut : (text line after : List ℕ) → text ≡ line ++ (10 ∷ after) → Lacks 10 line → moves_in (lines_in text) ≡ with_first (move_of line) (moves_in (lines_in after))
moves-cut text line after e none = ap moves_in (lines-cut text line after e none)

pub moves-whole : (text : List ℕ) → Lacks 10 text → moves_in (lines_in text) ≡ []
moves-whole text none = ap moves_in (lines-whole text none)

-- the head says none
pub head-cut : (text head after : List ℕ) → text ≡ head ++ (10 ∷ after) → Lacks 10 head → moves_of (lines_in text) ≡ moves_in (lines_in after)
head-cut text head after e none = ap moves_of (lines-cut text head after e none)

pub head-whole : (text : List ℕ) → Lacks 10 text → moves_of (lines_in text) ≡ []
head-whole text none = ap moves_of (lines-whole text none)

-- ---- the end

pub bad-end : (n used : ℕ) (text : List ℕ) → Lacks 10 text
    → bad_from n used (parts_in text) ≡ cond ((length text == 0) && not (n == 1)) None (Some n)
unfolding bad_from
bad-end n used text none = ap (bad_from n used) (between-whole 10 text none)
