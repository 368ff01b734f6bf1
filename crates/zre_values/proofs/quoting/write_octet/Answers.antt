use Rattle.std.proofs.Common.{◌≡◌, ℕ, ◌+◌, ◌-◌, ◌/◌, ◌%◌, ◌≤◌, Bool, true, false, cond, List, [], ◌∷◌, ◌++◌, length, take, refl, ap, ◌∙◌, arith, length-take-le, take-add, take_at, drop_at}
use Rattle.std.specs.Prelude.{slice_index_or}
use borrow.Rule.Slice.PartMut.{put_mid, post_of}
use Rattle.zre_values.specs.Text.{hex_digit, is_plain, quoted_octet}
use Rattle.zre_values.specs.Quoting.{row_of, len_of}
use Rattle.zre_values.proofs.quoting.write_octet.Goals as goal

row_front : (plain : Bool) (b high low : ℕ) (rest : List ℕ) → take (cond plain 1 3) (cond plain b 37 ∷ high ∷ low ∷ cond plain 1 3 ∷ rest) ≡ cond plain (b ∷ []) (37 ∷ high ∷ low ∷ [])
row_front true b high low rest = refl
row_front false b high low rest = refl

-- the text after a row was written at a place
written : (at k b : ℕ) (text row new : List ℕ) → row ≡ row_of b → new ≡ row → at ≤ length text → take (at + slice_index_or row 3 0) (put_mid at k text new) ≡ take at text ++ quoted_octet b
written at k b text row new is same within =
    let front = length-take-le at text within in
    let later = row_of b ++ post_of at k text in
    rw (same, is)
    (take-add at (len_of b) (take at text ++ later)
    ∙ (λ i. take_at (take at text) later at front i ++ take (len_of b) (drop_at (take at text) later at front i))
    ∙ ap (λ (o : List ℕ). take at text ++ o) (row_front (is_plain b) b (hex_digit (b / 16)) (hex_digit (b % 16)) (post_of at k text)))

pub returns-clause-text : goal.returns-clause-text
returns-clause-text c = written c.args.at (c.args.at + 4 - c.args.at) c.args.octet c.args.text.now c.row_of-row.result c.copy_from_slice.new.self c.row_of-row.ensures c.copy_from_slice.ensures.after (omega (arith, c.requires))
