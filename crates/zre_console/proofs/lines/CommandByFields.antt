-- The command of a line by its fields.
use Rattle.std.proofs.Common.{◌≡◌, ℕ, ◌<◌, List, [], ◌∷◌, ◌++◌, length, refl, ap, ◌∙◌, arith}
use Rattle.std.specs.List.{join_with_byte}
use Rattle.std.proofs.lemmas.List.Splits.{join_with_byte-slice_split}
use Rattle.zre_capture.specs.Parts.{Lacks}
use Rattle.zre_capture.specs.Reading.{fields_in}
use Rattle.zre_capture.proofs.FieldByField.{some_fields, fields-cut, fields-whole}
use Rattle.zre_console.specs.lines.Orders.{word_alone, with_group, with_text, order_from}

pub order-one : (line : List ℕ) → Lacks 32 line → order_from (fields_in line) ≡ word_alone line
unfolding order_from
order-one line none = ap order_from (fields-whole line none)

pub order-two : (line word rest : List ℕ) → line ≡ word ++ (32 ∷ rest) → Lacks 32 word → Lacks 32 rest → order_from (fields_in line) ≡ with_group word rest
unfolding order_from
order-two line word rest e first none = ap order_from (fields-cut line word rest e first ∙ ap (λ (fs : List (List ℕ)). word ∷ fs) (fields-whole rest none))

with_parts : (word to : List ℕ) (parts : List (List ℕ)) → 0 < length parts → order_from (word ∷ to ∷ parts) ≡ with_text word to (join_with_byte 32 parts)
unfolding order_from
with_parts word to [] some = absurd (omega (arith, some))
with_parts word to (part ∷ parts) some = refl

pub order-three : (line word rest to text : List ℕ) → line ≡ word ++ (32 ∷ rest) → Lacks 32 word → rest ≡ to ++ (32 ∷ text) → Lacks 32 to → order_from (fields_in line) ≡ with_text word to text
order-three line word rest to text e first f second =
    ap order_from (fields-cut line word rest e first ∙ ap (λ (fs : List (List ℕ)). word ∷ fs) (fields-cut rest to text f second))
    ∙ with_parts word to (fields_in text) (some_fields text)
    ∙ ap (with_text word to) (join_with_byte-slice_split 32 text)
