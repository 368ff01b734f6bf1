use Rattle.std.proofs.Common.{[], ◌∷◌, refl, sym, ◌∙◌}
use Rattle.zre_shared.proofs.FramesOfWrites.{next, last, first_field, two_fields, three_fields, four_fields, of_fields, other_word, too_many, five}
use Rattle.zre_shared.proofs.reading.Fields.of.Goals as goal

pub returns-in_err-word : goal.returns-in_err-word
returns-in_err-word c =
    let f = c.args.frame.now in
    rw c.from_residual.ensures (of_fields f (f ∷ []) (last [] f f refl c.in_err-word.ensures.none))

pub returns-in_err-count : goal.returns-in_err-count
returns-in_err-count c =
    let done = c.in_ok-word.word.now ∷ [] in
    rw c.from_residual-in_err-count.ensures (of_fields c.args.frame.now _ (last done c.args.frame.now c.in_ok-word.rest.now (first_field c.in_ok-word.rest.now c.in_ok-word.ensures.parts c.in_ok-word.ensures.first) c.in_err-count.ensures.none))

pub returns-in_err-id : goal.returns-in_err-id
returns-in_err-id c =
    let done = c.in_ok-word.word.now ∷ c.in_ok-count.count.now ∷ [] in
    rw c.from_residual-in_err-id.ensures (of_fields c.args.frame.now _ (last done c.args.frame.now c.in_ok-count.rest.now (two_fields c.in_ok-count.rest.now c.in_ok-word.ensures.parts c.in_ok-word.ensures.first c.in_ok-count.ensures.parts c.in_ok-count.ensures.first) c.in_err-id.ensures.none))

pub returns-in_err-key : goal.returns-in_err-key
returns-in_err-key c =
    let done = c.in_ok-word.word.now ∷ c.in_ok-count.count.now ∷ c.in_ok-id.id.now ∷ [] in
    rw c.from_residual-in_err-key.ensures (of_fields c.args.frame.now _ (last done c.args.frame.now c.in_ok-id.rest.now (three_fields c.in_ok-id.rest.now c.in_ok-word.ensures.parts c.in_ok-word.ensures.first c.in_ok-count.ensures.parts c.in_ok-count.ensures.first c.in_ok-id.ensures.parts c.in_ok-id.ensures.first) c.in_err-key.ensures.none))

pub returns-then-not-is_word : goal.returns-then-not-is_word
returns-then-not-is_word c =
    let four = four_fields c.in_ok-key.value.now c.in_ok-word.ensures.parts c.in_ok-word.ensures.first c.in_ok-count.ensures.parts c.in_ok-count.ensures.first c.in_ok-id.ensures.parts c.in_ok-id.ensures.first c.in_ok-key.ensures.parts c.in_ok-key.ensures.first in
    other_word c.args.frame.now c.in_ok-word.word.now c.in_ok-count.count.now c.in_ok-id.id.now c.in_ok-key.key.now c.in_ok-key.value.now four (sym c.is_word.ensures ∙ c.if-not-is_word.true)

pub returns-in-None : goal.returns-in-None
returns-in-None c =
    let four = four_fields c.in_ok-key.value.now c.in_ok-word.ensures.parts c.in_ok-word.ensures.first c.in_ok-count.ensures.parts c.in_ok-count.ensures.first c.in_ok-id.ensures.parts c.in_ok-id.ensures.first c.in_ok-key.ensures.parts c.in_ok-key.ensures.first in
    let whole = last (c.in_ok-word.word.now ∷ c.in_ok-count.count.now ∷ c.in_ok-id.id.now ∷ c.in_ok-key.key.now ∷ []) c.args.frame.now c.in_ok-key.value.now four c.in-None.ensures.none in
    five c.args.frame.now c.in_ok-word.word.now c.in_ok-count.count.now c.in_ok-id.id.now c.in_ok-key.key.now c.in_ok-key.value.now whole (sym c.is_word.ensures ∙ c.if-not-is_word.false)

pub returns-in-Some : goal.returns-in-Some
returns-in-Some c =
    let four = four_fields c.in_ok-key.value.now c.in_ok-word.ensures.parts c.in_ok-word.ensures.first c.in_ok-count.ensures.parts c.in_ok-count.ensures.first c.in_ok-id.ensures.parts c.in_ok-id.ensures.first c.in_ok-key.ensures.parts c.in_ok-key.ensures.first in
    let more = next (c.in_ok-word.word.now ∷ c.in_ok-count.count.now ∷ c.in_ok-id.id.now ∷ c.in_ok-key.key.now ∷ []) c.args.frame.now c.in_ok-key.value.now c.in-Some.field-0.0.now c.in-Some.field-0.1.now four c.in-Some.ensures.parts c.in-Some.ensures.first in
    too_many c.args.frame.now c.in_ok-word.word.now c.in_ok-count.count.now c.in_ok-id.id.now c.in_ok-key.key.now c.in-Some.field-0.0.now c.in-Some.field-0.1.now more
