use Rattle.std.proofs.Common.{◌≡◌, ℕ, ◌+◌, Bool, cond, List, Some, length, sym, ap, ◌∙◌, arith}
use Rattle.zre_capture.specs.declared.field.Field.{Field}
use Rattle.zre_capture.specs.Reading.{first_bad, bad_field, given_after, but_last, fields_in, form}
use Rattle.zre_capture.proofs.FirstBadColumn.{cut, cut-length, all-bad, whole_ones-bad, all-good, whole_ones-good, last-bad, last-good, last-left_out, either}
use Rattle.zre_capture.proofs.field.first_bad.Goals as goal

pub returns-then-not-meets : goal.returns-then-not-meets
returns-then-not-meets c =
    let k = cut c.fields.rest.now c.in-Some.field.now c.in-Some.others.now c.in-Some.ensures.parts c.in-Some.ensures.first in
    let isnt = sym c.meets.ensures ∙ c.if-not-meets.true in
    either c.args.place.before (form c.args.place) c.args.whole (fields_in c.args.text.now) (but_last (fields_in c.args.text.now)) 1 (Some c.fields.column)
    (sym c.fields.invariant.all ∙ all-bad c.fields.given c.fields.required.now c.fields.rest.now c.in-Some.field.now c.in-Some.others.now c.fields.column k isnt)
    (sym c.fields.invariant.whole_ones ∙ whole_ones-bad c.fields.given c.fields.required.now c.fields.rest.now c.in-Some.field.now c.in-Some.others.now c.fields.column k isnt)

pub fields-preserved : goal.fields-preserved
fields-preserved c =
    let k = cut c.fields.rest.now c.in-Some.field.now c.in-Some.others.now c.in-Some.ensures.parts c.in-Some.ensures.first in
    let is = sym c.meets.ensures ∙ c.if-not-meets.false in
    let long : length c.fields.rest.now ≡ length c.in-Some.field.now + (length c.in-Some.others.now + 1) = cut-length c.fields.rest.now c.in-Some.field.now c.in-Some.others.now c.in-Some.ensures.parts in
    record {
      at_column = omega (arith, long, c.fields.invariant.at_column);
      all = ap (λ (g : ℕ). first_bad g c.after-required.result.now (fields_in c.in-Some.others.now) (c.fields.column + (length c.in-Some.field.now + 1))) c.given_after-given.ensures
          ∙ ap (λ (r : List Field). first_bad (given_after c.fields.given c.fields.required.now c.in-Some.field.now) r (fields_in c.in-Some.others.now) (c.fields.column + (length c.in-Some.field.now + 1))) c.after-required.ensures
          ∙ sym (all-good c.fields.given c.fields.required.now c.fields.rest.now c.in-Some.field.now c.in-Some.others.now c.fields.column k is) ∙ c.fields.invariant.all;
      whole_ones = ap (λ (g : ℕ). first_bad g c.after-required.result.now (but_last (fields_in c.in-Some.others.now)) (c.fields.column + (length c.in-Some.field.now + 1))) c.given_after-given.ensures
          ∙ ap (λ (r : List Field). first_bad (given_after c.fields.given c.fields.required.now c.in-Some.field.now) r (but_last (fields_in c.in-Some.others.now)) (c.fields.column + (length c.in-Some.field.now + 1))) c.after-required.ensures
          ∙ sym (whole_ones-good c.fields.given c.fields.required.now c.fields.rest.now c.in-Some.field.now c.in-Some.others.now c.fields.column k is) ∙ c.fields.invariant.whole_ones;
    }

pub returns-then-not-whole : goal.returns-then-not-whole
returns-then-not-whole c =
    sym (ap (λ (w : Bool). bad_field c.args.place (cond w (fields_in c.args.text.now) (but_last (fields_in c.args.text.now)))) c.if-not-whole.true
    ∙ sym c.fields.invariant.whole_ones ∙ last-left_out c.fields.given c.fields.required.now c.fields.rest.now c.fields.column c.in_default.ensures.none)

pub returns-then-meets : goal.returns-then-meets
returns-then-meets c =
    sym (ap (λ (w : Bool). bad_field c.args.place (cond w (fields_in c.args.text.now) (but_last (fields_in c.args.text.now)))) c.if-not-whole.false
    ∙ sym c.fields.invariant.all ∙ last-good c.fields.given c.fields.required.now c.fields.rest.now c.fields.column c.in_default.ensures.none (sym c.meets-2.ensures ∙ c.if-meets.true))

pub returns-else-meets : goal.returns-else-meets
returns-else-meets c =
    sym (ap (λ (w : Bool). bad_field c.args.place (cond w (fields_in c.args.text.now) (but_last (fields_in c.args.text.now)))) c.if-not-whole.false
    ∙ sym c.fields.invariant.all ∙ last-bad c.fields.given c.fields.required.now c.fields.rest.now c.fields.column c.in_default.ensures.none (sym c.meets-2.ensures ∙ c.if-meets.false))
