use Rattle.std.proofs.Common.{◌≡◌, ◌<◌, ◌^◌, Some, refl, sym, ◌∙◌, rules}
use Rattle.std.specs.Prelude.{codes}
use Rattle.zre_outside.specs.declared.entry.Input.TheVariants as got
use Rattle.zre_capture.specs.Values.{hex_of}
use Rattle.zre_capture.proofs.OnePass.{tick-read, piece-read}
use Rattle.zre_capture.proofs.TextParts.{equal}
use Rattle.zre_capture.proofs.direct.read_direct.Goals as goal

pub returns-then-eq-clause-read : goal.returns-then-eq-clause-read
returns-then-eq-clause-read c =
    let word = equal c.in-Some.rest.now c.as_slice.result.now (codes " tick") c.eq.result c.eq.ensures c.as_slice.ensures c.if-eq.true in
    let at_fits : c.in-Some.at < 2 ^ 64 = search rules in
    (record { at = c.in-Some.at; input = got.Tick }, tick-read c.args.format c.args.before c.in-Some.at c.args.text.now c.in-Some.rest.now c.ranges.before.fits at_fits c.in-Some.ensures word, c.in_ok-push.ensures.ok, refl)

pub returns-clause-read : goal.returns-clause-read
returns-clause-read c =
    let at_fits : c.in-Some.at < 2 ^ 64 = search rules in
    let conn_fits : c.in-Some-piece_fields.conn < 2 ^ 64 = search rules in
    let octets : hex_of c.in-Some-piece_fields.octets.now ≡ Some c.in-Some-2.bytes = sym c.in_ok-bytes.ensures ∙ c.in-Some-2.is in (
      record { at = c.in-Some.at; input = got.Piece c.in-Some-piece_fields.conn c.in-Some-2.bytes },
      piece-read c.args.format c.args.before c.in-Some.at c.in-Some-piece_fields.conn c.args.text.now c.in-Some.rest.now c.in-Some-piece_fields.octets.now c.in-Some-2.bytes c.ranges.before.fits at_fits conn_fits c.in-Some.ensures c.in-Some-piece_fields.ensures octets,
      c.in_ok-push-2.ensures.ok,
      refl,
    )
