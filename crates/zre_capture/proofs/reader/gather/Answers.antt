use Rattle.std.proofs.Common.{ℕ, ◌+◌, ◌-◌, ◌<◌, ◌++◌, length, take, ap, ◌∙◌, arith}
use Rattle.std.proofs.lemmas.List.{length-append}
use Rattle.zre_capture.specs.Formats.{longest}
use Rattle.zre_capture.proofs.LineByLine.{long-place}
use Rattle.zre_capture.proofs.reader.gather.Goals as goal

pub returns-clause-refused : goal.returns-clause-refused
returns-clause-refused c =
    let sum = length-append c.args.left.now c.args.text.now in
    let most = c.longest.ensures.longest in
    let long : longest c.args.place.format < length (c.args.left.now ++ c.args.text.now) = omega (arith, sum, c.len.ensures, c.if-text-free.false, most) in
    rw c.too_long.ensures (
      long,
      long-place c.args.place c.args.left.now c.args.text.now c.as_slice.result.now c.requires long
          (c.as_slice.ensures ∙ c.in_ok-append-2.ensures.ok ∙ ap (λ (n : ℕ). c.args.left.now ++ take (c.longest.result - n + 1) c.args.text.now) c.len.ensures
          ∙ ap (λ (n : ℕ). c.args.left.now ++ take (n - length c.args.left.now + 1) c.args.text.now) most),
    )
