use Rattle.std.proofs.Common.{◌∙◌, ◌+◌, ◌-◌, ◌++◌, ◌∷◌, [], ap, arith, take, drop, length}
use Rattle.std.proofs.lemmas.List.{length-drop, take_all}
use Rattle.zre_net.specs.Lists.{joined}
use Rattle.zre_net.proofs.TextsStay.{part_more, joined_more}
use Rattle.zre_net.proofs.running.rope.parts_of.Goals as goal

pub parts-preserved : goal.parts-preserved
parts-preserved c =
    let part = c.in_ok-part.part in
    let octets = c.args.octets.now in
    let left = length-drop c.parts.from octets in
    let rest = take_all (length octets - c.parts.from) (drop c.parts.from octets) (omega (arith, left)) in (
      let few = c.in_ok-part.ensures.few in let n = c.len.ensures.value in let all = ap length rest in let t = c.parts-test.true in omega (arith, few, n, all, left, t),
      ap (λ l. joined l ++ drop (c.parts.from + c.len.result) octets) c.in_ok-push.ensures.ok
          ∙ ap (λ n. joined (c.parts.now ++ part ∷ []) ++ drop (c.parts.from + n) octets) c.len.ensures.value
          ∙ ap (λ o. o ++ drop (c.parts.from + length part) octets) (joined_more c.parts.now part)
          ∙ part_more octets (joined c.parts.now) part c.parts.from c.parts.invariant.1 (c.in_ok-part.ensures.is ∙ ap (λ o. take (length part) o) rest),
    )
