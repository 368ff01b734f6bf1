use Rattle.std.proofs.Common.{ap, sym, ◌∙◌, length, subst, ◌<◌, ◌^◌}
use Rattle.zre_values.specs.Framing.{frames}
use Rattle.zre_link.specs.Tail.{spelled_octets}
use Rattle.zre_link.proofs.BodiesOfFrames.{bodies_back}
use Rattle.zre_link.proofs.tail.Tail.of.Goals as goal

pub invariant_of-result : goal.invariant_of-result
invariant_of-result c =
    let is = c.in_ok-spelled.ensures.spelling ∙ c.in_ok-octets.ensures in
    let few = subst (λ l. length l < 2 ^ 64) (sym c.in_ok-spelled.ensures.spelling) c.copied_or_shared.ensures.bounded in
    is ∙ sym (ap frames (bodies_back (spelled_octets c.in_ok-spelled.spelled) c.args.content.now is few))

pub returns : goal.returns
returns c =
    let is = c.in_ok-spelled.ensures.spelling ∙ c.in_ok-octets.ensures in
    let few = subst (λ l. length l < 2 ^ 64) (sym c.in_ok-spelled.ensures.spelling) c.copied_or_shared.ensures.bounded in
    bodies_back (spelled_octets c.in_ok-spelled.spelled) c.args.content.now is few
