use Rattle.std.proofs.Common.{arith, ◌<◌, ◌^◌, ◌∙◌, ◌∷◌, ◌++◌, [], length}
use Rattle.std.proofs.lemmas.Grind.{common_steps}
use Rattle.std.proofs.lemmas.List.Elements.{All-push}
use Rattle.zre_values.proofs.QuotedTexts.{next, more}
use Rattle.zre_values.proofs.unquoting.are_quoted_octets.Goals as goal

pub returns-in_default : goal.returns-in_default
returns-in_default c = (
  λ no. absurd cc,
  λ v.
      let some : 0 < length c.octets.rest.now = grind (arith, common_steps) in
      let u = c.octets.invariant in
      let n = next u.0 v.0 c.octets.rest.now u.1 v.1 (u.2 ∙ v.2) some in
      absurd (c.in_default.ensures.back n.octet n.others n.octet_fits n.text),
)

pub octets-preserved : goal.octets-preserved
octets-preserved c =
    let u = c.octets.invariant in (
      u.0 ++ c.in-Some.field-0-0 ∷ [],
      All-push (λ b. b < 2 ^ 8) u.0 c.in-Some.field-0-0 u.1 c.in-Some.ensures.octet,
      more u.0 c.octets.rest.now c.in-Some.later.now c.args.text.now c.in-Some.field-0-0 c.in-Some.ensures.value u.2,
    )
