use Rattle.std.proofs.Common.{◌≡◌, ◌<◌, ◌∷◌, [], ◌++◌, List, ℕ, length, take, ap, ◌∙◌, arith}
use Rattle.std.proofs.lemmas.List.{length-take-le, take_more_set}
use Rattle.zre_zmtp.proofs.head.Head.push.Goals as goal

pub returns : goal.returns
returns c =
    let head = c.self.inside in
    let len : length (take head.count head.octets) ≡ head.count = length-take-le head.count head.octets (omega (arith, c.self.invariant, c.self.told)) in
    let room : head.count < length head.octets = omega (arith, len, ap length c.self.view_is, c.requires, c.self.told) in
    take_more_set head.octets head.count c.args.octet room ∙ ap (λ (o : List ℕ). o ++ c.args.octet ∷ []) c.self.view_is
