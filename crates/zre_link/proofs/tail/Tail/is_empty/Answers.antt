use Rattle.std.proofs.Common.{ap, ◌∙◌, nat_eq}
use Rattle.zre_link.proofs.BodiesOfFrames.{none_as}
use Rattle.zre_link.proofs.tail.Tail.is_empty.Goals as goal

pub returns : goal.returns
returns c = ap (λ n. nat_eq n 0) c.len.ensures ∙ none_as c.args.self.now
