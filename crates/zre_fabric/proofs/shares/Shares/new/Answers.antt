use Rattle.std.proofs.Common.{◌∙◌, ap, replicate}
use Rattle.zre_fabric.proofs.shares.Shares.new.Goals as goal

-- a copy is what it is a copy of
pub returns : goal.returns
returns c = c.in_ok-from_elem.ensures.items_if_clones_equal (λ y same. same) ∙ ap (λ x. replicate 1024 x) c.new.ensures
