use Rattle.std.proofs.Common.{inl, inr, sym, ◌∙◌}
use Rattle.zre_commands.proofs.follow.follower.Follower.goes_on.Goals as goal

pub returns-then-spent : goal.returns-then-spent
returns-then-spent c = inl (sym c.spent.ensures ∙ c.if-spent.true)

pub returns-then-spent-2 : goal.returns-then-spent-2
returns-then-spent-2 c = inr (inl (sym c.spent-2.ensures ∙ c.if-spent-2.true))

pub returns-then-is_some : goal.returns-then-is_some
returns-then-is_some c = inr (inr (sym c.is_some.ensures ∙ c.if-is_some.true))

pub returns : goal.returns
returns c = (sym c.spent.ensures ∙ c.if-spent.false, sym c.spent-2.ensures ∙ c.if-spent-2.false, sym c.is_some.ensures ∙ c.if-is_some.false)
