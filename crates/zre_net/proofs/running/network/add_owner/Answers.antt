use Rattle.std.proofs.Common.{◌∙◌, sym, ap}
use Rattle.std.specs.List.{list_any}
use Rattle.zre_values.proofs.AnswersThatAreOk.{on_ok}
use Rattle.zre_net.specs.Rows.{is_owner}
use Rattle.zre_net.proofs.NodesStartAndGo.{owns_already, owns_more}
use Rattle.zre_net.proofs.running.network.add_owner.Goals as goal

pub returns-then-has_owner : goal.returns-then-has_owner
returns-then-has_owner c = owns_already c.args.node c.args.id c.args.owners.now (sym (ap (list_any (is_owner c.args.node c.args.id)) c.as_slice.ensures) ∙ sym c.has_owner.ensures ∙ c.if-has_owner.true)

pub returns : goal.returns
returns c = on_ok c.push.result c.push.ensures.ok (λ e. owns_more c.args.node c.args.id c.args.owners.now c.push.new.self e)
