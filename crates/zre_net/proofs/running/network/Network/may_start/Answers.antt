use Rattle.std.proofs.Common.{◌&&◌, ◌∙◌, ap, ltb}
use Rattle.std.specs.Prelude.{is_none}
use Rattle.std.specs.List.{list_all}
use Rattle.zre_net.specs.Rows.{running_at, fits_owner}
use Rattle.zre_net.proofs.NodesStartAndGo.{may_start}
use Rattle.zre_net.proofs.running.network.Network.may_start.Goals as goal

pub returns : goal.returns
returns c = λ H at name host s.
    c.all.ensures
    ∙ ap (λ b. b && (c.may_have.result && ltb 0 c.args.port)) (c.is_free.ensures ∙ ap (λ o. is_none o) c.runner.ensures)
    ∙ ap (λ b. is_none (running_at c.args.node c.args.self.now.running.items) && (b && ltb 0 c.args.port)) (c.may_have.ensures ∙ ap (list_all (fits_owner c.args.node c.args.id)) c.as_slice.ensures)
    ∙ may_start H c.args.self.now c.args.node at c.args.id name host c.args.port s
