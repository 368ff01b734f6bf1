use Rattle.std.proofs.Common.{◌≡◌, None, ◌∙◌}
use Rattle.zre_peer.specs.Standing.{view_in}
use Rattle.zre_tables.proofs.NamesOfPeers.{no_name}
use Rattle.zre_tables.proofs.probing.name_of.Goals as goal

pub returns-in-None : goal.returns-in-None
returns-in-None c = λ ms e. let n : None ≡ view_in c.args.run.now = rw c.in-None.is at c.view.ensures in c.new.ensures ∙ no_name ms (n ∙ e)
