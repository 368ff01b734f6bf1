use Rattle.std.proofs.Common.{List, ℕ, subst}
use Rattle.std.specs.Result.{OnOk, result_ok}
use Rattle.zre_msg.specs.Reading.{read_frames}
use Rattle.zre_node.specs.Said.{at_read}
use Rattle.zre_node.specs.Stands.{Did}
use Rattle.zre_node.proofs.tables.Tables.hello_lent.Goals as goal

pub returns : goal.returns
returns c = λ g H n h r.
    subst (λ (fs : List (List ℕ)). OnOk c.hello_in.result (Did g (at_read g n c.args.link (result_ok (read_frames fs)) H) H c.hello_in.new.self c.args.out.now c.hello_in.new.out)) c.in_ok-frames.ensures (c.hello_in.ensures g H n h r)
