-- What taking messages does to a run and to the text.
use Rattle.std.specs.Prelude.{◌≡◌, ℕ, Bool, false, not, List, ◌++◌, Result, IfOk, OnOk}
use Rattle.zre_values.specs.declared.memory.OutOfMemory.{OutOfMemory}
use Rattle.zre_values.specs.declared.peer_id.PeerId.{PeerId}
use Rattle.zre_msg.specs.declared.message.Message.{Message}
use Rattle.zre_peer.specs.Lines.{lines}
use Rattle.zre_peer.specs.Standing.{Stands, id_of, is_spent}
use Rattle.zre_peer.specs.declared.peer_run.Run.{Run}
use Rattle.zre_commands.specs.follow.Runs.{events_after, is_over}

-- some messages were taken after others, up to the end of the run
pub record Took (id : PeerId) (ms ns : List Message) (run : Run) (out out' : List ℕ) : Type 0 where
  pub lines_of : out' ≡ out ++ lines (events_after id ms ns)
  pub over : is_spent run ≡ is_over ms ns
  pub stands : is_spent run ≡ false → Stands run (ms ++ ns)

-- so these were, after whatever the run had taken, and the answer says whether it goes on
pub record Takes (answer : Result Bool OutOfMemory) (was now : Run) (ns : List Message) (out out' : List ℕ)
    : Type 0 where
  pub took : (ms : List Message) → Stands was ms → OnOk answer (Took (id_of was) ms ns now out out')
  pub spent : IfOk answer (λ on. is_spent now ≡ not on)
  pub same : id_of now ≡ id_of was
