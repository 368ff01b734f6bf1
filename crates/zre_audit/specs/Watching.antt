-- A watch stands for a journal.
use Rattle.std.specs.Prelude.{◌≡◌, List, map}
use Rattle.zre_values.specs.declared.peer_id.PeerId.{PeerId}
use Rattle.zre_outside.specs.declared.entry.Entry.{Entry}
use Rattle.zre_values.specs.declared.settings.Settings.{Settings as Config}
use Rattle.zre_journal.specs.Events.{chronicle}
use Rattle.zre_node.specs.Journal.{StandsFor}
use Rattle.zre_audit.specs.Coding.{code}
use Rattle.zre_audit.specs.Exchanged.{heard}
use Rattle.zre_audit.specs.Kept.{HasPut}
use Rattle.zre_audit.specs.Told.{runs_in}
use Rattle.zre_audit.specs.declared.watch.Watch.{Watch}

-- the watch stands for the journal J of the node g: its node does, and it keeps what was heard and put
pub record Watches (g : Config) (J : List Entry) (w : Watch) : Type 0 where
  pub stands : StandsFor g J w.node
  pub id_is : w.id ≡ g.id
  pub has_heard : (p : PeerId) → runs_in w.heard.runs p.0 ≡ map code (heard p (chronicle g J))
  pub has_put : HasPut (chronicle g J) w.put
