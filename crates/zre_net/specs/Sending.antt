-- A node that has taken a journal, with all that it has put on its links.
use Rattle.std.specs.Prelude.{◌≡◌, List, Option, Some, None, length}
use Rattle.zre_zmtp.specs.Laws.{handshake}
use Rattle.zre_zmtp.specs.declared.writing.SocketType.TheVariants as socket
use Rattle.zre_outside.specs.declared.entry.Entry.{Entry}
use Rattle.zre_values.specs.declared.settings.Settings.{Settings as Config}
use Rattle.zre_journal.specs.Done.{acts_at}
use Rattle.zre_journal.specs.Events.{chronicle, events_at}
use Rattle.zre_node.specs.declared.effects.Step.{Step}
use Rattle.zre_node.specs.declared.node.Node.{Node}
use Rattle.zre_node.specs.Journal.{StandsFor}
use Rattle.zre_net.specs.declared.running.sender.Sender.{Sender}
use Rattle.zre_net.specs.Sender.{Keeps}

-- the node, until it crashes, stands for the journal
abbrev pub Holds : Config → List Entry → Option Node → Type 0
Holds g J None = Unit {0}
Holds g J (Some n) = StandsFor g J n

pub record HasSent (g : Config) (J : List Entry) (s : Sender) : Type 0 where
  pub stands : Holds g J s.node
  pub waits_first : s.handshake ≡ length (handshake socket.Dealer (Some g.id))
  pub keeps : Keeps g (chronicle g J) s.handshake s.lines

-- what an entry tells and does
pub record Stepped (g : Config) (J : List Entry) (e : Entry) (s : Step) : Type 0 where
  pub told : s.events ≡ events_at g e (chronicle g J)
  pub done : s.acts ≡ acts_at g e (chronicle g J)
