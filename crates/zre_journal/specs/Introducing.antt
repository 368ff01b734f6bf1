-- HELLO of a node, as it is put on a link that is made now.
use Rattle.std.specs.Prelude.{◌+◌, ◌≤◌, List, [], length}
use Rattle.zre_values.specs.declared.limits.TheConstants.{MESSAGE_OCTETS, UNSENT_OCTETS}
use Rattle.zre_msg.specs.Spelling.{octets, FitsBody}
use Rattle.zre_link.specs.Text.{size_of}
use Rattle.zre_link.specs.Link.{unsent_of}
use Rattle.zre_values.specs.declared.settings.Settings.{Settings as Config}
use Rattle.zre_journal.specs.Chronicle.{Mark}
use Rattle.zre_journal.specs.Pushes.{hello}

-- Its HELLO has a spelling, passes no limit of a message, and is not too much for a new link.
pub record Introduces (g : Config) (H : List Mark) : Type 0 where
  pub body_fits : FitsBody (hello g H)
  pub is_short : length (octets (record { sequence = 1; body = hello g H })) ≤ MESSAGE_OCTETS
  pub has_room : unsent_of g.id [] 0 + size_of [] (hello g H) ≤ UNSENT_OCTETS
