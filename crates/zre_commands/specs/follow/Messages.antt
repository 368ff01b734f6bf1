-- The messages of the traffic of one connection.
use Rattle.std.specs.Prelude.{ℕ, List, [], Option, None}
use Rattle.std.specs.Result.{result_ok}
use Rattle.std.specs.List.{cons_option, filter_map}
use Rattle.zre_msg.specs.Reading.{read_frames}
use Rattle.zre_msg.specs.declared.message.Message.{Message}
use Rattle.zre_zmtp.specs.Stream.{Traffic, items}
use Rattle.zre_zmtp.specs.declared.want.Want.TheVariants.{Any}
use Rattle.zre_zmtp.specs.declared.item.Item.{Item}
use Rattle.zre_zmtp.specs.declared.item.What.{What}
use Rattle.zre_zmtp.specs.declared.item.What.TheVariants as says

-- the message that frames mean, if they mean one
abbrev pub meant_by : List (List ℕ) → List Message
meant_by frames = cons_option (result_ok (read_frames frames)) []

-- the message of ZRE that an item means, if it means one: commands mean none, and frames outside the grammar neither
abbrev pub meant : What → Option Message
meant (says.Greeting major minor) = None
meant (says.Ready size socket identity) = None
meant (says.Command size name body) = None
meant (says.Message frames) = result_ok (read_frames frames)

abbrev pub messages_in : List Item → List Message
messages_in items = filter_map (λ item. meant item.what) items

-- the messages that are whole in the octets o of traffic, in order
abbrev pub messages : List ℕ → List Message
messages o = messages_in (items Any Traffic o)
