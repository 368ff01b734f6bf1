-- Commands whose fields are lent, as the messages that they are of.
use Rattle.std.specs.Prelude.{◌≡◌, ℕ, List, Result, Ok, Err}
use Rattle.zre_msg.specs.declared.commands.LentBody.{LentBody}
use Rattle.zre_msg.specs.declared.commands.LentBody.TheVariants as lent
use Rattle.zre_msg.specs.declared.message.Body.{Body}
use Rattle.zre_msg.specs.declared.message.Body.TheVariants.{Whisper, Shout, Join, Leave, Ping, PingOk, Other}
use Rattle.zre_msg.specs.declared.message.Message.{Message}
use Rattle.zre_msg.specs.declared.message.ReadFault.{ReadFault}
use Rattle.zre_msg.specs.declared.message.ReadFault.TheVariants as read

-- the body of the message, with the frames after the first
abbrev pub body_of : LentBody → List (List ℕ) → Body
body_of lent.Whisper more = Whisper more
body_of (lent.Shout group) more = Shout group.now more
body_of (lent.Join group status) more = Join group.now status
body_of (lent.Leave group status) more = Leave group.now status
body_of lent.Ping more = Ping
body_of lent.PingOk more = PingOk
body_of (lent.Other number rest) more = Other number rest.now more

-- a call made the message with this number and this body, unless memory ran out
abbrev pub Says : ℕ → Body → Result Message ReadFault → Type 0
Says number body (Ok m) = m ≡ record { sequence = number; body = body }
Says number body (Err e) = e ≡ read.OutOfMemory
