-- Messages that lie in their frames, as the messages that they are.
use Rattle.std.specs.Prelude.{◌≡◌, ◌≤◌, ℕ, List, [], length, slice_index, slice_index_or, Option, Some, None, Result}
use Rattle.std.specs.Prelude.{Ok, Err}
use Rattle.zre_msg.specs.declared.commands.LentBody.{LentBody}
use Rattle.zre_msg.specs.declared.lent.LentMessage.{LentMessage}
use Rattle.zre_msg.specs.declared.message.Message.{Message}
use Rattle.zre_msg.specs.declared.message.ReadFault.{ReadFault}
use Rattle.zre_msg.specs.Commands.{body_of}
use Rattle.zre_msg.specs.Content.{content_of}
use Rattle.zre_msg.specs.Reading.{Answers, first_row, head_rows, read_of, read_frames}

-- the message that lies in frames
abbrev pub message_of : LentMessage → Message
message_of lent = record { sequence = lent.sequence; body = body_of lent.command (content_of lent.content) }

-- a first frame with a faultless head and the command of HELLO
pub record OpensHello (first : List ℕ) : Type 0 where
  pub long : 6 ≤ length first
  pub number : slice_index first 2 ≡ 1
  pub head : first_row (head_rows first) ≡ None

-- a call gave the sequence and the command of a first frame with those after it, or nothing of HELLO, or answered with
-- what is wrong with them
abbrev pub Opens : Result (Option (ℕ × LentBody)) ReadFault → List ℕ → List (List ℕ) → Type 0
Opens (Ok (Some x)) first more = read_of first more ≡ Ok (record { sequence = x.0; body = body_of x.1 more })
Opens (Ok None) first more = OpensHello first
Opens (Err e) first more = Answers (Err e) (read_of first more)

-- a call saw the message that the frames mean, or that they begin as HELLO does, or answered with what is wrong with
-- them
abbrev pub Sees : Result (Option LentMessage) ReadFault → List (List ℕ) → Type 0
Sees (Ok (Some lent)) frames = read_frames frames ≡ Ok (message_of lent)
Sees (Ok None) frames = OpensHello (slice_index_or frames 0 [])
Sees (Err e) frames = Answers (Err e) (read_frames frames)
