-- The lines of `show`, one for each item of a stream: fields with one space between, and a line feed.
use Rattle.std.specs.Prelude.{ℕ, List, ◌++◌, length, sum_by, codes, decimal, Result, Ok, Err}
use Rattle.std.specs.List.{flat_map}
use Rattle.zre_values.specs.Text.{quoted, quoted_list, quoted_pairs}
use Rattle.zre_msg.specs.Reading.{read_frames}
use Rattle.zre_msg.specs.declared.message.Bad.{Bad}
use Rattle.zre_msg.specs.declared.message.BadWhy.{BadWhy}
use Rattle.zre_msg.specs.declared.message.BadWhy.TheVariants.{Signature, Version, Short, Trailing, ExtraFrames}
use Rattle.zre_msg.specs.declared.message.Body.{Body}
use Rattle.zre_msg.specs.declared.message.Body.TheVariants.{Hello, Whisper, Shout, Join, Leave, Ping, PingOk, Other}
use Rattle.zre_msg.specs.declared.message.Message.{Message}
use Rattle.zre_zmtp.specs.declared.item.Item.{Item}
use Rattle.zre_zmtp.specs.declared.item.What.{What}
use Rattle.zre_zmtp.specs.declared.item.What.TheVariants as says

-- ---- what a message means

-- the word of a command, and the sequence of the message
abbrev pub head_text : List ℕ → ℕ → List ℕ
head_text word sequence = word ++ codes " " ++ decimal sequence

-- where the sender of HELLO is reached, its groups and its status
abbrev pub place_text : List ℕ → List (List ℕ) → ℕ → List ℕ
place_text endpoint groups status =
    codes " " ++ quoted endpoint ++ codes " " ++ quoted_list groups ++ codes " " ++ decimal status

-- its name, and all headers, also those whose name stood before
abbrev pub sender_text : List ℕ → List (List ℕ × List ℕ) → List ℕ
sender_text name headers = codes " " ++ quoted name ++ codes " " ++ quoted_pairs headers

abbrev pub whisper_text : ℕ → List (List ℕ) → List ℕ
whisper_text sequence content = head_text (codes "WHISPER") sequence ++ codes " " ++ quoted_list content

abbrev pub shout_text : ℕ → List ℕ → List (List ℕ) → List ℕ
shout_text sequence group content =
    head_text (codes "SHOUT") sequence ++ codes " " ++ quoted group ++ codes " " ++ quoted_list content

-- the group and the status of a change
abbrev pub change_text : List ℕ → ℕ → List ℕ
change_text group status = codes " " ++ quoted group ++ codes " " ++ decimal status

-- a command that has no name
abbrev pub other_text : ℕ → ℕ → List ℕ
other_text sequence number = head_text (codes "OTHER") sequence ++ codes " " ++ decimal number

abbrev pub body_text : ℕ → Body → List ℕ
body_text sequence (Hello endpoint groups status name headers) =
    head_text (codes "HELLO") sequence ++ place_text endpoint groups status ++ sender_text name headers
body_text sequence (Whisper content) = whisper_text sequence content
body_text sequence (Shout group content) = shout_text sequence group content
body_text sequence (Join group status) = head_text (codes "JOIN") sequence ++ change_text group status
body_text sequence (Leave group status) = head_text (codes "LEAVE") sequence ++ change_text group status
body_text sequence Ping = head_text (codes "PING") sequence
body_text sequence PingOk = head_text (codes "PING-OK") sequence
body_text sequence (Other number rest more) = other_text sequence number

abbrev pub why_text : BadWhy → List ℕ
why_text Signature = codes "Signature"
why_text Version = codes "Version"
why_text Short = codes "Short"
why_text Trailing = codes "Trailing"
why_text ExtraFrames = codes "ExtraFrames"

-- what is wrong with frames that mean no message, and in which frame and at which octet of it
abbrev pub bad_text : Bad → List ℕ
bad_text bad = codes "BAD " ++ why_text bad.why ++ codes " " ++ decimal bad.frame ++ codes " " ++ decimal bad.place

abbrev pub meaning_text : Result Message Bad → List ℕ
meaning_text (Ok m) = body_text m.sequence m.body
meaning_text (Err bad) = bad_text bad

-- ---- lines

abbrev pub greeting_line : ℕ → ℕ → List ℕ
greeting_line major minor = codes "greeting " ++ decimal major ++ codes "." ++ decimal minor ++ codes "\n"

-- a command by its name and the size of its body
abbrev pub command_line : List ℕ → ℕ → List ℕ
command_line name size = codes "command " ++ quoted name ++ codes " " ++ decimal size ++ codes "\n"

-- how many frames a message has, how many octets in all, and what it means
abbrev pub message_line : List (List ℕ) → List ℕ
message_line frames =
    codes "message " ++ decimal (length frames) ++ codes " " ++ decimal (sum_by length frames) ++ codes " "
    ++ meaning_text (read_frames frames) ++ codes "\n"

abbrev pub what_line : What → List ℕ
what_line (says.Greeting major minor) = greeting_line major minor
what_line (says.Ready size socket identity) = command_line (codes "READY") size
what_line (says.Command size name body) = command_line name size
what_line (says.Message frames) = message_line frames

-- the line of an item
abbrev pub line : Item → List ℕ
line item = what_line item.what

abbrev pub lines : List Item → List ℕ
lines items = flat_map line items
