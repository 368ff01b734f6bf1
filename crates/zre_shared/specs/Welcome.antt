-- The commands that tell a peer the whole table.
use Rattle.std.specs.Prelude.{◌≡◌, ℕ, false, List, [], map, flat_map, filter_map, All}
use Rattle.zre_values.specs.declared.peer_id.PeerId.{PeerId}
use Rattle.zre_msg.specs.Spelling.{is_big}
use Rattle.zre_msg.specs.declared.message.Body.TheVariants as body
use Rattle.zre_outside.specs.declared.entry.Command.{Command}
use Rattle.zre_outside.specs.declared.entry.Command.TheVariants.{Join, Leave, Whisper, Shout, Bad, Quit}
use Rattle.zre_shared.specs.Writes.{write_of, write_text}
use Rattle.zre_shared.specs.declared.write.Write.{Write}

-- the frames of content that a command asks to send
abbrev pub content_of : Command → List (List ℕ)
content_of (Join group) = []
content_of (Leave group) = []
content_of (Whisper peer content) = content
content_of (Shout group content) = content
content_of (Bad line) = []
content_of Quit = []

-- a message with this content is within the limits of messages, whatever its number
abbrev pub IsSmall : List (List ℕ) → Type 0
IsSmall content = (n : ℕ) → is_big (record { sequence = n; body = body.Whisper content }) ≡ false

-- a whisper to the peer, which isn't refused for its size
abbrev pub IsWhisper : PeerId → Command → Type 0
IsWhisper peer (Whisper p content) = (p ≡ peer) × IsSmall content
IsWhisper peer (Join group) = ⊥
IsWhisper peer (Leave group) = ⊥
IsWhisper peer (Shout group content) = ⊥
IsWhisper peer (Bad line) = ⊥
IsWhisper peer Quit = ⊥

-- whispers to the peer whose frames, joined, are those of the writes, each of which is read as its write
pub record IsWelcome (peer : PeerId) (writes : List Write) (commands : List Command) : Type 0 where
  pub whispers : All (IsWhisper peer) commands
  pub frames : flat_map content_of commands ≡ map write_text writes
  pub again : filter_map write_of (flat_map content_of commands) ≡ writes
