-- Frames that are gathered into whispers.
use Rattle.std.specs.Prelude.{◌≡◌, ℕ, ◌+◌, ◌<◌, ◌≤◌, List, [], ◌∷◌, ◌++◌, length, sum_by, flat_map, All}
use Rattle.zre_outside.specs.declared.entry.Command.{Command}
use Rattle.zre_outside.specs.declared.entry.Command.TheVariants.{Whisper}
use Rattle.zre_shared.specs.Welcome.{content_of, IsWhisper}
use Rattle.zre_shared.specs.declared.gathered.GatheredWhispers.{GatheredWhispers}
use Rattle.zre_shared.specs.declared.gathered.TheConstants.{FRAMES, OCTETS}

-- all frames so far
abbrev pub frames_of : GatheredWhispers → List (List ℕ)
frames_of g = flat_map content_of g.commands ++ g.content

-- each whisper is to the peer and within the limits, and so will be the next one
pub record IsGathered (g : GatheredWhispers) : Type 0 where
  pub whispers : All (IsWhisper g.peer) g.commands
  pub few : length g.content ≤ FRAMES
  pub octets_is : g.octets ≡ sum_by length g.content
  pub small : g.octets ≤ OCTETS

-- the content has become a whisper
pub record IsSent (g h : GatheredWhispers) : Type 0 where
  pub peer : h.peer ≡ g.peer
  pub commands : h.commands ≡ g.commands ++ Whisper g.peer g.content ∷ []
  pub content : h.content ≡ []
  pub octets : h.octets ≡ 0

-- the same frames are gathered, and one more of this length has room
pub record HasRoom (g h : GatheredWhispers) (len : ℕ) : Type 0 where
  pub peer : h.peer ≡ g.peer
  pub frames : frames_of h ≡ frames_of g
  pub whispers : All (IsWhisper h.peer) h.commands
  pub few : length h.content < FRAMES
  pub octets_is : h.octets ≡ sum_by length h.content
  pub small : h.octets + len ≤ OCTETS

-- one more frame is gathered
pub record IsPushed (g h : GatheredWhispers) (frame : List ℕ) : Type 0 where
  pub peer : h.peer ≡ g.peer
  pub frames : frames_of h ≡ frames_of g ++ frame ∷ []
  pub gathered : IsGathered h

-- these commands whisper all frames
pub record AreAll (g : GatheredWhispers) (commands : List Command) : Type 0 where
  pub whispers : All (IsWhisper g.peer) commands
  pub frames : flat_map content_of commands ≡ frames_of g
