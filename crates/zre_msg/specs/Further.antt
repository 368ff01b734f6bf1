-- The frames after the first.
use Rattle.std.specs.Prelude.{ℕ, List}
use Rattle.zre_msg.specs.Content.{content_of}
use Rattle.zre_msg.specs.declared.further.Further.{Further}
use Rattle.zre_msg.specs.declared.further.Further.TheVariants.{Lent, Given}

-- which they are, lent or given
abbrev pub frames_of : Further → List (List ℕ)
frames_of (Lent content) = content_of content
frames_of (Given frames) = frames
