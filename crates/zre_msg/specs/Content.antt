-- The frames after the first of a message, where they lie.
use Rattle.std.specs.Prelude.{ℕ, List, option_copied, option_to_list}
use Rattle.zre_msg.specs.declared.lent.LentContent.{LentContent}
use Rattle.zre_msg.specs.declared.lent.LentContent.TheVariants.{Frames, One}

-- which they are
abbrev pub content_of : LentContent → List (List ℕ)
content_of (Frames frames) = frames.now
content_of (One frame) = option_to_list (option_copied frame)
