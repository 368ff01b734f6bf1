-- A node with the messages that it has put on its links.
use Rattle.std.specs.Prelude.{◌≡◌, ℕ, false, ◌≤◌, List, length, map, drop, Some, None, IsSome, nat_eq}
use Rattle.zre_outside.specs.declared.entry.Input.{Input}
use Rattle.zre_outside.specs.declared.entry.Input.TheVariants as input
use Rattle.zre_msg.specs.Spelling.{octets}
use Rattle.zre_values.specs.declared.settings.Settings.{Settings as Config}
use Rattle.zre_journal.specs.Chronicle.{Mark}
use Rattle.zre_journal.specs.Heard.{newly_completed}
use Rattle.zre_journal.specs.Links.{bodies, queued, text, taken, unsent}
use Rattle.zre_journal.specs.Peers.{life, births}
use Rattle.zre_net.specs.Lines.{Line}
use Rattle.zre_net.specs.Lists.{nth}
use Rattle.zre_net.specs.Lines.{messages_at, waited_at, IsNoted}

-- the messages of a link, as they are spelled
abbrev pub spelled : ℕ → List Mark → List (List ℕ)
spelled l H = map octets (queued l H)

-- a piece completes one place at most
abbrev pub is_slight : Config → Input → List Mark → List Mark → Type 0
is_slight g (input.Piece c o) H K = length (newly_completed g.id c H K) ≤ 1
is_slight g _ H K = Unit {0}

-- all is kept that was put on links, and how much waits
pub record Keeps (g : Config) (K : List Mark) (handshake : ℕ) (lines : List Line) : Type 0 where
  pub count : length lines ≡ births K
  pub messages_are : (l : ℕ) → messages_at l lines ≡ spelled l K
  pub waits : (l : ℕ) → IsSome (life l K) → waited_at handshake l lines ≡ unsent g l K
  pub within : (l : ℕ) → IsSome (life l K) → taken l K ≤ length (text g l K)

-- ---- one look

-- link l has been looked at
pub record IsSeen (g : Config) (K : List Mark) (l : ℕ) (xs ys : List Line) : Type 0 where
  pub before : Line
  pub now : Line
  pub was : nth l xs ≡ Some before
  pub is : nth l ys ≡ Some now
  pub noted : IsNoted (length (bodies l K)) (drop (taken l K) (text g l K)) before now
  pub within : taken l K ≤ length (text g l K)

-- and no other
pub record IsLookedAt (g : Config) (K : List Mark) (l : ℕ) (xs ys : List Line) : Type 0 where
  pub count : length ys ≡ length xs
  pub seen : IsSeen g K l xs ys
  pub others : (k : ℕ) → nat_eq l k ≡ false → nth k ys ≡ nth k xs

-- the links of all known peers have been, and no others
pub record IsLooked (g : Config) (K : List Mark) (xs ys : List Line) : Type 0 where
  pub count : length ys ≡ length xs
  pub seen : (l : ℕ) → IsSome (life l K) → IsSeen g K l xs ys
  pub others : (l : ℕ) → life l K ≡ None → nth l ys ≡ nth l xs
