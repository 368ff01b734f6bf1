-- What goes out on a link: of what was offered, what was taken, entry by entry.
use Rattle.std.specs.Prelude.{◌≡◌, ℕ, ◌&&◌, List, [], ◌∷◌, ◌++◌, length, take, nat_eq, is_some, if◌then◌else◌}
use Rattle.zre_link.specs.Text.{text_of}
use Rattle.zre_outside.specs.declared.entry.Entry.{Entry}
use Rattle.zre_outside.specs.declared.entry.Input.{Input}
use Rattle.zre_outside.specs.declared.entry.Input.TheVariants as input
use Rattle.zre_values.specs.declared.settings.Settings.{Settings as Config}
use Rattle.zre_journal.specs.Chronicle.{Mark, Comes}
use Rattle.zre_journal.specs.Events.{chronicle}
use Rattle.zre_journal.specs.Happens.{with_entry}
use Rattle.zre_journal.specs.Links.{line, taken, front}
use Rattle.zre_journal.specs.Peers.{life}

-- the text of link l: the greeting, READY, and its line
abbrev pub text : Config → ℕ → List Mark → List ℕ
text g l H = text_of g.id (line l H)

module _ (g : Config) (l : ℕ) where
  -- the octets that went out with an entry: where the link is that of a known peer, as many of those that may go out
  -- as were taken
  abbrev pub gone_with : Input → List Mark → List ℕ
  gone_with (input.Took k n) K = if nat_eq l k && is_some (life l K) then take n (front g l K) else []
  gone_with _ K = []

  -- those of entries that come after H, joined
  abbrev pub gone_after : List Entry → List Mark → List ℕ
  gone_after [] H = []
  gone_after (e ∷ es) H = gone_with e.input (Comes e ∷ H) ++ gone_after es (with_entry g e H)

  abbrev pub gone : List Entry → List ℕ
  gone journal = gone_after journal []

-- What went out on a link, joined, begins the link's text, now and after whatever comes later, and is as long as the
-- chronicle says.
pub record GoesOutInOrder (g : Config) (J K : List Entry) : Type 0 where
  pub is_front : (l : ℕ) → (rest : List ℕ) × (text g l (chronicle g (J ++ K)) ≡ gone g l J ++ rest)
  pub is_counted : (l : ℕ) → length (gone g l J) ≡ taken l (chronicle g J)
