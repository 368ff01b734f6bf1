-- The chronicle keeps its journal: which entries came, what their clock read, and what they carried.
use Rattle.std.specs.Prelude.{◌≡◌, ℕ, max, false, List, [], ◌∷◌, ◌++◌, Option, Some, None}
use Rattle.zre_outside.specs.declared.entry.Entry.{Entry}
use Rattle.zre_outside.specs.declared.entry.Input.{Input}
use Rattle.zre_journal.specs.Chronicle.{Mark, Comes, Opens, Links, each}
use Rattle.zre_journal.specs.Heard.{clock, was_opened, piece_of, bytes}
use Rattle.zre_journal.specs.Links.{is_linked, reply_of, replies}

abbrev pub entry_of : Mark → Option Entry
entry_of (Comes e) = Some e
entry_of _ = None

-- the entries that a chronicle has marks of, the oldest first
abbrev pub entries : List Mark → List Entry
entries H = each entry_of H

-- the greatest reading of these entries, 0 where there is none
abbrev pub greatest : List Entry → ℕ
greatest [] = 0
greatest (e ∷ es) = max e.at (greatest es)

-- what these entries carry, joined
abbrev pub carried : (Input → List ℕ) → List Entry → List ℕ
carried f [] = []
carried f (e ∷ es) = f e.input ++ carried f es

-- Its marks of entries are the journal J. So its clock is the greatest reading of J, and the octets of a connection
-- and the replies on a link are what the entries carried that came after the first opening of that connection and
-- after that link was first up.
pub record Keeps (J : List Entry) (H : List Mark) : Type 0 where
  pub entries_are : entries H ≡ J
  pub clock_is : clock H ≡ greatest J
  pub none_before_opening : (c : ℕ) → was_opened c H ≡ false → bytes c H ≡ []
  pub octets_are : (c : ℕ) (later before : List Mark) → H ≡ later ++ Opens c ∷ before → was_opened c before ≡ false
      → bytes c H ≡ carried (piece_of c) (entries later)
  pub none_before_linking : (l : ℕ) → is_linked l H ≡ false → replies l H ≡ []
  pub replies_are : (l : ℕ) (later before : List Mark) → H ≡ later ++ Links l ∷ before → is_linked l before ≡ false
      → replies l H ≡ carried (reply_of l) (entries later)
