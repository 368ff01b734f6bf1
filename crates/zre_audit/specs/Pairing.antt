-- Agreement said of links: each run that one journal has of the other's node has a link of its own in that journal, and
-- is, as far as it goes, what was put there.
use Rattle.std.specs.Prelude.{◌≡◌, ℕ, List, [], ◌∷◌, ◌++◌}
use Rattle.zre_msg.specs.declared.message.Body.{Body}
use Rattle.zre_outside.specs.declared.entry.Entry.{Entry}
use Rattle.zre_values.specs.declared.settings.Settings.{Settings as Config}
use Rattle.zre_journal.specs.Chronicle.{Mark}
use Rattle.zre_journal.specs.Events.{chronicle}
use Rattle.zre_journal.specs.Links.{bodies}
use Rattle.zre_journal.specs.Peers.{counted}
use Rattle.zre_audit.specs.Exchanged.{said, bodies_of, runs_of, links_of}

-- H is the chronicle of the node that heard, K of the one that put
module _ (H K : List Mark) where
  -- this run has a link among these: what was said in it is what was put there, up to some point; and the links without
  -- that one leave what is said
  pub record HasLink (run : ℕ) (links : List ℕ) (Leaves : List ℕ → Type 0) : Type 0 where
    pub before : List ℕ
    pub link : ℕ
    pub later : List ℕ
    pub stands : links ≡ before ++ link ∷ later
    pub more : List Body
    pub is_front : said (bodies link K) ≡ said (bodies_of (counted run H)) ++ more
    pub leaves : Leaves (before ++ later)

  -- each of these runs has a link of its own
  abbrev pub HaveLinks : List ℕ → List ℕ → Type 0
  HaveLinks [] links = Unit {0}
  HaveLinks (run ∷ runs) links = HasLink run links (HaveLinks runs)

-- Each run that the journal J of the node g has of the node k has a link of its own among those that k made to g, by
-- its journal K; and the other way round.
pub record HeardWhatWasPut (g k : Config) (J K : List Entry) : Type 0 where
  pub first : let H = chronicle g J in let I = chronicle k K in HaveLinks H I (runs_of k.id H) (links_of g.id I)
  pub second : let H = chronicle g J in let I = chronicle k K in HaveLinks I H (runs_of g.id I) (links_of k.id H)
