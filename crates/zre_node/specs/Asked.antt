-- What a node is asked of its links.
use Rattle.std.specs.Prelude.{ℕ, List, Option, option_map, map, drop, length}
use Rattle.zre_outside.specs.declared.entry.Entry.{Entry}
use Rattle.zre_values.specs.declared.settings.Settings.{Settings as Config}
use Rattle.zre_journal.specs.Events.{chronicle}
use Rattle.zre_journal.specs.Links.{bodies, text, taken}
use Rattle.zre_journal.specs.Peers.{Life, life, lives}

-- how many messages were put on a link, where it is that of a known peer
abbrev pub sent_after : Config → List Entry → ℕ → Option ℕ
sent_after g J l = option_map (λ (v : Life). length (bodies v.link (chronicle g J))) (life l (chronicle g J))

-- the octets that wait on a link, where it is that of a known peer
abbrev pub waiting_after : Config → List Entry → ℕ → Option (List ℕ)
waiting_after g J l =
    option_map (λ (v : Life). drop (taken v.link (chronicle g J)) (text g v.link (chronicle g J)))
    (life l (chronicle g J))

-- the links of the known peers, in order of birth
abbrev pub links_after : Config → List Entry → List ℕ
links_after g J = map (λ (v : Life). v.link) (lives (chronicle g J))
