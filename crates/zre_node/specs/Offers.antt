-- The offers of links.
use Rattle.std.specs.Prelude.{ℕ, ◌&&◌, List, map, nat_eq, nat_lt}
use Rattle.std.specs.List.{filter, list_any}
use Rattle.zre_outside.specs.declared.act.Act.{Act}
use Rattle.zre_outside.specs.declared.act.Act.TheVariants as act
use Rattle.zre_values.specs.declared.settings.Settings.{Settings as Config}
use Rattle.zre_journal.specs.Chronicle.{Mark}
use Rattle.zre_journal.specs.Links.{gate, taken}
use Rattle.zre_journal.specs.Peers.{Life, lives}

-- the offers of the known peers on whose links something was put
abbrev pub offered : Config → List Mark → List ℕ → List Act
offered g K pushed =
    map (λ (v : Life). act.Offer v.link)
    (filter (λ (v : Life). list_any (nat_eq v.link) pushed && nat_lt (taken v.link K) (gate g v.link K)) (lives K))
