-- What the tables keep, from what they kept before a mark.
use Rattle.std.proofs.Common.{◌≡◌, ℕ, ◌≤◌, List, length, ◌∙◌}
use Rattle.std.specs.List.{AllByRecursion}
use Rattle.zre_values.specs.declared.settings.Settings.{Settings as Config}
use Rattle.zre_journal.specs.Chronicle.{Mark}
use Rattle.zre_journal.specs.Connections.{open_ones, is_new}
use Rattle.zre_journal.specs.Happens.{has_stopped}
use Rattle.zre_journal.specs.Heard.{clock}
use Rattle.zre_journal.specs.Links.{groups, status}
use Rattle.zre_journal.specs.Peers.{births}
use Rattle.zre_journal.specs.Proper.{IsProper}
use Rattle.zre_node.specs.declared.tables.Tables.{Tables}
use Rattle.zre_tables.specs.Tabled.{Tabled}
use Rattle.zre_node.specs.Stands.{Keeps, IsConn, is_above}

-- the settings, and that the node goes on
abbrev pub AreSet : Tables → Tables → Type 0
AreSet t u = (u.stopped ≡ t.stopped) × (u.config ≡ t.config) × (u.mailbox ≡ t.mailbox)

pub keeps_as : (g : Config) (H K : List Mark) (t u : Tables) → Keeps g H t → IsProper K → has_stopped K ≡ has_stopped H → AreSet t u → u.clock ≡ clock K → u.births ≡ births K → ((c : ℕ) → is_new c K ≡ is_above u.last c)
    → AllByRecursion (λ group. length group ≤ 255) (groups K) → u.own ≡ record { groups = groups K; status = status K } → Tabled (λ (c : ℕ). c) (IsConn g K) (open_ones K) u.conns → Keeps g K u
keeps_as g H K t u k proper going set clock_is births_is last_is groups_fit own conns = record {
  can = k.can;
  proper = proper;
  going = going ∙ k.going;
  awake = set.0 ∙ k.awake;
  config = set.1 ∙ k.config;
  mailbox = set.2 ∙ k.mailbox;
  clock_is = clock_is;
  births_is = births_is;
  last_is = last_is;
  groups_fit = groups_fit;
  own = own;
  conns = conns;
}
