-- A tick, as the tables see it.
use Rattle.std.specs.Prelude.{◌≡◌, ℕ, true, false, List, [], ◌∷◌, None, nat_eq, IsSome, is_some}
use Rattle.std.specs.List.{AllByRecursion}
use Rattle.zre_msg.specs.declared.message.Body.TheVariants as body
use Rattle.zre_values.specs.declared.settings.Settings.{Settings as Config}
use Rattle.zre_journal.specs.Chronicle.{Mark, IsEvasive}
use Rattle.zre_journal.specs.Connections.{runs}
use Rattle.zre_journal.specs.Pushes.{push}
use Rattle.zre_journal.specs.Peers.{life, runner}

-- EVASIVE of the peer of a link, and PING on it
abbrev pub probes : Config → ℕ → List Mark → List Mark
probes g l K = IsEvasive l ∷ push g l body.Ping K

-- the peer of this link is known and entered
abbrev pub IsEntered : ℕ → List Mark → Type 0
IsEntered l H = IsSome (life l H) × (is_some (runner l H) ≡ true)

-- these are links of entered peers, each once
abbrev pub AreEntered : List Mark → List ℕ → Type 0
AreEntered H [] = Unit {0}
AreEntered H (l ∷ ls) = IsEntered l H × AllByRecursion (λ k. nat_eq l k ≡ false) ls × AreEntered H ls

-- none of these connections runs a peer
abbrev pub AreIdle : List Mark → List ℕ → Type 0
AreIdle H cs = AllByRecursion (λ c. runs c H ≡ None) cs
