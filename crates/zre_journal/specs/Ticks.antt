-- What comes about at a tick of the clock: peers expire or turn evasive, connections that run no peer are closed, and
-- a beacon is sent.
use Rattle.std.specs.Prelude.{ℕ, ◌-◌, Bool, not, ◌&&◌, List, [], ◌∷◌, ◌++◌, nat_le, map, is_none}
use Rattle.std.specs.List.{filter}
use Rattle.zre_msg.specs.declared.message.Body.TheVariants as body
use Rattle.zre_peer.specs.declared.causes.Cause.TheVariants as cause
use Rattle.zre_peer.specs.declared.causes.CloseWhy.TheVariants as close
use Rattle.zre_values.specs.declared.settings.Settings.{Settings as Config}
use Rattle.zre_journal.specs.Chronicle.{Mark, Closes, Ends, IsEvasive, SendsBeacon, in_turn}
use Rattle.zre_journal.specs.Heard.{clock}
use Rattle.zre_journal.specs.Connections.{open_ones, runs, since}
use Rattle.zre_journal.specs.Peers.{Life, lives, is_entered, active}
use Rattle.zre_journal.specs.Pushes.{push}

module _ (g : Config) where
  abbrev pub is_silent : ℕ → List Mark → Life → Bool
  is_silent limit K v = nat_le limit (clock K - active v.link K)

  -- evasive: silent for a while, and asked by PING whether it is there; silent for longer, it is gone (RFC 36, PING)
  abbrev pub is_evasive : List Mark → Life → Bool
  is_evasive K v = is_entered K v && not (is_silent g.expired K v) && is_silent g.evasive K v

  abbrev pub probe : List Life → List Mark → List Mark
  probe vs K = in_turn (λ (v : Life) J. IsEvasive v.link ∷ push g v.link body.Ping J) vs K

  abbrev pub is_stale : List Mark → ℕ → Bool
  is_stale K c = is_none (runs c K) && nat_le g.expired (clock K - since c K)

  abbrev pub at_tick : List Mark → List Mark
  at_tick K =
      map (λ (v : Life). Ends v.link cause.Expired) (filter (is_silent g.expired K) (lives K))
      ++ probe (filter (is_evasive K) (lives K)) K
      ++ map (λ c. Closes c close.Timeout) (filter (is_stale K) (open_ones K))
      ++ SendsBeacon g.port ∷ []
