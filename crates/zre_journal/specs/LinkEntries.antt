-- What comes about on the node's own connections, its links: one is up, a reply arrives on it, it broke, octets went
-- out on it.
use Rattle.std.specs.Prelude.{ℕ, ◌-◌, min, List, [], ◌∷◌, ◌++◌, map, Option, Some, None, if◌then◌else◌}
use Rattle.zre_zmtp.specs.declared.fault.ZmtpFault.{ZmtpFault}
use Rattle.zre_peer.specs.declared.causes.Cause.{Cause}
use Rattle.zre_peer.specs.declared.causes.Cause.TheVariants as cause
use Rattle.zre_link.specs.Heard.{reply_fault}
use Rattle.zre_link.specs.Link.{answered, slow_at}
use Rattle.zre_values.specs.declared.settings.Settings.{Settings as Config}
use Rattle.zre_journal.specs.Chronicle.{Mark, Ends, PutsPong, Links, Sends}
use Rattle.zre_journal.specs.Peers.{Life}
use Rattle.zre_journal.specs.Links.{is_linked, replies, newly_pinged, gate, taken, unsent}

-- why replies end their peer: for the PONG that has no room, and else for their fault, where there is one
abbrev pub cause_by_reply : Option (ℕ × ℕ) → Option ZmtpFault → Option Cause
cause_by_reply (Some slow) f = Some (cause.Slow slow.0 slow.1)
cause_by_reply None (Some f) = Some (cause.Reply f)
cause_by_reply None None = None

module _ (g : Config) where
  abbrev pub at_linked : ℕ → Option Life → List Mark → List Mark
  at_linked l None K = []
  at_linked l (Some v) K = if is_linked l K then [] else Links l ∷ []

  -- the peer of link l ends, if there is a cause
  abbrev pub end_by : ℕ → Option Cause → List Mark
  end_by l None = []
  end_by l (Some why) = Ends l why ∷ []

  -- PINGs with these contexts are answered in their order, up to the first whose PONG has no room (RFC 37, heartbeats)
  abbrev pub answers : ℕ → List (List ℕ) → Option ZmtpFault → List Mark → List Mark
  answers l ts f K =
      map (λ t. PutsPong l t) (answered (unsent g l K) ts) ++ end_by l (cause_by_reply (slow_at (unsent g l K) ts) f)

  -- H is the chronicle before the entry, K with it
  abbrev pub at_reply : ℕ → Option Life → List Mark → List Mark → List Mark
  at_reply l None H K = []
  at_reply l (Some v) H K =
      if is_linked l K then answers l (newly_pinged l H K) (reply_fault (replies l K)) K else []

  abbrev pub at_unlinked : ℕ → Option Life → List Mark
  at_unlinked l None = []
  at_unlinked l (Some v) = Ends l cause.Link ∷ []

  abbrev pub at_took : ℕ → ℕ → Option Life → List Mark → List Mark
  at_took l n None K = []
  at_took l n (Some v) K = Sends l (min n (gate g l K - taken l K)) ∷ []
