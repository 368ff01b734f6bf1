-- What comes about at a user's command, and at a stop.
use Rattle.std.specs.Prelude.{ℕ, ◌+◌, ◌%◌, Bool, not, ◌&&◌, ◌||◌, List, [], ◌∷◌, ◌++◌, Option, Some, None}
use Rattle.std.specs.Prelude.{if◌then◌else◌, nat_lt, nat_le, length, map}
use Rattle.std.specs.List.{filter, list_any}
use Rattle.std.specs.Str.{bytes_eq}
use Rattle.zre_values.specs.declared.peer_id.PeerId.{PeerId}
use Rattle.zre_outside.specs.declared.entry.Command.{Command}
use Rattle.zre_outside.specs.declared.entry.Command.TheVariants as command
use Rattle.zre_values.specs.declared.limits.TheConstants.{OWN_GROUPS, GROUP_OCTETS}
use Rattle.zre_msg.specs.Spelling.{is_big}
use Rattle.zre_msg.specs.declared.message.Body.{Body}
use Rattle.zre_msg.specs.declared.message.Body.TheVariants as body
use Rattle.zre_peer.specs.declared.causes.Cause.TheVariants as cause
use Rattle.zre_peer.specs.declared.causes.RefuseWhy.TheVariants as refuse
use Rattle.zre_values.specs.declared.settings.Settings.{Settings as Config}
use Rattle.zre_journal.specs.Chronicle.{Mark, ClosesAtStop, Ends, Joins, Leaves, Refuses, SendsBeacon, Stops}
use Rattle.zre_journal.specs.Connections.{open_ones}
use Rattle.zre_journal.specs.Peers.{Life, lives, life_of, is_entered, view}
use Rattle.zre_journal.specs.Links.{groups, status}
use Rattle.zre_journal.specs.Pushes.{push, push_all}

-- the group is one of these
abbrev pub has_group : List ℕ → List (List ℕ) → Bool
has_group group joined = list_any (λ x. bytes_eq x group) joined

module _ (g : Config) where
  -- the status goes with it to all known peers (RFC 36, JOIN)
  abbrev pub at_join : List ℕ → List Mark → List Mark
  at_join group K =
      if nat_lt GROUP_OCTETS (length group) then Refuses refuse.TooBig ∷ []
      else if has_group group (groups K) then Refuses (refuse.Same group) ∷ []
      else if nat_le OWN_GROUPS (length (groups K)) then Refuses (refuse.Limit group) ∷ []
      else Joins group ∷ push_all g (lives K) (body.Join group ((status K + 1) % 256)) K

  -- the same (RFC 36, LEAVE)
  abbrev pub at_leave : List ℕ → List Mark → List Mark
  at_leave group K =
      if has_group group (groups K) then Leaves group ∷ push_all g (lives K) (body.Leave group ((status K + 1) % 256)) K
      else Refuses (refuse.NoGroup group) ∷ []

  -- a message that passes the limits of frames or octets
  abbrev pub is_too_big : Body → Bool
  is_too_big b = is_big (record { sequence = 0; body = b })

  -- to one peer (RFC 36, WHISPER)
  abbrev pub at_whisper : PeerId → List (List ℕ) → Option Life → List Mark → List Mark
  at_whisper p content None K = Refuses (refuse.NoPeer p) ∷ []
  at_whisper p content (Some v) K =
      if not (is_entered K v) then Refuses (refuse.NoPeer p) ∷ []
      else if is_too_big (body.Whisper content) then Refuses refuse.TooBig ∷ []
      else push g v.link (body.Whisper content) K

  abbrev pub is_member : List ℕ → List Mark → Life → Bool
  is_member group K v = is_entered K v && has_group group (view v.link K).groups

  -- to the peers that are in the group, as they told it (RFC 36, SHOUT)
  abbrev pub at_shout : List ℕ → List (List ℕ) → List Mark → List Mark
  at_shout group content K =
      if nat_lt GROUP_OCTETS (length group) || is_too_big (body.Shout group content) then Refuses refuse.TooBig ∷ []
      else push_all g (filter (is_member group K) (lives K)) (body.Shout group content) K

  -- the last beacon has port 0, so that others know that the node leaves (RFC 36, the beacon)
  abbrev pub at_stop : List Mark → List Mark
  at_stop K = map (λ (v : Life). Ends v.link cause.Stop) (lives K) ++ map (λ c. ClosesAtStop c) (open_ones K)
      ++ SendsBeacon 0 ∷ Stops ∷ []

  abbrev pub at_command : Command → List Mark → List Mark
  at_command (command.Join group) K = at_join group K
  at_command (command.Leave group) K = at_leave group K
  at_command (command.Whisper p content) K = at_whisper p content (life_of p K) K
  at_command (command.Shout group content) K = at_shout group content K
  at_command (command.Bad n) K = Refuses (refuse.BadLine n) ∷ []
  at_command command.Quit K = at_stop K
