-- What comes of a user's command: one refusal, or what is sent to those that it is meant for, and nothing to anybody
-- else.
use Rattle.std.specs.Prelude.{◌≡◌, ℕ, ◌+◌, ◌%◌, Bool, false, not, ◌||◌, List, [], ◌∷◌, Option, Some, None}
use Rattle.std.specs.Prelude.{if◌then◌else◌, nat_eq, nat_lt, nat_le, length, is_some}
use Rattle.std.specs.List.{filter, filter_map, cons_option}
use Rattle.std.specs.Option.{option_map_or}
use Rattle.std.specs.Str.{bytes_eq}
use Rattle.zre_values.specs.declared.limits.TheConstants.{OWN_GROUPS, GROUP_OCTETS}
use Rattle.zre_msg.specs.declared.message.Body.TheVariants as body
use Rattle.zre_outside.specs.declared.entry.Command.{Command}
use Rattle.zre_outside.specs.declared.entry.Command.TheVariants as command
use Rattle.zre_outside.specs.declared.entry.Entry.{Entry}
use Rattle.zre_outside.specs.declared.entry.Input.TheVariants as input
use Rattle.zre_peer.specs.declared.causes.Cause.TheVariants as cause
use Rattle.zre_peer.specs.declared.causes.RefuseWhy.{RefuseWhy}
use Rattle.zre_peer.specs.declared.causes.RefuseWhy.TheVariants as refuse
use Rattle.zre_peer.specs.declared.event.Event.{Event}
use Rattle.zre_peer.specs.declared.event.Event.TheVariants as event
use Rattle.zre_values.specs.declared.settings.Settings.{Settings as Config}
use Rattle.zre_journal.specs.Chronicle.{Mark, Comes, Starts, Counts, Born, HearsBeacon, Ends, IsEvasive, Puts, PutsPong}
use Rattle.zre_journal.specs.Chronicle.{Links, Sends, Refuses}
use Rattle.zre_journal.specs.Commands.{has_group, is_too_big, is_member}
use Rattle.zre_journal.specs.Events.{chronicle, events_at}
use Rattle.zre_journal.specs.Happens.{at_input}
use Rattle.zre_journal.specs.Links.{groups, status}
use Rattle.zre_journal.specs.Peers.{Life, life, life_of, is_entered}
use Rattle.zre_journal.specs.Places.{IsEntry}
use Rattle.zre_journal.specs.Pushes.{push}

-- this reason, where it is so, and else the next
abbrev pub first_of : Bool → RefuseWhy → Option RefuseWhy → Option RefuseWhy
first_of b why next = if b then Some why else next

module _ (g : Config) where
  -- why a command is refused: the first reason that holds. K is the chronicle with its entry
  abbrev pub refusal : Command → List Mark → Option RefuseWhy
  refusal (command.Join group) K =
      first_of (nat_lt GROUP_OCTETS (length group)) refuse.TooBig
      (first_of (has_group group (groups K)) (refuse.Same group)
      (first_of (nat_le OWN_GROUPS (length (groups K))) (refuse.Limit group) None))
  refusal (command.Leave group) K = first_of (not (has_group group (groups K))) (refuse.NoGroup group) None
  refusal (command.Whisper p content) K =
      first_of (not (option_map_or (is_entered K) (life_of p K) false)) (refuse.NoPeer p)
      (first_of (is_too_big g (body.Whisper content)) refuse.TooBig None)
  refusal (command.Shout group content) K =
      first_of (nat_lt GROUP_OCTETS (length group) || is_too_big g (body.Shout group content)) refuse.TooBig None
  refusal (command.Bad n) K = Some (refuse.BadLine n)
  refusal command.Quit K = None

  -- what comes about on the link of a known peer by a command that isn't refused: JOIN and LEAVE go to each, with the
  -- status after it, a whisper to the peer with its id, a shout to the members of its group; at a quit each ends.
  -- Where the body has no room there, its peer ends as slow
  abbrev pub reaches : Command → List Mark → Life → List Mark
  reaches (command.Join group) K v = push g v.link (body.Join group ((status K + 1) % 256)) K
  reaches (command.Leave group) K v = push g v.link (body.Leave group ((status K + 1) % 256)) K
  reaches (command.Whisper p content) K v = if bytes_eq p.0 v.id.0 then push g v.link (body.Whisper content) K else []
  reaches (command.Shout group content) K v =
      if is_member g group K v then push g v.link (body.Shout group content) K else []
  reaches (command.Bad n) K v = []
  reaches command.Quit K v = Ends v.link cause.Stop ∷ []

-- whether a mark is about link l: its peer is born, there, evasive, run or gone, or something is put, stands or goes
-- out
abbrev pub is_on : ℕ → Mark → Bool
is_on l (Starts c k m) = nat_eq l k
is_on l (Counts c k m) = nat_eq l k
is_on l (Born k p to) = nat_eq l k
is_on l (HearsBeacon k) = nat_eq l k
is_on l (Ends k why) = nat_eq l k
is_on l (IsEvasive k) = nat_eq l k
is_on l (Puts k b) = nat_eq l k
is_on l (PutsPong k t) = nat_eq l k
is_on l (Links k) = nat_eq l k
is_on l (Sends k n) = nat_eq l k
is_on l _ = false

-- of these marks those about link l
abbrev pub on_link : ℕ → List Mark → List Mark
on_link l hs = filter (is_on l) hs

abbrev pub refused_by : Event → Option RefuseWhy
refused_by (event.Refused why) = Some why
refused_by _ = None

-- the reasons of the refusals that these events tell
abbrev pub refusals : List Event → List RefuseWhy
refusals es = filter_map refused_by es

-- A command is told as refused once, with the first reason that holds, and then nothing else comes of it; or not at
-- all, and then on the link of each known peer comes about exactly what it is to get, once, and on no other link
-- anything.
pub record Obeys (g : Config) (J : List Entry) : Type 0 where
  pub refused : (earlier : List Entry) (e : Entry) (later : List Entry) (c : Command) → IsEntry g J earlier e later
      → e.input ≡ input.Do c → let H = chronicle g earlier in
      refusals (events_at g e H) ≡ cons_option (refusal g c (Comes e ∷ H)) []
  pub alone : (earlier : List Entry) (e : Entry) (later : List Entry) (c : Command) (why : RefuseWhy)
      → IsEntry g J earlier e later → e.input ≡ input.Do c → let H = chronicle g earlier in let K = Comes e ∷ H in
      refusal g c K ≡ Some why → at_input g e.input H K ≡ Refuses why ∷ []
  pub reached : (earlier : List Entry) (e : Entry) (later : List Entry) (c : Command) (v : Life)
      → IsEntry g J earlier e later → e.input ≡ input.Do c → let H = chronicle g earlier in let K = Comes e ∷ H in
      life v.link K ≡ Some v → on_link v.link (at_input g e.input H K) ≡ (if is_some (refusal g c K) then []
      else reaches g c K v)
  pub nobody_else : (earlier : List Entry) (e : Entry) (later : List Entry) (c : Command) (l : ℕ)
      → IsEntry g J earlier e later → e.input ≡ input.Do c → let H = chronicle g earlier in let K = Comes e ∷ H in
      life l K ≡ None → on_link l (at_input g e.input H K) ≡ []
