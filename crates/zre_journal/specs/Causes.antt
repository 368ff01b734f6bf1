-- Why a known peer ends at a place of the journal: the table of causes, a row for each kind of place.
use Rattle.std.specs.Prelude.{◌≡◌, ℕ, ◌+◌, ◌%◌, Bool, false, not, ◌&&◌, ◌||◌, List, ◌∷◌, ◌++◌, [], Option, Some, None}
use Rattle.std.specs.Prelude.{if◌then◌else◌, nat_eq, nat_lt, nat_le, length, is_none}
use Rattle.std.specs.List.{filter_map, cons_option}
use Rattle.std.specs.Option.{option_and_then, option_map_or}
use Rattle.std.specs.Str.{bytes_eq}
use Rattle.zre_values.specs.declared.limits.TheConstants.{UNSENT_OCTETS, OWN_GROUPS, GROUP_OCTETS}
use Rattle.zre_values.specs.declared.peer_id.PeerId.{PeerId}
use Rattle.zre_beacon.specs.Beacon.{beacon_in}
use Rattle.zre_mailbox.specs.declared.arrival.Arrival.TheVariants as arrival
use Rattle.zre_mailbox.specs.Talk.{Said, Arrived, Fault}
use Rattle.zre_msg.specs.declared.message.Body.{Body}
use Rattle.zre_msg.specs.declared.message.Body.TheVariants as body
use Rattle.zre_msg.specs.declared.message.Message.{Message}
use Rattle.zre_link.specs.Heard.{reply_fault}
use Rattle.zre_link.specs.Link.{slow_at}
use Rattle.zre_link.specs.Text.{size_of}
use Rattle.zre_outside.specs.declared.entry.Command.{Command}
use Rattle.zre_outside.specs.declared.entry.Command.TheVariants as command
use Rattle.zre_outside.specs.declared.entry.Entry.{Entry}
use Rattle.zre_outside.specs.declared.entry.Input.{Input}
use Rattle.zre_outside.specs.declared.entry.Input.TheVariants as input
use Rattle.zre_peer.specs.Runs.{is_hello, due}
use Rattle.zre_peer.specs.Views.{view_of, is_small}
use Rattle.zre_peer.specs.declared.causes.Cause.{Cause}
use Rattle.zre_peer.specs.declared.causes.Cause.TheVariants as cause
use Rattle.zre_values.specs.declared.settings.Settings.{Settings as Config}
use Rattle.zre_journal.specs.Arrivals.{at_place}
use Rattle.zre_journal.specs.Chronicle.{Mark, Comes, Ends}
use Rattle.zre_journal.specs.Commands.{has_group, is_too_big, is_member}
use Rattle.zre_journal.specs.Connections.{identity, runs, is_open, is_live, other_with}
use Rattle.zre_journal.specs.Events.{chronicle}
use Rattle.zre_journal.specs.Happens.{at_input}
use Rattle.zre_journal.specs.LinkEntries.{cause_by_reply}
use Rattle.zre_journal.specs.Links.{groups, status, line, is_linked, replies, newly_pinged, unsent}
use Rattle.zre_journal.specs.Peers.{Life, life, is_entered, counted}
use Rattle.zre_journal.specs.Places.{is_piece, IsEntry, Arrives}
use Rattle.zre_journal.specs.Ticks.{is_silent, is_evasive}

-- this, where it is so
abbrev pub where_so : {A : Type 0} → Bool → A → Option A
where_so b a = if b then Some a else None

-- the peer of this life is the one that is run
abbrev pub is_run_by : Option ℕ → Life → Bool
is_run_by run v = option_map_or (nat_eq v.link) run false

-- a beacon of this peer that leaves: its port is 0
abbrev pub is_last_beacon : Life → Option (PeerId × ℕ) → Bool
is_last_beacon v None = false
is_last_beacon v (Some b) = bytes_eq b.0.0 v.id.0 && nat_eq b.1 0

module _ (g : Config) where
  -- ---- what is due to a peer: at most one message at a place

  abbrev pub may_join : List ℕ → List Mark → Bool
  may_join group K =
      not (nat_lt GROUP_OCTETS (length group)) &&
      (not (has_group group (groups K)) && not (nat_le OWN_GROUPS (length (groups K))))

  abbrev pub may_shout : List ℕ → List (List ℕ) → Bool
  may_shout group content = not (nat_lt GROUP_OCTETS (length group) || is_too_big g (body.Shout group content))

  -- K is the chronicle with the entry
  abbrev pub due_by : Command → List Mark → Life → Option Body
  due_by (command.Join group) K v = where_so (may_join group K) (body.Join group ((status K + 1) % 256))
  due_by (command.Leave group) K v = where_so (has_group group (groups K)) (body.Leave group ((status K + 1) % 256))
  due_by (command.Whisper p content) K v =
      where_so (bytes_eq p.0 v.id.0 &&
      (is_entered K v && not (is_too_big g (body.Whisper content)))) (body.Whisper content)
  due_by (command.Shout group content) K v =
      where_so (may_shout group content && is_member g group K v) (body.Shout group content)
  due_by _ K v = None

  -- what is unsent and the size of the message, where they are too much together
  abbrev pub slow_by : ℕ → Option Body → List Mark → Option Cause
  slow_by l None K = None
  slow_by l (Some b) K =
      let size = size_of (line l K) b in
      where_so (nat_lt UNSENT_OCTETS (unsent g l K + size)) (cause.Slow (unsent g l K) size)

  -- ---- the table

  -- at an entry as a whole: H is the chronicle before it, K with it
  abbrev pub cause_at : Input → List Mark → List Mark → Life → Option Cause
  cause_at (input.Datagram from o) H K v = where_so (is_last_beacon v (beacon_in o)) cause.Beacon
  cause_at (input.Shut c) H K v = where_so (is_open c K && is_run_by (runs c K) v) cause.Shut
  cause_at (input.Reply l o) H K v =
      if nat_eq v.link l && is_linked l K
      then cause_by_reply (slow_at (unsent g l K) (newly_pinged l H K)) (reply_fault (replies l K)) else None
  cause_at (input.Unlinked l) H K v = where_so (nat_eq v.link l) cause.Link
  cause_at input.Tick H K v =
      if is_silent g g.expired K v then Some cause.Expired
      else slow_by v.link (where_so (is_evasive g K v) body.Ping) K
  cause_at (input.Do command.Quit) H K v = Some cause.Stop
  cause_at (input.Do c) H K v = slow_by v.link (due_by c K v) K
  cause_at input.End H K v = Some cause.Stop
  cause_at _ H K v = None

  -- at a message on the connection that runs it: PING-OK is due where a PING is counted
  abbrev pub answer_due : Body → Option Body
  answer_due body.Ping = Some body.PingOk
  answer_due _ = None

  abbrev pub cause_of_message : ℕ → Message → List Mark → Option Cause
  cause_of_message l m K =
      if is_hello m.body then Some cause.Hello
      else if not (nat_eq m.sequence (due (counted l K))) then Some (cause.Order (due (counted l K)) m.sequence)
      else if not (is_small (view_of (counted l K ++ m ∷ []))) then Some cause.Limit
      else slow_by l (answer_due m.body) K

  -- at what is said on a live connection
  abbrev pub cause_said : ℕ → Said → List Mark → Life → Option Cause
  cause_said c (Arrived (arrival.Shaken p)) K v =
      where_so (is_none (identity c K) && is_run_by (option_and_then (λ d. runs d K) (other_with p c K)) v) cause.Taken
  cause_said c (Arrived (arrival.Message m)) K v =
      if is_run_by (runs c K) v then cause_of_message v.link m K else None
  cause_said c (Fault f) K v = where_so (is_run_by (runs c K) v) cause.Fault
  cause_said c _ K v = None

-- ---- what comes about

abbrev pub end_of : ℕ → Mark → Option Cause
end_of l (Ends k why) = if nat_eq l k then Some why else None
end_of l _ = None

-- the causes with which the peer of link l ends among these marks
abbrev pub ends_in : ℕ → List Mark → List Cause
ends_in l hs = filter_map (end_of l) hs

-- A known peer ends at a place exactly where the table has a cause for it, with that cause, and once.
pub record EndsByTable (g : Config) (J : List Entry) : Type 0 where
  pub at_entries : (earlier : List Entry) (e : Entry) (later : List Entry) (v : Life) → IsEntry g J earlier e later
      → is_piece e.input ≡ false → let H = chronicle g earlier in let K = Comes e ∷ H in life v.link K ≡ Some v
      → ends_in v.link (at_input g e.input H K) ≡ cons_option (cause_at g e.input H K v) []
  pub as_said : (c : ℕ) (one : Said) (K : List Mark) (v : Life) → Arrives g J c one K → life v.link K ≡ Some v
      → ends_in v.link (at_place g c one K) ≡ cons_option (if is_live c K then cause_said g c one K v else None) []
