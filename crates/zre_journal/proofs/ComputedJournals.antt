-- Worked journals, whose events the definitions compute.
use Rattle.std.specs.Prelude.{◌≡◌, ℕ, List, [], ◌∷◌, ◌++◌, codes, map, take, drop}
use Rattle.std.proofs.Common.{refl}
use Rattle.std.specs.Fmt.{digits}
use Rattle.zre_values.specs.declared.peer_id.PeerId.{PeerId}
use Rattle.zre_outside.specs.declared.entry.Entry.{Entry}
use Rattle.zre_outside.specs.declared.entry.Input.{Input}
use Rattle.zre_outside.specs.declared.entry.Input.TheVariants as input
use Rattle.zre_outside.specs.declared.entry.Command.{Command}
use Rattle.zre_outside.specs.declared.entry.Command.TheVariants as command
use Rattle.zre_msg.specs.Reading.{string_at, long_string_at, pair_at, each_at, strings_at, dictionary_at, hello_at, join_at, leave_at, shout_at, command_of, read_of}
use Rattle.zre_msg.specs.declared.message.Body.TheVariants as body
use Rattle.zre_zmtp.specs.Ready.{properties_within}
use Rattle.zre_zmtp.specs.Stream.{greeting_fault, frame_why, part_len, cut, item}
use Rattle.zre_zmtp.specs.declared.fault.ZmtpWhy.TheVariants as zmtp
use Rattle.zre_peer.specs.Views.{view_of, is_small}
use Rattle.zre_peer.specs.declared.event.Event.{Event}
use Rattle.zre_peer.specs.declared.event.Event.TheVariants as event
use Rattle.zre_peer.specs.declared.causes.Cause.{Cause}
use Rattle.zre_peer.specs.declared.causes.Cause.TheVariants as cause
use Rattle.zre_peer.specs.declared.causes.CloseWhy.TheVariants as close
use Rattle.zre_peer.specs.declared.causes.IgnoreWhy.TheVariants as ignore
use Rattle.zre_peer.specs.declared.causes.RefuseWhy.TheVariants as refuse
use Rattle.zre_values.specs.declared.settings.Settings.{Settings as Config}
use Rattle.zre_journal.specs.Events.{chronicle, events}
use Rattle.zre_journal.specs.Links.{bodies, unsent}
use Rattle.zre_journal.specs.Peers.{Life, lives, view}

abbrev P : PeerId
P = record { 0 = 0 ∷ 1 ∷ 2 ∷ 3 ∷ 4 ∷ 5 ∷ 6 ∷ 7 ∷ 8 ∷ 9 ∷ 10 ∷ 11 ∷ 12 ∷ 13 ∷ 14 ∷ 15 ∷ [] }

abbrev pub me : Config
me = record {
  id = record { 0 = 255 ∷ 238 ∷ 221 ∷ 204 ∷ 187 ∷ 170 ∷ 153 ∷ 136 ∷ 119 ∷ 102 ∷ 85 ∷ 68 ∷ 51 ∷ 34 ∷ 17 ∷ 0 ∷ [] };
  name = codes "Me";
  headers = [];
  host = 10 ∷ 0 ∷ 0 ∷ 1 ∷ [];
  port = 49153;
  evasive = 5000;
  expired = 30000;
}

abbrev pub host : List ℕ
host = 10 ∷ 0 ∷ 0 ∷ 2 ∷ []

-- a beacon of the peer, and its last one
abbrev pub B : List ℕ
B = 90 ∷ 82 ∷ 69 ∷ 1 ∷ 0 ∷ 1 ∷ 2 ∷ 3 ∷ 4 ∷ 5 ∷ 6 ∷ 7 ∷ 8 ∷ 9 ∷ 10 ∷ 11 ∷ 12 ∷ 13 ∷ 14 ∷ 15 ∷ 192 ∷ 0 ∷ []

abbrev B0 : List ℕ
B0 = 90 ∷ 82 ∷ 69 ∷ 1 ∷ 0 ∷ 1 ∷ 2 ∷ 3 ∷ 4 ∷ 5 ∷ 6 ∷ 7 ∷ 8 ∷ 9 ∷ 10 ∷ 11 ∷ 12 ∷ 13 ∷ 14 ∷ 15 ∷ 0 ∷ 0 ∷ []

-- its greeting, READY and HELLO
abbrev pub G : List ℕ
G = 255 ∷ 0 ∷ 0 ∷ 0 ∷ 0 ∷ 0 ∷ 0 ∷ 0 ∷ 0 ∷ 127 ∷ 3 ∷ 0 ∷ 78 ∷ 85 ∷ 76 ∷ 76 ∷ 0 ∷ 0 ∷ 0 ∷ 0 ∷ 0 ∷ 0 ∷ 0 ∷ 0 ∷ 0 ∷ 0 ∷ 0 ∷ 0 ∷ 0 ∷ 0 ∷ 0 ∷ 0 ∷ 0 ∷ 0 ∷ 0 ∷ 0 ∷ 0 ∷ 0 ∷ 0 ∷ 0 ∷ 0 ∷ 0 ∷ 0 ∷ 0 ∷ 0 ∷ 0 ∷ 0 ∷ 0 ∷ 0 ∷ 0 ∷ 0 ∷ 0 ∷ 0 ∷ 0 ∷ 0 ∷ 0 ∷ 0 ∷ 0 ∷ 0 ∷ 0 ∷ 0 ∷ 0 ∷ 0 ∷ 0 ∷ []

abbrev RP : List ℕ
RP = 4 ∷ 58 ∷ 5 ∷ 82 ∷ 69 ∷ 65 ∷ 68 ∷ 89 ∷ 11 ∷ 83 ∷ 111 ∷ 99 ∷ 107 ∷ 101 ∷ 116 ∷ 45 ∷ 84 ∷ 121 ∷ 112 ∷ 101 ∷ 0 ∷ 0 ∷ 0 ∷ 6 ∷ 68 ∷ 69 ∷ 65 ∷ 76 ∷ 69 ∷ 82 ∷ 8 ∷ 73 ∷ 100 ∷ 101 ∷ 110 ∷ 116 ∷ 105 ∷ 116 ∷ 121 ∷ 0 ∷ 0 ∷ 0 ∷ 17 ∷ 1 ∷ 0 ∷ 1 ∷ 2 ∷ 3 ∷ 4 ∷ 5 ∷ 6 ∷ 7 ∷ 8 ∷ 9 ∷ 10 ∷ 11 ∷ 12 ∷ 13 ∷ 14 ∷ 15 ∷ []

abbrev H : List ℕ
H = 0 ∷ 40 ∷ 170 ∷ 161 ∷ 1 ∷ 2 ∷ 0 ∷ 1 ∷ 20 ∷ 116 ∷ 99 ∷ 112 ∷ 58 ∷ 47 ∷ 47 ∷ 49 ∷ 48 ∷ 46 ∷ 48 ∷ 46 ∷ 48 ∷ 46 ∷ 50 ∷ 58 ∷ 52 ∷ 57 ∷ 49 ∷ 53 ∷ 50 ∷ 0 ∷ 0 ∷ 0 ∷ 0 ∷ 0 ∷ 3 ∷ 65 ∷ 110 ∷ 110 ∷ 0 ∷ 0 ∷ 0 ∷ 0 ∷ []

-- its JOIN of `chat` with a number below 256
abbrev pub J : ℕ → List ℕ
J n = 0 ∷ 12 ∷ 170 ∷ 161 ∷ 4 ∷ 2 ∷ 0 ∷ n ∷ 4 ∷ 99 ∷ 104 ∷ 97 ∷ 116 ∷ 1 ∷ []

-- READY of a ROUTER
abbrev pub RR : List ℕ
RR = 4 ∷ 28 ∷ 5 ∷ 82 ∷ 69 ∷ 65 ∷ 68 ∷ 89 ∷ 11 ∷ 83 ∷ 111 ∷ 99 ∷ 107 ∷ 101 ∷ 116 ∷ 45 ∷ 84 ∷ 121 ∷ 112 ∷ 101 ∷ 0 ∷ 0 ∷ 0 ∷ 6 ∷ 82 ∷ 79 ∷ 85 ∷ 84 ∷ 69 ∷ 82 ∷ []

abbrev pub at : ℕ → Input → Entry
at n i = record { at = n; input = i }

abbrev pub beacon : ℕ → List ℕ → Entry
beacon n o = at n (input.Datagram host o)

abbrev pub opened : ℕ → ℕ → Entry
opened n c = at n (input.Opened c)

abbrev pub piece : ℕ → ℕ → List ℕ → Entry
piece n c o = at n (input.Piece c o)

abbrev pub tick : ℕ → Entry
tick n = at n input.Tick

abbrev pub asks : Command → Entry
asks c = at 200 (input.Do c)

abbrev ann : List ℕ
ann = codes "Ann"

abbrev pub enter : Event
enter = event.Enter P ann (codes "tcp://10.0.0.2:49152") []

abbrev pub exit : Cause → Event
exit why = event.Exit P ann why

-- a beacon, a connection, and all that it says up to HELLO
abbrev pub base : List Entry
base = beacon 0 B ∷ opened 0 1 ∷ piece 100 1 (G ++ RP ++ H) ∷ []

-- the peer enters
enters : events me base ≡ enter ∷ []
unfolding digits properties_within greeting_fault frame_why part_len cut item string_at long_string_at pair_at each_at strings_at dictionary_at hello_at join_at leave_at shout_at command_of read_of view_of is_small
enters = refl

abbrev taken : List Entry
taken = base ++ piece 200 1 (J 2) ∷ opened 300 2 ∷ piece 300 2 (G ++ RP ++ H) ∷ []

-- the same identity comes on another connection, and the view begins anew
takes_over : events me taken ≡ enter ∷ event.Join P ann (codes "chat") ∷ exit cause.Taken ∷ event.Closed 1 close.Taken ∷ enter ∷ []
unfolding digits properties_within greeting_fault frame_why part_len cut item string_at long_string_at pair_at each_at strings_at dictionary_at hello_at join_at leave_at shout_at command_of read_of view_of is_small
takes_over = refl

-- so it has no groups
view_begins_anew : map (λ (v : Life). (view v.link (chronicle me taken)).groups) (lives (chronicle me taken)) ≡ [] ∷ []
unfolding digits properties_within greeting_fault frame_why part_len cut item string_at long_string_at pair_at each_at strings_at dictionary_at hello_at join_at leave_at shout_at command_of read_of view_of is_small
view_begins_anew = refl

abbrev shut : List Entry
shut = base ++ at 200 (input.Shut 1) ∷ opened 300 2 ∷ piece 300 2 (G ++ RP ++ J 9) ∷ beacon 400 B ∷ []

-- a connection that doesn't begin with HELLO is ignored, and closed in time
is_ignored : events me (shut ++ tick 30300 ∷ []) ≡ enter ∷ exit cause.Shut ∷ event.Ignored 2 ignore.NotHello ∷ event.Closed 2 close.Timeout ∷ []
unfolding digits properties_within greeting_fault frame_why part_len cut item string_at long_string_at pair_at each_at strings_at dictionary_at hello_at join_at leave_at shout_at command_of read_of view_of is_small
is_ignored = refl

-- the peer that came back has another link
second_link : map (λ (v : Life). v.link) (lives (chronicle me shut)) ≡ 2 ∷ []
unfolding digits properties_within greeting_fault frame_why part_len cut item string_at long_string_at pair_at each_at strings_at dictionary_at hello_at join_at leave_at shout_at command_of read_of view_of is_small
second_link = refl

-- with the greeting, READY and HELLO on it
second_link_unsent : unsent me 2 (chronicle me shut) ≡ 165
unfolding digits properties_within greeting_fault frame_why part_len cut item string_at long_string_at pair_at each_at strings_at dictionary_at hello_at join_at leave_at shout_at command_of read_of view_of is_small
second_link_unsent = refl

-- its last beacon ends it
leaves : events me (base ++ beacon 200 (90 ∷ 82 ∷ 69 ∷ 1 ∷ []) ∷ beacon 200 B0 ∷ []) ≡ enter ∷ exit cause.Beacon ∷ []
unfolding digits properties_within greeting_fault frame_why part_len cut item string_at long_string_at pair_at each_at strings_at dictionary_at hello_at join_at leave_at shout_at command_of read_of view_of is_small
leaves = refl

-- silence makes it evasive, and then it expires
falls_silent : events me (base ++ tick 5099 ∷ tick 5100 ∷ tick 4000 ∷ tick 30099 ∷ tick 30100 ∷ []) ≡ enter ∷ event.Evasive P ann ∷ event.Evasive P ann ∷ event.Evasive P ann ∷ exit cause.Expired ∷ []
unfolding digits properties_within greeting_fault frame_why part_len cut item string_at long_string_at pair_at each_at strings_at dictionary_at hello_at join_at leave_at shout_at command_of read_of view_of is_small
falls_silent = refl

-- a beacon shows that it is there
beacon_refreshes : events me (base ++ beacon 5000 B ∷ tick 9999 ∷ tick 10000 ∷ []) ≡ enter ∷ event.Evasive P ann ∷ []
unfolding digits properties_within greeting_fault frame_why part_len cut item string_at long_string_at pair_at each_at strings_at dictionary_at hello_at join_at leave_at shout_at command_of read_of view_of is_small
beacon_refreshes = refl

abbrev commands : List Entry
commands = base ++ asks (command.Whisper P (codes "x" ∷ [])) ∷ asks (command.Leave (codes "h")) ∷ asks (command.Join (codes "g")) ∷ asks (command.Join (codes "g")) ∷ []

-- commands that can't be done
refuses_commands : events me commands ≡ enter ∷ event.Refused (refuse.NoGroup (codes "h")) ∷ event.Refused (refuse.Same (codes "g")) ∷ []
unfolding digits properties_within greeting_fault frame_why part_len cut item string_at long_string_at pair_at each_at strings_at dictionary_at hello_at join_at leave_at shout_at command_of read_of view_of is_small
refuses_commands = refl

-- and what the others put on the link
commands_unsent : unsent me 1 (chronicle me commands) ≡ 187
unfolding digits properties_within greeting_fault frame_why part_len cut item string_at long_string_at pair_at each_at strings_at dictionary_at hello_at join_at leave_at shout_at command_of read_of view_of is_small
commands_unsent = refl

-- a reply that isn't a ROUTER's
reply_of_dealer : events me (base ++ at 200 (input.Linked 1) ∷ at 200 (input.Reply 1 (G ++ RP)) ∷ []) ≡ enter ∷ exit (cause.Reply (record { why = zmtp.SocketType; place = 64 })) ∷ []
unfolding digits properties_within greeting_fault frame_why part_len cut item string_at long_string_at pair_at each_at strings_at dictionary_at hello_at join_at leave_at shout_at command_of read_of view_of is_small
reply_of_dealer = refl

-- the greeting of a later minor version in two pieces, and a READY with one more property
abbrev pub G1 : List ℕ
G1 = take 11 G ++ 1 ∷ drop 12 G

abbrev RX : List ℕ
RX = 4 ∷ 68 ∷ 5 ∷ 82 ∷ 69 ∷ 65 ∷ 68 ∷ 89 ∷ 11 ∷ 83 ∷ 111 ∷ 99 ∷ 107 ∷ 101 ∷ 116 ∷ 45 ∷ 84 ∷ 121 ∷ 112 ∷ 101 ∷ 0 ∷ 0 ∷ 0 ∷ 6 ∷ 68 ∷ 69 ∷ 65 ∷ 76 ∷ 69 ∷ 82 ∷ 8 ∷ 73 ∷ 100 ∷ 101 ∷ 110 ∷ 116 ∷ 105 ∷ 116 ∷ 121 ∷ 0 ∷ 0 ∷ 0 ∷ 17 ∷ 1 ∷ 0 ∷ 1 ∷ 2 ∷ 3 ∷ 4 ∷ 5 ∷ 6 ∷ 7 ∷ 8 ∷ 9 ∷ 10 ∷ 11 ∷ 12 ∷ 13 ∷ 14 ∷ 15 ∷ 5 ∷ 88 ∷ 45 ∷ 70 ∷ 111 ∷ 111 ∷ 0 ∷ 0 ∷ 0 ∷ 0 ∷ []

abbrev in_pieces : List Entry
in_pieces = opened 0 1 ∷ piece 0 1 (take 10 G1) ∷ piece 0 1 (drop 10 G1) ∷ piece 0 1 RX ∷ piece 0 1 H ∷ piece 0 1 (J 2) ∷ beacon 900 B0 ∷ []

-- a connection without a beacon before it
enters_by_hello : events me in_pieces ≡ enter ∷ event.Join P ann (codes "chat") ∷ exit cause.Beacon ∷ []
unfolding digits properties_within greeting_fault frame_why part_len cut item string_at long_string_at pair_at each_at strings_at dictionary_at hello_at join_at leave_at shout_at command_of read_of view_of is_small
enters_by_hello = refl

-- another mechanism closes the connection, and nothing comes of what it says then
other_mechanism : events me (opened 0 1 ∷ piece 0 1 (255 ∷ 0 ∷ 0 ∷ 0 ∷ 0 ∷ 0 ∷ 0 ∷ 0 ∷ 0 ∷ 127 ∷ 3 ∷ 0 ∷ codes "PLAIN") ∷ piece 0 1 RX ∷ piece 0 1 H ∷ []) ≡ event.Closed 1 (close.Zmtp (record { why = zmtp.Mechanism; place = 12 })) ∷ []
unfolding digits properties_within greeting_fault frame_why part_len cut item string_at long_string_at pair_at each_at strings_at dictionary_at hello_at join_at leave_at shout_at command_of read_of view_of is_small
other_mechanism = refl

-- a lost message shows at the next one: nothing is told of that one, or of any after it
loss_shows : events me (base ++ piece 200 1 (J 3) ∷ piece 200 1 (J 2) ∷ []) ≡ enter ∷ exit (cause.Order 2 3) ∷ []
unfolding digits properties_within greeting_fault frame_why part_len cut item string_at long_string_at pair_at each_at strings_at dictionary_at hello_at join_at leave_at shout_at command_of read_of view_of is_small
loss_shows = refl

-- one that comes twice shows too
repeat_shows : events me (base ++ piece 200 1 (J 2 ++ J 2) ∷ piece 200 1 (J 3) ∷ []) ≡ enter ∷ event.Join P ann (codes "chat") ∷ exit (cause.Order 3 2) ∷ []
unfolding digits properties_within greeting_fault frame_why part_len cut item string_at long_string_at pair_at each_at strings_at dictionary_at hello_at join_at leave_at shout_at command_of read_of view_of is_small
repeat_shows = refl

abbrev joined : List Entry
joined = asks (command.Join (codes "g")) ∷ asks (command.Join (codes "h")) ∷ asks (command.Leave (codes "g")) ∷ beacon 200 B ∷ []

-- HELLO has the groups of the moment at which it is put on its link, and the status of that moment
hello_has_the_groups_of_its_moment : bodies 1 (chronicle me joined) ≡ body.Hello (codes "tcp://10.0.0.1:49153") (codes "h" ∷ []) 3 (codes "Me") [] ∷ []
unfolding digits properties_within greeting_fault frame_why part_len cut item string_at long_string_at pair_at each_at strings_at dictionary_at hello_at join_at leave_at shout_at command_of read_of view_of is_small
hello_has_the_groups_of_its_moment = refl
