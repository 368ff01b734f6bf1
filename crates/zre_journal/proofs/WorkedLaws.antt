-- Worked journals of the laws: what is right of each is written down by hand.
use Rattle.std.specs.Prelude.{◌≡◌, ℕ, List, [], ◌∷◌, ◌++◌, codes, map}
use Rattle.std.proofs.Common.{refl}
use Rattle.std.specs.Fmt.{digits}
use Rattle.zre_values.specs.declared.peer_id.PeerId.{PeerId}
use Rattle.zre_outside.specs.declared.act.Act.{Act}
use Rattle.zre_outside.specs.declared.act.Act.TheVariants as act
use Rattle.zre_outside.specs.declared.entry.Entry.{Entry}
use Rattle.zre_outside.specs.declared.entry.Input.TheVariants as input
use Rattle.zre_outside.specs.declared.entry.Command.TheVariants as command
use Rattle.zre_msg.specs.Reading.{string_at, long_string_at, pair_at, each_at, strings_at, dictionary_at, hello_at, join_at, leave_at, shout_at, command_of, read_of}
use Rattle.zre_msg.specs.declared.message.Body.{Body}
use Rattle.zre_msg.specs.declared.message.Body.TheVariants as body
use Rattle.zre_zmtp.specs.Ready.{properties_within}
use Rattle.zre_zmtp.specs.Stream.{greeting_fault, frame_why, part_len, cut, item}
use Rattle.zre_peer.specs.Views.{view_of, is_small}
use Rattle.zre_peer.specs.declared.event.Event.{Event}
use Rattle.zre_peer.specs.declared.event.Event.TheVariants as event
use Rattle.zre_peer.specs.declared.causes.Cause.TheVariants as cause
use Rattle.zre_peer.specs.declared.causes.CloseWhy.TheVariants as close
use Rattle.zre_peer.specs.declared.causes.IgnoreWhy.TheVariants as ignore
use Rattle.zre_journal.specs.Answering.{answered_on}
use Rattle.zre_journal.specs.Events.{chronicle, events, acts}
use Rattle.zre_journal.specs.Leaks.{passages, links_left, conns_left}
use Rattle.zre_journal.specs.Links.{bodies, taken, unsent}
use Rattle.zre_journal.specs.Outgoing.{gone}
use Rattle.zre_journal.specs.Peers.{Life, lives}
use Rattle.zre_journal.proofs.ComputedJournals.{me, B, G, J, RR, at, beacon, opened, piece, tick, asks, enter, exit, base, G1}

-- another peer: its READY and HELLO
abbrev Q : PeerId
Q = record { 0 = 16 ∷ 17 ∷ 18 ∷ 19 ∷ 20 ∷ 21 ∷ 22 ∷ 23 ∷ 24 ∷ 25 ∷ 26 ∷ 27 ∷ 28 ∷ 29 ∷ 30 ∷ 31 ∷ [] }

abbrev RQ : List ℕ
RQ = 4 ∷ 58 ∷ 5 ∷ 82 ∷ 69 ∷ 65 ∷ 68 ∷ 89 ∷ 11 ∷ 83 ∷ 111 ∷ 99 ∷ 107 ∷ 101 ∷ 116 ∷ 45 ∷ 84 ∷ 121 ∷ 112 ∷ 101 ∷ 0 ∷ 0 ∷ 0 ∷ 6 ∷ 68 ∷ 69 ∷ 65 ∷ 76 ∷ 69 ∷ 82 ∷ 8 ∷ 73 ∷ 100 ∷ 101 ∷ 110 ∷ 116 ∷ 105 ∷ 116 ∷ 121 ∷ 0 ∷ 0 ∷ 0 ∷ 17 ∷ 1 ∷ 16 ∷ 17 ∷ 18 ∷ 19 ∷ 20 ∷ 21 ∷ 22 ∷ 23 ∷ 24 ∷ 25 ∷ 26 ∷ 27 ∷ 28 ∷ 29 ∷ 30 ∷ 31 ∷ []

abbrev HQ : List ℕ
HQ = 0 ∷ 40 ∷ 170 ∷ 161 ∷ 1 ∷ 2 ∷ 0 ∷ 1 ∷ 20 ∷ 116 ∷ 99 ∷ 112 ∷ 58 ∷ 47 ∷ 47 ∷ 49 ∷ 48 ∷ 46 ∷ 48 ∷ 46 ∷ 48 ∷ 46 ∷ 51 ∷ 58 ∷ 52 ∷ 57 ∷ 49 ∷ 53 ∷ 50 ∷ 0 ∷ 0 ∷ 0 ∷ 0 ∷ 0 ∷ 3 ∷ 66 ∷ 111 ∷ 98 ∷ 0 ∷ 0 ∷ 0 ∷ 0 ∷ []

abbrev bob : List ℕ
bob = codes "Bob"

abbrev enter_bob : Event
enter_bob = event.Enter Q bob (codes "tcp://10.0.0.3:49152") []

-- ---- a connection is isolated

-- if READY took over from any other open connection, the first peer would be told as gone

-- another peer comes, breaks its run, and its connection is shut
abbrev strangers : List Entry
strangers = base ++ opened 200 2 ∷ piece 200 2 (G ++ RQ ++ HQ) ∷ piece 300 2 (J 3) ∷ at 400 (input.Shut 2) ∷ []

-- nothing is told of the first peer: a READY with another identity takes over from nobody
strangers_tell_nothing : events me strangers ≡ enter ∷ enter_bob ∷ event.Exit Q bob (cause.Order 2 3) ∷ []
unfolding digits properties_within greeting_fault frame_why part_len cut item string_at long_string_at pair_at each_at strings_at dictionary_at hello_at join_at leave_at shout_at command_of read_of view_of is_small
strangers_tell_nothing = refl

-- and its link stays as it was
strangers_put_nothing : unsent me 1 (chronicle me strangers) ≡ 165
unfolding digits properties_within greeting_fault frame_why part_len cut item string_at long_string_at pair_at each_at strings_at dictionary_at hello_at join_at leave_at shout_at command_of read_of view_of is_small
strangers_put_nothing = refl

-- a stranger takes the number of a link
strangers_take_a_link : map (λ (v : Life). v.link) (lives (chronicle me (opened 0 1 ∷ piece 0 1 (G ++ RQ ++ HQ) ∷ beacon 0 B ∷ []))) ≡ 1 ∷ 2 ∷ []
unfolding digits properties_within greeting_fault frame_why part_len cut item string_at long_string_at pair_at each_at strings_at dictionary_at hello_at join_at leave_at shout_at command_of read_of view_of is_small
strangers_take_a_link = refl

-- a stranger's reading moves the clock, by which a tick goes
strangers_move_the_clock : events me (base ++ opened 30100 2 ∷ tick 200 ∷ []) ≡ enter ∷ exit cause.Expired ∷ []
unfolding digits properties_within greeting_fault frame_why part_len cut item string_at long_string_at pair_at each_at strings_at dictionary_at hello_at join_at leave_at shout_at command_of read_of view_of is_small
strangers_move_the_clock = refl

-- ---- nothing leaks

-- if a peer that shut its connection ended without CLOSELINK, its link would be left

abbrev connect : Act
connect = act.Connect 1 (record { addr = 10 ∷ 0 ∷ 0 ∷ 2 ∷ []; port = 49152 })

-- a peer that is known has its link, and an open connection no end
known_and_open : acts me base ≡ connect ∷ act.Answer 1 G1 ∷ act.Answer 1 RR ∷ []
unfolding digits properties_within greeting_fault frame_why part_len cut item string_at long_string_at pair_at each_at strings_at dictionary_at hello_at join_at leave_at shout_at command_of read_of view_of is_small
known_and_open = refl

-- so its link is left
link_is_left : links_left (passages me base) ≡ 1 ∷ []
unfolding digits properties_within greeting_fault frame_why part_len cut item string_at long_string_at pair_at each_at strings_at dictionary_at hello_at join_at leave_at shout_at command_of read_of view_of is_small
link_is_left = refl

-- and its connection is
conn_is_left : conns_left (passages me base) ≡ 1 ∷ []
unfolding digits properties_within greeting_fault frame_why part_len cut item string_at long_string_at pair_at each_at strings_at dictionary_at hello_at join_at leave_at shout_at command_of read_of view_of is_small
conn_is_left = refl

-- where the connection is shut the link is closed
shut_closes_the_link : acts me (base ++ at 200 (input.Shut 1) ∷ []) ≡ connect ∷ act.Answer 1 G1 ∷ act.Answer 1 RR ∷ act.CloseLink 1 ∷ []
unfolding digits properties_within greeting_fault frame_why part_len cut item string_at long_string_at pair_at each_at strings_at dictionary_at hello_at join_at leave_at shout_at command_of read_of view_of is_small
shut_closes_the_link = refl

-- then no link is left, and no connection
none_is_left : let passed = passages me (base ++ at 200 (input.Shut 1) ∷ []) in (links_left passed ≡ []) × (conns_left passed ≡ [])
unfolding digits properties_within greeting_fault frame_why part_len cut item string_at long_string_at pair_at each_at strings_at dictionary_at hello_at join_at leave_at shout_at command_of read_of view_of is_small
none_is_left = (refl, refl)

-- a link that broke is not closed
broken_is_not_closed : acts me (base ++ at 200 (input.Unlinked 1) ∷ []) ≡ connect ∷ act.Answer 1 G1 ∷ act.Answer 1 RR ∷ []
unfolding digits properties_within greeting_fault frame_why part_len cut item string_at long_string_at pair_at each_at strings_at dictionary_at hello_at join_at leave_at shout_at command_of read_of view_of is_small
broken_is_not_closed = refl

-- and not left
no_broken_link_is_left : links_left (passages me (base ++ at 200 (input.Unlinked 1) ∷ [])) ≡ []
unfolding digits properties_within greeting_fault frame_why part_len cut item string_at long_string_at pair_at each_at strings_at dictionary_at hello_at join_at leave_at shout_at command_of read_of view_of is_small
no_broken_link_is_left = refl

-- ---- tables are told

-- if the time of an ignored connection were counted from its opening, it would be closed five seconds sooner

-- a connection that is ignored five seconds after it was opened
abbrev late : List Entry
late = opened 0 2 ∷ piece 0 2 (G ++ RQ) ∷ piece 5000 2 (J 9) ∷ []

-- it is ignored, and `expired` after it was opened nothing more comes
ignored_stays : events me (late ++ tick 34999 ∷ []) ≡ event.Ignored 2 ignore.NotHello ∷ []
unfolding digits properties_within greeting_fault frame_why part_len cut item string_at long_string_at pair_at each_at strings_at dictionary_at hello_at join_at leave_at shout_at command_of read_of view_of is_small
ignored_stays = refl

-- `expired` after it was ignored it is closed
ignored_is_closed : events me (late ++ tick 35000 ∷ []) ≡ event.Ignored 2 ignore.NotHello ∷ event.Closed 2 close.Timeout ∷ []
unfolding digits properties_within greeting_fault frame_why part_len cut item string_at long_string_at pair_at each_at strings_at dictionary_at hello_at join_at leave_at shout_at command_of read_of view_of is_small
ignored_is_closed = refl

-- ---- commands are obeyed

-- if a shout went to each entered peer, the second one would get it too

abbrev hello : Body
hello = body.Hello (codes "tcp://10.0.0.1:49153") [] 0 (codes "Me") []

-- two peers, of which the first is in `chat`; then a shout to `chat` and a whisper to the second
abbrev says : List Entry
says = base ++ piece 100 1 (J 2) ∷ opened 200 2 ∷ piece 200 2 (G ++ RQ ++ HQ) ∷ asks (command.Shout (codes "chat") (codes "hi" ∷ [])) ∷ asks (command.Whisper Q (codes "yo" ∷ [])) ∷ []

-- the first gets the shout alone
member_gets_the_shout : bodies 1 (chronicle me says) ≡ hello ∷ body.Shout (codes "chat") (codes "hi" ∷ []) ∷ []
unfolding digits properties_within greeting_fault frame_why part_len cut item string_at long_string_at pair_at each_at strings_at dictionary_at hello_at join_at leave_at shout_at command_of read_of view_of is_small
member_gets_the_shout = refl

-- the second gets the whisper alone
peer_gets_the_whisper : bodies 2 (chronicle me says) ≡ hello ∷ body.Whisper (codes "yo" ∷ []) ∷ []
unfolding digits properties_within greeting_fault frame_why part_len cut item string_at long_string_at pair_at each_at strings_at dictionary_at hello_at join_at leave_at shout_at command_of read_of view_of is_small
peer_gets_the_whisper = refl

-- ---- what goes out, and what is answered

-- if more were counted as taken than may go out, it would be 110 octets; if PONG had no context, both would be alike

-- the link stands, and more is said to be taken than may go out: the greeting
abbrev went : List Entry
went = base ++ at 200 (input.Linked 1) ∷ at 200 (input.Took 1 10) ∷ at 200 (input.Took 1 100) ∷ []

-- what went out is the greeting
greeting_goes_out : gone me 1 went ≡ G1
unfolding digits properties_within greeting_fault frame_why part_len cut item string_at long_string_at pair_at each_at strings_at dictionary_at hello_at join_at leave_at shout_at command_of read_of view_of is_small
greeting_goes_out = refl

-- 64 octets are counted as taken, and not the 110 that were said to be
greeting_is_counted : taken 1 (chronicle me went) ≡ 64
unfolding digits properties_within greeting_fault frame_why part_len cut item string_at long_string_at pair_at each_at strings_at dictionary_at hello_at join_at leave_at shout_at command_of read_of view_of is_small
greeting_is_counted = refl

-- the greeting, READY, and PONG to each PING, in their order
pings_are_answered : answered_on 1 (acts me (base ++ piece 200 1 (4 ∷ 8 ∷ 4 ∷ 80 ∷ 73 ∷ 78 ∷ 71 ∷ 0 ∷ 0 ∷ 97 ∷ 4 ∷ 8 ∷ 4 ∷ 80 ∷ 73 ∷ 78 ∷ 71 ∷ 0 ∷ 0 ∷ 98 ∷ []) ∷ [])) ≡ G1 ∷ RR ∷ (4 ∷ 6 ∷ 4 ∷ 80 ∷ 79 ∷ 78 ∷ 71 ∷ 97 ∷ []) ∷ (4 ∷ 6 ∷ 4 ∷ 80 ∷ 79 ∷ 78 ∷ 71 ∷ 98 ∷ []) ∷ []
unfolding digits properties_within greeting_fault frame_why part_len cut item string_at long_string_at pair_at each_at strings_at dictionary_at hello_at join_at leave_at shout_at command_of read_of view_of is_small
pings_are_answered = refl

-- ---- silence is told

-- if a peer expired only past `expired`, it would still be known at 30100 in `falls_silent` of `Rows`

-- a peer goes at the first tick after `expired`, and once
goes_at_the_first_tick : events me (base ++ tick 50000 ∷ tick 60000 ∷ []) ≡ enter ∷ exit cause.Expired ∷ []
unfolding digits properties_within greeting_fault frame_why part_len cut item string_at long_string_at pair_at each_at strings_at dictionary_at hello_at join_at leave_at shout_at command_of read_of view_of is_small
goes_at_the_first_tick = refl

-- one that is heard of is never evasive
heard_of_is_not_evasive : events me (base ++ beacon 5000 B ∷ tick 5099 ∷ beacon 9000 B ∷ tick 9999 ∷ tick 13999 ∷ []) ≡ enter ∷ []
unfolding digits properties_within greeting_fault frame_why part_len cut item string_at long_string_at pair_at each_at strings_at dictionary_at hello_at join_at leave_at shout_at command_of read_of view_of is_small
heard_of_is_not_evasive = refl
