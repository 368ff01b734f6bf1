-- The examples compute.
use Rattle.std.proofs.Common.{refl}
use Rattle.std.specs.Fmt.{digits}
use Rattle.zre_zmtp.specs.Ready.{properties_within}
use Rattle.zre_zmtp.specs.Run.{run}
use Rattle.zre_zmtp.specs.Stream.{greeting_fault, frame_why, part_len, cut, item}
use Rattle.zre_msg.specs.Reading.{string_at, long_string_at, pair_at, each_at, strings_at, dictionary_at, hello_at, join_at, leave_at, shout_at, command_of, read_of}
use Rattle.zre_peer.specs.Views.{view_of, is_small}
use Rattle.zre_net.specs.Example.{IsExample}
use Rattle.zre_net.specs.Joined.{IsJoined}
use Rattle.zre_net.specs.Restart.{IsRestart}

pub tells : IsExample
unfolding properties_within run greeting_fault frame_why part_len cut item string_at long_string_at pair_at each_at strings_at dictionary_at hello_at join_at leave_at shout_at command_of read_of view_of is_small digits
tells = record { is_good_left_out = refl; tells_left_out = refl; is_good_all = refl; tells_all = refl; not_queued = refl; not_pending = refl; not_again = refl }

pub restarts : IsRestart
unfolding properties_within run greeting_fault frame_why part_len cut item string_at long_string_at pair_at each_at strings_at dictionary_at hello_at join_at leave_at shout_at command_of read_of view_of is_small digits
restarts = record { good = refl; queued_is = refl; pending_is = refl; other_id = refl; no_port = refl; gone = refl; old_link = refl; new_good = refl; routes_are = refl; takes_over = refl }

pub joins_first : IsJoined
unfolding properties_within run greeting_fault frame_why part_len cut item string_at long_string_at pair_at each_at strings_at dictionary_at hello_at join_at leave_at shout_at command_of read_of view_of is_small digits
joins_first = record { is_good = refl; is_known = refl; is_run = refl; counts_one = refl; shows = refl; was = refl; is_now = refl }
