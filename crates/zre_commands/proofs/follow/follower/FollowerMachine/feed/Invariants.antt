use Rattle.std.proofs.Common.{length}
use Rattle.zre_commands.proofs.follow.FollowFedParts.{IsAmid}
use Rattle.zre_commands.proofs.follow.follower.FollowerMachine.feed.Given as goal

abbrev pub invariant-loop-rest : goal.invariant-loop-rest
invariant-loop-rest l = IsAmid l.fn.self l.self l.piece l.rest l.fn.out l.out

abbrev pub decreases-loop-rest : goal.decreases-loop-rest
decreases-loop-rest l = length l.rest
