use Rattle.std.proofs.Common.{◌+◌}
use Rattle.zre_capture.proofs.EntriesLeft.{peer_comes, peers_end}
use Rattle.zre_capture.proofs.exercise.Exercise.after.Goals as goal

pub returns-then-peer-self : goal.returns-then-peer-self
returns-then-peer-self c = peer_comes (c.args.peer + 1) c.args.self.now.peers _ c.if-peer-self.true

pub returns-else-peer-self : goal.returns-else-peer-self
returns-else-peer-self c = peers_end (c.args.peer + 1) c.args.self.now.peers _ c.if-peer-self.false
