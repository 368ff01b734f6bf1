use Rattle.zre_shared.proofs.MapKeepsTable.{next-greater}
use Rattle.zre_shared.proofs.replica.Replica.set.Goals as goal

pub frame-requires : goal.frame-requires
frame-requires c = c.in_ok-write.ensures.is

pub put-requires : goal.put-requires
put-requires c = c.in_ok-write.ensures.is

pub returns-in_err-write-clause-greater : goal.returns-in_err-write-clause-greater
returns-in_err-write-clause-greater c = next-greater c.args.self.now c.args.key.now c.args.value.now

pub returns-in_err-frame-clause-greater : goal.returns-in_err-frame-clause-greater
returns-in_err-frame-clause-greater c = next-greater c.args.self.now c.args.key.now c.args.value.now

pub returns-in_default-clause-greater : goal.returns-in_default-clause-greater
returns-in_default-clause-greater c = next-greater c.args.self.now c.args.key.now c.args.value.now

pub returns-clause-greater : goal.returns-clause-greater
returns-clause-greater c = next-greater c.args.self.now c.args.key.now c.args.value.now
