use Rattle.std.proofs.Common.{arith}
use Rattle.std.proofs.lemmas.List.{take_rest, length-drop}
use Rattle.std.proofs.lemmas.Grind.{common_steps}
use Rattle.zre_outside.proofs.OctetsMoved.{moved}
use Rattle.zre_outside.proofs.held.Held.give.Goals as goal

pub returns-clause-moved : goal.returns-clause-moved
returns-clause-moved c =
    let e = take_rest c.args.self.now.all c.args.self.now.at in
    moved c.args.self.now.all c.copy_from_slice.new.self _ c.args.self.now.at c.min-n.result (omega (arith, e, length-drop c.args.self.now.at c.args.self.now.all)) (grind (arith, common_steps, e, c.copy_from_slice.ensures.after))
