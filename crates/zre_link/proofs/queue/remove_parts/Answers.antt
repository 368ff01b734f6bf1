use Rattle.std.proofs.Common.{arith}
use Rattle.zre_link.proofs.RemovedOctets.{part_gone, part_begun}
use Rattle.zre_link.proofs.queue.remove_parts.Goals as goal

pub parts-preserved-else-left-len : goal.parts-preserved-else-left-len
parts-preserved-else-left-len c =
    part_gone c.args.parts.now.items c.in-Some.part c.pop_front.new.self.items c.parts.parts.items c.args.count c.parts.left c.len-len.result c.in-Some.ensures.items c.len-len.ensures.value
    (omega (arith, c.if-left-len.false)) c.parts.invariant

pub parts-preserved : goal.parts-preserved
parts-preserved c =
    part_gone c.args.parts.now.items c.in-Some.part c.pop_front.new.self.items c.parts.parts.items c.args.count c.parts.left c.len-len.result c.in-Some.ensures.items c.len-len.ensures.value
    (omega (arith, c.if-left-len.false)) c.parts.invariant

pub returns-then-left-len-clause-removed : goal.returns-then-left-len-clause-removed
returns-then-left-len-clause-removed c =
    (part_begun c.args.parts.now.items c.in-Some.part c.advance.new.self c.pop_front.new.self.items c.parts.parts.items c.push_front_reserved.new.self.items c.args.count c.parts.left c.in-Some.ensures.items
    (omega (arith, c.len-len.ensures.value, c.if-left-len.true)) c.advance.ensures c.push_front_reserved.ensures.items c.parts.invariant).0

pub returns-then-left-len-clause-missing : goal.returns-then-left-len-clause-missing
returns-then-left-len-clause-missing c =
    (part_begun c.args.parts.now.items c.in-Some.part c.advance.new.self c.pop_front.new.self.items c.parts.parts.items c.push_front_reserved.new.self.items c.args.count c.parts.left c.in-Some.ensures.items
    (omega (arith, c.len-len.ensures.value, c.if-left-len.true)) c.advance.ensures c.push_front_reserved.ensures.items c.parts.invariant).1

pub returns-then-left-len-clause-have_octets : goal.returns-then-left-len-clause-have_octets
returns-then-left-len-clause-have_octets c =
    (part_begun c.args.parts.now.items c.in-Some.part c.advance.new.self c.pop_front.new.self.items c.parts.parts.items c.push_front_reserved.new.self.items c.args.count c.parts.left c.in-Some.ensures.items
    (omega (arith, c.len-len.ensures.value, c.if-left-len.true)) c.advance.ensures c.push_front_reserved.ensures.items c.parts.invariant).2
