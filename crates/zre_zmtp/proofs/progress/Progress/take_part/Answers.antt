use Rattle.std.proofs.Common.{length, ap, arith}
use Rattle.zre_zmtp.proofs.FrameFaults.{one_octet, room-greeting, room-header}
use Rattle.zre_zmtp.proofs.LooksByTurn.{paid}
use Rattle.zre_zmtp.proofs.progress.Progress.take_part.Goals as goal

pub returns-in-Greeting-default-clause-ok : goal.returns-in-Greeting-default-clause-ok
returns-in-Greeting-default-clause-ok g c =
    let one = one_octet c.args.octets.now _ c.requires.some c.requires.room (room-greeting _ _ _ c.in-Greeting-default.is-0) in
    λ w. rw one (c.take_greeting.ensures.ok c.args.want.now w)

pub returns-in-Greeting-default-clause-refused : goal.returns-in-Greeting-default-clause-refused
returns-in-Greeting-default-clause-refused g c =
    let one = one_octet c.args.octets.now _ c.requires.some c.requires.room (room-greeting _ _ _ c.in-Greeting-default.is-0) in
    λ w. rw one (c.take_greeting.ensures.refused c.args.want.now w)

pub returns-in_default-None : goal.returns-in_default-None
returns-in_default-None g c =
    let one = one_octet c.args.octets.now _ c.requires.some c.requires.room (room-header _ _ _ c.in_default-None.is-1) in
    record {
      ok = λ w. rw one (c.take_header.ensures.ok w);
      refused = λ w. rw one (c.take_header.ensures.refused w);
      looks = record {
        once = omega arith;
        paid = paid c.take_header.result _ _ _ _ _ _ (omega (arith, ap length one)) c.take_header.ensures.held;
      };
    }

pub returns-in-Greeting-default-clause-looks : goal.returns-in-Greeting-default-clause-looks
returns-in-Greeting-default-clause-looks g c =
    let one = one_octet c.args.octets.now _ c.requires.some c.requires.room (room-greeting _ _ _ c.in-Greeting-default.is-0) in
    rw one c.take_greeting.ensures.looks
