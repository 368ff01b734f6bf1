use Rattle.zre_zmtp.specs.Stream.{Whole}
use Rattle.zre_zmtp.specs.declared.want.Want.TheVariants.{Router}
use Rattle.zre_link.specs.Heard.{expected_of}
use Rattle.zre_link.proofs.HeardReplies.{awaited_more, pinged, read_refused}
use Rattle.zre_link.proofs.awaits.Awaits.read_piece.Goals as goal

pub returns-in-Ok-clause-ok : goal.returns-in-Ok-clause-ok
returns-in-Ok-clause-ok g c = λ o h e.
    let fed = c.in-Ok.ensures.ok Router Whole o h in (
      fed.0,
      awaited_more o c.args.piece.now c.args.out.now c.feed_counted-fed.new.out (expected_of c.args.self.now) (expected_of c.after.result) c.len.result e c.requires fed.1 c.len.ensures c.after.ensures,
      pinged o c.args.piece.now c.args.out.now c.feed_counted-fed.new.out c.requires fed.1,
    )

pub returns-in-Err-clause-refused : goal.returns-in-Err-clause-refused
returns-in-Err-clause-refused g c = λ o h e.
    read_refused o c.args.piece.now c.in-Err.fault c.args.out.now c.feed_counted-fed.new.out (expected_of c.args.self.now) (expected_of c.after.result) c.len.result e c.requires
    (c.in-Err.ensures.refused Router Whole o h) c.len.ensures c.after.ensures
