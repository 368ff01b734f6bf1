use Rattle.zre_console.proofs.reader.PutOfPieces.{took-quit, took-front, took-some}
use Rattle.zre_console.proofs.reader.putting.ChatPipes.take_piece.Goals as goal

pub returns-in-Quit-clause-took : goal.returns-in-Quit-clause-took
returns-in-Quit-clause-took g c = λ o known none.
    took-quit _ c.feed-fed.result o c.args.piece.now _ _ (c.feed-fed.ensures.ok o known) (c.feed-fed.ensures.front o known) c.new-commands.ensures.items none _ _ (rw c.in-Quit.is at c.put_all-pass.ensures.sent)

pub returns-in-Over-clause-took : goal.returns-in-Over-clause-took
returns-in-Over-clause-took g c = λ o known none.
    took-front _ c.feed-fed.result o c.args.piece.now _ _ (c.feed-fed.ensures.ok o known) (c.feed-fed.ensures.front o known) c.new-commands.ensures.items none _ _ (rw c.in-Over.is at c.put_all-pass.ensures.sent)

pub returns-in-Err-clause-took : goal.returns-in-Err-clause-took
returns-in-Err-clause-took g c = λ o known none.
    took-some _ c.feed-fed.result o c.args.piece.now _ _ (c.feed-fed.ensures.ok o known) (c.feed-fed.ensures.front o known) c.new-commands.ensures.items none _ _ (rw c.in-On.is at c.put_all-pass.ensures.sent)
