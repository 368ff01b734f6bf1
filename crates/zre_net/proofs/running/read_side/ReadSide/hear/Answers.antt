use Rattle.std.proofs.Common.{◌∙◌, ◌||◌, ap, refl}
use Rattle.zre_mailbox.specs.Conn.{is_spent}
use Rattle.zre_net.proofs.CompletedByMore.{deaf, heard}
use Rattle.zre_net.proofs.running.read_side.ReadSide.hear.Goals.{then-ignored-via-then-ignored, then-ignored-via-else-ignored+then-spent}
use Rattle.zre_net.proofs.running.read_side.ReadSide.hear.Goals as goal

pub returns-then-ignored : goal.returns-then-ignored
returns-then-ignored c = λ own o e. elim c.then-ignored.branch [
  | then-ignored-via-then-ignored w ↦ deaf own o c.args.piece.now c.args.self.now.conn c.ignored.result (is_spent c.args.self.now.conn) e c.ignored.ensures refl (ap (λ x. x || is_spent c.args.self.now.conn) w.if-ignored.true)
  | then-ignored-via-else-ignored+then-spent w ↦ deaf own o c.args.piece.now c.args.self.now.conn c.ignored.result w.spent.result e c.ignored.ensures w.spent.ensures (ap (λ x. x || w.spent.result) w.if-ignored.false ∙ w.if-spent.true)
]

pub returns-in-Ok : goal.returns-in-Ok
returns-in-Ok c = λ own o e.
    let h = c.in-Ok.ensures.ok own o e in
    (c.len-arrivals.ensures ∙ heard own o c.args.piece.now c.feed-fed.new.self c.new-out.result c.feed-fed.new.out c.new-out.ensures h.0 h.1, h.1.now_is)
