use Rattle.std.proofs.Common.{◌≡◌, ◌∷◌, refl}
use Rattle.zre_capture.specs.Left.{left}
use Rattle.zre_node.specs.Kinds.{piece_entry}
use Rattle.zre_commands.proofs.exercise.NodeOnJournal.{takes_none, takes_one, two_less}
use Rattle.zre_commands.proofs.exercise.run.CountingNode.take_messages.Goals as goal

pub messages-init : goal.messages-init
messages-init c = takes_none (left c.args.exercise.now) c.args.self.now

pub messages-preserved : goal.messages-preserved
messages-preserved c =
    let x = c.next_message.new.self in
    let e = piece_entry c.in-Some.message c.conn_of-conn.result c.first.result.now in
    let f = piece_entry c.in-Some.message c.conn_of-conn.result c.second.result.now in
    let split : left c.messages.exercise ≡ e ∷ f ∷ left x = rw (c.conn_of-conn.ensures, c.first.ensures, c.second.ensures) c.in-Some.ensures.given in
    takes_one _ (f ∷ left x) (left x) f _ c.take_piece.new.self c.take_piece-in-Some.new.self refl
    (takes_one _ (left c.messages.exercise) (f ∷ left x) e _ c.messages.self c.take_piece.new.self split c.messages.invariant c.in_ok-take_piece.ensures)
    c.in_ok-take_piece-2.ensures

pub messages-smaller : goal.messages-smaller
messages-smaller c = two_less (left c.messages.exercise) (left c.next_message.new.self) _ _ c.in-Some.ensures.given
