use Rattle.std.proofs.Common.{◌∙◌, sym}
use Rattle.zre_net.proofs.OctetsByPart.{piece_refused, piece_played, waiting_is}
use Rattle.zre_net.proofs.running.network.Network.piece.Goals as goal

pub returns-then-not-has_waiting : goal.returns-then-not-has_waiting
returns-then-not-has_waiting c = λ H s. piece_refused H c.args.conn c.args.count c.args.at c.in-Some.to c.args.self.now (c.in-Some.ensures H s) (λ d t. waiting_is H c.args.self.now s c.args.conn c.args.count d t) (sym c.has_waiting.ensures ∙ c.if-not-has_waiting.true)

pub returns : goal.returns
returns c = λ H s. piece_played H c.args.conn c.args.count c.args.at c.in-Some.to c.args.self.now (c.in-Some.ensures H s) (λ d t. waiting_is H c.args.self.now s c.args.conn c.args.count d t) c.hand_all.new.self (sym c.has_waiting.ensures ∙ c.if-not-has_waiting.false) (λ d t e. c.in_ok-hand_all.ensures H d s t e)
