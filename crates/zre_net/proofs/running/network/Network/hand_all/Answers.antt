use Rattle.std.proofs.Common.{◌≡◌, ◌-◌, arith, subst, ℕ}
use Rattle.zre_net.specs.declared.moves.Move.TheVariants as move
use Rattle.zre_net.specs.Comes.{with_move}
use Rattle.zre_net.specs.Running.{StandsAfter}
use Rattle.zre_net.proofs.OctetsByPart.{hand_on}
use Rattle.zre_net.proofs.running.network.Network.hand_all.Goals as goal

pub parts-init : goal.parts-init
parts-init c =
    let f = c.in_ok-left.ensures.few in
    let same : c.in_ok-left.field-0 ≡ c.args.count - (c.args.count - c.in_ok-left.field-0) = omega (arith, f) in record {
      few = omega arith;
      rest = c.in_ok-left.ensures.waiting;
      come = λ H d s t e. subst (λ (k : ℕ). StandsAfter (with_move (move.Piece c.args.conn k c.args.at) H) c.hand.new.self) same (c.in_ok-left.ensures.come H d s t e);
    }

pub parts-preserved : goal.parts-preserved
parts-preserved c =
    let i = c.parts.invariant in
    let f = c.in_ok-came.ensures.few in record {
      few = (let w = i.few in omega (arith, w, f));
      rest = c.in_ok-came.ensures.waiting;
      come = λ H d s t e. hand_on H c.args.conn c.args.count c.parts.left c.in_ok-came.came c.args.at d c.args.self.now c.hand-in-parts.new.self s t i.few f
          (c.in_ok-came.ensures.come (with_move (move.Piece c.args.conn (c.args.count - c.parts.left) c.args.at) H) d (i.come H d s t e) t e);
    }

pub returns : goal.returns
returns c = λ H d s t e.
    let z = c.parts-test.false in
    let same : c.args.count - c.parts.left ≡ c.args.count = omega (arith, z) in
    subst (λ (k : ℕ). StandsAfter (with_move (move.Piece c.args.conn k c.args.at) H) c.parts.self) same (c.parts.invariant.come H d s t e)
