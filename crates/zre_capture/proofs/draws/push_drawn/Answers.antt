use Rattle.std.proofs.Common.{ℕ, List, length, ap, refl, arith}
use Rattle.zre_capture.proofs.OctetsOfDraws.{next_draw, all_drawn, all_drawn_octets}
use Rattle.zre_capture.proofs.draws.push_drawn.Goals as goal

pub draws-init : goal.draws-init
draws-init c = record { after = refl; octets = refl; total = refl }

pub draws-preserved : goal.draws-preserved
draws-preserved c =
    next_draw _ _ _ _ c.draws.out _ _ c.to_be_bytes.result _ c.upper_half.result c.draws.invariant c.draws-test.true
    c.drawn-x.ensures c.upper_half.ensures c.to_be_bytes.ensures c.append.ensures

pub returns : goal.returns
returns c = record {
  after = all_drawn _ _ _ _ _ _ c.draws.invariant c.draws-test.false;
  octets = all_drawn_octets _ _ _ _ _ _ c.draws.invariant c.draws-test.false;
}

pub append-requires : goal.append-requires
append-requires c = omega (arith, c.draws.invariant.total, c.draws-test.true, c.requires, ap (λ (o : List ℕ). length o) c.to_be_bytes.ensures)
