use Rattle.std.proofs.Common.{◌<◌, get_or, arith, rules, refl}
use Rattle.zre_values.specs.Text.{id_text}
use Rattle.zre_values.proofs.IdTexts.{written-none, written-more, written-all}
use Rattle.zre_values.proofs.peer_id.PeerId.write.Goals as goal

pub octets-init : goal.octets-init
octets-init c = written-none c.args.self.0 _ refl

pub octets-preserved : goal.octets-preserved
octets-preserved c =
    let fits : get_or c.args.self.0 c.octets.i 0 < 256 = search rules in
    written-more c.args.self.0 c.octets.text c.row_of-row.result c.octets.i c.octets.invariant (omega (arith, c.octets-test.true)) fits c.row_of-row.ensures

pub returns : goal.returns
unfolding id_text
returns c = written-all c.args.self.0 c.octets.text c.octets.i c.octets.invariant (omega (arith, c.octets-test.false))
