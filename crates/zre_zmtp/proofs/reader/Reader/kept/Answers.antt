use Rattle.std.proofs.Common.{◌≡◌, length, sym, ap, arith}
use Rattle.std.specs.Prelude.{sum_by}
use Rattle.zre_zmtp.specs.Reading.{Reading}
use Rattle.zre_zmtp.proofs.OctetsHeld.{kept_most}
use Rattle.zre_zmtp.proofs.reader.Reader.kept.Goals as goal

pub returns : goal.returns
returns c = λ want kind o h.
    let most = kept_most want kind o c.args.self.now h in
    let bodies : sum_by length c.args.self.now.before.opened ≡ sum_by length c.self.inside.progress.opened = ap (λ (r : Reading). sum_by length r.before.opened) (sym c.self.view_is) in
    (omega (arith, most, bodies, c.octets-bodies.ensures, c.left_len.ensures, c.saturating_add.ensures), omega (arith, most, bodies, c.octets-bodies.ensures, c.left_len.ensures, c.saturating_add.ensures))
