use Rattle.std.proofs.Common.{sym}
use Rattle.zre_node.specs.Stands.{IsPeer}
use Rattle.zre_node.proofs.BirthsAndBeacons.{renewed}
use Rattle.zre_node.proofs.RowsOfKnownPeers.{known_row}
use Rattle.zre_node.proofs.tables.Tables.renew.Goals as goal

pub returns : goal.returns
returns c = λ g H h s.
    let r = known_row (IsPeer g H) H c.args.self.now.peers h.peers c.args.link s in
    renewed g H c.args.self.now h c.args.link r.0 c.touch.new.self (sym r.1) (c.touch.ensures.found r.0 r.1)
