use Rattle.std.proofs.Common.{Some, refl, sym}
use Rattle.zre_node.specs.Stands.{IsPeer, kept_conn}
use Rattle.zre_node.proofs.EndsOfPeers.{conn_row}
use Rattle.zre_node.proofs.RowsOfKnownPeers.{peer_of}
use Rattle.zre_node.proofs.FirstMessages.{live_open, starts}
use Rattle.zre_node.proofs.tables.Tables.start.Goals as goal

pub returns : goal.returns
returns c = λ g H m v h live idle k who stands of.
    let t = c.args.self.now in
    let row = conn_row g H t h.keeps c.args.conn (live_open c.args.conn H live) in
    let p = peer_of (IsPeer g H) H t.peers h.peers c.args.link v k in
    starts g H t h c.args.conn c.args.link m v live idle k who c.carry.new.self (c.carry.ensures.found (kept_conn g H c.args.conn) row)
    p.0 (record p.0 { active = t.clock; run = Some (record { conn = c.args.conn; run = c.args.run }) }) c.enter.new.self (sym p.1) refl refl refl
    (record { conn = c.args.conn; run = c.args.run }, refl, record { conn = refl; stands = stands; of = of }) (c.enter.ensures.found p.0 p.1)
