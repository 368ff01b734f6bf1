use Rattle.std.proofs.Common.{ℕ, List, None, sym, ap, ◌∙◌, subst}
use Rattle.std.specs.FinMap as map
use Rattle.zre_timers.specs.Moments.{Moments}
use Rattle.zre_tables.specs.Rows.{row_at}
use Rattle.zre_tables.specs.declared.peer.Peer.{Peer}
use Rattle.zre_tables.specs.Agreement.{Agree}
use Rattle.zre_tables.proofs.SumsAgreeWithRows.{insert_agrees, taken_back}
use Rattle.zre_tables.proofs.RowsInOrder.{at_come}
use Rattle.zre_tables.proofs.peers.Peers.insert.Goals as goal

pub invariant_of-self-in-Ok : goal.invariant_of-self-in-Ok
invariant_of-self-in-Ok c =
    let i = c.self.inside in
    let w : Peer = record { id = c.args.id; active = c.args.now; run = None; link = c.args.link } in
    insert_agrees i.rows.all.items c.insert.new.self.all.items i.heard c.touch.new.self i.rewound c.args.number w c.in_ok-touch.ensures.ok c.in-Ok.ensures.rising
    (λ q. ap (row_at q) c.in-Ok.ensures.ok ∙ at_come c.args.number q w i.rows.all.items) c.self.invariant

pub invariant_of-self-in-Err : goal.invariant_of-self-in-Err
invariant_of-self-in-Err c =
    let i = c.self.inside in
    subst (λ (es : List (ℕ × Peer)). Agree es c.forget.new.self i.rewound) (sym c.in-Err.ensures.err)
    (taken_back i.rows.all.items i.heard c.forget.new.self i.rewound c.args.number c.in-Err.ensures.absent
    (c.forget.ensures ∙ ap (λ (m : Moments). map.remove m c.args.number) c.in_ok-touch.ensures.ok) c.self.invariant)
