use Rattle.std.proofs.Common.{ℕ, ◌∷◌, List, Option, None, IfOk, length, max, ap, sym, ◌∙◌, subst}
use Rattle.zre_zmtp.specs.Looks.{Looks}
use Rattle.zre_peer.specs.declared.causes.Cause.{Cause}
use Rattle.zre_journal.specs.Chronicle.{Comes}
use Rattle.zre_journal.specs.Held.{kept}
use Rattle.zre_tables.specs.declared.peer.Peer.{Peer}
use Rattle.zre_node.specs.Links.{IsReplied}
use Rattle.zre_node.specs.Stands.{IsPeer}
use Rattle.zre_node.proofs.LooksOfEntries.{replied_looks, unknown_looks}
use Rattle.zre_node.proofs.RowsOfKnownPeers.{Found, Missing, peer_row}
use Rattle.zre_node.proofs.RepliesOnLinks.{not_replied, replied}
use Rattle.zre_node.proofs.tables.Tables.come_reply.Goals as goal

pub returns-clause-came : goal.returns-clause-came
returns-clause-came over c = λ g H e at_is is h.
    let t = c.args.self.now in
    let l = c.args.reply.now.from in
    let now = ap (λ (m : ℕ). max m t.clock) at_is ∙ sym c.max-self.ensures in
    subst (λ (m : ℕ). IfOk c.reply.result (λ why. IsReplied g H e l why (record t { clock = m; peers = c.reply.new.self }))) now
    (elim (peer_row (IsPeer g H) H t.peers h.peers l) [
      | Found v k f o p ↦ replied g H t h e l c.args.reply.now.bytes.now is k (sym o) c.reply.new.self c.reply.result (λ own ms q n. c.reply.ensures.standing k own ms q n o) (c.reply.ensures.waiting k o)
      | Missing f o ↦
          let r = c.reply.ensures.missing o in
          subst (λ x. IfOk x (λ why. IsReplied g H e l why (record t { clock = max e.at t.clock; peers = c.reply.new.self }))) (sym r.1)
          (subst (λ (P : List (ℕ × Peer)). IsReplied g H e l None (record t { clock = max e.at t.clock; peers = P })) (sym r.0) (not_replied g H t h e l c.args.reply.now.bytes.now is f))
    ])

pub returns-clause-looks : goal.returns-clause-looks
returns-clause-looks over c = λ g H e is h.
    let t = c.args.self.now in
    let l = c.args.reply.now.from in
    elim (peer_row (IsPeer g H) H t.peers h.peers l) [
      | Found v k f o p ↦ replied_looks g H t h e l c.args.reply.now.bytes.now is k (sym o) c.reply.result c.args.steps.now c.reply.new.steps (λ own ms b q n. c.reply.ensures.looks k own ms b q n o)
      | Missing f o ↦
          subst (λ n. Looks c.args.steps.now n (kept g H) (kept g (Comes e ∷ H)) (length c.args.reply.now.bytes.now) c.reply.result) (sym (c.reply.ensures.missing o).2)
          (unknown_looks g H t h e l c.args.reply.now.bytes.now is (Option Cause) c.reply.result c.args.steps.now f)
    ]
