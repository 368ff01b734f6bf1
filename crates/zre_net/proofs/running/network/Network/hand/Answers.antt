use Rattle.std.proofs.Common.{◌≡◌, ◌∷◌, ◌∙◌, Some, ap, sym, refl, subst, arith, length, List, ℕ}
use Rattle.zre_outside.specs.declared.entry.Input.TheVariants as input
use Rattle.zre_journal.specs.Chronicle.{Comes}
use Rattle.zre_net.specs.declared.moves.Move.TheVariants as move
use Rattle.zre_net.specs.Comes.{turn_of, with_move}
use Rattle.zre_net.specs.History.{Happens, incarnations, chronicle_of}
use Rattle.zre_net.specs.Lists.{nth}
use Rattle.zre_net.specs.Running.{AreNodes, StandsAfter}
use Rattle.zre_net.specs.Sender.{is_slight}
use Rattle.zre_net.proofs.ListsCountedFromOne.{at_place}
use Rattle.zre_net.proofs.OpeningConnections.{same_fields}
use Rattle.zre_net.proofs.OctetsByPart.{hand_stands, slight_now}
use Rattle.zre_net.proofs.MovesWithEntries.{still}
use Rattle.zre_net.proofs.running.network.Network.hand.Goals as goal

pub returns-clause-come : goal.returns-clause-come
returns-clause-come c = λ H d s t e.
    let q = c.in-Some-checked_sub.ensures in
    let n = c.len-count.ensures.value in
    let b = c.in_ok-octets.octets in
    let under = c.in-Some.ensures.place.0 in
    let was = at_place c.args.self.now.conns.items _ c.in-Some.place _ _ c.as_slice.ensures.value c.in-Some.ensures.place.1 c.index_mut.ensures.value in
    let same : c.in_ok-bytes.bytes ≡ b = c.in_ok-bytes.ensures ∙ c.as_slice-2.ensures in
    let known = ap (λ k. nth k (incarnations H)) e ∙ (s.conns_are.each c.args.conn d t).is.to_known in
    let m = move.Piece c.args.conn (length b) c.args.at in
    let slight = slight_now H c.args.conn c.in-Some.place c.args.most c.args.at c.args.self.now s d t c.index_mut.result.now c.hear.new.carrier under was b c.in_ok-octets.ensures in
    let nodes = subst (λ (o : List ℕ). AreNodes (Happens m (Some (turn_of d.to c.args.at (input.Piece c.args.conn o))) ∷ H) c.step.new.self) same
    (c.in_ok-step.ensures.nodes H m d.to (same_fields H c.args.self.now _ s.nodes.said refl refl refl refl refl refl s.nodes) (still (move.Piece c.args.conn (length b) c.args.at) tt) known
    (subst (λ (o : List ℕ). is_slight d.to.settings (input.Piece c.args.conn o) (chronicle_of d.to H) (Comes (turn_of d.to c.args.at (input.Piece c.args.conn o)).entry ∷ chronicle_of d.to H)) (sym same) slight)) in
    subst (λ (k : ℕ). StandsAfter (with_move (move.Piece c.args.conn k c.args.at) H) c.step.new.self) (sym n)
    (hand_stands H c.args.conn c.in-Some.place c.args.most c.args.at c.args.self.now s d t c.index_mut.result.now c.hear.new.carrier under was b c.in_ok-octets.ensures c.step.new.self nodes (ap (λ v. v.items) c.in_ok-step.ensures.conns)
    (let r = c.in_ok-step.ensures.pending in omega (arith, q.0, q.1, n, r)))
