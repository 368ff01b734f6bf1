use Rattle.std.proofs.Common.{◌+◌, ◌∙◌, Option, List, ℕ, ap, refl, subst}
use Rattle.zre_net.specs.declared.moves.Move.TheVariants as move
use Rattle.zre_net.specs.Lists.{nth}
use Rattle.zre_net.specs.Rows.{IsSpelledAt}
use Rattle.zre_net.proofs.ListsCountedFromOne.{at_place, nth_at}
use Rattle.zre_net.proofs.MovesWithEntries.{refused}
use Rattle.zre_net.proofs.MovesWithoutEntries.{carry_refused, carry_played}
use Rattle.zre_net.proofs.running.network.Network.carry.Goals as goal

pub returns-in_default-2 : goal.returns-in_default-2
returns-in_default-2 c = λ H s.
    let row = c.index.result.now in
    let was = at_place c.args.self.now.conns.items _ c.in-Some.place _ _ c.as_slice.ensures.value c.in-Some.ensures.place.1 c.index.ensures in
    refused (move.Carry c.args.conn c.args.part) H _ (carry_refused H c.args.self.now s c.args.conn c.args.part row (nth_at c.args.conn c.in-Some.place c.args.self.now.conns.items c.in-Some.ensures.place.0 ∙ was)
    (subst (λ (o : Option (List ℕ)). IsSpelledAt (nth row.along.start c.args.self.now.started.items) row.along.link c.args.part o) c.in_default-2.is c.in_ok-octets.ensures))

pub returns : goal.returns
returns c = λ H s.
    let q = c.in-Some-checked_add.ensures in
    let n = c.len.ensures in
    let row = c.index.result.now in
    let is = nth_at c.args.conn c.in-Some.place c.args.self.now.conns.items c.in-Some.ensures.place.0 ∙ at_place c.args.self.now.conns.items _ c.in-Some.place _ _ c.as_slice.ensures.value c.in-Some.ensures.place.1 c.index.ensures in
    let was = at_place c.args.self.now.conns.items _ c.in-Some.place _ _ c.as_slice.ensures.value c.in-Some.ensures.place.1 c.index_mut.ensures.value in
    carry_played H c.args.self.now s c.args.conn c.args.part row is c.in-Some-2.octets
    (subst (λ (o : Option (List ℕ)). IsSpelledAt (nth row.along.start c.args.self.now.started.items) row.along.link c.args.part o) c.in-Some-2.is c.in_ok-octets.ensures)
    c.in-Some.place c.index_mut.result.now c.load.new.carrier _ c.in-Some.ensures.place.0 was c.in_ok-load.ensures
    refl (q.1 ∙ ap (λ k. c.args.self.now.pending + k) n) refl refl refl s.nodes.said refl refl refl
