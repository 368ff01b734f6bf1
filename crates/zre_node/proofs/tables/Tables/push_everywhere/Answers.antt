use Rattle.std.proofs.Common.{ℕ, sym, ◌∙◌, subst, List}
use Rattle.zre_journal.specs.Peers.{lives}
use Rattle.zre_node.specs.Stands.{AreKnown}
use Rattle.zre_node.proofs.BodyOnSeveralLinks.{push_links}
use Rattle.zre_node.proofs.FirstMessages.{on_did_as}
use Rattle.zre_node.proofs.StopOfNode.{links_are, all_known}
use Rattle.zre_node.proofs.tables.Tables.push_everywhere.Goals as goal

pub returns : goal.returns
returns c = λ g K h.
    let t = c.args.self.now in
    let links = c.as_slice.ensures ∙ c.in_ok-links.ensures ∙ links_are g K t h in
    on_did_as g _ _ K _ _ _ c.push_all.result (push_links g c.as_slice.result.now (lives K) c.args.body.now K links)
    (c.push_all.ensures.did g K h (subst (λ (ls : List ℕ). AreKnown K ls) (sym links) (all_known g K t h)))
