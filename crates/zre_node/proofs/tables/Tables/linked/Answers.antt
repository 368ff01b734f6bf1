use Rattle.std.proofs.Common.{ℕ, List, refl, sym, subst}
use Rattle.zre_journal.specs.Chronicle.{after}
use Rattle.zre_journal.specs.LinkEntries.{at_linked}
use Rattle.zre_journal.specs.Links.{line, is_linked, replies, taken}
use Rattle.zre_journal.specs.Peers.{life}
use Rattle.zre_tables.specs.declared.peer.Peer.{Peer}
use Rattle.zre_node.specs.Stands.{Holds}
use Rattle.zre_node.proofs.EffectsOnLinks.{at_link, linked_holds, unlinked_holds}
use Rattle.zre_node.proofs.tables.Tables.linked.Goals as goal

pub returns : goal.returns
returns c = λ g K h.
    let l = c.args.link in
    at_link g K c.args.self.now h l
    (λ k o is. linked_holds g K c.args.self.now h l k (sym o) _ c.linked.new.self refl (c.linked.ensures.found k g.id (line l K) (is_linked l K) (replies l K) (taken l K) o is))
    (λ f o. subst (λ (P : List (ℕ × Peer)). Holds g (after (at_linked g l (life l K) K) K) (record c.args.self.now { peers = P })) (sym (c.linked.ensures.missing o)) (unlinked_holds g K c.args.self.now l h f))
