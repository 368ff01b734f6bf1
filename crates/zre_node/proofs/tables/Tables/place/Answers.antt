use Rattle.std.proofs.Common.{ℕ, ◌<◌, ◌≤◌, ◌∙◌, sym, subst}
use Rattle.zre_journal.specs.Peers.{Life, lives, life_of}
use Rattle.zre_node.specs.Stands.{IsPeer}
use Rattle.zre_node.proofs.MarksOfDatagrams.{link_found, its_life, no_life}
use Rattle.zre_tables.proofs.EntriesOfMaps.{as_many}
use Rattle.zre_node.proofs.FirstMessages.{no_endpoint, full}
use Rattle.zre_node.proofs.tables.Tables.place.Goals as goal

pub returns-in-Some : goal.returns-in-Some
returns-in-Some c = λ g H h. its_life (life_of c.args.peer H) c.in-Some.link (c.in-Some.ensures ∙ link_found g H c.args.self.now c.args.peer h)

pub returns-in-Some-mailbox_of : goal.returns-in-Some-mailbox_of
returns-in-Some-mailbox_of c = λ g H h. (
  no_life (life_of c.args.peer H) (c.in_default.ensures ∙ link_found g H c.args.self.now c.args.peer h),
  sym c.in-Some-mailbox_of.ensures,
  subst (λ (n : ℕ). n < 256) (c.len.ensures ∙ as_many (λ (v : Life). v.link) (IsPeer g H) (lives H) c.args.self.now.peers h.peers) c.if-len-lt-PEERS.true,
)

pub returns-in-Some-2 : goal.returns-in-Some-2
returns-in-Some-2 c = λ g H h. (
  no_life (life_of c.args.peer H) (c.in_default.ensures ∙ link_found g H c.args.self.now c.args.peer h),
  full g c.args.peer c.args.message.now H c.in-Some-mailbox_of.to (sym c.in-Some-mailbox_of.ensures) (subst (λ (n : ℕ). 256 ≤ n) (c.len.ensures ∙ as_many (λ (v : Life). v.link) (IsPeer g H) (lives H) c.args.self.now.peers h.peers) c.if-len-lt-PEERS.false),
)

pub returns-in-None : goal.returns-in-None
returns-in-None c = λ g H h.
    (no_life (life_of c.args.peer H) (c.in_default.ensures ∙ link_found g H c.args.self.now c.args.peer h), no_endpoint g c.args.peer c.args.message.now H (sym c.in-None.ensures))
