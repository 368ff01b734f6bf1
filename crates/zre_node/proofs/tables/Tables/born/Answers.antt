use Rattle.std.proofs.Common.{◌≡◌, ◌+◌, ◌++◌, [], ◌∷◌, None, refl, ap, ◌∙◌, nat_cmp}
use Rattle.std.specs.BTreeMap.{insert_entry}
use Rattle.zre_journal.specs.Peers.{births}
use Rattle.zre_outside.specs.declared.act.Act.TheVariants as act
use Rattle.zre_node.specs.declared.effects.Effects.{Effects}
use Rattle.zre_tables.specs.declared.peer.Peer.{Peer}
use Rattle.zre_node.proofs.BirthsAndBeacons.{is_born, birth_did}
use Rattle.zre_values.proofs.AnswersThatAreOk.{on_ok}
use Rattle.zre_node.proofs.tables.Tables.born.Goals as goal

pub returns : goal.returns
returns c = λ g H h.
    let t = c.args.self.now in
    let number : c.in-Some.births ≡ births H + 1 = c.in-Some.ensures.1 ∙ ap (λ k. k + 1) h.keeps.births_is in
    let k : Peer = record { id = c.args.id; active = t.clock; run = None; link = c.in_ok-link.link } in
    let put = c.in_ok-insert.ensures.ok ∙ ap (λ n. insert_entry nat_cmp t.peers n k) number in
    let link = c.in_ok-link.ensures g H h.keeps in
    on_ok c.act.result c.act.ensures (λ out.
    rw number (birth_did g H t h c.args.id c.args.to _ c.args.out.now c.act.new.self
    (is_born g H t h c.args.id c.args.to k c.insert.new.self refl h.keeps.clock_is refl link put)
    (ap (λ (s : Effects). s.events) out)
    (ap (λ (s : Effects). s.acts) out ∙ ap (λ n. c.args.out.now.acts ++ act.Connect n c.args.to ∷ []) number)
    (ap (λ (s : Effects). s.pushed) out ∙ c.in_ok-push.ensures.ok ∙ ap (λ n. c.args.out.now.pushed ++ n ∷ []) number)))
