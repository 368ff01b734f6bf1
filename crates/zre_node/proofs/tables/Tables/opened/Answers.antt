use Rattle.std.proofs.Common.{ℕ, ◌≤◌, ◌<◌, ◌++◌, [], ◌∷◌, List, refl, sym, ap, ◌∙◌, nat_cmp, subst, append-nil}
use Rattle.std.specs.BTreeMap.{insert_entry}
use Rattle.zre_journal.specs.Chronicle.{Opens, TurnsAway}
use Rattle.zre_outside.specs.declared.act.Act.TheVariants as act
use Rattle.zre_tables.specs.declared.connection.Connection.{Connection}
use Rattle.zre_node.specs.declared.effects.Effects.{Effects}
use Rattle.zre_values.proofs.AnswersThatAreOk.{on_ok}
use Rattle.zre_node.proofs.MarksAfterMarks.{did_as, did_by}
use Rattle.zre_node.proofs.ConnectionsComeAndGo.{open_count, opens, turns_away, too_many, has_room}
use Rattle.zre_node.proofs.tables.Tables.opened.Goals as goal

pub returns-then-len-ge-CONNECTIONS : goal.returns-then-len-ge-CONNECTIONS
returns-then-len-ge-CONNECTIONS c = λ g H h.
    let new = h.keeps.last_is c.args.conn ∙ sym c.is_new.ensures ∙ c.if-not-is_new.false in
    let full = subst (λ (k : ℕ). 512 ≤ k) (c.len.ensures ∙ open_count g H c.args.self.now h.keeps) c.if-len-ge-CONNECTIONS.true in
    on_ok c.close.result c.close.ensures (λ out. did_as g _ (TurnsAway c.args.conn ∷ []) H _ _ _ (too_many g H c.args.conn new full)
    (did_by g (TurnsAway c.args.conn ∷ []) H _ c.args.out.now c.close.new.self (turns_away g H c.args.self.now c.args.conn h new)
    (ap (λ (s : Effects). s.events) out) (ap (λ (s : Effects). s.acts) out) (ap (λ (s : Effects). s.pushed) out) (λ l. refl)))

pub returns : goal.returns
returns c = λ g H h.
    let new = h.keeps.last_is c.args.conn ∙ sym c.is_new.ensures ∙ c.if-not-is_new.false in
    let room = subst (λ (k : ℕ). k < 512) (c.len.ensures ∙ open_count g H c.args.self.now h.keeps) c.if-len-ge-CONNECTIONS.false in
    let row = c.in_ok-insert.ensures.ok ∙ ap (λ (x : Connection). insert_entry nat_cmp c.args.self.now.conns c.args.conn x) c.opened-opened.ensures in
    on_ok c.answer.result c.answer.ensures (λ out. did_as g _ (Opens c.args.conn ∷ []) H _ _ _ (has_room g H c.args.conn new room)
    (did_by g (Opens c.args.conn ∷ []) H _ c.args.out.now c.answer.new.self (opens g H c.args.self.now c.args.conn h new c.insert.new.self row)
    (ap (λ (s : Effects). s.events) out ∙ sym (append-nil c.args.out.now.events))
    (ap (λ (s : Effects). s.acts) out ∙ ap (λ (o : List ℕ). c.args.out.now.acts ++ act.Answer c.args.conn o ∷ []) (c.in_ok-copy.ensures ∙ c.greeting.ensures))
    (ap (λ (s : Effects). s.pushed) out) (λ l. refl)))
