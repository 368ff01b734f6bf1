use Rattle.std.proofs.Common.{[], ◌∷◌, refl, sym, ap, ◌∙◌, append-nil}
use Rattle.zre_journal.specs.Chronicle.{Ignores}
use Rattle.zre_node.specs.declared.effects.Effects.{Effects}
use Rattle.zre_node.specs.Stands.{kept_conn}
use Rattle.zre_values.proofs.AnswersThatAreOk.{on_ok}
use Rattle.zre_node.proofs.EndsOfPeers.{conn_row}
use Rattle.zre_node.proofs.MarksAfterMarks.{did_by}
use Rattle.zre_node.proofs.FirstMessages.{live_open, refused}
use Rattle.zre_node.proofs.tables.Tables.refuse.Goals as goal

pub returns : goal.returns
returns c = λ g H h live idle.
    let row = c.ignore.ensures.found (kept_conn g H c.args.conn) (conn_row g H c.args.self.now h.keeps c.args.conn (live_open c.args.conn H live)) in
    on_ok c.ignored.result c.ignored.ensures (λ out.
    did_by g (Ignores c.args.conn c.args.why ∷ []) H _ c.args.out.now c.ignored.new.self (refused g H c.args.self.now h c.args.conn c.args.why live idle c.ignore.new.self row)
    (ap (λ (s : Effects). s.events) out) (ap (λ (s : Effects). s.acts) out ∙ sym (append-nil c.args.out.now.acts)) (ap (λ (s : Effects). s.pushed) out) (λ l. refl))
