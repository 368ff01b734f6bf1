use Rattle.std.proofs.Common.{◌∙◌, ap, map, ◌++◌, ◌∷◌, []}
use Rattle.zre_values.proofs.AnswersThatAreOk.{on_ok}
use Rattle.zre_net.specs.Texts.{text_at}
use Rattle.zre_net.proofs.TextsStay.{same_texts, more_texts, on_error}
use Rattle.zre_net.proofs.running.texts.Texts.push.Goals as goal

pub returns-clause-ok : goal.returns-clause-ok
returns-clause-ok c = on_ok c.push.result c.push.ensures.ok (λ e.
    ap (map (text_at c.put.new.short c.put.new.long)) e
    ∙ more_texts _ _ _ _ (record { octets = c.args.text; at = c.args.at }) c.in_ok-place.place c.in_ok-place.ensures.ok c.self.inside.places c.self.invariant
    ∙ ap (λ ts. ts ++ record { octets = c.args.text; at = c.args.at } ∷ []) c.self.view_is)

pub returns-clause-err : goal.returns-clause-err
returns-clause-err c = on_error c.push.result c.push.ensures.err (λ e.
    ap (map (text_at c.put.new.short c.put.new.long)) e
    ∙ same_texts _ _ _ _ (record { octets = c.args.text; at = c.args.at }) c.in_ok-place.place c.in_ok-place.ensures.ok c.self.inside.places c.self.invariant ∙ c.self.view_is)
