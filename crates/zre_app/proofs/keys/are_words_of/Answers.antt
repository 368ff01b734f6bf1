use Rattle.std.proofs.Common.{◌&&◌, ap, sym, ◌∙◌}
use Rattle.std.specs.List.{list_all}
use Rattle.std.specs.Prelude.{count_by}
use Rattle.zre_app.specs.Keys.{begins, may_stand}
use Rattle.zre_app.proofs.KeysAsNames.{words_in}
use Rattle.zre_app.proofs.keys.are_words_of.Goals as goal

pub returns-then-all_known : goal.returns-then-all_known
returns-then-all_known c =
    c.all_stand.ensures
    ∙ ap (λ b. b && list_all (λ key. may_stand key.1 (count_by (begins key.0.now) c.args.words.now)) c.args.keys.now) (sym c.if-all_known.true ∙ c.all_known.ensures)
    ∙ words_in (λ key. key.0.now) (λ key. key.1) c.args.keys.now c.args.words.now

pub returns-else-all_known : goal.returns-else-all_known
returns-else-all_known c =
    c.if-all_known.false
    ∙ ap (λ b. b && list_all (λ key. may_stand key.1 (count_by (begins key.0.now) c.args.words.now)) c.args.keys.now) (sym c.if-all_known.false ∙ c.all_known.ensures)
    ∙ words_in (λ key. key.0.now) (λ key. key.1) c.args.keys.now c.args.words.now
