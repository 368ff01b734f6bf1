use Rattle.std.proofs.Common.{◌∙◌, sym, ap, Some, List, ℕ}
use Rattle.zre_values.specs.Text.{quoted}
use Rattle.zre_values.proofs.PlainOctets.{quoted-plain}
use Rattle.zre_values.proofs.QuotedTexts.{quoted-one, plain-fits}
use Rattle.zre_values.proofs.unquoting.unquote.Goals as goal

pub returns-then-are_plain-clause-value : goal.returns-then-are_plain-clause-value
returns-then-are_plain-clause-value c =
    let same = quoted-plain c.args.text.now (sym c.is_empty.ensures ∙ c.if-is_empty.false) (sym c.are_plain.ensures ∙ c.if-are_plain.true) in
    sym same ∙ ap quoted (sym c.in_ok-copy.ensures)

pub returns-then-are_plain-clause-back : goal.returns-then-are_plain-clause-back
returns-then-are_plain-clause-back c = λ v fits e.
    let same = quoted-plain c.args.text.now (sym c.is_empty.ensures ∙ c.if-is_empty.false) (sym c.are_plain.ensures ∙ c.if-are_plain.true) in
    let one = quoted-one c.args.text.now v (plain-fits c.args.text.now (sym c.are_plain.ensures ∙ c.if-are_plain.true)) fits (same ∙ e) in
    ap (λ (o : List ℕ). Some o) (c.in_ok-copy.ensures ∙ sym one)
