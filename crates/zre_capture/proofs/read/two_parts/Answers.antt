use Rattle.std.proofs.Common.{List, ℕ, sym, ap, ◌∙◌}
use Rattle.std.specs.Prelude.{option_map}
use Rattle.zre_capture.proofs.FieldByField.{two-whole, two-cut}
use Rattle.zre_capture.proofs.read.two_parts.Goals as goal

pub returns-in_err-first : goal.returns-in_err-first
returns-in_err-first c = rw c.from_residual.ensures (sym (two-whole c.args.octet c.args.text.now c.in_err-first.ensures.none))

pub returns-in_err-second : goal.returns-in_err-second
returns-in_err-second c =
    let cut = two-cut c.args.octet c.args.text.now c.in_ok-first.first.now c.in_ok-first.rest.now c.in_ok-first.ensures.parts c.in_ok-first.ensures.first in
    rw c.from_residual-in_err-second.ensures (sym (cut ∙ ap (option_map (λ (g : List ℕ). (c.in_ok-first.first.now, g))) (sym c.in_err-second.ensures)))

pub returns : goal.returns
returns c =
    let cut = two-cut c.args.octet c.args.text.now c.in_ok-first.first.now c.in_ok-first.rest.now c.in_ok-first.ensures.parts c.in_ok-first.ensures.first in
    sym (cut ∙ ap (option_map (λ (g : List ℕ). (c.in_ok-first.first.now, g))) (sym c.in_ok-second.ensures))
