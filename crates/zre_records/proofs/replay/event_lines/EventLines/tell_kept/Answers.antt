use Rattle.std.proofs.Common.{◌≡◌, ◌++◌, ◌<◌, ℕ, List, length, get_or, ap, ◌∙◌, sym, subst, rules, ltb-true}
use Rattle.zre_records.specs.declared.replay.event_lines.EvasiveLine.{EvasiveLine}
use Rattle.zre_records.proofs.replay.EvasiveLines.{kept_at, its_line}
use Rattle.zre_records.proofs.replay.event_lines.EventLines.tell_kept.Goals as goal

pub returns : goal.returns
returns c =
    let k = c.in-Some.kept.now in
    let ks = c.self.inside.kept.items in
    let found = subst (λ (xs : List EvasiveLine). (c.args.place < length xs) × (k ≡ get_or xs c.args.place k)) c.deref.ensures.value (ltb-true _ _ (sym c.in-Some.ensures.lookup.0), c.in-Some.ensures.lookup.1) in
    let kept = kept_at ks c.args.place k c.self.invariant found.0 found.1 in
    let same : c.args.id ≡ k.id = search rules in
    let named : c.args.name.now ≡ k.name = search rules in
    c.in_ok-append.ensures.ok ∙ ap (λ (xs : List ℕ). c.args.out.now ++ xs) (c.as_slice-2.ensures ∙ its_line k c.args.id c.args.name.now kept same named)
