use Rattle.std.proofs.Common.{ℕ, List, [], ◌∷◌, ◌++◌, ◌+◌, ◌%◌, codes, ap, sym, ◌∙◌, arith}
use Rattle.zre_values.specs.Framing.{frame}
use Rattle.zre_msg.specs.Spelling.{head, string}
use Rattle.zre_capture.specs.Draws.{octets_drawn}
use Rattle.zre_capture.specs.Exercise.{status}
use Rattle.zre_capture.proofs.SpelledMessages.{join_spelled, shout_spelled, whisper_spelled, leave_spelled, still_after, still_after_leave, drawn_after_shout, drawn_after_whisper}
use Rattle.zre_capture.proofs.talk.spell.Goals as goal
use Rattle.zre_capture.proofs.talk.spell.Goals.{then-kind-eq0, else-kind-eq0}

pub returns-then-kind-eq1-clause-octets : goal.returns-then-kind-eq1-clause-octets
returns-then-kind-eq1-clause-octets c =
    c.push_content.ensures.octets ∙ ap (λ (o : List ℕ). o ++ frame 0 (octets_drawn 8 c.args.x)) c.spell_shout.ensures
    ∙ sym (shout_spelled c.args.k c.args.x c.if-kind-eq1.true)

pub returns-then-kind-eq1-clause-after : goal.returns-then-kind-eq1-clause-after
returns-then-kind-eq1-clause-after c = c.push_content.ensures.after ∙ sym (drawn_after_shout c.args.k c.args.x c.if-kind-eq1.true)

pub returns-then-kind-eq2-clause-octets : goal.returns-then-kind-eq2-clause-octets
returns-then-kind-eq2-clause-octets c =
    c.push_content-then-kind-eq2.ensures.octets ∙ ap (λ (o : List ℕ). o ++ frame 0 (octets_drawn 8 c.args.x)) c.spell_whisper.ensures
    ∙ sym (whisper_spelled c.args.k c.args.x c.if-kind-eq2.true)

pub returns-then-kind-eq2-clause-after : goal.returns-then-kind-eq2-clause-after
returns-then-kind-eq2-clause-after c = c.push_content-then-kind-eq2.ensures.after ∙ sym (drawn_after_whisper c.args.k c.args.x c.if-kind-eq2.true)

pub returns-clause-octets : goal.returns-clause-octets
returns-clause-octets c =
    let k = c.args.k in
    let of_command = λ (n : ℕ). frame 0 (head n ((2 + k) % 65536) ++ (string (codes "all") ++ status k ∷ [])) in
    c.spell_change.ensures ∙ elim c.if-kind-eq0.branch [
      | then-kind-eq0 w ↦ ap of_command w.command-is ∙ sym (join_spelled k c.args.x w.if-kind-eq0.true)
      | else-kind-eq0 w ↦ ap of_command w.command-is ∙ sym (leave_spelled k c.args.x (omega (arith, c.if-kind-eq1.false, c.if-kind-eq2.false, w.if-kind-eq0.false)))
    ]

pub returns-clause-after : goal.returns-clause-after
returns-clause-after c = elim c.if-kind-eq0.branch [
  | then-kind-eq0 w ↦ sym (still_after c.args.k c.args.x w.if-kind-eq0.true)
  | else-kind-eq0 w ↦ sym (still_after_leave c.args.k c.args.x (omega (arith, c.if-kind-eq1.false, c.if-kind-eq2.false, w.if-kind-eq0.false)))
]
