use Rattle.std.proofs.Common.{◌++◌, ℕ, List, [], ◌∷◌, get_or, sym, ap, subst, ◌∙◌}
use Rattle.zre_zmtp.specs.declared.bodies.Came.{Came}
use Rattle.zre_zmtp.specs.declared.bodies.Came.TheVariants as came
use Rattle.zre_zmtp.specs.declared.partial.Partial.{Partial}
use Rattle.zre_zmtp.specs.Lending.{TakesPiece}
use Rattle.zre_zmtp.specs.Frame.{header_of}
use Rattle.zre_zmtp.proofs.HeaderParts.{ended_on}
use Rattle.zre_zmtp.proofs.progress.Progress.end_head.Goals as goal

pub returns-in-Message-clause-taken : goal.returns-in-Message-clause-taken
returns-in-Message-clause-taken g c =
    ended_on (came.Message c.in-Message.lent) c.args.self.now c.replace-kept.new.dest c.go_on.new.self c.in-Some.header c.push.new.self c.args.piece.now c.split_at.result.0.now c.split_at.result.1.now c.requires.traffic c.requires.unknown (ap (λ (x : Partial). x.head) c.replace-kept.ensures.after) (ap (λ (x : Partial). x.header) c.replace-kept.ensures.after)
    (ap (λ (x : Partial). x.body) c.replace-kept.ensures.after ∙ c.new.ensures.empty) (c.push.ensures ∙ ap (λ (x : List ℕ). x ++ get_or c.args.piece.now 0 0 ∷ []) (c.of-head.ensures ∙ c.as_slice.ensures)) (sym (c.fault_of_whole.ensures c.push.new.self (ap header_of (sym c.as_slice-2.ensures) ∙ sym c.read_header.ensures ∙ c.in-Some.is)) ∙ c.in_default-fault_of_whole.is)
    c.split_at.ensures.front c.split_at.ensures.front_len c.split_at.ensures.back (subst (λ (x : Came). TakesPiece x (record c.args.self.now { partial = c.replace-kept.new.dest }) c.go_on.new.self c.split_at.result.1.now) c.in-Message.is c.in_ok-lent.ensures.taken)

pub returns-in-Part-clause-taken : goal.returns-in-Part-clause-taken
returns-in-Part-clause-taken g c =
    ended_on came.Part c.args.self.now c.replace-kept.new.dest c.go_on.new.self c.in-Some.header c.push.new.self c.args.piece.now c.split_at.result.0.now c.split_at.result.1.now c.requires.traffic c.requires.unknown (ap (λ (x : Partial). x.head) c.replace-kept.ensures.after) (ap (λ (x : Partial). x.header) c.replace-kept.ensures.after)
    (ap (λ (x : Partial). x.body) c.replace-kept.ensures.after ∙ c.new.ensures.empty) (c.push.ensures ∙ ap (λ (x : List ℕ). x ++ get_or c.args.piece.now 0 0 ∷ []) (c.of-head.ensures ∙ c.as_slice.ensures)) (sym (c.fault_of_whole.ensures c.push.new.self (ap header_of (sym c.as_slice-2.ensures) ∙ sym c.read_header.ensures ∙ c.in-Some.is)) ∙ c.in_default-fault_of_whole.is)
    c.split_at.ensures.front c.split_at.ensures.front_len c.split_at.ensures.back (subst (λ (x : Came). TakesPiece x (record c.args.self.now { partial = c.replace-kept.new.dest }) c.go_on.new.self c.split_at.result.1.now) c.in-Part.is c.in_ok-lent.ensures.taken)
