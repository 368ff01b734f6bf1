use Rattle.std.proofs.Common.{◌≡◌, ◌∙◌, false, true, [], List, Option, refl, sym, subst}
use Rattle.std.specs.Prelude.{option_map}
use mathlib.Core.Logic.{inl, inr}
use Rattle.std.proofs.lemmas.Result.{err_from_is_err_and}
use Rattle.zre_values.specs.declared.endpoint.Endpoint.{Endpoint}
use Rattle.zre_outside.specs.Desks.{Register}
use Rattle.zre_commands.specs.declared.pump.status.Status.TheVariants.{OutOfMemory}
use Rattle.zre_console.proofs.PreparingFailed.{not_begun, not_entered}
use Rattle.zre_console.proofs.StatusIsFirstFailure.{below_self}
use Rattle.zre_console.proofs.EndBeforeStart.{none_started}
use Rattle.zre_gate.specs.Gate.{with_clients}
use Rattle.zre_gate.specs.Stages.{HasGiven}
use Rattle.zre_gate.proofs.DeskClients.{none_given}
use Rattle.zre_gate.proofs.gate.Gate.prepare.Goals as goal

-- no client came yet
none_came : {C : Type 0} (place : Endpoint) (told : Option (Register C)) (given : List C) → given ≡ [] → HasGiven place told told given
none_came place told given none = record { begun = false; is_told = subst (λ xs. told ≡ option_map (with_clients false place xs) told) (sym none) (none_given place told) }

-- no memory for the clients
pub returns-then-is_err-clause-given : goal.returns-then-is_err-clause-given
returns-then-is_err-clause-given g c = none_came _ _ _ (c.reserve.ensures.items ∙ c.requires.none)

pub returns-then-is_err-clause-refused : goal.returns-then-is_err-clause-refused
returns-then-is_err-clause-refused g c =
    let w = g.W.World in let r = g.R.Recorder in let a = c.args in
    not_begun a.self.config a.self.start a.self.capture OutOfMemory (w.told a.world.now) (w.told a.world.now) (r.kept a.rec.now) (r.kept a.rec.now) (r.named a.rec.now) (r.named a.rec.now) _ _ _ refl tt

pub returns-in_err-begin-clause-given : goal.returns-in_err-begin-clause-given
returns-in_err-begin-clause-given g c = none_came _ _ _ (c.reserve.ensures.items ∙ c.requires.none)

pub returns-in_err-begin-clause-refused : goal.returns-in_err-begin-clause-refused
returns-in_err-begin-clause-refused g c =
    let w = g.W.World in let r = g.R.Recorder in let a = c.args in let n = c.begin.new.rec in
    let p = err_from_is_err_and c.from_residual.result c.from_residual.ensures.1 in
    rw (p.1, p.2) (not_begun a.self.config a.self.start a.self.capture c.in_err-begin.field-0.0 (w.told a.world.now) (w.told a.world.now) (r.kept a.rec.now) (r.kept n) (r.named a.rec.now) (r.named n) _ _ _ refl c.in_err-begin.ensures.refused)

pub returns-in-Err-clause-refused : goal.returns-in-Err-clause-refused
returns-in-Err-clause-refused g c = record {
  begun = false;
  is_told = none_started (g.W.World.told c.args.world.now);
  cause = c.in-Err.ensures.failed;
  holds = λ file is isnt still. (let b = c.in_ok-begin.ensures.begins file is in (b.is_kept, b.is_named));
}

pub returns-in_err-base-clause-refused : goal.returns-in_err-base-clause-refused
returns-in_err-base-clause-refused g c =
    let w = g.W.World in let r = g.R.Recorder in let a = c.args in let n = c.begin.new.rec in
    let p = err_from_is_err_and c.from_residual-in_err-base.result c.from_residual-in_err-base.ensures.1 in
    rw (p.1, p.2) (not_entered a.self.config a.self.start a.self.capture c.in_err-base.field-0.0 (w.told a.world.now) (w.told c.enter.new.world) (r.kept a.rec.now) (r.kept n) (r.named a.rec.now) (r.named n) _ _ _
    (λ file is. (r.begun n, c.in_ok-begin.ensures.begins file is)) c.in_err-base.ensures.refused)

pub returns-clause-refused : goal.returns-clause-refused
returns-clause-refused g c = record { begun = true; is_told = c.in_ok-base.ensures.told; cause = tt; holds = λ file is isnt still. absurd (isnt refl) }

-- ---- the first of what occurred

pub returns-in_err-begin-clause-first : goal.returns-in_err-begin-clause-first
returns-in_err-begin-clause-first g c =
    let p = err_from_is_err_and c.from_residual.result c.from_residual.ensures.1 in
    rw (p.1, p.2) (c.in_err-begin.ensures.first, inl refl, inl refl)

pub returns-in-Err-clause-first : goal.returns-in-Err-clause-first
returns-in-Err-clause-first g c = (inl c.in_ok-begin.ensures.counts, inl refl, inr (below_self 10))

pub returns-in_err-base-clause-first : goal.returns-in_err-base-clause-first
returns-in_err-base-clause-first g c =
    let p = err_from_is_err_and c.from_residual-in_err-base.result c.from_residual-in_err-base.ensures.1 in
    rw (p.1, p.2) (inl c.in_ok-begin.ensures.counts, c.in_err-base.ensures.first, inl c.in_default.ensures.counts)

pub returns-in-Ok-clause-counts : goal.returns-in-Ok-clause-counts
returns-in-Ok-clause-counts g c = (c.in_ok-begin.ensures.counts, c.in_ok-base.ensures.counts, c.in_default.ensures.counts)

pub returns-clause-first : goal.returns-clause-first
returns-clause-first g c = (inl c.in_ok-begin.ensures.counts, inl c.in_ok-base.ensures.counts, inl c.in_default.ensures.counts)

pub returns-then-is_err-clause-first : goal.returns-then-is_err-clause-first
returns-then-is_err-clause-first g c = (inl refl, inl refl, inl refl)
