-- The pipes before any step, and which thread has which pass.
use Rattle.std.specs.Prelude.{◌≡◌, ℕ, ◌≤◌, [], ◌∷◌, map, length, All, vec_capacity}
use Rattle.std.specs.Arc.{arc_value}
use Rattle.zre_actor.specs.Commands.{times}
use Rattle.zre_actor.specs.Passes.{number}
use Rattle.zre_console.specs.declared.places.CallerArgs.{CallerArgs}
use Rattle.zre_console.specs.Tables.{AreCallerArgs, IsLaid as IsBase}
use Rattle.zre_gate.specs.declared.table.GateThreads.{GateThreads}

abbrev pub caller_number : CallerArgs → ℕ
caller_number c = number c.pass

-- all passes belong to the pipes, and nothing was done with any; the callers put under different numbers, and there is
-- room for so many clients
pub record IsUnused {C : Type 0} (many : ℕ) (t : GateThreads C) : Type 0 where
  pub base : IsBase many t.base
  pub are_args : All (AreCallerArgs (arc_value t.base.others.printer.pipes)) t.all_args.items
  pub many_args : length t.all_args.items ≡ many
  pub apart : (n : ℕ) → times n (number t.base.others.last.pass ∷ number t.base.others.printer.asker
      ∷ map caller_number t.all_args.items) ≤ 1
  pub capacity : (t.left.items ≡ []) × (many ≤ vec_capacity t.left)
