-- The pipes before any step, and what each thread is given.
use Rattle.std.specs.Prelude.{◌≡◌, ℕ, ◌≤◌, ◌+◌, [], ◌∷◌, None, length, All}
use Rattle.std.specs.Arc.{arc_value}
use Rattle.zre_actor.specs.declared.passes.Pipes.{Pipes}
use Rattle.zre_actor.specs.Commands.{times}
use Rattle.zre_actor.specs.Passes.{IsActorOf, IsCallerOf, IsTakerOf, AreCallersOf, IsNew, number, numbers_of}
use Rattle.zre_actor.specs.Passes.{fresh_of, given_of, room_of, unused_by}
use Rattle.zre_actor.specs.Passes.{popped_by, raised_by, ending_of, taken_by, last_of}
use Rattle.zre_console.specs.declared.places.CallerArgs.{CallerArgs}
use Rattle.zre_console.specs.declared.places.NodeArgs.{NodeArgs}
use Rattle.zre_console.specs.declared.table.Table.{Table}

-- it belongs to these pipes, and nothing was put under its pass
abbrev pub AreCallerArgs : Pipes → CallerArgs → Type 0
AreCallerArgs pipes c = (arc_value c.pipes ≡ pipes) × IsCallerOf pipes c.pass × IsNew c.pass

-- it belongs to these pipes, which have so many callers, and nothing was done with its pass
pub record IsFree (pipes : Pipes) (callers : ℕ) (s : NodeArgs) : Type 0 where
  pub same : arc_value s.pipes ≡ pipes
  pub of_pipes : IsActorOf pipes s.pass
  pub unused : length (unused_by s.pass) + callers ≡ 16
  pub none_popped : popped_by s.pass ≡ []
  pub no_finds : s.pass.empties ≡ 0
  pub none_raised : raised_by s.pass ≡ []
  pub no_ending : ending_of s.pass ≡ None

-- what the node's thread is started with: the pipes, the world, the node, the pass, the recorder, whether a capture is
-- kept, and the most turns
abbrev pub parts : {A B C D E F G : Type 0} → A → B → C → D → E → F → G → A × B × C × D × E × F × G
parts pipes world node pass recorder keep limit = (pipes, world, node, pass, recorder, keep, limit)

-- all passes belong to the pipes, which have so many callers more than these two, and nothing was done with any
pub record IsLaid (more : ℕ) (t : Table) : Type 0 where
  pub node_args : IsFree (arc_value t.others.printer.pipes) (more + 2) t.node_args
  pub last : AreCallerArgs (arc_value t.others.printer.pipes) t.others.last
  pub of_asker : IsCallerOf (arc_value t.others.printer.pipes) t.others.printer.asker
  pub of_taker : IsTakerOf (arc_value t.others.printer.pipes) t.others.printer.taker
  pub new_asker : IsNew t.others.printer.asker
  pub none_given : given_of t.others.callers ≡ []
  pub room : 2 ≤ room_of t.others.callers
  pub none_taken : taken_by t.others.printer.taker ≡ []
  pub no_last : last_of t.others.printer.taker ≡ None

-- the passes of those callers weren't taken, and all callers put under different numbers
pub record HasMore (more : ℕ) (t : Table) : Type 0 where
  pub are_callers : AreCallersOf (arc_value t.others.printer.pipes) (fresh_of t.others.callers)
  pub are_new : All IsNew (fresh_of t.others.callers)
  pub are_many : length (fresh_of t.others.callers) ≡ more
  pub apart : (n : ℕ)
      → times n (number t.others.last.pass ∷ number t.others.printer.asker ∷ numbers_of (fresh_of t.others.callers)) ≤ 1
