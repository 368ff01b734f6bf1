use Rattle.std.proofs.Common.{◌≡◌, ◌++◌, None, length, reverse}
use Rattle.zre_actor.specs.Passes.{IsActorOf, popped_by, raised_by, unused_by, ending_of}
use Rattle.zre_actor.proofs.passes.Pipes.raise_all.Given as goal

abbrev pub invariant-events : goal.invariant-events
invariant-events g l = record {
  pipes : IsActorOf l.self l.pass × (unused_by l.pass ≡ unused_by l.fn.pass);
  raised : raised_by l.pass ++ reverse l.left.items ≡ raised_by l.fn.pass ++ l.fn.events;
  open_ : ending_of l.pass ≡ None;
  commands : (popped_by l.pass ≡ popped_by l.fn.pass) × (l.pass.empties ≡ l.fn.pass.empties);
}

abbrev pub decreases-events : goal.decreases-events
decreases-events g l = length l.left.items
