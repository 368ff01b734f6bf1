use Rattle.std.proofs.Common.{◌≡◌, ◌++◌, ◌∷◌, drop}
use Rattle.std.specs.Prelude.{map}
use Rattle.zre_peer.specs.declared.event.Event.TheVariants as kinds
use Rattle.zre_peer.proofs.hello.tell_hello.Given as goal

abbrev pub invariant-loop-i : goal.invariant-loop-i
invariant-loop-i l =
    l.events ++ map (λ g. kinds.Join l.id l.view.name g) (drop l.i l.view.groups)
    ≡ l.fn.events ++ kinds.Enter l.id l.view.name l.view.endpoint l.view.headers ∷ map (λ g. kinds.Join l.id l.view.name g) l.view.groups
