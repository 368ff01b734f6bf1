-- Pipes of two callers whose passes were taken, before any step.
use Rattle.std.specs.Prelude.{◌≡◌, ◌+◌, ◌<◌, [], None, length}
use Rattle.zre_actor.specs.declared.passes.Pipes.{Pipes}
use Rattle.zre_actor.specs.declared.passes.ActorPass.{ActorPass}
use Rattle.zre_actor.specs.declared.passes.CallerPass.{CallerPass}
use Rattle.zre_actor.specs.declared.passes.CallerPasses.{CallerPasses}
use Rattle.zre_actor.specs.declared.passes.TakerPass.{TakerPass}
use Rattle.zre_actor.specs.Passes.{IsActorOf, IsCallerOf, IsTakerOf, given_of, room_of, unused_by, ending_of, ended}
use Rattle.zre_actor.specs.Passes.{last_of}

-- neither has put anything, and no pass was given back
pub record AreNew (pipes : Pipes) (first second : CallerPass) (back : CallerPasses) : Type 0 where
  pub of_first : IsCallerOf pipes first
  pub of_second : IsCallerOf pipes second
  pub first_new : ended first ≡ []
  pub second_new : ended second ≡ []
  pub none_given : given_of back ≡ []
  pub room : 1 < room_of back

pub record IsReady (pipes : Pipes) (actor : ActorPass) (first second : CallerPass) (back : CallerPasses)
    (taker : TakerPass) : Type 0 where
  pub of_actor : IsActorOf pipes actor
  pub of_callers : AreNew pipes first second back
  pub of_taker : IsTakerOf pipes taker
  pub unused : length (unused_by actor) + 2 ≡ 16
  pub no_ending : ending_of actor ≡ None
  pub no_finds : actor.empties ≡ 0
  pub no_last : last_of taker ≡ None
