-- A caller stays one when it puts a command and when it absorbs another.
use Rattle.std.proofs.Common.{◌≡◌, [], ◌∷◌, ◌++◌, sym, ap, ◌∙◌, arith, append-nil}
use Rattle.zre_outside.specs.declared.entry.Command.{Command}
use Rattle.zre_actor.specs.declared.views.Placed.{Placed}
use Rattle.zre_actor.specs.declared.views.CommandView.{CommandView}
use Rattle.zre_actor.specs.Commands.{times, under, live, head_or, written, wrote, joined, IsCaller}
use Rattle.zre_actor.proofs.SumsOverPasses.{times-append, under-append, under_other}
use Rattle.zre_actor.proofs.CommandPipeInvariant.{counts_live, own_once}

pub caller_wrote : (v : CommandView) (x : Command) → IsCaller v → IsCaller (wrote v x)
caller_wrote v x c = let e : Placed = written v x in (
  c.0,
  c.1,
  c.2,
  λ n h. under-append n v.put (e ∷ []) ∙ ap (λ l. l ++ under n (e ∷ [])) (c.3 n h)
      ∙ under_other n e (λ i. let one : times n v.own ≡ 1 = ap (λ j. times j v.own) (sym i) ∙ own_once (head_or v.own) v c.1 in omega (arith, counts_live n v)),
)

pub caller_joined : (v w : CommandView) → IsCaller v → IsCaller w → IsCaller (joined v w)
caller_joined v w c d = (
  c.0,
  c.1,
  ap (λ l. v.unused ++ l) d.2 ∙ append-nil v.unused ∙ c.2,
  λ n h. let all = times-append n v.ended (live w) in
      under-append n v.put w.put ∙ ap (λ l. l ++ under n w.put) (c.3 n (omega (arith, counts_live n v, counts_live n (joined v w)))) ∙ d.3 n (omega (arith, counts_live n (joined v w))),
)
