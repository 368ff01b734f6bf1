use Rattle.std.proofs.Common.{◌+◌, ◌∷◌, [], map, take, sym, ap, ◌∙◌, subst}
use Rattle.std.proofs.Math.Logic.{∥∥₁_prop, ∥∥₁_map, ∥∥₁_elim}
use Rattle.std.proofs.lemmas.List.{map-append}
use Rattle.std.specs.Prelude.{◌||◌}
use Rattle.zre_actor.specs.Passes.{IsCallerOf}
use Rattle.zre_gate.specs.Clients.{seen_client}
use Rattle.zre_gate.specs.Gathering.{Gathers}
use Rattle.zre_gate.specs.ClientLists.{IsAnswer}
use Rattle.zre_gate.proofs.ClientAnswers.{caller_prop}
use Rattle.zre_gate.proofs.GatheredClients.{next_gathered, same_client_list}
use Rattle.zre_gate.proofs.gathering.gather_one.Goals as goal

pub absorb-pass-requires : goal.absorb-pass-requires
absorb-pass-requires g c = (
  c.requires.pipes,
  ∥∥₁_elim c.wait_for-answer.result.known (caller_prop c.args.pipes.now c.wait_for-answer.result.done.pass) (λ k. ∥∥₁_elim c.requires.client_list (caller_prop c.args.pipes.now c.wait_for-answer.result.done.pass) (λ h.
      subst (λ p. IsCallerOf p c.wait_for-answer.result.done.pass) (ap (λ x. x.pipes) (same_client_list g.B.GateName.client_list k.there h.0 k.is_client_list h.1) ∙ h.2) k.of_pipes)),
)

pub returns-clause-gathers : goal.returns-clause-gathers
returns-clause-gathers g c = λ there first known gathers. (
    let i = g.C.Source in let came = c.wait_for-answer in let a = came.result.done in let old = c.args.gathered in
    let look = seen_client i.left i.taken i.faults i.refused in
    ∥∥₁_elim (subst (λ p. ∥ IsAnswer g.B.GateName.client_list p (look a.input) a.pass a.end ∥₁) came.ensures came.result.known) ∥∥₁_prop (λ answered.
    ∥∥₁_map gathers (λ gs.
    subst (λ l. Gathers there.limit (take (c.args.place + 1) there.new_clients) l first c.absorb-pass.result c.with_client.result c.either.result) (sym (ap (map look) c.push_reserved.ensures.items ∙ map-append look old.clients.items (a.input ∷ [])))
    (next_gathered g.B.GateName.client_list there first old.pass c.absorb-pass.result a.pass c.args.place (map look old.clients.items) (look a.input) old.status c.with_client.result old.over c.either.result a.end
    answered known gs c.absorb-pass.ensures.number c.absorb-pass.ensures.ended c.absorb-pass.ensures.put c.with_client.ensures (c.either.ensures ∙ ap (λ b. old.over || b) c.is_over.ensures)))))
