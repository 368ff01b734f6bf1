use Rattle.std.proofs.Common.{◌∙◌, ◌+◌, ◌++◌, ◌∷◌, [], length, length-append, sym, ap, subst, arith, append_assoc, ⊎_elim}
use Rattle.std.specs.Vec.Iter.{into_iter_items}
use Rattle.zre_actor.specs.Passes.{IsCallerOf}
use Rattle.zre_gate.specs.Clients.{seen_client}
use Rattle.zre_gate.proofs.ClientArguments.{args_among, started_client}
use Rattle.zre_gate.proofs.threads.ClientStarts.start_clients.Goals as goal

pub invariant_of-reading : goal.invariant_of-reading
invariant_of-reading g c =
    let i = c.loop-input.invariant in let client_list = c.requires.client_list in let caller = c.in-Some-pop_front.caller in
    let at = args_among client_list.0 c.args.self.all_args.items i.all_args.0 c.pop_front.new.self.items caller client_list.1 (i.all_args.1 ∙ ap (λ l. i.all_args.0 ++ l) c.in-Some-pop_front.ensures.items) in
    record { of_pipes = subst (λ p. IsCallerOf p caller.pass) (sym at.0) at.1 }

pub invariant_of-job : goal.invariant_of-job
invariant_of-job g c =
    let s = g.C.Source in let i = c.loop-input.invariant in let client_list = c.requires.client_list in let caller = c.in-Some-pop_front.caller in
    record {
      known = ∣ started_client (seen_client s.left s.taken s.faults s.refused) g.B.GateName.client_list client_list.0 c.args.self.limit c.args.self.all_args.items i.all_args.0 c.pop_front.new.self.items caller
          c.args.clients.items c.loop-input.yielded (into_iter_items c.next.new.self) c.in-Some.input c.loop-input.place client_list.1 client_list.2
          (i.all_args.1 ∙ ap (λ l. i.all_args.0 ++ l) c.in-Some-pop_front.ensures.items)
          (i.rest ∙ ap (λ l. c.loop-input.yielded ++ l) c.in-Some.ensures.steps.0)
          i.all_args.2 (sym i.place) ∣₁;
    }

pub loop-input-preserved : goal.loop-input-preserved
loop-input-preserved g c =
    let i = c.loop-input.invariant in let caller = c.in-Some-pop_front.caller in let one = c.start_client.ensures in record {
      rest = i.rest ∙ ap (λ l. c.loop-input.yielded ++ l) c.in-Some.ensures.steps.0 ∙ sym (append_assoc c.loop-input.yielded (c.in-Some.input ∷ []) (into_iter_items c.next.new.self));
      place = omega (arith, i.place, length-append c.loop-input.yielded (c.in-Some.input ∷ []));
      all_args = (
        i.all_args.0 ++ caller ∷ [],
        i.all_args.1 ∙ ap (λ l. i.all_args.0 ++ l) c.in-Some-pop_front.ensures.items ∙ sym (append_assoc i.all_args.0 (caller ∷ []) c.pop_front.new.self.items),
        length-append i.all_args.0 (caller ∷ []) ∙ ap (λ n. n + 1) i.all_args.2,
      );
      ins = omega (arith, i.ins, ap length c.in-Some-pop_front-2.ensures.items);
      capacity = (omega (arith, i.capacity.0, one.capacity.0), one.capacity.1 ∙ i.capacity.1);
      refused = λ is. ⊎_elim
          (λ before. (let h = i.refused before in omega (arith, h, one.faults)))
          (λ after. (let h = after in omega (arith, h, i.later)))
          (one.refused is);
      counts = λ none. (one.counts none).1 ∙ i.counts (one.counts none).0;
      later = omega (arith, i.later, one.faults);
    }
