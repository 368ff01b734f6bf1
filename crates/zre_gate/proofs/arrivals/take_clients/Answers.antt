use Rattle.std.proofs.Common.{◌≡◌, ◌∙◌, ◌∷◌, [], true, length, length-append, refl, sym, ap, subst, arith}
use Rattle.std.specs.Prelude.{option_map}
use Rattle.std.proofs.lemmas.Result.{err_from_is_err_and}
use Rattle.zre_outside.specs.Causes.{raised}
use Rattle.zre_gate.specs.Gate.{with_clients}
use Rattle.zre_gate.proofs.DeskClients.{just_begun, one_given}
use Rattle.zre_gate.proofs.arrivals.take_clients.Goals as goal

pub each-init : goal.each-init
each-init g c = let d = g.D.Desk in let place = c.args.place in record {
  told = subst (λ xs. d.told c.begin.new.self ≡ option_map (with_clients true place xs) (d.told c.args.desk.now)) (sym c.requires.capacity.0)
      (just_begun place (d.told c.args.desk.now) (d.told c.begin.new.self) c.in_ok-begin.ensures.told);
  many = (ap length c.requires.capacity.0, omega (arith, c.args.clients.now.ok.0, ap length c.requires.capacity.0));
  capacity = refl;
  counts = c.in_ok-begin.ensures.counts;
  later = c.begin.ensures.later;
}

pub each-preserved : goal.each-preserved
each-preserved g c = let d = g.D.Desk in let place = c.args.place in let i = c.each.invariant in record {
  told = subst (λ xs. d.told c.next.new.self ≡ option_map (with_clients true place xs) (d.told c.args.desk.now)) (sym c.push_reserved.ensures.items)
      (one_given place c.each.clients.items c.in_ok-client.client (d.told c.args.desk.now) (d.told c.each.desk) (d.told c.next.new.self) i.told c.in_ok-client.ensures.told);
  many = (ap length c.push_reserved.ensures.items ∙ omega (arith, i.many.0, length-append c.each.clients.items (c.in_ok-client.client ∷ [])), omega (arith, i.many.1, c.push_reserved.ensures.len));
  capacity = c.push_reserved.ensures.capacity ∙ i.capacity;
  counts = c.in_ok-client.ensures.counts ∙ i.counts;
  later = omega (arith, i.later, c.next.ensures.later);
}

pub returns-in_err-client-clause-given : goal.returns-in_err-client-clause-given
returns-in_err-client-clause-given g c = record { begun = true; is_told = c.in_err-client.ensures.refused ∙ c.each.invariant.told }

pub returns-in_err-client-clause-counts : goal.returns-in_err-client-clause-counts
returns-in_err-client-clause-counts g c =
    let p = err_from_is_err_and c.from_residual-in_err-client.result c.from_residual-in_err-client.ensures.1 in
    rw (p.1) (c.in_err-client.ensures.counts ∙ ap (option_map raised) c.each.invariant.counts)

pub returns-clause-given : goal.returns-clause-given
returns-clause-given g c = record { begun = true; is_told = c.each.invariant.told }

pub returns-clause-all_given : goal.returns-clause-all_given
returns-clause-all_given g c = record { is_told = c.each.invariant.told; are_many = omega (arith, c.each.invariant.many.0, c.each.auto.counter-end, c.each-test.false) }
