use Rattle.std.proofs.Common.{◌++◌, ◌∷◌, [], ◌∙◌, false, map, refl, sym, ap, subst, append_assoc, length, length-append, arith}
use Rattle.std.proofs.Math.Logic.{∥∥₁_map}
use Rattle.std.specs.Vec.Iter.{into_iter_items}
use Rattle.zre_commands.specs.declared.pump.status.Status.TheVariants.{Done}
use Rattle.zre_gate.specs.Clients.{seen_client}
use Rattle.zre_gate.specs.Gathering.{Gathers}
use Rattle.zre_gate.proofs.GatheredClients.{all_gathered, none_gathered}
use Rattle.zre_gate.proofs.gathering.gather.Goals as goal

pub loop-line-init : goal.loop-line-init
loop-line-init g c =
    let i = g.C.Source in let a = c.args in record {
      pipes = c.requires.pipes;
      rest = sym c.into_iter-line-iterator.ensures.into_iter_gives.0;
      place = refl;
      capacity = (omega (arith, a.clients.ok, ap length c.requires.capacity.0), refl);
      came = λ there known. subst (λ xs. ∥ Gathers there.limit [] (map (seen_client i.left i.taken i.faults i.refused) xs) a.pass a.pass Done false ∥₁) (sym c.requires.capacity.0) ∣ none_gathered there.limit a.pass ∣₁;
    }

pub loop-line-preserved : goal.loop-line-preserved
loop-line-preserved g c =
    let i = c.loop-line.invariant in let one = c.gather_one-gathered.ensures in record {
      pipes = one.pipes;
      rest = i.rest ∙ ap (λ l. c.loop-line.yielded ++ l) c.in-Some.ensures.steps.0 ∙ sym (append_assoc c.loop-line.yielded (c.in-Some.line ∷ []) (into_iter_items c.next.new.self));
      place = omega (arith, i.place, length-append c.loop-line.yielded (c.in-Some.line ∷ []));
      capacity = (omega (arith, one.capacity.0, i.capacity.0), one.capacity.1 ∙ i.capacity.1);
      came = λ there known. one.gathers there _ known (i.came there known);
    }

pub returns-clause-gathers : goal.returns-clause-gathers
returns-clause-gathers g c = λ there known. (
    let i = c.loop-line.invariant in
    ∥∥₁_map (i.came there known) (all_gathered there _ _ c.loop-line.place _ _ _ (omega (
      arith,
      c.requires.many there known,
      ap length i.rest,
      length-append c.loop-line.yielded (into_iter_items c.loop-line.line-iterator),
      c.in-None.ensures.steps.0,
      i.place,
    ))))
