use Rattle.std.proofs.Common.{◌≡◌, ◌≤◌, ◌∙◌, ◌∷◌, [], List, true, length, map, refl, sym, ap, subst, arith, ⊎_elim}
use Rattle.std.specs.Prelude.{option_map}
use mathlib.Core.Logic.{inl, inr}
use Rattle.std.specs.Io.KnownBytes.{Keeps}
use Rattle.std.specs.Arc.{arc_value}
use Rattle.std.proofs.Math.Logic.{∥∥₁_elim}
use Rattle.std.proofs.lemmas.List.{length-map}
use Rattle.zre_outside.specs.Causes.{Rose}
use Rattle.zre_outside.specs.Refusals.{refused_after}
use Rattle.zre_node.specs.Journal.{StandsFor}
use Rattle.zre_actor.specs.Commands.{times}
use Rattle.zre_actor.specs.Passes.{IsActorOf, IsCallerOf, number, unused_by}
use Rattle.zre_actor.specs.Work.{IsWork, scene, is_world_fault, is_record_fault}
use Rattle.zre_actor.proofs.NumbersGivenBack.{how_back}
use Rattle.zre_commands.specs.declared.pump.status.Status.{Status}
use Rattle.zre_commands.specs.declared.pump.status.Status.TheVariants.{NoThread, OutOfMemory}
use Rattle.zre_console.specs.Lived.{Seen}
use Rattle.zre_console.proofs.StatusIsFirstFailure.{below_self, first_of_all}
use Rattle.zre_console.proofs.LeastStatus.{memory_isnt, thread_isnt}
use Rattle.zre_console.proofs.SecondCaller.{asker_ended}
use Rattle.zre_console.proofs.EndBeforeStart.{head_only}
use Rattle.zre_gate.specs.Clients.{SeenClient, seen_client}
use Rattle.zre_gate.specs.Gate.{IsGate, seen_without_clients}
use Rattle.zre_gate.specs.ClientLists.{client_list_of, new_clients_of}
use Rattle.zre_gate.specs.Tables.{caller_number}
use Rattle.zre_gate.proofs.GateOfThreads.{gated}
use Rattle.zre_gate.proofs.ClientPlaces.{new_clients_before, new_clients_length, new_clients_numbers}
use Rattle.zre_gate.proofs.ClientAnswers.{nat_prop}
use Rattle.zre_gate.proofs.GatheredClients.{closed_ended, same_client_list}
use Rattle.zre_gate.proofs.UnstartedGate.{unopened}
use Rattle.zre_gate.proofs.table.GateThreads.serve.Goals as goal

-- no memory for the channels
pub returns-in_default-clause-gate : goal.returns-in_default-clause-gate
returns-in_default-clause-gate g c = λ f start name s before after stands p. (
    let desk = Rose before after in
    let w = g.W.World in let o = g.O.Sink in let r = g.R.Recorder in let a = c.args in
    let rows = map (seen_client g.C.Source.left g.C.Source.taken g.C.Source.faults g.C.Source.refused) a.clients.items in
    unopened f start name a.work.limit (length a.clients.items) s
    (seen_without_clients (w.told a.work.world) (w.faults a.work.world) (o.written a.out.now) (o.faults a.out.now) (r.kept a.work.rec) (r.named a.work.rec) (r.faults a.work.rec) (g.P.Spawner.faults a.spawner.now))
    desk rows true OutOfMemory (λ _. p.are_settings) (ap (λ x. x.written) p.same) p.told memory_isnt tt (λ file is isnt still. absurd (isnt refl)))

-- no thread for the node
pub returns-in-Err-clause-gate : goal.returns-in-Err-clause-gate
returns-in-Err-clause-gate g c = rw (c.without_thread.ensures) (λ f start name s before after stands p. (
    let desk = Rose before after in
    let w = g.W.World in let o = g.O.Sink in let r = g.R.Recorder in let a = c.args in
    let rows = map (seen_client g.C.Source.left g.C.Source.taken g.C.Source.faults g.C.Source.refused) a.clients.items in
    let back = c.in-Err.ensures.refused in
    let world = c.in-Err.world in let rec_ = c.in-Err.rec in
    let kept = ap (λ x. r.kept x.1) back in
    let named = ap (λ x. r.named x.1) back in
    unopened f start name a.work.limit (length a.clients.items) s
    (seen_without_clients (w.told world) (w.faults world) (o.written a.out.now) (o.faults a.out.now) (r.kept rec_) (r.named rec_) (r.faults rec_) (g.P.Spawner.faults c.start_node.new.spawner))
    desk rows true NoThread (λ _. p.are_settings) (ap (λ x. x.written) p.same) (ap (λ x. w.told x.0) back ∙ p.told) thread_isnt
    (subst (λ k. Rose k (g.P.Spawner.faults c.start_node.new.spawner)) (ap (λ x. x.refusals) p.same) c.in-Err.ensures.failed)
    (λ file is isnt still. (
      head_only f s.kept (r.kept a.work.rec) (r.kept rec_) (p.head_kept file is) kept,
      subst (λ k. Keeps (option_map (λ _. file) s.named) k) (sym named) (p.file_named file is),
    ))))

pub returns-clause-gate : goal.returns-clause-gate
returns-clause-gate g c = λ f start name s before after stands p. (
    let desk = Rose before after in
    let w = g.W.World in let o = g.O.Sink in let r = g.R.Recorder in let a = c.args in let l = c.requires.unused in
    let look = seen_client g.C.Source.left g.C.Source.taken g.C.Source.faults g.C.Source.refused in
    let rows = map look a.clients.items in
    let numbers = map caller_number a.self.all_args.items in
    let even = length-map a.self.all_args.items caller_number ∙ l.many_args ∙ sym (length-map a.clients.items look) in
    let new_clients = new_clients_of numbers rows in
    let told = c.hold_talk-talk in let done = told.result.done in let printed = told.result.printed in let client_threads = c.start_clients-client_threads in
    let close = told.ensures.done.1 (client_list_of (arc_value a.self.base.others.printer.pipes) a.work.limit numbers rows) c.requires.client_list in
    let out = c.join-worked.result in let means = c.join-worked.ensures in let began = c.in-Ok-start_node.ensures.started in let same = c.settle.ensures.same in
    let u = seen_without_clients (w.told a.work.world) (w.faults a.work.world) (o.written a.out.now) (o.faults a.out.now) (r.kept a.work.rec) (r.named a.work.rec) (r.faults a.work.rec) (g.P.Spawner.faults a.spawner.now) in
    let t = seen_without_clients (w.told out.world) (w.faults out.world) (o.written told.new.out) (o.faults told.new.out) (r.kept out.rec) (r.named out.rec) (r.faults out.rec) (g.P.Spawner.faults told.new.spawner) in
    let work = subst (λ j. StandsFor f [] j.2 → IsWork f [] j.5 j.6 (scene (w.told j.1) (w.looked j.1) (w.faults j.1) (r.kept j.4) (r.faults j.4) j.3)
    (scene (w.told out.world) (w.looked out.world) (w.faults out.world) (r.kept out.rec) (r.faults out.rec) out.pass) out.node out.ending) began (means.6 f []) in
    let rose : told.result.refused ≡ true → Rose (g.P.Spawner.faults a.spawner.now) (g.P.Spawner.faults told.new.spawner) = λ is. ⊎_elim
    (λ before. (let h = client_threads.ensures.refused before in omega (arith, h, c.in-Ok-start_node.ensures.later, told.ensures.starts)))
    (λ after. (let h = after in omega (arith, h, c.in-Ok-start_node.ensures.later, client_threads.ensures.faults))) (told.ensures.refused is) in
    let held = gated f start name a.work.keep a.work.limit (length a.clients.items) s u t p out.node out.ending (w.looked a.work.world) (w.looked out.world) a.self.base.node_args.pass out.pass (work stands)
    (subst (λ j. Keeps (r.named j.4) (r.named out.rec)) began means.5) l.base.node_args.none_popped l.base.node_args.none_raised
    new_clients (map look done.input.items) a.self.base.others.last.pass done.pass done.status
    a.self.base.others.printer.asker printed.pass told.result.refused a.self.base.others.printer.taker printed.taker printed.fault told.ensures.printed
    told.ensures.failed rose l.base.none_taken l.base.last.2 l.base.new_asker
    (λ m. subst (λ ns. times m (number a.self.base.others.last.pass ∷ number a.self.base.others.printer.asker ∷ ns) ≤ 1) (sym (new_clients_numbers numbers rows even)) (l.apart m))
    c.settle.ensures.fronts c.settle.ensures.ended c.settle.ensures.taken desk (new_clients_length numbers rows even ∙ length-map a.clients.items look) close in
    subst (λ (x : Seen × List SeenClient × List SeenClient × Status). IsGate f start name a.work.limit (length a.clients.items) s x.0 desk x.1 x.2 x.3)
    (λ k. (
      seen_without_clients (w.told (sym same.1 k)) (w.faults (sym same.1 k)) (o.written told.new.out) (o.faults told.new.out) (r.kept (sym same.2 k)) (r.named (sym same.2 k)) (r.faults (sym same.2 k)) (g.P.Spawner.faults told.new.spawner),
      new_clients_before numbers rows even k,
      map look (sym same.0 k).items,
      sym c.settle.ensures.status k,
    ))
    held)

pub invariant_of-job : goal.invariant_of-job
invariant_of-job g c =
    let l = c.requires.unused in let a = c.args in
    let look = seen_client g.C.Source.left g.C.Source.taken g.C.Source.faults g.C.Source.refused in
    let rows = map look a.clients.items in
    let numbers = map caller_number a.self.all_args.items in
    let even = length-map a.self.all_args.items caller_number ∙ l.many_args ∙ sym (length-map a.clients.items look) in record {
      of_pipes = subst (λ ps. IsCallerOf ps a.self.base.others.last.pass) (sym l.base.last.0) l.base.last.1;
      client_list = ∣ (client_list_of (arc_value a.self.base.others.printer.pipes) a.work.limit numbers rows, c.requires.client_list, sym l.base.last.0) ∣₁;
      many = λ there known. (
          let same = same_client_list g.B.GateName.client_list (client_list_of (arc_value a.self.base.others.printer.pipes) a.work.limit numbers rows) there c.requires.client_list known in
          ap (λ h. length h.new_clients) (sym same) ∙ new_clients_length numbers rows even ∙ length-map a.clients.items look ∙ omega (arith, c.in-Ok.ensures.lines, c.len.ensures, a.clients.ok));
      capacity = (l.capacity.0, omega (arith, l.capacity.1, c.in-Ok.ensures.lines, c.len.ensures, a.clients.ok));
    }

pub settle-requires-clause-pipes : goal.settle-requires-clause-pipes
settle-requires-clause-pipes g c = (
  subst (λ ps. IsActorOf ps c.join-worked.result.pass) (ap (λ j. arc_value j.0) c.in-Ok-start_node.ensures.started ∙ c.requires.unused.base.node_args.same ∙ ap (λ p. arc_value p) (sym c.hold_talk-talk.ensures.same)) c.join-worked.ensures.0,
  c.hold_talk-talk.ensures.pipes.0,
)

pub settle-requires-clause-callers : goal.settle-requires-clause-callers
settle-requires-clause-callers g c = let told = c.hold_talk-talk in
    (subst (λ ps. IsCallerOf ps told.result.done.pass) (c.requires.unused.base.last.0 ∙ ap (λ p. arc_value p) (sym told.ensures.same)) told.ensures.done.0, told.ensures.pipes.1)

pub settle-requires-clause-back : goal.settle-requires-clause-back
settle-requires-clause-back g c =
    let l = c.requires.unused in let told = c.hold_talk-talk in let a = c.args in let o = g.O.Sink in
    let done = told.result.done in let printed = told.result.printed in
    let numbers = map caller_number a.self.all_args.items in
    let rows = map (seen_client g.C.Source.left g.C.Source.taken g.C.Source.faults g.C.Source.refused) a.clients.items in
    let even = length-map a.self.all_args.items caller_number ∙ l.many_args ∙ sym (length-map a.clients.items (seen_client g.C.Source.left g.C.Source.taken g.C.Source.faults g.C.Source.refused)) in
    let close = told.ensures.done.1 (client_list_of (arc_value a.self.base.others.printer.pipes) a.work.limit numbers rows) c.requires.client_list in
    let many = how_back done.pass printed.pass (length a.clients.items)
    (∥∥₁_elim close (nat_prop _ _) (λ k. closed_ended _ _ _ _ _ _ k l.base.last.2.0) ∙ new_clients_length numbers rows even ∙ length-map a.clients.items (seen_client g.C.Source.left g.C.Source.taken g.C.Source.faults g.C.Source.refused))
    (asker_ended a.self.base.others.printer.asker told.result.refused a.self.base.others.printer.taker printed.taker printed.pass printed.fault (o.written a.out.now) (o.written told.new.out) told.ensures.printed ∙ l.base.new_asker.0) in
    omega (arith, many, ap length (c.join-worked.ensures.1 ∙ ap (λ j. unused_by j.3) c.in-Ok-start_node.ensures.started), l.base.node_args.unused)

-- ---- the first of what occurred

pub returns-in_default-clause-first : goal.returns-in_default-clause-first
returns-in_default-clause-first g c = record { written = inl refl; recorded = inl refl; given = inl refl; started = inl refl }

pub returns-in-Err-clause-first : goal.returns-in-Err-clause-first
returns-in-Err-clause-first g c = let back = c.in-Err.ensures.refused in rw (c.without_thread.ensures) (record {
  written = inl refl;
  recorded = inl (ap (λ x. g.R.Recorder.refused x.1) back);
  given = inl (ap (λ x. g.W.World.refused x.0) back);
  started = inr (below_self 7);
})

pub returns-clause-first : goal.returns-clause-first
returns-clause-first g c =
    let w = g.W.World in let r = g.R.Recorder in let told = c.hold_talk-talk in let out = c.join-worked.result in let means = c.join-worked.ensures in let began = c.in-Ok-start_node.ensures.started in let same = c.settle.ensures.same in
    let gave = subst (λ j. w.refused out.world ≡ refused_after (is_world_fault out.ending) (w.refused j.1)) began means.7 in
    let kept = subst (λ j. r.refused out.rec ≡ refused_after (is_record_fault out.ending) (r.refused j.4)) began means.8 in
    first_of_all told.result.done.status told.result.printed.fault out.ending told.result.refused c.settle.result.status _ _ _ _ _ _ c.settle.ensures.status
    told.ensures.written (ap r.refused same.2 ∙ kept) (ap w.refused same.1 ∙ gave)
    (λ none. (told.ensures.counts none).1 ∙ c.start_clients-client_threads.ensures.counts (told.ensures.counts none).0 ∙ c.in-Ok-start_node.ensures.counts)
