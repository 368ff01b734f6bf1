use Rattle.std.proofs.Common.{◌∙◌, true, map, refl, sym, subst}
use mathlib.Core.Logic.{inl}
use Rattle.zre_commands.specs.declared.pump.status.Status.TheVariants.{WriteFault, WorldFault}
use Rattle.zre_outside.specs.Causes.{Rose}
use Rattle.zre_console.proofs.StatusIsFirstFailure.{yields_since}
use Rattle.zre_console.proofs.EndBeforeStart.{head_only, prepared, there}
use Rattle.zre_gate.specs.Clients.{seen_client}
use Rattle.zre_gate.specs.Gate.{IsGate, seen_without_clients}
use Rattle.zre_gate.specs.Tables.{IsUnused}
use Rattle.zre_gate.proofs.UnstartedGate.{unopened, early}
use Rattle.zre_gate.proofs.gate.Gate.run.Goals as goal

pub returns-in-Err-clause-gate : goal.returns-in-Err-clause-gate
returns-in-Err-clause-gate g c =
    let k = g.D.Desk in let w = g.W.World in let o = g.O.Sink in let r = g.R.Recorder in let a = c.args in
    let look = seen_client g.D.Client.Source.left g.D.Client.Source.taken g.D.Client.Source.faults g.D.Client.Source.refused in
    let opened = c.prepare in let n = opened.new.rec in let x = opened.new.world in let d = opened.new.desk in let u = c.in-Err.ensures.refused in let at = opened.ensures.given in
    let s = seen_without_clients (w.told a.world) (w.faults a.world) (o.written a.out.now) (o.faults a.out.now) (r.kept a.rec) (r.named a.rec) (r.faults a.rec) (g.P.Spawner.faults a.spawner.now) in
    let t = seen_without_clients (w.told x) (w.faults x) (o.written a.out.now) (o.faults a.out.now) (r.kept n) (r.named n) (r.faults n) (g.P.Spawner.faults a.spawner.now) in
    let desk = Rose (k.faults a.desk) (k.faults d) in
    let rows = map look opened.new.clients.items in
    let e = early a.self.config a.self.start a.self.capture a.limit a.self.clients s t desk rows c.in-Err.status (Rose (w.faults a.world) (w.faults x)) (Rose (r.faults a.rec) (r.faults n)) (λ h. h) (λ h. h) u.cause in record {
      given = opened.new.clients.items;
      begun = at.begun;
      is_told = at.is_told;
      opened = λ is. absurd (e.0 is);
      gate = unopened a.self.config a.self.start a.self.capture a.limit a.self.clients s t desk rows u.begun c.in-Err.status (λ _. c.are_values.ensures) refl u.is_told e.0 e.1
          (λ file is isnt still. (let h = u.holds file is isnt still in (head_only a.self.config s.kept t.kept t.kept h.0 refl, h.1)));
    }

pub serve-served-requires-clause-unused : goal.serve-served-requires-clause-unused
serve-served-requires-clause-unused g c κs within = subst (λ n. IsUnused n c.in-Ok.table) (sym c.in-Ok.ensures.all_given.are_many) c.in-Ok.ensures.unused.0

pub serve-served-requires-clause-begun : goal.serve-served-requires-clause-begun
serve-served-requires-clause-begun g c κs within = λ is. (let name = there c.args.self.capture (sym c.is_some-keep.ensures ∙ is) in (c.in-Ok.ensures.opened.begins name.0 name.1).is_begun)

pub returns-in-Ok-clause-gate : goal.returns-in-Ok-clause-gate
returns-in-Ok-clause-gate g c =
    let k = g.D.Desk in let w = g.W.World in let o = g.O.Sink in let r = g.R.Recorder in let a = c.args in let plan = a.self in
    let look = seen_client g.D.Client.Source.left g.D.Client.Source.taken g.D.Client.Source.faults g.D.Client.Source.refused in
    let opened = c.prepare in let n = opened.new.rec in let x = opened.new.world in let served = c.serve-served in let all = c.in-Ok.ensures.all_given in
    let s = seen_without_clients (w.told a.world) (w.faults a.world) (o.written a.out.now) (o.faults a.out.now) (r.kept a.rec) (r.named a.rec) (r.faults a.rec) (g.P.Spawner.faults a.spawner.now) in
    let u = seen_without_clients (w.told x) (w.faults x) (o.written a.out.now) (o.faults a.out.now) (r.kept n) (r.named n) (r.faults n) (g.P.Spawner.faults a.spawner.now) in
    let t = seen_without_clients (w.told served.result.world) (w.faults served.result.world) (o.written served.new.out) (o.faults served.new.out) (r.kept served.result.rec) (r.named served.result.rec) (r.faults served.result.rec) (g.P.Spawner.faults served.new.spawner) in
    let desk = Rose (k.faults a.desk) (k.faults opened.new.desk) in rw (c.ended.ensures) (record {
      given = opened.new.clients.items;
      begun = true;
      is_told = all.is_told;
      opened = λ _. refl;
      gate = subst (λ m. IsGate plan.config plan.start plan.capture a.limit m s t desk (map look opened.new.clients.items) (map look served.result.input.items) served.result.status) all.are_many
          (served.ensures.gate plan.config plan.start plan.capture s (k.faults a.desk) (k.faults opened.new.desk) c.in-Ok.ensures.unused.1
          (prepared plan.config plan.start plan.capture c.are_values.ensures c.is_some-keep.result (r.begun n) s u refl c.in-Ok.ensures.opened opened.ensures.faults c.is_some-keep.ensures));
    })

-- ---- the first of what occurred

pub returns-in-Err-clause-first : goal.returns-in-Err-clause-first
returns-in-Err-clause-first g c = let f = c.in-Err.ensures.first in
    (record { written = inl refl; recorded = f.0; given = f.1; started = inl refl }, f.2)

pub returns-in-Ok-clause-first : goal.returns-in-Ok-clause-first
returns-in-Ok-clause-first g c = let f = c.serve-served.ensures.first in let same = c.in-Ok.ensures.counts in
    rw (c.ended.ensures) (
      record {
        written = f.written;
        recorded = yields_since _ WriteFault _ _ (λ e. e ∙ same.0) f.recorded;
        given = yields_since _ WorldFault _ _ (λ e. e ∙ same.1) f.given;
        started = f.started;
      },
      inl same.2,
    )
