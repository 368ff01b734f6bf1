use Rattle.std.proofs.Common.{◌∙◌, refl, sym, ap, subst, arith}
use Rattle.std.specs.Prelude.{is_some}
use mathlib.Core.Logic.{inl}
use Rattle.zre_commands.specs.declared.pump.status.Status.TheVariants.{WriteFault, WorldFault}
use Rattle.zre_console.specs.Lived.{seen}
use Rattle.zre_console.proofs.CallerNumbers.{two_apart}
use Rattle.zre_console.proofs.StatusIsFirstFailure.{yields_since}
use Rattle.zre_console.proofs.EndBeforeStart.{prepared, there}
use Rattle.zre_chat.specs.Chat.{IsChat}
use Rattle.zre_chat.proofs.ChatOfParts.{unprepared}
use Rattle.zre_chat.proofs.chat.Chat.run.Goals as goal

pub returns-in-Err : goal.returns-in-Err
returns-in-Err g c =
    let i = g.I.Source in let w = g.W.World in let o = g.O.Sink in let r = g.R.Recorder in let a = c.args in let n = c.prepare.new.rec in let x = c.prepare.new.world in
    let s = seen (i.left a.input) (i.taken a.input) (i.faults a.input) (w.told a.world) (w.faults a.world) (o.written a.out.now) (o.faults a.out.now) (r.kept a.rec) (r.named a.rec) (r.faults a.rec) (g.P.Spawner.faults a.spawner.now) in
    let t = seen (i.left a.input) (i.taken a.input) (i.faults a.input) (w.told x) (w.faults x) (o.written a.out.now) (o.faults a.out.now) (r.kept n) (r.named n) (r.faults n) (g.P.Spawner.faults a.spawner.now) in
    let f = c.in-Err.ensures.first in rw (c.unstarted.ensures) (record {
      chat = unprepared a.self.config a.self.start a.self.capture a.limit c.are_values.ensures s t c.in-Err.status refl refl refl c.in-Err.ensures.refused;
      first = record { written = inl refl; recorded = f.1; given = f.0; started = inl refl };
      read = inl (refl, c.in-Err.ensures.unread);
      unrecorded = c.prepare.ensures.unrecorded;
      faults = (omega arith, omega arith, omega arith);
    })

pub converse-requires-clause-apart : goal.converse-requires-clause-apart
converse-requires-clause-apart g c κs within = two_apart 0 c.in-Ok.base c.in-Ok.ensures.unused.1

pub converse-requires-clause-begun : goal.converse-requires-clause-begun
converse-requires-clause-begun g c κs within = rw (c.node_work-work.ensures) (λ is. (let name = there c.args.self.capture (sym c.is_some-keep.ensures ∙ is) in (c.in-Ok.ensures.opened.begins name.0 name.1).is_begun))

pub returns-in-Ok : goal.returns-in-Ok
returns-in-Ok g c =
    let i = g.I.Source in let w = g.W.World in let o = g.O.Sink in let r = g.R.Recorder in let a = c.args in let n = c.prepare.new.rec in let x = c.prepare.new.world in
    let s = seen (i.left a.input) (i.taken a.input) (i.faults a.input) (w.told a.world) (w.faults a.world) (o.written a.out.now) (o.faults a.out.now) (r.kept a.rec) (r.named a.rec) (r.faults a.rec) (g.P.Spawner.faults a.spawner.now) in
    let u = seen (i.left a.input) (i.taken a.input) (i.faults a.input) (w.told x) (w.faults x) (o.written a.out.now) (o.faults a.out.now) (r.kept n) (r.named n) (r.faults n) (g.P.Spawner.faults a.spawner.now) in
    let ended = c.converse in let z = ended.result in
    let t = seen (i.left z.input) (i.taken z.input) (i.faults z.input) (w.told z.world) (w.faults z.world) (o.written ended.new.out) (o.faults ended.new.out) (r.kept z.rec) (r.named z.rec) (r.faults z.rec) (g.P.Spawner.faults ended.new.spawner) in
    let f = ended.ensures.first in let work = c.node_work-work.ensures in record {
      chat = subst (λ m. IsChat a.self.config a.self.start a.self.capture m s t z.status) (ap (λ k. k.limit) work)
          (ended.ensures.chat a.self.config a.self.start a.self.capture s c.in-Ok.ensures.node
          (rw work (prepared a.self.config a.self.start a.self.capture c.are_values.ensures c.is_some-keep.result (r.begun n) s u refl c.in-Ok.ensures.opened c.prepare.ensures.faults c.is_some-keep.ensures)));
      first = record {
        written = f.written;
        recorded = yields_since _ WriteFault _ _ (λ e. e ∙ ap (λ k. r.refused k.rec) work ∙ c.in-Ok.ensures.counts.1) f.recorded;
        given = yields_since _ WorldFault _ _ (λ e. e ∙ ap (λ k. w.refused k.world) work ∙ c.in-Ok.ensures.counts.0) f.given;
        started = f.started;
      };
      read = ended.ensures.read;
      unrecorded = λ none. ended.ensures.unrecorded (ap (λ k. k.keep) work ∙ c.is_some-keep.ensures ∙ ap (λ k. is_some k) none) ∙ ap (λ k. k.rec) work ∙ c.prepare.ensures.unrecorded none;
      faults = ended.ensures.faults;
    }
