use Rattle.std.proofs.Common.{◌≡◌, ◌++◌, Bool, true≢false, refl, sym, ap, ◌∙◌, subst, arith}
use Rattle.std.specs.Prelude.{option_map, Err}
use Rattle.std.proofs.KnownBytes.{Keeps-refl, Keeps-trans}
use Rattle.zre_outside.specs.declared.turn.Turn.{Turn}
use Rattle.zre_outside.specs.Worlds.{IsTurn, is_look, after_turn}
use Rattle.zre_outside.proofs.CountsThatRose.{rose_since}
use Rattle.zre_actor.specs.declared.ending.Ending.TheVariants as ending
use Rattle.zre_outside.specs.Refusals.{refused_after}
use Rattle.zre_actor.specs.Work.{Broke, Went, scene, world_ending, is_world_fault, is_record_fault}
use Rattle.zre_actor.proofs.RefusedCalls.{left_with, spared, world_refused, record_spared}
use Rattle.zre_actor.proofs.WorkAfterTurns as working
use Rattle.zre_actor.proofs.passes.Pipes.work.Goals as goal
use Rattle.zre_actor.proofs.passes.Pipes.work.Goals.{in-Look, in-Look+else-turn-limit, in-Entry+in-Ok-take_entry}

pub loop-turn-init : goal.loop-turn-init
loop-turn-init g c = record {
  pipes = (c.requires.pipes, refl);
  open_ = c.requires.open;
  looked = λ is. absurd (true≢false (sym is));
  last = λ _. refl;
  keep = refl;
  unkept = λ _. refl;
  begun = refl;
  named = Keeps-refl (g.R.Recorder.named c.args.rec);
  world = refl;
  record_ = refl;
  running = λ f K here. working.running_start f K c.args.keep c.args.limit
      (scene (g.W.World.told c.args.world) (g.W.World.looked c.args.world) (g.W.World.faults c.args.world) (g.R.Recorder.kept c.args.rec) (g.R.Recorder.faults c.args.rec) c.args.pass) c.args.node here;
}

pub returns-then-stopped-clause-work : goal.returns-then-stopped-clause-work
returns-then-stopped-clause-work g c = λ f K here. (
    let w = g.W.World in let r = g.R.Recorder in let l = c.loop-turn in let n = l.actor in let d = n.recording in let b = c.leave in let same = b.ensures.same in let p = b.ensures.pass in
    let s = scene (w.told c.args.world) (w.looked c.args.world) (w.faults c.args.world) (r.kept c.args.rec) (r.faults c.args.rec) c.args.pass in
    let t = scene (w.told n.world) (w.looked n.world) (w.faults n.world) (r.kept d.rec) (r.faults d.rec) l.pass in
    let k = l.invariant.running f K here in
    let stopped = sym (c.stopped.ensures f (K ++ k.ran.entries) k.ran.node) ∙ c.if-stopped.true in
    working.handed_back f K c.args.keep c.args.limit s t _ n.node _ ending.Stopped _ (working.leaves_stopped f K c.args.keep c.args.limit s l.turn t n.node l.command d.before k stopped)
    (λ i. record { told = w.told (same.0 i); looked = w.looked (same.0 i); world_faults = w.faults (same.0 i); kept = r.kept (same.2 i); record_faults = r.faults (same.2 i); popped = p.0 i; raised = p.1 i; empties = p.2 i })
    same.1 same.3)

pub returns-in-Err-clause-work : goal.returns-in-Err-clause-work
returns-in-Err-clause-work g c = λ f K here. (
    let w = g.W.World in let r = g.R.Recorder in let l = c.loop-turn in let n = l.actor in let d = n.recording in let b = c.leave-in-Err in let same = b.ensures.same in let p = b.ensures.pass in let x = c.next.new.self in
    let s = scene (w.told c.args.world) (w.looked c.args.world) (w.faults c.args.world) (r.kept c.args.rec) (r.faults c.args.rec) c.args.pass in
    let t = scene (w.told n.world) (w.looked n.world) (w.faults n.world) (r.kept d.rec) (r.faults d.rec) l.pass in
    let u = scene (w.told x) (w.looked x) (w.faults x) (r.kept d.rec) (r.faults d.rec) l.pass in
    let k = l.invariant.running f K here in
    let going = sym (c.stopped.ensures f (K ++ k.ran.entries) k.ran.node) ∙ c.if-stopped.false in
    let refuses : working.Refuses f K c.args.keep c.args.limit s l.turn t n.node l.command d.before k c.in-Err.fault u = record {
      told = c.in-Err.ensures.refused.0;
      looked = c.in-Err.ensures.refused.1;
      popped = refl;
      empties = refl;
      calm = record { raised = refl; kept = refl; world_later = c.in-Err.ensures.later; record_same = refl };
      rose = λ e. c.in-Err.ensures.failed (ap Err e);
    } in
    working.handed_back f K c.args.keep c.args.limit s u _ n.node _ (world_ending c.in-Err.fault) _
    (working.refused_ends f K c.args.keep c.args.limit s l.turn u n.node l.command d.before (working.refused f K c.args.keep c.args.limit s l.turn t n.node l.command d.before k c.in-Err.fault u refuses) c.in-Err.fault c.loop-turn-test.true
    (λ e. rose_since s.world_faults t.world_faults u.world_faults k.world_later (refuses.rose e)) going)
    (λ i. record { told = w.told (same.0 i); looked = w.looked (same.0 i); world_faults = w.faults (same.0 i); kept = r.kept (same.2 i); record_faults = r.faults (same.2 i); popped = p.0 i; raised = p.1 i; empties = p.2 i })
    same.1 (same.3 ∙ c.ending_by.ensures))

pub returns-in-Err-take_entry-clause-work : goal.returns-in-Err-take_entry-clause-work
returns-in-Err-take_entry-clause-work g c = λ f K here. (
    let w = g.W.World in let r = g.R.Recorder in let l = c.loop-turn in let n = l.actor in let d = n.recording in let b = c.leave-in-Err-take_entry in let same = b.ensures.same in let p = b.ensures.pass in let x = c.next.new.self in
    let z = c.take_entry.new.self in let took = c.take_entry.ensures in
    let s = scene (w.told c.args.world) (w.looked c.args.world) (w.faults c.args.world) (r.kept c.args.rec) (r.faults c.args.rec) c.args.pass in
    let t = scene (w.told n.world) (w.looked n.world) (w.faults n.world) (r.kept d.rec) (r.faults d.rec) l.pass in
    let u = scene (w.told z.world) (w.looked z.world) (w.faults z.world) (r.kept z.recording.rec) (r.faults z.recording.rec) l.pass in
    let k = l.invariant.running f K here in
    let going = sym (c.stopped.ensures f (K ++ k.ran.entries) k.ran.node) ∙ c.if-stopped.false in
    let facts = subst (λ (a : Turn). IsTurn l.command a × (w.told x ≡ option_map (after_turn l.command a) (w.told n.world)) × (w.looked x ≡ is_look a)) c.in-Entry.is (c.in-Ok.ensures.turn, c.in-Ok.ensures.told, c.in-Ok.ensures.looked) in
    let gives : working.Gives f K c.args.keep c.args.limit s l.turn t n.node l.command d.before k c.in-Entry.entry (w.told x) u = record {
      is_turn = facts.0;
      given = facts.1;
      value = took.value;
      looked = took.world.0 ∙ facts.2;
      popped = refl;
      empties = refl;
      world_later = omega (arith, c.in-Ok.ensures.later, took.world.1);
      record_later = took.later;
    } in
    working.handed_back f K c.args.keep c.args.limit s u _ z.node _ c.in-Err-take_entry.ending _
    (working.broke f K c.args.keep c.args.limit s l.turn t n.node l.command d.before k c.in-Entry.entry (w.told x) u z.node c.in-Err-take_entry.ending gives c.loop-turn-test.true refl going
    (subst (λ (keep : Bool). Broke f (K ++ k.ran.entries) c.in-Entry.entry keep d.before (w.told x) u.told t.kept u.kept t.record_faults u.record_faults z.node c.in-Err-take_entry.ending) l.invariant.keep
    (c.in-Err-take_entry.ensures.broke f (K ++ k.ran.entries) k.ran.node)))
    (λ i. record { told = w.told (same.0 i); looked = w.looked (same.0 i); world_faults = w.faults (same.0 i); kept = r.kept (same.2 i); record_faults = r.faults (same.2 i); popped = p.0 i; raised = p.1 i; empties = p.2 i })
    same.1 same.3)

pub take_entry-requires : goal.take_entry-requires
take_entry-requires g c = λ is. (let h = c.loop-turn.invariant in h.begun ∙ c.requires.begun (sym h.keep ∙ is))

pub returns-in-Err-take_entry-clause-unkept : goal.returns-in-Err-take_entry-clause-unkept
returns-in-Err-take_entry-clause-unkept g c = λ is. (let h = c.loop-turn.invariant in
    c.leave-in-Err-take_entry.ensures.same.2 ∙ c.take_entry.ensures.unkept (h.keep ∙ is) ∙ h.unkept is)

pub returns-clause-work : goal.returns-clause-work
returns-clause-work g c = λ f K here. (
    let w = g.W.World in let r = g.R.Recorder in let l = c.loop-turn in let n = l.actor in let d = n.recording in let b = c.leave-2 in let same = b.ensures.same in let p = b.ensures.pass in
    let s = scene (w.told c.args.world) (w.looked c.args.world) (w.faults c.args.world) (r.kept c.args.rec) (r.faults c.args.rec) c.args.pass in
    let t = scene (w.told n.world) (w.looked n.world) (w.faults n.world) (r.kept d.rec) (r.faults d.rec) l.pass in
    let k = l.invariant.running f K here in
    let last : l.turn ≡ c.args.limit = omega (arith, c.loop-turn-test.false) in
    working.handed_back f K c.args.keep c.args.limit s t _ n.node _ c.last_ending-ending.result _
    (working.leaves_at_end f K c.args.keep c.args.limit s l.turn t n.node l.command d.before k (l.invariant.last last) last c.last_ending-ending.result (c.last_ending-ending.ensures.stopped f (K ++ k.ran.entries) k.ran.node))
    (λ i. record { told = w.told (same.0 i); looked = w.looked (same.0 i); world_faults = w.faults (same.0 i); kept = r.kept (same.2 i); record_faults = r.faults (same.2 i); popped = p.0 i; raised = p.1 i; empties = p.2 i })
    same.1 same.3)

pub loop-turn-preserved : goal.loop-turn-preserved
loop-turn-preserved g c =
    let w = g.W.World in let r = g.R.Recorder in let l = c.loop-turn in let n = l.actor in let d = n.recording in let h = l.invariant in let x = c.next.new.self in
    let s = scene (w.told c.args.world) (w.looked c.args.world) (w.faults c.args.world) (r.kept c.args.rec) (r.faults c.args.rec) c.args.pass in
    let t = scene (w.told n.world) (w.looked n.world) (w.faults n.world) (r.kept d.rec) (r.faults d.rec) l.pass in
    elim c.match-answer.branch [
      | in-Look m ↦
          let facts = subst (λ (a : Turn). IsTurn l.command a × (w.told x ≡ option_map (after_turn l.command a) (w.told n.world)) × (w.looked x ≡ is_look a)) m.in-Look.is (c.in-Ok.ensures.turn, c.in-Ok.ensures.told, c.in-Ok.ensures.looked) in
          rw (m.pass-is, m.actor-is, m.command-is) (record {
            pipes = (m.pop.ensures.pipes, m.pop.ensures.unused ∙ h.pipes.1);
            open_ = m.pop.ensures.events.1 ∙ h.open_;
            looked = λ _. facts.2;
            last = λ e. absurd (omega (arith, m.if-turn-limit.true));
            keep = h.keep;
            unkept = h.unkept;
            begun = h.begun;
            named = h.named;
            world = c.in-Ok.ensures.counts ∙ h.world;
            record_ = h.record_;
            running = λ f K here. (let k = h.running f K here in
                let u = scene (w.told x) (w.looked x) (w.faults x) (r.kept d.rec) (r.faults d.rec) m.pop.result.0 in
                let going = sym (c.stopped.ensures f (K ++ k.ran.entries) k.ran.node) ∙ c.if-stopped.false in
                let looks : working.Looks f K c.args.keep c.args.limit s l.turn t n.node l.command d.before k u = record { told = facts.1; looked = facts.2; calm = record { raised = m.pop.ensures.events.0; kept = refl; world_later = c.in-Ok.ensures.later; record_same = refl } } in
                working.looked_again f K c.args.keep c.args.limit s l.turn t n.node l.command d.before k u m.pop.result.1 looks
                (working.pops l.pass m.pop.result.0 m.pop.result.1 (w.told n.world) (w.told x) (w.looked n.world) (w.looked x) (w.faults n.world) (w.faults x) (r.kept d.rec) (r.faults d.rec)
                (let rare = working.rare f K c.args.keep c.args.limit s l.turn t n.node l.command d.before k in omega (arith, rare, c.requires.room, c.loop-turn-test.true)) m.pop.ensures.popped)
                m.if-turn-limit.true facts.0 going);
          })
      | in-Look+else-turn-limit m ↦
          let facts = subst (λ (a : Turn). IsTurn l.command a × (w.told x ≡ option_map (after_turn l.command a) (w.told n.world)) × (w.looked x ≡ is_look a)) m.in-Look.is (c.in-Ok.ensures.turn, c.in-Ok.ensures.told, c.in-Ok.ensures.looked) in
          rw (m.pass-is, m.actor-is, m.command-is) (record {
            pipes = h.pipes;
            open_ = h.open_;
            looked = λ is. absurd (true≢false (sym is));
            last = λ _. refl;
            keep = h.keep;
            unkept = h.unkept;
            begun = h.begun;
            named = h.named;
            world = c.in-Ok.ensures.counts ∙ h.world;
            record_ = h.record_;
            running = λ f K here. (let k = h.running f K here in
                let u = scene (w.told x) (w.looked x) (w.faults x) (r.kept d.rec) (r.faults d.rec) l.pass in
                let looks : working.Looks f K c.args.keep c.args.limit s l.turn t n.node l.command d.before k u = record { told = facts.1; looked = facts.2; calm = record { raised = refl; kept = refl; world_later = c.in-Ok.ensures.later; record_same = refl } } in
                working.looked_last f K c.args.keep c.args.limit s l.turn t n.node l.command d.before k u looks refl refl (omega (arith, m.if-turn-limit.false, c.loop-turn-test.true)) facts.0);
          })
      | in-Entry+in-Ok-take_entry m ↦
          let z = m.take_entry.new.self in let took = m.take_entry.ensures in
          let facts = subst (λ (a : Turn). IsTurn l.command a × (w.told x ≡ option_map (after_turn l.command a) (w.told n.world)) × (w.looked x ≡ is_look a)) m.in-Entry.is (c.in-Ok.ensures.turn, c.in-Ok.ensures.told, c.in-Ok.ensures.looked) in
          rw (m.pass-is, m.actor-is, m.in-Ok-take_entry.ensures.next, m.command-is) (record {
            pipes = (m.raise_all-pass.ensures.pipes.0, m.raise_all-pass.ensures.pipes.1 ∙ h.pipes.1);
            open_ = m.raise_all-pass.ensures.open;
            looked = λ is. absurd (true≢false (sym is));
            last = λ _. refl;
            keep = took.keep ∙ h.keep;
            unkept = λ i. took.unkept (h.keep ∙ i) ∙ h.unkept i;
            begun = took.begun ∙ h.begun;
            named = Keeps-trans (r.named c.args.rec) (r.named d.rec) (r.named z.recording.rec) h.named took.named;
            world = took.world.2 ∙ c.in-Ok.ensures.counts ∙ h.world;
            record_ = m.in-Ok-take_entry.ensures.counts ∙ h.record_;
            running = λ f K here. (let k = h.running f K here in
                let u = scene (w.told z.world) (w.looked z.world) (w.faults z.world) (r.kept z.recording.rec) (r.faults z.recording.rec) m.raise_all-pass.result in
                let gives : working.Gives f K c.args.keep c.args.limit s l.turn t n.node l.command d.before k m.in-Entry.entry (w.told x) u = record {
                  is_turn = facts.0;
                  given = facts.1;
                  value = took.value;
                  looked = took.world.0 ∙ facts.2;
                  popped = m.raise_all-pass.ensures.commands.0;
                  empties = m.raise_all-pass.ensures.commands.1;
                  world_later = omega (arith, c.in-Ok.ensures.later, took.world.1);
                  record_later = took.later;
                } in
                working.went_on f K c.args.keep c.args.limit s l.turn t n.node l.command d.before k m.in-Entry.entry (w.told x) u z.node z.step.events gives c.loop-turn-test.true facts.0
                (sym (c.stopped.ensures f (K ++ k.ran.entries) k.ran.node) ∙ c.if-stopped.false)
                (subst (λ (keep : Bool). Went f (K ++ k.ran.entries) m.in-Entry.entry keep d.before (w.told x) u.told t.kept u.kept z.node z.step.events) h.keep (m.in-Ok-take_entry.ensures.ok f (K ++ k.ran.entries) k.ran.node)) m.raise_all-pass.ensures.raised);
          })
    ]

-- ---- the calls that were refused

pub returns-then-stopped-clause-counts : goal.returns-then-stopped-clause-counts
returns-then-stopped-clause-counts g c =
    let w = g.W.World in let r = g.R.Recorder in let h = c.loop-turn.invariant in let same = c.leave.ensures.same in (
      left_with is_world_fault _ ending.Stopped _ _ _ (ap w.refused same.0) h.world same.3,
      left_with is_record_fault _ ending.Stopped _ _ _ (ap r.refused same.2) h.record_ same.3,
    )

pub returns-in-Err-clause-counts : goal.returns-in-Err-clause-counts
returns-in-Err-clause-counts g c =
    let w = g.W.World in let r = g.R.Recorder in let h = c.loop-turn.invariant in let same = c.leave-in-Err.ensures.same in let f = c.in-Err.fault in
    let end = same.3 ∙ c.ending_by.ensures in (
      left_with is_world_fault _ (world_ending f) _ _ _ (ap w.refused same.0) (world_refused f _ _ _ c.in-Err.ensures.counts h.world) end,
      left_with is_record_fault _ (world_ending f) _ _ _ (ap r.refused same.2) (record_spared f _ _ h.record_) end,
    )

pub returns-in-Err-take_entry-clause-counts : goal.returns-in-Err-take_entry-clause-counts
returns-in-Err-take_entry-clause-counts g c =
    let w = g.W.World in let r = g.R.Recorder in let h = c.loop-turn.invariant in let same = c.leave-in-Err-take_entry.ensures.same in let x = c.in-Err-take_entry in (
      left_with is_world_fault _ x.ending _ _ _ (ap w.refused same.0)
          (spared (is_world_fault x.ending) _ _ x.ensures.inside (c.take_entry.ensures.world.2 ∙ c.in-Ok.ensures.counts ∙ h.world)) same.3,
      left_with is_record_fault _ x.ending _ _ _ (ap r.refused same.2) (x.ensures.counts ∙ ap (refused_after (is_record_fault x.ending)) h.record_) same.3,
    )

pub returns-clause-counts : goal.returns-clause-counts
returns-clause-counts g c =
    let w = g.W.World in let r = g.R.Recorder in let h = c.loop-turn.invariant in let same = c.leave-2.ensures.same in let e = c.last_ending-ending in (
      left_with is_world_fault _ e.result _ _ _ (ap w.refused same.0) (spared (is_world_fault e.result) _ _ e.ensures.inside.0 h.world) same.3,
      left_with is_record_fault _ e.result _ _ _ (ap r.refused same.2) (spared (is_record_fault e.result) _ _ e.ensures.inside.1 h.record_) same.3,
    )
