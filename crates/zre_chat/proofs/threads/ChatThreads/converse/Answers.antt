use Rattle.std.proofs.Common.{◌≡◌, ◌∙◌, ◌∷◌, [], true, true≢false, length, refl, ap, sym, subst, arith, ⊎_elim}
use mathlib.Core.Logic.{inl, inr}
use Rattle.zre_outside.specs.Refusals.{refused_after}
use Rattle.std.specs.Prelude.{option_map}
use Rattle.std.specs.Io.KnownBytes.{Keeps}
use Rattle.std.specs.Arc.{arc_value}
use Rattle.zre_outside.specs.Causes.{Rose}
use Rattle.zre_outside.proofs.CountsThatRose.{rose_since}
use Rattle.zre_node.specs.Journal.{StandsFor}
use Rattle.zre_actor.specs.Passes.{IsActorOf, IsCallerOf, unused_by}
use Rattle.zre_actor.specs.Work.{IsWork, scene, is_world_fault, is_record_fault}
use Rattle.zre_actor.proofs.NumbersGivenBack.{two_alone}
use Rattle.zre_commands.specs.declared.pump.status.Status.{Status}
use Rattle.zre_commands.specs.declared.pump.status.Status.TheVariants.{NoThread}
use Rattle.zre_console.specs.Lived.{Seen, seen}
use Rattle.zre_chat.specs.Chat.{IsChat}
use Rattle.zre_console.specs.reader.Reading.{EndsByRefusal}
use Rattle.zre_console.specs.Statuses.{least, of_read, of_print, of_work, of_thread}
use Rattle.zre_console.proofs.SecondCaller.{asker_ended}
use Rattle.zre_console.proofs.StatusIsFirstFailure.{below_self, first_of_all, reads_so, thread_unread}
use Rattle.zre_console.proofs.LeastStatus.{thread_isnt}
use Rattle.zre_chat.proofs.ChatOfThreads.{talked}
use Rattle.zre_console.proofs.EndBeforeStart.{head_only}
use Rattle.zre_chat.proofs.ChatOfParts.{untalked}
use Rattle.zre_chat.proofs.threads.ChatThreads.converse.Goals as goal

pub returns-in-Err-clause-chat : goal.returns-in-Err-clause-chat
returns-in-Err-clause-chat g c = λ f start name s stands p. (
    let i = g.I.Source in let w = g.W.World in let o = g.O.Sink in let r = g.R.Recorder in let a = c.args in
    let back = c.in-Err.ensures.refused in
    let world = c.in-Err.world in let rec_ = c.in-Err.rec in
    let kept = ap (λ x. r.kept x.1) back in
    let named = ap (λ x. r.named x.1) back in
    untalked f start name a.work.limit p.are_settings true s
    (seen (i.left a.self.input) (i.taken a.self.input) (i.faults a.self.input) (w.told world) (w.faults world) (o.written a.out.now) (o.faults a.out.now)
    (r.kept rec_) (r.named rec_) (r.faults rec_) (g.P.Spawner.faults c.start_node.new.spawner))
    NoThread (ap (λ x. x.left) p.same) (ap (λ x. x.taken) p.same) (ap (λ x. x.written) p.same) (ap (λ x. w.told x.0) back ∙ p.told) thread_isnt
    (subst (λ k. Rose k (g.P.Spawner.faults c.start_node.new.spawner)) (ap (λ x. x.refusals) p.same) c.in-Err.ensures.failed)
    (λ file is isnt rose. (
      head_only f s.kept (r.kept a.work.rec) (r.kept rec_) (p.head_kept file is) kept,
      subst (λ k. Keeps (option_map (λ _. file) s.named) k) (sym named) (p.file_named file is),
    )))

pub returns-clause-chat : goal.returns-clause-chat
returns-clause-chat g c = λ f start name s stands p. (
    let i = g.I.Source in let w = g.W.World in let o = g.O.Sink in let r = g.R.Recorder in let a = c.args in let l = c.requires.unused in let x = a.self.base.others in
    let told = c.hold_talk-talk in let done = told.result.done in let printed = told.result.printed in
    let out = c.join-worked.result in let means = c.join-worked.ensures in let began = c.in-Ok.ensures.started in let same = c.settle.ensures.same in
    let u = seen (i.left a.self.input) (i.taken a.self.input) (i.faults a.self.input) (w.told a.work.world) (w.faults a.work.world) (o.written a.out.now) (o.faults a.out.now) (r.kept a.work.rec) (r.named a.work.rec) (r.faults a.work.rec) (g.P.Spawner.faults a.spawner.now) in
    let t = seen (i.left done.input) (i.taken done.input) (i.faults done.input) (w.told out.world) (w.faults out.world) (o.written told.new.out) (o.faults told.new.out) (r.kept out.rec) (r.named out.rec) (r.faults out.rec) (g.P.Spawner.faults told.new.spawner) in
    let work = subst (λ j. StandsFor f [] j.2 → IsWork f [] j.5 j.6 (scene (w.told j.1) (w.looked j.1) (w.faults j.1) (r.kept j.4) (r.faults j.4) j.3)
    (scene (w.told out.world) (w.looked out.world) (w.faults out.world) (r.kept out.rec) (r.faults out.rec) out.pass) out.node out.ending) began (means.6 f []) in
    let status = c.settle.ensures.status ∙ ap (λ k. least (k ∷ of_print printed.fault ∷ of_work out.ending ∷ of_thread told.result.refused ∷ [])) c.of_read.ensures in
    let rose : told.result.refused ≡ true → Rose (g.P.Spawner.faults a.spawner.now) (g.P.Spawner.faults told.new.spawner) = λ is. ⊎_elim (λ e. absurd (true≢false (sym e)))
    (λ h. rose_since (g.P.Spawner.faults a.spawner.now) (g.P.Spawner.faults c.start_node.new.spawner) (g.P.Spawner.faults told.new.spawner) c.in-Ok.ensures.later h) (told.ensures.refused is) in
    subst (λ (y : Seen × Status). IsChat f start name a.work.limit s y.0 y.1)
    (λ k. (
      seen (i.left (sym same.0 k)) (i.taken (sym same.0 k)) (i.faults (sym same.0 k)) (w.told (sym same.1 k)) (w.faults (sym same.1 k)) (o.written told.new.out) (o.faults told.new.out) (r.kept (sym same.2 k)) (r.named (sym same.2 k)) (r.faults (sym same.2 k)) (g.P.Spawner.faults told.new.spawner),
      sym status k,
    ))
    (talked f start name a.work.keep a.work.limit s u t p out.node out.ending (w.looked a.work.world) (w.looked out.world) a.self.base.node_args.pass out.pass (work stands)
    (subst (λ j. Keeps (r.named j.4) (r.named out.rec)) began means.5) l.node_args.none_popped l.node_args.none_raised
    done.end x.last.pass done.pass told.ensures.done.2 x.printer.asker printed.pass told.result.refused x.printer.taker printed.taker printed.fault told.ensures.printed
    told.ensures.failed rose l.none_taken l.last.2 l.new_asker c.requires.apart c.settle.ensures.fronts c.settle.ensures.taken))

pub settle-requires-clause-pipes : goal.settle-requires-clause-pipes
settle-requires-clause-pipes g c = (
  subst (λ ps. IsActorOf ps c.join-worked.result.pass) (ap (λ j. arc_value j.0) c.in-Ok.ensures.started ∙ c.requires.unused.node_args.same ∙ ap (λ p. arc_value p) (sym c.hold_talk-talk.ensures.same)) c.join-worked.ensures.0,
  c.hold_talk-talk.ensures.pipes.0,
)

pub settle-requires-clause-callers : goal.settle-requires-clause-callers
settle-requires-clause-callers g c = let told = c.hold_talk-talk in
    (subst (λ ps. IsCallerOf ps told.result.done.pass) (c.requires.unused.last.0 ∙ ap (λ p. arc_value p) (sym told.ensures.same)) told.ensures.done.0, told.ensures.pipes.1)

pub settle-requires-clause-back : goal.settle-requires-clause-back
settle-requires-clause-back g c =
    let l = c.requires.unused in let told = c.hold_talk-talk in let done = told.result.done in let printed = told.result.printed in let o = g.O.Sink in let x = c.args.self.base.others in
    let many = two_alone done.pass printed.pass (told.ensures.done.2.puts.same_ended ∙ l.last.2.0)
    (asker_ended x.printer.asker told.result.refused x.printer.taker printed.taker printed.pass printed.fault (o.written c.args.out.now) (o.written told.new.out) told.ensures.printed ∙ l.new_asker.0) in
    omega (arith, many, ap length (c.join-worked.ensures.1 ∙ ap (λ j. unused_by j.3) c.in-Ok.ensures.started), l.node_args.unused)

-- ---- the first of what occurred

pub returns-in-Err-clause-first : goal.returns-in-Err-clause-first
returns-in-Err-clause-first g c = let back = c.in-Err.ensures.refused in record {
  written = inl refl;
  recorded = inl (ap (λ x. g.R.Recorder.refused x.1) back);
  given = inl (ap (λ x. g.W.World.refused x.0) back);
  started = inr (below_self 7);
}

pub returns-in-Err-clause-read : goal.returns-in-Err-clause-read
returns-in-Err-clause-read g c = inl (refl, thread_unread)

pub returns-clause-first : goal.returns-clause-first
returns-clause-first g c =
    let w = g.W.World in let r = g.R.Recorder in let told = c.hold_talk-talk in let out = c.join-worked.result in let means = c.join-worked.ensures in let began = c.in-Ok.ensures.started in let same = c.settle.ensures.same in
    let is = c.settle.ensures.status ∙ ap (λ k. least (k ∷ of_print told.result.printed.fault ∷ of_work out.ending ∷ of_thread told.result.refused ∷ [])) c.of_read.ensures in
    let gave = subst (λ j. w.refused out.world ≡ refused_after (is_world_fault out.ending) (w.refused j.1)) began means.7 in
    let kept = subst (λ j. r.refused out.rec ≡ refused_after (is_record_fault out.ending) (r.refused j.4)) began means.8 in
    first_of_all (of_read told.result.done.end) told.result.printed.fault out.ending told.result.refused c.settle.result.status _ _ _ _ _ _ is
    told.ensures.written (ap r.refused same.2 ∙ kept) (ap w.refused same.1 ∙ gave) (λ none. (told.ensures.counts none).1 ∙ c.in-Ok.ensures.counts)

pub returns-clause-read : goal.returns-clause-read
returns-clause-read g c =
    let i = g.I.Source in let told = c.hold_talk-talk in let out = c.join-worked.result in let same = c.settle.ensures.same in
    let is = c.settle.ensures.status ∙ ap (λ k. least (k ∷ of_print told.result.printed.fault ∷ of_work out.ending ∷ of_thread told.result.refused ∷ [])) c.of_read.ensures in
    reads_so told.result.done.end told.result.printed.fault out.ending told.result.refused c.settle.result.status (i.refused c.args.self.input) (i.refused c.settle.result.input) is
    (subst (λ x. EndsByRefusal told.result.done.end (i.refused c.args.self.input) (i.refused x)) (sym same.0) told.ensures.done.3)
