use Rattle.std.proofs.Common.{◌≡◌, ℕ, [], ◌∷◌, ◌++◌, List, take, get_or, ap, ◌∙◌, arith}
use Rattle.zre_outside.specs.declared.entry.Entry.{Entry}
use Rattle.zre_peer.specs.Lines.{lines}
use Rattle.zre_peer.specs.declared.event.Event.{Event}
use Rattle.zre_records.specs.replay.Taken.{Took}
use Rattle.zre_records.proofs.replay.EntriesReplayed.{took_more, next_of, later_of}
use Rattle.zre_records.proofs.replay.taking.take_entries.Goals as goal

pub loop-entry-preserved : goal.loop-entry-preserved
loop-entry-preserved c =
    let i = c.loop-entry.entry-index in
    let left = c.loop-entry.entry-items in
    let front = take i c.args.entries in
    let same = c.loop-entry.invariant.1 in
    let entry = get_or left i c.entry-item.result in
    let now = next_of c.args.entries left i c.entry-item.result same (omega arith) in (
      (λ g J s.
          let so_far = c.loop-entry.invariant.0 g J s in
          let step = c.in_ok-take.ensures g _ so_far.stands in
          rw now (took_more g J front (entry ∷ []) c.loop-entry.node c.take.new.node c.args.out.now c.loop-entry.out c.tell_all.new.out so_far (record {
            stands = step.stands;
            told = c.take.new.step.events;
            more = step.told;
            appended = c.in_ok-tell_all.ensures ∙ ap (λ (es : List Event). c.loop-entry.out ++ lines es) c.as_slice.ensures;
          }))),
      later_of c.args.entries left i c.take.new.entry same,
    )
