use Rattle.std.proofs.Common.{◌≡◌, List, ◌++◌, not, ◌&&◌, flat_map, [], subst}
use Rattle.std.specs.List.{list_any}
use Rattle.std.specs.Option.{option_map_or}
use Rattle.zre_peer.specs.declared.event.Event.{Event}
use Rattle.zre_values.proofs.AnswersThatAreOk.{on_ok}
use Rattle.zre_records.specs.table.Kept.{Keeps}
use Rattle.zre_records.specs.table.Writes.{frames, frames_told, frames_asked, is_refusal}
use Rattle.zre_records.proofs.table.WritesOfEntry.{gathered_on}
use Rattle.zre_records.proofs.table.gathering.gather_entry.Goals as goal

pub returns : goal.returns
returns c = λ g J k.
    let told = subst (λ (es : List Event). Keeps (frames g c.args.group.now J ++ flat_map (frames_told c.args.group.now) es) c.take_events.new.replica) c.as_slice-events.ensures
    (c.in_ok-take_events.ensures (frames g c.args.group.now J) k.keeps) in
    on_ok c.take_shout.result (c.take_shout.ensures (frames g c.args.group.now J ++ flat_map (frames_told c.args.group.now) c.in_ok-step.step.events) told)
    (λ p. gathered_on g c.args.group.now J c.args.entry c.step.new.self c.in_ok-step.step c.stopped-stopped.result c.is_done.result (option_map_or (frames_asked c.args.group.now) c.in_ok-shout.shout []) _
    (c.in_ok-step.ensures.steps g J k.stands) (c.stopped-stopped.ensures g J k.stands) c.in_ok-shout.ensures (subst (λ (es : List Event). c.is_done.result ≡ (not c.stopped-stopped.result && not (list_any is_refusal es))) c.as_slice-events.ensures c.is_done.ensures) p)
