-- Which queue of sources has the next turn.
use Rattle.std.specs.Prelude.{ℕ, Bool, not, ◌&&◌, ◌||◌, List, nat_lt, length, if◌then◌else◌}
use Rattle.std.specs.declared.alloc.Global.{Global}
use Rattle.std.specs.declared.collections.VecDeque.{VecDeque}
use Rattle.zre_outside.specs.Causes.{raised}
use Rattle.zre_fabric.specs.declared.entry_source.EntrySource.{EntrySource}
use Rattle.zre_fabric.specs.declared.source_queue.SourceQueue.{SourceQueue}
use Rattle.zre_fabric.specs.declared.source_queue.Weight.{Weight}
use Rattle.zre_fabric.specs.declared.source_queue.Weight.TheVariants as weight

-- there is a source
abbrev pub has_some : List EntrySource → Bool
has_some sources = nat_lt 0 (length sources)

-- the light queue, where it has a source, unless it had four turns in a row while the heavy one had a source
abbrev pub is_lights : SourceQueue → Bool
is_lights q = has_some q.light.items && (not (has_some q.heavy.items) || nat_lt q.turns.row 4)

-- how many turns in a row the light one has had while the heavy one had a source, after the next turn
abbrev pub row_after : SourceQueue → ℕ
row_after q = if is_lights q && has_some q.heavy.items then raised q.turns.row else 0

-- the queue of the sources of a weight
abbrev pub queue_of : Weight → SourceQueue → VecDeque EntrySource Global
queue_of weight.Light q = q.light
queue_of weight.Heavy q = q.heavy

abbrev pub other : Weight → Weight
other weight.Light = weight.Heavy
other weight.Heavy = weight.Light
