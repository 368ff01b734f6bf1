use Rattle.zre_journal.specs.Chronicle.{Starts, Ignores}
use Rattle.zre_journal.proofs.KnownAreBorn.{came_right}
use Rattle.zre_journal.proofs.laws.runs_start_where_a_connection_waits.Goals as goal

pub returns : goal.returns
returns c = λ g J. record {
  starts = λ later before d l m e. (came_right g J later before (Starts d l m) e).1.waits;
  refused = λ later before d why e. (came_right g J later before (Ignores d why) e).1;
}
