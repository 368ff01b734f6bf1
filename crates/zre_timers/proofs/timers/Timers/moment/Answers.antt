use Rattle.std.proofs.Common.{sym, ap, ◌∙◌}
use Rattle.std.specs.FinMap as map
use Rattle.zre_timers.specs.Moments.{Moments}
use Rattle.zre_timers.proofs.EntriesAsMap.{read}
use Rattle.zre_timers.proofs.timers.Timers.moment.Goals as goal

pub returns : goal.returns
returns c =
    c.copied.ensures ∙ c.get.ensures.value ∙ sym (read c.self.inside.moments c.args.key) ∙ ap (λ (m : Moments). map.get m c.args.key) c.self.view_is
