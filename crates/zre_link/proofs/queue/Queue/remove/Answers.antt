use Rattle.std.proofs.Common.{ap, ◌∙◌, ◌++◌, drop}
use Rattle.std.specs.List.{concat}
use Rattle.zre_link.proofs.RemovedOctets.{drop_both}
use Rattle.zre_link.proofs.queue.Queue.remove.Goals as goal

pub returns : goal.returns
returns c =
    let parts = concat c.self.inside.parts.items in
    let newest = c.self.inside.newest.items in
    ap (λ l. l ++ c.remove_newest.new.newest.items) c.remove_parts-left.ensures.removed
    ∙ ap (λ l. drop c.args.count parts ++ l) (c.remove_newest.ensures ∙ ap (λ n. drop n newest) c.remove_parts-left.ensures.missing)
    ∙ drop_both c.args.count parts newest ∙ ap (λ l. drop c.args.count l) c.self.view_is
