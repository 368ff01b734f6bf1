use Rattle.std.proofs.Common.{◌++◌, ◌-◌, length, drop, ap, ◌∙◌, arith}
use Rattle.std.specs.List.{concat}
use Rattle.zre_link.proofs.LastOctets.{last_of_both}
use Rattle.zre_link.proofs.queue.Queue.last.Goals as goal

pub returns : goal.returns
returns c =
    let parts = concat c.self.inside.parts.items in
    let newest = c.self.inside.newest.items in
    let is = c.as_slice-newest.ensures in
    last_of_both parts newest c.args.self.now c.in_ok-from_vec.field-0 c.args.count c.self.view_is (let len = ap length is in omega (arith, c.if-count-newest.false, len))
    (c.in_ok-from_vec.ensures.ok ∙ c.in_ok-extend_from_slice.ensures.items
    ∙ ap (λ l. l ++ c.as_slice-newest.result.now) (c.in_ok-copy_parts.ensures
    ∙ ap (λ l. l ++ drop c.place_of_last-first.result.1 (concat (drop c.place_of_last-first.result.0 c.self.inside.parts.items))) c.in_ok-octets.ensures.items ∙ c.place_of_last-first.ensures)
    ∙ (λ i. drop (length parts - (c.args.count - length (is i))) parts ++ is i))
