use Rattle.std.proofs.Common.{ap, sym, ◌∙◌, ◌++◌, append_assoc}
use Rattle.std.specs.List.{concat}
use Rattle.bytes.proofs.Chunks.{concat_push}
use Rattle.zre_link.proofs.queue.put.Goals as goal

pub returns-in-Ok-clause-ok : goal.returns-in-Ok-clause-ok
returns-in-Ok-clause-ok c =
    let old = concat c.args.parts.now.items in
    let part = c.args.part in (
      c.in-Ok.ensures.ok.0,
      ap concat c.push_back_reserved.ensures.items ∙ concat_push c.close.new.parts.items part
          ∙ ap (λ l. l ++ part) (c.in-Ok.ensures.ok.1 ∙ ap (λ l. old ++ l) c.in_ok-extend_from_slice.ensures.ok ∙ sym (append_assoc old c.args.newest.now.items c.args.text.now)),
    )
