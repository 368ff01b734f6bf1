use Rattle.std.proofs.Common.{arith, ap, ◌∙◌, ◌∷◌, [], ◌++◌}
use Rattle.std.specs.List.{concat}
use Rattle.std.proofs.lemmas.List.{drop_all, take_all}
use Rattle.bytes.proofs.Chunks.{concat_push}
use Rattle.zre_link.proofs.queue.close.Goals as goal

pub returns-clause-ok : goal.returns-clause-ok
returns-clause-ok c =
    let parts = c.args.parts.now.items in
    let part = c.in_ok-part.part in (
      c.in_ok-part.ensures.rest.0 ∙ drop_all c.len-len.result c.args.newest.now.items (omega (arith, c.len-len.ensures.value)),
      ap concat c.push_back_reserved.ensures.items ∙ ap (λ l. concat (l ++ part ∷ [])) c.reserve.ensures.items ∙ concat_push parts part
          ∙ ap (λ l. concat parts ++ l) (c.in_ok-part.ensures.front ∙ take_all c.len-len.result c.args.newest.now.items (omega (arith, c.len-len.ensures.value))),
    )
