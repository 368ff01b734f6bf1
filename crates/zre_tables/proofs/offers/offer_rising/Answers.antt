use Rattle.std.proofs.Common.{◌++◌, List, ap, ◌∙◌}
use Rattle.std.proofs.lemmas.Result.{on_ok_weaker}
use Rattle.zre_outside.specs.declared.act.Act.{Act}
use Rattle.zre_tables.proofs.OffersByLinks.{offers_by_links, rising_itself}
use Rattle.zre_tables.proofs.offers.offer_rising.Goals as goal

pub returns-else-are_many : goal.returns-else-are_many
returns-else-are_many c =
    let links = c.args.links.now in
    on_ok_weaker c.offer_each.result
    (λ e. e ∙ ap (λ (xs : List Act). c.args.acts.now ++ xs) (offers_by_links links links _ c.requires.sorted (rising_itself links c.requires.rising))) c.offer_each.ensures
