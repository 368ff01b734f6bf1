use Rattle.std.proofs.Common.{◌≡◌, ◌∙◌, ap, sym, subst, length}
use Rattle.std.proofs.lemmas.List.{length-map}
use Rattle.zre_net.specs.Texts.{text_at, numbered}
use Rattle.zre_net.proofs.TextsStay.{has_last}
use Rattle.zre_net.proofs.running.texts.Texts.add.Goals as goal

pub returns-clause-of : goal.returns-clause-of
returns-clause-of c =
    has_last c.args.self.now c.push.new.self _ c.args.number c.len-count.result c.args.message c.in_ok-push.ensures.ok
    (c.len-count.ensures ∙ sym (length-map c.self.inside.places (text_at c.self.inside.short c.self.inside.long)) ∙ ap (λ ts. length ts) c.self.view_is)
    (subst (λ o. numbered c.args.number (record { octets = o; at = c.place_of_number-at.result }) ≡ o) c.as_slice.ensures c.place_of_number-at.ensures)
