use Rattle.std.proofs.Common.{ℕ, List, [], ◌∷◌, ◌++◌, ap, sym, ◌∙◌, append_assoc}
use Rattle.zre_capture.specs.Draws.{octets_drawn}
use Rattle.zre_capture.proofs.SpelledMessages.{content_framed}
use Rattle.zre_capture.proofs.talk.push_content.Goals as goal

pub returns-clause-octets : goal.returns-clause-octets
returns-clause-octets c =
    let before = c.args.out.now in
    let x = c.args.x in
    c.push_drawn.ensures.octets ∙ ap (λ (o : List ℕ). o ++ octets_drawn 8 x) c.append.ensures
    ∙ append_assoc before (0 ∷ 32 ∷ []) (octets_drawn 8 x) ∙ ap (λ (o : List ℕ). before ++ o) (sym (content_framed x))
