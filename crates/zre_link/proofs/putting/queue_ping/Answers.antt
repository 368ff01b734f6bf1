use Rattle.std.proofs.Common.{ℕ, List, [], ◌∷◌, ◌++◌, get_or, refl, ap, ◌∙◌}
use Rattle.zre_link.proofs.putting.queue_ping.Goals as goal

pub returns : goal.returns
returns c =
    let all = c.in_ok-all.ensures.ok 8 refl in
    let ping : List ℕ → List ℕ = λ n. c.args.queue.now ++ 0 ∷ 6 ∷ 170 ∷ 161 ∷ 6 ∷ 2 ∷ get_or n 0 0 ∷ get_or n 1 0 ∷ [] in
    record { queued = ((c.in_ok-append.ensures.ok ∙ ap ping c.to_be_bytes.ensures, all.0, all.1), tt, tt) }
