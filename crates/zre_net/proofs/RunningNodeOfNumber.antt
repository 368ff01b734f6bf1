-- The node that runs under a number.
use Rattle.std.proofs.Common.{◌≡◌, ℕ, List, Some, is_some, sym, ap, ◌∙◌, subst}
use Rattle.zre_net.specs.declared.running.network.Network.{Network}
use Rattle.zre_net.specs.declared.running.rows.Started.{Started}
use Rattle.zre_net.specs.History.{Incarnation, Happening, running, journal}
use Rattle.zre_net.specs.Lists.{nth}
use Rattle.zre_net.specs.Rows.{running_at, has_node}
use Rattle.zre_net.specs.Running.{StandsAfter, Finds}
use Rattle.zre_net.specs.Sending.{HasSent}
use Rattle.zre_net.proofs.ListsCountedFromOne.{some_one}
use Rattle.zre_net.proofs.MovesWithEntries.{runs_there}

pub sends_for : (H : List Happening) (net : Network) (n start : ℕ) (a : Incarnation) (x : Started) → StandsAfter H net → running n H ≡ Some a → Some start ≡ running_at n net.running.items → Some x ≡ nth start net.started.items → HasSent a.settings (journal a H) x.sender
sends_for H net n start a x s runs found row =
    let f : Finds H n (Some a) (running_at n net.running.items) = subst (λ o. Finds H n o (running_at n net.running.items)) runs (s.nodes.runs n) in
    let same : start ≡ a.number = some_one (found ∙ f.0) in
    let its = s.nodes.started.each a.number a f.1 in
    let here : its.row ≡ x = some_one (sym its.there ∙ ap (λ k. nth k net.started.items) (sym same) ∙ sym row) in
    subst (λ (y : Started). HasSent a.settings (journal a H) y.sender) here its.is.sent

-- the node of a start that runs is there, as somebody runs
pub is_live : (H : List Happening) (net : Network) (n start : ℕ) → StandsAfter H net → Some start ≡ running_at n net.running.items → has_node (nth start net.started.items) ≡ is_some (running n H)
is_live H net n start s e = s.nodes.live n start (sym e) ∙ sym (ap (λ o. is_some o) (runs_there H net n start s e).is)
