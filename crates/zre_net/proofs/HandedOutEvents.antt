-- What was told, and handed out.
use Rattle.std.proofs.Common.{◌≡◌, ℕ, ◌+◌, Bool, true, false, cond, List, [], ◌∷◌, ◌++◌, length, Option, Some, None, refl, sym, ap, ◌∙◌, subst, append-nil, append_assoc}
use Rattle.std.specs.Prelude.{sum_by}
use Rattle.std.specs.Bool.{OnTrue}
use Rattle.std.specs.Option.{option_map_or}
use Rattle.zre_peer.specs.declared.event.Event.{Event}
use Rattle.zre_net.specs.declared.moves.Move.{Move}
use Rattle.zre_net.specs.declared.running.network.Network.{Network}
use Rattle.zre_net.specs.declared.running.rows.Carrier.{Carrier}
use Rattle.zre_net.specs.Comes.{turn, with_move, history, history_after}
use Rattle.zre_net.specs.History.{NodeTurn, Happening, Happens}
use Rattle.zre_net.specs.Running.{AreConns, StandsAfter, IsTaken, HasRun}
use Rattle.zre_net.specs.Said.{said, said_at, said_in, told_by, IsRest}
use Rattle.zre_net.proofs.OpeningConnections.{same_fields}
use Rattle.zre_net.proofs.RestOfEvents.{rest_told, rest_out}
use Rattle.zre_net.proofs.MovesInTurn.{history_more, bad_at}

-- ---- one move more

pub said_more : (m : Move) (H : List Happening) → said_in (with_move m H) ≡ said_in H ++ told_by m H
said_more m H = by (turn m H)
  where
    by : (o : Option NodeTurn) → said_in (Happens m o ∷ H) ≡ said_in H ++ option_map_or (λ (t : NodeTurn). said_at t H) o []
    by None = sym (append-nil (said_in H))
    by (Some t) = refl

pub said_on : (ms : List Move) (m : Move) → said (ms ++ m ∷ []) ≡ said ms ++ told_by m (history ms)
said_on ms m = ap said_in (history_more ms m []) ∙ said_more m (history ms)

-- many more

history_both : (ys zs : List Move) (H : List Happening) → history_after (ys ++ zs) H ≡ history_after zs (history_after ys H)
history_both [] zs H = refl
history_both (y ∷ ys) zs H = history_both ys zs (with_move y H)

said_from : (zs : List Move) (H : List Happening) → (more : List (ℕ × Event)) × (said_in (history_after zs H) ≡ said_in H ++ more)
said_from [] H = ([], sym (append-nil (said_in H)))
said_from (m ∷ zs) H =
    let r = said_from zs (with_move m H) in
    (told_by m H ++ r.0, r.1 ∙ ap (λ es. es ++ r.0) (said_more m H) ∙ append_assoc (said_in H) (told_by m H) r.0)

pub said_front : (ys zs : List Move) → (more : List (ℕ × Event)) × (said (ys ++ zs) ≡ said ys ++ more)
said_front ys zs = let r = said_from zs (history ys) in (r.0, ap said_in (history_both ys zs []) ∙ r.1)

-- ---- events are handed out

pub hands_out : (H : List Happening) (net new : Network) → StandsAfter H net → new.handed ≡ net.handed + length net.said → new.said ≡ [] → new.started ≡ net.started → new.running ≡ net.running → new.owners ≡ net.owners → new.beacons ≡ net.beacons → new.links ≡ net.links
    → new.queued ≡ net.queued → new.conns ≡ net.conns → new.pending ≡ net.pending → StandsAfter H new
hands_out H net new s handed none started running owners beacons links queued conns pending = record {
  nodes = same_fields H net new (rest_out net.handed new.handed (said_in H) net.said new.said s.nodes.said handed none) started running owners beacons links queued s.nodes;
  conns_are = subst (λ ys. AreConns H ys.items) (sym conns) s.conns_are;
  pending_is = pending ∙ s.pending_is ∙ ap (λ ys. sum_by (λ (y : Carrier). length y.waiting) ys.items) (sym conns);
}

pub runs_on : (ms : List Move) (m : Move) (good : Bool) (net mid new : Network) → HasRun ms net → IsTaken m (history ms) good mid → (StandsAfter (with_move m (history ms)) mid → StandsAfter (with_move m (history ms)) new × (new.said ≡ [])) → OnTrue good (HasRun (ms ++ m ∷ []) new)
runs_on ms m false net mid new h t f = tt
runs_on ms m true net mid new h t f =
    let now = f (t.stands refl) in record {
      stands = subst (λ H. StandsAfter H new) (sym (history_more ms m [])) now.0;
      all_good = bad_at (2 + length ms) ms (m ∷ []) h.all_good refl ∙ ap (λ b. cond b None (Some (2 + length ms))) (sym t.fits);
      none_left = now.1;
    }

pub told_on : (ms : List Move) (m : Move) (good : Bool) (net mid : Network) (told : List (ℕ × Event)) → HasRun ms net → IsTaken m (history ms) good mid → mid.handed ≡ net.handed → told ≡ mid.said → OnTrue good (told ≡ told_by m (history ms))
told_on ms m false net mid told h t same is = tt
told_on ms m true net mid told h t same is =
    let now : IsRest net.handed (said_in (history ms) ++ told_by m (history ms)) mid.said =
    subst (λ all. IsRest net.handed all mid.said) (said_more m (history ms)) (subst (λ n. IsRest n (said_in (with_move m (history ms))) mid.said) same ((t.stands refl).nodes.said)) in
    is ∙ rest_told net.handed (said_in (history ms)) (told_by m (history ms)) net.said mid.said h.stands.nodes.said now ∙ ap (λ es. es ++ told_by m (history ms)) h.none_left
