-- What the nodes of a schedule tell, move by move.
use Rattle.std.specs.Prelude.{◌≡◌, ◌≤◌, ℕ, List, [], ◌∷◌, ◌++◌, Some, None, map, length, drop}
use Rattle.std.specs.Option.{option_map_or}
use Rattle.zre_peer.specs.declared.event.Event.{Event}
use Rattle.zre_journal.specs.Events.{events_at}
use Rattle.zre_net.specs.declared.moves.Move.{Move}
use Rattle.zre_net.specs.History.{NodeTurn, Happening, Happens, chronicle_of}
use Rattle.zre_net.specs.Comes.{history, turn}

-- the events of a turn, after H, each with the number of the node
abbrev pub said_at : NodeTurn → List Happening → List (ℕ × Event)
said_at t H = map (λ e. (t.who.node, e)) (events_at t.who.settings t.entry (chronicle_of t.who H))

abbrev pub said_in : List Happening → List (ℕ × Event)
said_in [] = []
said_in (Happens m None ∷ H) = said_in H
said_in (Happens m (Some t) ∷ H) = said_in H ++ said_at t H

abbrev pub said : List Move → List (ℕ × Event)
said s = said_in (history s)

-- what they tell of one move, after H
abbrev pub told_by : Move → List Happening → List (ℕ × Event)
told_by m H = option_map_or (λ (t : NodeTurn). said_at t H) (turn m H) []

-- of all that was told so many events were handed out, and these are left
pub record IsRest (handed : ℕ) (all left : List (ℕ × Event)) : Type 0 where
  pub few : handed ≤ length all
  pub is : left ≡ drop handed all
