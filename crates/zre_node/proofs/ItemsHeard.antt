-- What is heard, item by item.
use Rattle.std.proofs.Common.{◌≡◌, ℕ, ◌+◌, ◌<◌, Bool, true, false, cond, List, [], map, length, get_or, take, Option, Some, None, refl, sym, ap, ◌∙◌, append-nil, subst}
use Rattle.std.specs.Prelude.{option_to_list}
use Rattle.std.proofs.lemmas.List.{map-append}
use Rattle.zre_zmtp.specs.declared.item.Item.{Item}
use Rattle.zre_mailbox.specs.declared.arrival.Arrival.{Arrival}
use Rattle.zre_mailbox.specs.Talk.{Said, Arrived, arrival_of, arrivals_in}
use Rattle.zre_mailbox.proofs.ConnAfterOctets.{arrives_next}
use Rattle.zre_values.specs.declared.settings.Settings.{Settings as Config}
use Rattle.zre_journal.specs.Chronicle.{Mark, after, in_turn}
use Rattle.zre_journal.specs.Connections.{is_live}
use Rattle.zre_journal.specs.Arrivals.{at_place}
use Rattle.zre_journal.proofs.JoinedEntries.{in_turn-append}
use Rattle.zre_node.specs.declared.tables.Tables.{Tables}
use Rattle.zre_node.specs.declared.effects.Effects.{Effects}
use Rattle.zre_node.specs.Said.{at_item}
use Rattle.zre_node.specs.Stands.{Did}
use Rattle.zre_node.proofs.MarksAfterMarks.{did_as, did_then}

-- what an item brings, as one place of what is said
placed : (g : Config) (c : ℕ) (a : Option Arrival) (K : List Mark) → in_turn (at_place g c) (map (λ (x : Arrival). Arrived x) (option_to_list a)) K ≡ cond (is_live c K) (at_item g c a K) []
placed g c (Some a) K = append-nil (at_place g c (Arrived a) K)
placed g c None K = by (is_live c K)
  where
    by : (b : Bool) → [] ≡ cond b (at_item g c None K) []
    by true = refl
    by false = refl

-- one more of the items that arrive
pub one_more_item : (g : Config) (c : ℕ) (items : List Item) (i : ℕ) (item : Item) (K : List Mark) (t n : Tables) (a b s : Effects) → i < length items → item ≡ get_or items i item
    → Did g (in_turn (at_place g c) (map (λ (x : Arrival). Arrived x) (arrivals_in (take i items))) K) K t a b
    → (let now = after (in_turn (at_place g c) (map (λ (x : Arrival). Arrived x) (arrivals_in (take i items))) K) K in Did g (cond (is_live c now) (at_item g c (arrival_of item.what) now) []) now n b s)
    → Did g (in_turn (at_place g c) (map (λ (x : Arrival). Arrived x) (arrivals_in (take (i + 1) items))) K) K n a s
one_more_item g c items i item K t n a b s lt is d e =
    let f = at_place g c in
    let xs = map (λ (x : Arrival). Arrived x) (arrivals_in (take i items)) in
    let ys = map (λ (x : Arrival). Arrived x) (option_to_list (arrival_of item.what)) in
    subst (λ (zs : List Said). Did g (in_turn f zs K) K n a s)
    (sym (map-append (λ (x : Arrival). Arrived x) (arrivals_in (take i items)) (option_to_list (arrival_of item.what))) ∙ ap (λ (l : List Arrival). map (λ (x : Arrival). Arrived x) l) (arrives_next items i item lt is))
    (did_as g _ _ K n a s (in_turn-append f xs ys K)
    (did_then g (in_turn f xs K) _ K t n a b s d (did_as g _ _ _ n b s (placed g c (arrival_of item.what) (after (in_turn f xs K) K)) e)))
