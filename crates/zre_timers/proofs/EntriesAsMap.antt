-- The map that the entries are seen as.
use Rattle.std.proofs.Common.{◌≡◌, ℕ, Bool, false, List, [], ◌∷◌, Some, None, cond, refl, sym, ap, ◌∙◌}
use Rattle.std.specs.BTreeMap as tree
use Rattle.std.specs.BTreeMap.{is_at}
use Rattle.std.specs.Cmp.{nat_cmp_total, eq_by_cmp_equiv}
use Rattle.std.specs.FinMap as map
use Rattle.std.specs.Map.{lookup}
use Rattle.std.specs.Option.{option_map_or}
use Rattle.std.specs.Ordering.{nat_cmp, eq_by_cmp}
use Rattle.zre_values.specs.Keys.{IsRisingListOf}
use Rattle.zre_timers.specs.Moments.{Moments}
use Rattle.zre_timers.proofs.PairsInBothSets.{MapUpdates}

found : (es : List (ℕ × ℕ)) (key : ℕ) → map.find nat_cmp key es ≡ lookup (is_at (nat_cmp key)) es
found [] key = refl
found (e ∷ es) key = ap (cond (eq_by_cmp nat_cmp key e.0) (Some e.1)) (found es key)

-- the moments of the view are those of the map
pub read : (m : tree.BTreeMap ℕ ℕ) (key : ℕ) → map.get (map.from_entries {R = nat_cmp} m.entries) key ≡ tree.get nat_cmp m key
read m key = map.get-from_entries nat_cmp_total m.entries key ∙ found m.entries key

pub inserted : (m n : tree.BTreeMap ℕ ℕ) (v : Moments) (key at : ℕ) → map.from_entries m.entries ≡ v → MapUpdates m n key (Some at) → map.from_entries n.entries ≡ map.insert v key at
inserted m n v key at is change =
    map.same_map nat_cmp_total map.nat_cmp-IsAntisymmetric _ _ (λ q.
    read n q ∙ change q ∙ (λ i. cond ((eq_by_cmp_equiv nat_cmp_total).symm key q i) (Some at) (sym (read m q) i))
    ∙ ap (λ (w : Moments). cond (eq_by_cmp nat_cmp q key) (Some at) (map.get w q)) is
    ∙ sym (map.get-insert nat_cmp_total v key at q))

pub removed : (m n : tree.BTreeMap ℕ ℕ) (v : Moments) (key : ℕ) → map.from_entries m.entries ≡ v → MapUpdates m n key None → map.from_entries n.entries ≡ map.remove v key
removed m n v key is change =
    map.same_map nat_cmp_total map.nat_cmp-IsAntisymmetric _ _ (λ q.
    read n q ∙ change q ∙ (λ i. cond ((eq_by_cmp_equiv nat_cmp_total).symm key q i) None (sym (read m q) i))
    ∙ ap (λ (w : Moments). cond (eq_by_cmp nat_cmp q key) None (map.get w q)) is
    ∙ sym (map.get-remove nat_cmp_total v key q))

-- a list of keys by what the map finds is a list by what the view finds
pub rising_by_view : (m : tree.BTreeMap ℕ ℕ) (v : Moments) (f : ℕ → Bool) (keys : List ℕ) → map.from_entries m.entries ≡ v → IsRisingListOf (λ key. option_map_or f (tree.get nat_cmp m key) false) keys → IsRisingListOf (λ key. option_map_or f (map.get v key) false) keys
rising_by_view m v f keys is r = record {
  rising = r.rising;
  members = λ key. r.members key ∙ ap (λ o. option_map_or f o false) (sym (read m key) ∙ ap (λ (w : Moments). map.get w key) is);
}
