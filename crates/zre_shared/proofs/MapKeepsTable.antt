-- How the map of a replica keeps its table.
use Rattle.std.proofs.Common.{◌≡◌, ℕ, ◌<◌, ◌≤◌, ◌^◌, max, Bool, true, false, cond, List, [], ◌∷◌, Some, None, All, get_or, refl, sym, ap, ◌∙◌, subst, arith}
use Rattle.std.specs.BTreeMap as tree
use Rattle.std.specs.BTreeMap.{is_at, insert_entry}
use Rattle.std.specs.Cmp.Lexicographic.{slice_cmp}
use Rattle.std.specs.List.{AllByRecursion}
use Rattle.std.specs.List.Sorted.{IsStrictlySortedBy}
use Rattle.std.specs.Map.{lookup, keys_of, values_of, set_value}
use Rattle.std.specs.Ordering.{nat_cmp, match_ordering, is_eq}
use Rattle.std.specs.declared.cmp.Ordering.{Ordering}
use Rattle.std.specs.declared.cmp.Ordering.TheVariants.{Less, Equal, Greater}
use Rattle.std.proofs.lemmas.List.{get_or_default}
use Rattle.std.proofs.lemmas.List.Elements.{All-from_recursion, recursion_from_All}
use Rattle.std.proofs.lemmas.Option.{same_Some}
use Rattle.std.proofs.lemmas.Map.Entries.{lookup_head, lookup_tail}
use Rattle.std.proofs.lemmas.Map.Keys.{sorted_head, sorted_tail}
use Rattle.std.proofs.lemmas.Map.Lookups.{exact_bytes}
use Rattle.zre_values.specs.declared.peer_id.PeerId.{PeerId}
use Rattle.zre_shared.specs.declared.write.Write.{Write}
use Rattle.zre_shared.specs.Kept.{Name, Map, by_name, IsAtKey, IsKept}
use Rattle.zre_shared.specs.Replicas.{HeldWrites, with_write, greatest_count, next_write}
use Rattle.zre_shared.specs.Tables.{by_key, by_age, greater, put}
use Rattle.zre_shared.specs.Writes.{IsWrite}
use Rattle.zre_shared.proofs.OrdersOfWrites.{by_count}
use Rattle.zre_shared.proofs.RisingKeys.{Rising, rising-head, rising-tail, rising-nil, rising-cons, at_member, all_members}
use Rattle.zre_shared.proofs.TableAfterWrite.{greater-one, less_of_all, put-count, count-within}
use Rattle.zre_shared.proofs.TableIsOneList.{put-table}

abbrev pub Entries : Type 0
Entries = List (Name × Write)

abbrev pub AtKeys : Entries → Type 0
AtKeys es = AllByRecursion IsAtKey es

-- ---- keys rise

above : (e : Name × Write) (es : Entries) → AllByRecursion (λ y. by_name e.0 y ≡ Less) (keys_of es) → IsAtKey e → AtKeys es → AllByRecursion (λ y. by_key e.1 y ≡ Less) (values_of es)
above e [] less at all = tt
above e (f ∷ fs) less at all = ((λ i. slice_cmp nat_cmp (sym at.key i) (sym all.0.key i)) ∙ less.0, above e fs less.1 at all.1)

pub rising-values : (es : Entries) → IsStrictlySortedBy by_name (keys_of es) → AtKeys es → Rising (values_of es)
rising-values [] s at = rising-nil
rising-values (e ∷ es) s at =
    rising-cons e.1 (values_of es) (above e es (sorted_head by_name e.0 (keys_of es) s) at.0 at.1) (rising-values es (sorted_tail by_name e.0 (keys_of es) s) at.1)

-- ---- the write of a key

abbrev pub finds : List ℕ → Name → Bool
finds key name = is_at (λ (x : Name). slice_cmp nat_cmp key x.items) name

finds-by : (w : Write) (e : Name × Write) → IsAtKey e → (o : Ordering) → by_key w e.1 ≡ o → finds w.key e.0 ≡ is_eq o
finds-by w e at o is = ap is_eq (ap (slice_cmp nat_cmp w.key) at.key ∙ is)

absent : (w : Write) (es : Entries) → AllByRecursion (λ v. by_key w v ≡ Less) (values_of es) → AtKeys es → lookup (finds w.key) es ≡ None
absent w [] less at = refl
absent w (e ∷ es) less at = lookup_tail (finds w.key) e es (finds-by w e at.0 Less less.0) ∙ absent w es less.1 at.1

-- a write of a key that none is held of
added : (w : Write) (k : Name) → k.items ≡ w.key → (es : Entries) → Rising (values_of es) → AtKeys es → lookup (finds w.key) es ≡ None → values_of (insert_entry by_name es k w) ≡ put w (values_of es)
added w k same [] r at n = refl
added w k same (e ∷ es) r at n =
    let cmp : by_name k e.0 ≡ by_key w e.1 = λ i. slice_cmp nat_cmp (same i) (at.0.key i) in
    ap (λ (o : Ordering). values_of (match_ordering o ((k, w) ∷ e ∷ es) ((e.0, w) ∷ es) (e ∷ insert_entry by_name es k w))) cmp
    ∙ elim (by_key w e.1) as (λ o. by_key w e.1 ≡ o → values_of (match_ordering o ((k, w) ∷ e ∷ es) ((e.0, w) ∷ es) (e ∷ insert_entry by_name es k w)) ≡ match_ordering o (w ∷ e.1 ∷ values_of es) (greater w e.1 ∷ values_of es) (e.1 ∷ put w (values_of es))) [
      | Less ↦ λ o. refl
      | Equal ↦ λ o.
          let found : Some e.1 ≡ None = sym (lookup_head (finds w.key) e es (finds-by w e at.0 Equal o)) ∙ n in
          absurd cc
      | Greater ↦ λ o.
          let tail : lookup (finds w.key) (e ∷ es) ≡ lookup (finds w.key) es = lookup_tail (finds w.key) e es (finds-by w e at.0 Greater o) in
          ap (λ (vs : List Write). e.1 ∷ vs) (added w k same es (rising-tail e.1 (values_of es) r) at.1 (sym tail ∙ n))
    ] refl

added-at : (w : Write) (k : Name) → k.items ≡ w.key → IsWrite w → (es : Entries) → AtKeys es → AtKeys (insert_entry by_name es k w)
added-at w k same is [] at = (record { key = same; fits = is }, tt)
added-at w k same is (e ∷ es) at =
    elim (by_name k e.0) as (λ o. by_name k e.0 ≡ o → AtKeys (match_ordering o ((k, w) ∷ e ∷ es) ((e.0, w) ∷ es) (e ∷ insert_entry by_name es k w))) [
      | Less ↦ λ o. (record { key = same; fits = is }, at)
      | Equal ↦ λ o. (record { key = sym (exact_bytes k.items e.0.items o) ∙ same; fits = is }, at.1)
      | Greater ↦ λ o. (at.0, added-at w k same is es at.1)
    ] refl

-- a write of a key that one is held of
replaced : (w v : Write) (es : Entries) → Rising (values_of es) → AtKeys es → lookup (finds w.key) es ≡ Some v → values_of (set_value (finds w.key) es (greater w v)) ≡ put w (values_of es)
replaced w v [] r at n = absurd cc
replaced w v (e ∷ es) r at n =
    elim (by_key w e.1) as (λ o. by_key w e.1 ≡ o → values_of (set_value (finds w.key) (e ∷ es) (greater w v)) ≡ match_ordering o (w ∷ e.1 ∷ values_of es) (greater w e.1 ∷ values_of es) (e.1 ∷ put w (values_of es))) [
      | Less ↦ λ o.
          let none : None ≡ Some v = sym (absent w (e ∷ es) (o, less_of_all w e.1 (values_of es) o (rising-head e.1 (values_of es) r)) at) ∙ n in
          absurd cc
      | Equal ↦ λ o.
          let test : finds w.key e.0 ≡ true = finds-by w e at.0 Equal o in
          let same : e.1 ≡ v = same_Some e.1 v (sym (lookup_head (finds w.key) e es test) ∙ n) in
          ap (λ (b : Bool). values_of (cond b ((e.0, greater w v) ∷ es) (e ∷ set_value (finds w.key) es (greater w v)))) test
          ∙ ap (λ (x : Write). greater w x ∷ values_of es) (sym same)
      | Greater ↦ λ o.
          let test : finds w.key e.0 ≡ false = finds-by w e at.0 Greater o in
          ap (λ (b : Bool). values_of (cond b ((e.0, greater w v) ∷ es) (e ∷ set_value (finds w.key) es (greater w v)))) test
          ∙ ap (λ (vs : List Write). e.1 ∷ vs) (replaced w v es (rising-tail e.1 (values_of es) r) at.1 (sym (lookup_tail (finds w.key) e es test) ∙ n))
    ] refl

equal_from_test : (r : Ordering) → is_eq r ≡ true → r ≡ Equal
equal_from_test Less e = absurd cc
equal_from_test Equal e = refl
equal_from_test Greater e = absurd cc

replaced-at : (w v : Write) → IsWrite w → (es : Entries) → AtKeys es → lookup (finds w.key) es ≡ Some v → AtKeys (set_value (finds w.key) es (greater w v))
replaced-at w v is [] at n = tt
replaced-at w v is (e ∷ es) at n =
    elim (finds w.key e.0) as (λ b. finds w.key e.0 ≡ b → AtKeys (cond b ((e.0, greater w v) ∷ es) (e ∷ set_value (finds w.key) es (greater w v)))) [
      | true ↦ λ test.
          let same : e.1 ≡ v = same_Some e.1 v (sym (lookup_head (finds w.key) e es test) ∙ n) in
          let key : w.key ≡ e.0.items = exact_bytes w.key e.0.items (equal_from_test (slice_cmp nat_cmp w.key e.0.items) test) in (
            record {
              key = greater-one (λ x. e.0.items ≡ x.key) w v (sym key) (at.0.key ∙ ap (λ (x : Write). x.key) same);
              fits = greater-one IsWrite w v is (subst IsWrite same at.0.fits);
            },
            at.1,
          )
      | false ↦ λ test. (at.0, replaced-at w v is es at.1 (sym (lookup_tail (finds w.key) e es test) ∙ n))
    ] refl

-- ---- the replica

pub at_keys : (m : Map) (g : ℕ) (id : PeerId) → IsKept m g id → AtKeys m.entries
at_keys m g id h = recursion_from_All IsAtKey m.entries h.entries

pub rising : (m : Map) (g : ℕ) (id : PeerId) → IsKept m g id → Rising (values_of m.entries)
rising m g id h = rising-values m.entries h.ordered (at_keys m g id h)

fits_in : (es : Entries) → AtKeys es → AllByRecursion IsWrite (values_of es)
fits_in [] at = tt
fits_in (e ∷ es) at = (at.0.fits, fits_in es at.1)

-- what is held is within the limits
pub held-fits : (m : Map) (g : ℕ) (id : PeerId) → IsKept m g id → AllByRecursion IsWrite (values_of m.entries)
held-fits m g id h = fits_in m.entries (at_keys m g id h)

-- a write was put into the map
pub record IsPut (m n : Map) (w : Write) : Type 0 where
  pub values : values_of n.entries ≡ put w (values_of m.entries)
  pub at : AtKeys n.entries
  pub ordered : tree.IsOrdered by_name n

pub added-put : (m n : Map) (g : ℕ) (id : PeerId) (k : Name) (w : Write) → IsKept m g id → IsWrite w → k.items ≡ w.key → lookup (finds w.key) m.entries ≡ None → n.entries ≡ insert_entry by_name m.entries k w → tree.IsOrdered by_name n → IsPut m n w
added-put m n g id k w h is named none e ordered = record {
  values = ap values_of e ∙ added w k named m.entries (rising m g id h) (at_keys m g id h) none;
  at = subst AtKeys (sym e) (added-at w k named is m.entries (at_keys m g id h));
  ordered = ordered;
}

pub replaced-put : (m n : Map) (g : ℕ) (id : PeerId) (v w x : Write) → IsKept m g id → IsWrite w → lookup (finds w.key) m.entries ≡ Some v → x ≡ greater w v → n.entries ≡ set_value (finds w.key) m.entries x → tree.IsOrdered by_name n → IsPut m n w
replaced-put m n g id v w x h is some is_greater e ordered =
    let set : n.entries ≡ set_value (finds w.key) m.entries (greater w v) = e ∙ ap (set_value (finds w.key) m.entries) is_greater in
    record {
      values = ap values_of set ∙ replaced w v m.entries (rising m g id h) (at_keys m g id h) some;
      at = subst AtKeys (sym set) (replaced-at w v is m.entries (at_keys m g id h) some);
      ordered = ordered;
    }

-- the same by the octets that the key was looked up by
pub replaces : (m n : Map) (g : ℕ) (id : PeerId) (v w x : Write) (key : List ℕ) → IsKept m g id → IsWrite w → key ≡ w.key → Some v ≡ lookup (finds key) m.entries → x ≡ greater w v → n.entries ≡ set_value (finds key) m.entries x
    → tree.IsOrdered by_name n → IsPut m n w
replaces m n g id v w x key h is same some is_greater e ordered =
    replaced-put m n g id v w x h is (ap (λ (k : List ℕ). lookup (finds k) m.entries) (sym same) ∙ sym some) is_greater (e ∙ ap (λ (k : List ℕ). set_value (finds k) m.entries x) same) ordered

pub adds : (m same n : Map) (g : ℕ) (id : PeerId) (k : Name) (w : Write) (key : List ℕ) → IsKept m g id → IsWrite w → k.items ≡ w.key → key ≡ w.key → None ≡ lookup (finds key) m.entries → same ≡ m
    → n.entries ≡ insert_entry by_name same.entries k w → tree.IsOrdered by_name n → IsPut m n w
adds m same n g id k w key h is named found none unchanged e ordered =
    added-put m n g id k w h is named (ap (λ (o : List ℕ). lookup (finds o) m.entries) (sym found) ∙ sym none) (e ∙ ap (λ (b : Map). insert_entry by_name b.entries k w) unchanged) ordered

pub put-kept : (m n : Map) (g count : ℕ) (id : PeerId) (w : Write) → IsKept m g id → IsPut m n w → count ≡ max g w.count → IsKept n count id
put-kept m n g count id w h is e =
    let counts : greatest_count (values_of n.entries) ≡ max w.count (greatest_count (values_of m.entries)) =
    ap greatest_count is.values ∙ put-count w (values_of m.entries) in
    record {
      ordered = is.ordered;
      entries = All-from_recursion IsAtKey n.entries is.at;
      greatest_is = omega (arith, counts, e, h.greatest_is);
      id_fits = h.id_fits;
    }

pub put-held : (m n : Map) (g : ℕ) (id : PeerId) (w : Write) (held : HeldWrites) → IsKept m g id → IsPut m n w → record { id = id; writes = values_of m.entries } ≡ held → record { id = id; writes = values_of n.entries } ≡ with_write held w
put-held m n g id w held h is view =
    ap (λ (vs : List Write). record { id = id; writes = vs }) (is.values ∙ put-table w (values_of m.entries) (rising m g id h))
    ∙ ap (λ (x : HeldWrites). with_write x w) view

-- ---- a write of its own

pub next-greater : (held : HeldWrites) (key value : List ℕ) → All (λ v. by_age v (next_write held key value) ≡ Less) held.writes
next-greater held key value =
    All-from_recursion (λ v. by_age v (next_write held key value) ≡ Less) held.writes
    (all_members (λ v. by_age v (next_write held key value) ≡ Less) held.writes
    (λ v i. let le : v.count ≤ greatest_count held.writes = at_member (λ x. x.count ≤ greatest_count held.writes) held.writes v (count-within held.writes) i in
    by_count v (next_write held key value) (omega (arith, le))))

pub octets-all : (xs : List ℕ) → ((i : ℕ) → get_or xs i 0 < 256) → All (λ b. b < 2 ^ 8) xs
octets-all xs h = λ k d lt. omega (arith, get_or_default xs k d 0 lt, h k)
