-- A key's pair goes into the queue and out of it as its moment changes.
use Rattle.std.proofs.Common.{◌≡◌, ◌≢◌, ℕ, ◌<◌, ◌^◌, ◌==◌, ◌&&◌, Bool, true, false, cond, Option, Some, None, IsSome, refl, sym, ap, ◌∙◌, subst}
use Rattle.std.specs.BTreeMap as tree
use Rattle.std.specs.BTreeMap.{is_at}
use Rattle.std.specs.BTreeSet as set
use Rattle.std.specs.Cmp.{unsigned_tied}
use Rattle.std.specs.Map.{lookup}
use Rattle.std.specs.Option.{option_map_or}
use Rattle.std.specs.Ordering.{nat_cmp}
use Rattle.std.proofs.lemmas.Bool.{eqb-true, ne_eqb}
use Rattle.zre_timers.specs.Agreement.{Agree, by_moment}
use Rattle.zre_values.proofs.OrdersOfPairs.{both_equal}

-- two pairs are the same where their keys and their moments are
pub same_pair : (at key a k : ℕ) → is_at (by_moment (at, key)) (a, k) ≡ ((key == k) && (at == a))
same_pair at key a k = both_equal (nat_cmp at a) (nat_cmp key k) ∙ (λ i. unsigned_tied key k i && unsigned_tied at a i)

-- the moment is there, and is this one
abbrev pub is_this : Option ℕ → ℕ → Bool
is_this o at = option_map_or (λ moment. moment == at) o false

itself : (b : Bool) → cond b true b ≡ b
itself true = refl
itself false = refl

not_both : (moment at a : ℕ) → moment ≢ at → (moment == a) ≡ true → (at == a) ≡ false
not_both moment at a apart m = ne_eqb at a (λ e. apart (eqb-true moment a m ∙ sym e))

-- in with the new pair, and out with the old one
moved : (b : Bool) (at moment a : ℕ) (o : Option ℕ) → (b ≡ true → o ≡ Some moment) → moment ≢ at → cond (b && (moment == a)) false (cond (b && (at == a)) true (is_this o a)) ≡ is_this (cond b (Some at) o) a
moved false at moment a o was apart = refl
moved true at moment a o was apart =
    ap (λ p. cond (moment == a) false (cond (at == a) true (is_this p a))) (was refl)
    ∙ elim (moment == a) as (λ m. (moment == a) ≡ m → cond m false (cond (at == a) true m) ≡ (at == a)) [
      | true ↦ λ m. sym (not_both moment at a apart m)
      | false ↦ λ _. elim (at == a) as (λ t. cond t true false ≡ t) [ true ↦ refl | false ↦ refl ]
    ] refl

-- in with the pair of a key that had none
entered : (b : Bool) (at a : ℕ) (o : Option ℕ) → (b ≡ true → o ≡ None) → cond (b && (at == a)) true (is_this o a) ≡ is_this (cond b (Some at) o) a
entered false at a o was = refl
entered true at a o was =
    ap (λ p. cond (at == a) true (is_this p a)) (was refl) ∙ elim (at == a) as (λ t. cond t true false ≡ t) [ true ↦ refl | false ↦ refl ]

-- in with the pair that is there
stayed : (b : Bool) (at a : ℕ) (o : Option ℕ) → (b ≡ true → o ≡ Some at) → cond (b && (at == a)) true (is_this o a) ≡ is_this (cond b (Some at) o) a
stayed false at a o was = refl
stayed true at a o was = ap (λ p. cond (at == a) true (is_this p a)) (was refl) ∙ itself (at == a)

-- in with a pair, and out again
left_alone : (b : Bool) (at a : ℕ) (o : Option ℕ) → (b ≡ true → o ≡ None) → cond (b && (at == a)) false (cond (b && (at == a)) true (is_this o a)) ≡ is_this o a
left_alone false at a o was = refl
left_alone true at a o was =
    ap (λ p. cond (at == a) false (cond (at == a) true (is_this p a))) (was refl)
    ∙ elim (at == a) as (λ t. cond t false (cond t true false) ≡ false) [ true ↦ refl | false ↦ refl ]
    ∙ ap (λ p. is_this p a) (sym (was refl))

-- out with the pair of a key
gone : (b : Bool) (moment a : ℕ) (o : Option ℕ) → (b ≡ true → o ≡ Some moment) → cond (b && (moment == a)) false (is_this o a) ≡ is_this (cond b None o) a
gone false moment a o was = refl
gone true moment a o was =
    ap (λ p. cond (moment == a) false (is_this p a)) (was refl) ∙ elim (moment == a) as (λ t. cond t false t ≡ false) [ true ↦ refl | false ↦ refl ]

-- what a call of `insert` or `remove` does to the queue, and to the map
abbrev pub QueueUpdates : set.BTreeSet (ℕ × ℕ) → set.BTreeSet (ℕ × ℕ) → ℕ → ℕ → Bool → Type 0
QueueUpdates s t at key b = (q : ℕ × ℕ) → set.contains by_moment t q ≡ cond (is_at (by_moment (at, key)) q) b (set.contains by_moment s q)

abbrev pub MapUpdates : tree.BTreeMap ℕ ℕ → tree.BTreeMap ℕ ℕ → ℕ → Option ℕ → Type 0
MapUpdates m n key o = (k : ℕ) → tree.get nat_cmp n k ≡ cond (is_at (nat_cmp key) k) o (tree.get nat_cmp m k)

at_key : (m : tree.BTreeMap ℕ ℕ) (key : ℕ) (o : Option ℕ) → tree.get nat_cmp m key ≡ o → (k : ℕ) → (key == k) ≡ true → tree.get nat_cmp m k ≡ o
at_key m key o is k e = ap (tree.get nat_cmp m) (sym (eqb-true key k e)) ∙ is

queue_step : (s t : set.BTreeSet (ℕ × ℕ)) (at key : ℕ) (b : Bool) → QueueUpdates s t at key b → (a k : ℕ) → set.contains by_moment t (a, k) ≡ cond ((key == k) && (at == a)) b (set.contains by_moment s (a, k))
queue_step s t at key b change a k = change (a, k) ∙ ap (λ x. cond x b (set.contains by_moment s (a, k))) (same_pair at key a k)

map_step : (m n : tree.BTreeMap ℕ ℕ) (key : ℕ) (o : Option ℕ) → MapUpdates m n key o → (k : ℕ) → tree.get nat_cmp n k ≡ cond (key == k) o (tree.get nat_cmp m k)
map_step m n key o change k = change k ∙ ap (λ x. cond x o (tree.get nat_cmp m k)) (unsigned_tied key k)

small_step : (m n : tree.BTreeMap ℕ ℕ) (key : ℕ) (o : Option ℕ) → MapUpdates m n key o → key < 2 ^ 64 → ((k : ℕ) → IsSome (tree.get nat_cmp m k) → k < 2 ^ 64) → (k : ℕ) → IsSome (tree.get nat_cmp n k) → k < 2 ^ 64
small_step m n key o change fits old k some =
    elim (key == k) as (λ b. (key == k) ≡ b → IsSome (cond b o (tree.get nat_cmp m k)) → k < 2 ^ 64) [
      | true ↦ λ e _. subst (λ (x : ℕ). x < 2 ^ 64) (eqb-true key k e) fits
      | false ↦ λ _ h. old k h
    ] refl (subst IsSome (map_step m n key o change k) some)

module _ (m n : tree.BTreeMap ℕ ℕ) (s t u : set.BTreeSet (ℕ × ℕ)) (key : ℕ) (agree : Agree m s) where
  pub Agree-moved : (at moment : ℕ) → QueueUpdates s t at key true → MapUpdates m n key (Some at) → QueueUpdates t u moment key false → tree.get nat_cmp m key ≡ Some moment → moment ≢ at → key < 2 ^ 64 → Agree n u
  Agree-moved at moment comes changes goes was apart fits = record {
    pairs = λ a k. queue_step t u moment key false goes a k
        ∙ ap (cond ((key == k) && (moment == a)) false) (queue_step s t at key true comes a k ∙ ap (cond ((key == k) && (at == a)) true) (agree.pairs a k))
        ∙ moved (key == k) at moment a (tree.get nat_cmp m k) (at_key m key (Some moment) was k) apart
        ∙ ap (λ o. is_this o a) (sym (map_step m n key (Some at) changes k));
    small = small_step m n key (Some at) changes fits agree.small;
  }

  pub Agree-entered : (at : ℕ) → QueueUpdates s t at key true → MapUpdates m n key (Some at) → tree.get nat_cmp m key ≡ None → key < 2 ^ 64 → Agree n t
  Agree-entered at comes changes was fits = record {
    pairs = λ a k. queue_step s t at key true comes a k ∙ ap (cond ((key == k) && (at == a)) true) (agree.pairs a k)
        ∙ entered (key == k) at a (tree.get nat_cmp m k) (at_key m key None was k)
        ∙ ap (λ o. is_this o a) (sym (map_step m n key (Some at) changes k));
    small = small_step m n key (Some at) changes fits agree.small;
  }

  pub Agree-stayed : (at : ℕ) → QueueUpdates s t at key true → MapUpdates m n key (Some at) → tree.get nat_cmp m key ≡ Some at → key < 2 ^ 64 → Agree n t
  Agree-stayed at comes changes was fits = record {
    pairs = λ a k. queue_step s t at key true comes a k ∙ ap (cond ((key == k) && (at == a)) true) (agree.pairs a k)
        ∙ stayed (key == k) at a (tree.get nat_cmp m k) (at_key m key (Some at) was k)
        ∙ ap (λ o. is_this o a) (sym (map_step m n key (Some at) changes k));
    small = small_step m n key (Some at) changes fits agree.small;
  }

  pub Agree-left_alone : (at : ℕ) → QueueUpdates s t at key true → n.entries ≡ m.entries → QueueUpdates t u at key false → tree.get nat_cmp m key ≡ None → Agree n u
  Agree-left_alone at comes same goes was =
      let unchanged : (k : ℕ) → tree.get nat_cmp m k ≡ tree.get nat_cmp n k = λ k i. lookup (is_at (nat_cmp k)) (sym same i) in
      record {
        pairs = λ a k. queue_step t u at key false goes a k
            ∙ ap (cond ((key == k) && (at == a)) false) (queue_step s t at key true comes a k ∙ ap (cond ((key == k) && (at == a)) true) (agree.pairs a k))
            ∙ left_alone (key == k) at a (tree.get nat_cmp m k) (at_key m key None was k)
            ∙ ap (λ o. is_this o a) (unchanged k);
        small = λ k h. agree.small k (subst IsSome (sym (unchanged k)) h);
      }

  pub Agree-gone : (moment : ℕ) → QueueUpdates s t moment key false → MapUpdates m n key None → tree.get nat_cmp m key ≡ Some moment → key < 2 ^ 64 → Agree n t
  Agree-gone moment goes changes was fits = record {
    pairs = λ a k. queue_step s t moment key false goes a k ∙ ap (cond ((key == k) && (moment == a)) false) (agree.pairs a k)
        ∙ gone (key == k) moment a (tree.get nat_cmp m k) (at_key m key (Some moment) was k)
        ∙ ap (λ o. is_this o a) (sym (map_step m n key None changes k));
    small = small_step m n key None changes fits agree.small;
  }
