-- The keys of a command as the code has them, and as names with how often they may stand.
use Rattle.std.proofs.Common.{◌≡◌, ℕ, Bool, ◌&&◌, List, [], ◌∷◌, map, refl, sym, ap, ◌∙◌}
use Rattle.std.specs.Prelude.{◌||◌, count_by}
use Rattle.std.specs.List.{list_all, list_any}
use Rattle.std.proofs.lemmas.List.Folds.{list_all-map}
use Rattle.zre_app.specs.Keys.{are_words_of, begins, may_stand}
use Rattle.zre_app.specs.declared.keys.Often.{Often}

list_any-map : {X Y : Type 0} (p : X → Bool) (h : Y → X) (ys : List Y) → list_any p (map h ys) ≡ list_any (λ y. p (h y)) ys
list_any-map p h [] = refl
list_any-map p h (y ∷ ys) = ap (λ b. p (h y) || b) (list_any-map p h ys)

module _ {K : Type 0} (name : K → List ℕ) (often : K → Often) where
  abbrev pair_of : K → List ℕ × Often
  pair_of key = (name key, often key)

  known_in : (keys : List K) (words : List (List ℕ)) → list_all (λ word. list_any (λ key. begins key.0 word) (map pair_of keys)) words ≡ list_all (λ word. list_any (λ key. begins (name key) word) keys) words
  known_in keys [] = refl
  known_in keys (word ∷ words) =
      ap (λ b. b && list_all (λ w. list_any (λ key. begins key.0 w) (map pair_of keys)) words) (list_any-map (λ key. begins key.0 word) pair_of keys)
      ∙ ap (λ b. list_any (λ key. begins (name key) word) keys && b) (known_in keys words)

  stand_in : (keys : List K) (words : List (List ℕ)) → list_all (λ key. may_stand key.1 (count_by (begins key.0) words)) (map pair_of keys) ≡ list_all (λ key. may_stand (often key) (count_by (begins (name key)) words)) keys
  stand_in keys words = list_all-map (λ key. may_stand key.1 (count_by (begins key.0) words)) pair_of keys

  -- the two tests, by the code's keys
  pub words_in : (keys : List K) (words : List (List ℕ)) → (list_all (λ word. list_any (λ key. begins (name key) word) keys) words && list_all (λ key. may_stand (often key) (count_by (begins (name key)) words)) keys) ≡ are_words_of (map (λ key. (name key, often key)) keys) words
  words_in keys words =
      sym (ap (λ b. b && list_all (λ key. may_stand key.1 (count_by (begins key.0) words)) (map pair_of keys)) (known_in keys words)
      ∙ ap (λ b. list_all (λ word. list_any (λ key. begins (name key) word) keys) words && b) (stand_in keys words))
