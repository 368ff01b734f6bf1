-- The frames of a message.
use Rattle.std.proofs.Common.{◌≡◌, ℕ, List, [], ◌∷◌, ◌++◌, refl, sym, ap, ◌∙◌, append_assoc}
use Rattle.std.specs.List.{flat_map}
use Rattle.std.proofs.lemmas.List.Concat.{flat_map-cons}
use Rattle.zre_values.specs.Framing.{frame, frames}

frames-more : (x : List ℕ) (xs : List (List ℕ)) (last : List ℕ) → frames (x ∷ (xs ++ last ∷ [])) ≡ frame 1 x ++ frames (xs ++ last ∷ [])
frames-more x [] last = refl
frames-more x (y ∷ xs) last = refl

-- every frame but the last says that more follow
pub frames-last : (xs : List (List ℕ)) (last : List ℕ) → flat_map (λ y. frame 1 y) xs ++ frame 0 last ≡ frames (xs ++ last ∷ [])
frames-last [] last = refl
frames-last (x ∷ xs) last =
    ap (λ l. l ++ frame 0 last) (flat_map-cons (λ y. frame 1 y) x xs)
    ∙ append_assoc (frame 1 x) (flat_map (λ y. frame 1 y) xs) (frame 0 last)
    ∙ ap (λ l. frame 1 x ++ l) (frames-last xs last)
    ∙ sym (frames-more x xs last)
