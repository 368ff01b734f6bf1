-- A desk gives one client after the other.
use Rattle.std.proofs.Common.{◌≡◌, true, false, List, [], ◌∷◌, ◌++◌, Option, Some, None, refl, sym, ap, ◌∙◌, append_assoc, append-nil}
use Rattle.std.specs.Prelude.{option_map}
use Rattle.zre_values.specs.declared.endpoint.Endpoint.{Endpoint}
use Rattle.zre_outside.specs.Desks.{Register, with_begun, with_given}
use Rattle.zre_gate.specs.Gate.{with_clients}

module _ {C : Type 0} (place : Endpoint) where
  pub none_given : (t : Option (Register C)) → t ≡ option_map (with_clients false place []) t
  none_given None = refl
  none_given (Some r) = ap (λ l. Some (record r { given = l })) (sym (append-nil r.given))

  pub just_begun : (t u : Option (Register C)) → u ≡ option_map (with_begun place.addr place.port) t → u ≡ option_map (with_clients true place []) t
  just_begun None u is = is
  just_begun (Some r) u is = is ∙ ap (λ l. Some (record { begun = Some place; given = l })) (sym (append-nil r.given))

  pub one_given : (xs : List C) (x : C) (t u v : Option (Register C)) → u ≡ option_map (with_clients true place xs) t → v ≡ option_map (with_given x) u
      → v ≡ option_map (with_clients true place (xs ++ x ∷ [])) t
  one_given xs x None u v is next = next ∙ ap (option_map (with_given x)) is
  one_given xs x (Some r) u v is next = next ∙ ap (option_map (with_given x)) is ∙ ap (λ l. Some (record { begun = Some place; given = l })) (append_assoc r.given xs (x ∷ []))
