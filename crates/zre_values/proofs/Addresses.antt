-- The text of an address, in parts.
use Rattle.std.proofs.Common.{◌≡◌, ℕ, ◌<◌, ◌^◌, ◌==◌, false, List, [], ◌∷◌, ◌++◌, length, refl, ap, ◌∙◌, arith, inr, get_or}
use Rattle.std.specs.Prelude.{decimal, flat_map}
use Rattle.std.specs.List.{list_any}
use Rattle.std.proofs.lemmas.List.{append-nil}
use Rattle.std.proofs.lemmas.List.Concat.{flat_map-cons}
use Rattle.std.proofs.lemmas.List.Folds.{list_any-append}
use Rattle.zre_values.specs.Address.{address_text, IsAddress}
use Rattle.zre_values.proofs.Digits.{decimal-lacks}

abbrev dotted : ℕ → List ℕ
dotted n = (46 ∷ []) ++ decimal n

-- the text of four numbers
pub address_text_four : (a b c d : ℕ) → address_text (a ∷ b ∷ c ∷ d ∷ []) ≡ decimal a ++ (46 ∷ (decimal b ++ (46 ∷ (decimal c ++ (46 ∷ decimal d)))))
address_text_four a b c d =
    let last : flat_map dotted (d ∷ []) ≡ 46 ∷ decimal d = flat_map-cons dotted d [] ∙ append-nil (dotted d) in
    let third : flat_map dotted (c ∷ d ∷ []) ≡ 46 ∷ (decimal c ++ (46 ∷ decimal d)) = flat_map-cons dotted c (d ∷ []) ∙ ap (λ (r : List ℕ). dotted c ++ r) last in
    let second : flat_map dotted (b ∷ c ∷ d ∷ []) ≡ 46 ∷ (decimal b ++ (46 ∷ (decimal c ++ (46 ∷ decimal d)))) = flat_map-cons dotted b (c ∷ d ∷ []) ∙ ap (λ (r : List ℕ). dotted b ++ r) third in
    ap (λ (r : List ℕ). decimal a ++ r) second

-- the text of an address, as its octets stand in an array
pub address_text_array : (addr : List ℕ) → length addr ≡ 4 → address_text addr ≡ decimal (get_or addr 0 0) ++ (46 ∷ (decimal (get_or addr 1 0) ++ (46 ∷ (decimal (get_or addr 2 0) ++ (46 ∷ decimal (get_or addr 3 0))))))
address_text_array (a ∷ b ∷ c ∷ d ∷ []) is = address_text_four a b c d
address_text_array [] is = absurd (omega (arith, is))
address_text_array (a ∷ []) is = absurd (omega (arith, is))
address_text_array (a ∷ b ∷ []) is = absurd (omega (arith, is))
address_text_array (a ∷ b ∷ c ∷ []) is = absurd (omega (arith, is))
address_text_array (a ∷ b ∷ c ∷ d ∷ e ∷ more) is = absurd (omega (arith, is))

-- the four numbers of an address, each an octet
pub record Four (addr : List ℕ) : Type 0 where
  pub a : ℕ
  pub b : ℕ
  pub c : ℕ
  pub d : ℕ
  pub is : addr ≡ a ∷ b ∷ c ∷ d ∷ []
  pub a_fits : a < 2 ^ 8
  pub b_fits : b < 2 ^ 8
  pub c_fits : c < 2 ^ 8
  pub d_fits : d < 2 ^ 8

pub four : (addr : List ℕ) → IsAddress addr → Four addr
four (a ∷ b ∷ c ∷ d ∷ []) is = record { a = a; b = b; c = c; d = d; is = refl; a_fits = is.octets 0 0 (omega arith); b_fits = is.octets 1 0 (omega arith); c_fits = is.octets 2 0 (omega arith); d_fits = is.octets 3 0 (omega arith) }
four [] is = absurd (omega (arith, is.four))
four (a ∷ []) is = absurd (omega (arith, is.four))
four (a ∷ b ∷ []) is = absurd (omega (arith, is.four))
four (a ∷ b ∷ c ∷ []) is = absurd (omega (arith, is.four))
four (a ∷ b ∷ c ∷ d ∷ e ∷ more) is = absurd (omega (arith, is.four))

-- the text of an address, from its four numbers
pub text-four : (addr text : List ℕ) (f : Four addr) → text ≡ address_text addr → text ≡ decimal f.a ++ (46 ∷ (decimal f.b ++ (46 ∷ (decimal f.c ++ (46 ∷ decimal f.d)))))
text-four addr text f e = e ∙ ap address_text f.is ∙ address_text_four f.a f.b f.c f.d

lacks_both : (xs ys : List ℕ) → list_any (λ b. b == 58) xs ≡ false → list_any (λ b. b == 58) ys ≡ false → list_any (λ b. b == 58) (xs ++ ys) ≡ false
lacks_both xs ys p q = list_any-append (λ b. b == 58) xs ys ∙ (rw (p, q) refl)

-- no colon stands in the text of an address
pub address_text-lacks : (addr : List ℕ) → IsAddress addr → list_any (λ b. b == 58) (address_text addr) ≡ false
address_text-lacks addr is =
    let f = four addr is in
    let a = decimal-lacks 58 f.a (omega (arith, f.a_fits)) (inr (omega arith)) in
    let b = decimal-lacks 58 f.b (omega (arith, f.b_fits)) (inr (omega arith)) in
    let c = decimal-lacks 58 f.c (omega (arith, f.c_fits)) (inr (omega arith)) in
    let d = decimal-lacks 58 f.d (omega (arith, f.d_fits)) (inr (omega arith)) in
    let whole = lacks_both (decimal f.a) (46 ∷ (decimal f.b ++ (46 ∷ (decimal f.c ++ (46 ∷ decimal f.d))))) a (lacks_both (decimal f.b) (46 ∷ (decimal f.c ++ (46 ∷ decimal f.d))) b (lacks_both (decimal f.c) (46 ∷ decimal f.d) c d)) in
    ap (list_any (λ b. b == 58)) (text-four addr (address_text addr) f refl) ∙ whole

-- four numbers, by their places
pub by_place : (addr : List ℕ) → length addr ≡ 4 → addr ≡ get_or addr 0 0 ∷ get_or addr 1 0 ∷ get_or addr 2 0 ∷ get_or addr 3 0 ∷ []
by_place (a ∷ b ∷ c ∷ d ∷ []) is = refl
by_place [] is = absurd (omega (arith, is))
by_place (a ∷ []) is = absurd (omega (arith, is))
by_place (a ∷ b ∷ []) is = absurd (omega (arith, is))
by_place (a ∷ b ∷ c ∷ []) is = absurd (omega (arith, is))
by_place (a ∷ b ∷ c ∷ d ∷ e ∷ more) is = absurd (omega (arith, is))
