-- Digits are decoded from the front, pair by pair.
use Rattle.std.proofs.Common.{◌⊎◌, inl, inr, ◌≡◌, ℕ, ◌+◌, ◌*◌, ◌%◌, ◌<◌, ◌≤◌, ◌&&◌, ltb, Bool, true, false, cond, List, [], ◌∷◌, ◌++◌, length, length-take, take, get_or, set, Some, None, refl, sym, ap, subst, ◌∙◌, arith, append_assoc}
use Rattle.std.specs.Prelude.{bit_or, codes}
use Rattle.std.specs.List.{list_all}
use Rattle.std.proofs.lemmas.Bool.{cases_Bool, false_from_ne_true, and_parts, and_from, eq-eqb, lt-ltb, ltb-true}
use Rattle.std.proofs.lemmas.Nat.{or_of_8, le_or_l, le_or_r}
use Rattle.std.proofs.lemmas.List.{take_more, take_more_set, take_all, length-set}
use Rattle.std.proofs.lemmas.List.Folds.{list_all-append}
use Rattle.zre_capture.specs.DigitTable.{digit_row, pair_row}
use Rattle.zre_capture.specs.Values.{is_lower_digit, hex_of}
use Rattle.zre_capture.proofs.FieldTexts.{none_spec}
use Rattle.zre_capture.proofs.HexPairs.{value, pair_octets, value_below, are_pairs, are_pairs-true, pairs-some, some-pairs}

abbrev lower : List ℕ → Bool
lower s = list_all is_lower_digit s

small-none : (n : ℕ) → 256 ≤ n → ltb n 256 ≡ false
small-none n high = false_from_ne_true _ (λ e. let low = ltb-true n 256 e in omega (arith, high, low))

-- two numbers with one bit beyond eight in either
or-small : (x y : ℕ) → ltb (bit_or x y) 256 ≡ (ltb x 256 && ltb y 256)
or-small x y =
    elim (cases_Bool (ltb x 256)) [
      | inl small ↦ elim (cases_Bool (ltb y 256)) [
        | inl few ↦ rw (small, few) (lt-ltb _ _ (or_of_8 x y (ltb-true x 256 small) (ltb-true y 256 few)))
        | inr many ↦ rw (small, many) (false_from_ne_true _ (λ e. let low = ltb-true _ 256 e in let w : ltb y 256 ≡ true = lt-ltb y 256 (omega (arith, low, le_or_r x y)) in absurd cc))
      ]
      | inr large ↦ rw large (false_from_ne_true _ (λ e. let low = ltb-true _ 256 e in let w : ltb x 256 ≡ true = lt-ltb x 256 (omega (arith, low, le_or_l x y)) in absurd cc))
    ]

row-digit : (c : ℕ) → is_lower_digit c ≡ true → digit_row c ≡ value c
row-digit c e = rw e refl

row-none : (c : ℕ) → is_lower_digit c ≡ false → digit_row c ≡ 256
row-none c e = rw e refl

pub row-few : (c : ℕ) → digit_row c ≤ 256
row-few c = elim (cases_Bool (is_lower_digit c)) [
  | inl is ↦ omega (arith, row-digit c is, value_below c is)
  | inr isnt ↦ omega (arith, row-none c isnt)
]

-- a pair of digits is one octet
pair-small : (a b n : ℕ) → n ≡ 16 * digit_row a + digit_row b → ltb n 256 ≡ (is_lower_digit a && is_lower_digit b)
pair-small a b n e =
    elim (cases_Bool (is_lower_digit a)) [
      | inl high ↦ elim (cases_Bool (is_lower_digit b)) [
        | inl low ↦ rw (high, low) (lt-ltb n 256 (omega (arith, e, row-digit a high, row-digit b low, value_below a high, value_below b low)))
        | inr other ↦ rw (high, other) (small-none n (omega (arith, e, row-none b other)))
      ]
      | inr other ↦ rw other (small-none n (omega (arith, e, row-none a other)))
    ]

octets-more : (s : List ℕ) (a b : ℕ) → length s % 2 ≡ 0 → pair_octets (s ++ (a ∷ b ∷ [])) ≡ pair_octets s ++ ((value a * 16 + value b) ∷ [])
octets-more [] a b even = refl
octets-more (c ∷ []) a b even = absurd (omega arith)
octets-more (c ∷ d ∷ s) a b even = ap (λ (r : List ℕ). (value c * 16 + value d) ∷ r) (octets-more s a b (omega arith))

take-two : (xs : List ℕ) (n m : ℕ) → m ≡ n + 2 → n + 1 < length xs → take m xs ≡ take n xs ++ (get_or xs n 0 ∷ get_or xs (n + 1) 0 ∷ [])
take-two xs n m e lt =
    let to : m ≡ (n + 1) + 1 = omega (arith, e) in
    ap (λ (k : ℕ). take k xs) to ∙ take_more xs (n + 1) 0 lt ∙ ap (λ (r : List ℕ). r ++ (get_or xs (n + 1) 0 ∷ [])) (take_more xs n 0 (omega (arith, lt)))
    ∙ append_assoc (take n xs) (get_or xs n 0 ∷ []) (get_or xs (n + 1) 0 ∷ [])

-- the first octets of a buffer are those of the pairs at the front, unless one of these isn't of digits, which shows in a
-- number
pub record AreDecoded (digits buffer : List ℕ) (all i : ℕ) : Type 0 where
  pub sized : length digits ≡ 2 * length buffer
  pub fine : ltb all 256 ≡ list_all is_lower_digit (take (2 * i) digits)
  pub octets : list_all is_lower_digit (take (2 * i) digits) ≡ true → take i buffer ≡ pair_octets (take (2 * i) digits)

length-even : (xs : List ℕ) (i : ℕ) → 2 * i ≤ length xs → length (take (2 * i) xs) % 2 ≡ 0
length-even xs i le = simp length-take (omega arith)

and-true : (b : Bool) → (b && true) ≡ b
and-true true = refl
and-true false = refl

-- both digits of the next pair, beside those before it
lower-more : (s : List ℕ) (a b : ℕ) → lower (s ++ (a ∷ b ∷ [])) ≡ (lower s && (is_lower_digit a && is_lower_digit b))
lower-more s a b = list_all-append is_lower_digit s (a ∷ b ∷ []) ∙ ap (λ (t : Bool). lower s && (is_lower_digit a && t)) (and-true (is_lower_digit b))

pub decoded-none : (digits buffer : List ℕ) → length digits ≡ 2 * length buffer → AreDecoded digits buffer 0 0
decoded-none digits buffer size = record { sized = size; fine = refl; octets = λ h. refl }

pub decoded-more : (digits buffer : List ℕ) (all i n : ℕ) → AreDecoded digits buffer all i → i < length buffer → n ≡ pair_row digits i → AreDecoded digits (set buffer i (n % 256)) (bit_or all n) (i + 1)
decoded-more digits buffer all i n so_far lt pair =
    let a = get_or digits (2 * i) 0 in
    let b = get_or digits (2 * i + 1) 0 in
    let front = take (2 * i) digits in
    let size = so_far.sized in
    let cut : take (2 * (i + 1)) digits ≡ front ++ (a ∷ b ∷ []) = take-two digits (2 * i) (2 * (i + 1)) (omega arith) (omega (arith, lt, size)) in
    let more : lower (take (2 * (i + 1)) digits) ≡ (lower front && (is_lower_digit a && is_lower_digit b)) = ap lower cut ∙ lower-more front a b in
    record {
      sized = size ∙ ap (λ (m : ℕ). 2 * m) (sym (length-set buffer i (n % 256)));
      fine = or-small all n ∙ ap (λ (t : Bool). t && ltb n 256) so_far.fine ∙ ap (λ (t : Bool). lower front && t) (pair-small a b n pair) ∙ sym more;
      octets = λ h.
          let p = and_parts (lower front) (is_lower_digit a && is_lower_digit b) (sym more ∙ h) in
          let q = and_parts (is_lower_digit a) (is_lower_digit b) p.1 in
          let octet : n % 256 ≡ value a * 16 + value b = omega (arith, pair, row-digit a q.0, row-digit b q.1, value_below a q.0, value_below b q.1) in
          take_more_set buffer i (n % 256) lt ∙ ap (λ (r : List ℕ). r ++ ((n % 256) ∷ [])) (so_far.octets p.0) ∙ ap (λ (o : ℕ). pair_octets front ++ (o ∷ [])) octet
          ∙ sym (octets-more front a b (length-even digits i (omega (arith, lt, size)))) ∙ ap pair_octets (sym cut);
    }

-- four pairs at once
pub decoded-four : (digits buffer : List ℕ) (all i a b c d : ℕ) → AreDecoded digits buffer all i → i + 4 ≤ length buffer → a ≡ pair_row digits i → b ≡ pair_row digits (i + 1) → c ≡ pair_row digits (i + 2) → d ≡ pair_row digits (i + 3)
    → AreDecoded digits (set (set (set (set buffer i (a % 256)) (i + 1) (b % 256)) (i + 2) (c % 256)) (i + 3) (d % 256)) (bit_or (bit_or (bit_or (bit_or all a) b) c) d) (i + 4)
decoded-four digits buffer all i a b c d so_far le pa pb pc pd =
    let r1 = set buffer i (a % 256) in
    let r2 = set r1 (i + 1) (b % 256) in
    let r3 = set r2 (i + 2) (c % 256) in
    let l1 : length r1 ≡ length buffer = length-set buffer i (a % 256) in
    let l2 : length r2 ≡ length buffer = length-set r1 (i + 1) (b % 256) ∙ l1 in
    let l3 : length r3 ≡ length buffer = length-set r2 (i + 2) (c % 256) ∙ l2 in
    let two : i + 1 + 1 ≡ i + 2 = omega arith in
    let three : i + 2 + 1 ≡ i + 3 = omega arith in
    let four : i + 3 + 1 ≡ i + 4 = omega arith in
    let d1 = decoded-more digits buffer all i a so_far (omega (arith, le)) pa in
    let d2 = decoded-more digits r1 (bit_or all a) (i + 1) b d1 (omega (arith, le, l1)) pb in
    let d3 = decoded-more digits r2 (bit_or (bit_or all a) b) (i + 2) c (subst (AreDecoded digits r2 (bit_or (bit_or all a) b)) two d2) (omega (arith, le, l2)) pc in
    let d4 = decoded-more digits r3 (bit_or (bit_or (bit_or all a) b) c) (i + 3) d (subst (AreDecoded digits r3 (bit_or (bit_or (bit_or all a) b) c)) three d3) (omega (arith, le, l3)) pd in
    subst (AreDecoded digits (set r3 (i + 3) (d % 256)) (bit_or (bit_or (bit_or (bit_or all a) b) c) d)) four d4

-- what isn't pairs of digits has no octets, unless it is `-`
pub no-pairs : (s : List ℕ) → (s ≡ codes "-" → ⊥) → are_pairs s ≡ false → hex_of s ≡ None
no-pairs s other e = sym (none_spec (hex_of s) (λ v h. let is = some-pairs s v h other in absurd cc))

-- so is what has no digits, and what has one too many
pub unpaired : (s : List ℕ) → (s ≡ codes "-" → ⊥) → (length s ≡ 0) ⊎ (length s % 2 ≡ 0 → ⊥) → None ≡ hex_of s
unpaired s dash (inl none) = sym (no-pairs s dash (false_from_ne_true _ (λ e. let p = are_pairs-true s e in omega (arith, p.some, none))))
unpaired s dash (inr odd) = sym (no-pairs s dash (false_from_ne_true _ (λ e. let p = are_pairs-true s e in absurd (odd p.even))))

pub decoded-all : (digits buffer : List ℕ) (all i : ℕ) → AreDecoded digits buffer all i → length buffer ≤ i → 0 < length buffer → cond (ltb all 256) (Some buffer) None ≡ hex_of digits
decoded-all digits buffer all i so_far end some =
    let size = so_far.sized in
    let whole : take (2 * i) digits ≡ digits = take_all (2 * i) digits (omega (arith, size, end)) in
    let is : ltb all 256 ≡ lower digits = so_far.fine ∙ ap lower whole in
    let even : length digits % 2 ≡ 0 = omega (arith, size) in
    let has : 0 < length digits = omega (arith, size, some) in
    elim (cases_Bool (lower digits)) [
      | inl digit ↦
          let pairs : are_pairs digits ≡ true = and_from _ _ (eq-eqb (length digits % 2) 0 even) (and_from _ _ (lt-ltb 0 (length digits) has) digit) in
          let same : buffer ≡ pair_octets digits = sym (take_all i buffer end) ∙ so_far.octets (ap lower whole ∙ digit) ∙ ap pair_octets whole in
          ap (λ (t : Bool). cond t (Some buffer) None) (is ∙ digit) ∙ ap Some same ∙ sym (pairs-some digits pairs)
      | inr other ↦
          let not_pairs : are_pairs digits ≡ false = false_from_ne_true _ (λ e. let d = (are_pairs-true digits e).digits in absurd cc) in
          let dash : digits ≡ codes "-" → ⊥ = λ e. let one : length digits ≡ 1 = ap length e in omega (arith, one, even) in
          ap (λ (t : Bool). cond t (Some buffer) None) (is ∙ other) ∙ sym (no-pairs digits dash not_pairs)
    ]
