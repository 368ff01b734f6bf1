-- The plain text of an identity, and its octets.
use Rattle.std.proofs.Common.{◌≡◌, ℕ, ◌+◌, ◌*◌, ◌/◌, ◌%◌, ◌<◌, ◌==◌, true, List, length, get_or, Some, refl, sym, ap, ◌∙◌, arith, inl, inr}
use Rattle.std.specs.List.{list_all}
use Rattle.std.proofs.lemmas.Bool.{and_parts, and_from, eqb-true, eq-eqb, cases_eq}
use Rattle.std.proofs.lemmas.Bool.Decides.{nat_tests}
use Rattle.std.proofs.lemmas.List.{get_or_default}
use Rattle.std.proofs.lemmas.List.Sums.{AllPass-from_list_all, list_all-from_AllPass}
use Rattle.uuid.specs.Text.{by_index, simple_text, upper, hex_digit, nibble, parsed, is_hex_digit, value_of, byte_of_digits}
use Rattle.uuid.proofs.TextLemmas.{by_index_length, by_index_at, by_index_same, nibble_even, nibble_odd, nibble_small}
use Rattle.uuid.proofs.RoundTrips.{parses_simple}
use Rattle.zre_values.specs.declared.peer_id.PeerId.{PeerId}
use Rattle.zre_values.specs.PlainId.{is_upper_digit, is_plain_id, IsPeerId}

upper_is_hex : (c : ℕ) → is_upper_digit c ≡ true → is_hex_digit c ≡ true
upper_is_hex c e = grind (arith, nat_tests, e)

upper_value : (c : ℕ) → is_upper_digit c ≡ true → value_of c < 16
upper_value c e = grind (arith, nat_tests, e)

upper_back : (c : ℕ) → is_upper_digit c ≡ true → hex_digit upper (value_of c) ≡ c
upper_back c e = grind (arith, nat_tests, e)

digit_is_upper : (d : ℕ) → d < 16 → is_upper_digit (hex_digit upper d) ≡ true
digit_is_upper d lt = grind (arith, nat_tests)

abbrev pub octets_of : List ℕ → List ℕ
octets_of text = by_index 16 (byte_of_digits text)

plain-length : (text : List ℕ) → is_plain_id text ≡ true → length text ≡ 32
unfolding is_plain_id
plain-length text e = eqb-true _ _ (and_parts (length text == 32) (list_all is_upper_digit text) e).0

digit : (text : List ℕ) → is_plain_id text ≡ true → (k d : ℕ) → k < 32 → is_upper_digit (get_or text k d) ≡ true
unfolding is_plain_id
digit text e k d lt =
    let p = and_parts (length text == 32) (list_all is_upper_digit text) e in
    let long : length text ≡ 32 = eqb-true _ _ p.0 in
    AllPass-from_list_all is_upper_digit text p.1 k d (omega (arith, long, lt))

-- the octets that thirty-two digits parse to
pub plain-parsed : (text : List ℕ) → is_plain_id text ≡ true → parsed text ≡ Some (octets_of text)
unfolding is_plain_id
plain-parsed text e =
    let p = and_parts (length text == 32) (list_all is_upper_digit text) e in
    let long : length text ≡ 32 = eqb-true _ _ p.0 in
    let hex : list_all is_hex_digit text ≡ true = list_all-from_AllPass is_hex_digit text (λ k d lt. upper_is_hex (get_or text k d) (digit text e k d (omega (arith, long, lt)))) in
    rw (p.0, hex) refl

octet_at : (text : List ℕ) (i : ℕ) → i < 16 → get_or (octets_of text) i 0 ≡ value_of (get_or text (2 * i) 0) * 16 + value_of (get_or text (2 * i + 1) 0)
octet_at text i lt = by_index_at 16 (byte_of_digits text) i 0 lt

halves : (v x y : ℕ) → v ≡ x * 16 + y → x < 16 → y < 16 → (v / 16 % 16 ≡ x) × (v % 16 ≡ y)
halves v x y e p q = (omega (arith, e, p, q), omega (arith, e, p, q))

-- the half of an octet that a digit is read into
nibble-back : (text : List ℕ) → is_plain_id text ≡ true → (k : ℕ) → k < 32 → nibble (octets_of text) k ≡ value_of (get_or text k 0)
nibble-back text e k lt =
    let i = k / 2 in
    let within : i < 16 = omega (arith, lt) in
    let even : 2 * i < 32 = omega (arith, lt) in
    let odd : 2 * i + 1 < 32 = omega (arith, lt) in
    let parts = halves (get_or (octets_of text) i 0) (value_of (get_or text (2 * i) 0)) (value_of (get_or text (2 * i + 1) 0)) (octet_at text i within) (upper_value (get_or text (2 * i) 0) (digit text e (2 * i) 0 even)) (upper_value (get_or text (2 * i + 1) 0) (digit text e (2 * i + 1) 0 odd)) in
    elim (cases_eq (k % 2) 0) [
      | inl is_even ↦ (let k_is : k ≡ 2 * i = omega (arith, is_even) in ap (nibble (octets_of text)) k_is ∙ nibble_even (octets_of text) i ∙ parts.0 ∙ ap (λ (j : ℕ). value_of (get_or text j 0)) (sym k_is))
      | inr is_odd ↦ (let k_is : k ≡ 2 * i + 1 = omega (arith, is_odd) in ap (nibble (octets_of text)) k_is ∙ nibble_odd (octets_of text) i ∙ parts.1 ∙ ap (λ (j : ℕ). value_of (get_or text j 0)) (sym k_is))
    ]

-- thirty-two digits are the text of these octets
pub plain-text : (text : List ℕ) → is_plain_id text ≡ true → text ≡ simple_text upper (octets_of text)
plain-text text e =
    by_index_same text 32 (λ k. hex_digit upper (nibble (octets_of text) k)) (plain-length text e)
    (λ k d lt. get_or_default text k d 0 (omega (arith, lt, plain-length text e)) ∙ sym (ap (hex_digit upper) (nibble-back text e k lt) ∙ upper_back (get_or text k 0) (digit text e k 0 lt)))

-- the text of octets is thirty-two digits
pub text-plain : (xs : List ℕ) → is_plain_id (simple_text upper xs) ≡ true
unfolding is_plain_id
text-plain xs =
    let long : length (simple_text upper xs) ≡ 32 = by_index_length 32 _ in
    and_from (length (simple_text upper xs) == 32) (list_all is_upper_digit (simple_text upper xs)) (eq-eqb _ _ long)
    (list_all-from_AllPass is_upper_digit (simple_text upper xs) (λ k d lt. rw (by_index_at 32 (λ j. hex_digit upper (nibble xs j)) k d (omega (arith, long, lt))) (digit_is_upper (nibble xs k) (nibble_small xs k))))

-- the text of an identity parses to it
pub text-parsed : (id : PeerId) → IsPeerId id → parsed (simple_text upper id.0) ≡ Some id.0
text-parsed id is = sym (parses_simple upper id.0 (inr refl) is.sixteen is.octets)
