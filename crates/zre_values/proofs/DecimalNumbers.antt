-- Numbers in decimal digits, read from the front.
use Rattle.std.proofs.Common.{IfSome, Option, Some, None, ◌≡◌, ℕ, zero, suc, ◌+◌, ◌-◌, ◌*◌, ◌/◌, ◌%◌, ◌≤◌, ◌<◌, ◌^◌, true, List, [], ◌∷◌, ◌++◌, length, get_or, take, drop, refl, sym, ap, subst, ◌∙◌, arith, append_assoc}
use Rattle.std.specs.Prelude.{decimal}
use Rattle.std.specs.Char.{is_ascii_digit, digit_value}
use Rattle.std.specs.Str.Parse.{AllDigits, digits_value, digits_value_after}
use Rattle.std.proofs.lemmas.Bool.Decides.{nat_tests}
use Rattle.std.proofs.lemmas.List.{take-append-drop, take_more, take_all, at_drop_more, nil_from_length}
use Rattle.std.proofs.lemmas.Fmt.{decimal_is_IsNumeral, decimal_step, decimal_digit, decimal_nonempty, first_decimal}
use Rattle.std.proofs.lemmas.Str.Parse.{digit_from_value}
use Rattle.std.proofs.lemmas.Str.{digit_value_digit}

after-append : (n : ℕ) (xs ys : List ℕ) → digits_value_after 10 n (xs ++ ys) ≡ digits_value_after 10 (digits_value_after 10 n xs) ys
after-append n [] ys = refl
after-append n (x ∷ xs) ys = after-append (n * 10 + digit_value x) xs ys

grows : (n : ℕ) (ds : List ℕ) → n ≤ digits_value_after 10 n ds
grows n [] = omega arith
grows n (c ∷ cs) = omega (arith, grows (n * 10 + digit_value c) cs)

last_ones : (xs ys : List ℕ) → AllDigits 10 (xs ++ ys) → AllDigits 10 ys
last_ones [] ys h = h
last_ones (x ∷ xs) ys h = last_ones xs ys h.1

digit_is : (c : ℕ) → 48 ≤ c → c ≤ 57 → is_ascii_digit c ≡ true
digit_is c low high = grind (arith, nat_tests)

-- what follows the digits of n in a greater number
pub record Follows (n c m : ℕ) : Type 0 where
  pub digit : is_ascii_digit c ≡ true
  pub low : 48 ≤ c
  pub high : c ≤ 57
  pub fits : n * 10 + (c - 48) ≤ m

follows : (n c m : ℕ) (more : List ℕ) → n < 2 ^ 64 → m < 2 ^ 64 → decimal m ≡ decimal n ++ (c ∷ more) → Follows n c m
follows n c m more small large e =
    let all : AllDigits 10 (decimal n ++ (c ∷ more)) = subst (AllDigits 10) e (decimal_is_IsNumeral m large).0.1 in
    let digits = last_ones (decimal n) (c ∷ more) all in
    let range = digit_from_value c digits.0 in
    let is : digit_value c + 48 ≡ c = digit_value_digit c range in
    let value : m ≡ digits_value_after 10 n (c ∷ more) = sym (decimal_is_IsNumeral m large).1 ∙ ap (digits_value 10) e ∙ after-append 0 (decimal n) (c ∷ more) ∙ ap (λ (k : ℕ). digits_value_after 10 k (c ∷ more)) (decimal_is_IsNumeral n small).1 in
    let least : n * 10 + digit_value c ≤ digits_value_after 10 n (c ∷ more) = grows (n * 10 + digit_value c) more in
    record { digit = digit_is c range.0 range.1; low = range.0; high = range.1; fits = omega (arith, value, is, least) }

-- the octet at a place, and what stands after it
cut : (xs : List ℕ) (i : ℕ) → i < length xs → xs ≡ take i xs ++ (get_or xs i 0 ∷ drop (i + 1) xs)
cut xs i lt = sym (take-append-drop i xs) ∙ at_drop_more (λ (r : List ℕ). take i xs ++ r) xs i 0 lt

-- the next octet of digits that a number has
pub next : (front : ℕ) (later : List ℕ) (i n m : ℕ) → i < length later → n < 2 ^ 64 → m < 2 ^ 64 → decimal n ≡ decimal front ++ take i later → decimal m ≡ decimal front ++ later → Follows n (get_or later i 0) m
next front later i n m lt small large so_far e =
    follows n (get_or later i 0) m (drop (i + 1) later) small large
    (e ∙ ap (λ (r : List ℕ). decimal front ++ r) (cut later i lt) ∙ sym (append_assoc (decimal front) (take i later) (get_or later i 0 ∷ drop (i + 1) later))
    ∙ ap (λ (r : List ℕ). r ++ (get_or later i 0 ∷ drop (i + 1) later)) (sym so_far))

-- a number with that digit too
pub one_more : (front : ℕ) (later : List ℕ) (i n k : ℕ) → i < length later → 0 < n → is_ascii_digit (get_or later i 0) ≡ true → k ≡ n * 10 + (get_or later i 0 - 48) → k < 2 ^ 64 → decimal n ≡ decimal front ++ take i later → decimal k ≡ decimal front ++ take (i + 1) later
one_more front later i n k lt some digit is fits so_far =
    let low : 48 ≤ get_or later i 0 = grind (arith, nat_tests, digit) in
    let high : get_or later i 0 ≤ 57 = grind (arith, nat_tests, digit) in
    let tens : k / 10 ≡ n = omega (arith, is, low, high) in
    let end : 48 + k % 10 ≡ get_or later i 0 = omega (arith, is, low, high) in
    decimal_step k (omega (arith, is, some)) fits ∙ (λ j. decimal (tens j) ++ (end j ∷ []))
    ∙ ap (λ (r : List ℕ). r ++ (get_or later i 0 ∷ [])) so_far ∙ append_assoc (decimal front) (take i later) (get_or later i 0 ∷ [])
    ∙ ap (λ (r : List ℕ). decimal front ++ r) (sym (take_more later i 0 lt))

-- the number is read to its end
pub whole : (front : ℕ) (later : List ℕ) (i n : ℕ) → length later ≤ i → decimal n ≡ decimal front ++ take i later → decimal n ≡ decimal front ++ later
whole front later i n end so_far = so_far ∙ ap (λ (r : List ℕ). decimal front ++ r) (take_all i later end)

-- how the text of a number begins
pub record Begins (c : ℕ) (later : List ℕ) (n : ℕ) : Type 0 where
  pub digit : is_ascii_digit c ≡ true
  pub alone : c ≡ 48 → (later ≡ []) × (n ≡ 0)

alone_at : (n c : ℕ) (later : List ℕ) → n < 2 ^ 64 → c ∷ later ≡ decimal n → c ≡ 48 → (later ≡ []) × (n ≡ 0)
alone_at zero c later lt e is = (ap (drop 1) (e ∙ decimal_digit 0 (omega arith)), refl)
alone_at (suc n) c later lt e is =
    let above = first_decimal (suc n) (omega arith) lt in
    let same : c ≡ get_or (decimal (suc n)) 0 0 = ap (λ (ds : List ℕ). get_or ds 0 0) e in
    absurd (omega (arith, above, same, is))

pub begins : (text : List ℕ) (c : ℕ) (later : List ℕ) (n : ℕ) → text ≡ c ∷ later → n < 2 ^ 64 → text ≡ decimal n → Begins c later n
begins text c later n cut_at lt e =
    let same : c ∷ later ≡ decimal n = sym cut_at ∙ e in
    let all : AllDigits 10 (c ∷ later) = subst (AllDigits 10) (sym same) (decimal_is_IsNumeral n lt).0.1 in
    let range = digit_from_value c all.0 in
    record { digit = digit_is c range.0 range.1; alone = alone_at n c later lt same }

-- no number has no digits
pub has_digits : (text : List ℕ) (n : ℕ) → length text ≡ 0 → n < 2 ^ 64 → text ≡ decimal n → ⊥
has_digits text n none lt e = omega (arith, none, ap length e, decimal_nonempty n lt)

-- a first digit is the number of itself
pub digit_alone : (c : ℕ) → is_ascii_digit c ≡ true → decimal (c - 48) ≡ c ∷ []
digit_alone c digit =
    let low : 48 ≤ c = grind (arith, nat_tests, digit) in
    let high : c ≤ 57 = grind (arith, nat_tests, digit) in
    decimal_digit (c - 48) (omega (arith, high)) ∙ ap (λ (k : ℕ). k ∷ []) (omega (arith, low))

-- zero has its digit alone
pub zero_alone : (text : List ℕ) (c : ℕ) (later : List ℕ) → text ≡ c ∷ later → c ≡ 48 → length later ≡ 0 → text ≡ decimal 0
zero_alone text c later e is none =
    e ∙ (λ i. is i ∷ later) ∙ ap (λ (r : List ℕ). 48 ∷ r) (nil_from_length later none) ∙ sym (decimal_digit 0 (omega arith))

-- a first digit as a number, and the digits after it
pub first_cut : (text : List ℕ) (c : ℕ) (later : List ℕ) (front : ℕ) → text ≡ c ∷ later → is_ascii_digit c ≡ true → front ≡ c - 48 → text ≡ decimal front ++ later
first_cut text c later front e digit is =
    e ∙ ap (λ (r : List ℕ). r ++ later) (sym (digit_alone c digit)) ∙ ap (λ (k : ℕ). decimal k ++ later) (sym is)

-- what is found of that is found of the whole
pub found_whole : (r : Option ℕ) (text : List ℕ) (front : ℕ) (later : List ℕ) → text ≡ decimal front ++ later → IfSome r (λ n. decimal n ≡ decimal front ++ later) → IfSome r (λ n. text ≡ decimal n)
found_whole (Some n) text front later e h = e ∙ sym h
found_whole None text front later e h = tt
