-- The text of an endpoint is read as that endpoint.
use Rattle.std.proofs.Common.{◌≡◌, ℕ, ◌+◌, ◌-◌, ◌*◌, ◌<◌, ◌≤◌, ◌^◌, ◌==◌, ◌&&◌, Bool, true, false, cond, ltb, List, [], ◌∷◌, ◌++◌, length, map, drop, Option, Some, None, refl, sym, ap, ◌∙◌, arith, inl, inr}
use Rattle.std.specs.Prelude.{decimal}
use Rattle.std.specs.List.{fold, list_any, list_all}
use Rattle.std.specs.Str.{bytes_eq}
use Rattle.std.specs.Str.Parse.{AllDigits}
use Rattle.std.proofs.lemmas.Bool.{or_parts, and_parts, eq-eqb, eqb-true, lt-ltb, ltb-true, cases_Bool}
use Rattle.std.proofs.lemmas.Fmt.{digits_value-decimal, length-decimal-le}
use Rattle.std.proofs.lemmas.List.{length-append}
use Rattle.std.proofs.lemmas.Slice.Eq.{bytes_eq-Decides}
use Rattle.std.proofs.lemmas.List.Sums.{AllPass-from_list_all}
use Rattle.std.proofs.lemmas.Str.Parse.{IsNumeralModel, numerals_by_fold, tells_digits}
use Rattle.zre_values.specs.declared.endpoint.Endpoint.{Endpoint}
use Rattle.zre_values.specs.Address.{address_text, IsAddress}
use Rattle.zre_values.specs.Endpoint.{endpoint_text, IsEndpoint, fields, number_of, endpoint_of, is_endpoint, spelled_so, endpoint_in}
use Rattle.zre_values.proofs.Addresses.{four, text-four, address_text-lacks}
use Rattle.zre_values.proofs.Digits.{decimal-lacks, bytes_eq-same}

-- ---- fields
-- octets without the separator are one field
pub fields-one : (o : ℕ) (x : List ℕ) → list_any (λ b. b == o) x ≡ false → fields o x ≡ x ∷ []
fields-one o [] lacks = refl
fields-one o (b ∷ x) lacks =
    let p = or_parts (b == o) (list_any (λ c. c == o) x) lacks in
    rw (p.0, fields-one o x p.1) refl

-- what stands before the first separator is the first field
pub fields-more : (o : ℕ) (x y : List ℕ) → list_any (λ b. b == o) x ≡ false → fields o (x ++ (o ∷ y)) ≡ x ∷ fields o y
fields-more o [] y lacks = rw (eq-eqb o o refl) refl
fields-more o (b ∷ x) y lacks =
    let p = or_parts (b == o) (list_any (λ c. c == o) x) lacks in
    rw (p.0, fields-more o x y p.1) refl

-- ---- numbers
abbrev number_after : ℕ → List ℕ → ℕ
number_after n digits = fold (λ m d. 10 * m + (d - 48)) n digits

by_digits : IsNumeralModel (AllDigits 10) (number_after 0)
by_digits =
    numerals_by_fold (AllDigits 10) tells_digits number_after
    (record { empty = λ n. refl; more = λ n c cs range. ap (λ (m : ℕ). number_after m cs) (omega arith) })

-- the digits of a number spell it
pub number_of-decimal : (n : ℕ) → n < 2 ^ 64 → number_of (decimal n) ≡ n
number_of-decimal n lt = digits_value-decimal by_digits n lt

-- ---- addresses
no_dot : (n : ℕ) → n < 2 ^ 8 → list_any (λ b. b == 46) (decimal n) ≡ false
no_dot n lt = decimal-lacks 46 n (omega (arith, lt)) (inl (omega arith))

octet : (n : ℕ) → n < 2 ^ 8 → number_of (decimal n) ≡ n
octet n lt = number_of-decimal n (omega (arith, lt))

fields-four : (a b c d : ℕ) → a < 2 ^ 8 → b < 2 ^ 8 → c < 2 ^ 8 → d < 2 ^ 8 →
    fields 46 (decimal a ++ (46 ∷ (decimal b ++ (46 ∷ (decimal c ++ (46 ∷ decimal d)))))) ≡ decimal a ∷ decimal b ∷ decimal c ∷ decimal d ∷ []
fields-four a b c d la lb lc ld =
    fields-more 46 (decimal a) _ (no_dot a la)
    ∙ ap (λ (r : List (List ℕ)). decimal a ∷ r) (fields-more 46 (decimal b) _ (no_dot b lb)
    ∙ ap (λ (r : List (List ℕ)). decimal b ∷ r) (fields-more 46 (decimal c) _ (no_dot c lc)
    ∙ ap (λ (r : List (List ℕ)). decimal c ∷ r) (fields-one 46 (decimal d) (no_dot d ld))))

-- the fields of an address's text spell its numbers
pub address-fields : (addr : List ℕ) → IsAddress addr → map number_of (fields 46 (address_text addr)) ≡ addr
address-fields addr is =
    let f = four addr is in
    ap (λ (t : List ℕ). map number_of (fields 46 t)) (text-four addr (address_text addr) f refl)
    ∙ ap (λ (l : List (List ℕ)). map number_of l) (fields-four f.a f.b f.c f.d f.a_fits f.b_fits f.c_fits f.d_fits)
    ∙ (rw (octet f.a f.a_fits, octet f.b f.b_fits, octet f.c f.c_fits, octet f.d f.d_fits) refl)
    ∙ sym f.is

-- ---- endpoints
no_colon : (n : ℕ) → n < 2 ^ 16 → list_any (λ b. b == 58) (decimal n) ≡ false
no_colon n lt = decimal-lacks 58 n (omega (arith, lt)) (inr (omega arith))

endpoint-fields : (e : Endpoint) → IsEndpoint e → fields 58 (drop 6 (endpoint_text e)) ≡ address_text e.addr ∷ decimal e.port ∷ []
endpoint-fields e is =
    fields-more 58 (address_text e.addr) (decimal e.port) (address_text-lacks e.addr is.address)
    ∙ ap (λ (r : List (List ℕ)). address_text e.addr ∷ r) (fields-one 58 (decimal e.port) (no_colon e.port is.port_fits))

made : (x y : List ℕ) (m n : ℕ) → x ≡ y → m ≡ n → record { addr = x; port = m } ≡ (let e : Endpoint = record { addr = y; port = n } in e)
made x y m n p q = cc

-- the fields of an endpoint's text make it
pub endpoint-of_text : (e : Endpoint) → IsEndpoint e → endpoint_of (fields 58 (drop 6 (endpoint_text e))) ≡ e
endpoint-of_text e is =
    ap endpoint_of (endpoint-fields e is)
    ∙ made (map number_of (fields 46 (address_text e.addr))) e.addr (number_of (decimal e.port)) e.port (address-fields e.addr is.address) (number_of-decimal e.port (omega (arith, is.port_fits)))

small_octets : (addr : List ℕ) → IsAddress addr → (length addr == 4 && list_all (λ n. ltb n 256) addr) ≡ true
small_octets addr is =
    let f = four addr is in
    ap (λ (l : List ℕ). length l == 4 && list_all (λ n. ltb n 256) l) f.is
    ∙ (rw (lt-ltb f.a 256 f.a_fits, lt-ltb f.b 256 f.b_fits, lt-ltb f.c 256 f.c_fits, lt-ltb f.d 256 f.d_fits) refl)

-- the test finds what IsEndpoint says
pub endpoint-is : (e : Endpoint) → IsEndpoint e → is_endpoint e ≡ true
endpoint-is e is =
    let a = and_parts (length e.addr == 4) (list_all (λ n. ltb n 256) e.addr) (small_octets e.addr is.address) in
    rw (a.0, a.1, lt-ltb 0 e.port is.port_is_some, lt-ltb e.port 65536 is.port_fits) refl

-- what the test finds is an endpoint
pub endpoint-from : (e : Endpoint) → is_endpoint e ≡ true → IsEndpoint e
endpoint-from e t =
    let four = length e.addr == 4 in
    let octets = list_all (λ n. ltb n 256) e.addr in
    let p = and_parts (four && octets && ltb 0 e.port) (ltb e.port 65536) t in
    let q = and_parts (four && octets) (ltb 0 e.port) p.0 in
    let r = and_parts four octets q.0 in
    record {
      address = record {
        four = eqb-true _ _ r.0;
        octets = λ k d lt. ltb-true _ _ (AllPass-from_list_all (λ n. ltb n 256) e.addr r.1 k d lt);
      };
      port_is_some = ltb-true 0 e.port q.1;
      port_fits = ltb-true e.port 65536 p.1;
    }

-- the text of an endpoint is read as that endpoint
pub endpoint_in-text : (e : Endpoint) → IsEndpoint e → endpoint_in (endpoint_text e) ≡ Some e
endpoint_in-text e is =
    ap (spelled_so (endpoint_text e)) (endpoint-of_text e is)
    ∙ (rw (endpoint-is e is, bytes_eq-same (endpoint_text e) (endpoint_text e) refl) refl)

-- ---- what a reader gives is what the text is read as
abbrev seen : Bool → Endpoint → Option Endpoint
seen b e = cond b (Some e) None

-- nothing, where nothing else could be read
pub nothing-read : (text : List ℕ) (r : Option Endpoint) → r ≡ None → ((e : Endpoint) → IsEndpoint e → text ≡ endpoint_text e → r ≡ Some e) → r ≡ endpoint_in text
nothing-read text r is_none back =
    let e = endpoint_of (fields 58 (drop 6 text)) in
    let spelled = bytes_eq (endpoint_text e) text in
    elim (cases_Bool (is_endpoint e && spelled)) [
      | inl found ↦
          (let parts = and_parts (is_endpoint e) spelled found in
          let text_is : text ≡ endpoint_text e = sym ((bytes_eq-Decides (endpoint_text e) text).0 parts.1) in
          let some = back e (endpoint-from e parts.0) text_is in
          absurd (cc))
      | inr none ↦ is_none ∙ sym (ap (λ (b : Bool). seen b e) none)
    ]

-- the endpoint whose text it is
pub this-read : (text : List ℕ) (e : Endpoint) → IsEndpoint e → text ≡ endpoint_text e → Some e ≡ endpoint_in text
this-read text e is text_is = sym (ap endpoint_in text_is ∙ endpoint_in-text e is)

-- ---- how long texts are
short_four : (a b c d : List ℕ) → length a ≤ 3 → length b ≤ 3 → length c ≤ 3 → length d ≤ 3 → length (a ++ (46 ∷ (b ++ (46 ∷ (c ++ (46 ∷ d)))))) ≤ 15
short_four a b c d la lb lc ld =
    omega (arith, length-append a (46 ∷ (b ++ (46 ∷ (c ++ (46 ∷ d))))), length-append b (46 ∷ (c ++ (46 ∷ d))), length-append c (46 ∷ d))

short_octet : (n : ℕ) → n < 2 ^ 8 → length (decimal n) ≤ 3
short_octet n lt = length-decimal-le 3 n (omega arith) (omega (arith, lt)) (omega (arith, lt))

-- the text of an address has at most 15 octets
pub address_text-short : (addr : List ℕ) → IsAddress addr → length (address_text addr) ≤ 15
address_text-short addr is =
    let f = four addr is in
    let short = short_four (decimal f.a) (decimal f.b) (decimal f.c) (decimal f.d) (short_octet f.a f.a_fits) (short_octet f.b f.b_fits) (short_octet f.c f.c_fits) (short_octet f.d f.d_fits) in
    omega (arith, short, ap (length {A = ℕ}) (text-four addr (address_text addr) f refl))

-- the text of an endpoint has at most 27 octets
pub endpoint_text-short : (e : Endpoint) → IsEndpoint e → length (endpoint_text e) ≤ 27
endpoint_text-short e is =
    let addr = address_text-short e.addr is.address in
    let port = length-decimal-le 5 e.port (omega arith) (omega (arith, is.port_fits)) (omega (arith, is.port_fits)) in
    omega (arith, addr, port, length-append (address_text e.addr) (58 ∷ decimal e.port))
