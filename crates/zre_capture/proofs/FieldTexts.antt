-- Values of fields and their texts.
use Rattle.std.proofs.Common.{◌+◌, ◌*◌, ◌⊎◌, inl, inr, zero, suc, subst, Result, length, ◌≡◌, ℕ, ◌<◌, ◌^◌, ◌==◌, ◌&&◌, ◌||◌, ltb, Bool, true, false, List, [], ◌∷◌, ◌++◌, Option, Some, None, refl, sym, ap, ◌∙◌, arith, All, get_or}
use Rattle.std.specs.Prelude.{decimal, IfSome, unwrap_or, is_some, map}
use Rattle.std.specs.Result.{result_unwrap_or}
use Rattle.std.specs.List.{list_all, list_any, slice_split}
use Rattle.std.specs.Str.{bytes_eq}
use Rattle.std.specs.Str.Parse.{digits_value}
use Rattle.std.proofs.lemmas.List.Folds.{list_any_at}
use Rattle.std.proofs.lemmas.Bool.{cases_Bool, false_from_ne_true, and_parts, and_from, lt-ltb, ltb-true, eqb-true, eq-eqb}
use Rattle.std.proofs.lemmas.Fmt.{decimal_is_IsNumeral}
use Rattle.std.proofs.lemmas.Option.{cond_some}
use Rattle.std.proofs.lemmas.Slice.Eq.{bytes_eq-Decides}
use Rattle.std.proofs.lemmas.List.Elements.{All-head, All-tail}
use Rattle.std.proofs.lemmas.List.Splits.{slice_split_at, slice_split_none}
use Rattle.std.proofs.lemmas.List.Sums.{AllPass-from_list_all, list_all-from_AllPass}
use Rattle.hex.specs.Hex.{IsBytes}
use Rattle.hex.specs.declared.error.FromHexError.{FromHexError}
use Rattle.hex.proofs.HexLemmas.{decode_of-encode_lower}
use Rattle.uuid.specs.Text.{parsed, simple_text, upper, byte_of_digits, value_of}
use Rattle.uuid.proofs.TextLemmas.{by_index_length, by_index_at}
use Rattle.std.proofs.lemmas.Bool.Decides.{nat_tests}
use Rattle.std.proofs.lemmas.List.{get_or_default}
use Rattle.zre_values.specs.declared.peer_id.PeerId.{PeerId}
use Rattle.zre_values.specs.Address.{address_text, IsAddress}
use Rattle.zre_values.specs.PlainId.{IsPeerId, is_plain_id, is_upper_digit}
use Rattle.zre_values.specs.Text.{id_text, quoted}
use Rattle.zre_values.proofs.Addresses.{four, text-four}
use Rattle.zre_values.proofs.Digits.{decimal-lacks}
use Rattle.zre_values.proofs.PlainIds.{text-parsed, octets_of, plain-text}
use Rattle.zre_capture.specs.Lines.{hex_text}
use Rattle.zre_capture.specs.Values.{where_spelled, number_of, id_of, group_of, hex_of, address_of, dotted, decoded, unquoted}
use Rattle.zre_capture.proofs.UnquotedQuoted.{unquoted-quoted}

-- a value is of its type, and a field is its text
pub record IsTextOf {V : Type 0} (Is : V → Type 0) (spell : V → List ℕ) (v : V) (field : List ℕ) : Type 0 where
  pub is : Is v
  pub text : spell v ≡ field

abbrev pub AreOctets : List ℕ → Type 0
AreOctets o = All (λ b. b < 2 ^ 8) o

-- what was found is spelled so, and is of its type
pub record Found {V : Type 0} (text : V → List ℕ) (valid : Bool) (value : V) (field : List ℕ) (found : V) : Type 0 where
  pub same : value ≡ found
  pub is_valid : valid ≡ true
  pub spelled : text found ≡ field

pub found : {V : Type 0} (text : V → List ℕ) (valid : Bool) (value : V) (field : List ℕ) (v : V) → where_spelled text valid value field ≡ Some v → Found text valid value field v
found text valid value field v e =
    let p = cond_some (valid && bytes_eq (text value) field) value v e in
    let q = and_parts valid (bytes_eq (text value) field) p.0 in
    record { same = p.1; is_valid = q.0; spelled = ap text (sym p.1) ∙ (bytes_eq-Decides (text value) field).0 q.1 }

pub spelled-some : {V : Type 0} (text : V → List ℕ) (valid : Bool) (value : V) (field : List ℕ) → valid ≡ true → text value ≡ field → where_spelled text valid value field ≡ Some value
spelled-some text valid value field ok e =
    let p : (valid && bytes_eq (text value) field) ≡ true = and_from valid (bytes_eq (text value) field) ok ((bytes_eq-Decides (text value) field).1 e) in
    rw p refl

-- the same of the value that it has to be
pub spelled-one : {V : Type 0} (text : V → List ℕ) (valid : Bool) (value : V) (field : List ℕ) (v : V) → value ≡ v → valid ≡ true → text v ≡ field → where_spelled text valid value field ≡ Some v
spelled-one text valid value field v same ok e =
    spelled-some text valid value field ok (ap text same ∙ e) ∙ ap Some same

-- an answer that is right where there is one, and is there where it may be
pub answered : {V : Type 0} (result spec : Option V) → IfSome result (λ v. spec ≡ Some v) → ((v : V) → spec ≡ Some v → result ≡ Some v) → result ≡ spec
answered (Some v) spec right back = sym right
answered None None right back = refl
answered None (Some v) right back = back v refl

-- ---- numbers

pub number_of-decimal : (n : ℕ) → n < 2 ^ 64 → number_of (decimal n) ≡ Some n
unfolding number_of
number_of-decimal n lt =
    let same : digits_value 10 (decimal n) ≡ n = (decimal_is_IsNumeral n lt).1 in
    spelled-one decimal (ltb (digits_value 10 (decimal n)) (2 ^ 64)) (digits_value 10 (decimal n)) (decimal n) n same (lt-ltb _ _ (omega (arith, same, lt))) refl

pub record IsNumberText (n : ℕ) (field : List ℕ) : Type 0 where
  pub fits : n < 2 ^ 64
  pub text : decimal n ≡ field

pub number_of-some : (field : List ℕ) (n : ℕ) → number_of field ≡ Some n → IsNumberText n field
unfolding number_of
number_of-some field n e =
    let f = found decimal (ltb (digits_value 10 field) (2 ^ 64)) (digits_value 10 field) field n e in
    record { fits = omega (arith, f.same, ltb-true _ _ f.is_valid); text = f.spelled }

-- ---- octets

pub octets-true : (o : List ℕ) → list_all (λ b. ltb b 256) o ≡ true → All (λ b. b < 2 ^ 8) o
octets-true o e = λ k d lt. ltb-true (get_or o k d) 256 (AllPass-from_list_all (λ b. ltb b 256) o e k d lt)

pub octets-from : (o : List ℕ) → All (λ b. b < 2 ^ 8) o → list_all (λ b. ltb b 256) o ≡ true
octets-from o h = list_all-from_AllPass (λ b. ltb b 256) o (λ k d lt. lt-ltb (get_or o k d) 256 (h k d lt))

octets-spelled : (text : List ℕ → List ℕ) (value v : List ℕ) → value ≡ v → AreOctets v → where_spelled text (list_all (λ b. ltb b 256) value) value (text v) ≡ Some v
octets-spelled text value v same h = spelled-one text _ value (text v) v same (ap (list_all (λ b. ltb b 256)) same ∙ octets-from v h) refl

octets-found : (text : List ℕ → List ℕ) (value field v : List ℕ) → where_spelled text (list_all (λ b. ltb b 256) value) value field ≡ Some v → IsTextOf AreOctets text v field
octets-found text value field v e =
    let f = found text _ value field v e in
    record { is = subst (λ (o : List ℕ). AreOctets o) f.same (octets-true value f.is_valid); text = f.spelled }

-- ---- identities

pub id_of-text : (id : PeerId) → IsPeerId id → id_of (id_text id) ≡ Some id
unfolding id_of id_text
id_of-text id is =
    let same : parsed (simple_text upper id.0) ≡ Some id.0 = text-parsed id is in
    let octets : unwrap_or (parsed (simple_text upper id.0)) [] ≡ id.0 = ap (λ (o : Option (List ℕ)). unwrap_or o []) same in
    let valid : ((length (unwrap_or (parsed (simple_text upper id.0)) []) == 16) && list_all (λ b. ltb b 256) (unwrap_or (parsed (simple_text upper id.0)) [])) ≡ true =
    ap (λ (o : List ℕ). (length o == 16) && list_all (λ b. ltb b 256) o) octets ∙ and_from _ _ (eq-eqb (length id.0) 16 is.sixteen) (octets-from id.0 is.octets) in
    spelled-one id_text _ (record { 0 = unwrap_or (parsed (simple_text upper id.0)) [] }) (simple_text upper id.0) id (ap (λ (o : List ℕ). record { 0 = o }) octets) valid refl

pub id_of-some : (field : List ℕ) (id : PeerId) → id_of field ≡ Some id → IsTextOf IsPeerId id_text id field
unfolding id_of
id_of-some field id e =
    let f = found id_text _ _ field id e in
    let p = and_parts _ _ f.is_valid in
    let octets : unwrap_or (parsed field) [] ≡ id.0 = ap (λ (i : PeerId). i.0) f.same in
    record {
      is = record { sixteen = ap length (sym octets) ∙ eqb-true _ _ p.0; octets = subst (λ (o : List ℕ). All (λ b. b < 2 ^ 8) o) octets (octets-true _ p.1) };
      text = f.spelled;
    }

-- ---- groups

pub group_of-quoted : (v : List ℕ) → All (λ b. b < 2 ^ 8) v → group_of (quoted v) ≡ Some v
unfolding group_of
group_of-quoted v h = octets-spelled quoted (unquoted (quoted v)) v (unquoted-quoted v h) h

pub group_of-some : (field v : List ℕ) → group_of field ≡ Some v → IsTextOf AreOctets quoted v field
unfolding group_of
group_of-some field v e = octets-found quoted (unquoted field) field v e

-- ---- hexadecimal digits

pub hex_of-some : (field v : List ℕ) → hex_of field ≡ Some v → IsTextOf AreOctets hex_text v field
unfolding hex_of
hex_of-some field v e = octets-found hex_text (decoded field) field v e

octet_at : (v : List ℕ) → All (λ b. b < 2 ^ 8) v → (i : ℕ) → get_or v i 0 < 256
octet_at [] h i = omega arith
octet_at (b ∷ v) h zero = All-head (λ n. n < 2 ^ 8) b v h
octet_at (b ∷ v) h (suc i) = octet_at v (All-tail (λ n. n < 2 ^ 8) b v h) i

-- as `hex` says it
bytes-from : (v : List ℕ) → All (λ b. b < 2 ^ 8) v → IsBytes v
bytes-from v h = λ i. octet_at v h i

hex-decoded : (v : List ℕ) → All (λ b. b < 2 ^ 8) v → decoded (hex_text v) ≡ v
hex-decoded [] h = refl
hex-decoded (b ∷ v) h = ap (λ (r : Result (List ℕ) FromHexError). result_unwrap_or r []) (decode_of-encode_lower (b ∷ v) (bytes-from (b ∷ v) h))

pub hex_of-text : (v : List ℕ) → All (λ b. b < 2 ^ 8) v → hex_of (hex_text v) ≡ Some v
unfolding hex_of
hex_of-text v h = octets-spelled hex_text (decoded (hex_text v)) v (hex-decoded v h) h

-- ---- addresses

numbers-back : (a b c d : ℕ) → map (digits_value 10) (decimal a ∷ decimal b ∷ decimal c ∷ decimal d ∷ []) ≡ digits_value 10 (decimal a) ∷ digits_value 10 (decimal b) ∷ digits_value 10 (decimal c) ∷ digits_value 10 (decimal d) ∷ []
numbers-back a b c d = refl

lacks : (o n : ℕ) → n < 2 ^ 8 → (o < 48) ⊎ (57 < o) → All (λ b. (b == o) ≡ false) (decimal n)
lacks o n lt other = λ k d within. false_from_ne_true _ (λ is.
    let there : list_any (λ b. b == o) (decimal n) ≡ true = list_any_at (λ b. b == o) (decimal n) k d within is in
    let none = decimal-lacks o n (omega (arith, lt)) other in
    absurd cc)

dots : (f : List ℕ) (r : List ℕ) → All (λ b. (b == 46) ≡ false) f → slice_split (λ b. b == 46) (f ++ (46 ∷ r)) ≡ f ∷ slice_split (λ b. b == 46) r
dots f r none = slice_split_at (λ b. b == 46) f 46 r none refl

value-back : (n : ℕ) → n < 2 ^ 8 → digits_value 10 (decimal n) ≡ n
value-back n lt = (decimal_is_IsNumeral n (omega (arith, lt))).1

four-back : (a b c d : ℕ) → a < 2 ^ 8 → b < 2 ^ 8 → c < 2 ^ 8 → d < 2 ^ 8 → dotted (decimal a ++ (46 ∷ (decimal b ++ (46 ∷ (decimal c ++ (46 ∷ decimal d)))))) ≡ a ∷ b ∷ c ∷ d ∷ []
four-back a b c d la lb lc ld =
    let cut : slice_split (λ o. o == 46) (decimal a ++ (46 ∷ (decimal b ++ (46 ∷ (decimal c ++ (46 ∷ decimal d)))))) ≡ decimal a ∷ decimal b ∷ decimal c ∷ decimal d ∷ [] =
    dots (decimal a) _ (lacks 46 a la (inl (omega arith)))
    ∙ ap (λ (r : List (List ℕ)). decimal a ∷ r) (dots (decimal b) _ (lacks 46 b lb (inl (omega arith)))
    ∙ ap (λ (r : List (List ℕ)). decimal b ∷ r) (dots (decimal c) _ (lacks 46 c lc (inl (omega arith)))
    ∙ ap (λ (r : List (List ℕ)). decimal c ∷ r) (slice_split_none (λ o. o == 46) (decimal d) (lacks 46 d ld (inl (omega arith)))))) in
    ap (map (digits_value 10)) cut ∙ rw (value-back a la, value-back b lb, value-back c lc, value-back d ld) refl

dotted-address : (host : List ℕ) → IsAddress host → dotted (address_text host) ≡ host
dotted-address host is =
    let f = four host is in
    ap dotted (text-four host (address_text host) f refl) ∙ four-back f.a f.b f.c f.d f.a_fits f.b_fits f.c_fits f.d_fits ∙ sym f.is

pub address_of-text : (host : List ℕ) → IsAddress host → address_of (address_text host) ≡ Some host
unfolding address_of
address_of-text host is =
    let same = dotted-address host is in
    spelled-one address_text _ (dotted (address_text host)) (address_text host) host same
    (ap (λ (o : List ℕ). (length o == 4) && list_all (λ b. ltb b 256) o) same ∙ and_from _ _ (eq-eqb (length host) 4 is.four) (octets-from host is.octets)) refl

pub address_of-some : (field host : List ℕ) → address_of field ≡ Some host → IsTextOf IsAddress address_text host field
unfolding address_of
address_of-some field host e =
    let f = found address_text _ (dotted field) field host e in
    let p = and_parts _ _ f.is_valid in
    record {
      is = record { four = ap length (sym f.same) ∙ eqb-true _ _ p.0; octets = subst (λ (o : List ℕ). All (λ b. b < 2 ^ 8) o) f.same (octets-true (dotted field) p.1) };
      text = f.spelled;
    }

-- ---- tests that take no value out

pub some_is : {V : Type 0} (o : Option V) (v : V) → o ≡ Some v → is_some o ≡ true
some_is o v e = ap is_some e

-- a test that holds exactly where there is a value
pub tested : {V : Type 0} (b : Bool) (o : Option V) → (b ≡ true → is_some o ≡ true) → ((v : V) → o ≡ Some v → b ≡ true) → b ≡ is_some o
tested true o there back = sym (there refl)
tested false None there back = refl
tested false (Some v) there back = back v refl

-- a field that has a value is this text, or passes a test
pub text_or_tested : {V : Type 0} (read : List ℕ → Option V) (text : List ℕ) (value : V) (test : Bool) (field : List ℕ) → read text ≡ Some value → (test ≡ true → is_some (read field) ≡ true)
    → ((v : V) → read field ≡ Some v → (field ≡ text → ⊥) → test ≡ true) → is_some (read field) ≡ (bytes_eq field text || test)
text_or_tested read text value test field there passes back =
    elim (cases_Bool (bytes_eq field text)) [
      | inl is ↦ rw is (some_is (read field) value (ap read ((bytes_eq-Decides field text).0 is) ∙ there))
      | inr isnt ↦ rw isnt (sym (tested test (read field) passes (λ v e. back v e (λ same. let yes : bytes_eq field text ≡ true = (bytes_eq-Decides field text).1 same in absurd cc))))
    ]

-- nothing is found where nothing may be
pub none_spec : {V : Type 0} (spec : Option V) → ((v : V) → spec ≡ Some v → None ≡ Some v) → None ≡ spec
none_spec None back = refl
none_spec (Some v) back = back v refl

pub value_there : {V : Type 0} (o : Option V) → is_some o ≡ true → (v : V) × (o ≡ Some v)
value_there (Some v) e = (v, refl)
value_there None e = absurd cc

-- ---- identities that are read

upper_below : (c : ℕ) → is_upper_digit c ≡ true → value_of c < 16
upper_below c e = grind (arith, nat_tests, e)

digit_below : (text : List ℕ) → is_plain_id text ≡ true → (k : ℕ) → k < 32 → value_of (get_or text k 0) < 16
unfolding is_plain_id
digit_below text e k lt =
    let p = and_parts (length text == 32) (list_all is_upper_digit text) e in
    let long : length text ≡ 32 = eqb-true _ _ p.0 in
    upper_below (get_or text k 0) (AllPass-from_list_all is_upper_digit text p.1 k 0 (omega (arith, long, lt)))

octet-fits : (text : List ℕ) → is_plain_id text ≡ true → (i : ℕ) → i < 16 → get_or (octets_of text) i 0 < 2 ^ 8
octet-fits text e i lt =
    let a = digit_below text e (2 * i) (omega (arith, lt)) in
    let b = digit_below text e (2 * i + 1) (omega (arith, lt)) in
    let at : get_or (octets_of text) i 0 ≡ value_of (get_or text (2 * i) 0) * 16 + value_of (get_or text (2 * i + 1) 0) = by_index_at 16 (byte_of_digits text) i 0 lt in
    omega (arith, a, b, at)

plain-is : (text : List ℕ) → is_plain_id text ≡ true → IsPeerId (record { 0 = octets_of text })
plain-is text e =
    let long : length (octets_of text) ≡ 16 = by_index_length 16 (byte_of_digits text) in
    record { sixteen = long; octets = λ k d lt. rw (get_or_default (octets_of text) k d 0 lt) (octet-fits text e k (omega (arith, long, lt))) }

-- an answer that is there for thirty-two digits alone, and then is their identity
pub read_ids : (field : List ℕ) (result : Option PeerId) → is_some result ≡ is_plain_id field → ((id : PeerId) → IsPeerId id → field ≡ id_text id → result ≡ Some id) → result ≡ id_of field
unfolding id_text
read_ids field None some back =
    none_spec (id_of field) (λ id e. let t = id_of-some field id e in back id t.is (sym t.text))
read_ids field (Some v) some back =
    let id : PeerId = record { 0 = octets_of field } in
    let is = plain-is field (sym some) in
    let text = plain-text field (sym some) in
    back id is text ∙ sym (ap id_of text ∙ id_of-text id is)
