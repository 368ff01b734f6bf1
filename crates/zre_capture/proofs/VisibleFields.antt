-- No space and no line feed stands in a field.
use Rattle.std.proofs.Common.{◌≡◌, ℕ, ◌/◌, ◌%◌, ◌≤◌, ◌<◌, ◌^◌, ◌==◌, leb, Bool, true, false, cond, List, [], ◌∷◌, ◌++◌, refl, ap, ◌∙◌, arith, All, get_or}
use Rattle.std.specs.Prelude.{decimal, flat_map}
use Rattle.std.specs.List.{list_all, join_with_byte}
use Rattle.std.specs.Str.Parse.{AllDigits}
use Rattle.std.proofs.lemmas.Bool.{and_parts, and_from, ne_eqb, leb-true, le-leb}
use Rattle.std.proofs.lemmas.Bool.Decides.{nat_tests}
use Rattle.std.proofs.lemmas.Fmt.{decimal_is_IsNumeral}
use Rattle.std.proofs.lemmas.List.Concat.{flat_map-cons}
use Rattle.std.proofs.lemmas.List.Elements.{All-head, All-tail, All-cons}
use Rattle.std.proofs.lemmas.List.Folds.{list_all-append}
use Rattle.std.proofs.lemmas.List.Sums.{AllPass-from_list_all}
use Rattle.std.proofs.lemmas.Str.Parse.{digit_from_value}
use Rattle.hex.specs.Hex.{encode_lower}
use Rattle.zre_values.specs.declared.peer_id.PeerId.{PeerId}
use Rattle.zre_values.specs.Address.{address_text, IsAddress}
use Rattle.zre_values.specs.PlainId.{is_plain_id, is_upper_digit}
use Rattle.zre_values.specs.Text.{hex_digit, is_plain, quoted_octet, quoted, quoted_list, id_text}
use Rattle.zre_values.proofs.Addresses.{four, text-four}
use Rattle.zre_values.proofs.PlainIds.{text-plain}
use Rattle.zre_capture.specs.Lines.{hex_text}
use Rattle.zre_capture.specs.Parts.{between, Lacks}
use Rattle.zre_capture.specs.Values.{is_lower_digit}
use Rattle.zre_capture.proofs.HexPairs.{encoded-lower}
use Rattle.zre_capture.proofs.TextParts.{between-cut, between-whole}
use Rattle.zre_capture.proofs.LineByLine.{lacks-append}

abbrev pub is_visible : ℕ → Bool
is_visible b = leb 33 b

abbrev pub visible : List ℕ → Bool
visible t = list_all is_visible t

pub visible-lacks : (o : ℕ) (t : List ℕ) → o < 33 → visible t ≡ true → Lacks o t
visible-lacks o t low e = λ k d lt.
    let high : 33 ≤ get_or t k d = leb-true 33 _ (AllPass-from_list_all is_visible t e k d lt) in
    ne_eqb (get_or t k d) o (λ same. omega (arith, low, high, same))

weaker : (p q : ℕ → Bool) (t : List ℕ) → ((b : ℕ) → p b ≡ true → q b ≡ true) → list_all p t ≡ true → list_all q t ≡ true
weaker p q [] f e = refl
weaker p q (b ∷ t) f e = let h = and_parts (p b) (list_all p t) e in and_from (q b) (list_all q t) (f b h.0) (weaker p q t f h.1)

both : (x y : List ℕ) → visible x ≡ true → visible y ≡ true → visible (x ++ y) ≡ true
both x y p q = list_all-append is_visible x y ∙ and_from (visible x) (visible y) p q

digits-visible : (ds : List ℕ) → AllDigits 10 ds → visible ds ≡ true
digits-visible [] all = refl
digits-visible (d ∷ ds) all =
    let range = digit_from_value d all.0 in
    and_from (is_visible d) (visible ds) (le-leb 33 d (omega (arith, range))) (digits-visible ds all.1)

pub decimal-visible : (n : ℕ) → n < 2 ^ 64 → visible (decimal n) ≡ true
decimal-visible n lt = digits-visible (decimal n) (decimal_is_IsNumeral n lt).0.1

pub address-visible : (host : List ℕ) → IsAddress host → visible (address_text host) ≡ true
address-visible host is =
    let f = four host is in
    let a = decimal-visible f.a (omega (arith, f.a_fits)) in
    let b = decimal-visible f.b (omega (arith, f.b_fits)) in
    let c = decimal-visible f.c (omega (arith, f.c_fits)) in
    let d = decimal-visible f.d (omega (arith, f.d_fits)) in
    ap visible (text-four host (address_text host) f refl)
    ∙ both (decimal f.a) _ a (both (decimal f.b) _ b (both (decimal f.c) _ c d))

lower-visible : (b : ℕ) → is_lower_digit b ≡ true → is_visible b ≡ true
lower-visible b e = grind (arith, nat_tests, e)

upper-visible : (b : ℕ) → is_upper_digit b ≡ true → is_visible b ≡ true
upper-visible b e = grind (arith, nat_tests, e)

pub hex-visible : (v : List ℕ) → All (λ b. b < 2 ^ 8) v → visible (hex_text v) ≡ true
hex-visible [] h = refl
hex-visible (b ∷ v) h = weaker is_lower_digit is_visible (encode_lower (b ∷ v)) lower-visible (encoded-lower (b ∷ v) h)

pub id-visible : (id : PeerId) → visible (id_text id) ≡ true
unfolding id_text is_plain_id
id-visible id = weaker is_upper_digit is_visible (id_text id) upper-visible (and_parts _ _ (text-plain id.0)).1

plain-visible : (b : ℕ) → is_plain b ≡ true → is_visible b ≡ true
plain-visible b e = grind (arith, nat_tests, e)

digit-visible : (n : ℕ) → n < 16 → is_visible (hex_digit n) ≡ true
digit-visible n lt = grind (arith, nat_tests)

kind-visible : (p : Bool) (b : ℕ) → is_plain b ≡ p → b < 2 ^ 8 → visible (cond p (b ∷ []) (37 ∷ hex_digit (b / 16) ∷ hex_digit (b % 16) ∷ [])) ≡ true
kind-visible true b e lt = and_from (is_visible b) true (plain-visible b e) refl
kind-visible false b e lt = and_from (is_visible (hex_digit (b / 16))) _ (digit-visible (b / 16) (omega (arith, lt))) (and_from (is_visible (hex_digit (b % 16))) true (digit-visible (b % 16) (omega arith)) refl)

octets-visible : (v : List ℕ) → All (λ b. b < 2 ^ 8) v → visible (flat_map quoted_octet v) ≡ true
octets-visible [] h = refl
octets-visible (b ∷ v) h =
    ap visible (flat_map-cons quoted_octet b v)
    ∙ both (quoted_octet b) (flat_map quoted_octet v) (kind-visible (is_plain b) b refl (All-head (λ n. n < 2 ^ 8) b v h)) (octets-visible v (All-tail (λ n. n < 2 ^ 8) b v h))

pub quoted-visible : (v : List ℕ) → All (λ b. b < 2 ^ 8) v → visible (quoted v) ≡ true
quoted-visible [] h = refl
quoted-visible (b ∷ v) h = octets-visible (b ∷ v) h

abbrev joined : List ℕ → List ℕ
joined v = (44 ∷ []) ++ quoted v

more-visible : (vs : List (List ℕ)) → All (λ v. All (λ b. b < 2 ^ 8) v) vs → visible (flat_map joined vs) ≡ true
more-visible [] h = refl
more-visible (v ∷ vs) h =
    ap visible (flat_map-cons joined v vs)
    ∙ both (quoted v) (flat_map joined vs) (quoted-visible v (All-head (λ w. All (λ b. b < 2 ^ 8) w) v vs h)) (more-visible vs (All-tail (λ w. All (λ b. b < 2 ^ 8) w) v vs h))

pub list-visible : (vs : List (List ℕ)) → All (λ v. All (λ b. b < 2 ^ 8) v) vs → visible (quoted_list vs) ≡ true
list-visible [] h = refl
list-visible (v ∷ vs) h = both (quoted v) (flat_map joined vs) (quoted-visible v (All-head (λ w. All (λ b. b < 2 ^ 8) w) v vs h)) (more-visible vs (All-tail (λ w. All (λ b. b < 2 ^ 8) w) v vs h))

-- ---- fields with one space between

pub fields-joined : (f : List ℕ) (fs : List (List ℕ)) → list_all visible (f ∷ fs) ≡ true → between 32 (join_with_byte 32 (f ∷ fs)) ≡ f ∷ fs
fields-joined f [] e =
    let p = and_parts (visible f) true e in
    between-whole 32 f (visible-lacks 32 f (omega arith) p.0)
fields-joined f (g ∷ fs) e =
    let p = and_parts (visible f) (list_all visible (g ∷ fs)) e in
    between-cut 32 (join_with_byte 32 (f ∷ g ∷ fs)) f (join_with_byte 32 (g ∷ fs)) refl (visible-lacks 32 f (omega arith) p.0)
    ∙ ap (λ (r : List (List ℕ)). f ∷ r) (fields-joined g fs p.1)

pub no_line_feed : (fs : List (List ℕ)) → list_all visible fs ≡ true → Lacks 10 (join_with_byte 32 fs)
no_line_feed [] e = λ k d lt. absurd (omega (arith, lt))
no_line_feed (f ∷ []) e = let p = and_parts (visible f) true e in visible-lacks 10 f (omega arith) p.0
no_line_feed (f ∷ g ∷ fs) e =
    let p = and_parts (visible f) (list_all visible (g ∷ fs)) e in
    lacks-append 10 f (32 ∷ join_with_byte 32 (g ∷ fs)) (visible-lacks 10 f (omega arith) p.0)
    (All-cons (λ b. (b == 10) ≡ false) 32 (join_with_byte 32 (g ∷ fs)) refl (no_line_feed (g ∷ fs) p.1))
