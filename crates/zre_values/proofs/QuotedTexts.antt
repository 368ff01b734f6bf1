-- Each text is the quoted text of some octets at most.
use Rattle.std.proofs.Common.{◌≡◌, ℕ, ◌/◌, ◌%◌, ◌<◌, ◌^◌, Bool, true, false, cond, List, [], ◌∷◌, ◌++◌, length, get_or, drop, refl, sym, ap, ◌∙◌, append_assoc, arith, All}
use Rattle.std.specs.Prelude.{flat_map}
use Rattle.std.proofs.lemmas.Bool.Decides.{nat_tests}
use Rattle.std.proofs.lemmas.List.{append-nil, nil_from_length}
use Rattle.std.proofs.lemmas.List.Concat.{flat_map-cons, flat_map-append}
use Rattle.std.proofs.lemmas.List.Elements.{All-head, All-tail}
use Rattle.std.specs.List.{list_all}
use Rattle.std.proofs.lemmas.List.Sums.{AllPass-from_list_all}
use Rattle.zre_values.specs.Text.{hex_digit, is_plain, quoted_octet, quoted}

hex_digit-one : (m n : ℕ) → m < 16 → n < 16 → hex_digit m ≡ hex_digit n → m ≡ n
hex_digit-one m n p q e = grind (arith, nat_tests, e)

pub heads : (x y : ℕ) (a b : List ℕ) → x ∷ a ≡ y ∷ b → (x ≡ y) × (a ≡ b)
heads x y a b e = (ap (λ l. get_or l 0 0) e, ap (drop 1) e)

-- the quoted text of an octet, by whether the octet stands for itself
abbrev by_kind : Bool → ℕ → List ℕ
by_kind plain b = cond plain (b ∷ []) (37 ∷ hex_digit (b / 16) ∷ hex_digit (b % 16) ∷ [])

kinds : (p q : Bool) (b c : ℕ) (r s : List ℕ) → is_plain b ≡ p → is_plain c ≡ q → b < 2 ^ 8 → c < 2 ^ 8 → by_kind p b ++ r ≡ by_kind q c ++ s → (b ≡ c) × (r ≡ s)
kinds true true b c r s ep eq lb lc e = heads b c r s e
kinds true false b c r s ep eq lb lc e =
    let first : b ≡ 37 = (heads b 37 r _ e).0 in
    let p : is_plain 37 ≡ true = ap is_plain (sym first) ∙ ep in absurd cc
kinds false true b c r s ep eq lb lc e =
    let first : 37 ≡ c = (heads 37 c _ s e).0 in
    let p : is_plain 37 ≡ true = ap is_plain first ∙ eq in absurd cc
kinds false false b c r s ep eq lb lc e =
    let h = heads 37 37 (hex_digit (b / 16) ∷ hex_digit (b % 16) ∷ r) (hex_digit (c / 16) ∷ hex_digit (c % 16) ∷ s) e in
    let high = heads (hex_digit (b / 16)) (hex_digit (c / 16)) (hex_digit (b % 16) ∷ r) (hex_digit (c % 16) ∷ s) h.1 in
    let low = heads (hex_digit (b % 16)) (hex_digit (c % 16)) r s high.1 in
    let m = hex_digit-one (b / 16) (c / 16) (omega (arith, lb)) (omega (arith, lc)) high.0 in
    let n = hex_digit-one (b % 16) (c % 16) (omega arith) (omega arith) low.0 in
    (omega (arith, m, n), low.1)

-- the octet whose quoted text stands at the front
pub octet-front : (b c : ℕ) (r s : List ℕ) → b < 2 ^ 8 → c < 2 ^ 8 → quoted_octet b ++ r ≡ quoted_octet c ++ s → (b ≡ c) × (r ≡ s)
octet-front b c r s lb lc e = kinds (is_plain b) (is_plain c) b c r s refl refl lb lc e

kind_some : (p : Bool) (b : ℕ) (r : List ℕ) → by_kind p b ++ r ≡ [] → ⊥
kind_some true b r e = cc
kind_some false b r e = cc

-- no octets but none have no text
pub flat-nil : (v : List ℕ) → flat_map quoted_octet v ≡ [] → v ≡ []
flat-nil [] e = refl
flat-nil (b ∷ v) e = absurd (kind_some (is_plain b) b (flat_map quoted_octet v) (sym (flat_map-cons quoted_octet b v) ∙ e))

-- v begins with u, and what stands after that has the text r
pub record After (u v r : List ℕ) : Type 0 where
  pub others : List ℕ
  pub parts : v ≡ u ++ others
  pub octets : All (λ b. b < 2 ^ 8) others
  pub text : r ≡ flat_map quoted_octet others

pub later : (u v r : List ℕ) → All (λ b. b < 2 ^ 8) u → All (λ b. b < 2 ^ 8) v → flat_map quoted_octet u ++ r ≡ flat_map quoted_octet v → After u v r
later [] v r fu fv e = record { others = v; parts = refl; octets = fv; text = e }
later (b ∷ u) [] r fu fv e =
    absurd (kind_some (is_plain b) b (flat_map quoted_octet u ++ r) (sym (append_assoc (quoted_octet b) (flat_map quoted_octet u) r) ∙ ap (λ (t : List ℕ). t ++ r) (sym (flat_map-cons quoted_octet b u)) ∙ e))
later (b ∷ u) (c ∷ v) r fu fv e =
    let cut : quoted_octet b ++ (flat_map quoted_octet u ++ r) ≡ quoted_octet c ++ flat_map quoted_octet v =
    sym (append_assoc (quoted_octet b) (flat_map quoted_octet u) r) ∙ ap (λ (t : List ℕ). t ++ r) (sym (flat_map-cons quoted_octet b u)) ∙ e ∙ flat_map-cons quoted_octet c v in
    let p = octet-front b c (flat_map quoted_octet u ++ r) (flat_map quoted_octet v) (All-head (λ b. b < 2 ^ 8) b u fu) (All-head (λ b. b < 2 ^ 8) c v fv) cut in
    let w = later u v r (All-tail (λ b. b < 2 ^ 8) b u fu) (All-tail (λ b. b < 2 ^ 8) c v fv) p.1 in
    record { others = w.others; parts = ap (λ (x : ℕ). x ∷ v) (sym p.0) ∙ ap (λ (t : List ℕ). b ∷ t) w.parts; octets = w.octets; text = w.text }

-- octets have their text alone
pub flat-one : (u v : List ℕ) → All (λ b. b < 2 ^ 8) u → All (λ b. b < 2 ^ 8) v → flat_map quoted_octet u ≡ flat_map quoted_octet v → v ≡ u
flat-one u v fu fv e =
    let w = later u v [] fu fv (append-nil (flat_map quoted_octet u) ∙ e) in
    w.parts ∙ ap (λ (t : List ℕ). u ++ t) (flat-nil w.others (sym w.text)) ∙ append-nil u

-- one more octet, whose text stands at the front of what stood after the text of the others
pub one-more : (o grown : List ℕ) (b : ℕ) (rest later text : List ℕ) → grown ≡ o ++ (b ∷ []) → rest ≡ quoted_octet b ++ later → flat_map quoted_octet o ++ rest ≡ text → flat_map quoted_octet grown ++ later ≡ text
one-more o grown b rest later text is front so_far =
    ap (λ (l : List ℕ). flat_map quoted_octet l ++ later) is
    ∙ ap (λ (t : List ℕ). t ++ later) (flat_map-append quoted_octet o (b ∷ []))
    ∙ append_assoc (flat_map quoted_octet o) (flat_map quoted_octet (b ∷ [])) later
    ∙ ap (λ (t : List ℕ). flat_map quoted_octet o ++ (t ++ later)) (flat_map-cons quoted_octet b [] ∙ append-nil (quoted_octet b))
    ∙ ap (λ (t : List ℕ). flat_map quoted_octet o ++ t) (sym front)
    ∙ so_far

no_tilde : (p : Bool) (b : ℕ) (r : List ℕ) → is_plain b ≡ p → by_kind p b ++ r ≡ 126 ∷ [] → ⊥
no_tilde true b r plain e = let p : is_plain 126 ≡ true = ap is_plain (sym (heads b 126 r [] e).0) ∙ plain in cc
no_tilde false b r plain e = let first = (heads 37 126 _ [] e).0 in absurd (omega (arith, first))

some_text : (b : ℕ) (v : List ℕ) → 126 ∷ [] ≡ flat_map quoted_octet (b ∷ v) → ⊥
some_text b v e = no_tilde (is_plain b) b (flat_map quoted_octet v) refl (sym (e ∙ flat_map-cons quoted_octet b v))

-- octets have their quoted text alone
pub quoted-one : (u v : List ℕ) → All (λ b. b < 2 ^ 8) u → All (λ b. b < 2 ^ 8) v → quoted u ≡ quoted v → v ≡ u
quoted-one [] [] fu fv e = refl
quoted-one [] (c ∷ v) fu fv e = absurd (some_text c v e)
quoted-one (b ∷ u) [] fu fv e = absurd (some_text b u (sym e))
quoted-one (b ∷ u) (c ∷ v) fu fv e = flat-one (b ∷ u) (c ∷ v) fu fv e

-- one more octet stands at the front of a text
pub record Next (r : List ℕ) : Type 0 where
  pub octet : ℕ
  pub others : List ℕ
  pub octet_fits : octet < 2 ^ 8
  pub text : r ≡ quoted_octet octet ++ others

first_of_some : (w r : List ℕ) → All (λ b. b < 2 ^ 8) w → r ≡ flat_map quoted_octet w → 0 < length r → Next r
first_of_some [] r fw e some = let none : length r ≡ 0 = ap length e in absurd (omega (arith, none, some))
first_of_some (b ∷ w) r fw e some = record { octet = b; others = flat_map quoted_octet w; octet_fits = All-head (λ b. b < 2 ^ 8) b w fw; text = e ∙ flat_map-cons quoted_octet b w }

-- what is left of the text of octets begins with that of an octet
pub next : (u v r : List ℕ) → All (λ b. b < 2 ^ 8) u → All (λ b. b < 2 ^ 8) v → flat_map quoted_octet u ++ r ≡ flat_map quoted_octet v → 0 < length r → Next r
next u v r fu fv e some = let w = later u v r fu fv e in first_of_some w.others r w.octets w.text some

-- where nothing is left, the octets are those that were read
pub whole : (u v r : List ℕ) → All (λ b. b < 2 ^ 8) u → All (λ b. b < 2 ^ 8) v → flat_map quoted_octet u ++ r ≡ flat_map quoted_octet v → length r ≡ 0 → v ≡ u
whole u v r fu fv e none =
    let nil : r ≡ [] = nil_from_length r none in
    flat-one u v fu fv (sym (append-nil (flat_map quoted_octet u)) ∙ ap (λ (t : List ℕ). flat_map quoted_octet u ++ t) (sym nil) ∙ e)

-- one octet more was read
pub more : (u r s text : List ℕ) (b : ℕ) → r ≡ quoted_octet b ++ s → flat_map quoted_octet u ++ r ≡ text → flat_map quoted_octet (u ++ b ∷ []) ++ s ≡ text
more u r s text b e so_far =
    let one : flat_map quoted_octet (b ∷ []) ≡ quoted_octet b = flat_map-cons quoted_octet b [] ∙ append-nil (quoted_octet b) in
    ap (λ (t : List ℕ). t ++ s) (flat_map-append quoted_octet u (b ∷ []) ∙ ap (λ (t : List ℕ). flat_map quoted_octet u ++ t) one)
    ∙ append_assoc (flat_map quoted_octet u) (quoted_octet b) s ∙ ap (λ (t : List ℕ). flat_map quoted_octet u ++ t) (sym e) ∙ so_far

plain_fits : (b : ℕ) → is_plain b ≡ true → b < 2 ^ 8
plain_fits b e = grind (arith, nat_tests, e)

-- what stands for itself is an octet
pub plain-fits : (text : List ℕ) → list_all is_plain text ≡ true → All (λ b. b < 2 ^ 8) text
plain-fits text e k d lt = plain_fits (get_or text k d) (AllPass-from_list_all is_plain text e k d lt)
