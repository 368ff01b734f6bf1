-- The lengths of quoted texts.
use Rattle.std.proofs.Common.{subst, ◌≡◌, ℕ, ◌+◌, ◌*◌, ◌/◌, ◌%◌, ◌<◌, ◌^◌, ◌==◌, ◌&&◌, leb, Bool, true, false, cond, List, [], ◌∷◌, ◌++◌, length, Option, Some, None, refl, sym, ap, ◌∙◌, arith, All}
use Rattle.std.specs.Prelude.{codes, flat_map, is_some, option_map}
use Rattle.std.specs.List.{count_by}
use Rattle.std.specs.Str.{bytes_eq}
use Rattle.std.proofs.lemmas.Bool.{and_parts, and_from}
use Rattle.std.proofs.lemmas.List.Concat.{flat_map-cons}
use Rattle.std.proofs.lemmas.List.Elements.{All-head, All-tail}
use Rattle.std.proofs.lemmas.List.Sums.{sum_by-cons}
use Rattle.zre_values.specs.Text.{hex_digit, is_plain, quoted_octet, quoted}
use Rattle.zre_capture.specs.Values.{are_octets, unquoted, group_of, short_of}
use Rattle.zre_capture.proofs.QuotedMembers.{digit_other}
use Rattle.zre_capture.proofs.FieldTexts.{found, spelled-one, octets-true, octets-from, group_of-quoted, group_of-some}
use Rattle.zre_capture.proofs.UnquotedQuoted.{not_percent, unquoted-quoted}

abbrev percents : List ℕ → ℕ
percents t = count_by (λ b. b == 37) t

other_octet : (b : ℕ) (r : List ℕ) → (b == 37) ≡ false → percents (b ∷ r) ≡ percents r
other_octet b r e = rw e refl

percent_octet : (r : List ℕ) → percents (37 ∷ r) ≡ percents r + 1
percent_octet r = let one = sum_by-cons (λ b. cond (b == 37) 1 0) 37 r in omega (arith, one)

abbrev by_kind : Bool → ℕ → List ℕ
by_kind p b = cond p (b ∷ []) (37 ∷ hex_digit (b / 16) ∷ hex_digit (b % 16) ∷ [])

kind-length : (p : Bool) (b n : ℕ) (r : List ℕ) → is_plain b ≡ p → b < 2 ^ 8 → length r ≡ n + 2 * percents r → length (by_kind p b ++ r) ≡ n + 1 + 2 * percents (by_kind p b ++ r)
kind-length true b n r e lt h = let same = other_octet b r (not_percent b e) in omega (arith, same, h)
kind-length false b n r e lt h =
    let low = other_octet (hex_digit (b % 16)) r (digit_other 37 (b % 16) (omega arith) (omega arith)) in
    let high = other_octet (hex_digit (b / 16)) (hex_digit (b % 16) ∷ r) (digit_other 37 (b / 16) (omega arith) (omega (arith, lt))) in
    let first = percent_octet (hex_digit (b / 16) ∷ hex_digit (b % 16) ∷ r) in
    omega (arith, low, high, first, h)

octets-length : (v : List ℕ) → All (λ b. b < 2 ^ 8) v → length (flat_map quoted_octet v) ≡ length v + 2 * percents (flat_map quoted_octet v)
octets-length [] h = refl
octets-length (b ∷ v) h =
    let rest = octets-length v (All-tail (λ n. n < 2 ^ 8) b v h) in
    let one = kind-length (is_plain b) b (length v) (flat_map quoted_octet v) refl (All-head (λ n. n < 2 ^ 8) b v h) rest in
    let cut : flat_map quoted_octet (b ∷ v) ≡ quoted_octet b ++ flat_map quoted_octet v = flat_map-cons quoted_octet b v in
    rw cut (omega (arith, one))

-- the octets of a quoted text, but for that of none
pub len-some : (field v : List ℕ) → group_of field ≡ Some v → (field ≡ codes "~" → ⊥) → length field ≡ length v + 2 * count_by (λ b. b == 37) field
len-some field v e other = by v (group_of-some field v e).is (group_of-some field v e).text
  where
    by : (v : List ℕ) → All (λ b. b < 2 ^ 8) v → quoted v ≡ field → length field ≡ length v + 2 * percents field
    by [] is text = absurd (other (sym text))
    by (b ∷ v) is text = ap length (sym text) ∙ octets-length (b ∷ v) is ∙ ap (λ (f : List ℕ). length (b ∷ v) + 2 * percents f) text

pub len-tilde : (field : List ℕ) → field ≡ codes "~" → Some 0 ≡ option_map (λ v. length v) (group_of field)
len-tilde field e =
    let nothing : All (λ b. b < 2 ^ 8) [] = λ k d lt. absurd (omega (arith, lt)) in
    sym (ap (λ (f : List ℕ). option_map (λ (v : List ℕ). length v) (group_of f)) e ∙ ap (option_map (λ (v : List ℕ). length v)) (group_of-quoted [] nothing))

-- ---- few octets

limited : (u : List ℕ) (most : ℕ) (a l e : Bool) → leb (length u) most ≡ l → (r : Option ℕ) → r ≡ option_map (λ v. length v) (cond (a && e) (Some u) None)
    → cond (is_some r) l false ≡ is_some (cond ((a && l) && e) (Some u) None)
limited u most true true true h r e = rw e refl
limited u most true true false h r e = rw e refl
limited u most true false true h r e = rw e refl
limited u most true false false h r e = rw e refl
limited u most false true true h r e = rw e refl
limited u most false true false h r e = rw e refl
limited u most false false true h r e = rw e refl
limited u most false false false h r e = rw e refl

same_len : (u : List ℕ) (a : Bool) (n : ℕ) → Some n ≡ option_map (λ v. length v) (cond a (Some u) None) → n ≡ length u
same_len u true n e = cc
same_len u false n e = absurd cc

pub short-some : (most n : ℕ) (field : List ℕ) → Some n ≡ option_map (λ v. length v) (group_of field) → leb n most ≡ is_some (short_of most field)
unfolding group_of short_of
short-some most n field e =
    let u = unquoted field in
    let len : n ≡ length u = same_len u (are_octets u && bytes_eq (quoted u) field) n e in
    ap (λ (k : ℕ). leb k most) len ∙ limited u most (are_octets u) (leb (length u) most) (bytes_eq (quoted u) field) refl (Some n) e

pub short-none : (most : ℕ) (field : List ℕ) → None ≡ option_map (λ v. length v) (group_of field) → false ≡ is_some (short_of most field)
unfolding group_of short_of
short-none most field e =
    let u = unquoted field in
    limited u most (are_octets u) (leb (length u) most) (bytes_eq (quoted u) field) refl None e

named : (u : List ℕ) (a l e : Bool) → is_some (cond ((a && l) && e) (Some u) None) ≡ true → cond (a && e) (Some u) None ≡ cond ((a && l) && e) (Some u) None
named u true true true h = refl
named u true true false h = refl
named u true false true h = absurd cc
named u true false false h = absurd cc
named u false true true h = absurd cc
named u false true false h = absurd cc
named u false false true h = absurd cc
named u false false false h = absurd cc

-- a short text is a quoted text
pub short-group : (most : ℕ) (field : List ℕ) → is_some (short_of most field) ≡ true → group_of field ≡ short_of most field
unfolding group_of short_of
short-group most field e = let u = unquoted field in named u (are_octets u) (leb (length u) most) (bytes_eq (quoted u) field) e

-- ---- texts and their octets

pub record IsShortText (most : ℕ) (v field : List ℕ) : Type 0 where
  pub is : All (λ b. b < 2 ^ 8) v
  pub few : leb (length v) most ≡ true
  pub text : quoted v ≡ field
  pub same : unquoted field ≡ v

pub short_of-some : (most : ℕ) (field v : List ℕ) → short_of most field ≡ Some v → IsShortText most v field
unfolding short_of
short_of-some most field v e =
    let f = found quoted _ (unquoted field) field v e in
    let p = and_parts _ _ f.is_valid in
    record {
      is = subst (λ (o : List ℕ). All (λ b. b < 2 ^ 8) o) f.same (octets-true (unquoted field) p.0);
      few = ap (λ (o : List ℕ). leb (length o) most) (sym f.same) ∙ p.1;
      text = f.spelled;
      same = f.same;
    }

pub short-quoted : (most : ℕ) (v : List ℕ) → All (λ b. b < 2 ^ 8) v → leb (length v) most ≡ true → short_of most (quoted v) ≡ Some v
unfolding short_of
short-quoted most v is few =
    let same = unquoted-quoted v is in
    spelled-one quoted _ (unquoted (quoted v)) (quoted v) v same
    (ap (λ (o : List ℕ). are_octets o && leb (length o) most) same ∙ and_from _ _ (octets-from v is) few) refl
