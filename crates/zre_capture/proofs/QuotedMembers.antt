-- Lists of quoted members, and their parts.
use Rattle.std.proofs.Common.{length, ◌≡◌, ℕ, ◌/◌, ◌%◌, ◌<◌, ◌^◌, ◌==◌, ◌||◌, Bool, true, false, cond, List, [], ◌∷◌, ◌++◌, Option, Some, None, refl, sym, ap, ◌∙◌, arith, All, get_or}
use Rattle.std.specs.Prelude.{is_some, codes, flat_map, map, MatchOption}
use Rattle.std.specs.List.{list_all, list_any, join_with_byte}
use Rattle.std.specs.Str.{bytes_eq}
use Rattle.std.proofs.lemmas.Bool.{and_parts, and_from, ne_eqb, false_from_ne_true}
use Rattle.std.proofs.lemmas.Bool.Decides.{nat_tests}
use Rattle.std.proofs.lemmas.List.{append-nil}
use Rattle.std.proofs.lemmas.List.Concat.{flat_map-cons}
use Rattle.std.proofs.lemmas.List.Elements.{All-head, All-tail}
use Rattle.std.proofs.lemmas.List.Folds.{list_any-append}
use Rattle.std.proofs.lemmas.List.Sums.{AllPass-from_list_all}
use Rattle.std.proofs.lemmas.List.Splits.{slice_split_at, slice_split_none, join_with_byte-slice_split, length-slice_split}
use Rattle.std.proofs.lemmas.Slice.Eq.{bytes_eq-Decides}
use Rattle.zre_values.specs.Text.{hex_digit, is_plain, quoted_octet, quoted, quoted_list}
use Rattle.zre_capture.specs.Parts.{between}
use Rattle.zre_capture.specs.Values.{group_of, frames_of, unquoted, unquoted_list, are_octets, are_groups}
use Rattle.zre_capture.proofs.TextParts.{lacks-from_any}
use Rattle.zre_capture.proofs.FieldTexts.{IsTextOf, AreOctets, found, spelled-one, text_or_tested, group_of-quoted, octets-from, octets-true, value_there, some_is, none_spec}
use Rattle.zre_capture.proofs.UnquotedQuoted.{unquoted-quoted}

-- ---- octets that don't stand in quoted texts

pub digit_other : (o n : ℕ) → o < 48 → n < 16 → (hex_digit n == o) ≡ false
digit_other o n low lt = grind (arith, nat_tests)

-- not a plain octet, nor `%` or `~`, nor a digit
pub record IsOutside (o : ℕ) : Type 0 where
  pub not_plain : is_plain o ≡ false
  pub no_digit : (n : ℕ) → n < 16 → (hex_digit n == o) ≡ false
  pub not_percent : (o == 37) ≡ false
  pub not_tilde : (126 == o) ≡ false

plain_other : (o b : ℕ) → is_plain o ≡ false → is_plain b ≡ true → (b == o) ≡ false
plain_other o b isnt is = ne_eqb b o (λ same. let p : is_plain o ≡ true = ap is_plain (sym same) ∙ is in absurd cc)

percent_other : (o : ℕ) → (o == 37) ≡ false → (37 == o) ≡ false
percent_other o isnt = ne_eqb 37 o (λ same. let p : (o == 37) ≡ true = ap (λ (x : ℕ). x == 37) (sym same) in absurd cc)

abbrev by_kind : Bool → ℕ → List ℕ
by_kind p b = cond p (b ∷ []) (37 ∷ hex_digit (b / 16) ∷ hex_digit (b % 16) ∷ [])

kind_lacks : (p : Bool) (o b : ℕ) → IsOutside o → is_plain b ≡ p → b < 2 ^ 8 → list_any (λ x. x == o) (by_kind p b) ≡ false
kind_lacks true o b is e lt = rw (plain_other o b is.not_plain e) refl
kind_lacks false o b is e lt =
    rw (percent_other o is.not_percent, is.no_digit (b / 16) (omega (arith, lt)), is.no_digit (b % 16) (omega arith)) refl

octets-lack : (o : ℕ) (v : List ℕ) → IsOutside o → All (λ b. b < 2 ^ 8) v → list_any (λ x. x == o) (flat_map quoted_octet v) ≡ false
octets-lack o [] is h = refl
octets-lack o (b ∷ v) is h =
    ap (list_any (λ x. x == o)) (flat_map-cons quoted_octet b v) ∙ list_any-append (λ x. x == o) (quoted_octet b) (flat_map quoted_octet v)
    ∙ rw (kind_lacks (is_plain b) o b is refl (All-head (λ n. n < 2 ^ 8) b v h), octets-lack o v is (All-tail (λ n. n < 2 ^ 8) b v h)) refl

pub quoted-lacks : (o : ℕ) (v : List ℕ) → IsOutside o → All (λ b. b < 2 ^ 8) v → list_any (λ x. x == o) (quoted v) ≡ false
quoted-lacks o [] is h = rw is.not_tilde refl
quoted-lacks o (b ∷ v) is h = octets-lack o (b ∷ v) is h

pub comma : IsOutside 44
comma = record { not_plain = refl; no_digit = λ n lt. digit_other 44 n (omega arith) lt; not_percent = refl; not_tilde = refl }

equal_sign : (n : ℕ) → n < 16 → (hex_digit n == 61) ≡ false
equal_sign n lt = grind (arith, nat_tests)

pub equals : IsOutside 61
equals = record { not_plain = refl; no_digit = equal_sign; not_percent = refl; not_tilde = refl }

pub space : IsOutside 32
space = record { not_plain = refl; no_digit = λ n lt. digit_other 32 n (omega arith) lt; not_percent = refl; not_tilde = refl }

pub line_feed : IsOutside 10
line_feed = record { not_plain = refl; no_digit = λ n lt. digit_other 10 n (omega arith) lt; not_percent = refl; not_tilde = refl }

-- ---- lists

abbrev good : List ℕ → Bool
good member = is_some (group_of member)

abbrev joined : List ℕ → List ℕ
joined v = (44 ∷ []) ++ quoted v

-- quoted octets are read back, one by one
after_first : (vs : List (List ℕ)) (x : List ℕ) → All (λ v. All (λ b. b < 2 ^ 8) v) (x ∷ vs) → between 44 (quoted x ++ flat_map joined vs) ≡ quoted x ∷ map quoted vs
after_first [] x h =
    ap (between 44) (append-nil (quoted x)) ∙ slice_split_none (λ b. b == 44) (quoted x) (lacks-from_any 44 (quoted x) (quoted-lacks 44 x comma (All-head (λ v. All (λ b. b < 2 ^ 8) v) x [] h)))
after_first (y ∷ vs) x h =
    let tail = All-tail (λ v. All (λ b. b < 2 ^ 8) v) x (y ∷ vs) h in
    ap (λ (r : List ℕ). between 44 (quoted x ++ r)) (flat_map-cons joined y vs)
    ∙ slice_split_at (λ b. b == 44) (quoted x) 44 (quoted y ++ flat_map joined vs) (lacks-from_any 44 (quoted x) (quoted-lacks 44 x comma (All-head (λ v. All (λ b. b < 2 ^ 8) v) x (y ∷ vs) h))) refl
    ∙ ap (λ (r : List (List ℕ)). quoted x ∷ r) (after_first vs y tail)

unquoted-all : (vs : List (List ℕ)) → All (λ v. All (λ b. b < 2 ^ 8) v) vs → map unquoted (map quoted vs) ≡ vs
unquoted-all [] h = refl
unquoted-all (v ∷ vs) h =
    ap (λ (w : List ℕ). w ∷ map unquoted (map quoted vs)) (unquoted-quoted v (All-head (λ w. All (λ b. b < 2 ^ 8) w) v vs h))
    ∙ ap (λ (r : List (List ℕ)). v ∷ r) (unquoted-all vs (All-tail (λ w. All (λ b. b < 2 ^ 8) w) v vs h))

good-all : (vs : List (List ℕ)) → All (λ v. All (λ b. b < 2 ^ 8) v) vs → list_all good (map quoted vs) ≡ true
good-all [] h = refl
good-all (v ∷ vs) h = and_from (good (quoted v)) _ (some_is _ v (group_of-quoted v (All-head (λ w. All (λ b. b < 2 ^ 8) w) v vs h))) (good-all vs (All-tail (λ w. All (λ b. b < 2 ^ 8) w) v vs h))

octets-all : (vs : List (List ℕ)) → All (λ v. All (λ b. b < 2 ^ 8) v) vs → list_all are_octets vs ≡ true
octets-all [] h = refl
octets-all (v ∷ vs) h = and_from _ _ (octets-from v (All-head (λ w. All (λ b. b < 2 ^ 8) w) v vs h)) (octets-all vs (All-tail (λ w. All (λ b. b < 2 ^ 8) w) v vs h))

all-octets : (vs : List (List ℕ)) → list_all are_octets vs ≡ true → All (λ v. All (λ b. b < 2 ^ 8) v) vs
all-octets vs e = λ k d lt. octets-true (get_or vs k d) (AllPass-from_list_all are_octets vs e k d lt)

no_group : list_all good (between 44 (codes "%")) ≡ false
unfolding group_of
no_group = refl

-- a list of one member and more isn't `%`
percent_alone : (text : List ℕ) → text ≡ codes "%" → list_all good (between 44 text) ≡ false
percent_alone text e = ap (λ (t : List ℕ). list_all good (between 44 t)) e ∙ no_group

not_percent : (x : List ℕ) (vs : List (List ℕ)) → All (λ v. All (λ b. b < 2 ^ 8) v) (x ∷ vs) → bytes_eq (quoted_list (x ∷ vs)) (codes "%") ≡ false
not_percent x vs h = false_from_ne_true _ (λ is.
    let same : quoted_list (x ∷ vs) ≡ codes "%" = (bytes_eq-Decides (quoted_list (x ∷ vs)) (codes "%")).0 is in
    let yes : list_all good (between 44 (quoted_list (x ∷ vs))) ≡ true = ap (list_all good) (after_first vs x h) ∙ good-all (x ∷ vs) h in
    let no = percent_alone (quoted_list (x ∷ vs)) same in
    absurd cc)

-- frames are read back
unquoted-list : (vs : List (List ℕ)) → All (λ v. All (λ b. b < 2 ^ 8) v) vs → unquoted_list (quoted_list vs) ≡ vs
unquoted-list [] h = refl
unquoted-list (x ∷ vs) h = rw (not_percent x vs h) (ap (map unquoted) (after_first vs x h) ∙ unquoted-all (x ∷ vs) h)

pub frames_of-list : (vs : List (List ℕ)) → All (λ v. All (λ b. b < 2 ^ 8) v) vs → frames_of (quoted_list vs) ≡ Some vs
unfolding frames_of
frames_of-list vs h =
    let same = unquoted-list vs h in
    spelled-one quoted_list _ (unquoted_list (quoted_list vs)) (quoted_list vs) vs same (ap (list_all are_octets) same ∙ octets-all vs h) refl

pub frames_of-some : (field : List ℕ) (vs : List (List ℕ)) → frames_of field ≡ Some vs → IsTextOf (All AreOctets) quoted_list vs field
unfolding frames_of
frames_of-some field vs e =
    let f = found quoted_list _ (unquoted_list field) field vs e in
    record { is = all-octets vs (ap (list_all are_octets) (sym f.same) ∙ f.is_valid); text = f.spelled }

-- ---- the test that takes no value out

group-again : (t v : List ℕ) → group_of t ≡ Some v → quoted (unquoted t) ≡ t
unfolding group_of
group-again t v e = let f = found quoted _ (unquoted t) t v e in ap quoted f.same ∙ f.spelled

group-fits : (t v : List ℕ) → group_of t ≡ Some v → are_octets (unquoted t) ≡ true
unfolding group_of
group-fits t v e = (found quoted _ (unquoted t) t v e).is_valid

-- good members and their list
texts-joined : (t : List ℕ) (ts : List (List ℕ)) → list_all good (t ∷ ts) ≡ true → quoted_list (map unquoted (t ∷ ts)) ≡ join_with_byte 44 (t ∷ ts)
texts-joined t [] e =
    let p = and_parts (good t) true e in
    let v = value_there (group_of t) p.0 in
    append-nil (quoted (unquoted t)) ∙ group-again t v.0 v.1
texts-joined t (s ∷ ts) e =
    let p = and_parts (good t) (list_all good (s ∷ ts)) e in
    let v = value_there (group_of t) p.0 in
    ap (λ (r : List ℕ). quoted (unquoted t) ++ r) (flat_map-cons joined (unquoted s) (map unquoted ts))
    ∙ ap (λ (r : List ℕ). r ++ (44 ∷ quoted_list (map unquoted (s ∷ ts)))) (group-again t v.0 v.1)
    ∙ ap (λ (r : List ℕ). t ++ (44 ∷ r)) (texts-joined s ts p.1)

values-fit : (ts : List (List ℕ)) → list_all good ts ≡ true → list_all are_octets (map unquoted ts) ≡ true
values-fit [] e = refl
values-fit (t ∷ ts) e =
    let p = and_parts (good t) (list_all good ts) e in
    let v = value_there (group_of t) p.0 in
    and_from _ _ (group-fits t v.0 v.1) (values-fit ts p.1)

-- the parts of a text are some
list-of_parts : (field : List ℕ) (parts : List (List ℕ)) → between 44 field ≡ parts → 0 < length parts → list_all good parts ≡ true → quoted_list (map unquoted parts) ≡ field
list-of_parts field [] e some ok = absurd (omega (arith, some))
list-of_parts field (t ∷ ts) e some ok = texts-joined t ts ok ∙ ap (join_with_byte 44) (sym e) ∙ join_with_byte-slice_split 44 field

pub members-frames : (field : List ℕ) → list_all good (between 44 field) ≡ true → frames_of field ≡ Some (map unquoted (between 44 field))
unfolding frames_of
members-frames field e =
    let other : bytes_eq field (codes "%") ≡ false = false_from_ne_true _ (λ is. let alone = percent_alone field ((bytes_eq-Decides field (codes "%")).0 is) in absurd cc) in
    let same : unquoted_list field ≡ map unquoted (between 44 field) = rw other refl in
    let some : 0 < length (between 44 field) = omega (arith, length-slice_split (λ b. b == 44) field) in
    spelled-one quoted_list _ (unquoted_list field) field (map unquoted (between 44 field)) same (ap (list_all are_octets) same ∙ values-fit (between 44 field) e) (list-of_parts field (between 44 field) refl some e)

pub frames-members : (field : List ℕ) (vs : List (List ℕ)) → frames_of field ≡ Some vs → (field ≡ codes "%" → ⊥) → list_all good (between 44 field) ≡ true
frames-members field [] e other = let t = frames_of-some field [] e in absurd (other (sym t.text))
frames-members field (x ∷ vs) e other =
    let t = frames_of-some field (x ∷ vs) e in
    ap (λ (f : List ℕ). list_all good (between 44 f)) (sym t.text) ∙ ap (list_all good) (after_first vs x t.is) ∙ good-all (x ∷ vs) t.is

pub frames_of-percent : frames_of (codes "%") ≡ Some []
frames_of-percent = frames_of-list [] (λ k d lt. absurd (omega (arith, lt)))

pub frames_test : (field : List ℕ) → is_some (frames_of field) ≡ (bytes_eq field (codes "%") || are_groups (between 44 field))
frames_test field =
    text_or_tested frames_of (codes "%") [] (are_groups (between 44 field)) field frames_of-percent
    (λ is. some_is (frames_of field) (map unquoted (between 44 field)) (members-frames field is)) (frames-members field)

-- a list with a member that is none, where it isn't `%`
pub no_frames : (field : List ℕ) → (field ≡ codes "%" → ⊥) → list_all good (between 44 field) ≡ false → frames_of field ≡ None
no_frames field other isnt =
    sym (none_spec (frames_of field) (λ vs e. let yes = frames-members field vs e other in absurd cc))

pub group_of-unquoted : (field v : List ℕ) → group_of field ≡ Some v → unquoted field ≡ v
unfolding group_of
group_of-unquoted field v e = (found quoted _ (unquoted field) field v e).same

pub members_found : (field : List ℕ) (found : Option (List (List ℕ))) → (field ≡ codes "%" → ⊥)
    → MatchOption found (are_groups (between 44 field) ≡ false) (λ members. (are_groups (between 44 field) ≡ true) × (members ≡ map unquoted (between 44 field)))
    → found ≡ frames_of field
members_found field None other isnt = sym (no_frames field other isnt)
members_found field (Some members) other read = ap (λ (vs : List (List ℕ)). Some vs) read.1 ∙ sym (members-frames field read.0)
