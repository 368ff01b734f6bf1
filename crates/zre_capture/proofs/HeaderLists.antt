-- Lists of headers in their texts.
use Rattle.std.proofs.Common.{◌≡◌, ℕ, ◌+◌, ◌<◌, ◌^◌, ◌==◌, suc, subst, ◌&&◌, leb, ltb, Bool, true, false, List, [], ◌∷◌, ◌++◌, length, Option, Some, None, inl, inr, refl, sym, ap, ◌∙◌, arith, All, append_assoc}
use Rattle.std.specs.Prelude.{codes, flat_map, map, is_some, option_and_then}
use Rattle.std.specs.List.{list_all, list_any}
use Rattle.std.specs.Str.{bytes_eq}
use Rattle.std.proofs.lemmas.Bool.{and_parts, and_from, false_from_ne_true, cases_Bool}
use Rattle.std.proofs.lemmas.List.{append-nil, length-map}
use Rattle.std.proofs.lemmas.List.Concat.{flat_map-cons}
use Rattle.std.proofs.lemmas.List.Elements.{All-head, All-tail, All-cons}
use Rattle.std.proofs.lemmas.List.Folds.{list_any-append, list_all-append}
use Rattle.std.proofs.lemmas.Option.{same_Some}
use Rattle.std.proofs.lemmas.Slice.Eq.{bytes_eq-Decides}
use Rattle.zre_values.specs.Settings.{are_apart, is_fitting}
use Rattle.zre_values.specs.Text.{quoted, quoted_pair, quoted_pairs}
use Rattle.zre_capture.specs.Headers.{header_in, header_of, headers_in, first_part, name_in, have_name, are_named_apart, are_listed, headers_of, with_more}
use Rattle.zre_capture.specs.Heads.{IsHeader}
use Rattle.zre_capture.specs.Parts.{between, two}
use Rattle.zre_capture.specs.Values.{short_of, unquoted}
use Rattle.zre_capture.proofs.QuotedLengths.{short_of-some, short-quoted}
use Rattle.zre_capture.proofs.QuotedMembers.{quoted-lacks, comma, equals}
use Rattle.zre_capture.proofs.TextParts.{between-cut, between-whole, lacks-from_any}
use Rattle.zre_capture.proofs.ReadIsSpelled.{stepped}
use Rattle.zre_capture.proofs.UnquotedQuoted.{unquoted-quoted}
use Rattle.zre_capture.proofs.VisibleFields.{visible, is_visible, quoted-visible}

-- ---- one member after the other

-- the names of headers, quoted, are those of members
abbrev pub NamesAre : List (List ℕ) → List (List ℕ × List ℕ) → Type 0
NamesAre [] [] = Unit {0}
NamesAre (m ∷ ms) (h ∷ hs) = (name_in m ≡ quoted h.0) × NamesAre ms hs
NamesAre [] (h ∷ hs) = ⊥
NamesAre (m ∷ ms) [] = ⊥

-- a member that is a header, and others after it
pub good-member : (m : List ℕ) (ms : List (List ℕ)) (h : List ℕ × List ℕ) → header_of m ≡ Some h → headers_in (m ∷ ms) ≡ option_and_then (λ hs. Some (h ∷ hs)) (headers_in ms)
unfolding headers_in
good-member m ms h e = rw e refl

pub bad-member : (m : List ℕ) (ms : List (List ℕ)) → header_of m ≡ None → headers_in (m ∷ ms) ≡ None
unfolding headers_in
bad-member m ms e = rw e refl

some_more : (h : List ℕ × List ℕ) (o : Option (List (List ℕ × List ℕ))) → is_some (option_and_then (λ hs. Some (h ∷ hs)) o) ≡ is_some o
some_more h None = refl
some_more h (Some hs) = refl

header_there : (o : Option (List ℕ × List ℕ)) → is_some o ≡ true → (h : List ℕ × List ℕ) × (o ≡ Some h)
header_there (Some h) e = (h, refl)
header_there None e = absurd cc

pub no_header : (o : Option (List ℕ × List ℕ)) → is_some o ≡ false → o ≡ None
no_header None e = refl
no_header (Some h) e = absurd cc

-- they are headers where the first is one, and those after it are
pub some_headers : (m : List ℕ) (ms : List (List ℕ)) → is_some (headers_in (m ∷ ms)) ≡ (is_some (header_of m) && is_some (headers_in ms))
some_headers m ms =
    elim (cases_Bool (is_some (header_of m))) [
      | inl ok ↦ let h = header_there (header_of m) ok in ap is_some (good-member m ms h.0 h.1) ∙ some_more h.0 (headers_in ms) ∙ sym (rw ok refl)
      | inr bad ↦ ap is_some (bad-member m ms (no_header (header_of m) bad)) ∙ sym (rw bad refl)
    ]

pub none_in : headers_in [] ≡ Some []
unfolding headers_in
none_in = refl

one_more : (hs : List (List ℕ × List ℕ)) (h : List ℕ × List ℕ) (o : Option (List (List ℕ × List ℕ))) → with_more hs (option_and_then (λ gs. Some (h ∷ gs)) o) ≡ with_more (hs ++ h ∷ []) o
one_more hs h None = refl
one_more hs h (Some gs) = ap (λ (l : List (List ℕ × List ℕ)). Some l) (sym (append_assoc hs (h ∷ []) gs))

pub with_none : (o : Option (List (List ℕ × List ℕ))) → with_more [] o ≡ o
with_none None = refl
with_none (Some gs) = refl

pub header_pushed : (hs new : List (List ℕ × List ℕ)) (m : List ℕ) (ms : List (List ℕ)) (h : List ℕ × List ℕ) → header_of m ≡ Some h → new ≡ hs ++ h ∷ [] → with_more hs (headers_in (m ∷ ms)) ≡ with_more new (headers_in ms)
header_pushed hs new m ms h is grown =
    ap (with_more hs) (good-member m ms h is) ∙ one_more hs h (headers_in ms) ∙ ap (λ (l : List (List ℕ × List ℕ)). with_more l (headers_in ms)) (sym grown)

pub no_header_pushed : (hs : List (List ℕ × List ℕ)) (m : List ℕ) (ms : List (List ℕ)) → header_of m ≡ None → with_more hs (headers_in (m ∷ ms)) ≡ None
no_header_pushed hs m ms none = ap (with_more hs) (bad-member m ms none)

-- all that were read
pub all_read : (hs : List (List ℕ × List ℕ)) → with_more hs (headers_in []) ≡ Some hs
all_read hs = ap (with_more hs) none_in ∙ ap (λ (l : List (List ℕ × List ℕ)). Some l) (append-nil hs)

-- ---- names

pub name_first : (ps : List (List ℕ)) (n : List ℕ) (more : List (List ℕ)) → ps ≡ n ∷ more → n ≡ first_part ps
name_first ps n more e = sym (ap first_part e)

pub few-test : (n m : ℕ) → m ≡ n + 1 → ltb n 256 ≡ leb m 256
few-test n m e = let same : suc n ≡ m = omega (arith, e) in ap (λ (k : ℕ). leb k 256) same

-- ---- headers are read back from their texts

pair-cut : (h : List ℕ × List ℕ) → IsHeader h → between 61 (quoted_pair h) ≡ quoted h.0 ∷ quoted h.1 ∷ []
pair-cut h is =
    between-cut 61 (quoted_pair h) (quoted h.0) (quoted h.1) refl (lacks-from_any 61 (quoted h.0) (quoted-lacks 61 h.0 equals is.0))
    ∙ ap (λ (r : List (List ℕ)). quoted h.0 ∷ r) (between-whole 61 (quoted h.1) (lacks-from_any 61 (quoted h.1) (quoted-lacks 61 h.1 equals is.1)))

header_in-quoted : (h : List ℕ × List ℕ) → IsHeader h → is_fitting h ≡ true → header_in (Some (quoted h.0, quoted h.1)) ≡ Some h
unfolding header_in
header_in-quoted h is fits =
    let p = and_parts (leb (length h.0) 255) (leb (length h.1) 1024) fits in
    rw (short-quoted 255 h.0 is.0 p.0, short-quoted 1024 h.1 is.1 p.1) refl

pub header_of-pair : (h : List ℕ × List ℕ) → IsHeader h → is_fitting h ≡ true → header_of (quoted_pair h) ≡ Some h
header_of-pair h is fits = ap (λ (ps : List (List ℕ)). header_in (two ps)) (pair-cut h is) ∙ header_in-quoted h is fits

pair-lacks : (h : List ℕ × List ℕ) → IsHeader h → list_any (λ b. b == 44) (quoted_pair h) ≡ false
pair-lacks h is =
    list_any-append (λ b. b == 44) (quoted h.0) (61 ∷ quoted h.1) ∙ rw (quoted-lacks 44 h.0 comma is.0, quoted-lacks 44 h.1 comma is.1) refl

abbrev joined : List ℕ × List ℕ → List ℕ
joined h = (44 ∷ []) ++ quoted_pair h

after_first : (hs : List (List ℕ × List ℕ)) (x : List ℕ × List ℕ) → All IsHeader (x ∷ hs) → between 44 (quoted_pair x ++ flat_map joined hs) ≡ quoted_pair x ∷ map quoted_pair hs
after_first [] x is =
    ap (between 44) (append-nil (quoted_pair x)) ∙ between-whole 44 (quoted_pair x) (lacks-from_any 44 (quoted_pair x) (pair-lacks x (All-head IsHeader x [] is)))
after_first (y ∷ hs) x is =
    ap (λ (r : List ℕ). between 44 (quoted_pair x ++ r)) (flat_map-cons joined y hs)
    ∙ between-cut 44 (quoted_pair x ++ (44 ∷ (quoted_pair y ++ flat_map joined hs))) (quoted_pair x) (quoted_pair y ++ flat_map joined hs) refl (lacks-from_any 44 (quoted_pair x) (pair-lacks x (All-head IsHeader x (y ∷ hs) is)))
    ∙ ap (λ (r : List (List ℕ)). quoted_pair x ∷ r) (after_first hs y (All-tail IsHeader x (y ∷ hs) is))

headers_in-pairs : (hs : List (List ℕ × List ℕ)) → All IsHeader hs → list_all is_fitting hs ≡ true → headers_in (map quoted_pair hs) ≡ Some hs
headers_in-pairs [] is fits = none_in
headers_in-pairs (h ∷ hs) is fits =
    let p = and_parts (is_fitting h) (list_all is_fitting hs) fits in
    good-member (quoted_pair h) (map quoted_pair hs) h (header_of-pair h (All-head IsHeader h hs is) p.0)
    ∙ ap (option_and_then (λ (gs : List (List ℕ × List ℕ)). Some (h ∷ gs))) (headers_in-pairs hs (All-tail IsHeader h hs is) p.1)

same-quoted : (a b : List ℕ) → All (λ n. n < 2 ^ 8) a → All (λ n. n < 2 ^ 8) b → bytes_eq (quoted a) (quoted b) ≡ bytes_eq a b
same-quoted a b fa fb =
    elim (cases_Bool (bytes_eq a b)) [
      | inl is ↦ (bytes_eq-Decides (quoted a) (quoted b)).1 (ap quoted ((bytes_eq-Decides a b).0 is)) ∙ sym is
      | inr isnt ↦ false_from_ne_true _ (λ same.
          let texts : quoted a ≡ quoted b = (bytes_eq-Decides (quoted a) (quoted b)).0 same in
          let octets : a ≡ b = sym (unquoted-quoted a fa) ∙ ap unquoted texts ∙ unquoted-quoted b fb in
          let yes : bytes_eq a b ≡ true = (bytes_eq-Decides a b).1 octets in
          absurd cc) ∙ sym isnt
    ]

have_name-same : (n : List ℕ) (ms : List (List ℕ)) (hs : List (List ℕ × List ℕ)) → All (λ b. b < 2 ^ 8) n → All IsHeader hs → NamesAre ms hs → have_name (quoted n) ms ≡ list_any (λ other. bytes_eq other.0 n) hs
have_name-same n [] [] fn is same = refl
have_name-same n (m ∷ ms) (h ∷ hs) fn is same =
    let head = All-head IsHeader h hs is in
    let rest = have_name-same n ms hs fn (All-tail IsHeader h hs is) same.1 in
    let first : bytes_eq (name_in m) (quoted n) ≡ bytes_eq h.0 n = ap (λ (t : List ℕ). bytes_eq t (quoted n)) same.0 ∙ same-quoted h.0 n head.0 fn in
    rw (first, rest) refl
have_name-same n [] (h ∷ hs) fn is same = absurd same
have_name-same n (m ∷ ms) [] fn is same = absurd same

pub apart-same : (ms : List (List ℕ)) (hs : List (List ℕ × List ℕ)) → All IsHeader hs → NamesAre ms hs → are_named_apart ms ≡ are_apart hs
apart-same [] [] is same = refl
apart-same (m ∷ ms) (h ∷ hs) is same =
    let head = All-head IsHeader h hs is in
    let tail = All-tail IsHeader h hs is in
    let rest = apart-same ms hs tail same.1 in
    let first : have_name (name_in m) ms ≡ list_any (λ other. bytes_eq other.0 h.0) hs = ap (λ (t : List ℕ). have_name t ms) same.0 ∙ have_name-same h.0 ms hs head.0 tail same.1 in
    rw (first, rest) refl
apart-same [] (h ∷ hs) is same = absurd same
apart-same (m ∷ ms) [] is same = absurd same

names-of_pairs : (hs : List (List ℕ × List ℕ)) → All IsHeader hs → NamesAre (map quoted_pair hs) hs
names-of_pairs [] is = tt
names-of_pairs (h ∷ hs) is = (ap first_part (pair-cut h (All-head IsHeader h hs is)), names-of_pairs hs (All-tail IsHeader h hs is))

no_percent : headers_in (between 44 (codes "%")) ≡ None
unfolding headers_in header_in
no_percent = refl

percent_alone : headers_of (codes "%") ≡ Some []
unfolding headers_of
percent_alone = refl

listed : (ms : List (List ℕ)) → leb (length ms) 256 ≡ true → are_named_apart ms ≡ true → are_listed ms ≡ true
listed ms p q = and_from (leb (length ms) 256) (are_named_apart ms) p q

some_pairs : (h : List ℕ × List ℕ) (hs : List (List ℕ × List ℕ)) → All IsHeader (h ∷ hs) → leb (length (h ∷ hs)) 256 ≡ true → are_apart (h ∷ hs) ≡ true
    → between 44 (quoted_pairs (h ∷ hs)) ≡ map quoted_pair (h ∷ hs) → headers_in (map quoted_pair (h ∷ hs)) ≡ Some (h ∷ hs) → headers_of (quoted_pairs (h ∷ hs)) ≡ Some (h ∷ hs)
unfolding headers_of
some_pairs h hs is few apart cut read =
    let other : bytes_eq (quoted_pairs (h ∷ hs)) (codes "%") ≡ false = false_from_ne_true _ (λ same.
    let text : quoted_pairs (h ∷ hs) ≡ codes "%" = (bytes_eq-Decides (quoted_pairs (h ∷ hs)) (codes "%")).0 same in
    let none : Some (h ∷ hs) ≡ None = sym read ∙ ap headers_in (sym cut) ∙ ap (λ (t : List ℕ). headers_in (between 44 t)) text ∙ no_percent in
    absurd cc) in
    let long : leb (length (map quoted_pair (h ∷ hs))) 256 ≡ true = ap (λ (n : ℕ). leb n 256) (length-map (h ∷ hs) quoted_pair) ∙ few in
    let names : are_named_apart (map quoted_pair (h ∷ hs)) ≡ true = apart-same (map quoted_pair (h ∷ hs)) (h ∷ hs) is (names-of_pairs (h ∷ hs) is) ∙ apart in
    let all : are_listed (between 44 (quoted_pairs (h ∷ hs))) ≡ true = ap (λ (ms : List (List ℕ)). are_listed ms) cut ∙ listed (map quoted_pair (h ∷ hs)) long names in
    rw (other, all) (ap headers_in cut ∙ read)

pub headers_of-pairs : (hs : List (List ℕ × List ℕ)) → All IsHeader hs → leb (length hs) 256 ≡ true → list_all is_fitting hs ≡ true → are_apart hs ≡ true → headers_of (quoted_pairs hs) ≡ Some hs
headers_of-pairs [] is few fits apart = percent_alone
headers_of-pairs (h ∷ hs) is few fits apart = some_pairs h hs is few apart (after_first hs h is) (headers_in-pairs (h ∷ hs) is fits)

pair-visible : (h : List ℕ × List ℕ) → IsHeader h → visible (quoted_pair h) ≡ true
pair-visible h is = list_all-append is_visible (quoted h.0) (61 ∷ quoted h.1) ∙ and_from _ _ (quoted-visible h.0 is.0) (and_from true (visible (quoted h.1)) refl (quoted-visible h.1 is.1))

more-visible : (hs : List (List ℕ × List ℕ)) → All IsHeader hs → visible (flat_map joined hs) ≡ true
more-visible [] is = refl
more-visible (h ∷ hs) is =
    ap visible (flat_map-cons joined h hs) ∙ list_all-append is_visible (quoted_pair h) (flat_map joined hs)
    ∙ and_from _ _ (pair-visible h (All-head IsHeader h hs is)) (more-visible hs (All-tail IsHeader h hs is))

pub pairs-visible : (hs : List (List ℕ × List ℕ)) → All IsHeader hs → visible (quoted_pairs hs) ≡ true
pairs-visible [] is = refl
pairs-visible (h ∷ hs) is =
    list_all-append is_visible (quoted_pair h) (flat_map joined hs)
    ∙ and_from _ _ (pair-visible h (All-head IsHeader h hs is)) (more-visible hs (All-tail IsHeader h hs is))

-- ---- what is read is valid

pub record AreHeaders (ms : List (List ℕ)) (hs : List (List ℕ × List ℕ)) : Type 0 where
  pub are : All IsHeader hs
  pub fitting : list_all is_fitting hs ≡ true
  pub as_many : length hs ≡ length ms
  pub names : NamesAre ms hs

-- a header and its member
record HeaderOf (m : List ℕ) (h : List ℕ × List ℕ) : Type 0 where
  is : IsHeader h
  fits : is_fitting h ≡ true
  name : name_in m ≡ quoted h.0

two_are : (ps : List (List ℕ)) (p : List ℕ × List ℕ) → two ps ≡ Some p → first_part ps ≡ p.0
two_are [] p e = absurd cc
two_are (a ∷ []) p e = absurd cc
two_are (a ∷ b ∷ []) p e = ap (λ (q : List ℕ × List ℕ). q.0) (same_Some (a, b) p e)
two_are (a ∷ b ∷ c ∷ more) p e = absurd cc

header_in-some : (m : List ℕ) (parts : Option (List ℕ × List ℕ)) (h : List ℕ × List ℕ) → two (between 61 m) ≡ parts → header_in parts ≡ Some h → HeaderOf m h
unfolding header_in
header_in-some m None h e is = absurd cc
header_in-some m (Some p) h e is =
    stepped (λ (name : List ℕ). option_and_then (λ (value : List ℕ). Some (name, value)) (short_of 1024 p.1)) (short_of 255 p.0) h (HeaderOf m h) is
    (λ name there more. stepped (λ (value : List ℕ). Some (name, value)) (short_of 1024 p.1) h (HeaderOf m h) more
    (λ value found last.
    let n = short_of-some 255 p.0 name there in
    let v = short_of-some 1024 p.1 value found in
    subst (HeaderOf m) (same_Some (name, value) h last)
    (record { is = (n.is, v.is); fits = and_from (leb (length name) 255) (leb (length value) 1024) n.few v.few; name = two_are (between 61 m) p e ∙ sym n.text })))

one_header : (m : List ℕ) (ms : List (List ℕ)) (h : List ℕ × List ℕ) (hs gs : List (List ℕ × List ℕ)) → HeaderOf m h → AreHeaders ms gs → h ∷ gs ≡ hs → AreHeaders (m ∷ ms) hs
one_header m ms h hs gs first rest same = subst (AreHeaders (m ∷ ms)) same
    (let long = rest.as_many in
    record { are = All-cons IsHeader h gs first.is rest.are; fitting = and_from (is_fitting h) (list_all is_fitting gs) first.fits rest.fitting; as_many = omega (arith, long); names = (first.name, rest.names) })

more_headers : (m : List ℕ) (ms : List (List ℕ)) (hs : List (List ℕ × List ℕ)) → ((gs : List (List ℕ × List ℕ)) → headers_in ms ≡ Some gs → AreHeaders ms gs)
    → (o : Option (List ℕ × List ℕ)) → header_of m ≡ o → headers_in (m ∷ ms) ≡ Some hs → AreHeaders (m ∷ ms) hs
more_headers m ms hs rest None is f = let none = bad-member m ms is in absurd cc
more_headers m ms hs rest (Some h) is f =
    stepped (λ (gs : List (List ℕ × List ℕ)). Some (h ∷ gs)) (headers_in ms) hs (AreHeaders (m ∷ ms) hs) (sym (good-member m ms h is) ∙ f)
    (λ gs there last. one_header m ms h hs gs (header_in-some m (two (between 61 m)) h refl is) (rest gs there) (same_Some (h ∷ gs) hs last))

pub headers_in-some : (ms : List (List ℕ)) (hs : List (List ℕ × List ℕ)) → headers_in ms ≡ Some hs → AreHeaders ms hs
headers_in-some [] hs e = subst (AreHeaders []) (same_Some [] hs (sym none_in ∙ e)) (record { are = λ k d lt. absurd (omega (arith, lt)); fitting = refl; as_many = refl; names = tt })
headers_in-some (m ∷ ms) hs e = more_headers m ms hs (λ gs there. headers_in-some ms gs there) (header_of m) refl e

pub record AreValidHeaders (hs : List (List ℕ × List ℕ)) : Type 0 where
  pub are : All IsHeader hs
  pub few : leb (length hs) 256 ≡ true
  pub fitting : list_all is_fitting hs ≡ true
  pub apart : are_apart hs ≡ true

none-valid : (hs : List (List ℕ × List ℕ)) → [] ≡ hs → AreValidHeaders hs
none-valid hs e = subst AreValidHeaders e (record { are = λ k d lt. absurd (omega (arith, lt)); few = refl; fitting = refl; apart = refl })

by_kind : (field : List ℕ) (hs : List (List ℕ × List ℕ)) (percent : Bool) → bytes_eq field (codes "%") ≡ percent → (listed : Bool) → are_listed (between 44 field) ≡ listed → headers_of field ≡ Some hs → AreValidHeaders hs
unfolding headers_of
by_kind field hs true is listed l f = none-valid hs (same_Some [] hs (rw is at f))
by_kind field hs false isnt true l f =
    let read : headers_in (between 44 field) ≡ Some hs = rw (isnt, l) at f in
    let h = headers_in-some (between 44 field) hs read in
    let p = and_parts (leb (length (between 44 field)) 256) (are_named_apart (between 44 field)) l in
    record {
      are = h.are;
      few = ap (λ (n : ℕ). leb n 256) h.as_many ∙ p.0;
      fitting = h.fitting;
      apart = sym (apart-same (between 44 field) hs h.are h.names) ∙ p.1;
    }
by_kind field hs false isnt false l f = let none : None ≡ Some hs = rw (isnt, l) at f in absurd cc

pub headers_of-some : (field : List ℕ) (hs : List (List ℕ × List ℕ)) → headers_of field ≡ Some hs → AreValidHeaders hs
headers_of-some field hs e = by_kind field hs (bytes_eq field (codes "%")) refl (are_listed (between 44 field)) refl e
