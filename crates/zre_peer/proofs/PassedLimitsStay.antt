-- Groups and headers that are past a limit stay past it, whatever follows.
use Rattle.std.proofs.Common.{◌≡◌, ℕ, ◌+◌, ◌≤◌, ◌<◌, Bool, true, false, ◌||◌, List, [], ◌∷◌, ◌++◌, length, drop, get_or, ltb, leb, refl, sym, ap, ◌∙◌, arith, inl, inr, if◌then◌else◌}
use Rattle.std.specs.List.{fold, list_any, list_all}
use Rattle.std.specs.Str.{bytes_eq}
use Rattle.std.proofs.lemmas.Bool.{ltb-false, and_parts, and_from, leb-true, leb-false, le-leb, lt-leb, ltb-true, cases_Bool, or_left, or_right, or_from, both_ways, false_from_ne_true}
use Rattle.std.proofs.lemmas.List.{at_drop_more, length-append}
use Rattle.std.proofs.lemmas.List.Folds.{list_all-append}
use Rattle.zre_peer.specs.Members.{are_few, with_group, with_header}

abbrev is_short : List ℕ → Bool
is_short g = leb (length g) 255

-- groups that are few with one more were few before
few_before : (groups : List (List ℕ)) (g : List ℕ) (t : Bool) → are_few (if t then groups else groups ++ g ∷ []) ≡ true → are_few groups ≡ true
few_before groups g true e = e
few_before groups g false e =
    let p = and_parts (leb (length (groups ++ g ∷ [])) 1024) (list_all is_short (groups ++ g ∷ [])) e in
    let count = leb-true _ _ p.0 in
    and_from (leb (length groups) 1024) (list_all is_short groups) (le-leb _ _ (omega (arith, count, length-append groups (g ∷ []))))
    (and_parts (list_all is_short groups) (list_all is_short (g ∷ [])) (sym (list_all-append is_short groups (g ∷ [])) ∙ p.1)).0

-- and so groups that aren't stay so
pub stay_many : (groups more : List (List ℕ)) → are_few groups ≡ false → are_few (fold with_group groups more) ≡ false
stay_many groups [] e = e
stay_many groups (g ∷ more) e =
    stay_many (with_group groups g) more (false_from_ne_true _ (λ few. both_ways (are_few groups) e (few_before groups g (list_any (λ x. bytes_eq x g) groups) few)))

-- where the next group is one too many, so are all
pub many_ahead : (found whole items : List (List ℕ)) (i : ℕ) (g : List ℕ) → i < length items → g ≡ get_or items i g → fold with_group found (drop i items) ≡ whole → are_few (with_group found g) ≡ false → are_few whole ≡ false
many_ahead found whole items i g lt is ahead many =
    ap are_few (sym ahead ∙ at_drop_more (fold with_group found) items i g lt ∙ ap (λ x. fold with_group found (x ∷ drop (i + 1) items)) (sym is))
    ∙ stay_many (with_group found g) (drop (i + 1) items) many

abbrev are_named : List (List ℕ × List ℕ) → Bool
are_named headers = leb (length headers) 256

longer : (headers : List (List ℕ × List ℕ)) (h : List ℕ × List ℕ) (t : Bool) → length headers ≤ length (if t then headers else headers ++ h ∷ [])
longer headers h true = omega arith
longer headers h false = omega (arith, length-append headers (h ∷ []))

-- the same of headers
pub stay_named : (headers more : List (List ℕ × List ℕ)) → are_named headers ≡ false → are_named (fold with_header headers more) ≡ false
stay_named headers [] e = e
stay_named headers (h ∷ more) e =
    let long = leb-false _ _ e in
    let more_long = longer headers h (list_any (λ pair. bytes_eq pair.0 h.0) headers) in
    stay_named (with_header headers h) more (lt-leb _ _ (omega (arith, long, more_long)))

pub named_ahead : (found whole items : List (List ℕ × List ℕ)) (i : ℕ) (h : List ℕ × List ℕ) → i < length items → h ≡ get_or items i h → fold with_header found (drop i items) ≡ whole → are_named (with_header found h) ≡ false → are_named whole ≡ false
named_ahead found whole items i h lt is ahead many =
    ap are_named (sym ahead ∙ at_drop_more (fold with_header found) items i h lt ∙ ap (λ x. fold with_header found (x ∷ drop (i + 1) items)) (sym is))
    ∙ stay_named (with_header found h) (drop (i + 1) items) many

-- whether the headers are few with one more
pub named_with : (headers : List (List ℕ × List ℕ)) (n v : List ℕ) → length headers ≤ 256 → (ltb (length headers) 256 || list_any (λ pair. bytes_eq pair.0 n) headers) ≡ are_named (with_header headers (n, v))
named_with headers n v few = by (list_any (λ pair. bytes_eq pair.0 n) headers)
  where
    by : (t : Bool) → (ltb (length headers) 256 || t) ≡ are_named (if t then headers else headers ++ (n, v) ∷ [])
    by true = or_right (ltb (length headers) 256) true refl ∙ sym (le-leb _ _ few)
    by false = elim (cases_Bool (ltb (length headers) 256)) [
      | inl lt ↦ or_left (ltb (length headers) 256) false lt ∙ sym (le-leb _ _ (let less = ltb-true _ _ lt in omega (arith, less, length-append headers ((n, v) ∷ []))))
      | inr ge ↦ or_from (ltb (length headers) 256) false ge refl ∙ sym (lt-leb _ _ (let full = ltb-false _ _ ge in omega (arith, full, length-append headers ((n, v) ∷ []))))
    ]

-- the next group was joined
pub many_next : (found new whole items : List (List ℕ)) (i : ℕ) (g : List ℕ) → i < length items → g ≡ get_or items i g → fold with_group found (drop i items) ≡ whole → new ≡ with_group found g → are_few (with_group found g) ≡ true
    → (fold with_group new (drop (i + 1) items) ≡ whole) × (are_few new ≡ true)
many_next found new whole items i g lt is ahead joined few = (
  ap (λ x. fold with_group x (drop (i + 1) items)) joined
      ∙ ap (λ x. fold with_group found (x ∷ drop (i + 1) items)) is ∙ sym (at_drop_more (fold with_group found) items i g lt) ∙ ahead,
  ap are_few joined ∙ few,
)

-- the next header was told
pub named_next : (found new whole items : List (List ℕ × List ℕ)) (i : ℕ) (h : List ℕ × List ℕ) → i < length items → h ≡ get_or items i h → fold with_header found (drop i items) ≡ whole → new ≡ with_header found h
    → are_named (with_header found h) ≡ true → (fold with_header new (drop (i + 1) items) ≡ whole) × (length new ≤ 256)
named_next found new whole items i h lt is ahead told few = (
  ap (λ x. fold with_header x (drop (i + 1) items)) told
      ∙ ap (λ x. fold with_header found (x ∷ drop (i + 1) items)) is ∙ sym (at_drop_more (fold with_header found) items i h lt) ∙ ahead,
  leb-true _ _ (ap are_named told ∙ few),
)
