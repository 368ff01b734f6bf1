-- Each of some lists has a place of its own exactly where none is short of places: the longest takes any that it
-- begins, since what begins that place too begins it.
use Rattle.std.proofs.Common.{◌≡◌, ℕ, zero, suc, ◌+◌, ◌<◌, ◌≤◌, Bool, true, false, cond, leb, ltb, List, [], ◌∷◌, ◌++◌, length, refl, sym, ap, ◌∙◌, subst, arith, append_assoc, true≢false, ltb-false, ltb-true, leb-true, leb-false}
use Rattle.std.proofs.lemmas.Bool.{and_parts, and_from}
use Rattle.std.proofs.lemmas.List.{length-append}
use Rattle.std.proofs.lemmas.List.Sums.{sum_by-cons, sum_by-append}
use Rattle.std.specs.Cmp.{IsEquivalence}
use Rattle.std.specs.List.{AllByRecursion}
use Rattle.zre_audit.specs.Prefixes.{begins, begun, Fits, is_short, NoneIsShort}
use Rattle.zre_journal.proofs.PlacesInLedgers.{All-next}

-- ---- lists

all-without : {X : Type 0} (P : X → Type 0) (front : List X) (x : X) (back : List X) → AllByRecursion P (front ++ x ∷ back) → AllByRecursion P (front ++ back)
all-without P [] x back a = a.1
all-without P (y ∷ front) x back a = (a.0, all-without P front x back a.1)

all-both : {X : Type 0} (P Q R : X → Type 0) → ((x : X) → P x → Q x → R x) → (xs : List X) → AllByRecursion P xs → AllByRecursion Q xs → AllByRecursion R xs
all-both P Q R f [] a b = tt
all-both P Q R f (x ∷ xs) a b = (f x a.0 b.0, all-both P Q R f xs a.1 b.1)

all-from : {X : Type 0} (P : X → Type 0) → ((x : X) → P x) → (xs : List X) → AllByRecursion P xs
all-from P f [] = tt
all-from P f (x ∷ xs) = (f x, all-from P f xs)

-- where a member of two lists, joined, stands
data Stands {X : Type 0} (front back before : List X) (x : X) (later : List X) : Type 0 where
  InFront : (c : List X) → front ≡ before ++ x ∷ c → later ≡ c ++ back → Stands front back before x later
  InBack : (c : List X) → before ≡ front ++ c → back ≡ c ++ x ∷ later → Stands front back before x later

stands : {X : Type 0} (front back before : List X) (x : X) (later : List X) → front ++ back ≡ before ++ x ∷ later → Stands front back before x later
stands [] back before x later e = InBack before refl e
stands (y ∷ front) back [] x later e =
    let head : y ≡ x = cc in
    let tail : front ++ back ≡ later = cc in
    InFront front (ap (λ z. z ∷ front) head) (sym tail)
stands (y ∷ front) back (z ∷ before) x later e =
    let head : y ≡ z = cc in
    let tail : front ++ back ≡ before ++ x ∷ later = cc in
    by head (stands front back before x later tail)
  where
    by : y ≡ z → Stands front back before x later → Stands (y ∷ front) back (z ∷ before) x later
    by h (InFront c f l) = InFront c (ap (λ w. w ∷ front) h ∙ ap (λ xs. z ∷ xs) f) l
    by h (InBack c f l) = InBack c (ap (λ w. w ∷ before) (sym h) ∙ ap (λ xs. y ∷ xs) f) l

module _ {A : Type 0} (same : A → A → Bool) (laws : IsEquivalence same) where
  -- ---- what begins what

  itself : (xs : List A) → begins same xs xs ≡ true
  itself [] = refl
  itself (x ∷ xs) = and_from (same x x) (begins same xs xs) (laws.refl x) (itself xs)

  onward : (xs ys zs : List A) → begins same xs ys ≡ true → begins same ys zs ≡ true → begins same xs zs ≡ true
  onward [] ys zs h k = refl
  onward (x ∷ xs) [] zs h k = absurd (true≢false (sym h))
  onward (x ∷ xs) (y ∷ ys) [] h k = absurd (true≢false (sym k))
  onward (x ∷ xs) (y ∷ ys) (z ∷ zs) h k =
      let p = and_parts (same x y) (begins same xs ys) h in
      let q = and_parts (same y z) (begins same ys zs) k in
      and_from (same x z) (begins same xs zs) (laws.congr x y z p.0 ∙ q.0) (onward xs ys zs p.1 q.1)

  -- of two that begin one list the shorter begins the longer
  nested : (xs ys zs : List A) → begins same xs zs ≡ true → begins same ys zs ≡ true → length xs ≤ length ys → begins same xs ys ≡ true
  nested [] ys zs h k short = refl
  nested (x ∷ xs) [] zs h k short = absurd (omega (arith, short))
  nested (x ∷ xs) (y ∷ ys) [] h k short = absurd (true≢false (sym h))
  nested (x ∷ xs) (y ∷ ys) (z ∷ zs) h k short =
      let p = and_parts (same x z) (begins same xs zs) h in
      let q = and_parts (same y z) (begins same ys zs) k in
      and_from (same x y) (begins same xs ys) (laws.congr x z y p.0 ∙ laws.symm z y ∙ q.0) (nested xs ys zs p.1 q.1 (omega (arith, short)))

  -- ---- counts

  abbrev one : List A → List A → ℕ
  one h xs = cond (begins same h xs) 1 0

  begun-cons : (h xs : List A) (xss : List (List A)) → begun same h (xs ∷ xss) ≡ one h xs + begun same h xss
  begun-cons h xs xss = sum_by-cons (one h) xs xss

  begun-middle : (h xs : List A) (front back : List (List A)) → begun same h (front ++ xs ∷ back) ≡ one h xs + begun same h (front ++ back)
  begun-middle h xs front back =
      let all = sum_by-append (one h) front (xs ∷ back) in
      let more = sum_by-cons (one h) xs back in
      let rest = sum_by-append (one h) front back in
      omega (arith, all, more, rest)

  one-onward : (h xs ys : List A) → begins same xs ys ≡ true → one h xs ≤ one h ys
  one-onward h xs ys e = by (begins same h xs) refl
    where
      by : (b : Bool) → begins same h xs ≡ b → cond b 1 0 ≤ one h ys
      by true q = let r : one h ys ≡ 1 = ap (λ b. cond b 1 0) (onward h xs ys q e) in omega (arith, r)
      by false q = omega arith

  -- ---- places make for as many

  fits-few : (xss lists : List (List A)) → Fits same xss lists → (h : List A) → begun same h xss ≤ begun same h lists
  fits-few [] lists f h = omega arith
  fits-few (xs ∷ xss) lists f h =
      let rest = fits-few xss (f.before ++ f.later) f.leaves h in
      let first = begun-cons h xs xss in
      let all = ap (begun same h) f.stands ∙ begun-middle h f.place f.before f.later in
      let at = one-onward h xs f.place f.is_begun in
      omega (arith, rest, first, all, at)

  pub none-short : (xss lists : List (List A)) → Fits same xss lists → NoneIsShort same xss lists
  none-short xss lists f = all-from (λ xs. is_short same xss lists xs ≡ false) (λ xs. not_less (begun same xs lists) (begun same xs xss) (fits-few xss lists f xs)) xss
    where
      not_less : (m n : ℕ) → n ≤ m → ltb m n ≡ false
      not_less m n le = by (ltb m n) refl
        where
          by : (b : Bool) → ltb m n ≡ b → b ≡ false
          by false e = refl
          by true e = let lt = ltb-true m n e in absurd (omega (arith, lt, le))

  -- ---- as many make for places

  record Longest (xss : List (List A)) : Type 0 where
    front : List (List A)
    top : List A
    back : List (List A)
    parts : xss ≡ front ++ top ∷ back
    shorter : AllByRecursion (λ xs. length xs ≤ length top) xss

  longest : (xs : List A) (xss : List (List A)) → Longest (xs ∷ xss)
  longest xs [] = record { front = []; top = xs; back = []; parts = refl; shorter = (omega arith, tt) }
  longest xs (ys ∷ yss) = by (longest ys yss) (leb (length xs) (length (longest ys yss).top)) refl
    where
      by : (r : Longest (ys ∷ yss)) (b : Bool) → leb (length xs) (length r.top) ≡ b → Longest (xs ∷ ys ∷ yss)
      by r true e = record { front = xs ∷ r.front; top = r.top; back = r.back; parts = ap (λ zss. xs ∷ zss) r.parts; shorter = (leb-true (length xs) (length r.top) e, r.shorter) }
      by r false e = let more = leb-false (length xs) (length r.top) e in record {
        front = [];
        top = xs;
        back = ys ∷ yss;
        parts = refl;
        shorter = (omega arith, all-both (λ zs. length zs ≤ length r.top) (λ zs. length zs ≤ length r.top) (λ zs. length zs ≤ length xs) (λ zs p q. omega (arith, p, more)) (ys ∷ yss) r.shorter r.shorter);
      }

  record Begun (h : List A) (lists : List (List A)) : Type 0 where
    before : List (List A)
    place : List A
    later : List (List A)
    parts : lists ≡ before ++ place ∷ later
    is_begun : begins same h place ≡ true

  some-begun : (h : List A) (lists : List (List A)) → 0 < begun same h lists → Begun h lists
  some-begun h [] some = absurd (omega (arith, some))
  some-begun h (xs ∷ xss) some = by (λ z. some-begun h xss z) (begins same h xs) refl
    where
      by : (0 < begun same h xss → Begun h xss) → (b : Bool) → begins same h xs ≡ b → Begun h (xs ∷ xss)
      by s true e = record { before = []; place = xs; later = xss; parts = refl; is_begun = e }
      by s false e =
          let none : one h xs ≡ 0 = ap (λ b. cond b 1 0) e in
          let first = begun-cons h xs xss in
          let r = s (omega (arith, some, none, first)) in
          record { before = xs ∷ r.before; place = r.place; later = r.later; parts = ap (λ zss. xs ∷ zss) r.parts; is_begun = r.is_begun }

  -- a list more among both, which has the place that is more
  fits-more : (front : List (List A)) (xs : List A) (back before : List (List A)) (place : List A) (later : List (List A)) → begins same xs place ≡ true
      → Fits same (front ++ back) (before ++ later) → Fits same (front ++ xs ∷ back) (before ++ place ∷ later)
  fits-more [] xs back before place later e f = record { before = before; place = place; later = later; stands = refl; is_begun = e; leaves = f }
  fits-more (ys ∷ front) xs back before place later e f = by (λ b l g. fits-more front xs back b place l e g) (stands before later f.before f.place f.later f.stands)
    where
      by : ((b l : List (List A)) → Fits same (front ++ back) (b ++ l) → Fits same (front ++ xs ∷ back) (b ++ place ∷ l)) → Stands before later f.before f.place f.later → Fits same (ys ∷ (front ++ xs ∷ back)) (before ++ place ∷ later)
      by m (InFront c p l) =
          let rest : f.before ++ f.later ≡ (f.before ++ c) ++ later = ap (λ zss. f.before ++ zss) l ∙ sym (append_assoc f.before c later) in
          let more = m (f.before ++ c) later (subst (Fits same (front ++ back)) rest f.leaves) in
          record {
            before = f.before;
            place = f.place;
            later = c ++ place ∷ later;
            stands = ap (λ zss. zss ++ place ∷ later) p ∙ append_assoc f.before (f.place ∷ c) (place ∷ later);
            is_begun = f.is_begun;
            leaves = subst (Fits same (front ++ xs ∷ back)) (append_assoc f.before c (place ∷ later)) more;
          }
      by m (InBack c p l) =
          let rest : f.before ++ f.later ≡ before ++ (c ++ f.later) = ap (λ zss. zss ++ f.later) p ∙ append_assoc before c f.later in
          let more = m before (c ++ f.later) (subst (Fits same (front ++ back)) rest f.leaves) in
          record {
            before = before ++ place ∷ c;
            place = f.place;
            later = f.later;
            stands = ap (λ zss. before ++ place ∷ zss) l ∙ sym (append_assoc before (place ∷ c) (f.place ∷ f.later));
            is_begun = f.is_begun;
            leaves = subst (Fits same (front ++ xs ∷ back)) (sym (append_assoc before (place ∷ c) f.later)) more;
          }

  abbrev IsFew : (xss lists : List (List A)) → List A → Type 0
  IsFew xss lists xs = begun same xs xss ≤ begun same xs lists

  few-fits : (n : ℕ) (xss lists : List (List A)) → length xss ≡ n → AllByRecursion (IsFew xss lists) xss → Fits same xss lists
  few-fits n [] lists e all = tt
  few-fits zero (xs ∷ xss) lists e all = absurd (omega (arith, e))
  few-fits (suc n) (xs ∷ xss) lists e all = subst (λ zss. Fits same zss lists) (sym r.parts) (subst (Fits same (r.front ++ r.top ∷ r.back)) (sym s.parts) (fits-more r.front r.top r.back s.before s.place s.later s.is_begun (few-fits n (r.front ++ r.back) (s.before ++ s.later) count few)))
    where
      r : Longest (xs ∷ xss)
      r = longest xs xss

      all_parts : AllByRecursion (IsFew (xs ∷ xss) lists) (r.front ++ r.top ∷ r.back)
      all_parts = subst (AllByRecursion (IsFew (xs ∷ xss) lists)) r.parts all

      short_parts : AllByRecursion (λ zs. length zs ≤ length r.top) (r.front ++ r.top ∷ r.back)
      short_parts = subst (AllByRecursion (λ zs. length zs ≤ length r.top)) r.parts r.shorter

      some : 0 < begun same r.top lists
      some =
          let few = All-next (IsFew (xs ∷ xss) lists) r.front r.top r.back all_parts in
          let parts = ap (begun same r.top) r.parts ∙ begun-middle r.top r.top r.front r.back in
          let at : one r.top r.top ≡ 1 = ap (λ b. cond b 1 0) (itself r.top) in
          omega (arith, few, parts, at)

      s : Begun r.top lists
      s = some-begun r.top lists some

      count : length (r.front ++ r.back) ≡ n
      count =
          let whole = ap (λ zss. length zss) r.parts in
          let a = length-append r.front (r.top ∷ r.back) in
          let b = length-append r.front r.back in
          omega (arith, e, whole, a, b)

      less : (zs : List A) → IsFew (xs ∷ xss) lists zs → length zs ≤ length r.top → IsFew (r.front ++ r.back) (s.before ++ s.later) zs
      less zs few short =
          let firsts = ap (begun same zs) r.parts ∙ begun-middle zs r.top r.front r.back in
          let others = ap (begun same zs) s.parts ∙ begun-middle zs s.place s.before s.later in
          let at : one zs s.place ≤ one zs r.top = by (begins same zs s.place) refl in
          omega (arith, few, firsts, others, at)
        where
          by : (b : Bool) → begins same zs s.place ≡ b → cond b 1 0 ≤ one zs r.top
          by true q = let t : one zs r.top ≡ 1 = ap (λ b. cond b 1 0) (nested zs r.top s.place q s.is_begun short) in omega (arith, t)
          by false q = omega arith

      few : AllByRecursion (IsFew (r.front ++ r.back) (s.before ++ s.later)) (r.front ++ r.back)
      few = all-both (IsFew (xs ∷ xss) lists) (λ zs. length zs ≤ length r.top) (IsFew (r.front ++ r.back) (s.before ++ s.later)) less (r.front ++ r.back)
          (all-without (IsFew (xs ∷ xss) lists) r.front r.top r.back all_parts) (all-without (λ zs. length zs ≤ length r.top) r.front r.top r.back short_parts)

  pub has-places : (xss lists : List (List A)) → NoneIsShort same xss lists → Fits same xss lists
  has-places xss lists none = few-fits (length xss) xss lists refl (all-both (λ xs. is_short same xss lists xs ≡ false) (λ xs. is_short same xss lists xs ≡ false) (IsFew xss lists) (λ xs p q. ltb-false (begun same xs lists) (begun same xs xss) p) xss none none)
