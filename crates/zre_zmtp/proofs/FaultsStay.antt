-- A fault stays, and so does a whole part, whatever comes after it.
use Rattle.std.proofs.Common.{◌≡◌, ℕ, ◌+◌, ◌-◌, ◌≤◌, ◌<◌, Bool, true, false, cond, leb, List, [], ◌∷◌, ◌++◌, length, take, Option, Some, None, refl, sym, ap, subst, ◌∙◌, arith, inl, inr, option_map, is_some}
use Rattle.std.specs.Option.{option_or}
use Rattle.std.proofs.lemmas.Bool.{leb-true, le-leb, and_left, cases_lt}
use Rattle.std.proofs.lemmas.List.{length-append, take-append-le, append-nil, take_all}
use Rattle.std.proofs.lemmas.Option.{cond_some, none-some}
use Rattle.std.proofs.Math.Seq.{take-append-add}
use Rattle.zre_zmtp.specs.Frame.{flags, has_header, size, frame_len, is_whole, body, is_long}
use Rattle.zre_zmtp.specs.declared.fault.ZmtpWhy.{ZmtpWhy}
use Rattle.zre_zmtp.specs.declared.fault.ZmtpFault.{ZmtpFault}
use Rattle.zre_zmtp.specs.declared.expected.Expected.{Expected}
use Rattle.zre_zmtp.specs.declared.expected.Expected.TheVariants as expect
use Rattle.zre_zmtp.specs.Stream.{Want, Before, once, flags_fault, size_fault, body_fault, frame_why, frame_fault, fault_of, fault_at, greeting_fault, whole_len, part_len}
use Rattle.zre_zmtp.proofs.KnownHeadersStay.{flags-more, headed, has_header-from, Headed-more, size-more, frame_len-more, IsWhole, whole, is_whole-from, IsWhole-more, body-more}

-- ---- one test, and those after it

-- a test that stays as it is once its octets are there, and tests after it that are made no earlier
stay : (t t' : Bool) (a a' rest rest' : Option ZmtpWhy) (r : ZmtpWhy) → (t ≡ true → (t' ≡ true) × (a' ≡ a)) → (t ≡ false → rest ≡ None)
    → (rest ≡ Some r → rest' ≡ Some r) → option_or (once t a) rest ≡ Some r → option_or (once t' a') rest' ≡ Some r
stay true t' None a' rest rest' r same late more e = let p = same refl in rw (p.0, p.1) (more e)
stay true t' (Some x) a' rest rest' r same late more e = let p = same refl in rw (p.0, p.1) e
stay false t' a a' rest rest' r same late more e = absurd (none-some r (sym (late refl) ∙ e))

last_stay : (t t' : Bool) (a a' : Option ZmtpWhy) (r : ZmtpWhy) → (t ≡ true → (t' ≡ true) × (a' ≡ a)) → once t a ≡ Some r → once t' a' ≡ Some r
last_stay true t' a a' r same e = let p = same refl in rw (p.0, p.1) e
last_stay false t' a a' r same e = absurd (none-some r e)

no_header : (o : List ℕ) → leb 1 (length o) ≡ false → has_header o ≡ false
no_header o h = and_left _ _ h

not_whole : (o : List ℕ) → has_header o ≡ false → is_whole o ≡ false
not_whole o h = and_left _ _ h

both_none : (t u : Bool) (a b : Option ZmtpWhy) → t ≡ false → u ≡ false → option_or (once t a) (once u b) ≡ None
both_none t u a b p q = rw (p, q) refl

once-false : (t : Bool) (a : Option ZmtpWhy) → t ≡ false → once t a ≡ None
once-false t a p = rw p refl

two : {A B C : Type 0} (g : A → B → C) {a a' : A} {b b' : B} → a' ≡ a → b' ≡ b → g a' b' ≡ g a b
two g {a} {a'} {b} {b'} p q = ap (λ x. g x b') p ∙ ap (λ y. g a y) q

pub frame_why-stays : (want : Want) (b : Before) (o p : List ℕ) (r : ZmtpWhy) → frame_why want b o ≡ Some r → frame_why want b (o ++ p) ≡ Some r
unfolding frame_why
frame_why-stays want b o p r e =
    stay (leb 1 (length o)) (leb 1 (length (o ++ p))) (flags_fault b (flags o)) (flags_fault b (flags (o ++ p))) _ _ r
    (λ t. let some : 1 ≤ length o = leb-true _ _ t in (le-leb _ _ (omega (arith, some, length-append o p)), ap (λ f. flags_fault b f) (flags-more o p some)))
    (λ t. let h = no_header o t in both_none _ _ _ _ h (not_whole o h))
    (λ e'. stay (has_header o) (has_header (o ++ p)) (size_fault b (flags o) (size o)) (size_fault b (flags (o ++ p)) (size (o ++ p))) _ _ r
    (λ t. let h = headed o t in (has_header-from (o ++ p) (Headed-more o p h), two (λ f n. size_fault b f n) (flags-more o p h.some) (size-more o p h)))
    (λ t. once-false _ _ (not_whole o t))
    (λ e''. last_stay (is_whole o) (is_whole (o ++ p)) (body_fault want b (flags o) (body o)) (body_fault want b (flags (o ++ p)) (body (o ++ p))) r
    (λ t. let w = whole o t in (is_whole-from (o ++ p) (IsWhole-more o p w), two (λ f t. body_fault want b f t) (flags-more o p w.header.some) (body-more o p w)))
    e'')
    e')
    e

-- the three tests, with what each looks at
abbrev why_at : Want → Before → Bool → Bool → Bool → ℕ → ℕ → List ℕ → Option ZmtpWhy
why_at want b here headed whole f n o = option_or (once here (flags_fault b f)) (option_or (once headed (size_fault b f n)) (once whole (body_fault want b f o)))

same_why : (want : Want) (b : Before) (t t' u u' v v' : Bool) (f f' n n' : ℕ) (o o' : List ℕ) → t' ≡ t → u' ≡ u → v' ≡ v → f' ≡ f → n' ≡ n → o' ≡ o
    → why_at want b t' u' v' f' n' o' ≡ why_at want b t u v f n o
same_why want b t t' u u' v v' f f' n n' o o' e1 e2 e3 e4 e5 e6 =
    ap (λ x. why_at want b x u' v' f' n' o') e1 ∙ ap (λ x. why_at want b t x v' f' n' o') e2 ∙ ap (λ x. why_at want b t u x f' n' o') e3
    ∙ ap (λ x. why_at want b t u v x n' o') e4 ∙ ap (λ x. why_at want b t u v f x o') e5 ∙ ap (λ x. why_at want b t u v f n x) e6

pub frame_why-whole : (want : Want) (b : Before) (o p : List ℕ) → IsWhole o → frame_why want b (o ++ p) ≡ frame_why want b o
unfolding frame_why
frame_why-whole want b o p w =
    let w' = IsWhole-more o p w in
    same_why want b _ _ _ _ _ _ _ _ _ _ _ _
    (le-leb _ _ w'.header.some ∙ sym (le-leb _ _ w.header.some))
    (has_header-from (o ++ p) w'.header ∙ sym (has_header-from o w.header))
    (is_whole-from (o ++ p) w' ∙ sym (is_whole-from o w))
    (flags-more o p w.header.some) (size-more o p w.header) (body-more o p w)

-- ---- the greeting

option_or-some : {A : Type 0} (a b b' : Option A) (r : A) → (b ≡ Some r → b' ≡ Some r) → option_or a b ≡ Some r → option_or a b' ≡ Some r
option_or-some None b b' r more e = more e
option_or-some (Some x) b b' r more e = e

pub greeting_fault-stays : (i : ℕ) (o p : List ℕ) (r : ZmtpFault) → greeting_fault i o ≡ Some r → greeting_fault i (o ++ p) ≡ Some r
unfolding greeting_fault
greeting_fault-stays i [] p r e = absurd (none-some r e)
greeting_fault-stays i (b ∷ o) p r e = option_or-some _ _ _ r (λ e'. greeting_fault-stays (i + 1) o p r e') e

take-more : (n : ℕ) (o p : List ℕ) → (q : List ℕ) × (take n (o ++ p) ≡ take n o ++ q)
take-more n o p =
    elim (cases_lt n (length o)) [
      | inl lt ↦ ([], take-append-le n o p (omega (arith, lt)) ∙ sym (append-nil (take n o)))
      | inr le ↦ (let k : n ≡ length o + (n - length o) = omega (arith, le) in
          let a : take n (o ++ p) ≡ o ++ take (n - length o) p = subst (λ (m : ℕ). take m (o ++ p) ≡ o ++ take (n - length o) p) (sym k) (take-append-add o p (n - length o)) in
          (take (n - length o) p, a ∙ ap (λ (t : List ℕ). t ++ take (n - length o) p) (sym (take_all n o le))))
    ]

-- ---- parts

option_map-some : {A B : Type 0} (f : A → B) (a a' : Option A) (y : B) → ((x : A) → a ≡ Some x → a' ≡ Some x) → option_map f a ≡ Some y → option_map f a' ≡ Some y
option_map-some f None a' y more e = absurd (none-some y e)
option_map-some f (Some x) a' y more e = rw (more x refl) e

fault_at-stays : (k : Expected) (want : Want) (b : Before) (o p : List ℕ) (f : ZmtpFault) → fault_at k want b o ≡ Some f → fault_at k want b (o ++ p) ≡ Some f
fault_at-stays expect.Greeting want b o p f e = let q = take-more 64 o p in rw q.1 (greeting_fault-stays 0 (take 64 o) q.0 f e)
fault_at-stays expect.Ready want b o p f e = option_map-some _ _ _ f (λ r e'. frame_why-stays want b o p r e') e
fault_at-stays expect.Traffic want b o p f e = option_map-some _ _ _ f (λ r e'. frame_why-stays want b o p r e') e

pub fault_of-stays : (want : Want) (b : Before) (o p : List ℕ) (f : ZmtpFault) → fault_of want b o ≡ Some f → fault_of want b (o ++ p) ≡ Some f
fault_of-stays want b o p f e = fault_at-stays b.expected want b o p f e

-- what a part at the front of o is
pub record IsPart (k : Expected) (want : Want) (b : Before) (o : List ℕ) (n : ℕ) : Type 0 where
  pub faultless : fault_at k want b o ≡ None
  pub len : whole_len k o ≡ Some n

part_cases : (a : Option ZmtpFault) (l : Option ℕ) (n : ℕ) → cond (is_some a) None l ≡ Some n → (a ≡ None) × (l ≡ Some n)
part_cases None l n e = (refl, e)
part_cases (Some x) l n e = absurd (none-some n e)

pub is_part : (want : Want) (b : Before) (o : List ℕ) (n : ℕ) → part_len want b o ≡ Some n → IsPart b.expected want b o n
unfolding part_len
is_part want b o n e = let p = part_cases _ _ n e in record { faultless = p.0; len = p.1 }

pub part_len-from : (want : Want) (b : Before) (o : List ℕ) (n : ℕ) → IsPart b.expected want b o n → part_len want b o ≡ Some n
unfolding part_len
part_len-from want b o n h = rw (h.faultless, h.len) refl

pub frame-len : (o : List ℕ) (n : ℕ) → cond (is_whole o) (Some (frame_len o)) None ≡ Some n → IsWhole o × (frame_len o ≡ n)
frame-len o n e = let p = cond_some (is_whole o) (frame_len o) n e in (whole o p.0, p.1)

header_positive : (l : Bool) → 0 < cond l 9 2
header_positive true = omega arith
header_positive false = omega arith

whole_len-bounds : (k : Expected) (o : List ℕ) (n : ℕ) → whole_len k o ≡ Some n → (0 < n) × (n ≤ length o)
whole_len-bounds expect.Greeting o n e = let p = cond_some (leb 64 (length o)) 64 n e in let h : 64 ≤ length o = leb-true _ _ p.0 in let q : 64 ≡ n = p.1 in (omega (arith, q), omega (arith, h, q))
whole_len-bounds expect.Ready o n e = let p = frame-len o n e in let h : frame_len o ≤ length o = p.0.rest in (omega (arith, p.1, header_positive (is_long (flags o))), omega (arith, p.1, h))
whole_len-bounds expect.Traffic o n e = let p = frame-len o n e in let h : frame_len o ≤ length o = p.0.rest in (omega (arith, p.1, header_positive (is_long (flags o))), omega (arith, p.1, h))

pub part_len-bounds : (want : Want) (b : Before) (o : List ℕ) (n : ℕ) → part_len want b o ≡ Some n → (0 < n) × (n ≤ length o)
part_len-bounds want b o n e = whole_len-bounds b.expected o n (is_part want b o n e).len

frame-part-more : (want : Want) (b : Before) (o p : List ℕ) (n : ℕ) → frame_fault want b o ≡ None → cond (is_whole o) (Some (frame_len o)) None ≡ Some n
    → (frame_fault want b (o ++ p) ≡ None) × (cond (is_whole (o ++ p)) (Some (frame_len (o ++ p))) None ≡ Some n)
frame-part-more want b o p n f e =
    let w = frame-len o n e in
    (rw (frame_why-whole want b o p w.0) f, rw (is_whole-from (o ++ p) (IsWhole-more o p w.0), frame_len-more o p w.0.header) (ap (λ (m : ℕ). Some m) w.1))

IsPart-more : (k : Expected) (want : Want) (b : Before) (o p : List ℕ) (n : ℕ) → IsPart k want b o n → IsPart k want b (o ++ p) n
IsPart-more expect.Greeting want b o p n h =
    let c = cond_some (leb 64 (length o)) 64 n h.len in
    let long : 64 ≤ length o = leb-true _ _ c.0 in
    record { faultless = rw (take-append-le 64 o p long) h.faultless; len = rw (le-leb 64 (length (o ++ p)) (omega (arith, long, length-append o p))) (ap (λ (m : ℕ). Some m) c.1) }
IsPart-more expect.Ready want b o p n h = let q = frame-part-more want b o p n h.faultless h.len in record { faultless = q.0; len = q.1 }
IsPart-more expect.Traffic want b o p n h = let q = frame-part-more want b o p n h.faultless h.len in record { faultless = q.0; len = q.1 }

pub part_len-stays : (want : Want) (b : Before) (o p : List ℕ) (n : ℕ) → part_len want b o ≡ Some n → part_len want b (o ++ p) ≡ Some n
part_len-stays want b o p n e = part_len-from want b (o ++ p) n (IsPart-more b.expected want b o p n (is_part want b o n e))
