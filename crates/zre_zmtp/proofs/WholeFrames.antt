-- A whole frame, taken from the octets before which it stands; and how many parts there can be.
use Rattle.std.proofs.Common.{◌≡◌, ℕ, zero, suc, ◌≤◌, Bool, true, false, cond, List, [], ◌∷◌, ◌++◌, length, take, drop, Some, None, refl, sym, ap, ◌∙◌, arith, inl, inr}
use Rattle.std.proofs.lemmas.List.{length-take-le, take-append-drop}
use Rattle.zre_zmtp.specs.Frame.{flags, header_len, size, frame_len, is_long}
use Rattle.zre_zmtp.specs.declared.fault.ZmtpFault.{ZmtpFault}
use Rattle.zre_zmtp.specs.Stream.{Want, Before, item, part_len, whole_len, fault_of}
use Rattle.zre_zmtp.specs.Run.{after, with_item, run, run_all}
use Rattle.zre_zmtp.proofs.KnownHeadersStay.{Headed, IsWhole, size-more, flags-more}
use Rattle.zre_zmtp.proofs.OctetsCutIntoParts.{cases_Option, run-none, run-some, shorter, not_empty}

-- the octets are one whole frame
pub record IsFrame (o : List ℕ) : Type 0 where
  pub some : 1 ≤ length o
  pub header : header_len o ≤ length o
  pub all : frame_len o ≡ length o

header_low : (l : Bool) → 2 ≤ cond l 9 2
header_low true = omega arith
header_low false = omega arith

-- the header is in the frame, so it is the same there
pub exact : (o : List ℕ) → IsWhole o → IsFrame (take (frame_len o) o)
exact o w =
    let n = frame_len o in
    let part = take n o in
    let len : length part ≡ n = length-take-le n o w.rest in
    let some : 1 ≤ length part = omega (arith, len, header_low (is_long (flags o))) in
    let whole : part ++ drop n o ≡ o = take-append-drop n o in
    let f : flags part ≡ flags o = sym (flags-more part (drop n o) some) ∙ ap flags whole in
    let h : header_len part ≡ header_len o = ap (λ x. cond (is_long x) 9 2) f in
    let headed : Headed part = record { some = some; all = omega (arith, h, len) } in
    let s : size part ≡ size o = sym (size-more part (drop n o) headed) ∙ ap size whole in
    record { some = some; header = headed.all; all = omega (arith, h, s, len) }

-- ---- turns of a reader

pub run-enough : (want : Want) (n m : ℕ) (b : Before) (o : List ℕ) → length o ≤ n → length o ≤ m → run want n b o ≡ run want m b o
run-enough want zero m b o h k =
    elim (cases_Option (part_len want b o)) [
      | inl e ↦ run-none want 0 b o e ∙ sym (run-none want m b o e)
      | inr p ↦ absurd (not_empty want b o p.0 p.1 h)
    ]
run-enough want (suc n) zero b o h k =
    elim (cases_Option (part_len want b o)) [
      | inl e ↦ run-none want (suc n) b o e ∙ sym (run-none want 0 b o e)
      | inr p ↦ absurd (not_empty want b o p.0 p.1 k)
    ]
run-enough want (suc n) (suc m) b o h k =
    elim (cases_Option (part_len want b o)) [
      | inl e ↦ run-none want (suc n) b o e ∙ sym (run-none want (suc m) b o e)
      | inr p ↦ run-some want n b o p.0 p.1
          ∙ ap (λ f. with_item (item b (take p.0 o)) f) (run-enough want n m (after b (take p.0 o)) (drop p.0 o) (shorter want b o p.0 n p.1 h) (shorter want b o p.0 m p.1 k))
          ∙ sym (run-some want m b o p.0 p.1)
    ]

pub run_all-some : (want : Want) (b : Before) (o : List ℕ) (n : ℕ) → part_len want b o ≡ Some n → run_all want b o ≡ with_item (item b (take n o)) (run_all want (after b (take n o)) (drop n o))
run_all-some want b [] n e = absurd (not_empty want b [] n e (omega arith))
run_all-some want b (x ∷ o) n e =
    run-some want (length o) b (x ∷ o) n e
    ∙ ap (λ f. with_item (item b (take n (x ∷ o))) f) (run-enough want (length o) (length (drop n (x ∷ o))) (after b (take n (x ∷ o))) (drop n (x ∷ o)) (shorter want b (x ∷ o) n (length o) e (omega arith)) (omega arith))

pub part-none : (want : Want) (b : Before) (o : List ℕ) → fault_of want b o ≡ None → whole_len b.expected o ≡ None → part_len want b o ≡ None
unfolding part_len
part-none want b o f e = rw (f, e) refl

pub part-fault : (want : Want) (b : Before) (o : List ℕ) (x : ZmtpFault) → fault_of want b o ≡ Some x → part_len want b o ≡ None
unfolding part_len
part-fault want b o x f = rw f refl
