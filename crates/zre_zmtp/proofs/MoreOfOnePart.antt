-- For a reader that looks at each octet once: what more octets of one part tell.
use Rattle.std.proofs.Common.{◌≡◌, ℕ, ◌+◌, ◌<◌, Bool, true, false, leb, List, [], ◌∷◌, ◌++◌, length, drop, Option, Some, None, refl, sym, ap, ◌∙◌, arith}
use Rattle.std.specs.Option.{option_or}
use Rattle.std.proofs.lemmas.Bool.{le-leb, lt-leb, and_right}
use Rattle.std.proofs.lemmas.Option.{none-some}
use Rattle.std.proofs.lemmas.List.{length-append, length-drop, take_all}
use Rattle.zre_zmtp.specs.Frame.{flags, header_len, has_header, size, frame_len, is_whole, body}
use Rattle.zre_zmtp.specs.declared.fault.ZmtpWhy.{ZmtpWhy}
use Rattle.zre_zmtp.specs.declared.fault.ZmtpFault.{ZmtpFault}
use Rattle.zre_zmtp.specs.Stream.{Want, Before, once, flags_fault, size_fault, body_fault, frame_why, greeting_fault}
use Rattle.zre_zmtp.proofs.KnownHeadersStay.{flags-more, Headed, has_header-from, Headed-more, size-more, header_len-more, frame_len-more, IsWhole, is_whole-from}

-- the header is there, and has no fault
pub record HeadFine (b : Before) (o : List ℕ) : Type 0 where
  pub header : Headed o
  pub flags_fine : flags_fault b (flags o) ≡ None
  pub size_fine : size_fault b (flags o) (size o) ≡ None

pub once-true : (t : Bool) (a : Option ZmtpWhy) → t ≡ true → once t a ≡ a
once-true true a e = refl
once-true false a e = absurd cc

fine_by : (a c rest : Option ZmtpWhy) → option_or a (option_or c rest) ≡ None → (a ≡ None) × (c ≡ None)
fine_by None None rest e = (refl, refl)
fine_by None (Some x) rest e = absurd (none-some x (sym e))
fine_by (Some x) c rest e = absurd (none-some x (sym e))

both_none : (a c : Option ZmtpFault) → option_or a c ≡ None → (a ≡ None) × (c ≡ None)
both_none None c e = (refl, e)
both_none (Some x) c e = absurd (none-some x (sym e))

pub head_fine : (want : Want) (b : Before) (o : List ℕ) → Headed o → frame_why want b o ≡ None → HeadFine b o
unfolding frame_why
head_fine want b o h e =
    let t1 : leb 1 (length o) ≡ true = le-leb _ _ h.some in
    let t2 : has_header o ≡ true = has_header-from o h in
    let f = fine_by (once (leb 1 (length o)) (flags_fault b (flags o))) (once (has_header o) (size_fault b (flags o) (size o))) (once (is_whole o) (body_fault want b (flags o) (body o))) e in
    record { header = h; flags_fine = sym (once-true _ _ t1) ∙ f.0; size_fine = sym (once-true _ _ t2) ∙ f.1 }

pub HeadFine-more : (b : Before) (o c : List ℕ) → HeadFine b o → HeadFine b (o ++ c)
HeadFine-more b o c h =
    let f = flags-more o c h.header.some in
    let n = size-more o c h.header in
    record { header = Headed-more o c h.header; flags_fine = ap (λ x. flags_fault b x) f ∙ h.flags_fine; size_fine = ap (λ x. size_fault b x (size (o ++ c))) f ∙ ap (λ x. size_fault b (flags o) x) n ∙ h.size_fine }

-- after a header without fault only the whole frame can have one
only_last : (t u : Bool) (a c rest : Option ZmtpWhy) → t ≡ true → u ≡ true → a ≡ None → c ≡ None → option_or (once t a) (option_or (once u c) rest) ≡ rest
only_last t u a c rest p q r s = rw (p, q, r, s) refl

pub why_after : (want : Want) (b : Before) (o : List ℕ) → HeadFine b o → frame_why want b o ≡ once (is_whole o) (body_fault want b (flags o) (body o))
unfolding frame_why
why_after want b o h = only_last _ _ _ _ _ (le-leb 1 (length o) h.header.some) (has_header-from o h.header) h.flags_fine h.size_fine

pub not_whole_yet : (o c : List ℕ) → Headed o → length o + length c < frame_len o → is_whole (o ++ c) ≡ false
not_whole_yet o c h lt = and_right (has_header (o ++ c)) (leb (frame_len (o ++ c)) (length (o ++ c))) (lt-leb (frame_len (o ++ c)) (length (o ++ c)) (omega (arith, lt, length-append o c, frame_len-more o c h)))

-- more octets of the body tell nothing
pub waits_on : (want : Want) (b : Before) (o c : List ℕ) → HeadFine b o → length o + length c < frame_len o → frame_why want b (o ++ c) ≡ None
waits_on want b o c h lt = why_after want b (o ++ c) (HeadFine-more b o c h) ∙ ap (λ t. once t (body_fault want b (flags (o ++ c)) (body (o ++ c)))) (not_whole_yet o c h.header lt)

-- the last octets of the body make the frame whole, and its fault is that of its body
pub ends_with : (want : Want) (b : Before) (o c : List ℕ) → HeadFine b o → length o + length c ≡ frame_len o
    → IsWhole (o ++ c) × (frame_why want b (o ++ c) ≡ body_fault want b (flags o) (drop (header_len o) (o ++ c)))
ends_with want b o c h e =
    let m = HeadFine-more b o c h in
    let len : frame_len (o ++ c) ≡ frame_len o = frame_len-more o c h.header in
    let w : IsWhole (o ++ c) = record { header = m.header; rest = omega (arith, len, e, length-append o c) } in
    let hl : header_len (o ++ c) ≡ header_len o = header_len-more o c h.header.some in
    let all : body (o ++ c) ≡ drop (header_len o) (o ++ c) =
    take_all (size (o ++ c)) (drop (header_len (o ++ c)) (o ++ c)) (omega (arith, length-drop (header_len (o ++ c)) (o ++ c), len, e, length-append o c)) ∙ ap (λ k. drop k (o ++ c)) hl in
    (w, why_after want b (o ++ c) m ∙ once-true _ _ (is_whole-from (o ++ c) w) ∙ ap (λ f. body_fault want b f (body (o ++ c))) (flags-more o c h.header.some) ∙ ap (λ t. body_fault want b (flags o) t) all)

-- a greeting goes on where it was
pub greeting_on : (i : ℕ) (o c : List ℕ) → greeting_fault i o ≡ None → greeting_fault i (o ++ c) ≡ greeting_fault (i + length o) c
unfolding greeting_fault
greeting_on i [] c e = ap (λ k. greeting_fault k c) (omega arith)
greeting_on i (x ∷ o) c e =
    let p = both_none _ _ e in
    let k : i + 1 + length o ≡ i + length (x ∷ o) = omega arith in
    ap (λ a. option_or a (greeting_fault (i + 1) (o ++ c))) p.0 ∙ greeting_on (i + 1) o c p.1 ∙ ap (λ n. greeting_fault n c) k
