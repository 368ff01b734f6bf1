-- How much a reader keeps.
use Rattle.std.proofs.Common.{◌≡◌, ℕ, zero, suc, ◌+◌, ◌≤◌, ◌<◌, Bool, true, false, cond, not, ◌&&◌, leb, ltb, List, [], ◌∷◌, length, take, drop, Option, Some, None, refl, sym, ap, subst, ◌∙◌, arith, inl, inr, is_some}
use Rattle.std.specs.Prelude.{sum_by, ◌⊎◌}
use Rattle.std.proofs.lemmas.Bool.{ltb-false, leb-false, cases_Bool, and_cases, true≢false}
use Rattle.std.proofs.lemmas.Option.{none-some}
use Rattle.std.proofs.lemmas.List.{length-take, length-take-le, get_or-take}
use Rattle.std.proofs.lemmas.List.Sums.{sum_by-append}
use Rattle.zre_zmtp.specs.Frame.{flags, header_len, has_header, size, frame_len, is_whole, body, is_long, is_message, has_more}
use Rattle.zre_zmtp.specs.declared.fault.ZmtpWhy.{ZmtpWhy}
use Rattle.zre_zmtp.specs.declared.fault.ZmtpFault.{ZmtpFault}
use Rattle.zre_zmtp.specs.declared.expected.Expected.{Expected}
use Rattle.zre_zmtp.specs.declared.expected.Expected.TheVariants as expect
use Rattle.zre_zmtp.specs.Stream.{Want, Before, Kind, Parts, before, expected, opened, opened_with, cut, split, fault_at, frame_fault, size_fault, whole_len, part_len}
use Rattle.zre_values.specs.declared.limits.TheConstants.{MESSAGE_OCTETS, COMMAND_OCTETS}
use Rattle.zre_zmtp.specs.Reading.{Reading, Reads, kept}
use Rattle.zre_zmtp.proofs.KnownHeadersStay.{headed, IsWhole}
use Rattle.zre_zmtp.proofs.FaultsStay.{is_part, IsPart, frame-len}
use Rattle.zre_zmtp.proofs.OctetsCutIntoParts.{cases_Option, cut-none, cut-some, cut-ends}
use Rattle.zre_zmtp.proofs.MoreOfOnePart.{HeadFine, head_fine}
use Rattle.zre_zmtp.proofs.WholeFrames.{IsFrame, exact}
use Rattle.zre_zmtp.proofs.FrameFaults.{why_none}

pub row-off : (t : Bool) (w : ZmtpWhy) (rest : Option ZmtpWhy) → cond t (Some w) rest ≡ None → (t ≡ false) × (rest ≡ None)
row-off true w rest e = absurd (none-some w (sym e))
row-off false w rest e = (refl, e)

-- what the size field allows
room : (b : Before) (f n : ℕ) → size_fault b f n ≡ None → ((is_message f ≡ true) × (sum_by length b.opened + n ≤ MESSAGE_OCTETS)) ⊎ ((is_message f ≡ false) × (n ≤ COMMAND_OCTETS))
room b f n e =
    let r = row-off _ _ _ e in
    let q = row-off _ _ _ r.1 in
    elim (cases_Bool (is_message f)) [
      | inl t ↦ (let h : ltb MESSAGE_OCTETS (sum_by length b.opened + n) ≡ false = sym (ap (λ x. x && ltb MESSAGE_OCTETS (sum_by length b.opened + n)) t) ∙ r.0 in inl (t, ltb-false _ _ h))
      | inr t ↦ (let h : ltb COMMAND_OCTETS n ≡ false = sym (ap (λ x. not x && ltb COMMAND_OCTETS n) t) ∙ q.0 in inr (t, ltb-false _ _ h))
    ]

header_most : (l : Bool) → cond l 9 2 ≤ 9
header_most true = omega arith
header_most false = omega arith

not_headed : (o : List ℕ) → has_header o ≡ false → length o < 9
not_headed o e =
    elim (and_cases (leb 1 (length o)) (leb (header_len o) (length o)) e) [
      | inl f ↦ omega (arith, leb-false _ _ f)
      | inr f ↦ omega (arith, leb-false _ _ f, header_most (is_long (flags o)))
    ]

-- a frame that isn't whole and has no fault
frame_kept : (want : Want) (b : Before) (o : List ℕ) → sum_by length b.opened ≤ MESSAGE_OCTETS → frame_fault want b o ≡ None → is_whole o ≡ false → sum_by length b.opened + length o ≤ MESSAGE_OCTETS + 9 + COMMAND_OCTETS
frame_kept want b o sum e w =
    elim (and_cases (has_header o) (leb (frame_len o) (length o)) w) [
      | inl f ↦ omega (arith, not_headed o f, sum)
      | inr f ↦ elim (cases_Bool (has_header o)) [
        | inr g ↦ omega (arith, not_headed o g, sum)
        | inl g ↦ (let fine = head_fine want b o (headed o g) (why_none want b o e) in
            let short : length o < frame_len o = leb-false _ _ f in
            let h = header_most (is_long (flags o)) in
            elim (room b (flags o) (size o) fine.size_fine) [
              | inl p ↦ omega (arith, p.1, short, h)
              | inr p ↦ omega (arith, p.1, short, h, sum)
            ])
      ]
    ]

whole-off : (t : Bool) (n : ℕ) → cond t (Some n) None ≡ None → t ≡ false
whole-off true n e = absurd (none-some n (sym e))
whole-off false n e = refl

part_kept : (k : Expected) (want : Want) (b : Before) (o : List ℕ) → sum_by length b.opened ≤ MESSAGE_OCTETS → fault_at k want b o ≡ None → whole_len k o ≡ None → sum_by length b.opened + length o ≤ MESSAGE_OCTETS + 9 + COMMAND_OCTETS
part_kept expect.Greeting want b o sum e w = let h : length o < 64 = leb-false _ _ (whole-off (leb 64 (length o)) 64 w) in omega (arith, h, sum)
part_kept expect.Ready want b o sum e w = frame_kept want b o sum e (whole-off (is_whole o) (frame_len o) w)
part_kept expect.Traffic want b o sum e w = frame_kept want b o sum e (whole-off (is_whole o) (frame_len o) w)

-- ---- the bodies of an unfinished message

room_more : (want : Want) (b : Before) (o : List ℕ) (len : ℕ) → b.expected ≡ expect.Traffic → IsPart b.expected want b o len → HeadFine b o
room_more want b o len e p =
    let q : IsPart expect.Traffic want b o len = subst (λ (k : Expected). IsPart k want b o len) e p in
    head_fine want b o (frame-len o len q.len).0.header (why_none want b o q.faultless)

-- a frame that is taken has the flags and the size that it had
same_frame : (o : List ℕ) (n : ℕ) → IsWhole o → frame_len o ≡ n → (flags (take n o) ≡ flags o) × (size (take n o) ≡ size o)
same_frame o n w e =
    let part = take n o in
    let x : IsFrame part = subst (λ (m : ℕ). IsFrame (take m o)) e (exact o w) in
    let len : length part ≡ n = length-take-le n o (omega (arith, w.rest, e)) in
    let f : flags part ≡ flags o = get_or-take n o 0 0 (omega (arith, x.some, len)) in
    let h : header_len part ≡ header_len o = ap (λ y. cond (is_long y) 9 2) f in
    (f, omega (arith, x.all, len, h, e))

body_within : (o : List ℕ) → length (body o) ≤ size o
body_within o = omega (arith, length-take (size o) (drop (header_len o) o))

grown : (k : Expected) (bodies : List (List ℕ)) (part : List ℕ) → sum_by length bodies ≤ MESSAGE_OCTETS
    → (k ≡ expect.Traffic → is_message (flags part) ≡ true → sum_by length bodies + length (body part) ≤ MESSAGE_OCTETS) → sum_by length (opened_with k bodies part) ≤ MESSAGE_OCTETS
grown expect.Greeting bodies part sum more = sum
grown expect.Ready bodies part sum more = sum
grown expect.Traffic bodies part sum more =
    elim (cases_Bool (is_message (flags part))) [
      | inr f ↦ rw f sum
      | inl t ↦ elim (cases_Bool (has_more (flags part))) [
        | inr f ↦ rw (t, f) (omega arith)
        | inl u ↦ rw (t, u) (omega (arith, sum_by-append length bodies (body part ∷ []), more refl t))
      ]
    ]

-- a message frame and the bodies before it
pub part_within : (want : Want) (b : Before) (o : List ℕ) (len : ℕ) → part_len want b o ≡ Some len → b.expected ≡ expect.Traffic → is_message (flags (take len o)) ≡ true
    → sum_by length b.opened + length (body (take len o)) ≤ MESSAGE_OCTETS
part_within want b o len e traffic message =
    let p = is_part want b o len e in
    let fine = room_more want b o len traffic p in
    let q : IsPart expect.Traffic want b o len = subst (λ (k : Expected). IsPart k want b o len) traffic p in
    let w = frame-len o len q.len in
    let s = same_frame o len w.0 w.1 in
    let m : is_message (flags o) ≡ true = sym (ap is_message s.0) ∙ message in
    elim (room b (flags o) (size o) fine.size_fine) [
      | inl r ↦ omega (arith, r.1, body_within (take len o), s.1)
      | inr r ↦ absurd (true≢false (sym m ∙ r.0))
    ]

opened_more : (want : Want) (kind : Kind) (parts : Parts) (o : List ℕ) (len : ℕ) → sum_by length (opened kind parts) ≤ MESSAGE_OCTETS → part_len want (before kind parts) o ≡ Some len
    → sum_by length (opened kind (take len o ∷ parts)) ≤ MESSAGE_OCTETS
opened_more want kind parts o len sum e = grown (expected kind parts) (opened kind parts) (take len o) sum (part_within want (before kind parts) o len e)

opened_kept : (want : Want) (kind : Kind) (n : ℕ) (parts : Parts) (o : List ℕ) → sum_by length (opened kind parts) ≤ MESSAGE_OCTETS → sum_by length (opened kind (cut want kind n parts o).0) ≤ MESSAGE_OCTETS
unfolding cut
opened_kept want kind zero parts o sum = sum
opened_kept want kind (suc n) parts o sum =
    elim (cases_Option (part_len want (before kind parts) o)) [
      | inl e ↦ rw (cut-none want kind (suc n) parts o e) sum
      | inr p ↦ rw (cut-some want kind n parts o p.0 p.1) (opened_kept want kind n (take p.0 o ∷ parts) (drop p.0 o) (opened_more want kind parts o p.0 sum p.1))
    ]

pub part_none : (a : Option ZmtpFault) (l : Option ℕ) → a ≡ None → cond (is_some a) None l ≡ None → l ≡ None
part_none None l f e = e
part_none (Some x) l f e = absurd (none-some x (sym f))

-- a reader keeps at most the bodies of a message, a header, and the body of a command
pub kept_most : (want : Want) (kind : Kind) (o : List ℕ) (r : Reading) → Reads want kind o r → kept r ≤ MESSAGE_OCTETS + 9 + COMMAND_OCTETS
unfolding part_len
kept_most want kind o r h =
    let c = split want kind o in
    let sum : sum_by length (opened kind c.0) ≤ MESSAGE_OCTETS = opened_kept want kind (length o) [] o (omega arith) in
    let whole : whole_len (expected kind c.0) c.1 ≡ None = part_none _ _ h.faultless (cut-ends want kind (length o) [] o (omega arith)) in
    let k = part_kept (expected kind c.0) want (before kind c.0) c.1 sum h.faultless whole in
    let e1 : sum_by length r.before.opened ≡ sum_by length (opened kind c.0) = ap (λ b. sum_by length b.opened) h.before in
    let e2 : length r.left ≡ length c.1 = ap length h.left in
    omega (arith, k, e1, e2)
