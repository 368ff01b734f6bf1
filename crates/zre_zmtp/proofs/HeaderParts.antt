-- Pieces that end in a header, and those that come after one.
use Rattle.std.proofs.Common.{◌≡◌, ◌+◌, ◌<◌, ◌≤◌, ◌++◌, ℕ, Bool, true, false, leb, List, [], ◌∷◌, length, take, drop, get_or, Option, Some, None, refl, sym, ap, ◌∙◌, append_assoc, arith, inl, inr}
use Rattle.std.specs.Option.{option_or}
use Rattle.std.proofs.lemmas.Bool.{le-leb, lt-leb, ltb-true, leb-false, and_cases}
use Rattle.std.proofs.lemmas.List.{append-nil}
use Rattle.zre_values.specs.declared.limits.TheConstants.{MESSAGE_FRAMES}
use Rattle.zre_zmtp.specs.declared.bodies.Came.{Came}
use Rattle.zre_zmtp.specs.declared.bodies.Came.TheVariants as came
use Rattle.zre_zmtp.specs.declared.fault.ZmtpWhy.{ZmtpWhy}
use Rattle.zre_zmtp.specs.declared.header.Header.{Header}
use Rattle.zre_zmtp.specs.declared.item.Item.{Item}
use Rattle.zre_zmtp.specs.declared.expected.Expected.TheVariants as expect
use Rattle.zre_zmtp.specs.declared.partial.Partial.{Partial}
use Rattle.zre_zmtp.specs.declared.progress.Progress.{Progress}
use Rattle.zre_zmtp.specs.Across.{mid_of}
use Rattle.zre_zmtp.specs.Frame.{flags, size, header_len, has_header, header_of, is_message, is_flags, is_long}
use Rattle.zre_zmtp.specs.Lending.{Brings}
use Rattle.zre_zmtp.specs.Shown.{before_of, left_of, header_fault, Waits, Advances}
use Rattle.zre_zmtp.specs.Stream.{Want, Before, once, flags_fault, size_fault}
use Rattle.zre_zmtp.proofs.PiecesAcrossFrames.{Comes}
use Rattle.zre_zmtp.proofs.FrameFaults.{header_low, no_header, left-frame, waits-no_header, waits-header}
use Rattle.zre_zmtp.proofs.FrontsOfPieces.{in_traffic}
use Rattle.zre_zmtp.proofs.TurnsOfReaders.{turn_waits}
use Rattle.zre_zmtp.proofs.UnfinishedFrames.{in_frames}

-- a part of a header has no more octets than it
pub short_within : (o : List ℕ) → header_of o ≡ None → length o ≤ header_len o
short_within o e =
    elim (and_cases (leb 1 (length o)) (leb (header_len o) (length o)) (no_header o e)) [
      | inl f ↦ omega (arith, leb-false _ _ f, header_low (is_long (flags o)))
      | inr f ↦ omega (arith, leb-false _ _ f)
    ]

-- a part of a header, with nothing wrong
pub head_waits : (want : Want) (b : Before) (o : List ℕ) (out : List Item) (now : Before) (left : List ℕ) → b.expected ≡ expect.Traffic → header_of o ≡ None → header_fault b o ≡ None → now ≡ b → left ≡ o → Advances want b o out (out ++ []) now left
head_waits want b o out now left traffic short ok same kept =
    let still = waits-no_header want b o (in_frames b traffic) ok short in
    turn_waits want b o out _ now left still.faultless still.partial (append-nil out) same kept

-- what is kept where a header alone is there
pub head_left : (p : Progress) (part : Partial) (o : List ℕ) → p.expected ≡ expect.Traffic → part.head ≡ o → part.body ≡ [] → left_of (record p { partial = part }) ≡ o
head_left p part o traffic is none =
    left-frame p.expected p.greeting part.head part.body (in_frames (before_of p) traffic) ∙ ap (λ (x : List ℕ). x ++ part.body) is ∙ ap (λ (x : List ℕ). o ++ x) none ∙ append-nil o

-- ---- after a first frame

neither_of : (t u : Bool) (a c : Option ZmtpWhy) → a ≡ None → u ≡ false → option_or (once t a) (once u c) ≡ None
neither_of true u a c p q = rw (p, q) refl
neither_of false u a c p q = rw q refl

flags_fine : (place start : ℕ) (bodies : List (List ℕ)) (f : ℕ) → is_message f ≡ true → length bodies < MESSAGE_FRAMES → flags_fault (in_traffic place bodies start) f ≡ None
flags_fine place start bodies f m count =
    let low : is_flags f ≡ true = rw (le-leb f 4 (omega (arith, ltb-true f 4 m))) refl in
    rw (low, m, lt-leb MESSAGE_FRAMES (length bodies) count) refl

pub head_crosses : (p : Progress) (now : Before) (left : List ℕ) (n : ℕ) (body o : List ℕ) → header_of o ≡ None → is_message (flags o) ≡ true → now ≡ mid_of p n body → left ≡ o → Comes came.Part p n body o now left
head_crosses p now left n body o short m same kept = λ want out.
    let b = mid_of p n body in
    head_waits want b o out now left refl short
    (neither_of (leb 1 (length o)) (has_header o) (flags_fault b (flags o)) (size_fault b (flags o) (size o)) (flags_fine (p.place + (n + length body)) p.start (body ∷ []) (flags o) m (omega arith)) (no_header o short)) same kept

-- ---- the octet that ends a header

-- what is kept of a header
pub unknown_left : (p : Progress) → p.expected ≡ expect.Traffic → p.partial.header ≡ None → left_of p ≡ p.partial.head
unknown_left p traffic unknown = head_left p p.partial p.partial.head traffic refl (p.partial.apart unknown)

-- the first of some octets
first_of : (o front later : List ℕ) → front ≡ take 1 o → length front ≡ 1 → later ≡ drop 1 o → o ≡ get_or o 0 0 ∷ later
first_of [] front later p q r = absurd (omega (arith, ap length p, q))
first_of (x ∷ o) front later p q r = ap (λ (y : List ℕ). x ∷ y) (sym r)

-- what comes after a header is read by a reader that has it
headed_on : (c : Came) (p : Progress) (q : Partial) (now : Progress) (h : Header) (x : ℕ) (later o : List ℕ) → p.expected ≡ expect.Traffic → p.partial.header ≡ None → q.head ≡ p.partial.head ++ x ∷ [] → q.header ≡ Some h → q.body ≡ []
    → 0 < h.size → header_fault (before_of p) q.head ≡ None → o ≡ x ∷ later → Brings c (record p { partial = q }) now later → Brings c p now o
headed_on c p q now h x later o traffic unknown is known none some ok parts brings = λ want out w.
    let b = before_of p in
    let left' : left_of (record p { partial = q }) ≡ q.head = head_left p q q.head traffic refl none in
    let waits : Waits want b (left_of (record p { partial = q })) = rw left' (waits-header want b q.head h (in_frames b traffic) ok (sym q.known ∙ known) q.within some) in
    let same : left_of p ++ o ≡ left_of (record p { partial = q }) ++ later =
    ap (λ (y : List ℕ). y ++ o) (unknown_left p traffic unknown) ∙ ap (λ (y : List ℕ). p.partial.head ++ y) parts ∙ sym (append_assoc p.partial.head (x ∷ []) later) ∙ ap (λ (y : List ℕ). y ++ later) (sym is ∙ sym left') in
    rw same (brings want out waits)

-- the octet that ends a header, and what comes after it
pub ended_on : (c : Came) (p : Progress) (q : Partial) (now : Progress) (h : Header) (head o front later : List ℕ) → p.expected ≡ expect.Traffic → p.partial.header ≡ None → q.head ≡ head → q.header ≡ Some h → q.body ≡ [] → head ≡ p.partial.head ++ get_or o 0 0 ∷ []
    → header_fault (before_of p) head ≡ None → front ≡ take 1 o → length front ≡ 1 → later ≡ drop 1 o → Brings c (record p { partial = q }) now later → Brings c p now o
ended_on c p q now h head o front later traffic unknown same known none is ok at one after brings =
    headed_on c p q now h (get_or o 0 0) later o traffic unknown (same ∙ is) known none (omega (arith, q.unfinished h known)) (ap (λ (x : List ℕ). header_fault (before_of p) x) same ∙ ok) (first_of o front later at one after) brings
