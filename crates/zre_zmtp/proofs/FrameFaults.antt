-- A frame of which the header and the body stand apart.
use Rattle.std.proofs.Common.{◌≡◌, ◌≢◌, ℕ, ◌+◌, ◌==◌, ◌≤◌, ◌<◌, Bool, true, false, cond, leb, List, [], ◌∷◌, ◌++◌, length, take, drop, get_or, Option, Some, None, refl, sym, ap, ◌∙◌, arith, inl, inr, option_map}
use Rattle.std.specs.Option.{option_or}
use Rattle.std.proofs.lemmas.Bool.{le-leb, lt-leb, and_left, and_right, and_cases, cases_Bool, cases_lt, leb-false}
use Rattle.std.proofs.lemmas.Option.{cond_some, none-some}
use Rattle.std.proofs.lemmas.List.{length-append, take_all, drop_at, take-append-drop, length-take-le}
use Rattle.zre_zmtp.specs.declared.fault.ZmtpWhy.{ZmtpWhy}
use Rattle.zre_zmtp.specs.declared.header.Header.{Header}
use Rattle.zre_zmtp.specs.declared.partial.Partial.{Partial}
use Rattle.zre_zmtp.specs.declared.progress.Progress.{Progress}
use Rattle.zre_zmtp.specs.declared.expected.Expected.{Expected}
use Rattle.zre_zmtp.specs.declared.expected.Expected.TheVariants as expect
use Rattle.zre_zmtp.specs.Frame.{flags, header_len, has_header, size, frame_len, is_whole, body, header_of, is_long}
use Rattle.zre_zmtp.specs.Stream.{Want, Before, once, flags_fault, size_fault, body_fault, frame_why, frame_fault, fault_of, fault_at, whole_len, what_of, said, start_of, opened_with, opened_by, item}
use Rattle.zre_zmtp.specs.Run.{after, next_expected}
use Rattle.zre_zmtp.specs.Shown.{header_fault, frame_item, frame_after, left_by, left_of, room, Waits}
use Rattle.zre_zmtp.proofs.KnownHeadersStay.{flags-more, Headed, headed, has_header-from, Headed-more, size-more, header_len-more, IsWhole, is_whole-from}
use Rattle.zre_zmtp.proofs.MoreOfOnePart.{HeadFine, HeadFine-more, head_fine, why_after, once-true}
use Rattle.zre_zmtp.proofs.OctetsCutIntoParts.{cases_Option}

-- ---- where a frame is expected

pub fault-frame : (e : Expected) (want : Want) (b : Before) (o : List ℕ) → e ≢ expect.Greeting → fault_at e want b o ≡ frame_fault want b o
fault-frame expect.Greeting want b o h = absurd (h refl)
fault-frame expect.Ready want b o h = refl
fault-frame expect.Traffic want b o h = refl

pub whole-frame : (e : Expected) (o : List ℕ) → e ≢ expect.Greeting → whole_len e o ≡ cond (is_whole o) (Some (frame_len o)) None
whole-frame expect.Greeting o h = absurd (h refl)
whole-frame expect.Ready o h = refl
whole-frame expect.Traffic o h = refl

pub what-frame : (e : Expected) (bodies : List (List ℕ)) (part : List ℕ) → e ≢ expect.Greeting → what_of e bodies part ≡ said e bodies (flags part) (size part) (body part)
what-frame expect.Greeting bodies part h = absurd (h refl)
what-frame expect.Ready bodies part h = refl
what-frame expect.Traffic bodies part h = refl

pub next-frame : (e : Expected) → e ≢ expect.Greeting → next_expected e ≡ expect.Traffic
next-frame expect.Greeting h = absurd (h refl)
next-frame expect.Ready h = refl
next-frame expect.Traffic h = refl

-- ---- a header, and octets after it

pub record IsHeader (h : Header) (head : List ℕ) : Type 0 where
  pub headed : Headed head
  pub exact : length head ≡ header_len head
  pub flags_is : flags head ≡ h.flags
  pub size_is : size head ≡ h.size

pub is_header : (h : Header) (head : List ℕ) → header_of head ≡ Some h → length head ≤ header_len head → IsHeader h head
is_header h head e within =
    let p = cond_some (has_header head) (record { flags = flags head; size = size head }) h e in
    let there : Headed head = headed head p.0 in
    let exact : length head ≡ header_len head = omega (arith, within, there.all) in
    record { headed = there; exact = exact; flags_is = ap (λ (x : Header). x.flags) p.1; size_is = ap (λ (x : Header). x.size) p.1 }

pub framed-flags : (h : Header) (head o : List ℕ) → IsHeader h head → flags (head ++ o) ≡ h.flags
framed-flags h head o is = flags-more head o is.headed.some ∙ is.flags_is

pub framed-size : (h : Header) (head o : List ℕ) → IsHeader h head → size (head ++ o) ≡ h.size
framed-size h head o is = size-more head o is.headed ∙ is.size_is

pub framed-header_len : (h : Header) (head o : List ℕ) → IsHeader h head → header_len (head ++ o) ≡ length head
framed-header_len h head o is = header_len-more head o is.headed.some ∙ sym is.exact

pub framed-len : (h : Header) (head o : List ℕ) → IsHeader h head → frame_len (head ++ o) ≡ length head + h.size
framed-len h head o is = let a = framed-header_len h head o is in let b = framed-size h head o is in omega (arith, a, b)

pub framed-body : (h : Header) (head o : List ℕ) → IsHeader h head → length o ≡ h.size → body (head ++ o) ≡ o
framed-body h head o is e =
    let n : size (head ++ o) ≡ length o = framed-size h head o is ∙ sym e in
    ap (λ k. take k (drop (header_len (head ++ o)) (head ++ o))) n
    ∙ ap (λ k. take (length o) (drop k (head ++ o))) (framed-header_len h head o is)
    ∙ ap (λ l. take (length o) l) (drop_at head o (length head) refl)
    ∙ take_all (length o) o (omega arith)

pub framed-whole : (h : Header) (head o : List ℕ) → IsHeader h head → length o ≡ h.size → IsWhole (head ++ o)
framed-whole h head o is e =
    let n = framed-len h head o is in
    record { header = Headed-more head o is.headed; rest = omega (arith, n, e, length-append head o) }

pub framed-waits : (h : Header) (head o : List ℕ) → IsHeader h head → length o < h.size → is_whole (head ++ o) ≡ false
framed-waits h head o is lt =
    let n = framed-len h head o is in
    and_right (has_header (head ++ o)) (leb (frame_len (head ++ o)) (length (head ++ o))) (lt-leb (frame_len (head ++ o)) (length (head ++ o)) (omega (arith, n, lt, length-append head o)))

pub header_low : (l : Bool) → 2 ≤ cond l 9 2
header_low true = omega arith
header_low false = omega arith

header_high : (l : Bool) → cond l 9 2 ≤ 9
header_high true = omega arith
header_high false = omega arith

-- the header at the front of some octets, apart from what stands after it
pub record HeadOf (h : Header) (o head later : List ℕ) : Type 0 where
  pub header : header_of head ≡ Some h
  pub within : length head ≤ header_len head
  pub whole : o ≡ head ++ later
  pub exact : length head ≡ header_len o

pub head_of : (h : Header) (o head later : List ℕ) → header_of o ≡ Some h → head ≡ take (header_len o) o → later ≡ drop (header_len o) o → HeadOf h o head later
head_of h o head later e p q =
    let said = cond_some (has_header o) (record { flags = flags o; size = size o }) h e in
    let there : Headed o = headed o said.0 in
    let whole : o ≡ head ++ later = sym (take-append-drop (header_len o) o) ∙ ap (λ (x : List ℕ). x ++ drop (header_len o) o) (sym p) ∙ ap (λ (x : List ℕ). head ++ x) (sym q) in
    let exact : length head ≡ header_len o = ap length p ∙ length-take-le (header_len o) o there.all in
    let some : 1 ≤ length head = omega (arith, exact, header_low (is_long (flags o))) in
    let same_len : header_len o ≡ header_len head = ap header_len whole ∙ header_len-more head later some in
    let headed_alone : Headed head = record { some = some; all = omega (arith, exact, same_len) } in
    let same_flags : flags o ≡ flags head = ap flags whole ∙ flags-more head later some in
    let same_size : size o ≡ size head = ap size whole ∙ size-more head later headed_alone in
    let alone : header_of head ≡ Some (record { flags = flags head; size = size head }) = ap (λ (t : Bool). let x : Header = record { flags = flags head; size = size head } in cond t (Some x) None) (has_header-from head headed_alone) in
    let one : (let x : Header = record { flags = flags head; size = size head } in x) ≡ record { flags = flags o; size = size o } =
    ap (λ (f : ℕ). let x : Header = record { flags = f; size = size head } in x) (sym same_flags) ∙ ap (λ (n : ℕ). let x : Header = record { flags = flags o; size = n } in x) (sym same_size) in
    record { header = alone ∙ ap (λ (x : Header). Some x) (one ∙ said.1); within = omega (arith, exact, same_len); whole = whole; exact = exact }

-- ---- its faults

both_none : (a c : Option ZmtpWhy) → option_or a c ≡ None → (a ≡ None) × (c ≡ None)
both_none None c e = (refl, e)
both_none (Some x) c e = absurd (none-some x (sym e))

-- a header without fault, and what stands after it
pub header_fine : (b : Before) (head o : List ℕ) → Headed head → header_fault b head ≡ None → HeadFine b (head ++ o)
header_fine b head o h e =
    let p = both_none (once (leb 1 (length head)) (flags_fault b (flags head))) (once (has_header head) (size_fault b (flags head) (size head))) e in
    HeadFine-more b head o
    (record { header = h; flags_fine = sym (once-true _ _ (le-leb _ _ h.some)) ∙ p.0; size_fine = sym (once-true _ _ (has_header-from head h)) ∙ p.1 })

pub neither : (t u : Bool) (a c : Option ZmtpWhy) → a ≡ None → c ≡ None → option_or (once t a) (once u c) ≡ None
neither true true a c p q = rw (p, q) refl
neither true false a c p q = rw p refl
neither false true a c p q = q
neither false false a c p q = refl

-- all that a reader asks of a whole frame
pub record IsFramed (want : Want) (b : Before) (h : Header) (o bytes : List ℕ) (len : ℕ) : Type 0 where
  pub fault : fault_of want b bytes ≡ option_map (λ reason. record { why = reason; place = b.place }) (body_fault want b h.flags o)
  pub whole : whole_len b.expected bytes ≡ Some (length bytes)
  pub item : item b bytes ≡ frame_item b h o len
  pub after : after b bytes ≡ frame_after b h o len

item-frame : (b : Before) (h : Header) (o bytes : List ℕ) (len : ℕ) → b.expected ≢ expect.Greeting → flags bytes ≡ h.flags → size bytes ≡ h.size → body bytes ≡ o → length bytes ≡ len
    → item b bytes ≡ frame_item b h o len
unfolding item
item-frame b h o bytes len frame f n is l =
    ap (λ what. option_map (λ says. record { start = start_of b.expected b (flags bytes); end = b.place + length bytes; what = says }) what) (what-frame b.expected b.opened bytes frame)
    ∙ ap (λ x. option_map (λ says. record { start = start_of b.expected b (flags bytes); end = b.place + length bytes; what = says }) (said b.expected b.opened (flags bytes) (size bytes) x)) is
    ∙ ap (λ x. option_map (λ says. record { start = start_of b.expected b (flags bytes); end = b.place + length bytes; what = says }) (said b.expected b.opened (flags bytes) x o)) n
    ∙ ap (λ x. option_map (λ says. record { start = start_of b.expected b x; end = b.place + length bytes; what = says }) (said b.expected b.opened x h.size o)) f
    ∙ ap (λ x. option_map (λ says. record { start = start_of b.expected b h.flags; end = b.place + x; what = says }) (said b.expected b.opened h.flags h.size o)) l

after-by : (b : Before) (bodies bodies' : List (List ℕ)) (e e' : Expected) (len len' : ℕ) → bodies ≡ bodies' → e ≡ e' → len ≡ len'
    → (let x : Before = record { expected = e; place = b.place + len; opened = bodies; start = cond (length bodies == 0) (b.place + len) b.start } in x)
    ≡ record { expected = e'; place = b.place + len'; opened = bodies'; start = cond (length bodies' == 0) (b.place + len') b.start }
after-by b bodies bodies' e e' len len' p q r = rw (p, q, r) refl

opened-frame : (b : Before) (h : Header) (o bytes : List ℕ) → flags bytes ≡ h.flags → body bytes ≡ o → opened_with b.expected b.opened bytes ≡ opened_by b.expected b.opened h.flags o
opened-frame b h o bytes f is = ap (λ x. opened_by b.expected b.opened (flags bytes) x) is ∙ ap (λ x. opened_by b.expected b.opened x o) f

pub is_framed : (want : Want) (b : Before) (h : Header) (head o : List ℕ) → b.expected ≢ expect.Greeting → header_of head ≡ Some h → length head ≤ header_len head → length o ≡ h.size → header_fault b head ≡ None
    → IsFramed want b h o (head ++ o) (length head + length o)
is_framed want b h head o frame e within n none =
    let is = is_header h head e within in
    let w = framed-whole h head o is n in
    let t = is_whole-from (head ++ o) w in
    let f = framed-flags h head o is in
    let c = framed-body h head o is n in
    let l = length-append head o in
    let why : frame_why want b (head ++ o) ≡ body_fault want b h.flags o =
    why_after want b (head ++ o) (header_fine b head o is.headed none) ∙ once-true _ _ t ∙ ap (λ x. body_fault want b (flags (head ++ o)) x) c ∙ ap (λ x. body_fault want b x o) f in
    let len : frame_len (head ++ o) ≡ length (head ++ o) = framed-len h head o is ∙ ap (λ k. length head + k) (sym n) ∙ sym l in
    record {
      fault = fault-frame b.expected want b (head ++ o) frame ∙ ap (λ x. option_map (λ reason. record { why = reason; place = b.place }) x) why;
      whole = whole-frame b.expected (head ++ o) frame ∙ ap (λ x. cond x (Some (frame_len (head ++ o))) None) t ∙ ap (λ k. Some k) len;
      item = item-frame b h o (head ++ o) (length head + length o) frame f (framed-size h head o is) c l;
      after = after-by b _ _ _ _ _ _ (opened-frame b h o (head ++ o) f c) (next-frame b.expected frame) l;
    }

-- ---- the octets that a reader keeps

pub left-greeting : (e : Expected) (greeting head o : List ℕ) → e ≡ expect.Greeting → left_by e greeting head o ≡ greeting
left-greeting expect.Greeting greeting head o h = refl
left-greeting expect.Ready greeting head o h = absurd cc
left-greeting expect.Traffic greeting head o h = absurd cc

pub left-frame : (e : Expected) (greeting head o : List ℕ) → e ≢ expect.Greeting → left_by e greeting head o ≡ head ++ o
left-frame expect.Greeting greeting head o h = absurd (h refl)
left-frame expect.Ready greeting head o h = refl
left-frame expect.Traffic greeting head o h = refl

-- the same by what stands for the frame that isn't whole
pub left-partial : (p : Progress) (part : Partial) → p.expected ≢ expect.Greeting → part ≡ p.partial → left_of p ≡ part.head ++ part.body
left-partial p part frame was = left-frame p.expected p.greeting _ _ frame ∙ ap (λ (x : Partial). x.head ++ x.body) (sym was)

pub left-nothing : (e : Expected) (greeting head o : List ℕ) → e ≡ expect.Traffic → head ≡ [] → o ≡ [] → left_by e greeting head o ≡ []
left-nothing expect.Greeting greeting head o h p q = absurd cc
left-nothing expect.Ready greeting head o h p q = absurd cc
left-nothing expect.Traffic greeting head o h p q = rw (p, q) refl

-- the same where the frame that isn't whole stayed as it was
pub left-none : (was now : Progress) → was.partial.head ≡ [] → was.partial.body ≡ [] → now.partial ≡ was.partial → now.expected ≡ expect.Traffic → left_of now ≡ []
left-none was now no_head no_body same next = left-nothing now.expected now.greeting _ _ next (ap (λ (x : Partial). x.head) same ∙ no_head) (ap (λ (x : Partial). x.body) same ∙ no_body)

-- ---- one octet more of a header

pub no_header : (o : List ℕ) → header_of o ≡ None → has_header o ≡ false
no_header o e =
    elim (cases_Bool (has_header o)) [
      | inr f ↦ f
      | inl t ↦ (let said : Header = record { flags = flags o; size = size o } in absurd (none-some said (sym e ∙ ap (λ (x : Bool). cond x (Some said) None) t)))
    ]

pub header-short : (head : List ℕ) → header_of head ≡ None → length head ≤ header_len head → length head < 9
header-short head e within =
    elim (and_cases (leb 1 (length head)) (leb (header_len head) (length head)) (no_header head e)) [
      | inl f ↦ omega (arith, leb-false _ _ f)
      | inr f ↦ omega (arith, leb-false _ _ f, header_high (is_long (flags head)))
    ]

pub header-within : (head o : List ℕ) (x : ℕ) → header_of head ≡ None → length head ≤ header_len head → o ≡ head ++ x ∷ [] → length o ≤ header_len o
header-within head o x e within is =
    let l : length o ≡ length head + 1 = ap length is ∙ length-append head (x ∷ []) in
    elim (and_cases (leb 1 (length head)) (leb (header_len head) (length head)) (no_header head e)) [
      | inl f ↦ omega (arith, leb-false _ _ f, l, header_low (is_long (flags o)))
      | inr f ↦ elim (cases_lt 0 (length head)) [
        | inl some ↦ (let same : header_len o ≡ header_len head = ap header_len is ∙ header_len-more head (x ∷ []) (omega (arith, some)) in omega (arith, leb-false _ _ f, l, same))
        | inr none ↦ omega (arith, none, l, header_low (is_long (flags o)))
      ]
    ]

option_or-first : (a c rest : Option ZmtpWhy) (r : ZmtpWhy) → option_or a c ≡ Some r → option_or a (option_or c rest) ≡ Some r
option_or-first None None rest r e = absurd (none-some r e)
option_or-first None (Some x) rest r e = e
option_or-first (Some x) c rest r e = e

pub header-refused : (want : Want) (b : Before) (o : List ℕ) (r : ZmtpWhy) → b.expected ≢ expect.Greeting → header_fault b o ≡ Some r → fault_of want b o ≡ Some (record { why = r; place = b.place })
unfolding frame_why
header-refused want b o r frame e =
    fault-frame b.expected want b o frame
    ∙ ap (λ x. option_map (λ reason. record { why = reason; place = b.place }) x)
    (option_or-first (once (leb 1 (length o)) (flags_fault b (flags o))) (once (has_header o) (size_fault b (flags o) (size o))) (once (is_whole o) (body_fault want b (flags o) (body o))) r e)

option_or-none : (a c : Option ZmtpWhy) (t : Bool) (rest : Option ZmtpWhy) → option_or a c ≡ None → t ≡ false → option_or a (option_or c (once t rest)) ≡ None
option_or-none a c t rest e f = let p = both_none a c e in rw (p.0, p.1, f) refl

-- no more than a header, or less, and no fault in it
waits_at_header : (want : Want) (b : Before) (o : List ℕ) → b.expected ≢ expect.Greeting → header_fault b o ≡ None → is_whole o ≡ false → Waits want b o
unfolding frame_why
waits_at_header want b o frame fine not_whole =
    record {
      faultless = fault-frame b.expected want b o frame
          ∙ ap (λ x. option_map (λ reason. record { why = reason; place = b.place }) x)
          (option_or-none (once (leb 1 (length o)) (flags_fault b (flags o))) (once (has_header o) (size_fault b (flags o) (size o))) (is_whole o) (body_fault want b (flags o) (body o)) fine not_whole);
      partial = whole-frame b.expected o frame ∙ ap (λ t. cond t (Some (frame_len o)) None) not_whole;
    }

pub waits-no_header : (want : Want) (b : Before) (o : List ℕ) → b.expected ≢ expect.Greeting → header_fault b o ≡ None → header_of o ≡ None → Waits want b o
waits-no_header want b o frame fine e = waits_at_header want b o frame fine (and_left (has_header o) (leb (frame_len o) (length o)) (no_header o e))

pub waits-header : (want : Want) (b : Before) (o : List ℕ) (h : Header) → b.expected ≢ expect.Greeting → header_fault b o ≡ None → header_of o ≡ Some h → length o ≤ header_len o → 0 < h.size → Waits want b o
waits-header want b o h frame fine e within some =
    let is = is_header h o e within in
    waits_at_header want b o frame fine (and_right (has_header o) (leb (frame_len o) (length o)) (lt-leb (frame_len o) (length o) (omega (arith, within, some, is.size_is))))

-- ---- octets more of a body

pub why_none : (want : Want) (b : Before) (o : List ℕ) → frame_fault want b o ≡ None → frame_why want b o ≡ None
why_none want b o e =
    elim (cases_Option (frame_why want b o)) [
      | inl n ↦ n
      | inr p ↦ absurd (none-some (record { why = p.0; place = b.place }) (sym e ∙ ap (λ x. option_map (λ reason. record { why = reason; place = b.place }) x) p.1))
    ]

-- the header of a frame without fault has none
pub fine-from_waits : (want : Want) (b : Before) (h : Header) (head o : List ℕ) → b.expected ≢ expect.Greeting → IsHeader h head → Waits want b (head ++ o) → header_fault b head ≡ None
fine-from_waits want b h head o frame is w =
    let f : HeadFine b (head ++ o) = head_fine want b (head ++ o) (Headed-more head o is.headed) (why_none want b (head ++ o) (sym (fault-frame b.expected want b (head ++ o) frame) ∙ w.faultless)) in
    let fl : flags (head ++ o) ≡ flags head = flags-more head o is.headed.some in
    let flags_fine : flags_fault b (flags head) ≡ None = ap (λ x. flags_fault b x) (sym fl) ∙ f.flags_fine in
    let size_fine : size_fault b (flags head) (size head) ≡ None = ap (λ x. size_fault b x (size head)) (sym fl) ∙ ap (λ x. size_fault b (flags (head ++ o)) x) (sym (size-more head o is.headed)) ∙ f.size_fine in
    neither (leb 1 (length head)) (has_header head) (flags_fault b (flags head)) (size_fault b (flags head) (size head)) flags_fine size_fine

pub waits-body : (want : Want) (b : Before) (h : Header) (head o : List ℕ) → b.expected ≢ expect.Greeting → IsHeader h head → header_fault b head ≡ None → length o < h.size → Waits want b (head ++ o)
waits-body want b h head o frame is fine lt =
    let not_whole = framed-waits h head o is lt in
    record {
      faultless = fault-frame b.expected want b (head ++ o) frame
          ∙ ap (λ x. option_map (λ reason. record { why = reason; place = b.place }) x)
          (why_after want b (head ++ o) (header_fine b head o is.headed fine) ∙ ap (λ t. once t (body_fault want b (flags (head ++ o)) (body (head ++ o)))) not_whole);
      partial = whole-frame b.expected (head ++ o) frame ∙ ap (λ t. cond t (Some (frame_len (head ++ o))) None) not_whole;
    }

-- ---- how many octets a turn takes

pub room-greeting : (e : Expected) (h : Option Header) (o : List ℕ) → e ≡ expect.Greeting → room e h o ≡ 1
room-greeting expect.Greeting h o is = refl
room-greeting expect.Ready h o is = absurd cc
room-greeting expect.Traffic h o is = absurd cc

pub room-header : (e : Expected) (h : Option Header) (o : List ℕ) → h ≡ None → room e h o ≡ 1
room-header expect.Greeting h o is = refl
room-header expect.Ready h o is = rw is refl
room-header expect.Traffic h o is = rw is refl

pub one_octet : (o : List ℕ) (n : ℕ) → 0 < length o → length o ≤ n → n ≡ 1 → o ≡ get_or o 0 0 ∷ []
one_octet [] n some most is = absurd (omega (arith, some))
one_octet (x ∷ []) n some most is = refl
one_octet (x ∷ y ∷ o) n some most is = absurd (omega (arith, most, is))
