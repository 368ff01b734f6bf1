-- What is known of the octets so far stays when more come.
use Rattle.std.proofs.Common.{◌≡◌, ℕ, ◌≤◌, Bool, true, false, cond, leb, List, ◌++◌, length, take, drop, get_or, refl, ap, ◌∙◌, arith}
use Rattle.std.specs.Int.{w64, from_be_bytes}
use Rattle.std.proofs.lemmas.Bool.{and_parts, and_from, leb-true, le-leb}
use Rattle.std.proofs.lemmas.List.{length-append, length-drop, take-append-le, drop-append-le, get_or_append_left}
use Rattle.zre_zmtp.specs.Frame.{flags, header_len, has_header, size, frame_len, is_whole, body, is_long}

pub flags-more : (o p : List ℕ) → 1 ≤ length o → flags (o ++ p) ≡ flags o
flags-more o p h = get_or_append_left o p 0 0 (omega (arith, h))

-- the header is there
pub record Headed (o : List ℕ) : Type 0 where
  pub some : 1 ≤ length o
  pub all : header_len o ≤ length o

pub headed : (o : List ℕ) → has_header o ≡ true → Headed o
headed o h = let p = and_parts (leb 1 (length o)) (leb (header_len o) (length o)) h in record { some = leb-true _ _ p.0; all = leb-true _ _ p.1 }

pub has_header-from : (o : List ℕ) → Headed o → has_header o ≡ true
has_header-from o h = and_from _ _ (le-leb _ _ h.some) (le-leb _ _ h.all)

pub header_len-more : (o p : List ℕ) → 1 ≤ length o → header_len (o ++ p) ≡ header_len o
header_len-more o p h = ap (λ f. cond (is_long f) 9 2) (flags-more o p h)

pub Headed-more : (o p : List ℕ) → Headed o → Headed (o ++ p)
Headed-more o p h = record { some = omega (arith, h.some, length-append o p); all = rw (header_len-more o p h.some) (omega (arith, h.all, length-append o p)) }

long-more : (o p : List ℕ) → 9 ≤ length o → take 8 (drop 1 (o ++ p)) ≡ take 8 (drop 1 o)
long-more o p h =
    let a : 1 ≤ length o = omega (arith, h) in
    let b : 8 ≤ length (drop 1 o) = omega (arith, h, length-drop 1 o) in
    rw (drop-append-le 1 o p a) (take-append-le 8 (drop 1 o) p b)

size-by : (l : Bool) (o p : List ℕ) → cond l 9 2 ≤ length o
    → cond l (from_be_bytes w64 (take 8 (drop 1 (o ++ p)))) (get_or (o ++ p) 1 0) ≡ cond l (from_be_bytes w64 (take 8 (drop 1 o))) (get_or o 1 0)
size-by true o p h = ap (λ t. from_be_bytes w64 t) (long-more o p h)
size-by false o p h = get_or_append_left o p 0 1 (omega (arith, h))

pub size-more : (o p : List ℕ) → Headed o → size (o ++ p) ≡ size o
size-more o p h =
    ap (λ f. cond (is_long f) (from_be_bytes w64 (take 8 (drop 1 (o ++ p)))) (get_or (o ++ p) 1 0)) (flags-more o p h.some)
    ∙ size-by (is_long (flags o)) o p h.all

pub frame_len-more : (o p : List ℕ) → Headed o → frame_len (o ++ p) ≡ frame_len o
frame_len-more o p h = rw (header_len-more o p h.some, size-more o p h) refl

-- the frame is whole
pub record IsWhole (o : List ℕ) : Type 0 where
  pub header : Headed o
  pub rest : frame_len o ≤ length o

pub whole : (o : List ℕ) → is_whole o ≡ true → IsWhole o
whole o h = let p = and_parts (has_header o) (leb (frame_len o) (length o)) h in record { header = headed o p.0; rest = leb-true _ _ p.1 }

pub is_whole-from : (o : List ℕ) → IsWhole o → is_whole o ≡ true
is_whole-from o h = and_from _ _ (has_header-from o h.header) (le-leb _ _ h.rest)

pub IsWhole-more : (o p : List ℕ) → IsWhole o → IsWhole (o ++ p)
IsWhole-more o p h = record { header = Headed-more o p h.header; rest = rw (frame_len-more o p h.header) (omega (arith, h.rest, length-append o p)) }

pub body-more : (o p : List ℕ) → IsWhole o → body (o ++ p) ≡ body o
body-more o p h =
    let a : header_len o ≤ length o = h.header.all in
    let b : size o ≤ length (drop (header_len o) o) = omega (arith, h.rest, length-drop (header_len o) o) in
    rw (size-more o p h.header, header_len-more o p h.header.some, drop-append-le (header_len o) o p a) (take-append-le (size o) (drop (header_len o) o) p b)
