-- Frames in their shortest form are read as the message that they spell.
use Rattle.std.proofs.Common.{◌≡◌, ℕ, ◌+◌, ◌^◌, ◌≤◌, ◌<◌, Bool, true, false, cond, leb, ltb, eqb, List, [], ◌∷◌, ◌++◌, length, take, drop, get_or, Option, Some, None, refl, ap, ◌∙◌, arith, inl, inr, append_assoc}
use Rattle.std.specs.Prelude.{sum_by}
use Rattle.std.specs.Int.{w64, from_be_bytes, to_be_bytes}
use Rattle.std.proofs.lemmas.Bool.{cases_Bool, le-leb, le-ltb}
use Rattle.std.proofs.lemmas.List.{length-append, take_all, take_at, drop_at}
use Rattle.std.proofs.lemmas.Nat.{from_be_bytes-to_be_bytes_8}
use Rattle.zre_zmtp.specs.Frame.{flags, header_len, has_header, size, frame_len, is_whole, body, is_long, is_message, has_more, is_flags}
use Rattle.zre_values.specs.Framing.{frame, frames}
use Rattle.zre_values.specs.declared.limits.TheConstants.{MESSAGE_FRAMES, MESSAGE_OCTETS}
use Rattle.std.specs.Option.{option_or}
use Rattle.std.proofs.lemmas.Bool.{lt-ltb, lt-leb, ne_eqb}
use Rattle.std.proofs.lemmas.List.Sums.{sum_by-append, sum_by-cons}
use Rattle.zre_zmtp.specs.declared.fault.ZmtpWhy.{ZmtpWhy}
use Rattle.zre_zmtp.specs.declared.item.Item.{Item}
use Rattle.zre_zmtp.specs.declared.item.What.TheVariants.{Message}
use Rattle.zre_zmtp.specs.declared.expected.Expected.TheVariants as expect
use Rattle.zre_zmtp.specs.Stream.{Want, Before, once, flags_fault, size_fault, body_fault, frame_why, part_len, item}
use Rattle.zre_zmtp.specs.Run.{with_item, after, run_all}
use Rattle.zre_zmtp.proofs.KnownHeadersStay.{IsWhole, is_whole-from, IsWhole-more, frame_len-more}
use Rattle.zre_zmtp.proofs.FaultsStay.{part_len-from, frame_why-whole}
use Rattle.zre_zmtp.proofs.WholeFrames.{run_all-some}

-- what a spelled frame is
pub record IsSpelled (more : Bool) (f x : List ℕ) : Type 0 where
  pub whole : IsWhole f
  pub length_is : frame_len f ≡ length f
  pub body_is : body f ≡ x
  pub size_is : size f ≡ length x
  pub flags_low : flags f < 4
  pub more_is : has_more (flags f) ≡ more

long_size : (bytes x : List ℕ) → length bytes ≡ 8 → from_be_bytes w64 (take 8 (bytes ++ x)) ≡ from_be_bytes w64 bytes
long_size bytes x e = ap (from_be_bytes w64) (take_at bytes x 8 e)

long_body : (flag : ℕ) (bytes x : List ℕ) → length bytes ≡ 8 → drop 9 (flag ∷ (bytes ++ x)) ≡ x
long_body flag bytes x e = drop_at bytes x 8 e

by_parts : (more : Bool) (f x : List ℕ) (h : ℕ) → header_len f ≡ h → size f ≡ length x → h ≤ length f → 1 ≤ length f → drop h f ≡ x → length f ≡ h + length x → flags f < 4 → has_more (flags f) ≡ more → IsSpelled more f x
by_parts more f x h header size_is room some rest len low m =
    let n : frame_len f ≡ length f = omega (arith, header, size_is, len) in
    record {
      whole = record { header = record { some = some; all = omega (arith, header, room) }; rest = omega (arith, n) };
      length_is = n;
      body_is = ap (λ k. take k (drop (header_len f) f)) size_is ∙ ap (λ k. take (length x) (drop k f)) header ∙ ap (take (length x)) rest ∙ take_all (length x) x (omega arith);
      size_is = size_is;
      flags_low = low;
      more_is = m;
    }

short_spelled : (more : Bool) (s : ℕ) (x : List ℕ) → is_long s ≡ false → s < 4 → has_more s ≡ more → IsSpelled more (s ∷ (length x ∷ x)) x
short_spelled more s x e low m =
    by_parts more (s ∷ (length x ∷ x)) x 2 (ap (λ l. cond l 9 2) e) (ap (λ l. cond l (from_be_bytes w64 (take 8 (drop 1 (s ∷ (length x ∷ x))))) (length x)) e) (omega arith) (omega arith) refl (omega arith) low m

long_by : (more : Bool) (s : ℕ) (bytes x : List ℕ) → length bytes ≡ 8 → from_be_bytes w64 bytes ≡ length x → is_long s ≡ true → s < 4 → has_more s ≡ more → IsSpelled more (s ∷ (bytes ++ x)) x
long_by more s bytes x eight size_is e low m =
    let len : length (bytes ++ x) ≡ 8 + length x = omega (arith, eight, length-append bytes x) in
    by_parts more (s ∷ (bytes ++ x)) x 9 (ap (λ l. cond l 9 2) e)
    (ap (λ l. cond l (from_be_bytes w64 (take 8 (bytes ++ x))) (get_or (s ∷ (bytes ++ x)) 1 0)) e ∙ long_size bytes x eight ∙ size_is)
    (omega (arith, len)) (omega arith) (long_body s bytes x eight) (omega (arith, len)) low m

pub last_spelled : (x : List ℕ) → length x < 2 ^ 64 → IsSpelled false (frame 0 x) x
last_spelled x lt =
    elim (cases_Bool (ltb (length x) 256)) [
      | inl t ↦ rw t (short_spelled false 0 x refl (omega arith) refl)
      | inr f ↦ rw f (long_by false 2 (to_be_bytes w64 (length x)) x refl (from_be_bytes-to_be_bytes_8 (length x) lt) refl (omega arith) refl)
    ]

pub more_spelled : (x : List ℕ) → length x < 2 ^ 64 → IsSpelled true (frame 1 x) x
more_spelled x lt =
    elim (cases_Bool (ltb (length x) 256)) [
      | inl t ↦ rw t (short_spelled true 1 x refl (omega arith) refl)
      | inr f ↦ rw f (long_by true 3 (to_be_bytes w64 (length x)) x refl (from_be_bytes-to_be_bytes_8 (length x) lt) refl (omega arith) refl)
    ]

-- in traffic
abbrev pub traffic : ℕ → List (List ℕ) → ℕ → Before
traffic place bodies start = record { expected = expect.Traffic; place = place; opened = bodies; start = start }

low_flags : (f : ℕ) → f < 4 → (is_flags f ≡ true) × (is_message f ≡ true)
low_flags f lt = (rw (le-leb f 4 (omega (arith, lt))) refl, lt-ltb f 4 lt)

no_rows : (f frames_so_far total n : ℕ) → is_flags f ≡ true → is_message f ≡ true → frames_so_far < MESSAGE_FRAMES → total + n ≤ MESSAGE_OCTETS
    → (leb MESSAGE_FRAMES frames_so_far ≡ false) × (ltb MESSAGE_OCTETS (total + n) ≡ false)
no_rows f k total n a b lt le = (lt-leb MESSAGE_FRAMES k lt, le-ltb MESSAGE_OCTETS (total + n) le)

once-none : (t : Bool) (a : Option ZmtpWhy) → a ≡ None → once t a ≡ None
once-none true a e = e
once-none false a e = refl

all_none : (t u v : Bool) (a c d : Option ZmtpWhy) → a ≡ None → c ≡ None → d ≡ None → option_or (once t a) (option_or (once u c) (once v d)) ≡ None
all_none t u v a c d p q r = rw (once-none t a p, once-none u c q, once-none v d r) refl

fine : (want : Want) (place start : ℕ) (bodies : List (List ℕ)) (more : Bool) (f x : List ℕ) → IsSpelled more f x → length bodies < MESSAGE_FRAMES → sum_by length bodies + length x ≤ MESSAGE_OCTETS
    → frame_why want (traffic place bodies start) f ≡ None
unfolding frame_why
fine want place start bodies more f x h count sum =
    let b = traffic place bodies start in
    let low = low_flags (flags f) h.flags_low in
    let flags_ok : flags_fault b (flags f) ≡ None = rw (low.0, low.1, lt-leb MESSAGE_FRAMES (length bodies) count) refl in
    let size_ok : size_fault b (flags f) (size f) ≡ None = rw (low.1, le-ltb MESSAGE_OCTETS (sum_by length bodies + size f) (omega (arith, sum, h.size_is))) refl in
    let body_ok : body_fault want b (flags f) (body f) ≡ None = rw low.1 refl in
    all_none (leb 1 (length f)) (has_header f) (is_whole f) _ _ _ flags_ok size_ok body_ok

taken : (want : Want) (place start : ℕ) (bodies : List (List ℕ)) (more : Bool) (f x rest : List ℕ) → IsSpelled more f x → length bodies < MESSAGE_FRAMES → sum_by length bodies + length x ≤ MESSAGE_OCTETS
    → part_len want (traffic place bodies start) (f ++ rest) ≡ Some (length f)
taken want place start bodies more f x rest h count sum =
    let b = traffic place bodies start in
    let why : frame_why want b (f ++ rest) ≡ None = frame_why-whole want b f rest h.whole ∙ fine want place start bodies more f x h count sum in
    let whole : is_whole (f ++ rest) ≡ true = is_whole-from (f ++ rest) (IsWhole-more f rest h.whole) in
    part_len-from want b (f ++ rest) (length f)
    (record { faultless = rw why refl; len = rw whole (ap (λ n. Some n) (frame_len-more f rest h.whole.header ∙ h.length_is)) })

-- ---- the message

last_item : (place start : ℕ) (bodies : List (List ℕ)) (f x : List ℕ) → IsSpelled false f x
    → (item (traffic place bodies start) f ≡ Some (record { start = start; end = place + length f; what = Message (bodies ++ x ∷ []) })) × (after (traffic place bodies start) f ≡ traffic (place + length f) [] (place + length f))
unfolding item
last_item place start bodies f x h =
    let low = low_flags (flags f) h.flags_low in
    (rw (low.1, h.more_is, h.body_is) refl, rw (low.1, h.more_is) refl)

more_item : (place start : ℕ) (bodies : List (List ℕ)) (f x : List ℕ) → IsSpelled true f x
    → (item (traffic place bodies start) f ≡ None) × (after (traffic place bodies start) f ≡ traffic (place + length f) (bodies ++ x ∷ []) start)
unfolding item
more_item place start bodies f x h =
    let low = low_flags (flags f) h.flags_low in
    let some : eqb (length (bodies ++ x ∷ [])) 0 ≡ false = ne_eqb _ _ (λ e. omega (arith, e, length-append bodies (x ∷ []))) in
    (rw (low.1, h.more_is) refl, rw (low.1, h.more_is, h.body_is, some) refl)

abbrev Limits : List (List ℕ) → List (List ℕ) → Type 0
Limits bodies frames = (length bodies + length frames ≤ MESSAGE_FRAMES) × (sum_by length bodies + sum_by length frames ≤ MESSAGE_OCTETS)

abbrev message_item : ℕ → ℕ → List (List ℕ) → Item
message_item start end bodies = record { start = start; end = end; what = Message bodies }

one_turn : (want : Want) (place start : ℕ) (bodies : List (List ℕ)) (more : Bool) (f x rest : List ℕ) → IsSpelled more f x → length bodies < MESSAGE_FRAMES → sum_by length bodies + length x ≤ MESSAGE_OCTETS
    → run_all want (traffic place bodies start) (f ++ rest) ≡ with_item (item (traffic place bodies start) f) (run_all want (after (traffic place bodies start) f) rest)
one_turn want place start bodies more f x rest h count sum =
    let b = traffic place bodies start in
    run_all-some want b (f ++ rest) (length f) (taken want place start bodies more f x rest h count sum)
    ∙ ap (λ p. with_item (item b p) (run_all want (after b p) (drop (length f) (f ++ rest)))) (take_at f rest (length f) refl)
    ∙ ap (λ r. with_item (item b f) (run_all want (after b f) r)) (drop_at f rest (length f) refl)

-- after whole messages, the frames of a message are read as that message
pub message_read : (want : Want) (place start : ℕ) (bodies : List (List ℕ)) (x : List ℕ) (f : List (List ℕ)) (rest : List ℕ) → length bodies + length (x ∷ f) ≤ MESSAGE_FRAMES → sum_by length bodies + sum_by length (x ∷ f) ≤ MESSAGE_OCTETS
    → run_all want (traffic place bodies start) (frames (x ∷ f) ++ rest)
    ≡ with_item (Some (message_item start (place + length (frames (x ∷ f))) (bodies ++ x ∷ f))) (run_all want (traffic (place + length (frames (x ∷ f))) [] (place + length (frames (x ∷ f)))) rest)
message_read want place start bodies x [] rest count sum =
    let s : sum_by length bodies + length x ≤ MESSAGE_OCTETS = omega (arith, sum, sum_by-cons length x []) in
    let h = last_spelled x (omega (arith, s)) in
    let i = last_item place start bodies (frame 0 x) x h in
    one_turn want place start bodies false (frame 0 x) x rest h (omega (arith, count)) s
    ∙ ap (λ o. with_item o (run_all want (after (traffic place bodies start) (frame 0 x)) rest)) i.0
    ∙ ap (λ b. with_item (Some (message_item start (place + length (frame 0 x)) (bodies ++ x ∷ []))) (run_all want b rest)) i.1
message_read want place start bodies x (y ∷ f) rest count sum =
    let s : sum_by length bodies + length x ≤ MESSAGE_OCTETS = omega (arith, sum, sum_by-cons length x (y ∷ f)) in
    let h = more_spelled x (omega (arith, s)) in
    let i = more_item place start bodies (frame 1 x) x h in
    let head = frame 1 x in
    let tail = frames (y ∷ f) in
    let count' : length (bodies ++ x ∷ []) + length (y ∷ f) ≤ MESSAGE_FRAMES = omega (arith, count, length-append bodies (x ∷ [])) in
    let sum' : sum_by length (bodies ++ x ∷ []) + sum_by length (y ∷ f) ≤ MESSAGE_OCTETS = omega (arith, sum, sum_by-append length bodies (x ∷ []), sum_by-cons length x (y ∷ f), sum_by-cons length x []) in
    let ih = message_read want (place + length head) start (bodies ++ x ∷ []) y f rest count' sum' in
    let end : place + length head + length tail ≡ place + length (head ++ tail) = omega (arith, length-append head tail) in
    ap (λ o. run_all want (traffic place bodies start) o) (append_assoc head tail rest)
    ∙ one_turn want place start bodies true head x (tail ++ rest) h (omega (arith, count)) s
    ∙ ap (λ o. with_item o (run_all want (after (traffic place bodies start) head) (tail ++ rest))) i.0
    ∙ ap (λ b. run_all want b (tail ++ rest)) i.1
    ∙ ih
    ∙ ap (λ e. with_item (Some (message_item start e ((bodies ++ x ∷ []) ++ y ∷ f))) (run_all want (traffic e [] e) rest)) end
    ∙ ap (λ l. with_item (Some (message_item start (place + length (head ++ tail)) l)) (run_all want (traffic (place + length (head ++ tail)) [] (place + length (head ++ tail))) rest)) (append_assoc bodies (x ∷ []) (y ∷ f))
