-- A message of one or two frames that lies whole at the front of octets.
use Rattle.std.proofs.Common.{◌≡◌, ◌≢◌, ℕ, ◌+◌, ◌<◌, ◌≤◌, Bool, true, false, leb, List, [], ◌∷◌, ◌++◌, length, take, drop, Option, Some, None, refl, sym, ap, subst, ◌∙◌, arith, append_assoc}
use Rattle.std.specs.Prelude.{sum_by, option_to_list, option_copied}
use Rattle.std.proofs.lemmas.Bool.{le-leb, le-ltb, lt-leb, ltb-true}
use Rattle.std.proofs.lemmas.List.{length-append, take-append-le, take_all}
use Rattle.std.proofs.lemmas.List.Sums.{sum_by-cons}
use Rattle.zre_values.specs.declared.limits.TheConstants.{MESSAGE_FRAMES, MESSAGE_OCTETS}
use Rattle.zre_zmtp.specs.declared.front.Front.{Front}
use Rattle.zre_zmtp.specs.declared.header.Header.{Header}
use Rattle.zre_zmtp.specs.declared.item.Item.{Item}
use Rattle.zre_zmtp.specs.declared.item.What.TheVariants.{Message}
use Rattle.zre_zmtp.specs.declared.expected.Expected.{Expected}
use Rattle.zre_zmtp.specs.declared.expected.Expected.TheVariants as expect
use Rattle.zre_zmtp.specs.Frame.{flags, header_len, has_header, size, header_of, is_message, has_more, is_flags}
use Rattle.zre_zmtp.specs.Front.{BeginsWith, Rests, passed, item_of, bodies_of, IsFront}
use Rattle.zre_zmtp.specs.Reading.{Reading, Reads, Adds}
use Rattle.zre_zmtp.specs.Shown.{header_fault, frame_item, frame_after, Advances}
use Rattle.zre_zmtp.specs.Stream.{Want, Kind, Before, flags_fault, size_fault}
use Rattle.zre_zmtp.proofs.ReadersFollowStreams.{fed}
use Rattle.zre_zmtp.proofs.FrameFaults.{HeadOf, head_of, IsHeader, is_header, is_framed, neither}
use Rattle.zre_zmtp.proofs.ItemsOfTwoPieces.{adds-more}
use Rattle.zre_zmtp.proofs.TurnsOfReaders.{frame_taken}

-- in traffic, with these bodies
abbrev pub in_traffic : ℕ → List (List ℕ) → ℕ → Before
in_traffic place bodies start = record { expected = expect.Traffic; place = place; opened = bodies; start = start }

abbrev reading_of : Before → Want → Reading
reading_of b want = record { before = b; left = []; spent = false; wanted = want }

-- a frame of a message has no fault in its header, where limits are kept
pub traffic_fine : (place start : ℕ) (bodies : List (List ℕ)) (h : Header) (head : List ℕ) → IsHeader h head → is_message h.flags ≡ true → length bodies < MESSAGE_FRAMES → sum_by length bodies + h.size ≤ MESSAGE_OCTETS
    → header_fault (in_traffic place bodies start) head ≡ None
traffic_fine place start bodies h head is m count sum =
    let b = in_traffic place bodies start in
    let low : is_flags h.flags ≡ true = rw (le-leb h.flags 4 (omega (arith, ltb-true h.flags 4 m))) refl in
    let flags_ok : flags_fault b h.flags ≡ None = rw (low, m, lt-leb MESSAGE_FRAMES (length bodies) count) refl in
    let size_ok : size_fault b h.flags h.size ≡ None = rw (m, le-ltb MESSAGE_OCTETS (sum_by length bodies + h.size) sum) refl in
    let flags_fine : flags_fault b (flags head) ≡ None = ap (λ f. flags_fault b f) is.flags_is ∙ flags_ok in
    let size_fine : size_fault b (flags head) (size head) ≡ None = ap (λ f. size_fault b f (size head)) is.flags_is ∙ ap (λ n. size_fault b h.flags n) is.size_is ∙ size_ok in
    neither (leb 1 (length head)) (has_header head) (flags_fault b (flags head)) (size_fault b (flags head) (size head)) flags_fine size_fine

pub not_greeting : expect.Traffic ≢ expect.Greeting
not_greeting e = cc

-- what a frame at the front of the octets o has
pub record IsFrame (h : Header) (head body rest o : List ℕ) : Type 0 where
  pub header : header_of head ≡ Some h
  pub within : length head ≤ header_len head
  pub whole : o ≡ (head ++ body) ++ rest
  pub some : 1 ≤ length head
  pub message : is_message h.flags ≡ true
  pub sized : length body ≡ h.size

pub frame_of : (h : Header) (body rest o : List ℕ) → BeginsWith h body rest o → IsFrame h (take (header_len o) o) body rest o
frame_of h body rest o w =
    let head = take (header_len o) o in
    let at : HeadOf h o head (drop (header_len o) o) = head_of h o head (drop (header_len o) o) w.header refl refl in
    let is = is_header h head at.header at.within in
    record { header = at.header; within = at.within; whole = w.whole ∙ sym (append_assoc head body rest); some = is.headed.some; message = w.message; sized = w.sized }

-- such a frame was read by a reader in traffic that has nothing left
frame_read : (want : Want) (kind : Kind) (before : List ℕ) (place start : ℕ) (bodies : List (List ℕ)) (h : Header) (head body rest o : List ℕ) → IsFrame h head body rest o → length bodies < MESSAGE_FRAMES
    → sum_by length bodies + length body ≤ MESSAGE_OCTETS → Reads want kind before (reading_of (in_traffic place bodies start) want)
    → let b = in_traffic place bodies start in
    Reads want kind (before ++ (head ++ body)) (reading_of (frame_after b h body (length head + length body)) want)
    × Adds want kind before (head ++ body) [] (option_to_list (frame_item b h body (length head + length body)))
frame_read want kind before place start bodies h head body rest o f count sum r =
    let b = in_traffic place bodies start in
    let now = frame_after b h body (length head + length body) in
    let new = option_to_list (frame_item b h body (length head + length body)) in
    let is = is_header h head f.header f.within in
    let ok = traffic_fine place start bodies h head is f.message count (omega (arith, sum, f.sized)) in
    let a : Advances want b (head ++ body) [] new now [] =
    frame_taken want b h head body (length head) [] new now [] (is_framed want b h head body not_greeting f.header f.within f.sized ok) (rw f.message refl) refl refl refl refl in
    fed want kind before (head ++ body) (reading_of b want) (reading_of now want) [] new r a refl refl

-- ---- a reader at rest

abbrev before_by : Expected → ℕ → List (List ℕ) → ℕ → Before
before_by e place bodies start = record { expected = e; place = place; opened = bodies; start = start }

abbrev reading_by : Before → List ℕ → Bool → Want → Reading
reading_by b l s w = record { before = b; left = l; spent = s; wanted = w }

resting : (want : Want) (kind : Kind) (before : List ℕ) (r : Reading) → Reads want kind before r → Rests r → r ≡ reading_of (in_traffic r.before.place [] r.before.start) want
resting want kind before r h at =
    let b : r.before ≡ in_traffic r.before.place [] r.before.start =
    ap (λ e. before_by e r.before.place r.before.opened r.before.start) at.traffic ∙ ap (λ (l : List (List ℕ)). before_by expect.Traffic r.before.place l r.before.start) at.nothing_open in
    ap (λ x. reading_by x r.left r.spent r.wanted) b ∙ ap (λ (l : List ℕ). reading_by (in_traffic r.before.place [] r.before.start) l r.spent r.wanted) at.nothing_left
    ∙ ap (λ s. reading_by (in_traffic r.before.place [] r.before.start) [] s r.wanted) h.unspent
    ∙ ap (λ w. reading_by (in_traffic r.before.place [] r.before.start) [] false w) h.wants

-- after the last frame of a message
pub last_after : (place start : ℕ) (bodies : List (List ℕ)) (h : Header) (body : List ℕ) (len : ℕ) → is_message h.flags ≡ true → has_more h.flags ≡ false
    → frame_after (in_traffic place bodies start) h body len ≡ in_traffic (place + len) [] (place + len)
last_after place start bodies h body len m e = rw (m, e) refl

pub last_item : (place start : ℕ) (bodies : List (List ℕ)) (h : Header) (body : List ℕ) (len : ℕ) → is_message h.flags ≡ true → has_more h.flags ≡ false
    → frame_item (in_traffic place bodies start) h body len ≡ Some (record { start = start; end = place + len; what = Message (bodies ++ body ∷ []) })
last_item place start bodies h body len m e = rw (m, e) refl

-- after the first of several
pub first_after : (place start : ℕ) (h : Header) (body : List ℕ) (len : ℕ) → is_message h.flags ≡ true → has_more h.flags ≡ true
    → frame_after (in_traffic place [] start) h body len ≡ in_traffic (place + len) (body ∷ []) start
first_after place start h body len m e = rw (m, e) refl

pub first_item : (place start : ℕ) (h : Header) (body : List ℕ) (len : ℕ) → is_message h.flags ≡ true → has_more h.flags ≡ true
    → frame_item (in_traffic place [] start) h body len ≡ None
first_item place start h body len m e = rw (m, e) refl

-- the front of octets
front_is : (n : ℕ) (o front rest : List ℕ) → o ≡ front ++ rest → n ≡ length front → take n o ≡ front
front_is n o front rest is at =
    ap (λ (x : List ℕ). take n x) is ∙ ap (λ k. take k (front ++ rest)) at ∙ take-append-le (length front) front rest (omega arith) ∙ take_all (length front) front (omega arith)

-- the octets of a whole message, as they were read
read_so : (want : Want) (kind : Kind) (before : List ℕ) (r : Reading) (f : Front) (o : List ℕ) (front : List ℕ) (end : ℕ) (bodies : List (List ℕ)) → Reads want kind before r → take f.len o ≡ front → r.before.place + f.len ≡ end → bodies_of f ≡ bodies
    → Reads want kind (before ++ front) (reading_of (in_traffic end [] end) want) × Adds want kind before front [] (record { start = r.before.start; end = end; what = Message bodies } ∷ [])
    → Reads want kind (before ++ take f.len o) (passed r f) × Adds want kind before (take f.len o) [] (item_of r f ∷ [])
read_so want kind before r f o front end bodies h is at same k =
    let now : reading_of (in_traffic end [] end) want ≡ passed r f = ap (λ e. reading_by (in_traffic e [] e) [] false want) (sym at) ∙ ap (λ w. reading_by (in_traffic (r.before.place + f.len) [] (r.before.place + f.len)) [] false w) (sym h.wants) in
    let item : (let x : Item = record { start = r.before.start; end = end; what = Message bodies } in x) ≡ item_of r f =
    ap (λ e. let x : Item = record { start = r.before.start; end = e; what = Message bodies } in x) (sym at)
    ∙ ap (λ (l : List (List ℕ)). let x : Item = record { start = r.before.start; end = r.before.place + f.len; what = Message l } in x) (sym same) in (
      subst (λ (x : List ℕ). Reads want kind (before ++ x) (passed r f)) (sym is) (subst (λ x. Reads want kind (before ++ front) x) now k.0),
      subst (λ (x : List ℕ). Adds want kind before x [] (item_of r f ∷ [])) (sym is) (subst (λ (i : Item). Adds want kind before front [] (i ∷ [])) item k.1),
    )

one_frame : (want : Want) (kind : Kind) (before : List ℕ) (r : Reading) (h : Header) (head body rest o : List ℕ) → IsFrame h head body rest o → has_more h.flags ≡ false → length body ≤ MESSAGE_OCTETS → Reads want kind before r → Rests r
    → let end = r.before.place + (length head + length body) in
    Reads want kind (before ++ (head ++ body)) (reading_of (in_traffic end [] end) want) × Adds want kind before (head ++ body) [] (record { start = r.before.start; end = end; what = Message (body ∷ []) } ∷ [])
one_frame want kind before r h head body rest o f last sum reads at =
    let len = length head + length body in
    let k = frame_read want kind before r.before.place r.before.start [] h head body rest o f (omega arith) (omega (arith, sum)) (subst (λ x. Reads want kind before x) (resting want kind before r reads at) reads) in (
      subst (λ b. Reads want kind (before ++ (head ++ body)) (reading_of b want)) (last_after r.before.place r.before.start [] h body len f.message last) k.0,
      subst (λ i. Adds want kind before (head ++ body) [] (option_to_list i)) (last_item r.before.place r.before.start [] h body len f.message last) k.1,
    )

two_frames : (want : Want) (kind : Kind) (before : List ℕ) (r : Reading) (h g : Header) (head body head' body' rest later o : List ℕ) → IsFrame h head body later o → IsFrame g head' body' rest later → has_more h.flags ≡ true → has_more g.flags ≡ false
    → length body + length body' ≤ MESSAGE_OCTETS → Reads want kind before r → Rests r
    → let end = (r.before.place + (length head + length body)) + (length head' + length body') in
    Reads want kind (before ++ ((head ++ body) ++ (head' ++ body'))) (reading_of (in_traffic end [] end) want)
    × Adds want kind before ((head ++ body) ++ (head' ++ body')) [] (record { start = r.before.start; end = end; what = Message (body ∷ body' ∷ []) } ∷ [])
two_frames want kind before r h g head body head' body' rest later o f f' more last sum reads at =
    let len = length head + length body in
    let place = r.before.place + len in
    let p = head ++ body in
    let q = head' ++ body' in
    let len' = length head' + length body' in
    let end = place + len' in
    let k = frame_read want kind before r.before.place r.before.start [] h head body later o f (omega arith) (omega (arith, sum)) (subst (λ x. Reads want kind before x) (resting want kind before r reads at) reads) in
    let mid : Reads want kind (before ++ p) (reading_of (in_traffic place (body ∷ []) r.before.start) want) =
    subst (λ b. Reads want kind (before ++ p) (reading_of b want)) (first_after r.before.place r.before.start h body len f.message more) k.0 in
    let none : Adds want kind before p [] [] = subst (λ i. Adds want kind before p [] (option_to_list i)) (first_item r.before.place r.before.start h body len f.message more) k.1 in
    let l = frame_read want kind (before ++ p) place r.before.start (body ∷ []) g head' body' rest later f' (omega arith) (omega (arith, sum, sum_by-cons length body [])) mid in
    let now : Reads want kind ((before ++ p) ++ q) (reading_of (in_traffic end [] end) want) =
    subst (λ b. Reads want kind ((before ++ p) ++ q) (reading_of b want)) (last_after place r.before.start (body ∷ []) g body' len' f'.message last) l.0 in
    let item : Item = record { start = r.before.start; end = end; what = Message (body ∷ body' ∷ []) } in
    let new : Adds want kind (before ++ p) q [] (item ∷ []) =
    subst (λ i. Adds want kind (before ++ p) q [] (option_to_list i)) (last_item place r.before.start (body ∷ []) g body' len' f'.message last) l.1 in
    (subst (λ (x : List ℕ). Reads want kind x (reading_of (in_traffic end [] end) want)) (append_assoc before p q) now, adds-more want kind before p q [] [] (item ∷ []) none new)

-- ---- the front of some octets

bodies_one : (f : Front) → f.second ≡ None → bodies_of f ≡ f.first.now ∷ []
bodies_one f none = rw none refl

pub one_front : (f : Front) (h : Header) (rest o : List ℕ) → BeginsWith h f.first.now rest o → has_more h.flags ≡ false → length f.first.now ≤ MESSAGE_OCTETS → f.second ≡ None → f.len + length rest ≡ length o → IsFront f o
one_front f h rest o w last sum none len =
    let body = f.first.now in
    let fr = frame_of h body rest o w in
    let head = take (header_len o) o in
    let all : length o ≡ (length head + length body) + length rest = ap length fr.whole ∙ length-append (head ++ body) rest ∙ ap (λ k. k + length rest) (length-append head body) in
    let n : f.len ≡ length head + length body = omega (arith, all, len) in
    record {
      some = omega (arith, n, fr.some);
      within = omega (arith, len);
      read = λ want kind before r reads at.
          read_so want kind before r f o (head ++ body) (r.before.place + (length head + length body)) (body ∷ []) reads (front_is f.len o (head ++ body) rest fr.whole (n ∙ sym (length-append head body)))
          (ap (λ k. r.before.place + k) n) (bodies_one f none) (one_frame want kind before r h head body rest o fr last sum reads at);
    }

bodies_two : (f : Front) (body' : List ℕ) → option_copied f.second ≡ Some body' → bodies_of f ≡ f.first.now ∷ (body' ∷ [])
bodies_two f body' e = ap (λ (x : Option (List ℕ)). f.first.now ∷ option_to_list x) e

pub two_front : (f : Front) (h g : Header) (body' later rest o : List ℕ) → BeginsWith h f.first.now later o → BeginsWith g body' rest later → has_more h.flags ≡ true → has_more g.flags ≡ false
    → length f.first.now + length body' ≤ MESSAGE_OCTETS → option_copied f.second ≡ Some body' → f.len + length rest ≡ length o → IsFront f o
two_front f h g body' later rest o w v more last sum two len =
    let body = f.first.now in
    let fr = frame_of h body later o w in
    let gr = frame_of g body' rest later v in
    let head = take (header_len o) o in
    let head' = take (header_len later) later in
    let p = head ++ body in
    let q = head' ++ body' in
    let all : length o ≡ (length head + length body) + length later = ap length fr.whole ∙ length-append p later ∙ ap (λ k. k + length later) (length-append head body) in
    let all' : length later ≡ (length head' + length body') + length rest = ap length gr.whole ∙ length-append q rest ∙ ap (λ k. k + length rest) (length-append head' body') in
    let n : f.len ≡ (length head + length body) + (length head' + length body') = omega (arith, all, all', len) in
    let whole : o ≡ (p ++ q) ++ rest = fr.whole ∙ ap (λ (x : List ℕ). p ++ x) gr.whole ∙ sym (append_assoc p q rest) in
    let long : length (p ++ q) ≡ (length head + length body) + (length head' + length body') = length-append p q ∙ ap (λ k. k + length q) (length-append head body) ∙ ap (λ k. (length head + length body) + k) (length-append head' body') in
    record {
      some = omega (arith, n, fr.some);
      within = omega (arith, len);
      read = λ want kind before r reads at.
          read_so want kind before r f o (p ++ q) ((r.before.place + (length head + length body)) + (length head' + length body')) (body ∷ body' ∷ []) reads (front_is f.len o (p ++ q) rest whole (n ∙ sym long))
          (omega (arith, n)) (bodies_two f body' two) (two_frames want kind before r h g head body head' body' rest later o fr gr more last sum reads at);
    }

-- what stands after frames is no longer than all of it
pub shorter_by : (h : Header) (body rest o : List ℕ) → BeginsWith h body rest o → length rest ≤ length o
shorter_by h body rest o w =
    let all = ap length w.whole in
    omega (arith, all, length-append (take (header_len o) o) (body ++ rest), length-append body rest)
