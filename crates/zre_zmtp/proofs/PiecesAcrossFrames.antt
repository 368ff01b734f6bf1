-- Pieces that hold octets of both frames of a message.
use Rattle.std.proofs.Common.{◌≡◌, ◌≢◌, ℕ, ◌+◌, ◌<◌, ◌≤◌, ◌++◌, List, [], ◌∷◌, length, true, false, Some, None, refl, sym, ap, subst, ◌∙◌, append_assoc, arith}
use Rattle.std.specs.Prelude.{option_to_list, Result, Ok, Err, IfOk}
use Rattle.std.proofs.lemmas.List.{append-nil}
use Rattle.std.proofs.lemmas.List.Sums.{sum_by-cons}
use Rattle.zre_zmtp.specs.declared.across.Second.{Second}
use Rattle.zre_zmtp.specs.declared.bodies.Came.{Came}
use Rattle.zre_zmtp.specs.declared.bodies.Came.TheVariants as came
use Rattle.zre_zmtp.specs.declared.bodies.LentBodies.{LentBodies}
use Rattle.zre_zmtp.specs.declared.header.Header.{Header}
use Rattle.zre_zmtp.specs.declared.item.Item.{Item}
use Rattle.zre_zmtp.specs.declared.expected.Expected.TheVariants as expect
use Rattle.zre_zmtp.specs.declared.progress.Progress.{Progress}
use Rattle.zre_values.specs.declared.limits.TheConstants.{MESSAGE_OCTETS}
use Rattle.zre_zmtp.specs.Across.{IsSecond, mid_of, Crosses}
use Rattle.zre_zmtp.specs.Frame.{header_of, is_message, has_more}
use Rattle.zre_zmtp.specs.Lending.{bodies_in, given, Brings, TakesPiece}
use Rattle.zre_zmtp.specs.Shown.{before_of, left_of, header_fault, frame_item, frame_after, Waits, Advances}
use Rattle.zre_zmtp.specs.Stream.{Want, Before}
use Rattle.zre_zmtp.specs.Run.{run_all}
use Rattle.zre_zmtp.proofs.FrameFaults.{HeadOf, IsHeader, is_header, is_framed}
use Rattle.zre_zmtp.proofs.FrontsOfPieces.{in_traffic, first_after, first_item, traffic_fine}
use Rattle.zre_zmtp.proofs.TurnsOfReaders.{begins, one_turn, all_read, frame_taken, turn_waits, no_octets}
use Rattle.zre_zmtp.proofs.UnfinishedFrames.{headed, fine, grown, in_frames, traffic_is, message_ends, frame_waits, no_body, nothing_left}

-- octets up to the end of a part, and those after it
two_turns : (want : Want) (b mid now : Before) (left c o left' : List ℕ) (out new : List Item) → Waits want b left → Advances want b (left ++ c) out out mid [] → Advances want mid o out new now left'
    → Advances want b (left ++ (c ++ o)) out new now left'
two_turns want b mid now left c o left' out new w first second =
    let all = run_all want b (left ++ (c ++ o)) in
    let amid = one_turn want out out out all b mid left c o [] (c ++ o) refl (begins want b left (c ++ o) out w) first in
    all_read want out new b (left ++ (c ++ o)) now left' [] (omega arith) (one_turn want out out new all mid now [] o [] left' o (sym (append-nil o)) amid second)

-- the first frame of a message
first_ends : (want : Want) (b : Before) (h : Header) (head body : List ℕ) (n : ℕ) (out : List Item) → b.expected ≡ expect.Traffic → b.opened ≡ [] → IsHeader h head → header_of head ≡ Some h → length body ≡ h.size → header_fault b head ≡ None
    → is_message h.flags ≡ true → has_more h.flags ≡ true → n ≡ length head → Advances want b (head ++ body) out out (in_traffic (b.place + (n + length body)) (body ∷ []) b.start) []
first_ends want b h head body n out traffic alone is known sized ok m more at =
    let len = n + length body in
    let t : b ≡ in_traffic b.place [] b.start = traffic_is b traffic ∙ ap (λ (x : List (List ℕ)). in_traffic b.place x b.start) alone in
    let item : frame_item b h body len ≡ None = ap (λ x. frame_item x h body len) t ∙ first_item b.place b.start h body len m more in
    let next : frame_after b h body len ≡ in_traffic (b.place + len) (body ∷ []) b.start = ap (λ x. frame_after x h body len) t ∙ first_after b.place b.start h body len m more in
    frame_taken want b h head body n out out _ [] (is_framed want b h head body (in_frames b traffic) known (omega (arith, is.exact)) sized ok) (rw m refl) at (sym (append-nil out) ∙ ap (λ i. out ++ option_to_list i) (sym item)) (sym next) refl

-- ---- after the first frame

-- octets after the first frame were read, and brought this
abbrev pub Comes : Came → Progress → ℕ → List ℕ → List ℕ → Before → List ℕ → Type 0
Comes c p n body o now left = (want : Want) (out : List Item) → Advances want (mid_of p n body) o out (out ++ given c p.start now.place) now left

second_fine : (p : Progress) (n : ℕ) (body : List ℕ) (s : Second) → IsSecond (length body) s → header_fault (mid_of p n body) s.head.now ≡ None
second_fine p n body s is =
    traffic_fine (p.place + (n + length body)) p.start (body ∷ []) s.header s.head.now (is_header s.header s.head.now is.header is.within) is.message (omega arith) (omega (arith, is.room, sum_by-cons length body []))

pub nothing_crosses : (p : Progress) (now : Before) (left : List ℕ) (n : ℕ) (body : List ℕ) → now ≡ mid_of p n body → left ≡ [] → Comes came.Part p n body [] now left
nothing_crosses p now left n body same none = λ want out. turn_waits want (mid_of p n body) [] out _ now left (no_octets want expect.Traffic (mid_of p n body)) refl (append-nil out) same none

pub part_crosses : (p : Progress) (now : Before) (left : List ℕ) (n : ℕ) (body : List ℕ) (s : Second) → IsSecond (length body) s → length s.body.now < s.header.size → now ≡ mid_of p n body → left ≡ s.head.now ++ s.body.now
    → Comes came.Part p n body (s.head.now ++ s.body.now) now left
part_crosses p now left n body s is lt same kept = λ want out.
    frame_waits want (mid_of p n body) s.header s.head.now s.body.now out now left refl (is_header s.header s.head.now is.header is.within) (second_fine p n body s is) lt same kept

pub last_crosses : (p : Progress) (now : Before) (left : List ℕ) (n : ℕ) (body : List ℕ) (s : Second) (l : LentBodies) (end : ℕ) → IsSecond (length body) s → length s.body.now ≡ s.header.size → has_more s.header.flags ≡ false → bodies_in l ≡ body ∷ s.body.now ∷ []
    → end ≡ (p.place + (n + length body)) + (length s.head.now + length s.body.now) → now ≡ in_traffic end [] end → left ≡ [] → Comes (came.Message l) p n body (s.head.now ++ s.body.now) now left
last_crosses p now left n body s l end is sized last same at after_is none = λ want out.
    message_ends want (mid_of p n body) s.header s.head.now s.body.now (length s.head.now) out l now left refl (is_header s.header s.head.now is.header is.within) is.header sized (second_fine p n body s is) is.message last refl same
    (after_is ∙ ap (λ e. in_traffic e [] e) at) none

-- ---- the piece

taken : (c : Came) (p now : Progress) (o : List ℕ) → c ≢ came.Other → Brings c p now o → TakesPiece c p now o
taken (came.Message l) p now o some b = b
taken came.Part p now o some b = b
taken came.Other p now o some b = absurd (some refl)

-- a list without elements
pub none_of : {A : Type 0} (l : List A) → length l ≤ 0 → l ≡ []
none_of [] h = refl
none_of (x ∷ l) h = absurd (omega (arith, h))

-- what an unfinished first frame misses, and octets after it
goes_past : (c : Came) (p now : Progress) (h : Header) (body front rest o : List ℕ) (n : ℕ) → p.expected ≡ expect.Traffic → p.opened ≡ [] → p.partial.header ≡ Some h → is_message h.flags ≡ true → has_more h.flags ≡ true
    → body ≡ p.partial.body ++ front → length body ≡ h.size → n ≡ length p.partial.head → o ≡ front ++ rest → c ≢ came.Other → Crosses c p now n body rest → TakesPiece c p now o
goes_past c p now h body front rest o n traffic alone known m more is sized at whole some after =
    let b = before_of p in
    let part = p.partial in
    let frame = in_frames b traffic in
    taken c p now o some (λ want out w.
    let first : Advances want b (left_of p ++ front) out out (mid_of p n body) [] =
    rw (grown p part front body frame refl is) (first_ends want b h part.head body n out traffic alone (headed p part h refl known) (sym part.known ∙ known) sized (fine want p part h frame refl known w) m more at) in
    rw whole (two_turns want b (mid_of p n body) (before_of now) (left_of p) front rest (left_of now) out _ w first (after want out)))

pub goes_past_on : {E : Type 0} (r : Result Came E) (p now : Progress) (h : Header) (body front rest o : List ℕ) (n : ℕ) → p.expected ≡ expect.Traffic → p.opened ≡ [] → p.partial.header ≡ Some h → is_message h.flags ≡ true → has_more h.flags ≡ true
    → body ≡ p.partial.body ++ front → length body ≡ h.size → n ≡ length p.partial.head → o ≡ front ++ rest → r ≢ Ok came.Other → IfOk r (λ c. Crosses c p now n body rest) → IfOk r (λ c. TakesPiece c p now o)
goes_past_on (Ok c) p now h body front rest o n traffic alone known m more is sized at whole some after =
    goes_past c p now h body front rest o n traffic alone known m more is sized at whole (λ e. some (ap (λ x. Ok x) e)) after
goes_past_on (Err e) p now h body front rest o n traffic alone known m more is sized at whole some after = tt

-- a whole first frame, and octets after it
begins_past : (c : Came) (p now : Progress) (h : Header) (body head later front rest o : List ℕ) (n : ℕ) → p.expected ≡ expect.Traffic → p.opened ≡ [] → p.partial.head ≡ [] → HeadOf h o head later → is_message h.flags ≡ true → has_more h.flags ≡ true
    → h.size ≤ MESSAGE_OCTETS → body ≡ p.partial.body ++ front → length front ≡ h.size → n ≡ length head → later ≡ front ++ rest → c ≢ came.Other → Crosses c p now n body rest → TakesPiece c p now o
begins_past c p now h body head later front rest o n traffic alone none at m more small is sized len parts some after =
    let b = before_of p in
    let same : body ≡ front = is ∙ ap (λ (x : List ℕ). x ++ front) (no_body p.partial none) in
    let after' : Crosses c p now n front rest = subst (λ (x : List ℕ). Crosses c p now n x rest) same after in
    let whole : o ≡ (head ++ front) ++ rest = at.whole ∙ ap (λ (x : List ℕ). head ++ x) parts ∙ sym (append_assoc head front rest) in
    let headed = is_header h head at.header at.within in
    let t : b ≡ in_traffic p.place [] p.start = traffic_is b traffic ∙ ap (λ (x : List (List ℕ)). in_traffic p.place x p.start) alone in
    let ok : header_fault b head ≡ None = ap (λ x. header_fault x head) t ∙ traffic_fine p.place p.start [] h head headed m (omega arith) (omega (arith, small)) in
    taken c p now o some (λ want out w.
    let first : Advances want b (left_of p ++ (head ++ front)) out out (mid_of p n front) [] =
    rw (nothing_left p traffic none) (first_ends want b h head front n out traffic alone headed at.header sized ok m more len) in
    rw whole (two_turns want b (mid_of p n front) (before_of now) (left_of p) (head ++ front) rest (left_of now) out _ w first (after' want out)))

pub begins_past_on : {E : Type 0} (r : Result Came E) (p now : Progress) (h : Header) (body head later front rest o : List ℕ) (n : ℕ) → p.expected ≡ expect.Traffic → p.opened ≡ [] → p.partial.head ≡ [] → HeadOf h o head later → is_message h.flags ≡ true
    → has_more h.flags ≡ true → h.size ≤ MESSAGE_OCTETS → body ≡ p.partial.body ++ front → length front ≡ h.size → n ≡ length head → later ≡ front ++ rest → r ≢ Ok came.Other → IfOk r (λ c. Crosses c p now n body rest) → IfOk r (λ c. TakesPiece c p now o)
begins_past_on (Ok c) p now h body head later front rest o n traffic alone none at m more small is sized len parts some after =
    begins_past c p now h body head later front rest o n traffic alone none at m more small is sized len parts (λ e. some (ap (λ x. Ok x) e)) after
begins_past_on (Err e) p now h body head later front rest o n traffic alone none at m more small is sized len parts some after = tt
