-- A frame that isn't whole, by what is kept of it; and the frame that ends a message.
use Rattle.std.proofs.Common.{◌≡◌, ◌≢◌, ℕ, ◌+◌, ◌<◌, ◌++◌, List, [], ◌∷◌, length, take, true, false, Some, None, refl, sym, ap, subst, ◌∙◌, append_assoc, arith}
use Rattle.std.specs.Prelude.{option_to_list}
use Rattle.std.proofs.lemmas.List.{append-nil, length-append}
use Rattle.zre_zmtp.specs.declared.bodies.Came.TheVariants as came
use Rattle.zre_zmtp.specs.declared.bodies.LentBodies.{LentBodies}
use Rattle.zre_zmtp.specs.declared.partial.Partial.{Partial}
use Rattle.zre_zmtp.specs.declared.progress.Progress.{Progress}
use Rattle.zre_zmtp.specs.declared.header.Header.{Header}
use Rattle.zre_zmtp.specs.declared.item.Item.{Item}
use Rattle.zre_zmtp.specs.declared.item.What.TheVariants.{Message}
use Rattle.zre_zmtp.specs.declared.expected.Expected.TheVariants as expect
use Rattle.zre_zmtp.specs.Frame.{header_of, header_len, is_message, has_more}
use Rattle.zre_zmtp.specs.Lending.{bodies_in, given, EndsWith}
use Rattle.zre_zmtp.specs.Stream.{Want, Before}
use Rattle.zre_zmtp.specs.Shown.{before_of, left_of, Waits, Advances, header_fault, frame_item, frame_after}
use Rattle.zre_zmtp.proofs.FrameFaults.{IsHeader, is_header, is_framed, left-nothing, left-partial, fine-from_waits, waits-body}
use Rattle.zre_zmtp.proofs.FrontsOfPieces.{in_traffic, not_greeting, last_after, last_item, frame_of, traffic_fine}
use Rattle.zre_zmtp.proofs.TurnsOfReaders.{turn_waits, frame_taken}

pub headed : (p : Progress) (part : Partial) (h : Header) → part ≡ p.partial → p.partial.header ≡ Some h → IsHeader h part.head
headed p part h was known = is_header h part.head (sym part.known ∙ ap (λ (x : Partial). x.header) was ∙ known) part.within

-- nothing is wrong with the header of a frame that waits for more
pub fine : (want : Want) (p : Progress) (part : Partial) (h : Header) → p.expected ≢ expect.Greeting → part ≡ p.partial → p.partial.header ≡ Some h → Waits want (before_of p) (left_of p)
    → header_fault (before_of p) part.head ≡ None
fine want p part h frame was known w =
    fine-from_waits want (before_of p) h part.head part.body frame (headed p part h was known) (subst (λ (x : List ℕ). Waits want (before_of p) x) (left-partial p part frame was) w)

-- what is left with the octets that come
pub grown : (p : Progress) (part : Partial) (more body : List ℕ) → p.expected ≢ expect.Greeting → part ≡ p.partial → body ≡ part.body ++ more → left_of p ++ more ≡ part.head ++ body
grown p part more body frame was is =
    ap (λ (x : List ℕ). x ++ more) (left-partial p part frame was) ∙ append_assoc part.head part.body more ∙ ap (λ (x : List ℕ). part.head ++ x) (sym is)

-- ---- in traffic

pub in_frames : (b : Before) → b.expected ≡ expect.Traffic → b.expected ≢ expect.Greeting
in_frames b e is = not_greeting (sym e ∙ is)

pub traffic_is : (b : Before) → b.expected ≡ expect.Traffic → b ≡ in_traffic b.place b.opened b.start
traffic_is b e = ap (λ x. let y : Before = record { expected = x; place = b.place; opened = b.opened; start = b.start } in y) e

-- the frame that ends a message, whose bodies are lent
pub message_ends : (want : Want) (b : Before) (h : Header) (head body : List ℕ) (n : ℕ) (out : List Item) (l : LentBodies) (now : Before) (left : List ℕ) → b.expected ≡ expect.Traffic → IsHeader h head → header_of head ≡ Some h
    → length body ≡ h.size → header_fault b head ≡ None → is_message h.flags ≡ true → has_more h.flags ≡ false → n ≡ length head → bodies_in l ≡ b.opened ++ body ∷ []
    → now ≡ in_traffic (b.place + (n + length body)) [] (b.place + (n + length body)) → left ≡ []
    → Advances want b (head ++ body) out (out ++ given (came.Message l) b.start now.place) now left
message_ends want b h head body n out l now left traffic is known sized ok m last at same after_is nothing =
    let end = b.place + (n + length body) in
    let t = traffic_is b traffic in
    let item : frame_item b h body (n + length body) ≡ Some (record { start = b.start; end = end; what = Message (b.opened ++ body ∷ []) }) =
    ap (λ x. frame_item x h body (n + length body)) t ∙ last_item b.place b.start b.opened h body (n + length body) m last in
    let next : frame_after b h body (n + length body) ≡ in_traffic end [] end = ap (λ x. frame_after x h body (n + length body)) t ∙ last_after b.place b.start b.opened h body (n + length body) m last in
    let there : now.place ≡ end = ap (λ (x : Before). x.place) after_is in
    let gives : given (came.Message l) b.start now.place ≡ option_to_list (frame_item b h body (n + length body)) =
    ap (λ e. let x : Item = record { start = b.start; end = e; what = Message (bodies_in l) } in x ∷ []) there
    ∙ ap (λ (y : List (List ℕ)). let x : Item = record { start = b.start; end = end; what = Message y } in x ∷ []) same ∙ ap option_to_list (sym item) in
    frame_taken want b h head body n out _ now left (is_framed want b h head body (in_frames b traffic) known (omega (arith, is.exact)) sized ok) (rw m refl) at (ap (λ (x : List Item). out ++ x) gives) (after_is ∙ sym next) nothing

-- a frame that isn't whole with the octets that come
pub frame_waits : (want : Want) (b : Before) (h : Header) (head body : List ℕ) (out : List Item) (now : Before) (left : List ℕ) → b.expected ≡ expect.Traffic → IsHeader h head → header_fault b head ≡ None → length body < h.size
    → now ≡ b → left ≡ head ++ body → Advances want b (head ++ body) out (out ++ given came.Part b.start now.place) now left
frame_waits want b h head body out now left traffic is ok lt same kept =
    let still = waits-body want b h head body (in_frames b traffic) is ok lt in
    turn_waits want b (head ++ body) out _ now left still.faultless still.partial (append-nil out) same kept

-- ---- where nothing of a frame is kept

pub no_body : (part : Partial) → part.head ≡ [] → part.body ≡ []
no_body part none = part.apart (part.known ∙ ap header_of none)

pub nothing_left : (p : Progress) → p.expected ≡ expect.Traffic → p.partial.head ≡ [] → left_of p ≡ []
nothing_left p traffic none = left-nothing p.expected p.greeting _ _ traffic none (no_body p.partial none)

-- the last frame of a message comes whole
pub last_comes : (want : Want) (p : Progress) (h : Header) (body o : List ℕ) (n : ℕ) (out : List Item) (l : LentBodies) (now : Before) (left : List ℕ) → p.expected ≡ expect.Traffic → p.partial.head ≡ [] → EndsWith p h body o
    → n + length body ≡ length o → bodies_in l ≡ p.opened ++ body ∷ [] → now ≡ in_traffic (p.place + (n + length body)) [] (p.place + (n + length body)) → left ≡ []
    → Advances want (before_of p) (left_of p ++ o) out (out ++ given (came.Message l) p.start now.place) now left
last_comes want p h body o n out l now left traffic none e len same after_is nothing =
    let b = before_of p in
    let f = frame_of h body [] o e.last.frame in
    let head = take (header_len o) o in
    let is = is_header h head f.header f.within in
    let ok : header_fault b head ≡ None = ap (λ x. header_fault x head) (traffic_is b traffic) ∙ traffic_fine p.place p.start p.opened h head is f.message (omega (arith, e.one)) (omega (arith, e.room, f.sized)) in
    let whole : o ≡ head ++ body = f.whole ∙ append-nil (head ++ body) in
    let at : n ≡ length head = omega (arith, len, ap length whole, length-append head body) in
    rw (nothing_left p traffic none, whole) (message_ends want b h head body n out l now left traffic is f.header f.sized ok f.message e.last.last at same after_is nothing)
