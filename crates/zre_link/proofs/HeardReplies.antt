-- Replies, what is kept of them, and what comes next.
use Rattle.std.proofs.Common.{◌≡◌, ℕ, zero, suc, ◌+◌, ◌≤◌, Bool, false, List, [], ◌∷◌, ◌++◌, length, Option, Some, None, refl, sym, ap, subst, ◌∙◌, arith, length-append}
use Rattle.std.specs.Prelude.{option_to_list, drop}
use Rattle.std.proofs.lemmas.List.{drop_at, drop_all}
use Rattle.std.proofs.lemmas.List.Elements.{filter_map-append}
use Rattle.zre_zmtp.specs.Ping.{context_in, contexts_in}
use Rattle.zre_zmtp.specs.declared.want.Want.{Want}
use Rattle.zre_zmtp.specs.declared.want.Want.TheVariants.{Router}
use Rattle.zre_zmtp.specs.declared.item.Item.{Item}
use Rattle.zre_zmtp.specs.declared.expected.Expected.{Expected}
use Rattle.zre_zmtp.specs.declared.expected.Expected.TheVariants as expect
use Rattle.zre_zmtp.specs.declared.fault.ZmtpFault.{ZmtpFault}
use Rattle.zre_zmtp.specs.declared.fault.FeedFault.{FeedFault}
use Rattle.zre_zmtp.specs.declared.fault.FeedFault.TheVariants.{Zmtp, OutOfMemory}
use Rattle.zre_zmtp.specs.Stream.{Before, Whole, Parts, before, expected, split, cut, items, items_of, item, fault, greeting_fault}
use Rattle.zre_zmtp.specs.Reading.{Reading, Reads as IsAfter, Adds, IsOver, Refuses, new_items}
use Rattle.zre_zmtp.proofs.ReadersFollowStreams.{is_over}
use Rattle.zre_link.specs.declared.hearing.Hearing.{Hearing}
use Rattle.zre_link.specs.declared.hearing.Hearing.TheVariants.{Reads, Refused}
use Rattle.zre_link.specs.Heard.{reply_fault, pings, new_pings, awaited, reading, hearing_by, Heard, heard_after, expected_after}

-- ---- what comes next, by how many items are whole

after_zero : (e : Expected) → expected_after e 0 ≡ e
after_zero expect.Greeting = refl
after_zero expect.Ready = refl
after_zero expect.Traffic = refl

after_many : (n : ℕ) → expected_after expect.Greeting (suc (suc n)) ≡ expect.Traffic
after_many n = refl

after_two : (n : ℕ) → 2 ≤ n → expected_after expect.Greeting n ≡ expect.Traffic
after_two zero h = absurd (omega (arith, h))
after_two (suc zero) h = absurd (omega (arith, h))
after_two (suc (suc n)) h = refl

after_traffic : (n : ℕ) → expected_after expect.Traffic n ≡ expect.Traffic
after_traffic zero = refl
after_traffic (suc n) = refl

after_ready : (n : ℕ) → expected_after expect.Ready (suc n) ≡ expect.Traffic
after_ready n = refl

-- items one after the other
pub after_more : (a b : ℕ) → expected_after (expected_after expect.Greeting a) b ≡ expected_after expect.Greeting (a + b)
after_more zero b = ap (λ n. expected_after expect.Greeting n) (let e : b ≡ 0 + b = omega arith in e)
after_more (suc zero) zero = refl
after_more (suc zero) (suc b) = sym (after_two (1 + suc b) (omega arith))
after_more (suc (suc a)) b = after_traffic b ∙ sym (after_two (suc (suc a) + b) (omega arith))

-- after the greeting and READY at least two items are whole
two_items : (r g : List ℕ) (parts : Parts) → 2 ≤ length (items_of Whole (r ∷ g ∷ parts))
unfolding item
two_items r g [] = omega arith
two_items r g (x ∷ parts) =
    omega (arith, two_items g x parts, length-append (items_of Whole (g ∷ x ∷ parts)) (option_to_list (item (before Whole (g ∷ x ∷ parts)) r)))

expected_items : (parts : Parts) → expected Whole parts ≡ expected_after expect.Greeting (length (items_of Whole parts))
unfolding item
expected_items [] = refl
expected_items (g ∷ []) = refl
expected_items (r ∷ g ∷ parts) = sym (after_two (length (items_of Whole (r ∷ g ∷ parts))) (two_items r g parts))

pub awaited_items : (o : List ℕ) → awaited o ≡ expected_after expect.Greeting (length (items Router Whole o))
awaited_items o = expected_items (split Router Whole o).0

-- the items of a piece, appended to none, tell what comes next after it
pub awaited_more : (o p : List ℕ) (start now : List Item) (e e' : Expected) (n : ℕ) → e ≡ awaited o → start ≡ [] → Adds Router Whole o p start now
    → n ≡ length now → e' ≡ expected_after e n → e' ≡ awaited (o ++ p)
awaited_more o p start now e e' n was none a count is =
    let newly : now ≡ new_items Router Whole o p = a.appended ∙ ap (λ (l : List Item). l ++ new_items Router Whole o p) none in
    let all : length (items Router Whole o) + length (new_items Router Whole o p) ≡ length (items Router Whole (o ++ p)) =
    sym (ap length a.extended ∙ length-append (items Router Whole o) (new_items Router Whole o p)) in
    is ∙ ap (λ m. expected_after e m) (count ∙ ap length newly)
    ∙ ap (λ x. expected_after x (length (new_items Router Whole o p))) (was ∙ awaited_items o)
    ∙ after_more (length (items Router Whole o)) (length (new_items Router Whole o p))
    ∙ ap (λ m. expected_after expect.Greeting m) all ∙ sym (awaited_items (o ++ p))

-- ---- PINGs

contexts-append : (xs ys : List Item) → contexts_in (xs ++ ys) ≡ contexts_in xs ++ contexts_in ys
contexts-append xs ys = filter_map-append (λ item. context_in item.what) xs ys

-- the items of a piece, appended to none, have its PINGs
pub pinged : (o p : List ℕ) (start now : List Item) → start ≡ [] → Adds Router Whole o p start now → contexts_in now ≡ new_pings o p
pinged o p start now none a =
    let more = contexts_in (new_items Router Whole o p) in
    let newly : now ≡ new_items Router Whole o p = a.appended ∙ ap (λ (l : List Item). l ++ new_items Router Whole o p) none in
    let all : pings (o ++ p) ≡ pings o ++ more = ap contexts_in a.extended ∙ contexts-append (items Router Whole o) (new_items Router Whole o p) in
    ap contexts_in newly ∙ sym (ap (λ (l : List (List ℕ)). drop (length (pings o)) l) all ∙ drop_at (pings o) more (length (pings o)) refl)

-- after a fault there are none
pub none_pinged : (o p : List ℕ) (x : ZmtpFault) → reply_fault o ≡ Some x → new_pings o p ≡ []
none_pinged o p x there =
    let over : IsOver Router Whole o = is_over Router Whole o x there in
    ap (λ (l : List Item). drop (length (pings o)) (contexts_in l)) (over.items p) ∙ drop_all (length (pings o)) (pings o) (omega arith)

pub read_refused : (o p : List ℕ) (fault : FeedFault) (start now : List Item) (e e' : Expected) (n : ℕ) → e ≡ awaited o → start ≡ []
    → Refuses fault (reply_fault (o ++ p)) (Adds Router Whole o p start now × IsOver Router Whole (o ++ p))
    → n ≡ length now → e' ≡ expected_after e n → Refuses fault (reply_fault (o ++ p)) ((e' ≡ awaited (o ++ p)) × (contexts_in now ≡ new_pings o p))
read_refused o p (Zmtp x) start now e e' n was none a count is = (a.0, (awaited_more o p start now e e' n was none a.1.0 count is, pinged o p start now none a.1.0))
read_refused o p OutOfMemory start now e e' n was none a count is = tt

-- ---- what is kept, as a function of the octets

reading_by : Before → List ℕ → Bool → Want → Reading
reading_by b l s w = record { before = b; left = l; spent = s; wanted = w }

reads_is : (o : List ℕ) (r : Reading) → IsAfter Router Whole o r → r ≡ reading o
unfolding reading_by
reads_is o r h =
    ap (λ b. reading_by b r.left r.spent r.wanted) h.before ∙ ap (λ l. reading_by (before Whole (split Router Whole o).0) l r.spent r.wanted) h.left
    ∙ ap (λ s. reading_by (before Whole (split Router Whole o).0) (split Router Whole o).1 s r.wanted) h.unspent
    ∙ ap (λ w. reading_by (before Whole (split Router Whole o).0) (split Router Whole o).1 false w) h.wants

reads_reading : (o : List ℕ) → reply_fault o ≡ None → IsAfter Router Whole o (reading o)
reads_reading o none = record { before = refl; left = refl; faultless = none; unspent = refl; wants = refl }

read_by : (f : Option ZmtpFault) (r0 r : Reading) → hearing_by f r0 ≡ Reads r → (f ≡ None) × (r ≡ r0)
read_by None r0 r e = (refl, cc)
read_by (Some x) r0 r e = absurd cc

-- replies that are read: the reader stands after them
pub reads_after : (o : List ℕ) (h : Heard) (r : Reading) → h ≡ heard_after o → h.hearing ≡ Reads r → IsAfter Router Whole o r
reads_after o h r e live =
    let p = read_by (reply_fault o) (reading o) r (sym (ap (λ (x : Heard). x.hearing) e) ∙ live) in
    subst (λ (x : Reading). IsAfter Router Whole o x) (sym p.1) (reads_reading o p.0)

same_heard : (a b : Expected) (h k : Hearing) → a ≡ b → h ≡ k → let x : Heard = record { awaits = a; hearing = h } in let y : Heard = record { awaits = b; hearing = k } in x ≡ y
same_heard a b h k e f = let make : Expected → Hearing → Heard = λ x y. record { awaits = x; hearing = y } in ap (λ x. make x h) e ∙ ap (λ y. make b y) f

-- a reader that stands after the replies makes what is kept
pub heard_read : (o : List ℕ) (e : Expected) (r : Reading) → IsAfter Router Whole o r → e ≡ awaited o → let h : Heard = record { awaits = e; hearing = Reads r } in h ≡ heard_after o
heard_read o e r h is = same_heard _ _ _ _ is (ap (λ x. Reads x) (reads_is o r h) ∙ sym (ap (λ f. hearing_by f (reading o)) h.faultless))

-- and so does a fault
pub heard_refused : (o : List ℕ) (e : Expected) (x : ZmtpFault) → reply_fault o ≡ Some x → e ≡ awaited o → let h : Heard = record { awaits = e; hearing = Refused (Zmtp x) } in h ≡ heard_after o
heard_refused o e x there is = same_heard _ _ _ _ is (sym (ap (λ f. hearing_by f (reading o)) there))

nothing_awaited : awaited [] ≡ expect.Greeting
unfolding cut greeting_fault
nothing_awaited = refl

-- no replies
pub heard_nothing : (r : Reading) → IsAfter Router Whole [] r → let h : Heard = record { awaits = expect.Greeting; hearing = Reads r } in h ≡ heard_after []
heard_nothing r h = heard_read [] expect.Greeting r h (sym nothing_awaited)

-- ---- a fault stays

-- whatever comes after it
refused_stays : (o p : List ℕ) (e : Expected) (f : Option ZmtpFault) (fault : FeedFault) → reply_fault o ≡ f → e ≡ awaited o → hearing_by f (reading o) ≡ Refused fault
    → let h : Heard = record { awaits = e; hearing = Refused fault } in Refuses fault (reply_fault (o ++ p)) ((h ≡ heard_after (o ++ p)) × ([] ≡ new_pings o p))
refused_stays o p e None fault there is refused = absurd cc
refused_stays o p e (Some x) fault there is refused =
    let over : IsOver Router Whole o = is_over Router Whole o x there in
    let stays : reply_fault (o ++ p) ≡ Some x = over.fault p ∙ there in
    let same : awaited (o ++ p) ≡ awaited o =
    awaited_items (o ++ p) ∙ ap (λ (l : List Item). expected_after expect.Greeting (length l)) (over.items p) ∙ sym (awaited_items o) in
    let known : Zmtp x ≡ fault = cc in
    subst (λ (f : FeedFault). let h : Heard = record { awaits = e; hearing = Refused f } in Refuses f (reply_fault (o ++ p)) ((h ≡ heard_after (o ++ p)) × ([] ≡ new_pings o p))) known
    (stays, (heard_refused (o ++ p) e x stays (is ∙ sym same), sym (none_pinged o p x there)))

pub stays_refused : (o p : List ℕ) (h : Heard) (fault : FeedFault) (now : List Item) → now ≡ [] → h ≡ heard_after o → h.hearing ≡ Refused fault
    → let k : Heard = record { awaits = h.awaits; hearing = Refused fault } in Refuses fault (reply_fault (o ++ p)) ((k ≡ heard_after (o ++ p)) × (contexts_in now ≡ new_pings o p))
stays_refused o p h fault now none e refused =
    let k : Heard = record { awaits = h.awaits; hearing = Refused fault } in
    subst (λ (l : List Item). Refuses fault (reply_fault (o ++ p)) ((k ≡ heard_after (o ++ p)) × (contexts_in l ≡ new_pings o p))) (sym none)
    (refused_stays o p h.awaits (reply_fault o) fault refl (ap (λ (x : Heard). x.awaits) e) (sym (ap (λ (x : Heard). x.hearing) e) ∙ refused))
