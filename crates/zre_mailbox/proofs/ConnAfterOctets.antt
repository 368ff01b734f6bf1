-- A connection and the octets that it was fed.
use Rattle.std.proofs.Common.{◌≡◌, ℕ, ◌+◌, ◌<◌, Bool, false, List, [], ◌∷◌, ◌++◌, length, get_or, take, drop, Option, Some, None, Result, Ok, Err, IfOk, refl, sym, ap, subst, ◌∙◌, arith}
use Rattle.std.specs.Prelude.{option_to_list, option_and_then, option_map}
use Rattle.std.specs.Result.{result_ok}
use Rattle.zre_msg.specs.Reading.{read_frames}
use Rattle.zre_msg.specs.declared.message.Message.{Message}
use Rattle.std.proofs.lemmas.List.{take_more, at_drop_more}
use Rattle.std.specs.Option.{option_or}
use Rattle.std.specs.List.{cons_option}
use Rattle.zre_values.specs.declared.peer_id.PeerId.{PeerId}
use Rattle.zre_zmtp.specs.Stream.{Before, Kind, Whole, before, split, fault, cut, greeting_fault}
use Rattle.zre_zmtp.specs.Reading.{Reading, Reads, Adds, IsOver, Refuses, new_items}
use Rattle.zre_zmtp.specs.Looks.{Looks, IsPaidOnRefusal}
use Rattle.zre_zmtp.specs.declared.want.Want.{Want}
use Rattle.zre_zmtp.specs.declared.want.Want.TheVariants.{Dealer}
use Rattle.zre_zmtp.specs.declared.item.Item.{Item}
use Rattle.zre_zmtp.specs.declared.item.What.TheVariants as says
use Rattle.zre_zmtp.specs.declared.bodies.Came.{Came}
use Rattle.zre_zmtp.specs.declared.bodies.Came.TheVariants as came
use Rattle.zre_zmtp.specs.Lending.{bodies_in, given, BringsOn, TakesOn}
use Rattle.zre_zmtp.specs.declared.fault.ZmtpFault.{ZmtpFault}
use Rattle.zre_zmtp.specs.declared.fault.FeedFault.{FeedFault}
use Rattle.zre_zmtp.specs.declared.fault.FeedFault.TheVariants.{Zmtp, OutOfMemory}
use Rattle.zre_mailbox.specs.declared.arrival.Arrival.{Arrival}
use Rattle.zre_mailbox.specs.declared.arrival.Arrival.TheVariants.{Message as MessageArrival}
use Rattle.zre_mailbox.specs.declared.phase.Phase.{Phase}
use Rattle.zre_mailbox.specs.declared.phase.Phase.TheVariants.{Live, Spent}
use Rattle.zre_mailbox.specs.Talk.{arrival_of, arrivals_in, arrivals, fault_in, new_arrivals}
use Rattle.zre_mailbox.specs.Conn.{introduced, identity_in, ConnHearing, reading, phase_by, conn_after, Brings, Hears, HearsLent, lent_arrivals}
use Rattle.zre_mailbox.proofs.TalkGrows.{arrivals_in-append, new_arrivals-items, arrivals_grow, goes}

-- ---- whom arrivals introduce

option_or-assoc : {A : Type 0} (a b c : Option A) → option_or (option_or a b) c ≡ option_or a (option_or b c)
option_or-assoc None b c = refl
option_or-assoc (Some x) b c = refl

pub identity_in-append : (xs ys : List Arrival) → identity_in (xs ++ ys) ≡ option_or (identity_in xs) (identity_in ys)
identity_in-append [] ys = refl
identity_in-append (x ∷ xs) ys = ap (λ p. option_or (introduced x) p) (identity_in-append xs ys) ∙ sym (option_or-assoc (introduced x) (identity_in xs) (identity_in ys))

pub introduced_stays : (own : PeerId) (o more : List ℕ) (peer : PeerId) → identity_in (arrivals own o) ≡ Some peer → identity_in (arrivals own (o ++ more)) ≡ Some peer
introduced_stays own o more peer e =
    ap identity_in (arrivals_grow own o more) ∙ identity_in-append (arrivals own o) (new_arrivals own o more)
    ∙ ap (λ p. option_or p (identity_in (new_arrivals own o more))) e

-- ---- items, one after the other

one_arrival : (a : Option Arrival) → cons_option a [] ≡ option_to_list a
one_arrival None = refl
one_arrival (Some x) = refl

-- what arrives with one item more
pub arrives_next : (items : List Item) (i : ℕ) (item : Item) → i < length items → item ≡ get_or items i item → arrivals_in (take i items) ++ option_to_list (arrival_of item.what) ≡ arrivals_in (take (i + 1) items)
arrives_next items i item lt is =
    ap (λ (l : List Arrival). arrivals_in (take i items) ++ l) (sym (one_arrival (arrival_of item.what)))
    ∙ sym (arrivals_in-append (take i items) (item ∷ []))
    ∙ ap (λ (x : Item). arrivals_in (take i items ++ x ∷ [])) is
    ∙ ap arrivals_in (sym (take_more items i item lt))

identity_in-cons : (a : Option Arrival) (rest : List Arrival) → identity_in (cons_option a rest) ≡ option_or (option_and_then introduced a) (identity_in rest)
identity_in-cons None rest = refl
identity_in-cons (Some x) rest = refl

-- whom an item and those after it introduce
pub introduced_next : (items : List Item) (i : ℕ) (item : Item) (peer : Option PeerId) → i < length items → item ≡ get_or items i item → peer ≡ option_and_then introduced (arrival_of item.what)
    → identity_in (arrivals_in (drop i items)) ≡ option_or peer (identity_in (arrivals_in (drop (i + 1) items)))
introduced_next items i item peer lt is by =
    at_drop_more (λ (l : List Item). identity_in (arrivals_in l)) items i item lt
    ∙ ap (λ (x : Item). identity_in (arrivals_in (x ∷ drop (i + 1) items))) (sym is)
    ∙ identity_in-cons (arrival_of item.what) (arrivals_in (drop (i + 1) items))
    ∙ ap (λ p. option_or p (identity_in (arrivals_in (drop (i + 1) items)))) (sym by)

-- ---- what a reader keeps, as a function of its octets

abbrev reading_by : Before → List ℕ → Bool → Want → Reading
reading_by b l s w = record { before = b; left = l; spent = s; wanted = w }

pub reads_is : (want : Want) (kind : Kind) (o : List ℕ) (r : Reading) → Reads want kind o r → r ≡ reading want kind o
reads_is want kind o r h =
    ap (λ b. reading_by b r.left r.spent r.wanted) h.before ∙ ap (λ l. reading_by (before kind (split want kind o).0) l r.spent r.wanted) h.left
    ∙ ap (λ s. reading_by (before kind (split want kind o).0) (split want kind o).1 s r.wanted) h.unspent
    ∙ ap (λ w. reading_by (before kind (split want kind o).0) (split want kind o).1 false w) h.wants

reads_reading : (want : Want) (kind : Kind) (o : List ℕ) → fault want kind o ≡ None → Reads want kind o (reading want kind o)
reads_reading want kind o none = record { before = refl; left = refl; faultless = none; unspent = refl; wants = refl }

-- ---- a connection that is read

live_by : (f : Option ZmtpFault) (r0 r : Reading) → phase_by f r0 ≡ Live r → (f ≡ None) × (r ≡ r0)
live_by None r0 r e = (refl, cc)
live_by (Some x) r0 r e = absurd cc

-- its reader stands after the octets
pub live_reads : (own : PeerId) (o : List ℕ) (h : ConnHearing) (r : Reading) → h ≡ conn_after own o → h.phase ≡ Live r → Reads (Dealer own) Whole o r
live_reads own o h r e live =
    let p = live_by (fault_in own o) (reading (Dealer own) Whole o) r (sym (ap (λ (x : ConnHearing). x.phase) e) ∙ live) in
    subst (λ (x : Reading). Reads (Dealer own) Whole o x) (sym p.1) (reads_reading (Dealer own) Whole o p.0)

same_hearing : (p q : Phase) (i j : Option PeerId) → p ≡ q → i ≡ j → let a : ConnHearing = record { phase = p; identity = i } in let b : ConnHearing = record { phase = q; identity = j } in a ≡ b
same_hearing p q i j e f = let make : Phase → Option PeerId → ConnHearing = λ x y. record { phase = x; identity = y } in ap (λ x. make x i) e ∙ ap (λ y. make q y) f

-- a reader that stands after them makes the connection
pub is_live : (own : PeerId) (o : List ℕ) (r : Reading) (i : Option PeerId) → Reads (Dealer own) Whole o r → i ≡ identity_in (arrivals own o) → let h : ConnHearing = record { phase = Live r; identity = i } in h ≡ conn_after own o
is_live own o r i h e =
    same_hearing _ _ _ _ (ap (λ x. Live x) (reads_is (Dealer own) Whole o r h) ∙ sym (ap (λ f. phase_by f (reading (Dealer own) Whole o)) h.faultless)) e

-- and a fault makes it spent
is_spent_by : (own : PeerId) (o : List ℕ) (f : ZmtpFault) (phase : Phase) (i : Option PeerId) → phase ≡ Spent → fault_in own o ≡ Some f → i ≡ identity_in (arrivals own o)
    → let h : ConnHearing = record { phase = phase; identity = i } in h ≡ conn_after own o
is_spent_by own o f phase i ended some e = same_hearing _ _ _ _ (ended ∙ sym (ap (λ x. phase_by x (reading (Dealer own) Whole o)) some)) e

no_arrivals : (own : PeerId) → identity_in (arrivals own []) ≡ None
unfolding cut greeting_fault
no_arrivals own = refl

pub accepted : (own : PeerId) (r : Reading) → Reads (Dealer own) Whole [] r → let h : ConnHearing = record { phase = Live r; identity = None } in h ≡ conn_after own []
accepted own r h = is_live own [] r None h (sym (no_arrivals own))

-- ---- a piece

-- the items that were appended to none are what arrives with the piece
new_of : (own : PeerId) (o piece : List ℕ) (start items : List Item) → start ≡ [] → Adds (Dealer own) Whole o piece start items → arrivals_in items ≡ new_arrivals own o piece
new_of own o piece start items none a = ap arrivals_in (a.appended ∙ ap (λ (l : List Item). l ++ new_items (Dealer own) Whole o piece) none) ∙ sym (new_arrivals-items own o piece)

pub brings_refused : (own : PeerId) (o piece : List ℕ) (fault : FeedFault) (start items : List Item) (known known' : Option PeerId) → known' ≡ option_or known (identity_in (arrivals_in items))
    → Refuses fault (fault_in own (o ++ piece)) (Adds (Dealer own) Whole o piece start items × IsOver (Dealer own) Whole (o ++ piece)) → Refuses fault (fault_in own (o ++ piece)) (Brings own o piece known known' start items)
brings_refused own o piece (Zmtp x) start items known known' is a = (a.0, record { added = a.1.0; identity = is })
brings_refused own o piece OutOfMemory start items known known' is a = tt

-- whom all of the octets introduce
known_by : (own : PeerId) (o piece : List ℕ) (h : ConnHearing) (known : Option PeerId) (start items : List Item) → h ≡ conn_after own o → start ≡ [] → Brings own o piece h.identity known start items → known ≡ identity_in (arrivals own (o ++ piece))
known_by own o piece h known start items e none b =
    b.identity ∙ ap (λ (l : List Arrival). option_or h.identity (identity_in l)) (new_of own o piece start items none b.added)
    ∙ ap (λ (x : ConnHearing). option_or x.identity (identity_in (new_arrivals own o piece))) e
    ∙ sym (identity_in-append (arrivals own o) (new_arrivals own o piece)) ∙ ap identity_in (sym (arrivals_grow own o piece))

hears : (own : PeerId) (o piece : List ℕ) (now : ConnHearing) (start items : List Item) → fault_in own o ≡ None → start ≡ [] → Adds (Dealer own) Whole o piece start items → now ≡ conn_after own (o ++ piece) → Hears own o piece now [] (arrivals_in items)
hears own o piece now start items fine none a e = record { now_is = e; appended = new_of own o piece start items none a; arrived = arrivals_grow own o piece; completes = (goes own o piece).faultless fine }

pub heard : (own : PeerId) (o piece : List ℕ) (h : ConnHearing) (r new : Reading) (known : Option PeerId) (start items : List Item) → h ≡ conn_after own o → h.phase ≡ Live r → start ≡ []
    → Reads (Dealer own) Whole (o ++ piece) new × Brings own o piece h.identity known start items
    → let now : ConnHearing = record { phase = Live new; identity = known } in (fault_in own (o ++ piece) ≡ None) × Adds (Dealer own) Whole o piece start items × Hears own o piece now [] (arrivals_in items)
heard own o piece h r new known start items e live none a =
    let fine = (live_reads own o h r e live).faultless in
    (a.0.faultless, a.1.added, hears own o piece _ start items fine none a.1.added (is_live own (o ++ piece) new known a.0 (known_by own o piece h known start items e none a.1)))

pub refused : (own : PeerId) (o piece : List ℕ) (h : ConnHearing) (r : Reading) (fault : FeedFault) (phase : Phase) (known : Option PeerId) (start items : List Item) → h ≡ conn_after own o → h.phase ≡ Live r → start ≡ []
    → phase ≡ Spent → Refuses fault (fault_in own (o ++ piece)) (Brings own o piece h.identity known start items)
    → let now : ConnHearing = record { phase = phase; identity = known } in Refuses fault (fault_in own (o ++ piece)) (Adds (Dealer own) Whole o piece start items × Hears own o piece now [] (arrivals_in items))
refused own o piece h r (Zmtp x) phase known start items e live none ended a =
    let fine = (live_reads own o h r e live).faultless in
    (a.0, (a.1.added, hears own o piece _ start items fine none a.1.added (is_spent_by own (o ++ piece) x phase known ended a.0 (known_by own o piece h known start items e none a.1))))
refused own o piece h r OutOfMemory phase known start items e live none ended a = tt

-- ---- a piece that is taken where it lies

-- what arrives with the items that it gives
arrives_lent : (c : Came) (start end : ℕ) → arrivals_in (given c start end) ≡ lent_arrivals c
arrives_lent (came.Message l) start end = one_arrival (arrival_of (says.Message (bodies_in l)))
arrives_lent came.Part start end = refl
arrives_lent came.Other start end = refl

introduces_none : (m : Option Message) → identity_in (option_to_list (option_map (λ x. MessageArrival x) m)) ≡ None
introduces_none None = refl
introduces_none (Some m) = refl

-- it introduces nobody
lent_none : (c : Came) → identity_in (lent_arrivals c) ≡ None
lent_none (came.Message l) = introduces_none (result_ok (read_frames (bodies_in l)))
lent_none came.Part = refl
lent_none came.Other = refl

or_none : {A : Type 0} (x : Option A) → x ≡ option_or x None
or_none None = refl
or_none (Some a) = refl

lent_heard : (c : Came) (own : PeerId) (o piece : List ℕ) (h : ConnHearing) (r new : Reading) → h ≡ conn_after own o → h.phase ≡ Live r → BringsOn c r new piece
    → let now : ConnHearing = record { phase = Live new; identity = h.identity } in (fault_in own (o ++ piece) ≡ None) × Hears own o piece now [] (lent_arrivals c)
lent_heard c own o piece h r new e live brings =
    let items = given c r.before.start new.before.place in
    let a = brings (Dealer own) Whole o (live_reads own o h r e live) in
    let same = arrives_lent c r.before.start new.before.place in
    let known : h.identity ≡ option_or h.identity (identity_in (arrivals_in items)) = or_none h.identity ∙ ap (λ x. option_or h.identity x) (sym (ap identity_in same ∙ lent_none c)) in
    let k = heard own o piece h r new h.identity [] items e live refl (a.0, record { added = a.1; identity = known }) in
    let now : ConnHearing = record { phase = Live new; identity = h.identity } in
    (k.0, subst (λ (l : List Arrival). Hears own o piece now [] l) same k.2)

pub hears_lent : (c : Came) (own : PeerId) (o piece : List ℕ) (h now : ConnHearing) (r new : Reading) → h ≡ conn_after own o → h.phase ≡ Live r → (let n : ConnHearing = record { phase = Live new; identity = h.identity } in now ≡ n)
    → (let m : ConnHearing = record { phase = Live r; identity = h.identity } in m ≡ h) → TakesOn c r new piece → HearsLent c own o piece h now
hears_lent (came.Message l) own o piece h now r new e live is was t = rw is (lent_heard (came.Message l) own o piece h r new e live t)
hears_lent came.Part own o piece h now r new e live is was t = rw is (lent_heard came.Part own o piece h r new e live t)
hears_lent came.Other own o piece h now r new e live is was t = is ∙ ap (λ x. let n : ConnHearing = record { phase = Live x; identity = h.identity } in n) t ∙ was

pub live_hearing : (h : ConnHearing) (r : Reading) → h.phase ≡ Live r → let m : ConnHearing = record { phase = Live r; identity = h.identity } in m ≡ h
live_hearing h r live = ap (λ p. let m : ConnHearing = record { phase = p; identity = h.identity } in m) (sym live)

-- a piece that wasn't taken
pub unlent : {E : Type 0} (result : Result Came E) (r new : Reading) (piece : List ℕ) → IfOk result (λ c. TakesOn c r new piece) → result ≡ Ok came.Other → new ≡ r
unlent (Ok came.Other) r new piece t e = t
unlent (Ok came.Part) r new piece t e = absurd cc
unlent (Ok (came.Message l)) r new piece t e = absurd cc
unlent (Err x) r new piece t e = absurd cc

-- ---- arrivals in place of items

onto : (own : PeerId) (o piece : List ℕ) (now : ConnHearing) (came out out' : List Arrival) → out' ≡ out ++ came → Hears own o piece now [] came → Hears own o piece now out out'
onto own o piece now came out out' a h = record { now_is = h.now_is; appended = a ∙ ap (λ (l : List Arrival). out ++ l) h.appended; arrived = h.arrived; completes = h.completes }

pub heard_onto : (own : PeerId) (o piece : List ℕ) (now : ConnHearing) (start items : List Item) (out out' : List Arrival) → out' ≡ out ++ arrivals_in items
    → (fault_in own (o ++ piece) ≡ None) × Adds (Dealer own) Whole o piece start items × Hears own o piece now [] (arrivals_in items) → (fault_in own (o ++ piece) ≡ None) × Hears own o piece now out out'
heard_onto own o piece now start items out out' a h = (h.0, onto own o piece now (arrivals_in items) out out' a h.2)

pub refused_onto : (own : PeerId) (o piece : List ℕ) (now : ConnHearing) (fault : FeedFault) (start items : List Item) (out out' : List Arrival) → out' ≡ out ++ arrivals_in items
    → Refuses fault (fault_in own (o ++ piece)) (Adds (Dealer own) Whole o piece start items × Hears own o piece now [] (arrivals_in items)) → Refuses fault (fault_in own (o ++ piece)) (Hears own o piece now out out')
refused_onto own o piece now (Zmtp x) start items out out' a h = (h.0, onto own o piece now (arrivals_in items) out out' a h.1.1)
refused_onto own o piece now OutOfMemory start items out out' a h = tt

-- what was paid for all, if anything is refused
pub refused_looks : {A E : Type 0} (r : Result A E) (looks looks' kept kept' n : ℕ) → Looks looks looks' kept kept' n r → IsPaidOnRefusal looks looks' kept n
refused_looks (Ok x) looks looks' kept kept' n h = omega (arith, h.0)
refused_looks (Err e) looks looks' kept kept' n h = h.1
