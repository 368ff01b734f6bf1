-- The turns of a reader.
use Rattle.std.proofs.Common.{◌≡◌, ℕ, zero, suc, ◌+◌, ◌≤◌, ◌<◌, Bool, true, false, cond, List, [], ◌∷◌, ◌++◌, length, take, drop, Option, Some, None, refl, sym, ap, subst, ◌∙◌, arith, inl, inr, append_assoc, option_map}
use Rattle.std.specs.Prelude.{option_to_list, nat_le, if◌then◌else◌}
use Rattle.std.specs.Option.{option_or}
use Rattle.std.proofs.lemmas.Bool.{leb-false, le-leb, lt-leb}
use Rattle.zre_zmtp.specs.declared.fault.ZmtpWhy.{ZmtpWhy}
use Rattle.zre_zmtp.specs.declared.header.Header.{Header}
use Rattle.std.proofs.lemmas.List.{length-append, take-append-drop, take-append-le, drop-append-le, append-nil, take_all, drop_all}
use Rattle.std.proofs.lemmas.Option.{none-some}
use Rattle.zre_zmtp.specs.declared.fault.ZmtpFault.{ZmtpFault}
use Rattle.zre_zmtp.specs.declared.fault.FeedFault.{FeedFault}
use Rattle.zre_zmtp.specs.declared.fault.FeedFault.TheVariants.{Zmtp, OutOfMemory}
use Rattle.zre_zmtp.specs.declared.item.Item.{Item}
use Rattle.zre_zmtp.specs.declared.expected.Expected.{Expected}
use Rattle.zre_zmtp.specs.declared.expected.Expected.TheVariants as expect
use Rattle.zre_zmtp.specs.Stream.{Want, Before, item, part_len, whole_len, fault_of, fault_at, frame_why, greeting_fault, octet_fault, body_fault}
use Rattle.zre_zmtp.specs.Run.{after, Found, with_item, run, run_all}
use Rattle.zre_zmtp.specs.Reading.{Refuses}
use Rattle.zre_zmtp.specs.Shown.{Waits, Advances, GoesOn, frame_item, frame_after}
use Rattle.zre_zmtp.proofs.FaultsStay.{part_len-from, part_len-stays, part_len-bounds, fault_of-stays}
use Rattle.zre_zmtp.proofs.OctetsCutIntoParts.{cases_Option, run-none, run-some, shorter, not_empty}
use Rattle.zre_zmtp.proofs.MoreOfOnePart.{greeting_on}
use Rattle.zre_zmtp.proofs.FrameFaults.{IsFramed}
use Rattle.zre_zmtp.proofs.WholeFrames.{run-enough, run_all-some, part-none, part-fault}
use Rattle.zre_zmtp.proofs.OctetsHeld.{part_none}

-- ---- what is found in more octets

-- the same with items before
abbrev pub after_items : List Item → Found → Found
after_items is f = record { given = is ++ f.given; before = f.before; left = f.left }

-- what is found in the octets that one run left, and those after them
abbrev pub run_on : Want → Found → List ℕ → Found
run_on want f p = after_items f.given (run_all want f.before (f.left ++ p))

item-in_front : (want : Want) (i : Option Item) (f : Found) (p : List ℕ) → with_item i (run_on want f p) ≡ run_on want (with_item i f) p
item-in_front want i f p = let r = run_all want f.before (f.left ++ p) in ap (λ (is : List Item). let x : Found = record { given = is; before = r.before; left = r.left } in x) (sym (append_assoc (option_to_list i) f.given r.given))

nothing_yet : (want : Want) (n m : ℕ) (b : Before) (o p : List ℕ) → length (o ++ p) ≤ m → part_len want b o ≡ None → run want m b (o ++ p) ≡ run_on want (run want n b o) p
nothing_yet want n m b o p k e = run-enough want m (length (o ++ p)) b (o ++ p) k (omega arith) ∙ ap (λ f. run_on want f p) (sym (run-none want n b o e))

pub run-more : (want : Want) (n m : ℕ) (b : Before) (o p : List ℕ) → length o ≤ n → length (o ++ p) ≤ m → run want m b (o ++ p) ≡ run_on want (run want n b o) p
run-more want zero m b o p h k =
    elim (cases_Option (part_len want b o)) [
      | inl e ↦ nothing_yet want 0 m b o p k e
      | inr q ↦ absurd (not_empty want b o q.0 q.1 h)
    ]
run-more want (suc n) zero b o p h k =
    elim (cases_Option (part_len want b o)) [
      | inl e ↦ nothing_yet want (suc n) 0 b o p k e
      | inr q ↦ absurd (not_empty want b (o ++ p) q.0 (part_len-stays want b o p q.0 q.1) k)
    ]
run-more want (suc n) (suc m) b o p h k =
    elim (cases_Option (part_len want b o)) [
      | inl e ↦ nothing_yet want (suc n) (suc m) b o p k e
      | inr q ↦ (let len = q.0 in
          let within : len ≤ length o = (part_len-bounds want b o len q.1).1 in
          let more = part_len-stays want b o p len q.1 in
          let front : take len (o ++ p) ≡ take len o = take-append-le len o p within in
          let rest : drop len (o ++ p) ≡ drop len o ++ p = drop-append-le len o p within in
          let room : length (drop len o ++ p) ≤ m = rw (← drop-append-le len o p within) (shorter want b (o ++ p) len m more k) in
          run-some want m b (o ++ p) len more
          ∙ ap (λ (t : List ℕ). with_item (item b t) (run want m (after b t) (drop len (o ++ p)))) front
          ∙ ap (λ (t : List ℕ). with_item (item b (take len o)) (run want m (after b (take len o)) t)) rest
          ∙ ap (λ f. with_item (item b (take len o)) f) (run-more want n m (after b (take len o)) (drop len o) p (shorter want b o len n q.1 h) room)
          ∙ item-in_front want (item b (take len o)) (run want n (after b (take len o)) (drop len o)) p
          ∙ ap (λ f. run_on want f p) (sym (run-some want n b o len q.1)))
    ]

pub run_all-more : (want : Want) (b : Before) (o p : List ℕ) → run_all want b (o ++ p) ≡ run_on want (run_all want b o) p
run_all-more want b o p = run-more want (length o) (length (o ++ p)) b o p (omega arith) (omega arith)

-- nothing more is whole after what is found
pub run-ends : (want : Want) (n : ℕ) (b : Before) (o : List ℕ) → length o ≤ n → part_len want (run want n b o).before (run want n b o).left ≡ None
run-ends want zero b o h =
    elim (cases_Option (part_len want b o)) [
      | inl e ↦ rw (run-none want 0 b o e) e
      | inr p ↦ absurd (not_empty want b o p.0 p.1 h)
    ]
run-ends want (suc n) b o h =
    elim (cases_Option (part_len want b o)) [
      | inl e ↦ rw (run-none want (suc n) b o e) e
      | inr p ↦ rw (run-some want n b o p.0 p.1) (run-ends want n (after b (take p.0 o)) (drop p.0 o) (shorter want b o p.0 n p.1 h))
    ]

-- ---- the outcome of a turn

pub waits_from : (want : Want) (b : Before) (o : List ℕ) → part_len want b o ≡ None → fault_of want b o ≡ None → Waits want b o
unfolding part_len
waits_from want b o e f = record { faultless = f; partial = part_none _ _ f e }

-- the part isn't whole yet
pub turn_waits : (want : Want) (b : Before) (o : List ℕ) (out new : List Item) (now : Before) (left : List ℕ) → fault_of want b o ≡ None → whole_len b.expected o ≡ None
    → new ≡ out → now ≡ b → left ≡ o → Advances want b o out new now left
turn_waits want b o out new now left f e is p q =
    let none = run-none want (length o) b o (part-none want b o f e) in
    record {
      reads = record { given = is ∙ sym (append-nil out) ∙ ap (λ (x : Found). out ++ x.given) (sym none); before = p ∙ ap (λ (x : Found). x.before) (sym none); left = q ∙ ap (λ (x : Found). x.left) (sym none) };
      faultless = ap (λ x. fault_of want x left) p ∙ ap (λ x. fault_of want b x) q ∙ f;
    }

pub no_octets : (want : Want) (e : Expected) (b : Before) → fault_at e want b [] ≡ None
unfolding frame_why greeting_fault
no_octets want expect.Greeting b = refl
no_octets want expect.Ready b = refl
no_octets want expect.Traffic b = refl

pub no_part : (want : Want) (b : Before) → part_len want b [] ≡ None
no_part want b =
    elim (cases_Option (part_len want b [])) [
      | inl e ↦ e
      | inr p ↦ absurd (not_empty want b [] p.0 p.1 (omega arith))
    ]

-- the part is whole
pub turn_whole : (want : Want) (b : Before) (o : List ℕ) (out new : List Item) (now : Before) (left : List ℕ) → fault_of want b o ≡ None → whole_len b.expected o ≡ Some (length o)
    → new ≡ out ++ option_to_list (item b o) → now ≡ after b o → left ≡ [] → Advances want b o out new now left
turn_whole want b o out new now left f e is p q =
    let found : run_all want b o ≡ with_item (item b o) (record { given = []; before = after b o; left = [] }) =
    run_all-some want b o (length o) (part_len-from want b o (length o) (record { faultless = f; len = e }))
    ∙ ap (λ (t : List ℕ). with_item (item b t) (run_all want (after b t) (drop (length o) o))) (take_all (length o) o (omega arith))
    ∙ ap (λ (t : List ℕ). with_item (item b o) (run_all want (after b o) t)) (drop_all (length o) o (omega arith))
    ∙ ap (λ x. with_item (item b o) x) (run-none want 0 (after b o) [] (no_part want (after b o))) in
    record {
      reads = record {
        given = is ∙ ap (λ (x : List Item). out ++ x) (sym (append-nil (option_to_list (item b o)))) ∙ ap (λ (x : Found). out ++ x.given) (sym found);
        before = p ∙ ap (λ (x : Found). x.before) (sym found);
        left = q ∙ ap (λ (x : Found). x.left) (sym found);
      };
      faultless = ap (λ x. fault_of want x left) p ∙ ap (λ x. fault_of want (after b o) x) q ∙ no_octets want (after b o).expected (after b o);
    }

-- the part has a fault
pub turn_refused : (want : Want) (b : Before) (o : List ℕ) (out new : List Item) (x : ZmtpFault) → fault_of want b o ≡ Some x → new ≡ out
    → let found = run_all want b o in (fault_of want found.before found.left ≡ Some x) × (new ≡ out ++ found.given)
turn_refused want b o out new x f is =
    let none = run-none want (length o) b o (part-fault want b o x f) in
    (ap (λ (y : Found). fault_of want y.before y.left) none ∙ f, is ∙ sym (append-nil out) ∙ ap (λ (y : Found). out ++ y.given) (sym none))

-- ---- turn by turn

-- where a reader stands that read all but the rest of some octets
pub record IsAmid (want : Want) (front out : List Item) (all : Found) (b : Before) (left rest : List ℕ) : Type 0 where
  pub waits : Waits want b left
  pub goes : GoesOn front out all (run_all want b (left ++ rest))

pub begins : (want : Want) (b : Before) (left rest : List ℕ) (front : List Item) → Waits want b left → IsAmid want front front (run_all want b (left ++ rest)) b left rest
begins want b left rest front w = record { waits = w; goes = record { given = refl; before = refl; left = refl } }

pub one_turn : (want : Want) (front out new : List Item) (all : Found) (b now : Before) (left c later left' rest : List ℕ) → rest ≡ c ++ later → IsAmid want front out all b left rest
    → Advances want b (left ++ c) out new now left' → IsAmid want front new all now left' later
one_turn want front out new all b now left c later left' rest is amid a =
    let f = run_all want b (left ++ c) in
    let more : run_all want b (left ++ rest) ≡ run_on want f later = ap (λ (r : List ℕ). run_all want b (left ++ r)) is ∙ ap (λ (r : List ℕ). run_all want b r) (sym (append_assoc left c later)) ∙ run_all-more want b (left ++ c) later in
    let on : run_on want f later ≡ after_items f.given (run_all want now (left' ++ later)) =
    ap (λ x. after_items f.given (run_all want x (f.left ++ later))) (sym a.reads.before) ∙ ap (λ (x : List ℕ). after_items f.given (run_all want now (x ++ later))) (sym a.reads.left) in
    let r = run_all want now (left' ++ later) in
    let g : GoesOn front out all (after_items f.given r) = subst (λ (x : Found). GoesOn front out all x) (more ∙ on) amid.goes in
    let ends : part_len want now left' ≡ None = ap (λ x. part_len want x left') a.reads.before ∙ ap (λ (x : List ℕ). part_len want f.before x) a.reads.left ∙ run-ends want (length (left ++ c)) b (left ++ c) (omega arith) in
    record {
      waits = waits_from want now left' ends a.faultless;
      goes = record { given = g.given ∙ sym (append_assoc out f.given r.given) ∙ ap (λ (x : List Item). x ++ r.given) (sym a.reads.given); before = g.before; left = g.left };
    }

pub all_read : (want : Want) (front out : List Item) (b0 : Before) (o : List ℕ) (b : Before) (left rest : List ℕ) → length rest ≤ 0 → IsAmid want front out (run_all want b0 o) b left rest → Advances want b0 o front out b left
all_read want front out b0 o b left [] none amid =
    let e : run_all want b (left ++ []) ≡ record { given = []; before = b; left = left } =
    ap (λ (x : List ℕ). run_all want b x) (append-nil left) ∙ run-none want (length left) b left (part-none want b left amid.waits.faultless amid.waits.partial) in
    let g : GoesOn front out (run_all want b0 o) (record { given = []; before = b; left = left }) = subst (λ (x : Found). GoesOn front out (run_all want b0 o) x) e amid.goes in
    record { reads = record { given = sym (g.given ∙ append-nil out); before = sym g.before; left = sym g.left }; faultless = amid.waits.faultless }
all_read want front out b0 o b left (x ∷ rest) none amid = absurd (omega (arith, none))

refused_amid : (want : Want) (front out new : List Item) (all : Found) (b : Before) (left c later rest : List ℕ) (x : ZmtpFault) → rest ≡ c ++ later → IsAmid want front out all b left rest
    → (let f = run_all want b (left ++ c) in (fault_of want f.before f.left ≡ Some x) × (new ≡ out ++ f.given)) → (fault_of want all.before all.left ≡ Some x) × (new ≡ front ++ all.given)
refused_amid want front out new all b left c later rest x is amid r =
    let f = run_all want b (left ++ c) in
    let stays : fault_of want f.before (f.left ++ later) ≡ Some x = fault_of-stays want f.before f.left later x r.0 in
    let more : run_all want b (left ++ rest) ≡ record { given = f.given ++ []; before = f.before; left = f.left ++ later } =
    ap (λ (y : List ℕ). run_all want b (left ++ y)) is ∙ ap (λ (y : List ℕ). run_all want b y) (sym (append_assoc left c later)) ∙ run_all-more want b (left ++ c) later
    ∙ ap (λ y. after_items f.given y) (run-none want (length (f.left ++ later)) f.before (f.left ++ later) (part-fault want f.before (f.left ++ later) x stays)) in
    let g : GoesOn front out all (record { given = f.given ++ []; before = f.before; left = f.left ++ later }) = subst (λ (y : Found). GoesOn front out all y) more amid.goes in
    (ap (λ y. fault_of want y all.left) g.before ∙ ap (λ y. fault_of want f.before y) g.left ∙ stays, r.1 ∙ ap (λ (y : List Item). out ++ y) (sym (append-nil f.given)) ∙ sym g.given)

pub refused_turn : (want : Want) (front out new : List Item) (all : Found) (b : Before) (left c later rest : List ℕ) (e : FeedFault) → rest ≡ c ++ later → IsAmid want front out all b left rest
    → (let f = run_all want b (left ++ c) in Refuses e (fault_of want f.before f.left) (new ≡ out ++ f.given)) → Refuses e (fault_of want all.before all.left) (new ≡ front ++ all.given)
refused_turn want front out new all b left c later rest (Zmtp x) is amid r = refused_amid want front out new all b left c later rest x is amid r
refused_turn want front out new all b left c later rest OutOfMemory is amid r = tt

-- ---- a whole frame

-- octets before, and those after them
pub joined : (n : ℕ) (o front : List ℕ) → front ≡ take n o → o ≡ front ++ drop n o
joined n o front p = sym (take-append-drop n o) ∙ ap (λ (x : List ℕ). x ++ drop n o) (sym p)

pub frame_taken : (want : Want) (b : Before) (h : Header) (head o : List ℕ) (n : ℕ) (out new : List Item) (now : Before) (left : List ℕ) → IsFramed want b h o (head ++ o) (length head + length o)
    → body_fault want b h.flags o ≡ None → n ≡ length head → new ≡ out ++ option_to_list (frame_item b h o (n + length o)) → now ≡ frame_after b h o (n + length o) → left ≡ []
    → Advances want b (head ++ o) out new now left
frame_taken want b h head o n out new now left is fine at given after_is nothing =
    turn_whole want b (head ++ o) out new now left
    (is.fault ∙ ap (λ x. option_map (λ reason. record { why = reason; place = b.place }) x) fine) is.whole
    (given ∙ ap (λ k. out ++ option_to_list (frame_item b h o (k + length o))) at ∙ ap (λ i. out ++ option_to_list i) (sym is.item))
    (after_is ∙ ap (λ k. frame_after b h o (k + length o)) at ∙ sym is.after) nothing

pub frame_refused : (want : Want) (b : Before) (h : Header) (head o : List ℕ) (out new : List Item) (e : FeedFault) → IsFramed want b h o (head ++ o) (length head + length o) → new ≡ out
    → Refuses e (option_map (λ reason. record { why = reason; place = b.place }) (body_fault want b h.flags o)) (Unit {0})
    → let found = run_all want b (head ++ o) in Refuses e (fault_of want found.before found.left) (new ≡ out ++ found.given)
frame_refused want b h head o out new (Zmtp x) is same r = turn_refused want b (head ++ o) out new x (is.fault ∙ r.0) same
frame_refused want b h head o out new OutOfMemory is same r = tt

-- ---- the greeting

pub record GreetsOn (want : Want) (b : Before) (left : List ℕ) (x : ℕ) : Type 0 where
  pub fault : fault_of want b (left ++ x ∷ []) ≡ option_map (λ reason. record { why = reason; place = length left }) (octet_fault (length left) x)
  pub whole : whole_len b.expected (left ++ x ∷ []) ≡ (if nat_le 64 (length (left ++ x ∷ [])) then Some 64 else None)
  pub most : length (left ++ x ∷ []) ≤ 64

less_of : (t : Bool) (n : ℕ) → cond t (Some n) None ≡ None → t ≡ false
less_of true n e = absurd (none-some n (sym e))
less_of false n e = refl

option_or-nothing : (a : Option ZmtpFault) → option_or a None ≡ a
option_or-nothing None = refl
option_or-nothing (Some x) = refl

one_octet : (i x : ℕ) → greeting_fault i (x ∷ []) ≡ option_map (λ reason. record { why = reason; place = i }) (octet_fault i x)
unfolding greeting_fault
one_octet i x = option_or-nothing (option_map (λ reason. record { why = reason; place = i }) (octet_fault i x))

greets_at : (e : Expected) (want : Want) (b : Before) (left : List ℕ) (x : ℕ) → e ≡ expect.Greeting → fault_at e want b left ≡ None → whole_len e left ≡ None
    → (fault_at e want b (left ++ x ∷ []) ≡ option_map (λ reason. record { why = reason; place = length left }) (octet_fault (length left) x))
    × (whole_len e (left ++ x ∷ []) ≡ (if nat_le 64 (length (left ++ x ∷ [])) then Some 64 else None)) × (length (left ++ x ∷ []) ≤ 64)
greets_at expect.Ready want b left x is fine less = absurd cc
greets_at expect.Traffic want b left x is fine less = absurd cc
greets_at expect.Greeting want b left x is fine less =
    let few : length left < 64 = leb-false _ _ (less_of (nat_le 64 (length left)) 64 less) in
    let len : length (left ++ x ∷ []) ≡ length left + 1 = length-append left (x ∷ []) in
    let all : take 64 left ≡ left = take_all 64 left (omega (arith, few)) in
    let more : take 64 (left ++ x ∷ []) ≡ left ++ x ∷ [] = take_all 64 (left ++ x ∷ []) (omega (arith, few, len)) in
    let at : 0 + length left ≡ length left = omega arith in
    let none : greeting_fault 0 left ≡ None = ap (λ (o : List ℕ). greeting_fault 0 o) (sym all) ∙ fine in (
      ap (λ (o : List ℕ). greeting_fault 0 o) more ∙ greeting_on 0 left (x ∷ []) none ∙ ap (λ (k : ℕ). greeting_fault k (x ∷ [])) at ∙ one_octet (length left) x,
      refl,
      omega (arith, few, len),
    )

pub greets_on : (want : Want) (b : Before) (left : List ℕ) (x : ℕ) → b.expected ≡ expect.Greeting → Waits want b left → GreetsOn want b left x
greets_on want b left x is w = let g = greets_at b.expected want b left x is w.faultless w.partial in record { fault = g.0; whole = g.1; most = g.2 }

pub greeting_refused : (want : Want) (b : Before) (left : List ℕ) (x n : ℕ) (why : ZmtpWhy) (out : List Item) → b.expected ≡ expect.Greeting → Waits want b left → n ≡ length left → octet_fault n x ≡ Some why
    → let found = run_all want b (left ++ x ∷ []) in (fault_of want found.before found.left ≡ Some (record { why = why; place = n })) × (out ≡ out ++ found.given)
greeting_refused want b left x n why out is w at e =
    let g = greets_on want b left x is w in
    turn_refused want b (left ++ x ∷ []) out out (record { why = why; place = n })
    (g.fault ∙ ap (λ (k : ℕ). option_map (λ reason. record { why = reason; place = k }) (octet_fault k x)) (sym at) ∙ ap (λ r. option_map (λ reason. record { why = reason; place = n }) r) e) refl

pub greeting_waits : (want : Want) (b : Before) (left left' : List ℕ) (x n : ℕ) (out : List Item) → b.expected ≡ expect.Greeting → Waits want b left → n ≡ length left → octet_fault n x ≡ None
    → left' ≡ left ++ x ∷ [] → length left' < 64 → Advances want b (left ++ x ∷ []) out out b left'
greeting_waits want b left left' x n out is w at e same few =
    let g = greets_on want b left x is w in
    let less : length (left ++ x ∷ []) < 64 = rw (← same) few in
    turn_waits want b (left ++ x ∷ []) out out b left'
    (g.fault ∙ ap (λ (k : ℕ). option_map (λ reason. record { why = reason; place = length left }) (octet_fault k x)) (sym at) ∙ ap (λ r. option_map (λ reason. record { why = reason; place = length left }) r) e)
    (g.whole ∙ ap (λ (t : Bool). cond t (Some 64) None) (lt-leb 64 (length (left ++ x ∷ [])) less)) refl refl same

pub greeting_whole : (want : Want) (b : Before) (left all : List ℕ) (x n : ℕ) (found : Item) (out new : List Item) (now : Before) (left' : List ℕ) → b.expected ≡ expect.Greeting → Waits want b left → n ≡ length left
    → octet_fault n x ≡ None → all ≡ left ++ x ∷ [] → 64 ≤ length all → item b all ≡ Some found → new ≡ out ++ found ∷ [] → now ≡ after b all → left' ≡ [] → Advances want b (left ++ x ∷ []) out new now left'
greeting_whole want b left all x n found out new now left' is w at e same many says given after_is nothing =
    let g = greets_on want b left x is w in
    let enough : 64 ≤ length (left ++ x ∷ []) = rw (← same) many in
    let exact : 64 ≡ length (left ++ x ∷ []) = omega (arith, enough, g.most) in
    turn_whole want b (left ++ x ∷ []) out new now left'
    (g.fault ∙ ap (λ (k : ℕ). option_map (λ reason. record { why = reason; place = length left }) (octet_fault k x)) (sym at) ∙ ap (λ r. option_map (λ reason. record { why = reason; place = length left }) r) e)
    (g.whole ∙ ap (λ (t : Bool). cond t (Some 64) None) (le-leb 64 (length (left ++ x ∷ [])) enough) ∙ ap (λ (k : ℕ). Some k) exact)
    (given ∙ ap (λ i. out ++ option_to_list i) (sym says) ∙ ap (λ (o : List ℕ). out ++ option_to_list (item b o)) same)
    (after_is ∙ ap (λ (o : List ℕ). after b o) same) nothing
