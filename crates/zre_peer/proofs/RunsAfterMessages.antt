-- A run that has taken messages, and one more.
use Rattle.std.specs.Prelude.{OnOk, IfErr}
use Rattle.std.proofs.Common.{Result, Ok, Err, ◌≡◌, ◌≢◌, ℕ, ◌+◌, ◌%◌, Bool, true, false, cond, eqb, ◌&&◌, List, [], ◌∷◌, ◌++◌, length, Some, refl, sym, ap, ◌∙◌, arith}
use Rattle.std.proofs.lemmas.List.Sums.{fold_push}
use Rattle.std.proofs.lemmas.Bool.{and_parts, and_from}
use Rattle.std.proofs.lemmas.List.{append-nil, append_assoc, length_push}
use Rattle.std.proofs.Math.Bool.{and-false}
use Rattle.zre_msg.specs.declared.message.Message.{Message}
use Rattle.zre_peer.specs.declared.view.View.{View}
use Rattle.zre_peer.specs.declared.peer_run.Run.{Run}
use Rattle.zre_peer.specs.declared.peer_run.RunFault.{RunFault}
use Rattle.zre_peer.specs.declared.peer_run.RunFault.TheVariants as faults
use Rattle.zre_peer.specs.Later.{goes_on, later_fault, RefusesLater}
use Rattle.zre_peer.specs.Runs.{due, is_hello, may_follow, fault_of, shown, in_order, in_order_after}
use Rattle.zre_peer.specs.Standing.{Stands}
use Rattle.zre_peer.specs.Views.{view_of, after, blank}

pub view_of_more : (ms : List Message) (m : Message) → view_of (ms ++ m ∷ []) ≡ after (view_of ms) m.body
unfolding view_of
view_of_more ms m = fold_push (λ (v : View) (n : Message). after v n.body) blank ms m

-- some messages were taken, and the view after them
pub shown_some : (ms : List Message) (v : View) → Some v ≡ shown ms → (d : Message) × (ds : List Message) × (ms ≡ d ∷ ds) × (v ≡ view_of ms)
shown_some [] v e = absurd cc
shown_some (d ∷ ds) v e = (d, ds, refl, cc)

pub follows_later : (ms : List Message) (v : View) (m : Message) (number : ℕ) → Some v ≡ shown ms → number ≡ due ms → may_follow ms m ≡ goes_on v number m
follows_later [] v m number e n = absurd cc
follows_later (d ∷ ds) v m number e n =
    let is : v ≡ view_of (d ∷ ds) = cc in
    rw (view_of_more (d ∷ ds) m, ← is, ← n) refl

pub fault_later : (ms : List Message) (v : View) (m : Message) (number : ℕ) → Some v ≡ shown ms → number ≡ due ms → fault_of ms m ≡ later_fault number m
fault_later [] v m number e n = absurd cc
fault_later (d ∷ ds) v m number e n = ap (λ k. later_fault k m) (sym n)

pub shown_more : (ms : List Message) (m : Message) → shown (ms ++ m ∷ []) ≡ Some (view_of (ms ++ m ∷ []))
shown_more [] m = refl
shown_more (d ∷ ds) m = refl

-- in order after others, with one more
pub in_order-push : (done ms : List Message) (m : Message) → in_order_after done ms ≡ true → may_follow (done ++ ms) m ≡ true → in_order_after done (ms ++ m ∷ []) ≡ true
in_order-push done [] m e f = and_from (may_follow done m) true (rw append-nil at f) refl
in_order-push done (n ∷ ms) m e f =
    let p = and_parts (may_follow done n) (in_order_after (done ++ n ∷ []) ms) e in
    let g : may_follow ((done ++ n ∷ []) ++ ms) m ≡ true = ap (λ x. may_follow x m) (append_assoc done (n ∷ []) ms) ∙ f in
    and_from (may_follow done n) (in_order_after (done ++ n ∷ []) (ms ++ m ∷ [])) p.0 (in_order-push (done ++ n ∷ []) ms m p.1 g)

-- not in order with one that may not follow
pub in_order-refused : (done ms : List Message) (m : Message) → may_follow (done ++ ms) m ≡ false → in_order_after done (ms ++ m ∷ []) ≡ false
in_order-refused done [] m f = ap (λ b. b && true) (rw append-nil at f)
in_order-refused done (n ∷ ms) m f =
    let g : may_follow ((done ++ n ∷ []) ++ ms) m ≡ false = ap (λ x. may_follow x m) (append_assoc done (n ∷ []) ms) ∙ f in
    ap (λ b. may_follow done n && b) (in_order-refused (done ++ n ∷ []) ms m g) ∙ and-false (may_follow done n)

-- the count of a run, which wraps, and the number that is due
pub count_more : (count : ℕ) (ms : List Message) → count ≡ length ms % 65536 → (count + 1) % 65536 ≡ due ms
count_more count ms e = omega (arith, e)

pub view_before : (ms : List Message) (v : View) → Some v ≡ shown ms → v ≡ view_of ms
view_before ms v e = (shown_some ms v e).3

pub shown_after : (ms : List Message) (v w : View) (m : Message) → Some v ≡ shown ms → w ≡ after v m.body → Some w ≡ shown (ms ++ m ∷ [])
shown_after ms v w m e h = ap (λ x. Some x) (h ∙ ap (λ x. after x m.body) (view_before ms v e) ∙ sym (view_of_more ms m)) ∙ sym (shown_more ms m)

-- a message after the first was taken: what the run then knows
pub record Taken (ms : List Message) (m : Message) (w : View) (next : ℕ) : Type 0 where
  pub may : may_follow ms m ≡ true
  pub ordered : in_order (ms ++ m ∷ []) ≡ true
  pub view : Some w ≡ shown (ms ++ m ∷ [])
  pub count : next ≡ length (ms ++ m ∷ []) % 65536

pub taken_later : (r : Run) (ms : List Message) (v w : View) (m : Message) (next : ℕ) → Stands r ms → r.view ≡ Some v → next ≡ (r.count + 1) % 65536 → goes_on v next m ≡ true → w ≡ after v m.body → Taken ms m w next
taken_later r ms v w m next s is next_is fine changed =
    let e : Some v ≡ shown ms = sym is ∙ s.view in
    let number = next_is ∙ count_more r.count ms s.count in
    let may = follows_later ms v m next e number ∙ fine in
    record {
      may = may;
      ordered = in_order-push [] ms m s.ordered may;
      view = shown_after ms v w m e changed;
      count = number ∙ sym (ap (λ k. k % 65536) (length_push ms m));
    }

-- it was refused
pub refused_later : (r : Run) (ms : List Message) (v : View) (m : Message) (next : ℕ) (f : RunFault) → Stands r ms → r.view ≡ Some v → next ≡ (r.count + 1) % 65536 → goes_on v next m ≡ false → f ≡ later_fault next m
    → (may_follow ms m ≡ false) × (f ≡ fault_of ms m)
refused_later r ms v m next f s is next_is refused why =
    let e : Some v ≡ shown ms = sym is ∙ s.view in
    let number = next_is ∙ count_more r.count ms s.count in
    (follows_later ms v m next e number ∙ refused, why ∙ sym (fault_later ms v m next e number))

-- the view of a run is that of its messages
pub view_of_run : (r : Run) (ms : List Message) (v : View) → Stands r ms → r.view ≡ Some v → v ≡ view_of ms
view_of_run r ms v s is = view_before ms v (sym is ∙ s.view)

-- a message after the first is never refused as a first one
pub later_never : (number : ℕ) (m : Message) → later_fault number m ≢ faults.NotHello
later_never number m = by (is_hello m.body) (eqb m.sequence number)
  where
    by : (h n : Bool) → cond h faults.SecondHello (cond n faults.Limit (faults.Broken number m.sequence)) ≢ faults.NotHello
    by true n e = absurd cc
    by false true e = absurd cc
    by false false e = absurd cc

-- what follows from two things that hold of an answer that was passed on
pub on_both : {E A B C : Type 0} (r q : Result (Unit {0}) E) → r ≡ q → OnOk q A → OnOk q B → (A → B → C) → OnOk r C
on_both r (Ok x) is a b f = rw is (f a b)
on_both r (Err e) is a b f = rw is tt

pub on_all : {E A B C D : Type 0} (r q : Result (Unit {0}) E) → r ≡ q → OnOk q A → OnOk q B → OnOk q C → (A → B → C → D) → OnOk r D
on_all r (Ok x) is a b c f = rw is (f a b c)
on_all r (Err e) is a b c f = rw is tt

-- and of its fault
pub if_passed : {E : Type 0} {P R : E → Type 0} (r q : Result (Unit {0}) E) → r ≡ q → IfErr q P → ((e : E) → P e → R e) → IfErr r R
if_passed r (Ok x) is p f = rw is tt
if_passed r (Err e) is p f = rw is (f e p)

-- a message after the first was refused, and the answer was passed on
pub refused_on : {A : Type 0} (r : Run) (ms : List Message) (v : View) (m : Message) (next : ℕ) (result taken : Result (Unit {0}) RunFault) (told told' : List A) → Stands r ms → r.view ≡ Some v → next ≡ (r.count + 1) % 65536
    → result ≡ taken → RefusesLater taken v next m told told'
    → IfErr result (λ e. e ≢ faults.OutOfMemory → (may_follow ms m ≡ false) × (e ≡ fault_of ms m) × (told' ≡ told))
refused_on r ms v m next result taken told told' s is next_is same refused =
    if_passed result taken same refused (λ e why ne.
    let h = why ne in
    let f = refused_later r ms v m next e s is next_is h.0 h.1 in
    (f.0, f.1, h.2))
