-- A reader and the octets that it has read.
use Rattle.std.proofs.Common.{◌≡◌, ℕ, false, List, [], ◌++◌, length, drop, Some, None, refl, sym, ap, subst, ◌∙◌, arith}
use Rattle.std.proofs.lemmas.List.{drop_at}
use Rattle.zre_zmtp.specs.declared.item.Item.{Item}
use Rattle.zre_zmtp.specs.declared.fault.ZmtpFault.{ZmtpFault}
use Rattle.zre_zmtp.specs.declared.fault.FeedFault.{FeedFault}
use Rattle.zre_zmtp.specs.declared.fault.FeedFault.TheVariants.{Zmtp, OutOfMemory}
use Rattle.zre_zmtp.specs.Stream.{Want, Before, Kind, Whole, Traffic, Parts, before, cut, split, items, items_of, fault, fault_of, frame_why, greeting_fault}
use Rattle.zre_zmtp.specs.Run.{Found, run_all}
use Rattle.zre_zmtp.specs.Shown.{Waits, Advances}
use Rattle.zre_zmtp.specs.Reading.{Reading, Reads, Refuses, Adds, IsOver, new_items}
use Rattle.zre_zmtp.proofs.FaultsStay.{fault_of-stays}
use Rattle.zre_zmtp.proofs.OctetsCutIntoParts.{cut_on, cut-none, cut-ends, split-more, run-finds, Finds}
use Rattle.zre_zmtp.proofs.WholeFrames.{part-fault}
use Rattle.zre_zmtp.proofs.TurnsOfReaders.{waits_from}

-- ---- a reader of no octets

abbrev pub fresh : Want → Kind → Reading
fresh want kind = record { before = before kind []; left = []; spent = false; wanted = want }

reads_nothing : (want : Want) (kind : Kind) → Reads want kind [] (fresh want kind)
unfolding cut frame_why greeting_fault
reads_nothing want Whole = record { before = refl; left = refl; faultless = refl; unspent = refl; wants = refl }
reads_nothing want Traffic = record { before = refl; left = refl; faultless = refl; unspent = refl; wants = refl }

pub reads_whole : (want : Want) (r : Reading) → r ≡ fresh want Whole → Reads want Whole [] r
reads_whole want r e = subst (λ (x : Reading). Reads want Whole [] x) (sym e) (reads_nothing want Whole)

pub reads_traffic : (want : Want) (r : Reading) → r ≡ fresh want Traffic → Reads want Traffic [] r
reads_traffic want r e = subst (λ (x : Reading). Reads want Traffic [] x) (sym e) (reads_nothing want Traffic)

-- ---- more octets

-- what is found after the octets o, with more octets
pub record Follows (want : Want) (kind : Kind) (o p : List ℕ) (f : Found) : Type 0 where
  pub before : f.before ≡ before kind (split want kind (o ++ p)).0
  pub left : f.left ≡ (split want kind (o ++ p)).1
  pub newly : new_items want kind o p ≡ f.given
  pub all : items want kind (o ++ p) ≡ items want kind o ++ f.given

pub follows : (want : Want) (kind : Kind) (o p : List ℕ) → let s = split want kind o in Follows want kind o p (run_all want (before kind s.0) (s.1 ++ p))
follows want kind o p =
    let s = split want kind o in
    let f = run_all want (before kind s.0) (s.1 ++ p) in
    let h : Finds kind s.0 (cut_on want kind s p) f = run-finds want kind (length (s.1 ++ p)) s.0 (s.1 ++ p) in
    let e : split want kind (o ++ p) ≡ cut_on want kind s p = split-more want kind o p in
    let same : items want kind (o ++ p) ≡ items want kind o ++ f.given = ap (λ (c : Parts × List ℕ). items_of kind c.0) e ∙ h.items in
    record {
      before = h.before ∙ ap (λ (c : Parts × List ℕ). before kind c.0) (sym e);
      left = h.left ∙ ap (λ (c : Parts × List ℕ). c.1) (sym e);
      newly = ap (λ (is : List Item). drop (length (items want kind o)) is) same ∙ drop_at (items want kind o) f.given (length (items want kind o)) refl;
      all = same;
    }

-- the items of more octets extend those of fewer
pub extends : (want : Want) (kind : Kind) (o p : List ℕ) → items want kind (o ++ p) ≡ items want kind o ++ new_items want kind o p
extends want kind o p = let w = follows want kind o p in w.all ∙ ap (λ is. items want kind o ++ is) (sym w.newly)

-- the same of a reader that stands after o
follows_reader : (want : Want) (kind : Kind) (o p : List ℕ) (r : Reading) → Reads want kind o r → Follows want kind o p (run_all want r.before (r.left ++ p))
follows_reader want kind o p r h =
    subst (λ (l : List ℕ). Follows want kind o p (run_all want r.before (l ++ p))) (sym h.left)
    (subst (λ (b : Before). Follows want kind o p (run_all want b ((split want kind o).1 ++ p))) (sym h.before) (follows want kind o p))

pub fault-follows : (want : Want) (kind : Kind) (o p : List ℕ) (f : Found) → Follows want kind o p f → fault_of want f.before f.left ≡ fault want kind (o ++ p)
fault-follows want kind o p f h = ap (λ b. fault_of want b f.left) h.before ∙ ap (λ l. fault_of want (before kind (split want kind (o ++ p)).0) l) h.left

adds : (want : Want) (kind : Kind) (o p : List ℕ) (f : Found) (old new : List Item) → Follows want kind o p f → new ≡ old ++ f.given → Adds want kind o p old new
adds want kind o p f old new w e = record { extended = w.all ∙ ap (λ is. items want kind o ++ is) (sym w.newly); appended = e ∙ ap (λ is. old ++ is) (sym w.newly) }

-- after a fault nothing changes
pub is_over : (want : Want) (kind : Kind) (o : List ℕ) (x : ZmtpFault) → fault want kind o ≡ Some x → IsOver want kind o
is_over want kind o x e =
    let s = split want kind o in
    let stays : (more : List ℕ) → fault_of want (before kind s.0) (s.1 ++ more) ≡ Some x = λ more. fault_of-stays want (before kind s.0) s.1 more x e in
    let same : (more : List ℕ) → split want kind (o ++ more) ≡ (s.0, s.1 ++ more) =
    λ more. split-more want kind o more ∙ cut-none want kind (length (s.1 ++ more)) s.0 (s.1 ++ more) (part-fault want (before kind s.0) (s.1 ++ more) x (stays more)) in
    record {
      fault = λ more. ap (λ (c : Parts × List ℕ). fault_of want (before kind c.0) c.1) (same more) ∙ stays more ∙ sym e;
      items = λ more. ap (λ (c : Parts × List ℕ). items_of kind c.0) (same more);
    }

-- ---- a call

waits : (want : Want) (kind : Kind) (o : List ℕ) (r : Reading) → Reads want kind o r → Waits want r.before r.left
waits want kind o r h =
    let s = split want kind o in
    subst (λ (l : List ℕ). Waits want r.before l) (sym h.left)
    (subst (λ (b : Before). Waits want b s.1) (sym h.before)
    (waits_from want (before kind s.0) s.1 (cut-ends want kind (length o) [] o (omega arith)) h.faultless))

pub waits_reader : (want : Want) (kind : Kind) (o : List ℕ) (r : Reading) → Reads want kind o r → Waits r.wanted r.before r.left
waits_reader want kind o r h = subst (λ (w : Want). Waits w r.before r.left) (sym h.wants) (waits want kind o r h)

pub fed : (want : Want) (kind : Kind) (o p : List ℕ) (r new : Reading) (old_out new_out : List Item) → Reads want kind o r → Advances r.wanted r.before (r.left ++ p) old_out new_out new.before new.left
    → new.spent ≡ false → new.wanted ≡ r.wanted → Reads want kind (o ++ p) new × Adds want kind o p old_out new_out
fed want kind o p r new old_out new_out h a unspent wants =
    let f = run_all want r.before (r.left ++ p) in
    let a' : Advances want r.before (r.left ++ p) old_out new_out new.before new.left = subst (λ (w : Want). Advances w r.before (r.left ++ p) old_out new_out new.before new.left) h.wants a in
    let w : Follows want kind o p f = follows_reader want kind o p r h in
    let none : fault_of want f.before f.left ≡ None = sym (ap (λ x. fault_of want x new.left) a'.reads.before ∙ ap (λ x. fault_of want f.before x) a'.reads.left) ∙ a'.faultless in (
      record { before = a'.reads.before ∙ w.before; left = a'.reads.left ∙ w.left; faultless = sym (fault-follows want kind o p f w) ∙ none; unspent = unspent; wants = wants ∙ h.wants },
      adds want kind o p f old_out new_out w a'.reads.given,
    )

refused_by : (want : Want) (kind : Kind) (o p : List ℕ) (r : Reading) (e : FeedFault) (old_out new_out : List Item) → Reads want kind o r
    → (let f = run_all want r.before (r.left ++ p) in Refuses e (fault_of want f.before f.left) (new_out ≡ old_out ++ f.given))
    → Refuses e (fault want kind (o ++ p)) (Adds want kind o p old_out new_out × IsOver want kind (o ++ p))
refused_by want kind o p r (Zmtp x) old_out new_out h a =
    let f = run_all want r.before (r.left ++ p) in
    let w : Follows want kind o p f = follows_reader want kind o p r h in
    let e : fault want kind (o ++ p) ≡ Some x = sym (fault-follows want kind o p f w) ∙ a.0 in
    (e, (adds want kind o p f old_out new_out w a.1, is_over want kind (o ++ p) x e))
refused_by want kind o p r OutOfMemory old_out new_out h a = tt

pub refused : (want : Want) (kind : Kind) (o p : List ℕ) (r : Reading) (e : FeedFault) (old_out new_out : List Item) → Reads want kind o r
    → (let f = run_all r.wanted r.before (r.left ++ p) in Refuses e (fault_of r.wanted f.before f.left) (new_out ≡ old_out ++ f.given))
    → Refuses e (fault want kind (o ++ p)) (Adds want kind o p old_out new_out × IsOver want kind (o ++ p))
refused want kind o p r e old_out new_out h a =
    refused_by want kind o p r e old_out new_out h
    (subst (λ (w : Want). let f = run_all w r.before (r.left ++ p) in Refuses e (fault_of w f.before f.left) (new_out ≡ old_out ++ f.given)) h.wants a)
