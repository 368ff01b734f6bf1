-- Streams: how much of one without a fault stays unfinished, and how large the messages of one are.
use Rattle.std.proofs.Common.{◌≡◌, ℕ, zero, suc, ◌+◌, ◌≤◌, Bool, true, false, cond, not, List, [], ◌∷◌, ◌++◌, length, take, drop, Option, Some, None, refl, subst, arith, inl, inr, option_map}
use Rattle.std.specs.Prelude.{sum_by, option_to_list}
use Rattle.std.specs.List.{AllByRecursion}
use Rattle.std.proofs.lemmas.Option.{none-some}
use Rattle.std.proofs.lemmas.List.Sums.{sum_by-append, sum_by-cons}
use Rattle.zre_values.specs.declared.limits.TheConstants.{MESSAGE_OCTETS, COMMAND_OCTETS}
use Rattle.zre_zmtp.specs.Frame.{flags, size, body, is_message, has_more}
use Rattle.zre_zmtp.specs.Ready.{name}
use Rattle.zre_zmtp.specs.declared.expected.Expected.{Expected}
use Rattle.zre_zmtp.specs.declared.expected.Expected.TheVariants as expect
use Rattle.zre_zmtp.specs.declared.want.Want.{Want}
use Rattle.zre_zmtp.specs.declared.item.Item.{Item}
use Rattle.zre_zmtp.specs.declared.item.What.{What}
use Rattle.zre_zmtp.specs.declared.item.What.TheVariants as says
use Rattle.zre_zmtp.specs.Stream.{Before, Kind, Whole, Parts, before, expected, opened, cut, fault, part_len, what_of, start_of, item, items_of, items}
use Rattle.zre_zmtp.proofs.OctetsCutIntoParts.{cases_Option, cut-none, cut-some}
use Rattle.zre_zmtp.proofs.OctetsHeld.{kept_most, part_within}
use Rattle.zre_mailbox.specs.Conn.{reading}
use Rattle.zre_journal.specs.Held.{unfinished}
use Rattle.zre_journal.proofs.NumberedLists.{All-join}

-- without a fault, at most the bodies of a message, a header, and the body of a command
pub unfinished-most : (want : Want) (o : List ℕ) → fault want Whole o ≡ None → unfinished want o ≤ MESSAGE_OCTETS + 9 + COMMAND_OCTETS
unfinished-most want o e = kept_most want Whole o (reading want Whole o) (record { before = refl; left = refl; faultless = e; unspent = refl; wants = refl })

-- ---- messages

-- no message, or one whose frames are within the limit together
abbrev pub IsWithin : What → Type 0
IsWithin (says.Message frames) = sum_by length frames ≤ MESSAGE_OCTETS
IsWithin _ = Unit {0}

what_within : (k : Expected) (bodies : List (List ℕ)) (part : List ℕ) → (k ≡ expect.Traffic → is_message (flags part) ≡ true → sum_by length bodies + length (body part) ≤ MESSAGE_OCTETS)
    → (w : What) → what_of k bodies part ≡ Some w → IsWithin w
what_within expect.Greeting bodies part most w e = by w e
  where
    by : {a b : ℕ} (x : What) → Some (says.Greeting a b) ≡ Some x → IsWithin x
    by {a} {b} x q = let same : says.Greeting a b ≡ x = cc in subst IsWithin same tt
what_within expect.Ready bodies part most w e = by w e
  where
    by : {n : ℕ} {s i : Option (List ℕ)} (x : What) → Some (says.Ready n s i) ≡ Some x → IsWithin x
    by {n} {s} {i} x q = let same : says.Ready n s i ≡ x = cc in subst IsWithin same tt
what_within expect.Traffic bodies part most w e = by (is_message (flags part)) refl (has_more (flags part)) e
  where
    by : (t : Bool) → is_message (flags part) ≡ t → (more : Bool) → cond (not t) (Some (says.Command (size part) (name (body part)) (body part))) (cond more None (Some (says.Message (bodies ++ body part ∷ [])))) ≡ Some w → IsWithin w
    by false m more q = let same : says.Command (size part) (name (body part)) (body part) ≡ w = cc in subst IsWithin same tt
    by true m true q = absurd (none-some w q)
    by true m false q = let same : says.Message (bodies ++ body part ∷ []) ≡ w = cc in subst IsWithin same (omega (arith, most refl m, sum_by-append length bodies (body part ∷ []), sum_by-cons length (body part) []))

-- the messages of a stream
abbrev pub AreWithin : List Item → Type 0
AreWithin is = AllByRecursion (λ (i : Item). IsWithin i.what) is

item_within : (b : Before) (part : List ℕ) → ((w : What) → what_of b.expected b.opened part ≡ Some w → IsWithin w) → AreWithin (option_to_list (item b part))
unfolding item
item_within b part h = by (what_of b.expected b.opened part) h
  where
    by : (o : Option What) → ((w : What) → o ≡ Some w → IsWithin w)
        → AreWithin (option_to_list (option_map (λ (says_ : What). record { start = start_of b.expected b (flags part); end = b.place + length part; what = says_ }) o))
    by None f = tt
    by (Some w) f = (f w refl, tt)

cut_within : (want : Want) (kind : Kind) (n : ℕ) (parts : Parts) (o : List ℕ) → AreWithin (items_of kind parts) → AreWithin (items_of kind (cut want kind n parts o).0)
unfolding cut
cut_within want kind zero parts o h = h
cut_within want kind (suc n) parts o h =
    elim (cases_Option (part_len want (before kind parts) o)) [
      | inl e ↦ rw (cut-none want kind (suc n) parts o e) h
      | inr p ↦ rw (cut-some want kind n parts o p.0 p.1) (cut_within want kind n (take p.0 o ∷ parts) (drop p.0 o)
          (All-join (λ (i : Item). IsWithin i.what) (items_of kind parts) (option_to_list (item (before kind parts) (take p.0 o))) h
          (item_within (before kind parts) (take p.0 o) (what_within (expected kind parts) (opened kind parts) (take p.0 o) (λ t m. part_within want (before kind parts) o p.0 p.1 t m)))))
    ]

pub items-within : (want : Want) (kind : Kind) (o : List ℕ) → AreWithin (items want kind o)
items-within want kind o = cut_within want kind (length o) [] o tt
