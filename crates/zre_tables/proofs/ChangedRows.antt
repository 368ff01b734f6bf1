-- A row that was found, and what was put in its place.
use Rattle.std.proofs.Common.{◌≡◌, ℕ, ◌++◌, Bool, true, false, if◌then◌else◌, List, length, Some, None, Result, Ok, Err, IfOk, sym, ap, ◌∙◌, arith, nat_cmp, get_or}
use Rattle.std.proofs.lemmas.Map.Steps.{set_value_same}
use Rattle.std.specs.BTreeMap.{is_at}
use Rattle.std.specs.List.{slice_get, slice_set}
use Rattle.std.specs.List.Sorted.{IsStrictlySortedBy}
use Rattle.std.specs.Map.{keys_of}
use Rattle.zre_values.specs.declared.memory.OutOfMemory.{OutOfMemory}
use Rattle.zre_values.specs.declared.peer_id.PeerId.{PeerId}
use Rattle.zre_zmtp.specs.Looks.{Looks}
use Rattle.zre_link.specs.Heard.{heard_after, held_of}
use Rattle.zre_link.specs.Link.{Sending, link_after, link_answering}
use Rattle.zre_link.specs.Text.{Member}
use Rattle.zre_tables.specs.Rows.{Changes, row_at, with_row}
use Rattle.zre_tables.specs.declared.peer.Peer.{Peer}
use Rattle.zre_tables.proofs.RowsInOrder.{lies}

-- the rows are seen as `now`; k is the row that was found
module _ {V : Type 0} (n : ℕ) (inside now : List (ℕ × V)) (view_is : inside ≡ now) (k : V) (found : Some k ≡ row_at n inside) where
  pub same : (x : V) → row_at n now ≡ Some x → k ≡ x
  same x at = let z : Some k ≡ Some x = found ∙ ap (row_at n) view_is ∙ at in cc

  pub put_back : (w : V) (new : List (ℕ × V)) → new ≡ with_row n w inside → (u : V) → w ≡ u → new ≡ with_row n u now
  put_back w new put u e = put ∙ ap (λ es. with_row n w es) view_is ∙ ap (λ y. with_row n y now) e

  pub put_same : (w : V) (new : List (ℕ × V)) → new ≡ with_row n w inside → w ≡ k → new ≡ now
  put_same w new put e = put ∙ ap (λ y. with_row n y inside) e ∙ set_value_same (is_at (nat_cmp n)) inside k (sym found) ∙ view_is

  pub there : {C : Type 0} → row_at n now ≡ None → C
  there none = let z : Some k ≡ None = found ∙ ap (row_at n) view_is ∙ none in absurd cc

pub relink : (k x : Peer) (s t : Sending) → k ≡ x → s ≡ t → record k { link = s } ≡ record x { link = t }
relink k x s t e f = ap (λ (y : Peer). record y { link = s }) e ∙ ap (λ (z : Sending). record x { link = z }) f

-- a row that lies at a place was changed there
pub changes : {V : Type 0} (n i : ℕ) (inside now : List (ℕ × V)) (view_is : inside ≡ now) (row : ℕ × V) → IsStrictlySortedBy nat_cmp (keys_of inside) → (x : V) × (slice_get inside i ≡ Some (n, x)) → row ≡ get_or inside i row
    → (change : V → V) (w : V) → w ≡ change row.1 → Changes n change now (slice_set inside i (row.0, w))
changes n i inside now view_is row up there_is at change w is =
    let it = lies inside n i row up there_is at in
    record {
      found = λ x seen. put_back n inside now view_is row.1 (sym it.there_is) w _ (it.set w) (change x) (is ∙ ap change (same n inside now view_is row.1 (sym it.there_is) x seen));
      missing = λ none. there n inside now view_is row.1 (sym it.there_is) none;
    }

-- what was paid for a reply, by what came before
pub paid_as : {A : Type 0} (X Y : A → Type 0) (r : Result A OutOfMemory) (own : PeerId) (line : List Member) (linked : Bool) (o : List ℕ) (n : ℕ) (bytes : List ℕ) (s s' : Sending) (looks looks' : ℕ)
    → s ≡ link_after own line linked o n → (s ≡ link_after own line true o n → IfOk r (λ why. (s' ≡ link_answering own line true o n bytes) × X why))
    → (s.linked ≡ false → IfOk r (λ why. (s' ≡ s) × Y why)) → Looks looks looks' (held_of s.replies) (held_of s'.replies) (length bytes) r
    → Looks looks looks' (held_of (heard_after o)) (held_of (heard_after (if linked then o ++ bytes else o))) (length bytes) r
paid_as X Y (Ok why) own line true o n bytes s s' looks looks' is standing waiting p =
    (omega (arith, ap (λ (z : Sending). held_of z.replies) is, ap (λ (z : Sending). held_of z.replies) (standing is).0, p.0), tt)
paid_as X Y (Ok why) own line false o n bytes s s' looks looks' is standing waiting p =
    (omega (arith, ap (λ (z : Sending). held_of z.replies) is, ap (λ (z : Sending). held_of z.replies) (waiting (ap (λ (z : Sending). z.linked) is)).0, p.0), tt)
paid_as X Y (Err e) own line linked o n bytes s s' looks looks' is standing waiting p =
    (tt, omega (arith, ap (λ (z : Sending). held_of z.replies) is, p.1))

-- a row that shows that its peer is there, and then has another run
pub retaken : (k p x w : Peer) (now : ℕ) → k ≡ x → p ≡ record k { active = now } → w ≡ record p { run = w.run } → w ≡ record x { active = now; run = w.run }
retaken k p x w now e timed ran = ran ∙ ap (λ (y : Peer). record y { run = w.run }) (timed ∙ ap (λ (y : Peer). record y { active = now }) e)
