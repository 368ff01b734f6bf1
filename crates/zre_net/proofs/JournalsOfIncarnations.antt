-- The journals of incarnations: which entry of a history is in whose, and that each start has the next number.
use Rattle.std.proofs.Common.{◌≡◌, ℕ, ◌+◌, false, cond, eqb, List, [], ◌∷◌, ◌++◌, length, Some, None, refl, ap, sym, ◌∙◌, arith, eq-eqb}
use Rattle.zre_outside.specs.declared.entry.Entry.{Entry}
use Rattle.zre_outside.specs.declared.entry.Input.{Input}
use Rattle.zre_journal.specs.Chronicle.{followed}
use Rattle.zre_journal.specs.Events.{chronicle}
use Rattle.zre_journal.specs.Happens.{with_entry}
use Rattle.zre_journal.proofs.JoinedEntries.{continues}
use Rattle.zre_net.specs.declared.moves.Move.{Move}
use Rattle.zre_net.specs.declared.moves.Move.TheVariants as move
use Rattle.zre_net.specs.Comes.{turn_of}
use Rattle.zre_net.specs.History.{Incarnation, NodeTurn, Happening, Happens, IsKnown, starts, incarnations, journal, chronicle_of, settings_of}
use Rattle.zre_net.specs.Lists.{nth}
use Rattle.zre_net.proofs.ListsCountedFromOne.{some_one}

pub length-last : {A : Type 0} (xs : List A) (x : A) → length (xs ++ x ∷ []) ≡ length xs + 1
length-last [] x = refl
length-last (y ∷ xs) x = let r = length-last xs x in omega (arith, r)

-- each start has the next number
pub as_many_starts : (H : List Happening) → starts H ≡ length (incarnations H)
as_many_starts [] = refl
as_many_starts (Happens m t ∷ H) = by m (as_many_starts H)
  where
    by : (m : Move) → starts H ≡ length (incarnations H) → starts (Happens m t ∷ H) ≡ length (incarnations (Happens m t ∷ H))
    by (move.Start n at id name host port) r =
        let l = length-last (incarnations H) (record { number = starts H + 1; node = n; since = at; settings = settings_of id name host port }) in
        omega (arith, r, l)
    by _ r = r

pub same_who : (H : List Happening) (a b : Incarnation) → IsKnown H a → IsKnown H b → a.number ≡ b.number → a ≡ b
same_who H a b p q e = some_one (sym p ∙ ap (λ n. nth n (incarnations H)) e ∙ q)

-- ---- journals

module _ (H : List Happening) (m : Move) (a : Incarnation) (at : ℕ) (i : Input) where
  abbrev T : NodeTurn
  T = turn_of a at i

  abbrev N : List Happening
  N = Happens m (Some T) ∷ H

  abbrev J : List Entry
  J = journal a H

  pub journal_now : (b : Incarnation) → b.number ≡ a.number → journal b N ≡ journal b H ++ T.entry ∷ []
  journal_now b e = ap (λ z. followed (journal b H) (cond z (Some T.entry) None)) (eq-eqb b.number a.number e)

  pub other_journal : (b : Incarnation) → eqb b.number a.number ≡ false → journal b N ≡ journal b H
  other_journal b e = ap (λ z. followed (journal b H) (cond z (Some T.entry) None)) e

  pub chronicle_now : chronicle_of a N ≡ with_entry a.settings T.entry (chronicle_of a H)
  chronicle_now = ap (chronicle a.settings) (journal_now a refl) ∙ (continues a.settings J (T.entry ∷ [])).happened

  pub other_chronicle : (b : Incarnation) → eqb b.number a.number ≡ false → chronicle_of b N ≡ chronicle_of b H
  other_chronicle b e = ap (chronicle b.settings) (other_journal b e)
