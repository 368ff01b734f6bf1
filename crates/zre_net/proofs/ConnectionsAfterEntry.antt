-- The connections of a network, after an entry of one of its nodes.
use Rattle.std.proofs.Common.{◌≡◌, ℕ, Bool, true, false, eqb, List, [], ◌∷◌, length, Some, refl, sym, ap, ◌∙◌, subst, arith, eqb-true}
use Rattle.std.specs.Prelude.{sum_by, Result, Ok, Err, OnOk}
use Rattle.zre_outside.specs.declared.entry.Input.{Input}
use Rattle.zre_journal.specs.Chronicle.{Mark}
use Rattle.zre_journal.specs.Heard.{bytes, piece_of}
use Rattle.zre_net.specs.declared.moves.Move.{Move}
use Rattle.zre_net.specs.declared.running.read_side.ReadSide.{ReadSide}
use Rattle.zre_net.specs.declared.running.network.Network.{Network}
use Rattle.zre_net.specs.declared.running.rows.Carrier.{Carrier}
use Rattle.zre_net.specs.Carried.{pending}
use Rattle.zre_net.specs.Comes.{turn_of}
use Rattle.zre_net.specs.History.{Incarnation, NodeTurn, Happening, Happens, IsKnown, journal, chronicle_of}
use Rattle.zre_net.specs.Lists.{nth}
use Rattle.zre_net.specs.Numbers.{CarriedConn, conns}
use Rattle.zre_net.specs.Rows.{Fits}
use Rattle.zre_net.specs.Running.{AreNodes, HasConn, AreConns, StandsAfter, IsStill, IsKept, IsSilent}
use Rattle.zre_net.proofs.ReadSideAfterEntry.{fits_still, no_piece}
use Rattle.zre_net.proofs.OpenedAfterEntry.{bytes_same}
use Rattle.zre_net.proofs.JournalsOfIncarnations.{same_who, chronicle_now, other_chronicle}
use Rattle.zre_net.proofs.RowsStandForSame.{conn_stays}

module _ (H : List Happening) (m : Move) (still : IsStill m) (a : Incarnation) (at : ℕ) (i : Input) (a_known : IsKnown H a) where
  abbrev T : NodeTurn
  T = turn_of a at i

  abbrev N : List Happening
  N = Happens m (Some T) ∷ H

  pub known_later : (b : Incarnation) → IsKnown H b → IsKnown N b
  known_later b e = ap (nth b.number) (still.incarnations_stay (Some T) H) ∙ e

  pub known_before : (b : Incarnation) → IsKnown N b → IsKnown H b
  known_before b e = ap (nth b.number) (sym (still.incarnations_stay (Some T) H)) ∙ e

  -- what is so of the chronicles of all, is so after the entry
  pub for_all : (P : Incarnation → List Mark → Type 0) → (P a (chronicle_of a N)) → ((b : Incarnation) → P b (chronicle_of b H)) → (b : Incarnation) → IsKnown H b → P b (chronicle_of b N)
  for_all P p f b k = by (eqb b.number a.number) refl
    where
      by : (t : Bool) → eqb b.number a.number ≡ t → P b (chronicle_of b N)
      by true z = subst (λ c. P c (chronicle_of c N)) (same_who H a b a_known k (sym (eqb-true b.number a.number z))) p
      by false z = subst (λ K. P b K) (sym (other_chronicle H m a at i b z)) (f b)

  pub fits_other : (x : ℕ) (read_side : ReadSide) → piece_of x i ≡ [] → (b : Incarnation) → IsKnown H b → Fits b.settings x (chronicle_of b H) read_side → Fits b.settings x (chronicle_of b N) read_side
  fits_other x read_side p b k = for_all (λ c K. Fits c.settings x (chronicle_of c H) read_side → Fits c.settings x K read_side)
      (λ f. subst (λ K. Fits a.settings x K read_side) (sym (chronicle_now H m a at i)) (fits_still a.settings (journal a H) T.entry x read_side p f)) (λ c f. f) b k

  pub silent_more : (x : ℕ) → piece_of x i ≡ [] → ((b : Incarnation) → IsKnown H b → bytes x (chronicle_of b H) ≡ []) → (b : Incarnation) → IsKnown N b → bytes x (chronicle_of b N) ≡ []
  silent_more x p s b k =
      for_all (λ c K. bytes x (chronicle_of c H) ≡ [] → bytes x K ≡ []) (λ z. ap (bytes x) (chronicle_now H m a at i) ∙ bytes_same a.settings (journal a H) T.entry x p ∙ z) (λ c z. z)
      b (known_before b k) (s b (known_before b k))

  -- a connection to which nothing comes
  pub conn_still : (x : ℕ) (c : CarriedConn) (xs ys : List Carrier) → ((y : Carrier) → nth x xs ≡ Some y → nth x ys ≡ Some y) → piece_of c.number i ≡ [] → pending c.number N ≡ pending c.number H → HasConn H x c xs → HasConn N x c ys
  conn_still x c xs ys t p w h = conn_stays H N known_later x c xs ys t (sym w) (λ y k f. fits_other c.number y.read_side p c.to k f) h

  pub conns_more : IsKept m → IsSilent i → (ys : List Carrier) → AreConns H ys → AreConns N ys
  conns_more kept quiet ys s = record {
    count = s.count ∙ ap (λ xs. length xs) (sym stay);
    each = λ x c e. conn_still x c ys ys (λ y t. t) (no_piece c.number i quiet) (kept.pending_stay (Some T) H c.number) (s.each x c (ap (nth x) (sym stay) ∙ e));
    silent = λ b k x z. silent_more x (no_piece x i quiet) (λ d l. s.silent d l x (let n = ap (λ xs. length xs) stay in omega (arith, n, z))) b k;
  }
    where
      stay : conns N ≡ conns H
      stay = kept.conns_stay (Some T) H

  pub stands_more : IsKept m → IsSilent i → (net new : Network) → StandsAfter H net → AreNodes N new → new.conns ≡ net.conns → new.pending ≡ net.pending → StandsAfter N new
  stands_more kept quiet net new s nodes c p = record {
    nodes = nodes;
    conns_are = subst (λ ys. AreConns N ys.items) (sym c) (conns_more kept quiet net.conns.items s.conns_are);
    pending_is = p ∙ s.pending_is ∙ ap (λ ys. sum_by (λ (y : Carrier). length y.waiting) ys.items) (sym c);
  }

pub on_all : {T E A B C D : Type 0} (r : Result T E) → OnOk r A → OnOk r B → OnOk r C → (A → B → C → D) → OnOk r D
on_all (Ok x) a b c f = f a b c
on_all (Err x) a b c f = tt
