-- Rows of a network that stand for the same while more happens.
use Rattle.std.proofs.Common.{◌≡◌, ℕ, ◌+◌, Bool, true, false, eqb, List, [], ◌∷◌, length, Option, Some, None, refl, ap, sym, ◌∙◌, subst, arith, eqb-true}
use Rattle.std.specs.Prelude.{slice_get, slice_set}
use Rattle.zre_values.specs.declared.peer_id.PeerId.{PeerId}
use Rattle.zre_net.specs.declared.moves.Move.TheVariants as move
use Rattle.zre_net.specs.declared.running.rows.Started.{Started}
use Rattle.zre_net.specs.declared.running.rows.Carrier.{Carrier}
use Rattle.zre_net.specs.Carried.{pending}
use Rattle.zre_net.specs.History.{Incarnation, Happening, Happens, IsKnown, starts, incarnations, journal, chronicle_of, settings_of}
use Rattle.zre_net.specs.Lists.{nth}
use Rattle.zre_net.specs.Numbers.{CarriedConn}
use Rattle.zre_net.specs.Rows.{Fits}
use Rattle.zre_net.specs.Running.{HasRow, HasStarted, Finds, HasConn}
use Rattle.zre_net.specs.Sending.{HasSent}
use Rattle.zre_net.proofs.JournalsOfIncarnations.{as_many_starts}
use Rattle.zre_net.proofs.ListsCountedFromOne.{some_one, in_reach, nth_at, nth_same, nth_other, nth_more, nth_last}

-- where one row is written anew, what has its number stands in it, and all else stands as it did
pub rows_set : {A B : Type 0} (number_of : A → ℕ) (Was Is : A → B → Type 0) (all : List A) (k place : ℕ) (xs ys : List B) (was now : B) → k ≡ place + 1 → slice_get xs place ≡ Some was → ys ≡ slice_set xs place now
    → ((a : A) → nth k all ≡ Some a → number_of a ≡ k → Was a was → Is a now)
    → ((j : ℕ) (a : A) → eqb j k ≡ false → ((x : B) → nth j xs ≡ Some x → nth j ys ≡ Some x) → HasRow number_of Was j a xs → HasRow number_of Is j a ys)
    → ((j : ℕ) (a : A) → nth j all ≡ Some a → HasRow number_of Was j a xs) → (j : ℕ) (a : A) → nth j all ≡ Some a → HasRow number_of Is j a ys
rows_set number_of Was Is all k place xs ys was now under before rows mine others each j a e = by (eqb j k) refl
  where
    h : HasRow number_of Was j a xs
    h = each j a e

    by : (t : Bool) → eqb j k ≡ t → HasRow number_of Is j a ys
    by true z =
        let same : j ≡ k = eqb-true j k z in
        record {
          number = h.number;
          row = now;
          there = ap (nth j) rows ∙ nth_same j place xs now (same ∙ under) (in_reach xs place was before);
          is = mine a (ap (λ n. nth n all) (sym same) ∙ e) (h.number ∙ same) (subst (Was a) (some_one (sym h.there ∙ nth_at j place xs (same ∙ under) ∙ before)) h.is);
        }
    by false z = others j a z (λ x t. ap (nth j) rows ∙ nth_other k place j xs now under z ∙ t) h

module _ (H N : List Happening) (later : (b : Incarnation) → IsKnown H b → IsKnown N b) where
  pub start_stays : (k : ℕ) (b : Incarnation) (xs ys : List Started) → ((x : Started) → nth k xs ≡ Some x → nth k ys ≡ Some x)
      → ((x : Started) → HasSent b.settings (journal b H) x.sender → HasSent b.settings (journal b N) x.sender) → HasStarted H k b xs → HasStarted N k b ys
  start_stays k b xs ys t f h = record {
    number = h.number;
    row = h.row;
    there = t h.row h.there;
    is = record { node = h.is.node; since = h.is.since; id = h.is.id; host = h.is.host; sent = f h.row h.is.sent };
  }

  pub conn_stays : (x : ℕ) (c : CarriedConn) (xs ys : List Carrier) → ((y : Carrier) → nth x xs ≡ Some y → nth x ys ≡ Some y) → pending c.number H ≡ pending c.number N
      → ((y : Carrier) → IsKnown H c.to → Fits c.to.settings c.number (chronicle_of c.to H) y.read_side → Fits c.to.settings c.number (chronicle_of c.to N) y.read_side) → HasConn H x c xs → HasConn N x c ys
  conn_stays x c xs ys t w f h = record {
    number = h.number;
    row = h.row;
    there = t h.row h.there;
    is = record {
      to = h.is.to;
      to_known = later c.to h.is.to_known;
      along = h.is.along;
      along_known = later c.along.from h.is.along_known;
      waits = h.is.waits ∙ w;
      fits = f h.row h.is.to_known h.is.fits;
    };
  }

  pub finds_stays : (n : ℕ) (o : Option Incarnation) (f : Option ℕ) → Finds H n o f → Finds N n o f
  finds_stays n None f z = z
  finds_stays n (Some b) f z = (z.0, later b z.1, z.2)

-- ---- a node starts

module _ (H : List Happening) (n at : ℕ) (id : PeerId) (name host : List ℕ) (port : ℕ) where
  abbrev pub starting : Incarnation
  starting = record { number = starts H + 1; node = n; since = at; settings = settings_of id name host port }

  abbrev pub after_start : List Happening
  after_start = Happens (move.Start n at id name host port) None ∷ H

  pub known_started : (b : Incarnation) → IsKnown H b → IsKnown after_start b
  known_started b k = nth_more b.number (incarnations H) (starting ∷ []) b k

  pub number_is : length (incarnations H) + 1 ≡ starts H + 1
  number_is = let e = as_many_starts H in omega (arith, e)

  pub starting_known : IsKnown after_start starting
  starting_known = ap (λ k. nth k (incarnations after_start)) (sym number_is) ∙ nth_last (incarnations H) starting
