-- A gate that ended before its threads were started.
use Rattle.std.proofs.Common.{◌≡◌, ◌≢◌, ℕ, suc, ◌≤◌, Bool, true, false, List, [], ◌∷◌, map, length, Option, Some, refl, sym, ap, subst, arith}
use Rattle.std.specs.Prelude.{All, option_map}
use mathlib.Core.Logic.{inl, inr}
use Rattle.std.specs.Io.KnownBytes.{Appends}
use Rattle.std.proofs.KnownBytes.{Appends-nil, Consumes-nil}
use Rattle.std.proofs.lemmas.List.Elements.{All-nil, All-cons}
use Rattle.zre_outside.specs.declared.entry.Command.{Command}
use Rattle.zre_outside.specs.declared.start.Start.{Start}
use Rattle.zre_outside.specs.Causes.{Rose}
use Rattle.zre_values.specs.declared.settings.Settings.{Settings as Config}
use Rattle.zre_capture.specs.Heads.{AreSettings}
use Rattle.zre_actor.specs.Commands.{times, row as row_of}
use Rattle.zre_actor.proofs.ConsecutiveNumbers.{row_once}
use Rattle.zre_console.specs.lines.Orders.{asked}
use Rattle.zre_commands.specs.declared.pump.status.Status.{Status}
use Rattle.zre_commands.specs.declared.pump.status.Status.TheVariants.{Done, WriteFault, WorldFault, OutOfMemory, DeskFault}
use Rattle.zre_console.specs.Lived.{Seen, Holds, started}
use Rattle.zre_console.specs.Stages.{IsEarly}
use Rattle.zre_console.proofs.EndBeforeStart.{unlived, unwritten, uncaptured}
use Rattle.zre_gate.specs.Clients.{SeenClient}
use Rattle.zre_gate.specs.Gate.{Client, IsClient, IsCaused, IsGate, before_of, after_of, handed_of}
use Rattle.zre_gate.specs.Interleaving.{IsInterleaving, of_name}

-- a client of which nothing was read
abbrev pub unread : SeenClient → Client
unread r = record { before = r; after = r; octets = []; handed = [] }

is_unread : (limit : ℕ) (r : SeenClient) → IsClient limit (unread r)
is_unread limit r = record {
  moved = record { consumed = Consumes-nil r.left; recorded = Appends-nil r.taken };
  within = omega arith;
  later = omega arith;
  in_order = (asked false [], refl);
  unfinished = inl (asked true [], refl);
  refused = inl refl;
}

all_unread : (limit : ℕ) (rows : List SeenClient) → All (IsClient limit) (map unread rows)
all_unread limit [] = All-nil (IsClient limit)
all_unread limit (r ∷ rows) = All-cons (IsClient limit) (unread r) (map unread rows) (is_unread limit r) (all_unread limit rows)

same_rows : (f : Client → SeenClient) → ((r : SeenClient) → f (unread r) ≡ r) → (rows : List SeenClient) → map f (map unread rows) ≡ rows
same_rows f same [] = refl
same_rows f same (r ∷ rows) = λ i. same r i ∷ same_rows f same rows i

-- nothing is an interleaving of empty lists
none_merged : (rows : List SeenClient) → IsInterleaving (map handed_of (map unread rows)) []
none_merged rows = record {
  names = row_of 1 (length rows);
  apart = λ n. (row_once (length rows) n).0;
  named = [];
  are_whole = refl;
  are_lists = by 1 rows;
  known = All-nil (λ (x : ℕ × Command). 1 ≤ times x.0 (row_of 1 (length rows)));
}
  where
    by : (a : ℕ) (rs : List SeenClient) → map (λ n. of_name n []) (row_of a (length rs)) ≡ map handed_of (map unread rs)
    by a [] = refl
    by a (r ∷ rs) = ap (λ l. [] ∷ l) (by (suc a) rs)

module _ (g : Config) (start : Start) (name : Option (List ℕ)) (limit many : ℕ) (s t : Seen) (desk : Type 0) (rows : List SeenClient) where
  pub unopened : (begun : Bool) (status : Status) → (status ≢ OutOfMemory → AreSettings g) → t.written ≡ s.written → t.told ≡ option_map (started begun start) s.told → status ≢ Done
      → IsCaused status limit (map unread rows) 0 false s t desk
      → ((file : List ℕ) → name ≡ Some file → status ≢ OutOfMemory → ¬ Rose s.record_faults t.record_faults → Holds g file [] s t)
      → IsGate g start name limit many s t desk rows rows status
  unopened begun status settings written told not_done cause holds = record {
    lived = unlived g start name limit begun s t status told not_done;
    wrote = unwritten g start name limit s t status written;
    captured = uncaptured g start name limit s t status settings not_done holds;
    unwritten = λ _. subst (λ x. Appends s.written x []) (sym written) (Appends-nil s.written);
    full = λ d. absurd (not_done d);
    served = ∣ record {
      clients = map unread rows;
      are_before = same_rows before_of (λ r. refl) rows;
      are_after = same_rows after_of (λ r. refl) rows;
      each = all_unread limit rows;
      merged = record {
        body = [];
        tail = [];
        parts = refl;
        closes = inl refl;
        interleaved = none_merged rows;
        all_handed = λ d. absurd (not_done d);
        free = λ d. absurd (not_done d);
      };
      caused = cause;
    } ∣₁;
  }

  -- what ends it before
  pub early : (status : Status) (worlds records : Type 0) → (worlds → Rose s.world_faults t.world_faults) → (records → Rose s.record_faults t.record_faults) → IsEarly status desk worlds records
      → (status ≢ Done) × IsCaused status limit (map unread rows) 0 false s t desk
  early WriteFault worlds records v r is = ((λ e. cc), inr (r is))
  early WorldFault worlds records v r is = ((λ e. cc), v is)
  early DeskFault worlds records v r is = ((λ e. cc), is)
  early OutOfMemory worlds records v r is = ((λ e. cc), tt)
  early status worlds records v r is = absurd is
