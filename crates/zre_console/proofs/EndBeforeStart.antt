-- What is there before the threads are started, and what an end before that comes to.
use Rattle.std.proofs.Common.{◌≡◌, ◌≢◌, ℕ, Bool, true, false, true≢false, List, [], Option, Some, None, ◌≤◌, refl, sym, ◌∙◌, subst, arith, append-nil, ⊎_elim}
use Rattle.std.specs.Prelude.{option_map, is_some}
use mathlib.Core.List.{nil-sublist}
use Rattle.std.specs.Io.KnownBytes.{Appends}
use Rattle.std.proofs.KnownBytes.{Appends-nil}
use Rattle.std.proofs.lemmas.List.Elements.{All-nil}
use Rattle.zre_outside.specs.declared.start.Start.{Start}
use Rattle.zre_outside.specs.Causes.{Rose}
use Rattle.zre_outside.specs.Worlds.{Log}
use Rattle.zre_values.specs.declared.settings.Settings.{Settings as Config}
use Rattle.zre_capture.specs.Heads.{AreSettings}
use Rattle.zre_capture.specs.Journal.{capture, lines_in}
use Rattle.zre_capture.specs.Lines.{IsEntry}
use Rattle.zre_capture.specs.declared.format.Format.TheVariants.{Second}
use Rattle.zre_actor.specs.Work.{went}
use Rattle.zre_actor.proofs.DeedsOfActs.{went-none}
use Rattle.zre_commands.specs.declared.pump.status.Status.{Status}
use Rattle.zre_commands.specs.declared.pump.status.Status.TheVariants.{Done, OutOfMemory}
use Rattle.zre_console.specs.lines.Orders.{orders_from, ended_lines, Begins}
use Rattle.zre_console.specs.Keeping.{head_of}
use Rattle.zre_console.specs.Lived.{Seen, Holds, started, Lived, Wrote, Captured}
use Rattle.zre_console.specs.Stages.{HasOpened, Prepared}
use Rattle.zre_console.proofs.lines.OrdersUpToQuit.{orders-begin}

-- ---- what a world tells, over two steps

pub maps : (f h : Log → Log) (told : Option Log) → option_map f (option_map h told) ≡ option_map (λ l. f (h l)) told
maps f h None = refl
maps f h (Some l) = refl

-- where it wasn't started, it tells what it told
pub none_started : {L : Type 0} (told : Option L) → told ≡ option_map (λ l. l) told
none_started None = refl
none_started (Some l) = refl

-- a capture of no entries
pub head_only : (g : Config) (kept u t : Option (List ℕ)) → Appends (option_map (λ _. []) kept) u (head_of g) → t ≡ u → Appends (option_map (λ _. []) kept) t (capture Second g [])
head_only g kept u t is same = subst (λ (x : Option (List ℕ) × List ℕ). Appends (option_map (λ _. []) kept) x.0 x.1) (λ i. (sym same i, sym (append-nil (head_of g)) i)) is

-- no commands begin the orders of any text
pub nothing_begins : (o : List ℕ) → Begins [] o
nothing_begins o = orders-begin o [] (orders_from 1 (ended_lines (lines_in o))) refl refl

module _ (g : Config) (start : Start) (name : Option (List ℕ)) (limit : ℕ) where
  pub untold : (begun : Bool) (told : Option Log) → option_map (started begun start) told ≡ option_map (λ l. went [] 0 [] [] (started begun start l)) told
  untold begun None = refl
  untold begun (Some l) = went-none (Some (started begun start l))

  -- where the threads weren't started, the world gave nothing
  abbrev pub unlived : (begun : Bool) (s t : Seen) (status : Status) → t.told ≡ option_map (started begun start) s.told → status ≢ Done → Lived g start limit s t status
  unlived begun s t status told not_done = record {
    begun = begun;
    turns = 0;
    looks = 0;
    entries = [];
    unstepped = [];
    handed = [];
    deeds = [];
    is_told = told ∙ untold begun s.told;
    counted = refl;
    most = omega arith;
    one_unstepped = omega arith;
    are_values = All-nil IsEntry;
    all_taken = λ _. refl;
    all_go = tt;
    did = [];
    undone = [];
    are_acts = refl;
    are_deeds = tt;
    all_done = λ _. refl;
    are_done = nil-sublist [];
    done = λ d. absurd (not_done d);
  }

  -- nothing was written
  pub unwritten : (s t : Seen) (status : Status) → t.written ≡ s.written → Wrote g [] s t status
  unwritten s t status written = record {
    front = ([], [], refl, subst (λ x. Appends s.written x []) (sym written) (Appends-nil s.written));
    whole = λ _. subst (λ x. Appends s.written x []) (sym written) (Appends-nil s.written);
  }

  -- and the head at most was kept
  pub uncaptured : (s t : Seen) (status : Status) → (status ≢ OutOfMemory → AreSettings g) → status ≢ Done
      → ((file : List ℕ) → name ≡ Some file → status ≢ OutOfMemory → ¬ Rose s.record_faults t.record_faults → Holds g file [] s t)
      → Captured g name [] s t status
  uncaptured s t status settings not_done holds = record {
    are_settings = settings;
    held = λ file is spared. ⊎_elim (λ (d : status ≡ Done). absurd (not_done d)) (λ (x : (status ≢ OutOfMemory) × ¬ Rose s.record_faults t.record_faults). holds file is x.0 x.1) spared;
  }

module _ (g : Config) (start : Start) (name : Option (List ℕ)) (settings : AreSettings g) where
  -- all of it came about
  pub prepared : (keep begun : Bool) (s u : Seen) → u ≡ record s { told = u.told; world_faults = u.world_faults; kept = u.kept; named = u.named; record_faults = u.record_faults }
      → HasOpened g start name begun s.told u.told s.kept u.kept s.named u.named → (s.world_faults ≤ u.world_faults) × (s.record_faults ≤ u.record_faults) → keep ≡ is_some name → Prepared g start name keep s u
  prepared keep begun s u same opened later keeps = record {
    same = same;
    told = opened.is_told;
    world_later = later.0;
    record_later = later.1;
    keeps = keeps;
    are_settings = settings;
    head_kept = λ file is. (opened.begins file is).is_kept;
    file_named = λ file is. (opened.begins file is).is_named;
  }

-- a name that is there
pub there : (name : Option (List ℕ)) → is_some name ≡ true → (file : List ℕ) × (name ≡ Some file)
there None is = absurd (true≢false (sym is))
there (Some file) is = (file, refl)
