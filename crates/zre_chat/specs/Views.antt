-- What is handed in to a chat, and what is seen of it at one moment.
use Rattle.std.specs.Prelude.{ℕ, List, Option}
use Rattle.zre_outside.specs.Worlds.{Log}
use Rattle.zre_console.specs.Lived.{Seen, seen}

-- what is seen of a source and of a sink
pub record StreamViews (I O : Type 0) : Type 0 where
  pub left : I → Option (List ℕ)
  pub taken : I → Option (List ℕ)
  pub read_faults : I → ℕ
  pub written : O → Option (List ℕ)
  pub write_faults : O → ℕ

abbrev pub stream_views : {I O : Type 0} (left taken : I → Option (List ℕ)) (reads : I → ℕ)
    (written : O → Option (List ℕ)) (writes : O → ℕ) → StreamViews I O
stream_views left taken reads written writes = record {
  left = left;
  taken = taken;
  read_faults = reads;
  written = written;
  write_faults = writes;
}

-- all that is handed in to a chat
pub record Handed (I W O R P : Type 0) : Type 0 where
  pub input : I
  pub world : W
  pub out : O
  pub rec : R
  pub spawner : P

abbrev pub handed : {I W O R P : Type 0} → I → W → O → R → P → Handed I W O R P
handed input world out rec spawner = record { input = input; world = world; out = out; rec = rec; spawner = spawner }

-- what is seen of each
pub record Views (I W O R P : Type 0) : Type 0 where
  pub streams : StreamViews I O
  pub told : W → Option Log
  pub world_faults : W → ℕ
  pub kept : R → Option (List ℕ)
  pub named : R → Option (List ℕ)
  pub record_faults : R → ℕ
  pub refusals : P → ℕ

abbrev pub views : {I W O R P : Type 0} → StreamViews I O → (told : W → Option Log) (worlds : W → ℕ)
    (kept named : R → Option (List ℕ)) (records : R → ℕ) (refusals : P → ℕ) → Views I W O R P
views v told worlds kept named records refusals = record {
  streams = v;
  told = told;
  world_faults = worlds;
  kept = kept;
  named = named;
  record_faults = records;
  refusals = refusals;
}

abbrev pub seen_of : {I W O R P : Type 0} → Views I W O R P → Handed I W O R P → Seen
seen_of v h =
    seen (v.streams.left h.input) (v.streams.taken h.input) (v.streams.read_faults h.input)
    (v.told h.world) (v.world_faults h.world) (v.streams.written h.out) (v.streams.write_faults h.out)
    (v.kept h.rec) (v.named h.rec) (v.record_faults h.rec) (v.refusals h.spawner)
