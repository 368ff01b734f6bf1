-- What is seen of a source and a sink at one moment.
use Rattle.std.specs.Prelude.{ℕ, List, Option}
use Rattle.zre_console.specs.Lived.{Seen}
use Rattle.zre_chat.specs.Views.{StreamViews}

-- what a source tells that is left and that was taken, what a sink tells that was written, and how often each failed
pub record Streams : Type 0 where
  pub left : Option (List ℕ)
  pub taken : Option (List ℕ)
  pub read_faults : ℕ
  pub written : Option (List ℕ)
  pub write_faults : ℕ

abbrev pub streams : {I O : Type 0} → StreamViews I O → I → O → Streams
streams v input out = record {
  left = v.left input;
  taken = v.taken input;
  read_faults = v.read_faults input;
  written = v.written out;
  write_faults = v.write_faults out;
}

-- the source and the sink of what is seen of a chat
abbrev pub streams_of : Seen → Streams
streams_of s = record {
  left = s.left;
  taken = s.taken;
  read_faults = s.read_faults;
  written = s.written;
  write_faults = s.write_faults;
}
