-- What a command makes of a capture.
use Rattle.std.specs.Prelude.{ℕ, List, Option, Some, None, is_some}
use Rattle.zre_capture.specs.Journal.{bad, bad_at_end}
use Rattle.zre_capture.specs.declared.format.Format.{Format}
use Rattle.zre_capture.specs.declared.fault.BadCapture.{BadCapture}
use Rattle.zre_commands.specs.pump.Lines.{bad_line_at, refusal}
use Rattle.zre_commands.specs.pump.Meaning.{Meaning}

-- this text for its octets: its first bad line is told after that, and nothing more is read
abbrev pub of_capture : Format → (List ℕ → List ℕ) → Meaning
of_capture f text = record {
  text = text;
  is_stopped = λ o. is_some (bad f o);
  is_bad = λ o. is_some (bad_at_end f o);
  ending = λ o. refusal (bad_at_end f o);
}

-- the line that tells where a capture is bad, or else this text
abbrev pub refusal_or : Option BadCapture → List ℕ → List ℕ
refusal_or None text = text
refusal_or (Some b) text = bad_line_at b.line b.column
