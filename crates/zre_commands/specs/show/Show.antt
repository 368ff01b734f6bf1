-- What `show` makes of the octets of a whole stream, from the greeting on. Any socket type and any identity may stand
-- in READY.
use Rattle.std.specs.Prelude.{ℕ, Bool, List, [], is_some, if◌then◌else◌}
use Rattle.zre_commands.specs.Stream.{bad_end, is_bad as is_bad_stream}
use Rattle.zre_commands.specs.pump.Meaning.{Meaning}
use Rattle.zre_zmtp.specs.Stream.{Whole, items, fault}
use Rattle.zre_zmtp.specs.declared.want.Want.TheVariants.{Any}
use Rattle.zre_commands.specs.show.Lines.{lines}

-- the lines of the items before the first fault, or of all
abbrev pub text : List ℕ → List ℕ
text o = lines (items Any Whole o)

-- a stream is refused where it has a fault
abbrev pub is_stopped : List ℕ → Bool
is_stopped o = is_some (fault Any Whole o)

-- and at its end where it isn't at rest
abbrev pub is_bad : List ℕ → Bool
is_bad o = is_bad_stream Whole o

-- all that `show` makes of octets
abbrev pub show : Meaning
show = record {
  text = text;
  is_stopped = is_stopped;
  is_bad = is_bad;
  ending = λ o. if is_bad o then bad_end Whole o else [];
}
