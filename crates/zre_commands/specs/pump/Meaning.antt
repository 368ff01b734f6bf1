-- What a command makes of its input.
use Rattle.std.specs.Prelude.{◌≡◌, ℕ, Bool, true, false, List, ◌++◌}
use Rattle.zre_commands.specs.declared.pump.machine.Going.{Going}
use Rattle.zre_commands.specs.declared.pump.machine.Going.TheVariants.{On, Stop}

pub record Meaning : Type 0 where
  -- the text for the octets so far
  pub text : List ℕ → List ℕ
  -- whether they are refused, however they go on
  pub is_stopped : List ℕ → Bool
  -- whether they are refused, where they are the whole input
  pub is_bad : List ℕ → Bool
  -- the last text, where they are the whole input or refused
  pub ending : List ℕ → List ℕ

-- all that is written for octets which are the whole input or refused
abbrev pub whole_text : Meaning → List ℕ → List ℕ
whole_text m o = m.text o ++ m.ending o

-- the text of a piece after o was appended
pub record Grows (m : Meaning) (o piece out out' : List ℕ) : Type 0 where
  pub added : List ℕ
  pub longer : m.text (o ++ piece) ≡ m.text o ++ added
  pub appended : out' ≡ out ++ added

-- what is refused however it goes on is refused with whatever follows
abbrev pub KeepsRefusing : Meaning → Type 0
KeepsRefusing m = (o x : List ℕ) → m.is_stopped o ≡ true → m.is_bad (o ++ x) ≡ true

abbrev pub stops : Going → Bool
stops On = false
stops Stop = true
