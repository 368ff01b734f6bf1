-- The head lines of captures. That of format 2 says the settings of the node.
use Rattle.std.specs.Prelude.{◌≡◌, ℕ, ◌<◌, ◌≤◌, ◌^◌, true, List, [], ◌∷◌, ◌++◌, length, codes, decimal, All}
use Rattle.std.specs.List.{join_with_byte}
use Rattle.zre_values.specs.Address.{address_text, IsAddress}
use Rattle.zre_values.specs.PlainId.{IsPeerId}
use Rattle.zre_values.specs.Settings.{is_valid}
use Rattle.zre_values.specs.Text.{id_text, quoted, quoted_pairs}
use Rattle.zre_capture.specs.Formats.{longest}
use Rattle.zre_capture.specs.Lines.{IsOctets}
use Rattle.zre_capture.specs.declared.format.Format.{Format}
use Rattle.zre_capture.specs.declared.format.Format.TheVariants.{First, Second}
use Rattle.zre_values.specs.declared.settings.Settings.{Settings}

-- the fields of the head of format 2
abbrev pub head_fields : Settings → List (List ℕ)
head_fields s =
    codes "zre-capture" ∷ codes "2" ∷ id_text s.id ∷ quoted s.name ∷ address_text s.host ∷ decimal s.port
    ∷ decimal s.evasive ∷ decimal s.expired ∷ quoted_pairs s.headers ∷ []

-- a head as it is written, without its line feed; that of format 1 says nothing of the node
abbrev pub head_text : Format → Settings → List ℕ
head_text First s = codes "zre-capture 1"
head_text Second s = join_with_byte 32 (head_fields s)

-- the line that a capture begins with
abbrev pub head : Format → Settings → List ℕ
head f s = head_text f s ++ 10 ∷ []

-- a name and a value that the code's types can hold
abbrev pub IsHeader : List ℕ × List ℕ → Type 0
IsHeader h = IsOctets h.0 × IsOctets h.1

-- valid settings whose values are those of their types
pub record AreSettings (s : Settings) : Type 0 where
  pub id : IsPeerId s.id
  pub name : IsOctets s.name
  pub headers : All IsHeader s.headers
  pub host : IsAddress s.host
  pub port : s.port < 2 ^ 16
  pub valid : is_valid s ≡ true

-- their head isn't too long to be read
abbrev pub IsShortHead : Format → Settings → Type 0
IsShortHead f s = length (head_text f s) ≤ longest f
