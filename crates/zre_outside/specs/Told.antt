-- What a call does to the octets that an object tells, where it tells them.
use Rattle.std.specs.Prelude.{◌≡◌, ℕ, List, ◌++◌, Option}
use Rattle.std.specs.Io.KnownBytes.{Appends, Consumes}

-- a call moved some octets: they are gone from the front of what was left, and stand after what was taken
pub record MovesOn (left left' taken taken' : Option (List ℕ)) (octets : List ℕ) : Type 0 where
  pub consumed : Consumes left left' octets
  pub recorded : Appends taken taken' octets

-- the known octets grew by a front of these
abbrev pub AppendsFront : Option (List ℕ) → Option (List ℕ) → List ℕ → Type 0
AppendsFront old new octets = (front : List ℕ) × (rest : List ℕ) × (octets ≡ front ++ rest) × Appends old new front

-- text came after what was gathered: a front of both was written, and the rest is gathered
pub record WritesThrough (gathered gathered' : List ℕ) (written written' : Option (List ℕ)) (text : List ℕ) : Type 0
  where
    pub front : List ℕ
    pub are_all : gathered ++ text ≡ front ++ gathered'
    pub is_written : Appends written written' front
