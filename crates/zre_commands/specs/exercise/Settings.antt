-- The node of the exercise.
use Rattle.std.specs.Prelude.{[], ◌∷◌, replicate, codes}
use Rattle.zre_values.specs.declared.settings.Settings.{Settings as Config}

-- its settings: an id of sixteen octets ff, and the times that nodes have where nothing else is said
abbrev pub settings : Config
settings = record {
  id = record { 0 = replicate 16 255 };
  host = 10 ∷ 0 ∷ 0 ∷ 1 ∷ [];
  port = 49152;
  name = codes "node";
  headers = [];
  evasive = 5000;
  expired = 30000;
}
