-- The words of the commands but `chat`: the name of one, and then its words.
use Rattle.std.specs.Prelude.{◌≡◌, ◌≤◌, ℕ, true, not, List, [], ◌∷◌, length, nat_le, Option, Some, None}
use Rattle.std.specs.Prelude.{option_and_then, option_map, codes, if◌then◌else◌}
use Rattle.std.specs.List.{list_all}
use Rattle.std.specs.Str.{bytes_eq, is_utf8}
use Rattle.zre_capture.specs.Values.{number_of, group_of}
use Rattle.zre_values.specs.declared.limits.TheConstants.{GROUP_OCTETS}
use Rattle.zre_values.specs.Settings.{is_valid}
use Rattle.zre_values.specs.declared.settings.Settings.{Settings as Config}
use Rattle.zre_app.specs.Keys.{are_words_of, value_of, identity}
use Rattle.zre_app.specs.NodeWords.{node_keys, between, config_in}
use Rattle.zre_app.specs.declared.keys.Often.{Often}
use Rattle.zre_app.specs.declared.keys.Often.TheVariants.{Once}
use Rattle.zre_app.specs.declared.plain_words.Plain.{Plain}
use Rattle.zre_app.specs.declared.plain_words.Plain.TheVariants.{Follow, Show, Replay, ReplayTold, Upgrade, Table}
use Rattle.zre_app.specs.declared.plain_words.Plain.TheVariants.{Audit, Simulate, Exercise}

-- a command that has no words
abbrev pub alone : Plain → List (List ℕ) → Option Plain
alone plain words = if are_words_of [] words then Some plain else None

-- a command of one key, by what is read of the key's value
abbrev pub of_one : {V : Type 0} → (V → Plain) → List ℕ → (List ℕ → Option V) → List (List ℕ) → Option Plain
of_one made key read words =
    if are_words_of ((key, Once) ∷ []) words
    then option_map made (option_and_then read (value_of key words))
    else None

-- `follow` has the identity of the peer
abbrev pub follow_of : List (List ℕ) → Option Plain
follow_of words = of_one Follow (codes "id=") identity words

-- the settings of a node by its words alone
abbrev pub node_of : List (List ℕ) → Option Config
node_of words = if are_words_of node_keys words then config_in words else None

-- `replay` has those of a node, or none: then the capture says its settings
abbrev pub replay_of : List (List ℕ) → Option Plain
replay_of [] = Some ReplayTold
replay_of (word ∷ words) = option_map Replay (node_of (word ∷ words))

-- `upgrade` has those of a node
abbrev pub upgrade_of : List (List ℕ) → Option Plain
upgrade_of words = option_map Upgrade (node_of words)

-- a group by its quoted text, where a group can have this name
abbrev pub group_in : List ℕ → Option (List ℕ)
group_in text =
    option_and_then (λ name. if nat_le (length name) GROUP_OCTETS then Some name else None) (group_of text)

-- `table` has the group
abbrev pub table_of : List (List ℕ) → Option Plain
table_of words = of_one Table (codes "group=") group_in words

-- the keys of `exercise`: the seed, and how many peers and messages there are
abbrev pub exercise_keys : List (List ℕ × Often)
exercise_keys = (codes "seed=", Once) ∷ (codes "peers=", Once) ∷ (codes "messages=", Once) ∷ []

-- a number between these two, of the first word of a key
abbrev pub number_in : List ℕ → ℕ → ℕ → List (List ℕ) → Option ℕ
number_in key low high words = option_and_then (between low high) (option_and_then number_of (value_of key words))

abbrev pub exercise_in : List (List ℕ) → Option Plain
exercise_in words =
    option_and_then (λ seed. option_and_then (λ peers. option_map (λ messages. Exercise seed peers messages)
    (number_in (codes "messages=") 0 1000000 words)) (number_in (codes "peers=") 1 256 words))
    (number_in (codes "seed=") 0 18446744073709551615 words)

abbrev pub exercise_of : List (List ℕ) → Option Plain
exercise_of words = if are_words_of exercise_keys words then exercise_in words else None

-- a command by its name and its words
abbrev pub plain_named : List ℕ → List (List ℕ) → Option Plain
plain_named name words =
    if bytes_eq name (codes "follow") then follow_of words
    else if bytes_eq name (codes "show") then alone Show words
    else if bytes_eq name (codes "replay") then replay_of words
    else if bytes_eq name (codes "upgrade") then upgrade_of words
    else if bytes_eq name (codes "table") then table_of words
    else if bytes_eq name (codes "audit") then alone Audit words
    else if bytes_eq name (codes "simulate") then alone Simulate words
    else if bytes_eq name (codes "exercise") then exercise_of words
    else None

-- the command that the words are; none where they are in no list of words, or one isn't text
abbrev pub plain_of : List (List ℕ) → Option Plain
plain_of [] = None
plain_of (name ∷ words) = if not (list_all is_utf8 (name ∷ words)) then None else plain_named name words

-- the settings that it names are those with which a node can be, and the numbers those of an exercise
abbrev pub CanDo : Plain → Type 0
CanDo (Follow id) = Unit {0}
CanDo Show = Unit {0}
CanDo (Replay g) = is_valid g ≡ true
CanDo ReplayTold = Unit {0}
CanDo (Upgrade g) = is_valid g ≡ true
CanDo (Table group) = Unit {0}
CanDo Audit = Unit {0}
CanDo Simulate = Unit {0}
CanDo (Exercise seed peers messages) = (1 ≤ peers) × (peers ≤ 256) × (messages ≤ 1000000)
