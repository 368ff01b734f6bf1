-- The words of a command after its name: keys with their values in any order.
use Rattle.std.specs.Prelude.{ℕ, Bool, true, ◌&&◌, ◌==◌, nat_le, List, [], ◌∷◌, ◌++◌, Option, Some, None, is_some}
use Rattle.std.specs.Prelude.{option_map, option_and_then, count_by, if◌then◌else◌}
use Rattle.std.specs.List.{list_any, list_all}
use Rattle.uuid.specs.Text.{parsed}
use Rattle.zre_values.specs.declared.peer_id.PeerId.{PeerId}
use Rattle.zre_app.specs.declared.keys.Often.{Often}
use Rattle.zre_app.specs.declared.keys.Often.TheVariants.{Once, AtMostOnce, AnyTimes}

-- what stands after a front, where the word begins with it; a key ends in `=`, so it is the word's key up to the first
-- one
abbrev pub after : List ℕ → List ℕ → Option (List ℕ)
after [] word = Some word
after (k ∷ key) [] = None
after (k ∷ key) (c ∷ word) = if k == c then after key word else None

abbrev pub begins : List ℕ → List ℕ → Bool
begins key word = is_some (after key word)

-- whether a key may stand in so many words
abbrev pub may_stand : Often → ℕ → Bool
may_stand Once n = n == 1
may_stand AtMostOnce n = nat_le n 1
may_stand AnyTimes n = true

-- each word begins with one of the keys, and each key stands in as many words as it may
abbrev pub are_words_of : List (List ℕ × Often) → List (List ℕ) → Bool
are_words_of keys words =
    list_all (λ word. list_any (λ key. begins key.0 word) keys) words
    && list_all (λ key. may_stand key.1 (count_by (begins key.0) words)) keys

-- the value of the first word of a key
abbrev pub value_of : List ℕ → List (List ℕ) → Option (List ℕ)
value_of key [] = None
value_of key (word ∷ words) = if begins key word then after key word else value_of key words

-- these values and those of a key's words, in order; none where one of them has none
abbrev pub values_from : {V : Type 0} → List ℕ → (List ℕ → Option V) → List V → List (List ℕ) → Option (List V)
values_from key read done [] = Some done
values_from key read done (word ∷ words) =
    if begins key word
    then option_and_then (λ v. values_from key read (done ++ v ∷ []) words) (option_and_then read (after key word))
    else values_from key read done words

-- an identity in any text form of a UUID
abbrev pub identity : List ℕ → Option PeerId
identity text = option_map (λ octets. record { 0 = octets }) (parsed text)
