-- PING of ZMTP 3.1 (RFC 37, heartbeats): a command that its reader answers by PONG.
use Rattle.std.specs.Prelude.{ℕ, ◌&&◌, nat_le, if◌then◌else◌, List, length, drop, Option, Some, None, codes, bytes_eq}
use Rattle.std.specs.List.{filter_map}
use Rattle.zre_zmtp.specs.Ready.{rest}
use Rattle.zre_zmtp.specs.declared.item.Item.{Item}
use Rattle.zre_zmtp.specs.declared.item.What.{What}
use Rattle.zre_zmtp.specs.declared.item.What.TheVariants.{Command}

-- the context of a PING, by a command's name and what stands after it: two octets that tell a time, and then the
-- context, at most 16 octets; another command has none
abbrev pub context_of : List ℕ → List ℕ → Option (List ℕ)
context_of name rest =
    if bytes_eq name (codes "PING") && nat_le 2 (length rest) && nat_le (length rest) 18 then Some (drop 2 rest)
    else None

-- the context of the PING that an item is, if it is one
abbrev pub context_in : What → Option (List ℕ)
context_in (Command size name body) = context_of name (rest body)
context_in _ = None

-- the contexts of the PINGs among items, in their order
abbrev pub contexts_in : List Item → List (List ℕ)
contexts_in items = filter_map (λ item. context_in item.what) items
