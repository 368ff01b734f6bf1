-- What a connection is made to carry, and what of it has not come yet.
use Rattle.std.specs.Prelude.{ℕ, List, [], ◌∷◌, ◌++◌, Some, if◌then◌else◌, nat_eq, drop}
use Rattle.std.specs.Option.{option_map_or}
use Rattle.zre_zmtp.specs.declared.writing.SocketType.TheVariants as socket
use Rattle.zre_zmtp.specs.Written.{own_greeting, ready_frame}
use Rattle.zre_msg.specs.Spelling.{octets}
use Rattle.zre_net.specs.declared.moves.Move.TheVariants as move
use Rattle.zre_net.specs.declared.moves.Part.{Part}
use Rattle.zre_net.specs.declared.moves.Part.TheVariants as part
use Rattle.zre_net.specs.Lists.{nth}
use Rattle.zre_net.specs.History.{Happening, Happens}
use Rattle.zre_net.specs.Numbers.{Route, CarriedConn, conns, queued_on}

-- the octets of a part: the greeting and READY of the link's node, or a message of the link
abbrev pub spelling : Route → List Happening → Part → List ℕ
spelling s H part.Greeting = own_greeting
spelling s H part.Ready = ready_frame socket.Dealer (Some s.from.settings.id)
spelling s H (part.Message k) = option_map_or octets (nth k (queued_on s H)) []

-- those of a part of the link that connection x carries
abbrev pub appended : ℕ → Part → List Happening → List ℕ
appended x p H = option_map_or (λ (c : CarriedConn). spelling c.along H p) (nth x (conns H)) []

-- the octets that connection x has yet to hand in: those of each part that it was made to carry, but for those that
-- have come
abbrev pub pending : ℕ → List Happening → List ℕ
pending x [] = []
pending x (Happens (move.Carry y p) t ∷ H) = if nat_eq x y then pending x H ++ appended x p H else pending x H
pending x (Happens (move.Piece y count at) t ∷ H) = if nat_eq x y then drop count (pending x H) else pending x H
pending x (_ ∷ H) = pending x H
