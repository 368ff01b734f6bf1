-- The journal of the exercise: p peers come and introduce themselves, then their messages come in turn, and the node
-- is told to quit. Peers, messages and the messages of one peer are counted from 0.
use Rattle.std.specs.Prelude.{ℕ, zero, suc, ◌+◌, ◌/◌, ◌%◌, Bool, ◌==◌, ◌||◌, if◌then◌else◌, List, [], ◌∷◌, ◌++◌, length}
use Rattle.std.specs.Prelude.{take, drop, replicate, Some, codes, decimal}
use Rattle.std.specs.Int.{w32, to_be_bytes}
use Rattle.zre_values.specs.Endpoint.{endpoint_text}
use Rattle.zre_values.specs.declared.peer_id.PeerId.{PeerId}
use Rattle.zre_outside.specs.declared.entry.Entry.{Entry}
use Rattle.zre_outside.specs.declared.entry.Input.TheVariants as got
use Rattle.zre_outside.specs.declared.entry.Command.TheVariants as ask
use Rattle.zre_beacon.specs.Beacon.{beacon_octets}
use Rattle.zre_zmtp.specs.Written.{own_greeting, ready_frame}
use Rattle.zre_zmtp.specs.declared.writing.SocketType.TheVariants as socket
use Rattle.zre_msg.specs.Spelling.{octets}
use Rattle.zre_msg.specs.declared.message.Body.{Body}
use Rattle.zre_msg.specs.declared.message.Body.TheVariants.{Hello, Whisper, Shout, Join, Leave}
use Rattle.zre_capture.specs.Draws.{drawn, upper_half, after_draws, octets_drawn}

-- ---- peer i

-- its identity: twelve zeros, and its number from 1 in four octets
abbrev pub identity : ℕ → PeerId
identity i = record { 0 = replicate 12 0 ++ to_be_bytes w32 (i + 1) }

-- its address
abbrev pub host : ℕ → List ℕ
host i = 10 ∷ 1 ∷ 0 ∷ i ∷ []

-- its beacon
unfoldable pub beacon : ℕ → List ℕ
beacon i = beacon_octets (identity i) 49152

-- its HELLO: no groups, status 0, no headers
unfoldable pub hello : ℕ → List ℕ
hello i =
    octets (record {
      sequence = 1;
      body = Hello (endpoint_text (record { addr = host i; port = 49152 })) [] 0 (codes "p" ++ decimal i) [];
    })

-- its READY
unfoldable pub readiness : ℕ → List ℕ
readiness i = ready_frame socket.Dealer (Some (identity i))

-- what comes first on its connection: the greeting, READY and HELLO
unfoldable pub introduction : ℕ → List ℕ
introduction i = own_greeting ++ readiness i ++ hello i

-- its entries: its beacon is heard, it opens a connection, and introduces itself
abbrev pub heard : ℕ → Entry
heard i = record { at = 0; input = got.Datagram (host i) (beacon i) }

abbrev pub opened : ℕ → Entry
opened i = record { at = 0; input = got.Opened (i + 1) }

abbrev pub introduced : ℕ → Entry
introduced i = record { at = 0; input = got.Piece (i + 1) (introduction i) }

-- the entries of n peers, from peer i on
unfoldable pub peers_from : ℕ → ℕ → List Entry
peers_from i zero = []
peers_from i (suc n) = heard i ∷ opened i ∷ introduced i ∷ peers_from (i + 1) n

-- ---- message k of a peer, whose draws begin at x

-- it joins or leaves a group
abbrev pub is_change : ℕ → Bool
is_change k = (k % 4 == 0) || (k % 4 == 3)

-- how many of its first n messages do
unfoldable pub changes : ℕ → ℕ
changes zero = 0
changes (suc n) = if is_change n then changes n + 1 else changes n

-- how many did by then, this one included, in one octet
unfoldable pub status : ℕ → ℕ
status k = changes (suc k) % 256

-- the eight draws of its content
abbrev pub content : ℕ → List (List ℕ)
content x = octets_drawn 8 x ∷ []

-- JOIN, SHOUT, WHISPER and LEAVE in turn, of one group
unfoldable pub body : ℕ → ℕ → Body
body k x =
    if k % 4 == 0 then Join (codes "all") (status k)
    else if k % 4 == 1 then Shout (codes "all") (content x)
    else if k % 4 == 2 then Whisper (content x)
    else Leave (codes "all") (status k)

-- where the draws stand after its content, where it has one
unfoldable pub after_content : ℕ → ℕ → ℕ
after_content k x = if is_change k then x else after_draws 8 x

-- where they stand after all of its draws: one more decides where its octets are cut
unfoldable pub after : ℕ → ℕ → ℕ
after k x = drawn (after_content k x)

-- its octets, numbered from 2, since HELLO is numbered 1
unfoldable pub spelling : ℕ → ℕ → List ℕ
spelling k x = octets (record { sequence = (2 + k) % 65536; body = body k x })

-- how many of them come in the first piece: any number up to all of them
unfoldable pub cut : ℕ → ℕ → ℕ
cut k x = upper_half (after k x) % (length (spelling k x) + 1)

-- the two pieces
abbrev pub first_piece : ℕ → ℕ → List ℕ
first_piece k x = take (cut k x) (spelling k x)

abbrev pub second_piece : ℕ → ℕ → List ℕ
second_piece k x = drop (cut k x) (spelling k x)

-- ---- the journal

-- a piece of message j comes, which is of peer j mod p
abbrev pub comes : ℕ → ℕ → List ℕ → Entry
comes p j bytes = record { at = j; input = got.Piece (j % p + 1) bytes }

-- the node is told to quit
abbrev pub quits : ℕ → Entry
quits at = record { at = at; input = got.Do ask.Quit }

-- the entries of n messages of p peers, from message j on, whose draws begin at x, and the last entry after them
unfoldable pub messages_from : ℕ → ℕ → ℕ → ℕ → List Entry
messages_from p x j zero = quits j ∷ []
messages_from p x j (suc n) =
    comes p j (first_piece (j / p) x) ∷ comes p j (second_piece (j / p) x) ∷ messages_from p (after (j / p) x) (j + 1) n

-- all entries, from a seed, the number of peers and the number of messages
abbrev pub exercise : ℕ → ℕ → ℕ → List Entry
exercise seed p m = peers_from 0 p ++ messages_from p seed 0 m
