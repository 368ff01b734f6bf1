-- What a link keeps, as a function of its line, of what came back and of what went out.
use Rattle.std.specs.Prelude.{◌≡◌, ℕ, ◌+◌, ◌-◌, ◌<◌, ◌≤◌, min, nat_lt, Bool, if◌then◌else◌, List, [], ◌∷◌, ◌++◌, length}
use Rattle.std.specs.Prelude.{take, drop, map, Option, Some, None, Result, OnOk, IfOk, IfErr, OnErr}
use Rattle.zre_values.specs.declared.limits.TheConstants.{UNSENT_OCTETS}
use Rattle.zre_values.specs.declared.peer_id.PeerId.{PeerId}
use Rattle.zre_zmtp.specs.Written.{pong_frame}
use Rattle.zre_zmtp.specs.declared.fault.ZmtpFault.{ZmtpFault}
use Rattle.zre_zmtp.specs.declared.expected.Expected.{Expected}
use Rattle.zre_zmtp.specs.declared.expected.Expected.TheVariants as expect
use Rattle.zre_link.specs.declared.fault.PushFault.{PushFault}
use Rattle.zre_link.specs.declared.fault.PushFault.TheVariants.{Slow, OutOfMemory}
use Rattle.zre_link.specs.declared.fault.ReplyFault.{ReplyFault}
use Rattle.zre_link.specs.declared.fault.ReplyFault.TheVariants as answer
use Rattle.zre_msg.specs.declared.message.Body.{Body}
use Rattle.zre_link.specs.Text.{Member, Says, Pongs, bodies_in, text_of, size_of}
use Rattle.zre_link.specs.Heard.{reply_fault, awaited, new_pings, Heard, heard_after}

-- ---- what contracts see of a link

-- the octets that haven't gone out (queue), how many messages are in its line (sent), how many octets the line makes
-- with the greeting and READY (written), how many have gone out (taken), whether the link stands, and what is kept of
-- the replies
pub record Sending : Type 0 where
  pub queue : List ℕ
  pub sent : ℕ
  pub written : ℕ
  pub taken : ℕ
  pub linked : Bool
  pub replies : Heard

-- the link of the node `own` with this line, after the replies o, when n octets have gone out
abbrev pub link_after : PeerId → List Member → Bool → List ℕ → ℕ → Sending
link_after own line linked o n = record {
  queue = drop n (text_of own line);
  sent = length (bodies_in line);
  written = length (text_of own line);
  taken = n;
  linked = linked;
  replies = heard_after o;
}

-- ---- what goes out

-- how many of all these octets may go out: the greeting at once, READY after the greeting of the other end, and its
-- line after its READY
abbrev pub gate_by : Expected → ℕ → ℕ
gate_by expect.Greeting all = 64
gate_by expect.Ready all = 124
gate_by expect.Traffic all = all

-- the same once the link stands, and none before
abbrev pub gate_at : Bool → Expected → ℕ → ℕ
gate_at linked e all = if linked then gate_by e all else 0

-- there are octets that may go out
abbrev pub has_front : Sending → Bool
has_front s = nat_lt s.taken (gate_at s.linked s.replies.awaits s.written)

-- how many of all octets of a link may go out
abbrev pub gate_of : PeerId → List Member → Bool → List ℕ → ℕ
gate_of own line linked o = gate_at linked (awaited o) (length (text_of own line))

-- the octets that may go out now
abbrev pub front_of : PeerId → List Member → Bool → List ℕ → ℕ → List ℕ
front_of own line linked o n = take (gate_of own line linked o - n) (drop n (text_of own line))

-- how many have gone out when so many more go, or as many as may
abbrev pub taken_by : PeerId → List Member → Bool → List ℕ → ℕ → ℕ → ℕ
taken_by own line linked o n count = n + min count (gate_of own line linked o - n)

-- how many octets have not gone out
abbrev pub unsent_of : PeerId → List Member → ℕ → ℕ
unsent_of own line n = length (text_of own line) - n

-- ---- a body that is put

-- A body was put with so many octets waiting; it takes this many, and together they are above the limit.
pub record IsSlow (waiting takes unsent size : ℕ) : Type 0 where
  pub unsent_is : unsent ≡ waiting
  pub size_is : size ≡ takes
  pub above : UNSENT_OCTETS < waiting + takes

-- why a body wasn't put: Slow tells both numbers, and of OutOfMemory nothing is said
abbrev pub RefusesPush : PushFault → ℕ → ℕ → Type 0
RefusesPush (Slow unsent size) waiting takes = IsSlow waiting takes unsent size
RefusesPush OutOfMemory waiting takes = Unit {0}

-- A message of these octets was queued behind others, where so many octets were written before it: the result is how
-- many there are with it, and no more wait than may. Or it was refused, and nothing changed.
abbrev pub Queues : Result ℕ PushFault → (before after : List ℕ) → ℕ → List ℕ → Type 0
Queues result before after written m =
    IfOk result (λ all. (after ≡ before ++ m) × (all ≡ written + length m)
    × (length before + length m ≤ UNSENT_OCTETS))
    × IfErr result (λ e. RefusesPush e (length before) (length m)) × OnErr result (after ≡ before)

-- The body was put, whatever the link was before: it stands at the end of the line, and no more wait than may.
abbrev pub Puts : Result (Unit {0}) PushFault → Sending → Sending → Body → Type 0
Puts result was now body =
    (own : PeerId) (line : List Member) (linked : Bool) (o : List ℕ) (n : ℕ) →
    was ≡ link_after own line linked o n →
    OnOk result ((unsent_of own line n + size_of line body ≤ UNSENT_OCTETS)
    × (now ≡ link_after own (line ++ Says body ∷ []) linked o n))

-- The body was refused, and the refusal says why.
abbrev pub RefusesToPut : Result (Unit {0}) PushFault → Sending → Body → Type 0
RefusesToPut result was body =
    (own : PeerId) (line : List Member) (linked : Bool) (o : List ℕ) (n : ℕ) →
    was ≡ link_after own line linked o n →
    IfErr result (λ e. RefusesPush e (unsent_of own line n) (size_of line body))

-- ---- PINGs that are answered

-- of the contexts of PINGs, one after another, where so many octets wait: those before the first whose PONG would make
-- more wait than may
abbrev pub answered : ℕ → List (List ℕ) → List (List ℕ)
answered waiting [] = []
answered waiting (t ∷ ts) =
    if nat_lt UNSENT_OCTETS (waiting + length (pong_frame t)) then []
    else t ∷ answered (waiting + length (pong_frame t)) ts

-- how many octets wait where that first one comes, and how many its PONG has
abbrev pub slow_at : ℕ → List (List ℕ) → Option (ℕ × ℕ)
slow_at waiting [] = None
slow_at waiting (t ∷ ts) =
    if nat_lt UNSENT_OCTETS (waiting + length (pong_frame t)) then Some (waiting, length (pong_frame t))
    else slow_at (waiting + length (pong_frame t)) ts

-- the line with the PONGs that answer these at its end
abbrev pub answering : PeerId → List Member → ℕ → List (List ℕ) → List Member
answering own line n ts = line ++ map (λ t. Pongs t) (answered (unsent_of own line n) ts)

-- the link after one more piece of replies: the PINGs that are whole with it are answered, in their order
abbrev pub link_answering : PeerId → List Member → Bool → List ℕ → ℕ → List ℕ → Sending
link_answering own line linked o n piece =
    link_after own (answering own line n (new_pings o piece)) linked (o ++ piece) n

-- the first PONG among those that answer one more piece with which more octets would wait than may
abbrev pub slow_in : PeerId → List Member → List ℕ → ℕ → List ℕ → Option (ℕ × ℕ)
slow_in own line o n piece = slow_at (unsent_of own line n) (new_pings o piece)

-- why a piece of replies is refused: Slow tells both numbers; a fault is told where no PONG was slow; then P holds;
-- of OutOfMemory nothing is said
abbrev pub RefusesReply : ReplyFault → Option (ℕ × ℕ) → Option ZmtpFault → Type 0 → Type 0
RefusesReply (answer.Slow unsent size) slow fault P = (slow ≡ Some (unsent, size)) × P
RefusesReply (answer.Zmtp f) slow fault P = (slow ≡ None) × (fault ≡ Some f) × P
RefusesReply answer.OutOfMemory slow fault P = Unit {0}

-- A piece of replies was read, whatever the link was before: it has no fault, and each PING in it is answered.
abbrev pub Answers : Result (Unit {0}) ReplyFault → Sending → Sending → List ℕ → Type 0
Answers result was now piece =
    (own : PeerId) (line : List Member) (linked : Bool) (o : List ℕ) (n : ℕ) →
    was ≡ link_after own line linked o n →
    OnOk result ((slow_in own line o n piece ≡ None) × (reply_fault (o ++ piece) ≡ None)
    × (now ≡ link_answering own line linked o n piece))

-- A piece of replies was refused: the refusal says why, and the PINGs before that are answered.
abbrev pub RefusesToAnswer : Result (Unit {0}) ReplyFault → Sending → Sending → List ℕ → Type 0
RefusesToAnswer result was now piece =
    (own : PeerId) (line : List Member) (linked : Bool) (o : List ℕ) (n : ℕ) →
    was ≡ link_after own line linked o n →
    IfErr result (λ e. RefusesReply e (slow_in own line o n piece) (reply_fault (o ++ piece))
    (now ≡ link_answering own line linked o n piece))

-- No body was put, nothing went out, and the link stands as it did.
abbrev pub IsOnlyAnswered : Sending → Sending → Type 0
IsOnlyAnswered was now = (now.sent ≡ was.sent) × (now.taken ≡ was.taken) × (now.linked ≡ was.linked)
