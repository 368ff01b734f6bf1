-- A piece of replies, at the link.
use Rattle.std.proofs.Common.{◌≡◌, ℕ, Bool, List, ◌++◌, Option, Some, None, Result, Ok, Err, OnOk, IfErr, sym, ap, subst, ◌∙◌, arith}
use Rattle.zre_values.specs.declared.peer_id.PeerId.{PeerId}
use Rattle.zre_zmtp.specs.declared.fault.ZmtpFault.{ZmtpFault}
use Rattle.zre_link.specs.declared.fault.ReplyFault.{ReplyFault}
use Rattle.zre_link.specs.declared.fault.ReplyFault.TheVariants as answer
use Rattle.zre_zmtp.specs.declared.item.Item.{Item}
use Rattle.zre_zmtp.specs.Looks.{IsPaid, IsPaidOnRefusal}
use Rattle.zre_zmtp.specs.Ping.{contexts_in}
use Rattle.zre_link.specs.Heard.{Heard, heard_after, new_pings, held_of}
use Rattle.zre_link.specs.Link.{Sending, link_after, unsent_of, slow_at, answering, slow_in, link_answering, RefusesReply}
use Rattle.zre_link.specs.Text.{Member}

-- the same link, with other replies
abbrev pub with_heard : Sending → Heard → Sending
with_heard s heard = record { queue = s.queue; sent = s.sent; written = s.written; taken = s.taken; linked = s.linked; replies = heard }

-- it was read, and nothing was answered yet
read : (own : PeerId) (line : List Member) (linked : Bool) (o p : List ℕ) (n : ℕ) (was : Sending) (heard : Heard) → was ≡ link_after own line linked o n → heard ≡ heard_after (o ++ p)
    → with_heard was heard ≡ link_after own line linked (o ++ p) n
read own line linked o p n was heard e is = ap (λ h. with_heard was h) is ∙ ap (λ s. with_heard s (heard_after (o ++ p))) e

-- PINGs were answered up to a refusal, whatever the fault of the replies is
pub answers_refused : {P Q : Type 0} (e : ReplyFault) (slow slow' : Option (ℕ × ℕ)) (fault : Option ZmtpFault) → slow ≡ slow' → (P → Q) → RefusesReply e slow None P → RefusesReply e slow' fault Q
answers_refused (answer.Slow unsent size) slow slow' fault same f r = (sym same ∙ r.0, f r.1)
answers_refused (answer.Zmtp x) slow slow' fault same f r = absurd (let z : None ≡ Some x = r.1 in cc)
answers_refused answer.OutOfMemory slow slow' fault same f r = tt

-- a piece was read, and all of its PINGs were answered
pub all_answered : (own : PeerId) (line : List Member) (linked : Bool) (o p : List ℕ) (n : ℕ) (was : Sending) (heard : Heard) (now : Sending) (items items' : List Item)
    → was ≡ link_after own line linked o n → (heard ≡ heard_after (o ++ p)) × (contexts_in items ≡ new_pings o p) → items' ≡ items
    → ((own : PeerId) (line : List Member) (linked : Bool) (o : List ℕ) (n : ℕ) → with_heard was heard ≡ link_after own line linked o n
    → (slow_at (unsent_of own line n) (contexts_in items') ≡ None) × (now ≡ link_after own (answering own line n (contexts_in items')) linked o n))
    → (slow_in own line o n p ≡ None) × (now ≡ link_answering own line linked o n p)
all_answered own line linked o p n was heard now items items' e fed same h =
    subst (λ (cs : List (List ℕ)). (slow_at (unsent_of own line n) cs ≡ None) × (now ≡ link_after own (answering own line n cs) linked (o ++ p) n)) (ap contexts_in same ∙ fed.1)
    (h own line linked (o ++ p) n (read own line linked o p n was heard e fed.0))

-- or those before the one that has no room
pub some_answered : (own : PeerId) (line : List Member) (linked : Bool) (o p : List ℕ) (n : ℕ) (was : Sending) (heard : Heard) (now : Sending) (items items' : List Item) (f : ReplyFault) (fault : Option ZmtpFault)
    → was ≡ link_after own line linked o n → (heard ≡ heard_after (o ++ p)) × (contexts_in items ≡ new_pings o p) → items' ≡ items
    → ((own : PeerId) (line : List Member) (linked : Bool) (o : List ℕ) (n : ℕ) → with_heard was heard ≡ link_after own line linked o n
    → RefusesReply f (slow_at (unsent_of own line n) (contexts_in items')) None (now ≡ link_after own (answering own line n (contexts_in items')) linked o n))
    → RefusesReply f (slow_in own line o n p) fault (now ≡ link_answering own line linked o n p)
some_answered own line linked o p n was heard now items items' f fault e fed same h =
    let is = ap contexts_in same ∙ fed.1 in
    answers_refused f _ _ fault (ap (slow_at (unsent_of own line n)) is)
    (λ q. subst (λ (cs : List (List ℕ)). now ≡ link_after own (answering own line n cs) linked (o ++ p) n) is q) (h own line linked (o ++ p) n (read own line linked o p n was heard e fed.0))

-- what is so of an answer, made into something else
pub on_ok : {P Q : Type 0} (r : Result (Unit {0}) ReplyFault) → (P → Q) → OnOk r P → OnOk r Q
on_ok (Ok x) f p = f p
on_ok (Err e) f p = p

pub if_err : (P Q : ReplyFault → Type 0) (r : Result (Unit {0}) ReplyFault) → ((e : ReplyFault) → P e → Q e) → IfErr r P → IfErr r Q
if_err P Q (Ok x) f p = p
if_err P Q (Err e) f p = f e p

-- the looks that a piece takes, where the same is kept by other names
pub still_paid : (looks looks' n : ℕ) (was heard was' heard' : Heard) → was ≡ was' → heard' ≡ heard → IsPaid looks looks' (held_of was) (held_of heard) n → IsPaid looks looks' (held_of was') (held_of heard') n
still_paid looks looks' n was heard was' heard' a b paid =
    subst (λ h. IsPaid looks looks' (held_of was') (held_of h) n) (sym b) (subst (λ h. IsPaid looks looks' (held_of h) (held_of heard) n) a paid)

pub paid_by : (looks looks' n : ℕ) (was heard was' : Heard) → was ≡ was' → IsPaid looks looks' (held_of was) (held_of heard) n → IsPaidOnRefusal looks looks' (held_of was') n
paid_by looks looks' n was heard was' a paid = let same = ap held_of a in omega (arith, paid, same)

pub refusal_paid : (looks looks' n : ℕ) (was was' : Heard) → was ≡ was' → IsPaidOnRefusal looks looks' (held_of was) n → IsPaidOnRefusal looks looks' (held_of was') n
refusal_paid looks looks' n was was' a paid = subst (λ h. IsPaidOnRefusal looks looks' (held_of h) n) a paid

-- and where a refusal keeps nothing
pub emptied_paid : (looks looks' n : ℕ) (was heard was' heard' : Heard) → was ≡ was' → heard' ≡ heard → held_of heard ≡ 0 → IsPaidOnRefusal looks looks' (held_of was) n → IsPaid looks looks' (held_of was') (held_of heard') n
emptied_paid looks looks' n was heard was' heard' a b none paid =
    let same = ap held_of a in
    let now = ap held_of b in
    omega (arith, paid, same, now, none)
