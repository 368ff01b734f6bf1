-- One more member of a link's line, a message or PONGs.
use Rattle.std.proofs.Common.{◌≡◌, ℕ, ◌+◌, ◌%◌, ◌^◌, ◌≤◌, Bool, List, [], ◌∷◌, ◌++◌, length, drop, Some, refl, sym, ap, subst, ◌∙◌, arith, append_assoc, append-nil, length-append}
use Rattle.std.specs.Prelude.{flat_map, map}
use Rattle.std.proofs.lemmas.List.{drop-append-le, length-drop}
use Rattle.zre_values.specs.declared.limits.TheConstants.{UNSENT_OCTETS}
use Rattle.zre_values.specs.declared.peer_id.PeerId.{PeerId}
use Rattle.zre_zmtp.specs.Laws.{handshake}
use Rattle.zre_zmtp.specs.Written.{pong_frame}
use Rattle.zre_zmtp.specs.declared.writing.SocketType.TheVariants.{Dealer}
use Rattle.zre_msg.specs.declared.message.Body.{Body}
use Rattle.zre_msg.specs.declared.message.Message.{Message}
use Rattle.zre_msg.specs.Spelling.{octets}
use Rattle.zre_link.specs.Text.{Member, Says, Pongs, bodies_in, octets_from, text_of, next_message, size_of}
use Rattle.zre_link.specs.Heard.{Heard, heard_after}
use Rattle.zre_link.specs.Link.{Sending, link_after, unsent_of, answered, answering}

-- the message with this body and this number
abbrev numbered : ℕ → Body → Message
numbered n b = record { sequence = n % 2 ^ 16; body = b }

-- ---- the text with one more message

pub bodies-more : (line : List Member) (b : Body) → bodies_in (line ++ Says b ∷ []) ≡ bodies_in line ++ b ∷ []
bodies-more [] b = refl
bodies-more (Says a ∷ line) b = ap (λ (l : List Body). a ∷ l) (bodies-more line b)
bodies-more (Pongs t ∷ line) b = bodies-more line b

octets-more : (n : ℕ) (line : List Member) (b : Body) → octets_from n (line ++ Says b ∷ []) ≡ octets_from n line ++ octets (numbered (length (bodies_in line) + n) b)
octets-more n [] b = append-nil (octets (numbered n b)) ∙ ap (λ i. octets (numbered i b)) (let e : n ≡ 0 + n = omega arith in e)
octets-more n (Says x ∷ line) b =
    let here = octets (numbered n x) in
    let count : length (bodies_in line) + (n + 1) ≡ length (bodies_in (Says x ∷ line)) + n = omega arith in
    ap (λ (l : List ℕ). here ++ l) (octets-more (n + 1) line b) ∙ sym (append_assoc here (octets_from (n + 1) line) (octets (numbered (length (bodies_in line) + (n + 1)) b)))
    ∙ ap (λ i. (here ++ octets_from (n + 1) line) ++ octets (numbered i b)) count
octets-more n (Pongs t ∷ line) b =
    ap (λ (l : List ℕ). pong_frame t ++ l) (octets-more n line b) ∙ sym (append_assoc (pong_frame t) (octets_from n line) (octets (numbered (length (bodies_in line) + n) b)))

pub text_more : (own : PeerId) (line : List Member) (b : Body) → text_of own (line ++ Says b ∷ []) ≡ text_of own line ++ octets (next_message line b)
text_more own line b =
    ap (λ (l : List ℕ). handshake Dealer (Some own) ++ l) (octets-more 1 line b)
    ∙ sym (append_assoc (handshake Dealer (Some own)) (octets_from 1 line) (octets (next_message line b)))

-- ---- the text with more PONGs

pub bodies-pongs : (line : List Member) (ts : List (List ℕ)) → bodies_in (line ++ map (λ t. Pongs t) ts) ≡ bodies_in line
bodies-pongs [] [] = refl
bodies-pongs [] (t ∷ ts) = bodies-pongs [] ts
bodies-pongs (Says b ∷ line) ts = ap (λ (l : List Body). b ∷ l) (bodies-pongs line ts)
bodies-pongs (Pongs t ∷ line) ts = bodies-pongs line ts

octets-pongs : (n : ℕ) (line : List Member) (ts : List (List ℕ)) → octets_from n (line ++ map (λ t. Pongs t) ts) ≡ octets_from n line ++ flat_map pong_frame ts
octets-pongs n [] [] = refl
octets-pongs n [] (t ∷ ts) = ap (λ (l : List ℕ). pong_frame t ++ l) (octets-pongs n [] ts)
octets-pongs n (Says b ∷ line) ts =
    ap (λ (l : List ℕ). octets (numbered n b) ++ l) (octets-pongs (n + 1) line ts) ∙ sym (append_assoc (octets (numbered n b)) (octets_from (n + 1) line) (flat_map pong_frame ts))
octets-pongs n (Pongs t ∷ line) ts =
    ap (λ (l : List ℕ). pong_frame t ++ l) (octets-pongs n line ts) ∙ sym (append_assoc (pong_frame t) (octets_from n line) (flat_map pong_frame ts))

pub text_pongs : (own : PeerId) (line : List Member) (ts : List (List ℕ)) → text_of own (line ++ map (λ t. Pongs t) ts) ≡ text_of own line ++ flat_map pong_frame ts
text_pongs own line ts =
    ap (λ (l : List ℕ). handshake Dealer (Some own) ++ l) (octets-pongs 1 line ts)
    ∙ sym (append_assoc (handshake Dealer (Some own)) (octets_from 1 line) (flat_map pong_frame ts))

-- ---- what a link keeps then

-- of another line whose text goes on with these octets
grown : (own : PeerId) (line longer : List Member) (more : List ℕ) (sent : ℕ) (linked : Bool) (o : List ℕ) (n : ℕ) → n ≤ length (text_of own line)
    → text_of own longer ≡ text_of own line ++ more → sent ≡ length (bodies_in longer)
    → let now : Sending = record {
      queue = drop n (text_of own line) ++ more;
      sent = sent;
      written = length (text_of own line) + length more;
      taken = n;
      linked = linked;
      replies = heard_after o;
    } in now ≡ link_after own longer linked o n
grown own line longer more sent linked o n within text count =
    let make : List ℕ → ℕ → ℕ → Sending = λ q s w. record { queue = q; sent = s; written = w; taken = n; linked = linked; replies = heard_after o } in
    ap (λ q. make q sent (length (text_of own line) + length more)) (sym (drop-append-le n (text_of own line) more within) ∙ ap (λ (t : List ℕ). drop n t) (sym text))
    ∙ ap (λ s. make (drop n (text_of own longer)) s (length (text_of own line) + length more)) count
    ∙ ap (λ w. make (drop n (text_of own longer)) (length (bodies_in longer)) w) (sym (ap length text ∙ length-append (text_of own line) more))

-- how many octets of all have gone out
taken-within : (own : PeerId) (line : List Member) (linked : Bool) (o : List ℕ) (n : ℕ) (was : Sending) → was ≡ link_after own line linked o n → was.taken + length was.queue ≡ was.written → n ≤ length (text_of own line)
taken-within own line linked o n was e whole =
    let t : was.taken ≡ n = ap (λ (s : Sending). s.taken) e in
    let w : was.written ≡ length (text_of own line) = ap (λ (s : Sending). s.written) e in omega (arith, whole, t, w)

-- how many wait
pub waits-of : (own : PeerId) (line : List Member) (linked : Bool) (o : List ℕ) (n : ℕ) (was : Sending) → was ≡ link_after own line linked o n → length was.queue ≡ unsent_of own line n
waits-of own line linked o n was e = ap (λ (s : Sending). length s.queue) e ∙ length-drop n (text_of own line)

-- more octets were queued, and the count of messages is this
queued : (own : PeerId) (line longer : List Member) (more : List ℕ) (linked : Bool) (o : List ℕ) (n : ℕ) (was : Sending) (queue : List ℕ) (sent written : ℕ)
    → was ≡ link_after own line linked o n → was.taken + length was.queue ≡ was.written → queue ≡ was.queue ++ more → written ≡ was.written + length more → sent ≡ length (bodies_in longer)
    → text_of own longer ≡ text_of own line ++ more
    → let now : Sending = record { queue = queue; sent = sent; written = written; taken = was.taken; linked = was.linked; replies = was.replies } in now ≡ link_after own longer linked o n
queued own line longer more linked o n was queue sent written e whole put size count text =
    let make : List ℕ → ℕ → ℕ → Bool → Heard → Sending = λ q w t l r. record { queue = q; sent = sent; written = w; taken = t; linked = l; replies = r } in
    ap (λ x. make x written was.taken was.linked was.replies) (put ∙ ap (λ (s : Sending). s.queue ++ more) e)
    ∙ ap (λ x. make (drop n (text_of own line) ++ more) x was.taken was.linked was.replies) (size ∙ ap (λ (s : Sending). s.written + length more) e)
    ∙ ap (λ (s : Sending). make (drop n (text_of own line) ++ more) (length (text_of own line) + length more) s.taken s.linked s.replies) e
    ∙ grown own line longer more sent linked o n (taken-within own line linked o n was e whole) text count

-- a body was queued
pub pushed : (own : PeerId) (line : List Member) (b body : Body) (linked : Bool) (o : List ℕ) (n : ℕ) (was : Sending) (queue : List ℕ) (sent written : ℕ)
    → was ≡ link_after own line linked o n → was.taken + length was.queue ≡ was.written → sent ≡ was.sent + 1 → b ≡ body
    → (queue ≡ was.queue ++ octets (numbered sent b)) × (written ≡ was.written + length (octets (numbered sent b))) × (length was.queue + length (octets (numbered sent b)) ≤ UNSENT_OCTETS)
    → let now : Sending = record { queue = queue; sent = sent; written = written; taken = was.taken; linked = was.linked; replies = was.replies } in
    (unsent_of own line n + size_of line body ≤ UNSENT_OCTETS) × (now ≡ link_after own (line ++ Says body ∷ []) linked o n)
pushed own line b body linked o n was queue sent written e whole count same q =
    let is : sent ≡ length (bodies_in line) + 1 = count ∙ ap (λ (s : Sending). s.sent + 1) e in
    let message : octets (numbered sent b) ≡ octets (next_message line body) = ap (λ i. octets (numbered i b)) is ∙ ap (λ x. octets (next_message line x)) same in
    let size : length (octets (numbered sent b)) ≡ size_of line body = ap length message in
    let longer : sent ≡ length (bodies_in (line ++ Says body ∷ [])) = is ∙ sym (ap length (bodies-more line body) ∙ length-append (bodies_in line) (body ∷ [])) in (
      omega (arith, q.2, size, waits-of own line linked o n was e),
      queued own line (line ++ Says body ∷ []) (octets (next_message line body)) linked o n was queue sent written e whole (q.0 ∙ ap (λ (l : List ℕ). was.queue ++ l) message) (q.1 ∙ ap (λ x. was.written + x) size) longer
          (text_more own line body),
    )

-- PONGs were queued
pub pongs_queued : (own : PeerId) (line : List Member) (cs : List (List ℕ)) (linked : Bool) (o : List ℕ) (n : ℕ) (was : Sending) (queue : List ℕ) (written : ℕ)
    → was ≡ link_after own line linked o n → was.taken + length was.queue ≡ was.written
    → let ts = answered (length was.queue) cs in (queue ≡ was.queue ++ flat_map pong_frame ts) × (written ≡ was.written + length (flat_map pong_frame ts))
    → let now : Sending = record { queue = queue; sent = was.sent; written = written; taken = was.taken; linked = was.linked; replies = was.replies } in now ≡ link_after own (answering own line n cs) linked o n
pongs_queued own line cs linked o n was queue written e whole q =
    let ts = answered (unsent_of own line n) cs in
    let p = subst (λ (w : ℕ). let xs = answered w cs in (queue ≡ was.queue ++ flat_map pong_frame xs) × (written ≡ was.written + length (flat_map pong_frame xs))) (waits-of own line linked o n was e) q in
    let count : was.sent ≡ length (bodies_in (answering own line n cs)) = ap (λ (s : Sending). s.sent) e ∙ ap length (sym (bodies-pongs line ts)) in
    queued own line (answering own line n cs) (flat_map pong_frame ts) linked o n was queue was.sent written e whole p.0 p.1 count (text_pongs own line ts)
