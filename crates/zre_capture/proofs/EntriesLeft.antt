-- What is left of the exercise after an entry.
use Rattle.std.proofs.Common.{◌≡◌, ℕ, suc, ◌+◌, ◌-◌, ◌/◌, ◌%◌, ◌<◌, ◌≤◌, List, [], ◌∷◌, ◌++◌, length, take, drop, refl, sym, ap, ◌∙◌, arith}
use Rattle.zre_outside.specs.declared.entry.Entry.{Entry}
use Rattle.zre_capture.specs.Exercise.{heard, opened, introduced, peers_from, spelling, after_content, after, cut, first_piece, second_piece, comes, quits, messages_from, exercise}
use Rattle.zre_capture.specs.Draws.{drawn, upper_half}
use Rattle.zre_capture.specs.Left.{left, left_at, messages_left}
use Rattle.zre_capture.specs.declared.exercise.Exercise.{Exercise}
use Rattle.zre_capture.specs.declared.stage.ExerciseStage.{ExerciseStage}
use Rattle.zre_capture.specs.declared.stage.ExerciseStage.TheVariants.{Beacon, Opened, Introduction, Messages, First, Second, Done}

no_peers : (i : ℕ) → peers_from i 0 ≡ []
unfolding peers_from
no_peers i = refl

one_peer : (i n : ℕ) → peers_from i (suc n) ≡ heard i ∷ opened i ∷ introduced i ∷ peers_from (i + 1) n
unfolding peers_from
one_peer i n = refl

-- a peer comes, and then those after it
pub peer_comes : (i p : ℕ) (more : List Entry) → i < p →
    heard i ∷ opened i ∷ introduced i ∷ (peers_from (i + 1) (p - (i + 1)) ++ more) ≡ peers_from i (p - i) ++ more
peer_comes i p more h =
    let e : suc (p - (i + 1)) ≡ p - i = omega arith in
    ap (λ es. es ++ more) (sym (one_peer i (p - (i + 1))) ∙ ap (peers_from i) e)

-- the first peer comes
pub exercise_begins : (p x m : ℕ) → 0 < p →
    heard 0 ∷ opened 0 ∷ introduced 0 ∷ (peers_from (0 + 1) (p - (0 + 1)) ++ messages_from p x 0 (m - 0)) ≡ exercise x p m
exercise_begins p x m h =
    let a : p - 0 ≡ p = omega arith in
    let b : m - 0 ≡ m = omega arith in
    peer_comes 0 p (messages_from p x 0 (m - 0)) h ∙ ap (λ n. peers_from 0 n ++ messages_from p x 0 (m - 0)) a ∙ ap (λ n. peers_from 0 p ++ messages_from p x 0 n) b

-- no further peer comes
pub peers_end : (i p : ℕ) (more : List Entry) → p ≤ i → more ≡ peers_from i (p - i) ++ more
peers_end i p more h =
    let e : p - i ≡ 0 = omega arith in
    sym (ap (λ es. es ++ more) (ap (peers_from i) e ∙ no_peers i))

no_messages : (p x j : ℕ) → messages_from p x j 0 ≡ quits j ∷ []
unfolding messages_from
no_messages p x j = refl

one_message : (p x j n : ℕ) → messages_from p x j (suc n) ≡
    comes p j (first_piece (j / p) x) ∷ comes p j (second_piece (j / p) x) ∷ messages_from p (after (j / p) x) (j + 1) n
unfolding messages_from
one_message p x j n = refl

-- how many octets come in the first piece
cut_is : (k x at y d : ℕ) (spelled : List ℕ) → spelled ≡ spelling k x → d ≡ after_content k x → y ≡ drawn d → at ≡ upper_half y % (length spelled + 1) → at ≡ cut k x
unfolding cut after
cut_is k x at y d spelled s a b is =
    is ∙ ap (λ z. upper_half z % (length spelled + 1)) (b ∙ ap drawn a) ∙ ap (λ (o : List ℕ). upper_half (drawn (after_content k x)) % (length o + 1)) s

draws_go_on : (k x y d : ℕ) → d ≡ after_content k x → y ≡ drawn d → y ≡ after k x
unfolding after
draws_go_on k x y d a b = b ∙ ap drawn a

-- a message is spelled and cut, and comes in two pieces
pub message_comes : (p x j m : ℕ) (spelled : List ℕ) (at y d : ℕ) → j < m → spelled ≡ spelling (j / p) x → d ≡ after_content (j / p) x → y ≡ drawn d → at ≡ upper_half y % (length spelled + 1) →
    messages_from p x j (m - j) ≡ comes p j (take at spelled) ∷ comes p j (drop at spelled) ∷ messages_from p y (j + 1) (m - (j + 1))
message_comes p x j m spelled at y d h s a b is =
    let k = j / p in
    let e : m - j ≡ suc (m - (j + 1)) = omega arith in
    let n = cut_is k x at y d spelled s a b is in
    let f : first_piece k x ≡ take at spelled = sym (ap (λ i. take i spelled) n ∙ ap (λ (o : List ℕ). take (cut k x) o) s) in
    let g : second_piece k x ≡ drop at spelled = sym (ap (λ i. drop i spelled) n ∙ ap (λ (o : List ℕ). drop (cut k x) o) s) in
    ap (messages_from p x j) e ∙ one_message p x j (m - (j + 1))
    ∙ ap (λ o. comes p j o ∷ comes p j (second_piece k x) ∷ messages_from p (after k x) (j + 1) (m - (j + 1))) f
    ∙ ap (λ o. comes p j (take at spelled) ∷ comes p j o ∷ messages_from p (after k x) (j + 1) (m - (j + 1))) g
    ∙ ap (λ z. comes p j (take at spelled) ∷ comes p j (drop at spelled) ∷ messages_from p z (j + 1) (m - (j + 1))) (sym (draws_go_on k x y d a b))

-- the end comes
pub messages_end : (p x j m : ℕ) → m ≤ j → messages_from p x j (m - j) ≡ quits j ∷ []
messages_end p x j m h =
    let e : m - j ≡ 0 = omega arith in
    ap (messages_from p x j) e ∙ no_messages p x j

-- what is left at a stage is the same whatever stage stands in the generator
pub same_left : (t : ExerciseStage) (e f : Exercise) → e.peers ≡ f.peers → e.x ≡ f.x → e.message ≡ f.message → e.messages ≡ f.messages → e.cut ≡ f.cut → e.spelled ≡ f.spelled → left_at t e ≡ left_at t f
same_left (Beacon i) e f p x j m c s = cc
same_left (Opened i) e f p x j m c s = cc
same_left (Introduction i) e f p x j m c s = cc
same_left Messages e f p x j m c s = cc
same_left (First i) e f p x j m c s = cc
same_left (Second i) e f p x j m c s = cc
same_left Done e f p x j m c s = refl

pub at_messages : (e : Exercise) → e.stage ≡ Messages → left e ≡ messages_left e
at_messages e is = ap (λ s. left_at s e) is

-- two entries are given, and messages go on
pub given_two : (s n : Exercise) (e f : Entry) → n.stage ≡ Messages → left s ≡ e ∷ f ∷ messages_left n → left s ≡ e ∷ f ∷ left n
given_two s n e f is given = given ∙ ap (λ es. e ∷ f ∷ es) (sym (at_messages n is))
