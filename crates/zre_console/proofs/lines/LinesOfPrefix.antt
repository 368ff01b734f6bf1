-- The lines of a text that more text follows.
use Rattle.std.proofs.Common.{◌≡◌, ℕ, ◌+◌, ◌<◌, ◌==◌, Bool, true, false, cond, List, [], ◌∷◌, ◌++◌, length, refl, sym, ap, ◌∙◌, arith, append_assoc}
use Rattle.std.specs.List.{onto_first}
use Rattle.std.proofs.lemmas.List.{append-nil, length-append}
use Rattle.std.proofs.lemmas.List.Elements.{All-cons, All-nil}
use Rattle.std.proofs.lemmas.List.Splits.{slice_split-cons_no}
use Rattle.zre_outside.specs.declared.entry.Command.{Command}
use Rattle.zre_capture.specs.Parts.{Lacks}
use Rattle.zre_capture.specs.Reading.{but_last}
use Rattle.zre_capture.specs.Journal.{lines_in}
use Rattle.zre_capture.proofs.TextParts.{between-cut, between-whole}
use Rattle.zre_capture.proofs.LineByLine.{some_lines, lacks-append}
use Rattle.zre_capture.proofs.FirstBadColumn.{but_last-more}
use Rattle.zre_console.specs.lines.Orders.{order_of, orders_from, ended_lines, typed}
use Rattle.zre_console.specs.lines.Typing.{last_of, unfinished, finished}

-- ---- lists of lines

last_of-cons : (l : List ℕ) (ls : List (List ℕ)) → 0 < length ls → last_of (l ∷ ls) ≡ last_of ls
last_of-cons l [] some = absurd (omega (arith, some))
last_of-cons l (m ∷ ls) some = refl

ended-cons : (l : List ℕ) (ls : List (List ℕ)) → 0 < length ls → ended_lines (l ∷ ls) ≡ l ∷ ended_lines ls
unfolding ended_lines
ended-cons l [] some = absurd (omega (arith, some))
ended-cons l (m ∷ ls) some = refl

some_append : (ls ms : List (List ℕ)) → 0 < length ms → 0 < length (ls ++ ms)
some_append ls ms some = omega (arith, some, length-append ls ms)

but_last-append : (ls ms : List (List ℕ)) → 0 < length ms → but_last (ls ++ ms) ≡ ls ++ but_last ms
but_last-append [] ms some = refl
but_last-append (l ∷ ls) ms some = but_last-more l (ls ++ ms) (some_append ls ms some) ∙ ap (λ (r : List (List ℕ)). l ∷ r) (but_last-append ls ms some)

last_of-append : (ls ms : List (List ℕ)) → 0 < length ms → last_of (ls ++ ms) ≡ last_of ms
last_of-append [] ms some = refl
last_of-append (l ∷ ls) ms some = last_of-cons l (ls ++ ms) (some_append ls ms some) ∙ last_of-append ls ms some

ended-append : (ls ms : List (List ℕ)) → 0 < length ms → ended_lines (ls ++ ms) ≡ ls ++ ended_lines ms
ended-append [] ms some = refl
ended-append (l ∷ ls) ms some = ended-cons l (ls ++ ms) (some_append ls ms some) ∙ ap (λ (r : List (List ℕ)). l ∷ r) (ended-append ls ms some)

count-but_last : (ls : List (List ℕ)) → 0 < length ls → 1 + length (but_last ls) ≡ length ls
count-but_last [] some = absurd (omega (arith, some))
count-but_last (l ∷ []) some = refl
count-but_last (l ∷ m ∷ ls) some = let more = count-but_last (m ∷ ls) (omega arith) in omega (arith, more)

-- ---- the lines of a text

-- one octet more at the front
append-step : (c : ℕ) (x : List ℕ) (b : Bool) (ls all : List (List ℕ)) → 0 < length ls → (c == 10) ≡ b → all ≡ but_last ls ++ lines_in (last_of ls ++ x)
    → cond b ([] ∷ all) (onto_first c all) ≡ but_last (cond b ([] ∷ ls) (onto_first c ls)) ++ lines_in (last_of (cond b ([] ∷ ls) (onto_first c ls)) ++ x)
append-step c x b [] all some is e = absurd (omega (arith, some))
append-step c x true (l ∷ ls) all some is e = ap (λ (r : List (List ℕ)). [] ∷ r) e
append-step c x false (l ∷ []) all some is e = ap (onto_first c) e ∙ sym (slice_split-cons_no (λ b. b == 10) c (l ++ x) is)
append-step c x false (l ∷ m ∷ ls) all some is e = ap (onto_first c) e

pub lines-append : (o x : List ℕ) → lines_in (o ++ x) ≡ but_last (lines_in o) ++ lines_in (unfinished o ++ x)
lines-append [] x = refl
lines-append (c ∷ o) x = append-step c x (c == 10) (lines_in o) (lines_in (o ++ x)) (some_lines o) refl (lines-append o x)

lacks-step : (c : ℕ) (b : Bool) (ls : List (List ℕ)) → 0 < length ls → (c == 10) ≡ b → Lacks 10 (last_of ls) → Lacks 10 (last_of (cond b ([] ∷ ls) (onto_first c ls)))
lacks-step c b [] some is none = absurd (omega (arith, some))
lacks-step c true (l ∷ ls) some is none = none
lacks-step c false (l ∷ []) some is none = All-cons (λ b. (b == 10) ≡ false) c l is none
lacks-step c false (l ∷ m ∷ ls) some is none = none

pub unfinished-lacks : (o : List ℕ) → Lacks 10 (unfinished o)
unfinished-lacks [] = All-nil (λ b. (b == 10) ≡ false)
unfinished-lacks (c ∷ o) = lacks-step c (c == 10) (lines_in o) (some_lines o) refl (unfinished-lacks o)

-- a text after it that ends no line
pub lines-part : (o x : List ℕ) → Lacks 10 x → lines_in (o ++ x) ≡ but_last (lines_in o) ++ (unfinished o ++ x) ∷ []
lines-part o x none =
    lines-append o x ∙ ap (λ (ls : List (List ℕ)). but_last (lines_in o) ++ ls) (between-whole 10 (unfinished o ++ x) (lacks-append 10 (unfinished o) x (unfinished-lacks o) none))

-- a text after it that ends its last line
pub lines-line : (o text : List ℕ) → Lacks 10 text → lines_in (o ++ (text ++ 10 ∷ [])) ≡ but_last (lines_in o) ++ (unfinished o ++ text) ∷ [] ∷ []
lines-line o text none =
    lines-append o (text ++ 10 ∷ [])
    ∙ ap (λ (ls : List (List ℕ)). but_last (lines_in o) ++ ls)
    (between-cut 10 (unfinished o ++ (text ++ 10 ∷ [])) (unfinished o ++ text) [] (sym (append_assoc (unfinished o) text (10 ∷ [])))
    (lacks-append 10 (unfinished o) text (unfinished-lacks o) none))

pub count-lines : (o : List ℕ) → 1 + length (but_last (lines_in o)) ≡ length (lines_in o)
count-lines o = count-but_last (lines_in o) (some_lines o)

pub unfinished-part : (o x : List ℕ) → Lacks 10 x → unfinished (o ++ x) ≡ unfinished o ++ x
unfinished-part o x none = ap last_of (lines-part o x none) ∙ last_of-append (but_last (lines_in o)) ((unfinished o ++ x) ∷ []) (omega arith)

pub unfinished-line : (o text : List ℕ) → Lacks 10 text → unfinished (o ++ (text ++ 10 ∷ [])) ≡ []
unfinished-line o text none = ap last_of (lines-line o text none) ∙ last_of-append (but_last (lines_in o)) ((unfinished o ++ text) ∷ [] ∷ []) (omega arith)

pub count-part : (o x : List ℕ) → Lacks 10 x → length (lines_in (o ++ x)) ≡ length (lines_in o)
count-part o x none =
    let sum = length-append (but_last (lines_in o)) ((unfinished o ++ x) ∷ []) in
    ap length (lines-part o x none) ∙ sum ∙ omega (arith, count-lines o)

pub count-line : (o text : List ℕ) → Lacks 10 text → length (lines_in (o ++ (text ++ 10 ∷ []))) ≡ length (lines_in o) + 1
count-line o text none =
    let sum = length-append (but_last (lines_in o)) ((unfinished o ++ text) ∷ [] ∷ []) in
    ap length (lines-line o text none) ∙ sum ∙ omega (arith, count-lines o)

-- ---- their commands

orders-append : (n : ℕ) (ls ms : List (List ℕ)) → orders_from n (ls ++ ms) ≡ orders_from n ls ++ orders_from (n + length ls) ms
orders-append n [] ms = ap (λ (k : ℕ). orders_from k ms) (omega arith)
orders-append n (l ∷ ls) ms =
    let next : n + 1 + length ls ≡ n + length (l ∷ ls) = omega arith in
    ap (λ (cs : List Command). order_of n l ∷ cs) (orders-append (n + 1) ls ms ∙ ap (λ (k : ℕ). orders_from (n + 1) ls ++ orders_from k ms) next)

-- the commands of whole lines, and of others after them
orders-after : (o : List ℕ) (ms : List (List ℕ)) → orders_from 1 (but_last (lines_in o) ++ ms) ≡ typed o ++ orders_from (length (lines_in o)) ms
orders-after o ms = orders-append 1 (but_last (lines_in o)) ms ∙ ap (λ (k : ℕ). typed o ++ orders_from k ms) (count-lines o)

pub typed-more : (o x : List ℕ) → typed (o ++ x) ≡ typed o ++ finished o x
typed-more o x =
    let rest = lines_in (unfinished o ++ x) in
    ap (λ (ls : List (List ℕ)). orders_from 1 (but_last ls)) (lines-append o x)
    ∙ ap (orders_from 1) (but_last-append (but_last (lines_in o)) rest (some_lines (unfinished o ++ x)))
    ∙ orders-after o (but_last rest)

pub ended-more : (o x : List ℕ) → orders_from 1 (ended_lines (lines_in (o ++ x))) ≡ typed o ++ orders_from (length (lines_in o)) (ended_lines (lines_in (unfinished o ++ x)))
ended-more o x =
    let rest = lines_in (unfinished o ++ x) in
    ap (λ (ls : List (List ℕ)). orders_from 1 (ended_lines ls)) (lines-append o x)
    ∙ ap (orders_from 1) (ended-append (but_last (lines_in o)) rest (some_lines (unfinished o ++ x)))
    ∙ orders-after o (ended_lines rest)

pub typed-part : (o x : List ℕ) → Lacks 10 x → typed (o ++ x) ≡ typed o
typed-part o x none =
    ap (λ (ls : List (List ℕ)). orders_from 1 (but_last ls)) (lines-part o x none)
    ∙ ap (orders_from 1) (but_last-append (but_last (lines_in o)) ((unfinished o ++ x) ∷ []) (omega arith) ∙ append-nil (but_last (lines_in o)))

pub typed-line : (o text : List ℕ) → Lacks 10 text → typed (o ++ (text ++ 10 ∷ [])) ≡ typed o ++ order_of (length (lines_in o)) (unfinished o ++ text) ∷ []
typed-line o text none =
    ap (λ (ls : List (List ℕ)). orders_from 1 (but_last ls)) (lines-line o text none)
    ∙ ap (orders_from 1) (but_last-append (but_last (lines_in o)) ((unfinished o ++ text) ∷ [] ∷ []) (omega arith))
    ∙ orders-after o ((unfinished o ++ text) ∷ [])

-- the end makes a line of what isn't finished, unless it is empty
pub ended-last : (o : List ℕ) → orders_from 1 (ended_lines (lines_in o)) ≡ typed o ++ orders_from (length (lines_in o)) (cond (length (unfinished o) == 0) [] (unfinished o ∷ []))
unfolding ended_lines
ended-last o =
    ap (λ (t : List ℕ). orders_from 1 (ended_lines (lines_in t))) (sym (append-nil o))
    ∙ ended-more o []
    ∙ ap (λ (t : List ℕ). typed o ++ orders_from (length (lines_in o)) (ended_lines (lines_in t))) (append-nil (unfinished o))
    ∙ ap (λ (ls : List (List ℕ)). typed o ++ orders_from (length (lines_in o)) (ended_lines ls)) (between-whole 10 (unfinished o) (unfinished-lacks o))
