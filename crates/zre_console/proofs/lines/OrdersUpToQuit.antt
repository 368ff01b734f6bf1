-- Orders up to the first quit.
use Rattle.std.proofs.Common.{◌≡◌, ℕ, ◌==◌, Bool, true, false, cond, List, [], ◌∷◌, ◌++◌, length, refl, sym, ap, ◌∙◌, append_assoc}
use Rattle.std.specs.Prelude.{◌||◌}
use Rattle.std.specs.List.{list_any}
use Rattle.std.proofs.lemmas.List.{append-nil, append_cancel_right}
use Rattle.std.proofs.lemmas.List.Folds.{list_any-append}
use Rattle.std.proofs.lemmas.Bool.{or_right, or_left}
use Rattle.zre_outside.specs.declared.entry.Command.{Command}
use Rattle.zre_outside.specs.declared.entry.Command.TheVariants.{Join, Leave, Whisper, Shout, Bad, Quit}
use Rattle.zre_capture.specs.Journal.{lines_in}
use Rattle.zre_console.specs.lines.Orders.{orders_from, ended_lines, is_quit, through_quit, before_quit, typed, orders, asked, Begins}
use Rattle.zre_console.specs.lines.Typing.{unfinished}
use Rattle.zre_console.specs.reader.Putting.{IsShort}
use Rattle.zre_console.proofs.lines.LinesOfPrefix.{ended-more, ended-last}

-- what holds of no commands, of a quit and what comes after it, and of one more that is no quit, holds of all
along : (P : List Command → Type 0) → P [] → ((cs : List Command) → P (Quit ∷ cs)) → ((c : Command) (cs : List Command) → is_quit c ≡ false → P cs → P (c ∷ cs)) → (cs : List Command) → P cs
along P none quit more [] = none
along P none quit more (Join group ∷ cs) = more (Join group) cs refl (along P none quit more cs)
along P none quit more (Leave group ∷ cs) = more (Leave group) cs refl (along P none quit more cs)
along P none quit more (Whisper peer content ∷ cs) = more (Whisper peer content) cs refl (along P none quit more cs)
along P none quit more (Shout group content ∷ cs) = more (Shout group content) cs refl (along P none quit more cs)
along P none quit more (Bad line ∷ cs) = more (Bad line) cs refl (along P none quit more cs)
along P none quit more (Quit ∷ cs) = quit cs

with_quit : (cs ds : List Command) → list_any is_quit cs ≡ true → through_quit (cs ++ ds) ≡ through_quit cs
with_quit cs ds = along (λ (l : List Command). list_any is_quit l ≡ true → through_quit (l ++ ds) ≡ through_quit l) (λ is. absurd cc) (λ l is. refl)
    (λ c l plain so is. rw plain (ap (λ (r : List Command). c ∷ r) (so (rw plain at is)))) cs

without_quit : (cs ds : List Command) → list_any is_quit cs ≡ false → through_quit (cs ++ ds) ≡ cs ++ through_quit ds
without_quit cs ds = along (λ (l : List Command). list_any is_quit l ≡ false → through_quit (l ++ ds) ≡ l ++ through_quit ds) (λ none. refl) (λ l none. absurd cc)
    (λ c l plain so none. rw plain (ap (λ (r : List Command). c ∷ r) (so (rw plain at none)))) cs

-- the orders of a longer text
orders-more : (o x : List ℕ) → orders (o ++ x) ≡ through_quit (typed o ++ (orders_from (length (lines_in o)) (ended_lines (lines_in (unfinished o ++ x))) ++ Quit ∷ []))
orders-more o x =
    ap (λ (cs : List Command). through_quit (cs ++ Quit ∷ [])) (ended-more o x)
    ∙ ap through_quit (append_assoc (typed o) (orders_from (length (lines_in o)) (ended_lines (lines_in (unfinished o ++ x)))) (Quit ∷ []))

pub quit-ends : (o x : List ℕ) → list_any is_quit (typed o) ≡ true → orders (o ++ x) ≡ through_quit (typed o)
quit-ends o x is = orders-more o x ∙ with_quit (typed o) _ is

pub commands-are_orders : (o x : List ℕ) → list_any is_quit (typed o) ≡ false
    → orders (o ++ x) ≡ typed o ++ through_quit (orders_from (length (lines_in o)) (ended_lines (lines_in (unfinished o ++ x))) ++ Quit ∷ [])
commands-are_orders o x isnt = orders-more o x ∙ without_quit (typed o) _ isnt

-- ---- fronts of the orders

-- a quit after them all comes to be the last
pub quit-last : (cs : List Command) → through_quit (cs ++ Quit ∷ []) ≡ before_quit cs ++ Quit ∷ []
quit-last = along (λ (l : List Command). through_quit (l ++ Quit ∷ []) ≡ before_quit l ++ Quit ∷ []) refl (λ l. refl) (λ c l plain so. rw plain (ap (λ (r : List Command). c ∷ r) so))

pub none-before : (cs : List Command) → list_any is_quit (before_quit cs) ≡ false
none-before = along (λ (l : List Command). list_any is_quit (before_quit l) ≡ false) refl (λ l. refl) (λ c l plain so. rw (plain, plain) so)

pub orders-begin : (o : List ℕ) (front others : List Command) → orders_from 1 (ended_lines (lines_in o)) ≡ front ++ others → list_any is_quit front ≡ false → Begins front o
orders-begin o front others e none = record {
  rest = before_quit others;
  parts = ap (λ (cs : List Command). through_quit (cs ++ Quit ∷ [])) e ∙ ap through_quit (append_assoc front others (Quit ∷ []))
      ∙ without_quit front (others ++ Quit ∷ []) none ∙ ap (λ (cs : List Command). front ++ cs) (quit-last others);
}

pub typed-begin : (o : List ℕ) (front others : List Command) → typed o ≡ front ++ others → list_any is_quit front ≡ false → Begins front o
typed-begin o front others e none =
    let last = orders_from (length (lines_in o)) (cond (length (unfinished o) == 0) [] (unfinished o ∷ [])) in
    orders-begin o front (others ++ last) (ended-last o ∙ ap (λ (cs : List Command). cs ++ last) e ∙ append_assoc front others last) none

left-false : (a b : Bool) → (a || b) ≡ false → a ≡ false
left-false true b e = e
left-false false b e = refl

pub begun-none : (front : List Command) (o : List ℕ) → Begins front o → list_any is_quit front ≡ false
begun-none front o begins =
    let ended = orders_from 1 (ended_lines (lines_in o)) in
    let same = append_cancel_right (front ++ begins.rest) (before_quit ended) (Quit ∷ []) (append_assoc front begins.rest (Quit ∷ []) ∙ sym begins.parts ∙ quit-last ended) in
    left-false (list_any is_quit front) (list_any is_quit begins.rest) (sym (list_any-append is_quit front begins.rest) ∙ ap (list_any is_quit) same ∙ none-before ended)

-- the first quit that was typed ends the orders
pub quit-found : (o : List ℕ) (front : List Command) (c : Command) (others : List Command) → typed o ≡ front ++ (c ∷ others) → list_any is_quit front ≡ false → is_quit c ≡ true
    → (list_any is_quit (typed o) ≡ true) × (orders o ≡ front ++ c ∷ [])
quit-found o front c others e none is =
    let some : list_any is_quit (typed o) ≡ true =
    ap (list_any is_quit) e ∙ list_any-append is_quit front (c ∷ others)
    ∙ or_right (list_any is_quit front) (list_any is_quit (c ∷ others)) (or_left (is_quit c) (list_any is_quit others) is) in (
      some,
      ap orders (sym (append-nil o)) ∙ quit-ends o [] some ∙ ap through_quit e ∙ without_quit front (c ∷ others) none
          ∙ ap (λ (b : Bool). front ++ (c ∷ cond b [] (through_quit others))) is,
    )

-- ---- the end

-- where no line is a quit, the end is
pub end-quits : (o : List ℕ) (commands : List Command) → orders_from 1 (ended_lines (lines_in o)) ≡ commands → list_any is_quit commands ≡ false → orders o ≡ commands ++ Quit ∷ []
end-quits o commands e none = ap (λ (cs : List Command). through_quit (cs ++ Quit ∷ [])) e ∙ without_quit commands (Quit ∷ []) none

-- the last line is a quit
pub last-quits : (o : List ℕ) (front : List Command) (c : Command) → orders_from 1 (ended_lines (lines_in o)) ≡ front ++ c ∷ [] → list_any is_quit front ≡ false → is_quit c ≡ true → orders o ≡ front ++ c ∷ []
last-quits o front c e none is =
    ap (λ (cs : List Command). through_quit (cs ++ Quit ∷ [])) e ∙ ap through_quit (append_assoc front (c ∷ []) (Quit ∷ []))
    ∙ without_quit front (c ∷ Quit ∷ []) none ∙ ap (λ (b : Bool). front ++ (c ∷ cond b [] (Quit ∷ []))) is

-- ---- without the quit

-- what stands before a quit that is the first
pub before-one : (front : List Command) (c : Command) (others : List Command) → list_any is_quit front ≡ false → is_quit c ≡ true → before_quit (front ++ (c ∷ others)) ≡ front
before-one front c others none is = along (λ (l : List Command). list_any is_quit l ≡ false → before_quit (l ++ (c ∷ others)) ≡ l) (λ _. ap (λ (b : Bool). cond b [] (c ∷ before_quit others)) is) (λ l some. absurd cc)
    (λ d l plain so rest. rw plain (ap (λ (r : List Command). d ∷ r) (so (rw plain at rest)))) front none

pub before-through : (cs : List Command) → before_quit (through_quit cs) ≡ before_quit cs
before-through = along (λ (l : List Command). before_quit (through_quit l) ≡ before_quit l) refl (λ l. refl) (λ c l plain so. rw plain (ap (λ (r : List Command). c ∷ r) so))

-- what is before a quit is fewer
pub quit-short : (cs : List Command) → list_any is_quit cs ≡ true → IsShort (before_quit cs) cs
quit-short = along (λ (l : List Command). list_any is_quit l ≡ true → IsShort (before_quit l) l) (λ is. absurd cc) (λ l is. (Quit, l, refl))
    (λ c l plain so is. let r = so (rw plain at is) in rw plain (r.0, r.1, ap (λ (m : List Command). c ∷ m) r.2))

-- what is asked for, and the quit
pub asked-quits : (o : List ℕ) → orders o ≡ asked false o ++ Quit ∷ []
asked-quits o =
    let ended = orders_from 1 (ended_lines (lines_in o)) in
    let same : before_quit (orders o) ≡ before_quit ended = ap before_quit (quit-last ended) ∙ before-one (before_quit ended) Quit [] (none-before ended) refl in
    quit-last ended ∙ ap (λ (cs : List Command). cs ++ Quit ∷ []) (sym same)

pub asked-begins : (o : List ℕ) → Begins (asked false o) o
asked-begins o = record { rest = []; parts = asked-quits o }

-- where a line is a quit, no more is asked for than what was typed before it
pub asked-typed : (o : List ℕ) → list_any is_quit (typed o) ≡ true → asked false o ≡ before_quit (typed o)
asked-typed o is = ap before_quit (ap orders (sym (append-nil o)) ∙ quit-ends o [] is) ∙ before-through (typed o)

-- where no line is a quit, all that was typed is asked for
pub before-none : (cs : List Command) → list_any is_quit cs ≡ false → before_quit cs ≡ cs
before-none = along (λ (l : List Command). list_any is_quit l ≡ false → before_quit l ≡ l) (λ none. refl) (λ l none. absurd cc)
    (λ c l plain so none. rw plain (ap (λ (r : List Command). c ∷ r) (so (rw plain at none))))
