-- What is kept of what was typed.
use Rattle.std.proofs.Common.{subst, ◌≡◌, ℕ, ◌+◌, ◌==◌, ◌&&◌, not, Bool, true, false, cond, List, [], ◌∷◌, ◌++◌, length, refl, sym, ap, ◌∙◌, arith, append_assoc}
use Rattle.std.proofs.lemmas.Bool.{eqb-true, ne_eqb, and_parts}
use Rattle.std.proofs.lemmas.List.{append-nil}
use Rattle.zre_outside.specs.declared.entry.Command.{Command}
use Rattle.zre_capture.specs.Parts.{Lacks}
use Rattle.zre_capture.specs.Journal.{lines_in}
use Rattle.zre_console.specs.lines.Orders.{order_of, orders_from, ended_lines, typed}
use Rattle.zre_console.specs.lines.Typing.{unfinished, finished, Typing, Keeps, Typed, Adds, AddsFront}
use Rattle.zre_console.proofs.lines.LinesOfPrefix.{ended-last, typed-more, typed-part, typed-line, unfinished-part, unfinished-line, count-part, count-line}

-- ---- what was typed

pub typed-start : Typed [] (record { line = 1; left = []; long = false })
typed-start = record { number = refl; keeps = (refl, omega arith) }

-- a line is ended
pub typed-ended : (o text : List ℕ) (t : Typing) → Typed o t → Lacks 10 text → Typed (o ++ (text ++ 10 ∷ [])) (record { line = t.line + 1; left = []; long = false })
typed-ended o text t is none = record {
  number = ap (λ (n : ℕ). n + 1) is.number ∙ sym (count-line o text none);
  keeps = subst (λ (l : List ℕ). Keeps false [] l) (sym (unfinished-line o text none)) (refl, omega arith);
}

-- a line goes on
pub typed-on : (o x : List ℕ) (t s : Typing) → Typed o t → Lacks 10 x → s.line ≡ t.line → Keeps s.long s.left (unfinished o ++ x) → Typed (o ++ x) s
typed-on o x t s is none same keeps = record {
  number = same ∙ is.number ∙ sym (count-part o x none);
  keeps = subst (λ (l : List ℕ). Keeps s.long s.left l) (sym (unfinished-part o x none)) keeps;
}

-- ---- the end

-- nothing is kept of an empty line alone
pub nothing-kept : (long : Bool) (kept line : List ℕ) → Keeps long kept line → ((length kept == 0) && not long) ≡ true → line ≡ []
nothing-kept false [] line keeps is = sym keeps.0
nothing-kept false (k ∷ kept) line keeps is =
    let none : length (k ∷ kept) ≡ 0 = eqb-true (length (k ∷ kept)) 0 (and_parts (length (k ∷ kept) == 0) true is).0 in
    absurd (omega (arith, none))
nothing-kept true kept line keeps is = let both = and_parts (length kept == 0) false is in absurd cc

something-kept : (long : Bool) (kept line : List ℕ) → Keeps long kept line → ((length kept == 0) && not long) ≡ false → (length line == 0) ≡ false
something-kept false [] line keeps is = absurd cc
something-kept false (k ∷ kept) line keeps is = ap (λ (l : List ℕ). length l == 0) (sym keeps.0) ∙ ne_eqb (length (k ∷ kept)) 0 (λ same. omega (arith, same))
something-kept true kept line keeps is = ne_eqb (length line) 0 (λ same. omega (arith, same, keeps))

pub none-left : (o : List ℕ) (t : Typing) → Typed o t → ((length t.left == 0) && not t.long) ≡ true → typed o ++ [] ≡ orders_from 1 (ended_lines (lines_in o))
none-left o t is none =
    let empty = nothing-kept t.long t.left (unfinished o) is.keeps none in
    sym (ended-last o ∙ ap (λ (l : List ℕ). typed o ++ orders_from (length (lines_in o)) (cond (length l == 0) [] (l ∷ []))) empty)

pub one-left : (o : List ℕ) (t : Typing) (command : Command) → Typed o t → ((length t.left == 0) && not t.long) ≡ false → command ≡ order_of t.line (unfinished o)
    → typed o ++ command ∷ [] ≡ orders_from 1 (ended_lines (lines_in o))
one-left o t command is some e =
    ap (λ (c : Command). typed o ++ c ∷ []) (e ∙ ap (λ (n : ℕ). order_of n (unfinished o)) is.number)
    ∙ sym (ended-last o ∙ ap (λ (b : Bool). typed o ++ orders_from (length (lines_in o)) (cond b [] (unfinished o ∷ []))) (something-kept t.long t.left (unfinished o) is.keeps some))

-- ---- a piece

-- what was taken of a piece, and what is left of it
pub record IsAmid (first : Typing) (piece : List ℕ) (old new : List Command) (t : Typing) (rest : List ℕ) : Type 0 where
  pub before : List ℕ
  pub parts : piece ≡ before ++ rest
  pub so_far : (o : List ℕ) → Typed o first → Typed (o ++ before) t × Adds o before old new

pub amid-start : (t : Typing) (piece : List ℕ) (old : List Command) → IsAmid t piece old old t piece
amid-start t piece old = record {
  before = [];
  parts = refl;
  so_far = λ o is. (
    subst (λ (p : List ℕ). Typed p t) (sym (append-nil o)) is,
    record { commands = []; added = sym (append-nil old); more = ap typed (append-nil o) ∙ sym (append-nil (typed o)) },
  );
}

module _ (first : Typing) (piece : List ℕ) (old now new : List Command) (t : Typing) (rest text later : List ℕ) (amid : IsAmid first piece old now t rest)
    (e : rest ≡ text ++ (10 ∷ later)) (none : Lacks 10 text)
    (grown : (line : List ℕ) → Keeps t.long t.left line → new ≡ now ++ order_of t.line (line ++ text) ∷ []) where
  regrouped : (o : List ℕ) → o ++ (amid.before ++ (text ++ 10 ∷ [])) ≡ (o ++ amid.before) ++ (text ++ 10 ∷ [])
  regrouped o = sym (append_assoc o amid.before (text ++ 10 ∷ []))

  one-more : (p : List ℕ) → Typed p t → typed (p ++ (text ++ 10 ∷ [])) ≡ typed p ++ order_of t.line (unfinished p ++ text) ∷ []
  one-more p so = typed-line p text none ∙ ap (λ (n : ℕ). typed p ++ order_of n (unfinished p ++ text) ∷ []) (sym so.number)

  pub amid-line : IsAmid first piece old new (record { line = t.line + 1; left = []; long = false }) later
  amid-line = record {
    before = amid.before ++ (text ++ 10 ∷ []);
    parts = amid.parts ∙ ap (λ (r : List ℕ). amid.before ++ r) (e ∙ sym (append_assoc text (10 ∷ []) later)) ∙ sym (append_assoc amid.before (text ++ 10 ∷ []) later);
    so_far = λ o typed_first.
        let so = amid.so_far o typed_first in
        let command = order_of t.line (unfinished (o ++ amid.before) ++ text) in (
          subst (λ (p : List ℕ). Typed p (record { line = t.line + 1; left = []; long = false })) (sym (regrouped o)) (typed-ended (o ++ amid.before) text t so.0 none),
          record {
            commands = so.1.commands ++ command ∷ [];
            added = grown (unfinished (o ++ amid.before)) so.0.keeps ∙ ap (λ (cs : List Command). cs ++ command ∷ []) so.1.added ∙ append_assoc old so.1.commands (command ∷ []);
            more = ap typed (regrouped o) ∙ one-more (o ++ amid.before) so.0 ∙ ap (λ (cs : List Command). cs ++ command ∷ []) so.1.more ∙ append_assoc (typed o) so.1.commands (command ∷ []);
          },
        );
  }

module _ (o piece : List ℕ) (first t : Typing) (old now : List Command) (rest : List ℕ) (is : Typed o first) (amid : IsAmid first piece old now t rest) where
  whole : o ++ piece ≡ (o ++ amid.before) ++ rest
  whole = ap (λ (p : List ℕ). o ++ p) amid.parts ∙ sym (append_assoc o amid.before rest)

  -- the rest ends no line
  pub all-taken : (s : Typing) → Lacks 10 rest → s.line ≡ t.line → ((line : List ℕ) → Keeps t.long t.left line → Keeps s.long s.left (line ++ rest)) → Typed (o ++ piece) s × Adds o piece old now
  all-taken s none same keeps = let so = amid.so_far o is in (
    subst (λ (p : List ℕ). Typed p s) (sym whole) (typed-on (o ++ amid.before) rest t s so.0 none same (keeps (unfinished (o ++ amid.before)) so.0.keeps)),
    record {
      commands = so.1.commands;
      added = so.1.added;
      more = ap typed whole ∙ typed-part (o ++ amid.before) rest none ∙ so.1.more;
    },
  )

  pub front-taken : AddsFront o piece old now
  front-taken = let so = amid.so_far o is in record {
    commands = so.1.commands;
    others = finished (o ++ amid.before) rest;
    added = so.1.added;
    more = ap typed whole ∙ typed-more (o ++ amid.before) rest ∙ ap (λ (cs : List Command). cs ++ finished (o ++ amid.before) rest) so.1.more
        ∙ append_assoc (typed o) so.1.commands (finished (o ++ amid.before) rest);
  }

pub amid-at : (first : Typing) (piece : List ℕ) (old now : List Command) (t s : Typing) (rest : List ℕ) → IsAmid first piece old now t rest → s ≡ t → IsAmid first piece old now s rest
amid-at first piece old now t s rest amid e = subst (λ (q : Typing). IsAmid first piece old now q rest) (sym e) amid

-- the same list under another name
pub amid-out : (first : Typing) (piece : List ℕ) (old now new : List Command) (t : Typing) (rest : List ℕ) → IsAmid first piece old now t rest → new ≡ now → IsAmid first piece old new t rest
amid-out first piece old now new t rest amid e = subst (λ (l : List Command). IsAmid first piece old l t rest) (sym e) amid
