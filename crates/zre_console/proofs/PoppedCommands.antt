-- What the actor popped, where one caller put commands and another at most a quit.
use Rattle.std.proofs.Common.{◌≡◌, ◌≢◌, ℕ, ◌==◌, Bool, true, false, true≢false, cond, List, [], ◌∷◌, ◌++◌, map, refl, sym, ap, ◌∙◌, ne_eqb, eqb-true, eq-eqb}
use Rattle.std.specs.Prelude.{◌⊎◌}
use mathlib.Core.Logic.{inl, inr}
use mathlib.Core.List.{IsPrefix}
use Rattle.zre_outside.specs.declared.entry.Command.{Command}
use Rattle.zre_outside.specs.declared.entry.Command.TheVariants.{Quit}
use Rattle.zre_actor.specs.declared.views.Placed.{Placed}
use Rattle.zre_actor.specs.Commands.{placed, under, command_of}
use Rattle.zre_actor.specs.Work.{QuitsLast}

-- all these commands under one number
abbrev pub all_under : ℕ → List ℕ → List Command → List Placed
all_under n ended cs = map (placed n ended) cs

pub its_own : (n : ℕ) (ended : List ℕ) (cs : List Command) → under n (all_under n ended cs) ≡ all_under n ended cs
its_own n ended [] = refl
its_own n ended (c ∷ cs) = let x = placed n ended c in
    ap (λ b. cond b (x ∷ under n (all_under n ended cs)) (under n (all_under n ended cs))) (eq-eqb n n refl) ∙ ap (λ l. x ∷ l) (its_own n ended cs)

pub no_others : (m n : ℕ) (ended : List ℕ) (cs : List Command) → n ≢ m → under m (all_under n ended cs) ≡ []
no_others m n ended [] other = refl
no_others m n ended (c ∷ cs) other = let x = placed n ended c in
    ap (λ b. cond b (x ∷ under m (all_under n ended cs)) (under m (all_under n ended cs))) (ne_eqb n m other) ∙ no_others m n ended cs other

pub commands_under : (n : ℕ) (ended : List ℕ) (cs : List Command) → map command_of (all_under n ended cs) ≡ cs
commands_under n ended [] = refl
commands_under n ended (c ∷ cs) = ap (λ l. c ∷ l) (commands_under n ended cs)

pub prefix_nil : {X : Type 0} (xs : List X) → IsPrefix xs [] → xs ≡ []
prefix_nil [] p = refl
prefix_nil (x ∷ xs) p = absurd (let e : x ∷ (xs ++ p.0) ≡ [] = p.1 in cc)

-- a command under a number of its own is there
pub here : (n : ℕ) (e : Placed) (es : List Placed) → (e.number == n) ≡ true → under n (e ∷ es) ≡ e ∷ under n es
here n e es is = ap (λ b. cond b (e ∷ under n es) (under n es)) is

pub not_here : (n : ℕ) (e : Placed) (es : List Placed) → (e.number == n) ≡ false → under n (e ∷ es) ≡ under n es
not_here n e es isnt = ap (λ b. cond b (e ∷ under n es) (under n es)) isnt

-- nothing is under other numbers than r and q
abbrev pub TwoAlone : ℕ → ℕ → List Placed → Type 0
TwoAlone r q es = (n : ℕ) → n ≢ r → n ≢ q → under n es ≡ []

-- so none is under other numbers after the first
two_left : (r q : ℕ) (e : Placed) (es : List Placed) → TwoAlone r q (e ∷ es) → TwoAlone r q es
two_left r q e es two = λ n nr nq. by n (two n nr nq) (e.number == n) refl
  where
    by : (n : ℕ) → under n (e ∷ es) ≡ [] → (b : Bool) → (e.number == n) ≡ b → under n es ≡ []
    by n none true is = absurd (let x : e ∷ under n es ≡ [] = sym (here n e es is) ∙ none in cc)
    by n none false isnt = sym (not_here n e es isnt) ∙ none

-- under q stands nothing, or a quit: after it nothing was popped
pub split : (r q : ℕ) (es : List Placed) → r ≢ q → TwoAlone r q es → QuitsLast (map command_of es)
    → ((e : Placed) (more : List Placed) → under q es ≡ e ∷ more → e.command ≡ Quit)
    → (es ≡ under r es) ⊎ ((last : Placed) × (last.command ≡ Quit) × (es ≡ under r es ++ last ∷ []))
split r q [] apart two quits asks = inl refl
split r q (e ∷ es) apart two quits asks = by (split r q es apart (two_left r q e es two) quits.1) (e.number == r) refl
  where
    first_is : (e.number == r) ≡ true → (e.number == q) ≡ false
    first_is is = ne_eqb e.number q (λ same. apart (sym (eqb-true e.number r is) ∙ same))

    grown : (e.number == r) ≡ true → (es ≡ under r es) ⊎ ((last : Placed) × (last.command ≡ Quit) × (es ≡ under r es ++ last ∷ []))
        → (e ∷ es ≡ under r (e ∷ es)) ⊎ ((last : Placed) × (last.command ≡ Quit) × (e ∷ es ≡ under r (e ∷ es) ++ last ∷ []))
    grown is (inl same) = inl (ap (λ l. e ∷ l) same ∙ sym (here r e es is))
    grown is (inr (last, quit, same)) = inr (last, quit, ap (λ l. e ∷ l) same ∙ ap (λ l. l ++ last ∷ []) (sym (here r e es is)))

    asked : (e.number == q) ≡ true → e.command ≡ Quit
    asked is = asks e (under q es) (here q e es is)

    empty : (cs : List Placed) → map command_of cs ≡ [] → cs ≡ []
    empty [] is = refl
    empty (x ∷ xs) is = absurd (let y : x.command ∷ map command_of xs ≡ [] = is in cc)

    last_one : (e.number == r) ≡ false → (b : Bool) → (e.number == q) ≡ b → (e ∷ es ≡ under r (e ∷ es)) ⊎ ((last : Placed) × (last.command ≡ Quit) × (e ∷ es ≡ under r (e ∷ es) ++ last ∷ []))
    last_one isnt true is =
        let none : es ≡ [] = empty es (quits.0 (asked is)) in
        let nothing : under r (e ∷ es) ≡ [] = not_here r e es isnt ∙ ap (under r) none in
        inr (e, asked is, ap (λ l. e ∷ l) none ∙ ap (λ l. l ++ e ∷ []) (sym nothing))
    last_one isnt false other = absurd (
        let self : (e.number == e.number) ≡ true = eq-eqb e.number e.number refl in
        let gone : under e.number (e ∷ es) ≡ [] = two e.number (λ same. true≢false (sym (eq-eqb e.number r same) ∙ isnt)) (λ same. true≢false (sym (eq-eqb e.number q same) ∙ other)) in
        let x : e ∷ under e.number es ≡ [] = sym (here e.number e es self) ∙ gone in cc)

    by : (((x : Placed) (more : List Placed) → under q es ≡ x ∷ more → x.command ≡ Quit) → (es ≡ under r es) ⊎ ((last : Placed) × (last.command ≡ Quit) × (es ≡ under r es ++ last ∷ [])))
        → (b : Bool) → (e.number == r) ≡ b → (e ∷ es ≡ under r (e ∷ es)) ⊎ ((last : Placed) × (last.command ≡ Quit) × (e ∷ es ≡ under r (e ∷ es) ++ last ∷ []))
    by rest true is = grown is (rest (λ x more at. asks x more (not_here q e es (first_is is) ∙ at)))
    by rest false isnt = last_one isnt (e.number == q) refl

-- nothing is under other numbers than r
pub alone : (r : ℕ) (es : List Placed) → ((n : ℕ) → n ≢ r → under n es ≡ []) → es ≡ under r es
alone r [] none = refl
alone r (e ∷ es) none = by (alone r es) (e.number == r) refl
  where
    others : (e.number == r) ≡ true → (n : ℕ) → n ≢ r → under n es ≡ []
    others is n nr = sym (not_here n e es (ne_eqb e.number n (λ same. nr (sym same ∙ eqb-true e.number r is)))) ∙ none n nr

    by : (((n : ℕ) → n ≢ r → under n es ≡ []) → es ≡ under r es) → (b : Bool) → (e.number == r) ≡ b → e ∷ es ≡ under r (e ∷ es)
    by rest true is = ap (λ l. e ∷ l) (rest (others is)) ∙ sym (here r e es is)
    by rest false isnt = absurd (
        let gone : under e.number (e ∷ es) ≡ [] = none e.number (λ same. true≢false (sym (eq-eqb e.number r same) ∙ isnt)) in
        let x : e ∷ under e.number es ≡ [] = sym (here e.number e es (eq-eqb e.number e.number refl)) ∙ gone in cc)
