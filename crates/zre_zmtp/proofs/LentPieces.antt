-- Pieces that a reader takes where they lie.
use Rattle.std.proofs.Common.{◌≡◌, ℕ, ◌++◌, false, List, [], ◌∷◌, length, take, sym, ap, subst, ◌∙◌, arith}
use Rattle.std.proofs.lemmas.List.{take_all}
use Rattle.zre_zmtp.specs.declared.bodies.Came.{Came}
use Rattle.zre_zmtp.specs.declared.bodies.Came.TheVariants as came
use Rattle.zre_zmtp.specs.declared.bodies.LentBodies.{LentBodies}
use Rattle.zre_zmtp.specs.declared.front.Front.{Front}
use Rattle.zre_zmtp.specs.declared.progress.Progress.{Progress}
use Rattle.zre_zmtp.specs.Front.{PassesOn, item_of}
use Rattle.zre_zmtp.specs.Lending.{given, Brings, BringsOn, TakesPiece, TakesOn}
use Rattle.zre_zmtp.specs.Reading.{Reading, Reads, Adds}
use Rattle.zre_zmtp.specs.Shown.{before_of, left_of, Waits, Advances}
use Rattle.zre_zmtp.specs.Stream.{Before}
use Rattle.zre_zmtp.proofs.ReadersFollowStreams.{fed, waits_reader}

-- a message that a piece is
pub passes_all : (was now : Reading) (f : Front) (l : LentBodies) (o : List ℕ) → l.first ≡ f.first → l.second ≡ f.second → PassesOn was now f o → f.len ≡ length o → TakesOn (came.Message l) was now o
passes_all was now f l o first second p all = λ want kind before reads.
    let k = p.front.read want kind before was reads p.rested in
    let whole : take f.len o ≡ o = take_all f.len o (omega (arith, all)) in
    let r : Reads want kind (before ++ o) now = subst (λ (x : List ℕ). Reads want kind (before ++ x) now) whole (subst (λ x. Reads want kind (before ++ take f.len o) x) (sym p.after) k.0) in
    let a : Adds want kind before o [] (item_of was f ∷ []) = subst (λ (x : List ℕ). Adds want kind before x [] (item_of was f ∷ [])) whole k.1 in
    (r, rw (p.after, first, second) a)

brought : (c : Came) (p q : Progress) (was now : Reading) (o : List ℕ) → before_of p ≡ was.before → left_of p ≡ was.left → before_of q ≡ now.before → left_of q ≡ now.left → now.spent ≡ false → now.wanted ≡ was.wanted
    → Brings c p q o → BringsOn c was now o
brought c p q was now o b l b' l' unspent wants brings = λ want kind before reads.
    let w : Waits was.wanted (before_of p) (left_of p) =
    subst (λ (x : List ℕ). Waits was.wanted (before_of p) x) (sym l) (subst (λ x. Waits was.wanted x was.left) (sym b) (waits_reader want kind before was reads)) in
    let a = brings was.wanted [] w in
    let v = was.wanted in
    let a1 : Advances v (before_of p) (left_of p ++ o) [] (given c p.start now.before.place) now.before (left_of q) = subst (λ (x : Before). Advances v (before_of p) (left_of p ++ o) [] (given c p.start x.place) x (left_of q)) b' a in
    let a2 : Advances v (before_of p) (left_of p ++ o) [] (given c p.start now.before.place) now.before now.left = subst (λ (x : List ℕ). Advances v (before_of p) (left_of p ++ o) [] (given c p.start now.before.place) now.before x) l' a1 in
    let a3 : Advances v (before_of p) (was.left ++ o) [] (given c p.start now.before.place) now.before now.left = subst (λ (x : List ℕ). Advances v (before_of p) (x ++ o) [] (given c p.start now.before.place) now.before now.left) l a2 in
    let a4 : Advances v was.before (was.left ++ o) [] (given c was.before.start now.before.place) now.before now.left = subst (λ (x : Before). Advances v x (was.left ++ o) [] (given c x.start now.before.place) now.before now.left) b a3 in
    fed want kind before o was now [] _ reads a4 unspent wants

pub taken_on : (c : Came) (p q : Progress) (was now : Reading) (o : List ℕ) → before_of p ≡ was.before → left_of p ≡ was.left → before_of q ≡ now.before → left_of q ≡ now.left → now.spent ≡ false → now.wanted ≡ was.wanted
    → was ≡ record { before = before_of p; left = left_of p; spent = now.spent; wanted = now.wanted } → now ≡ record { before = before_of q; left = left_of q; spent = now.spent; wanted = now.wanted }
    → TakesPiece c p q o → TakesOn c was now o
taken_on (came.Message l) p q was now o b l1 b' l2 unspent wants e f t = brought (came.Message l) p q was now o b l1 b' l2 unspent wants t
taken_on came.Part p q was now o b l1 b' l2 unspent wants e f t = brought came.Part p q was now o b l1 b' l2 unspent wants t
taken_on came.Other p q was now o b l1 b' l2 unspent wants e f t =
    f ∙ ap (λ (x : Progress). let y : Reading = record { before = before_of x; left = left_of x; spent = now.spent; wanted = now.wanted } in y) t ∙ sym e
