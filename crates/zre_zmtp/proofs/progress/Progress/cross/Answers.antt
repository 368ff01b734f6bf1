use Rattle.std.proofs.Common.{◌≡◌, ℕ, ◌+◌, ◌++◌, List, [], ◌∷◌, length, Some, sym, ap, subst, ◌∙◌, arith}
use Rattle.std.specs.Prelude.{sum_by}
use Rattle.std.proofs.lemmas.List.{length-append}
use Rattle.std.proofs.lemmas.List.Sums.{sum_by-cons}
use Rattle.zre_zmtp.specs.declared.across.Next.{Next}
use Rattle.zre_zmtp.specs.declared.bodies.LentBodies.{LentBodies}
use Rattle.zre_zmtp.specs.declared.across.Next.TheVariants as next
use Rattle.zre_zmtp.specs.Across.{Follows}
use Rattle.zre_zmtp.specs.Shown.{before_of, left_of}
use Rattle.zre_zmtp.specs.Stream.{Before}
use Rattle.zre_zmtp.proofs.PiecesAcrossFrames.{nothing_crosses, part_crosses, last_crosses}
use Rattle.zre_zmtp.proofs.HeaderParts.{head_crosses, head_left}
use Rattle.zre_zmtp.proofs.FrameFaults.{left-nothing, left-frame}
use Rattle.zre_zmtp.proofs.FrontsOfPieces.{in_traffic}
use Rattle.zre_zmtp.proofs.UnfinishedFrames.{in_frames}
use Rattle.zre_zmtp.proofs.progress.Progress.cross.Goals as goal

pub returns-in-Last-clause-taken : goal.returns-in-Last-clause-taken
returns-in-Last-clause-taken g c =
    let p = c.args.self.now in
    let s = c.in-Last.second in
    let n = c.args.header_len in
    let e = c.in_ok-whole-in-Last.ensures in
    let whole = p.partial.body ++ c.args.front.now in
    let end = c.in-Some-end_of.end in
    let len : length p.partial.body + length c.args.front.now ≡ length whole = sym (length-append p.partial.body c.args.front.now) in
    let f : Follows (length whole) (next.Last s) = subst (λ (k : ℕ). Follows k (next.Last s)) len (subst (λ (x : Next). Follows (length p.partial.body + length c.args.front.now) x) c.in-Last.is c.requires.follows) in
    let at : end ≡ (p.place + (n + length whole)) + (length s.head.now + length s.body.now) =
    c.in-Some-end_of.ensures ∙ ap (λ (k : ℕ). k + (length s.head.now + length s.body.now)) (c.in-Some.ensures ∙ ap (λ (x : List ℕ). p.place + (n + length x)) e.body) in
    let l : LentBodies = record { first = c.in_ok-whole-in-Last.whole; second = Some s.body } in
    rw c.in-Last.is (last_crosses p _ _ n whole s l end f.0 f.1 f.2 (ap (λ (x : List ℕ). x ∷ s.body.now ∷ []) e.body) at
    (ap (λ x. let y : Before = record { expected = x; place = end; opened = p.opened; start = end } in y) c.requires.traffic ∙ ap (λ (x : List (List ℕ)). in_traffic end x end) c.requires.alone)
    (left-nothing p.expected p.greeting _ _ c.requires.traffic e.empty.0 e.empty.2))

pub returns-in-Nothing-clause-taken : goal.returns-in-Nothing-clause-taken
returns-in-Nothing-clause-taken g c =
    let p = c.args.self.now in
    let now = c.keep_first.new.self in
    let e = c.in_ok-keep_first-in-Nothing.ensures in
    rw c.in-Nothing.is (nothing_crosses p (before_of now) (left_of now) c.args.header_len (p.partial.body ++ c.args.front.now) e.before
    (left-nothing now.expected now.greeting now.partial.head now.partial.body (ap (λ (x : Before). x.expected) e.before) e.head e.body))

pub returns-in-Nothing-clause-looks : goal.returns-in-Nothing-clause-looks
returns-in-Nothing-clause-looks g c =
    let p = c.args.self.now in
    let now = c.keep_first.new.self in
    let e = c.in_ok-keep_first-in-Nothing.ensures in
    let whole = p.partial.body ++ c.args.front.now in
    let left : left_of now ≡ [] = left-nothing now.expected now.greeting now.partial.head now.partial.body (ap (λ (x : Before). x.expected) e.before) e.head e.body in
    let opened : sum_by length now.opened ≡ sum_by length (whole ∷ []) = ap (λ (x : Before). sum_by length x.opened) e.before in
    omega (arith, e.once, ap length left, opened, sum_by-cons length whole [], length-append p.partial.body c.args.front.now)

pub returns-clause-taken : goal.returns-clause-taken
returns-clause-taken g c =
    let p = c.args.self.now in
    let front = c.args.front.now in
    let whole = p.partial.body ++ front in
    let s = c.in-Part.second in
    let mid = c.keep_first-2.new.self in
    let part = c.begin.new.self in
    let e = c.in_ok-begin.ensures in
    let before = c.in_ok-keep_first.ensures.before in
    let f : Follows (length whole) (next.Part s) =
    subst (λ (k : ℕ). Follows k (next.Part s)) (sym (length-append p.partial.body front)) (subst (λ (x : Next). Follows (length p.partial.body + length front) x) c.in-Part.is c.requires.follows) in
    let kept = left-frame mid.expected mid.greeting part.head part.body (in_frames (before_of mid) (ap (λ (x : Before). x.expected) before)) ∙ ap (λ (x : List ℕ). x ++ part.body) e.head ∙ ap (λ (x : List ℕ). s.head.now ++ x) e.body in
    rw c.in-Part.is (part_crosses p _ _ c.args.header_len whole s f.0 f.1 before kept)

pub returns-in-Head-clause-taken : goal.returns-in-Head-clause-taken
returns-in-Head-clause-taken g c =
    let p = c.args.self.now in
    let o = c.in-Head.head.now in
    let mid = c.keep_first-in-Head.new.self in
    let before = c.in_ok-keep_first-in-Head.ensures.before in
    let f : Follows (length p.partial.body + length c.args.front.now) (next.Head c.in-Head.head) = subst (λ (x : Next). Follows (length p.partial.body + length c.args.front.now) x) c.in-Head.is c.requires.follows in
    rw c.in-Head.is (head_crosses p _ _ c.args.header_len (p.partial.body ++ c.args.front.now) o f.0 f.1 before
    (head_left mid c.begin_head.new.self o (ap (λ (x : Before). x.expected) before) c.begin_head.ensures.head c.begin_head.ensures.body))
