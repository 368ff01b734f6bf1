-- Moves, one after the other.
use Rattle.std.proofs.Common.{◌≡◌, ℕ, ◌+◌, Bool, true, false, cond, ◌&&◌, List, [], ◌∷◌, ◌++◌, length, Option, Some, None, refl, sym, ap, ◌∙◌, subst, arith, true≢false, append-nil, append_assoc}
use Rattle.zre_net.specs.declared.moves.Move.{Move}
use Rattle.zre_net.specs.declared.running.network.Network.{Network}
use Rattle.zre_net.specs.Answer.{bad_move, bad_move_after}
use Rattle.zre_net.specs.Comes.{with_move, history, history_after}
use Rattle.zre_net.specs.Grammar.{has_room, is_good}
use Rattle.zre_net.specs.History.{Happening}
use Rattle.zre_net.specs.Reading.{IsNext}
use Rattle.zre_net.specs.Running.{StandsAfter, IsPlayed, IsTaken, HasRun, Goes}

-- a move that may come is within the grammar where there is room
pub taken : (m : Move) (H : List Happening) (may room : Bool) (net : Network) → IsPlayed m H may net → (StandsAfter (with_move m H) net → room ≡ has_room (with_move m H)) → IsTaken m H (may && room) net
taken m H true room net p r = record { fits = r (p.stands refl) ∙ ap (λ b. b && has_room (with_move m H)) p.fits; stands = λ z. p.stands refl }
taken m H false room net p r = record { fits = ap (λ b. b && has_room (with_move m H)) p.fits; stands = λ z. absurd (true≢false (sym z)) }

pub history_more : (ys : List Move) (m : Move) (H : List Happening) → history_after (ys ++ m ∷ []) H ≡ with_move m (history_after ys H)
history_more [] m H = refl
history_more (y ∷ ys) m H = history_more ys m (with_move y H)

later_bad : (n : ℕ) (ys zs : List Move) (H : List Happening) → bad_move_after n ys H ≡ None → bad_move_after n (ys ++ zs) H ≡ bad_move_after (n + length ys) zs (history_after ys H)
later_bad n [] zs H e = let z : n ≡ n + 0 = omega arith in ap (λ k. bad_move_after k zs H) z
later_bad n (m ∷ ys) zs H e = by (is_good m H) e (λ z. later_bad (n + 1) ys zs (with_move m H) z)
  where
    by : (b : Bool) → cond b (bad_move_after (n + 1) ys (with_move m H)) (Some n) ≡ None → (bad_move_after (n + 1) ys (with_move m H) ≡ None → bad_move_after (n + 1) (ys ++ zs) (with_move m H) ≡ bad_move_after (n + 1 + length ys) zs (history_after ys (with_move m H))) → cond b (bad_move_after (n + 1) (ys ++ zs) (with_move m H)) (Some n) ≡ bad_move_after (n + length (m ∷ ys)) zs (history_after ys (with_move m H))
    by true z f = f z ∙ (let q : n + 1 + length ys ≡ n + length (m ∷ ys) = omega arith in ap (λ k. bad_move_after k zs (history_after ys (with_move m H))) q)
    by false z f = absurd cc

pub bad_at : (line : ℕ) (ys zs : List Move) → bad_move ys ≡ None → line ≡ 2 + length ys → bad_move (ys ++ zs) ≡ bad_move_after line zs (history ys)
bad_at line ys zs e l = later_bad 2 ys zs [] e ∙ ap (λ k. bad_move_after k zs (history ys)) (sym l)

pub goes_first : (net : Network) → HasRun [] net → Goes [] 2 net
goes_first net s = record { runs = s; line_is = refl }

pub goes_on : (ys : List Move) (m : Move) (line : ℕ) (net new : Network) → Goes ys line net → HasRun (ys ++ m ∷ []) new → Goes (ys ++ m ∷ []) (line + 1) new
goes_on ys m line net new g h = record { runs = h; line_is = let l = g.line_is in let n = longer ys in omega (arith, l, n) }
  where
    longer : (xs : List Move) → length (xs ++ m ∷ []) ≡ length xs + 1
    longer [] = refl
    longer (x ∷ xs) = let r = longer xs in omega (arith, r)

pub stops_at : (ys zs : List Move) (m : Move) (line : ℕ) (net : Network) → Goes ys line net → false ≡ is_good m (history ys) → bad_move (ys ++ m ∷ zs) ≡ Some line
stops_at ys zs m line net g bad = bad_at line ys (m ∷ zs) g.runs.all_good g.line_is ∙ ap (λ b. cond b (bad_move_after (line + 1) zs (with_move m (history ys))) (Some line)) (sym bad)

-- ---- moves that are read one by one

-- of these moves some have come, of which Is holds, and these are left
pub record Partly (moves left : List Move) (Is : List Move → Type 0) : Type 0 where
  pub came : List Move
  pub is : Is came
  pub all : moves ≡ came ++ left

pub none_came : (moves : List Move) (Is : List Move → Type 0) → Is [] → Partly moves moves Is
none_came moves Is is = record { came = []; is = is; all = refl }

pub with_next : (moves left after : List Move) (Is : List Move → Type 0) (o : Option Move) (m : Move) (p : Partly moves left Is) → IsNext o left after → o ≡ Some m → moves ≡ p.came ++ m ∷ after
with_next moves left after Is o m p next is = p.all ∙ ap (λ ms. p.came ++ ms) (subst (λ found. IsNext found left after) is next)

pub one_came : (moves left after : List Move) (Is Js : List Move → Type 0) (o : Option Move) (m : Move) (p : Partly moves left Is) → IsNext o left after → o ≡ Some m → Js (p.came ++ m ∷ []) → Partly moves after Js
one_came moves left after Is Js o m p next is now = record {
  came = p.came ++ m ∷ [];
  is = now;
  all = with_next moves left after Is o m p next is ∙ sym (append_assoc p.came (m ∷ []) after);
}

pub all_came : (moves left after : List Move) (Is : List Move → Type 0) (o : Option Move) → Partly moves left Is → IsNext o left after → o ≡ None → Is moves
all_came moves left after Is o p next none =
    let ended = subst (λ found. IsNext found left after) none next in
    subst Is (sym (append-nil p.came) ∙ ap (λ ms. p.came ++ ms) (sym ended.0) ∙ sym p.all) p.is

-- ---- moves that are read and run one by one, and what is kept of them

module _ (moves left after : List Move) (Kept : List Move → Type 0) (line : ℕ) (net : Network) (o : Option Move) (m : Move)
    (p : Partly moves left (λ came. Goes came line net × Kept came)) (next : IsNext o left after) (is : o ≡ Some m) where
  -- the next one can't come
  pub next_stops : false ≡ is_good m (history p.came) → bad_move moves ≡ Some line
  next_stops bad = ap bad_move (with_next moves left after (λ came. Goes came line net × Kept came) o m p next is) ∙ stops_at p.came after m line net p.is.0 bad

  -- it came
  pub next_comes : (Kept' : List Move → Type 0) (line' : ℕ) (net' : Network) → line' ≡ line + 1 → HasRun (p.came ++ m ∷ []) net' → Kept' (p.came ++ m ∷ [])
      → Partly moves after (λ came. Goes came line' net' × Kept' came)
  next_comes Kept' line' net' more runs kept = one_came moves left after (λ came. Goes came line net × Kept came) (λ came. Goes came line' net' × Kept' came) o m p next is
      (subst (λ (n : ℕ). Goes (p.came ++ m ∷ []) n net') (sym more) (goes_on p.came m line net net' p.is.0 runs), kept)
