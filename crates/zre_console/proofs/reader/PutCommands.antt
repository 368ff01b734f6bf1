-- What is put with a pass, one command after the other.
use Rattle.std.proofs.Common.{◌≡◌, ℕ, Bool, true, false, List, [], ◌∷◌, ◌++◌, length, map, refl, sym, ap, ◌∙◌, append_assoc, arith}
use Rattle.std.specs.Prelude.{◌||◌}
use Rattle.std.specs.List.{list_any}
use Rattle.std.proofs.lemmas.List.{append-nil, map-append}
use Rattle.std.proofs.lemmas.List.Folds.{list_any-append}
use Rattle.zre_outside.specs.declared.entry.Command.{Command}
use Rattle.zre_actor.specs.declared.passes.CallerPass.{CallerPass}
use Rattle.zre_actor.specs.Commands.{placed}
use Rattle.zre_actor.specs.Passes.{number, ended, put_by}
use Rattle.zre_actor.specs.declared.views.Placed.{Placed}
use Rattle.zre_console.specs.lines.Orders.{is_quit}
use Rattle.zre_console.specs.reader.Putting.{Puts, PutsQuit, PutsFront}

pub puts-none : (a : CallerPass) → Puts a a []
puts-none a = record { same_number = refl; same_ended = refl; put = sym (append-nil (put_by a)) }

pub puts-then : (a b c : CallerPass) (xs ys : List Command) → Puts a b xs → Puts b c ys → Puts a c (xs ++ ys)
puts-then a b c xs ys p q =
    let f : Command → Placed = placed (number a) (ended a) in
    let same : placed (number b) (ended b) ≡ f = ap (λ (n : ℕ). placed n (ended b)) p.same_number ∙ ap (placed (number a)) p.same_ended in
    record {
      same_number = q.same_number ∙ p.same_number;
      same_ended = q.same_ended ∙ p.same_ended;
      put = q.put ∙ ap (λ (g : Command → Placed). put_by b ++ map g ys) same
          ∙ ap (λ (l : List Placed). l ++ map f ys) p.put
          ∙ append_assoc (put_by a) (map f xs) (map f ys)
          ∙ ap (λ (l : List Placed). put_by a ++ l) (sym (map-append f xs ys));
    }

-- a put that came through, after tries that didn't
pub puts-one : (a b c : CallerPass) (command : Command) → Puts a b [] → number c ≡ number b → ended c ≡ ended b
    → put_by c ≡ put_by b ++ placed (number b) (ended b) command ∷ [] → Puts a c (command ∷ [])
puts-one a b c command p n e put = puts-then a b c [] (command ∷ []) p (record { same_number = n; same_ended = e; put = put })

-- one more that didn't
pub puts-back : (a b c : CallerPass) → Puts a b [] → number c ≡ number b → ended c ≡ ended b → put_by c ≡ put_by b → Puts a c []
puts-back a b c p n e put = puts-then a b c [] [] p (record { same_number = n; same_ended = e; put = put ∙ sym (append-nil (put_by b)) })

or-false : (x y : Bool) → x ≡ false → y ≡ false → (x || y) ≡ false
or-false true y e f = e
or-false false y e f = f

pub none-append : (xs ys : List Command) → list_any is_quit xs ≡ false → list_any is_quit ys ≡ false → list_any is_quit (xs ++ ys) ≡ false
none-append xs ys e f = list_any-append is_quit xs ys ∙ or-false (list_any is_quit xs) (list_any is_quit ys) e f

pub none-one : (c : Command) → is_quit c ≡ false → list_any is_quit (c ∷ []) ≡ false
none-one c e = or-false (is_quit c) false e refl

-- nothing was put after these, though there are more
pub put-front : (a b c : CallerPass) (all front rest : List Command) (next : Command) → all ≡ front ++ (next ∷ rest) → list_any is_quit front ≡ false → Puts a b front → Puts b c [] → PutsFront a c all
put-front a b c all front rest next e none p q = record {
  front = front;
  next = next;
  rest = rest;
  parts = e;
  none = none;
  puts = let all_put : Puts a c (front ++ []) = puts-then a b c front [] p q in rw (append-nil front) at all_put;
}

-- for the next is a quit, which isn't put
pub put-quit : (a b c : CallerPass) (all front rest : List Command) (last : Command) → all ≡ front ++ (last ∷ rest) → list_any is_quit front ≡ false
    → Puts a b front → Puts b c [] → is_quit last ≡ true → PutsQuit a c all
unfolding put-front
put-quit a b c all front rest last e none p q is = (put-front a b c all front rest last e none p q, is)

pub took-all : (given taken left : List Command) (n : ℕ) → given ≡ taken ++ left → n ≡ length left → n ≡ 0 → taken ≡ given
took-all given taken [] n is long none = sym (append-nil taken) ∙ sym is
took-all given taken (c ∷ cs) n is long none = absurd (omega arith)
