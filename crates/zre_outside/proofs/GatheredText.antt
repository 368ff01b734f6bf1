-- Text that is gathered and written, step by step.
use Rattle.std.proofs.Common.{◌≡◌, ℕ, List, [], ◌++◌, Option, refl, sym, ap, ◌∙◌, subst, append_assoc, append-nil}
use Rattle.std.specs.Io.KnownBytes.{Appends}
use Rattle.std.proofs.KnownBytes.{Appends-nil, Appends-trans}
use Rattle.zre_outside.specs.Told.{AppendsFront, WritesThrough}

-- ---- a front

pub front_none : (w : Option (List ℕ)) (t : List ℕ) → AppendsFront w w t
front_none w t = ([], t, refl, Appends-nil w)

pub front_after : (a b c : Option (List ℕ)) (x y : List ℕ) → Appends a b x → AppendsFront b c y → AppendsFront a c (x ++ y)
front_after a b c x y p q = (x ++ q.0, q.1, ap (λ r. x ++ r) q.2 ∙ sym (append_assoc x q.0 q.1), Appends-trans a b c x q.0 p q.3)

pub front_longer : (a c : Option (List ℕ)) (x z : List ℕ) → AppendsFront a c x → AppendsFront a c (x ++ z)
front_longer a c x z q = (q.0, q.1 ++ z, ap (λ r. r ++ z) q.2 ∙ append_assoc q.0 q.1 z, q.3)

-- ---- what is gathered

-- no text came, and nothing was written
pub through_none : (g : List ℕ) (w : Option (List ℕ)) → WritesThrough g g w w []
through_none g w = record { front = []; are_all = append-nil g; is_written = Appends-nil w }

-- all was written
pub through_all : (g g' : List ℕ) (w w' : Option (List ℕ)) → g' ≡ [] → Appends w w' g → WritesThrough g g' w w' []
through_all g g' w w' empty p = record { front = g; are_all = ap (λ r. g ++ r) (sym empty); is_written = p }

-- text more was gathered
pub through_more : (g g' g'' : List ℕ) (w w' : Option (List ℕ)) (t u : List ℕ) → WritesThrough g g' w w' t → g'' ≡ g' ++ u → WritesThrough g g'' w w' (t ++ u)
through_more g g' g'' w w' t u h more = record {
  front = h.front;
  are_all = sym (append_assoc g t u) ∙ ap (λ r. r ++ u) h.are_all ∙ append_assoc h.front g' u ∙ ap (λ r. h.front ++ r) (sym more);
  is_written = h.is_written;
}

-- text was gathered, and nothing written
pub gathers : (g g' : List ℕ) (w : Option (List ℕ)) (t : List ℕ) → g' ≡ g ++ t → WritesThrough g g' w w t
gathers g g' w t more = through_more g g g' w w [] t (through_none g w) more

-- and then text came through
pub through_then : (g g' g'' : List ℕ) (w w' w'' : Option (List ℕ)) (t u : List ℕ) → WritesThrough g g' w w' t → WritesThrough g' g'' w' w'' u → WritesThrough g g'' w w'' (t ++ u)
through_then g g' g'' w w' w'' t u h k = record {
  front = h.front ++ k.front;
  are_all = sym (append_assoc g t u) ∙ ap (λ r. r ++ u) h.are_all ∙ append_assoc h.front g' u ∙ ap (λ r. h.front ++ r) k.are_all ∙ sym (append_assoc h.front k.front g'');
  is_written = Appends-trans w w' w'' h.front k.front h.is_written k.is_written;
}

-- text was gathered, and then what was gathered written, where it was much
pub gathers_much : (g g' g'' : List ℕ) (w w' : Option (List ℕ)) (t : List ℕ) → g' ≡ g ++ t → WritesThrough g' g'' w w' [] → WritesThrough g g'' w w' t
gathers_much g g' g'' w w' t more k = record { front = k.front; are_all = sym more ∙ sym (append-nil g') ∙ k.are_all; is_written = k.is_written }

-- what was gathered was refused, with a front of it written
pub through_end : (g g' : List ℕ) (w w' w'' : Option (List ℕ)) (t : List ℕ) → WritesThrough g g' w w' t → AppendsFront w' w'' g' → AppendsFront w w'' (g ++ t)
through_end g g' w w' w'' t h f = subst (AppendsFront w w'') (sym h.are_all) (front_after w w' w'' h.front g' h.is_written f)

-- what came next was
pub through_front : (g g' : List ℕ) (w w' w'' : Option (List ℕ)) (t u : List ℕ) → WritesThrough g g' w w' t → AppendsFront w' w'' (g' ++ u) → AppendsFront w w'' (g ++ (t ++ u))
through_front g g' w w' w'' t u h f = through_end g (g' ++ u) w w' w'' (t ++ u) (through_more g g' (g' ++ u) w w' t u h refl) f

-- what was gathered from nothing was written at last
pub through_last : (g' : List ℕ) (w w' w'' : Option (List ℕ)) (t : List ℕ) → WritesThrough [] g' w w' t → Appends w' w'' g' → Appends w w'' t
through_last g' w w' w'' t h p = subst (Appends w w'') (sym h.are_all) (Appends-trans w w' w'' h.front g' h.is_written p)
