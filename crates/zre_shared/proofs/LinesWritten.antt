-- Lines of a table that are gathered and written, one after the other.
use Rattle.std.proofs.Common.{◌≡◌, ℕ, List, [], ◌∷◌, ◌++◌, Option, sym, ap, ◌∙◌, subst, append_assoc, append-nil}
use Rattle.zre_outside.specs.Told.{AppendsFront, WritesThrough}
use Rattle.zre_outside.proofs.GatheredText.{through_none, through_then, through_front, front_longer}
use Rattle.zre_shared.specs.Lines.{line, lines}
use Rattle.zre_shared.specs.declared.write.Write.{Write}

-- the lines of the writes before these came through, of all of them
pub record HasCome (g g' : List ℕ) (w w' : Option (List ℕ)) (all rest : List Write) : Type 0 where
  pub come : List ℕ
  pub through : WritesThrough g g' w w' come
  pub are_all : lines all ≡ come ++ lines rest

pub none_came : (g : List ℕ) (w : Option (List ℕ)) (all rest : List Write) → rest ≡ all → HasCome g g w w all rest
none_came g w all rest is = record { come = []; through = through_none g w; are_all = ap lines (sym is) }

pub one_came : (g g' g'' : List ℕ) (w w' w'' : Option (List ℕ)) (all left rest : List Write) (e : Write) → HasCome g g' w w' all left → left ≡ e ∷ rest → WritesThrough g' g'' w' w'' (line e) → HasCome g g'' w w'' all rest
one_came g g' g'' w w' w'' all left rest e h is k = record {
  come = h.come ++ line e;
  through = through_then g g' g'' w w' w'' h.come (line e) h.through k;
  are_all = h.are_all ∙ ap (λ ws. h.come ++ lines ws) is ∙ sym (append_assoc h.come (line e) (lines rest));
}

pub all_came : (g g' : List ℕ) (w w' : Option (List ℕ)) (all rest : List Write) → HasCome g g' w w' all rest → rest ≡ [] → WritesThrough g g' w w' (lines all)
all_came g g' w w' all rest h is = subst (WritesThrough g g' w w') (sym (h.are_all ∙ ap (λ ws. h.come ++ lines ws) is ∙ append-nil h.come)) h.through

-- a line was refused, with a front of it written
pub front_came : (g g' : List ℕ) (w w' w'' : Option (List ℕ)) (all left rest : List Write) (e : Write) → HasCome g g' w w' all left → left ≡ e ∷ rest → AppendsFront w' w'' (g' ++ line e) → AppendsFront w w'' (g ++ lines all)
front_came g g' w w' w'' all left rest e h is f =
    subst (λ t. AppendsFront w w'' (g ++ t)) (sym (h.are_all ∙ ap (λ ws. h.come ++ lines ws) is))
    (through_front g g' w w' w'' h.come (lines (e ∷ rest)) h.through
    (subst (AppendsFront w' w'') (append_assoc g' (line e) (lines rest)) (front_longer w' w'' (g' ++ line e) (lines rest) f)))
