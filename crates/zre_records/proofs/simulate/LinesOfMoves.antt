-- The lines of what the nodes tell, move by move.
use Rattle.std.proofs.Common.{◌≡◌, ℕ, List, [], ◌∷◌, ◌++◌, Option, sym, ap, ◌∙◌, subst, append_assoc}
use Rattle.zre_outside.specs.Told.{AppendsFront, WritesThrough}
use Rattle.zre_outside.proofs.GatheredText.{front_none, front_longer, through_then, through_front}
use Rattle.zre_net.specs.declared.moves.Move.{Move}
use Rattle.zre_net.specs.Comes.{history}
use Rattle.zre_net.specs.Said.{said, told_by}
use Rattle.zre_net.proofs.HandedOutEvents.{said_on, said_front}
use Rattle.zre_peer.specs.declared.event.Event.{Event}
use Rattle.zre_records.specs.simulate.Simulate.{told_lines}
use Rattle.zre_records.proofs.simulate.GatheredLines.{lines-both}

-- the lines of what was told of the first moves came through
abbrev pub CameOf : (g g' : List ℕ) (w w' : Option (List ℕ)) (moves : List Move) → Type 0
CameOf g g' w w' moves = WritesThrough g g' w w' (told_lines (said moves))

lines_on : (ys : List Move) (m : Move) (told : List (ℕ × Event)) → told ≡ told_by m (history ys) → told_lines (said ys) ++ told_lines told ≡ told_lines (said (ys ++ m ∷ []))
lines_on ys m told e = sym (lines-both (said ys) told) ∙ ap (λ es. told_lines (said ys ++ es)) e ∙ ap told_lines (sym (said_on ys m))

pub came_on : (g g' g'' : List ℕ) (w w' w'' : Option (List ℕ)) (ys : List Move) (m : Move) (told : List (ℕ × Event)) → told ≡ told_by m (history ys) → CameOf g g' w w' ys → WritesThrough g' g'' w' w'' (told_lines told) → CameOf g g'' w w'' (ys ++ m ∷ [])
came_on g g' g'' w w' w'' ys m told e h t = subst (WritesThrough g g'' w w'') (lines_on ys m told e) (through_then g g' g'' w w' w'' (told_lines (said ys)) (told_lines told) h t)

lines_front : (moves ys zs : List Move) → moves ≡ ys ++ zs → (more : List ℕ) × (told_lines (said ys) ++ more ≡ told_lines (said moves))
lines_front moves ys zs is =
    let r = said_front ys zs in
    (told_lines r.0, sym (lines-both (said ys) r.0) ∙ ap told_lines (sym r.1) ∙ ap (λ ms. told_lines (said ms)) (sym is))

-- nothing more was written
pub front_of : (g g' : List ℕ) (w w' : Option (List ℕ)) (moves ys zs : List Move) → moves ≡ ys ++ zs → CameOf g g' w w' ys → AppendsFront w w' (g ++ told_lines (said moves))
front_of g g' w w' moves ys zs is h =
    let f = lines_front moves ys zs is in
    subst (λ t. AppendsFront w w' (g ++ t)) f.1 (through_front g g' w w' w' (told_lines (said ys)) f.0 h (front_none w' (g' ++ f.0)))

-- a front of what one move told was
pub front_on : (g g' : List ℕ) (w w' w'' : Option (List ℕ)) (moves ys zs : List Move) (m : Move) (told : List (ℕ × Event)) → moves ≡ ys ++ m ∷ zs → told ≡ told_by m (history ys) → CameOf g g' w w' ys → AppendsFront w' w'' (g' ++ told_lines told) → AppendsFront w w'' (g ++ told_lines (said moves))
front_on g g' w w' w'' moves ys zs m told is e h t =
    let f = lines_front moves (ys ++ m ∷ []) zs (is ∙ sym (append_assoc ys (m ∷ []) zs)) in
    let longer : AppendsFront w' w'' (g' ++ (told_lines told ++ f.0)) = subst (AppendsFront w' w'') (append_assoc g' (told_lines told) f.0) (front_longer w' w'' (g' ++ told_lines told) f.0 t) in
    subst (λ q. AppendsFront w w'' (g ++ q)) (sym (append_assoc (told_lines (said ys)) (told_lines told) f.0) ∙ ap (λ q. q ++ f.0) (lines_on ys m told e) ∙ f.1)
    (through_front g g' w w' w'' (told_lines (said ys)) (told_lines told ++ f.0) h longer)
