-- The lines of what the nodes tell, gathered and written one after the other.
use Rattle.std.proofs.Common.{◌≡◌, ℕ, ◌+◌, ◌<◌, ◌≤◌, List, [], ◌∷◌, ◌++◌, length, take, drop, Option, refl, sym, ap, ◌∙◌, subst, append_assoc, append-nil, take_all}
use Rattle.std.specs.Prelude.{get_or}
use Rattle.std.proofs.lemmas.List.{take_more, take-append-drop}
use Rattle.zre_outside.specs.Told.{AppendsFront, WritesThrough}
use Rattle.zre_outside.proofs.GatheredText.{front_none, front_longer, through_none, through_more, through_then, through_front, gathers_much}
use Rattle.zre_peer.specs.declared.event.Event.{Event}
use Rattle.zre_records.specs.simulate.Simulate.{told_line, told_lines}

pub lines-both : (xs ys : List (ℕ × Event)) → told_lines (xs ++ ys) ≡ told_lines xs ++ told_lines ys
lines-both [] ys = refl
lines-both (x ∷ xs) ys = ap (λ zs. told_line x ++ zs) (lines-both xs ys) ∙ sym (append_assoc (told_line x) (told_lines xs) (told_lines ys))

told_next : (told : List (ℕ × Event)) (i : ℕ) (e : ℕ × Event) → i < length told → e ≡ get_or told i e → told_lines (take i told) ++ told_line e ≡ told_lines (take (i + 1) told)
told_next told i e lt is =
    ap (λ ws. told_lines (take i told) ++ ws) (sym (append-nil (told_line e))) ∙ sym (lines-both (take i told) (e ∷ []))
    ∙ ap told_lines (sym (take_more told i e lt ∙ ap (λ x. take i told ++ x ∷ []) (sym is)))

told_split : (told : List (ℕ × Event)) (i : ℕ) → told_lines (take i told) ++ told_lines (drop i told) ≡ told_lines told
told_split told i = sym (lines-both (take i told) (drop i told)) ∙ ap told_lines (take-append-drop i told)

-- the lines of the first events came through
abbrev pub Came : (g g' : List ℕ) (w w' : Option (List ℕ)) (told : List (ℕ × Event)) (i : ℕ) → Type 0
Came g g' w w' told i = WritesThrough g g' w w' (told_lines (take i told))

pub none_came : (g : List ℕ) (w : Option (List ℕ)) (told : List (ℕ × Event)) → Came g g w w told 0
none_came g w told = through_none g w

pub one_came : (g g' g'' next : List ℕ) (w w' w'' : Option (List ℕ)) (told : List (ℕ × Event)) (i : ℕ) (e : ℕ × Event) → i < length told → e ≡ get_or told i e → Came g g' w w' told i
    → next ≡ g' ++ told_line e → WritesThrough next g'' w' w'' [] → Came g g'' w w'' told (i + 1)
one_came g g' g'' next w w' w'' told i e lt is h more much =
    subst (WritesThrough g g'' w w'') (told_next told i e lt is)
    (through_then g g' g'' w w' w'' (told_lines (take i told)) (told_line e) h (gathers_much g' next g'' w' w'' (told_line e) more much))

pub all_came : (g g' : List ℕ) (w w' : Option (List ℕ)) (told : List (ℕ × Event)) (i : ℕ) → length told ≤ i → Came g g' w w' told i → WritesThrough g g' w w' (told_lines told)
all_came g g' w w' told i all h = subst (λ es. WritesThrough g g' w w' (told_lines es)) (take_all i told all) h

-- no memory was left for a line
pub front_came : (g g' : List ℕ) (w w' : Option (List ℕ)) (told : List (ℕ × Event)) (i : ℕ) → Came g g' w w' told i → AppendsFront w w' (g ++ told_lines told)
front_came g g' w w' told i h =
    subst (λ t. AppendsFront w w' (g ++ t)) (told_split told i)
    (through_front g g' w w' w' (told_lines (take i told)) (told_lines (drop i told)) h (front_none w' (g' ++ told_lines (drop i told))))

-- what was gathered with a line was refused
pub front_with : (g g' next : List ℕ) (w w' w'' : Option (List ℕ)) (told : List (ℕ × Event)) (i : ℕ) (e : ℕ × Event) → i < length told → e ≡ get_or told i e → Came g g' w w' told i
    → next ≡ g' ++ told_line e → AppendsFront w' w'' next → AppendsFront w w'' (g ++ told_lines told)
front_with g g' next w w' w'' told i e lt is h more f =
    let rest = told_lines (drop (i + 1) told) in
    subst (λ t. AppendsFront w w'' (g ++ t)) (ap (λ t. t ++ rest) (told_next told i e lt is) ∙ told_split told (i + 1))
    (through_front g next w w' w'' (told_lines (take i told) ++ told_line e) rest (through_more g g' next w w' (told_lines (take i told)) (told_line e) h more) (front_longer w' w'' next rest f))
