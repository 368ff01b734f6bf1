-- The numbers under which all callers put.
use Rattle.std.proofs.Common.{◌≡◌, ◌≢◌, ℕ, ◌+◌, ◌≤◌, List, [], ◌∷◌, ◌++◌, length, ap, ◌∙◌, arith, length-append}
use Rattle.std.proofs.lemmas.List.{map-append, length-map}
use Rattle.zre_actor.specs.declared.passes.CallerPass.{CallerPass}
use Rattle.zre_actor.specs.Commands.{times, row}
use Rattle.zre_actor.specs.Passes.{number, numbers_of}
use Rattle.zre_actor.proofs.ConsecutiveNumbers.{length_row, row_once}
use Rattle.zre_actor.proofs.SumsOverPasses.{times-append, is_first, other_number}
use Rattle.zre_console.specs.declared.table.Table.{Table}
use Rattle.zre_console.specs.Tables.{HasMore}

-- none stands twice
pub laid_apart : (f : List CallerPass) (a c : CallerPass) (k : ℕ) → numbers_of ((f ++ a ∷ []) ++ c ∷ []) ≡ row 1 k → (n : ℕ) → times n (number c ∷ number a ∷ numbers_of f) ≤ 1
laid_apart f a c k are n =
    let most : times n (row 1 k) ≤ 1 = (row_once k n).0 in
    let all : times n (numbers_of ((f ++ a ∷ []) ++ c ∷ [])) ≡ times n (row 1 k) = ap (times n) are in
    let one : times n (numbers_of ((f ++ a ∷ []) ++ c ∷ [])) ≡ times n (numbers_of (f ++ a ∷ [])) + times n (number c ∷ []) =
    ap (times n) (map-append number (f ++ a ∷ []) (c ∷ [])) ∙ times-append n (numbers_of (f ++ a ∷ [])) (number c ∷ []) in
    let two : times n (numbers_of (f ++ a ∷ [])) ≡ times n (numbers_of f) + times n (number a ∷ []) = ap (times n) (map-append number f (a ∷ [])) ∙ times-append n (numbers_of f) (number a ∷ []) in
    omega (arith, most, all, one, two)

-- two are of who puts last and of who asks the node to stop
pub laid_many : (f : List CallerPass) (a c : CallerPass) (k : ℕ) → numbers_of ((f ++ a ∷ []) ++ c ∷ []) ≡ row 1 (k + 2) → length f ≡ k
laid_many f a c k are =
    let long : length (numbers_of ((f ++ a ∷ []) ++ c ∷ [])) ≡ length (row 1 (k + 2)) = ap length are in
    omega (arith, long, length_row 1 (k + 2), length-map ((f ++ a ∷ []) ++ c ∷ []) number, length-append (f ++ a ∷ []) (c ∷ []), length-append f (a ∷ []))

-- these two put under two numbers
pub two_apart : (more : ℕ) (t : Table) → HasMore more t → number t.others.last.pass ≢ number t.others.printer.asker
two_apart more t h = let asker = number t.others.printer.asker in let rest = numbers_of t.others.callers.fresh.items in
    other_number (number t.others.last.pass) asker (asker ∷ rest) (h.apart asker) (let e = is_first asker rest in omega (arith, e))
