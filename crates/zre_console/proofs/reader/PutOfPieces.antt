-- What is put of one piece, and of the end.
use Rattle.std.proofs.Common.{◌≡◌, ℕ, ◌<◌, true, false, List, [], ◌∷◌, ◌++◌, length, Option, refl, sym, ap, ◌∙◌, subst, append_assoc}
use Rattle.std.specs.Prelude.{Result, Ok, Err, OnOk, OnErr}
use Rattle.std.specs.List.{list_any}
use Rattle.std.proofs.lemmas.List.{append-nil}
use Rattle.zre_outside.specs.declared.entry.Command.{Command}
use Rattle.zre_outside.specs.declared.entry.Command.TheVariants.{Quit}
use Rattle.zre_capture.specs.Journal.{lines_in}
use Rattle.zre_actor.specs.declared.passes.CallerPass.{CallerPass}
use Rattle.zre_console.specs.lines.Orders.{is_quit, typed, before_quit, orders_from, ended_lines, Begins}
use Rattle.zre_console.specs.lines.Typing.{Typing, Typed, Adds, AddsFront}
use Rattle.zre_console.proofs.lines.OrdersUpToQuit.{quit-found, typed-begin, end-quits, last-quits, before-one}
use Rattle.zre_console.specs.declared.reader.ending.InputEnd.TheVariants as ends
use Rattle.zre_console.specs.declared.reader.reading.Next.{Next}
use Rattle.zre_console.specs.declared.reader.reading.Next.TheVariants as nexts
use Rattle.zre_console.specs.reader.Putting.{Puts, PutsQuit, PutsFront}
use Rattle.zre_console.specs.reader.Turning.{PutsTyped, PutsAsked, PutsPart, PutsShort, Took, Turned}
use Rattle.zre_console.proofs.reader.PutCommands.{puts-none, none-append, none-one}

-- ---- a piece

fed-front : {T E : Type 0} (A : Type 0) (r : Result T E) (o piece : List ℕ) (old new : List Command) → OnOk r (A × Adds o piece old new) → OnErr r (AddsFront o piece old new) → AddsFront o piece old new
fed-front A (Ok value) o piece old new p q = record {
  commands = p.1.commands;
  others = [];
  added = p.1.added;
  more = p.1.more ∙ ap (λ (cs : List Command). typed o ++ cs) (sym (append-nil p.1.commands));
}
fed-front A (Err e) o piece old new p q = q

regroup : (a front rest others : List Command) → a ++ ((front ++ rest) ++ others) ≡ (a ++ front) ++ (rest ++ others)
regroup a front rest others = ap (λ (l : List Command). a ++ l) (append_assoc front rest others) ∙ sym (append_assoc a front (rest ++ others))

-- commands that a piece finishes, split
split : (o piece : List ℕ) (commands front rest : List Command) → (f : AddsFront o piece [] commands) → commands ≡ front ++ rest → typed (o ++ piece) ≡ (typed o ++ front) ++ (rest ++ f.others)
split o piece commands front rest f e =
    f.more ∙ ap (λ (cs : List Command). typed o ++ (cs ++ f.others)) (sym f.added ∙ e) ∙ regroup (typed o) front rest f.others

-- a front of the commands that a piece finishes was put, after those that stood before
module _ {T E : Type 0} (A : Type 0) (r : Result T E) (o piece : List ℕ) (old commands : List Command) (ok : OnOk r (A × Adds o piece old commands)) (err : OnErr r (AddsFront o piece old commands)) (first : old ≡ [])
    (none : list_any is_quit (typed o) ≡ false) (a b : CallerPass) where
  f : AddsFront o piece [] commands
  f = subst (λ (l : List Command). AddsFront o piece l commands) first (fed-front A r o piece old commands ok err)

  -- it begins the orders
  part-begins : (front rest : List Command) → commands ≡ front ++ rest → list_any is_quit front ≡ false → Begins (typed o ++ front) (o ++ piece)
  part-begins front rest e plain = typed-begin (o ++ piece) (typed o ++ front) (rest ++ f.others) (split o piece commands front rest f e) (none-append (typed o) front none plain)

  pub took-quit : PutsQuit a b commands → (list_any is_quit (typed (o ++ piece)) ≡ true) × PutsAsked a b o (o ++ piece)
  took-quit (q, quits) =
      let plain = none-append (typed o) q.front none q.none in
      let found = quit-found (o ++ piece) (typed o ++ q.front) q.next (q.rest ++ f.others) (split o piece commands q.front (q.next ∷ q.rest) f q.parts) plain quits in
      (found.0, (q.front, q.puts, sym (ap before_quit found.1 ∙ before-one (typed o ++ q.front) q.next [] plain quits)))

  pub took-front : PutsFront a b commands → PutsShort a b o (o ++ piece)
  took-front q = (
    q.front,
    q.puts,
    part-begins q.front (q.next ∷ q.rest) q.parts q.none,
    (q.next, q.rest ++ f.others, split o piece commands q.front (q.next ∷ q.rest) f q.parts),
  )

  -- all of them were put
  pub took-some : Puts a b commands × (list_any is_quit commands ≡ false) → PutsPart a b o (o ++ piece)
  took-some (p, plain) = (
    commands,
    p,
    part-begins commands [] (sym (append-nil commands)) plain,
    (f.others, sym (split o piece commands commands [] f (sym (append-nil commands)))),
  )

pub took-all_of : (o piece : List ℕ) (t : Typing) (commands : List Command) (a b : CallerPass) → Typed (o ++ piece) t × Adds o piece [] commands → list_any is_quit (typed o) ≡ false → Puts a b commands
    → list_any is_quit commands ≡ false → Typed (o ++ piece) t × (list_any is_quit (typed (o ++ piece)) ≡ false) × PutsTyped a b o (o ++ piece)
took-all_of o piece t commands a b fed none p q =
    let e : typed (o ++ piece) ≡ typed o ++ commands = fed.1.more ∙ ap (λ (cs : List Command). typed o ++ cs) (sym fed.1.added) in
    (fed.0, ap (list_any is_quit) e ∙ none-append (typed o) commands none q, (commands, p, sym e))

-- a piece that was read is a turn
pub turned : (next : Next) (t : Typing) (o piece : List ℕ) (left : Option (List ℕ)) (a b : CallerPass) (read : Type 0) → 0 < length piece → Took next t o piece a b → Turned next t o piece left a b read
turned nexts.Go t o piece left a b read some took = (some, took)
turned nexts.Finish t o piece left a b read some took = absurd took
turned (nexts.End ends.Quit) t o piece left a b read some took = took
turned (nexts.End ends.Over) t o piece left a b read some took = took
turned (nexts.End ends.OutOfMemory) t o piece left a b read some took = took
turned (nexts.End ends.AtEnd) t o piece left a b read some took = absurd took
turned (nexts.End ends.ReadFault) t o piece left a b read some took = absurd took
turned (nexts.End ends.TooLong) t o piece left a b read some took = absurd took

-- ---- the end

abbrev pub ended : List ℕ → List Command
ended o = orders_from 1 (ended_lines (lines_in o))

-- the unfinished line is empty
pub end-none : (o : List ℕ) (a : CallerPass) → typed o ++ [] ≡ ended o → list_any is_quit (typed o) ≡ false → PutsAsked a a o o
end-none o a e none =
    let plain = none-append (typed o) [] none refl in
    ([], puts-none a, sym (ap before_quit (end-quits o (typed o ++ []) (sym e) plain) ∙ before-one (typed o ++ []) Quit [] plain refl))

-- or it was put
pub end-put : (o : List ℕ) (last : Command) (a b : CallerPass) → typed o ++ last ∷ [] ≡ ended o → list_any is_quit (typed o) ≡ false → is_quit last ≡ false → Puts a b (last ∷ []) → PutsAsked a b o o
end-put o last a b e none isnt p =
    let plain = none-append (typed o) (last ∷ []) none (none-one last isnt) in
    (last ∷ [], p, sym (ap before_quit (end-quits o (typed o ++ last ∷ []) (sym e) plain) ∙ before-one (typed o ++ last ∷ []) Quit [] plain refl))

-- or it is a quit
pub end-quit : (o : List ℕ) (last : Command) (a b : CallerPass) → typed o ++ last ∷ [] ≡ ended o → list_any is_quit (typed o) ≡ false → is_quit last ≡ true → Puts a b [] → PutsAsked a b o o
end-quit o last a b e none is p =
    ([], p, append-nil (typed o) ∙ sym (ap before_quit (last-quits o (typed o) last (sym e) none is) ∙ before-one (typed o) last [] none is))

-- nothing was put at the end
pub end-over : (o : List ℕ) (a b : CallerPass) → list_any is_quit (typed o) ≡ false → Puts a b [] → PutsPart a b o o
end-over o a b none p = (
  [],
  p,
  typed-begin o (typed o ++ []) [] (sym (append-nil (typed o)) ∙ sym (append-nil (typed o ++ []))) (none-append (typed o) [] none refl),
  ([], append-nil (typed o ++ []) ∙ append-nil (typed o)),
)

-- memory ran out at the end
pub end-memory : (o : List ℕ) (a : CallerPass) → list_any is_quit (typed o) ≡ false → PutsPart a a o o
end-memory o a none = end-over o a a none (puts-none a)
