-- Fronts of commands, and the quit at their end.
use Rattle.std.proofs.Common.{◌≡◌, Bool, true, false, true≢false, cond, List, [], ◌∷◌, ◌++◌, map, refl, sym, ap, ◌∙◌, subst, append_assoc, append-nil}
use Rattle.std.specs.Prelude.{◌||◌, ◌⊎◌, ℕ}
use Rattle.std.specs.List.{list_any}
use Rattle.std.proofs.lemmas.List.{map-append}
use Rattle.std.proofs.lemmas.List.Folds.{list_any-append}
use mathlib.Core.Logic.{inl, inr}
use mathlib.Core.List.{IsPrefix}
use Rattle.zre_outside.specs.declared.entry.Command.{Command}
use Rattle.zre_outside.specs.declared.entry.Command.TheVariants.{Join, Leave, Whisper, Shout, Bad, Quit}
use Rattle.zre_actor.specs.Work.{QuitsLast}
use Rattle.zre_console.specs.lines.Orders.{is_quit, through_quit, typed, orders, asked, Begins}
use Rattle.zre_console.specs.reader.Putting.{IsShort, IsClose}
use Rattle.zre_console.specs.reader.Reading.{BreaksOff, CutsOff, IsReadOn}
use Rattle.zre_console.proofs.lines.OrdersUpToQuit.{typed-begin, asked-quits, asked-begins, asked-typed, quit-short}

pub prefix_self : {X : Type 0} (xs : List X) → IsPrefix xs xs
prefix_self xs = ([], append-nil xs)

pub prefix_trans : {X : Type 0} (xs ys zs : List X) → IsPrefix xs ys → IsPrefix ys zs → IsPrefix xs zs
prefix_trans xs ys zs p q = (p.0 ++ q.0, sym (append_assoc xs p.0 q.0) ∙ ap (λ l. l ++ q.0) p.1 ∙ q.1)

pub map-prefix : {X Y : Type 0} (f : X → Y) (xs ys : List X) → IsPrefix xs ys → IsPrefix (map f xs) (map f ys)
map-prefix f [] ys p = (map f ys, refl)
map-prefix f (x ∷ xs) ys p = (map f p.0, sym (map-append f (x ∷ xs) p.0) ∙ ap (map f) p.1)

-- ---- a quit stands last

pub quit_is : (c : Command) → is_quit c ≡ true → c ≡ Quit
quit_is (Join group) is = absurd (true≢false (sym is))
quit_is (Leave group) is = absurd (true≢false (sym is))
quit_is (Whisper peer content) is = absurd (true≢false (sym is))
quit_is (Shout group content) is = absurd (true≢false (sym is))
quit_is (Bad line) is = absurd (true≢false (sym is))
quit_is Quit is = refl

pub quits_through : (cs : List Command) → QuitsLast (through_quit cs)
quits_through [] = tt
quits_through (c ∷ cs) = (
  (λ is. ap (λ d. cond (is_quit d) [] (through_quit cs)) is),
  by (quits_through cs) (is_quit c),
)
  where
    by : QuitsLast (through_quit cs) → (b : Bool) → QuitsLast (cond b [] (through_quit cs))
    by rest true = tt
    by rest false = rest

-- before more there is none
pub none_before : (cs : List Command) (d : Command) (ds : List Command) → QuitsLast (cs ++ d ∷ ds) → list_any is_quit cs ≡ false
none_before [] d ds q = refl
none_before (c ∷ cs) d ds q = by (none_before cs d ds q.1) (is_quit c) refl
  where
    full : (xs : List Command) → xs ++ d ∷ ds ≡ [] → ⊥
    full [] is = cc
    full (x ∷ xs) is = cc

    by : list_any is_quit cs ≡ false → (b : Bool) → is_quit c ≡ b → (b || list_any is_quit cs) ≡ false
    by rest true is = absurd (full cs (q.0 (quit_is c is)))
    by rest false is = rest

-- a front that holds a quit is all
pub all_front : (cs all : List Command) → IsPrefix cs all → QuitsLast all → list_any is_quit cs ≡ true → cs ≡ all
all_front cs all ([], is) q any = sym (append-nil cs) ∙ is
all_front cs all (d ∷ ds, is) q any = absurd (true≢false (sym any ∙ none_before cs d ds (subst QuitsLast (sym is) q)))

-- a front of commands without a quit has none
pub none_front : (cs all : List Command) → IsPrefix cs all → list_any is_quit all ≡ false → list_any is_quit cs ≡ false
none_front cs all (rest, is) none = by (list_any is_quit cs) refl (sym (list_any-append is_quit cs rest) ∙ ap (list_any is_quit) is ∙ none)
  where
    by : (b : Bool) → list_any is_quit cs ≡ b → (list_any is_quit cs || list_any is_quit rest) ≡ false → list_any is_quit cs ≡ false
    by true is_true both = absurd (true≢false (sym (ap (λ x. x || list_any is_quit rest) is_true) ∙ both))
    by false is_false both = is_false

-- ---- what breaks off the orders

-- a front of what is fewer is fewer
pub short_front : (xs ys all : List Command) → IsPrefix xs ys → IsShort ys all → IsShort xs all
short_front xs ys all ([], is) (next, rest, e) = (next, rest, e ∙ ap (λ l. l ++ next ∷ rest) (sym is ∙ append-nil xs))
short_front xs ys all (d ∷ ds, is) (next, rest, e) = (d, ds ++ next ∷ rest, e ∙ ap (λ l. l ++ next ∷ rest) (sym is) ∙ append_assoc xs (d ∷ ds) (next ∷ rest))

-- what begins the orders before their quit, and a front of that
pub begins_front : (xs ys : List Command) (o : List ℕ) → IsPrefix xs ys → Begins ys o → Begins xs o
begins_front xs ys o p b = record {
  rest = p.0 ++ b.rest;
  parts = b.parts ∙ ap (λ l. l ++ (b.rest ++ Quit ∷ [])) (sym p.1) ∙ append_assoc xs p.0 (b.rest ++ Quit ∷ []) ∙ ap (λ l. xs ++ l) (sym (append_assoc p.0 b.rest (Quit ∷ [])));
}

-- a front of a list and more is a front of the list, or all of it and a front of the rest
front_cut : (xs ys zs : List Command) → IsPrefix xs (ys ++ zs) → IsPrefix xs ys ⊎ ((more : List Command) × (xs ≡ ys ++ more) × IsPrefix more zs)
front_cut xs [] zs p = inr (xs, refl, p)
front_cut [] (y ∷ ys) zs p = inl (y ∷ ys, refl)
front_cut (x ∷ xs) (y ∷ ys) zs p = by (front_cut xs ys zs (p.0, tail_same))
  where
    head : List Command → Command
    head [] = x
    head (c ∷ cs) = c

    tail : List Command → List Command
    tail [] = []
    tail (c ∷ cs) = cs

    tail_same : xs ++ p.0 ≡ ys ++ zs
    tail_same = ap tail p.1

    same : x ≡ y
    same = ap head p.1

    by : IsPrefix xs ys ⊎ ((more : List Command) × (xs ≡ ys ++ more) × IsPrefix more zs) → IsPrefix (x ∷ xs) (y ∷ ys) ⊎ ((more : List Command) × (x ∷ xs ≡ (y ∷ ys) ++ more) × IsPrefix more zs)
    by (inl q) = inl (q.0, (λ i. same i ∷ q.1 i))
    by (inr (more, is, q)) = inr (more, (λ i. same i ∷ is i), q)

close_front : (xs zs : List Command) → IsClose zs → IsPrefix xs zs → IsClose xs
close_front [] zs c p = inl refl
close_front (x ∷ []) zs (inl is) p = absurd (let e : x ∷ p.0 ≡ [] = p.1 ∙ is in cc)
close_front (x ∷ []) zs (inr is) p = inr (ap (λ c. c ∷ []) (first (p.1 ∙ is)))
  where
    head : List Command → Command
    head [] = x
    head (c ∷ cs) = c

    first : x ∷ p.0 ≡ Quit ∷ [] → x ≡ Quit
    first e = ap head e
close_front (x ∷ y ∷ xs) zs (inl is) p = absurd (let e : x ∷ (y ∷ (xs ++ p.0)) ≡ [] = p.1 ∙ is in cc)
close_front (x ∷ y ∷ xs) zs (inr is) p = absurd (let e : x ∷ (y ∷ (xs ++ p.0)) ≡ Quit ∷ [] = p.1 ∙ is in cc)

-- a front of what breaks off breaks off
pub breaks_front : (ended : Type 0) (xs ys : List Command) (o : List ℕ) → IsPrefix xs ys → BreaksOff ended ys o → BreaksOff ended xs o
breaks_front ended xs ys o p b = by (front_cut xs b.front b.tail (subst (IsPrefix xs) b.parts p))
  where
    fewer : IsPrefix xs b.front → IsPrefix b.front (typed o) ⊎ ended → IsPrefix xs (typed o) ⊎ ended
    fewer q (inl whole) = inl (prefix_trans xs b.front (typed o) q whole)
    fewer q (inr is) = inr is

    by : IsPrefix xs b.front ⊎ ((more : List Command) × (xs ≡ b.front ++ more) × IsPrefix more b.tail) → BreaksOff ended xs o
    by (inl q) = record { front = xs; tail = []; parts = sym (append-nil xs); begins = begins_front xs b.front o q b.begins; are_whole = fewer q b.are_whole; closes = inl refl }
    by (inr (more, is, q)) = record { front = b.front; tail = more; parts = is; begins = b.begins; are_whole = b.are_whole; closes = close_front more b.tail b.closes q }

-- with more that says that the text has ended
pub breaks_by : (ended other : Type 0) (xs : List Command) (o : List ℕ) → (ended → other) → BreaksOff ended xs o → BreaksOff other xs o
breaks_by ended other xs o then b = record { front = b.front; tail = b.tail; parts = b.parts; begins = b.begins; are_whole = by b.are_whole; closes = b.closes }
  where
    by : IsPrefix b.front (typed o) ⊎ ended → IsPrefix b.front (typed o) ⊎ other
    by (inl whole) = inl whole
    by (inr is) = inr (then is)

-- where no quit is among them they begin the orders
pub breaks_plain : (ended : Type 0) (xs : List Command) (o : List ℕ) → BreaksOff ended xs o → list_any is_quit xs ≡ false
    → Begins xs o × (IsPrefix xs (typed o) ⊎ ended)
breaks_plain ended xs o b none = by b.closes
  where
    by : IsClose b.tail → Begins xs o × (IsPrefix xs (typed o) ⊎ ended)
    by (inl is) = subst (λ l. Begins l o × (IsPrefix l (typed o) ⊎ ended)) (sym (b.parts ∙ ap (λ l. b.front ++ l) is ∙ append-nil b.front)) (b.begins, b.are_whole)
    by (inr is) = absurd (true≢false (sym quits ∙ none))
      where
        quits : list_any is_quit xs ≡ true
        quits = ap (list_any is_quit) (b.parts ∙ ap (λ l. b.front ++ l) is) ∙ list_any-append is_quit b.front (Quit ∷ []) ∙ or_true (list_any is_quit b.front)
          where
            or_true : (x : Bool) → (x || true) ≡ true
            or_true true = refl
            or_true false = refl

-- all orders: those before their quit, and the quit
pub orders_break : (ended : Type 0) (commands : List Command) (o : List ℕ) → commands ≡ orders o → IsPrefix (asked false o) (typed o) ⊎ ended → BreaksOff ended commands o
orders_break ended commands o is whole = record {
  front = asked false o;
  tail = Quit ∷ [];
  parts = is ∙ asked-quits o;
  begins = asked-begins o;
  are_whole = whole;
  closes = inr refl;
}

-- where a line is a quit, those before it are of whole lines
pub quit_front : (o : List ℕ) → list_any is_quit (typed o) ≡ true → IsPrefix (asked false o) (typed o)
quit_front o quits = let few = quit-short (typed o) quits in subst (λ l. IsPrefix l (typed o)) (sym (asked-typed o quits)) (few.0 ∷ few.1, sym few.2)

-- the commands of whole lines, but for a quit after them
pub cut_breaks : (ended : Type 0) (commands : List Command) (o : List ℕ) → IsReadOn o → CutsOff commands o → BreaksOff ended commands o
cut_breaks ended commands o none c = record {
  front = typed o;
  tail = c.tail;
  parts = c.parts;
  begins = typed-begin o (typed o) [] (sym (append-nil (typed o))) none;
  are_whole = inl ([], append-nil (typed o));
  closes = c.closes;
}
