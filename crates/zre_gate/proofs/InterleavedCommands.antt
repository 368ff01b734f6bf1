-- What the actor popped is an interleaving of what the clients put, but for a quit at its end.
use Rattle.std.proofs.Common.{◌≡◌, ℕ, ◌≤◌, ◌==◌, Bool, true, false, true≢false, cond, List, [], ◌∷◌, ◌++◌, map, refl, sym, ap, ◌∙◌, subst, arith, append-nil, eq-eqb}
use Rattle.std.specs.Prelude.{◌⊎◌, ◌||◌, All}
use mathlib.Core.Logic.{inl, inr}
use mathlib.Core.List.{IsPrefix}
use Rattle.std.specs.List.{list_any}
use Rattle.std.proofs.lemmas.Bool.{or_parts, or_from}
use Rattle.std.proofs.lemmas.List.{map-append}
use Rattle.std.proofs.lemmas.List.Folds.{list_any-append}
use Rattle.std.proofs.lemmas.List.Elements.{All-nil, All-cons, All-head, All-tail, All-append, All-weaker, All-same}
use Rattle.zre_outside.specs.declared.entry.Command.{Command}
use Rattle.zre_outside.specs.declared.entry.Command.TheVariants.{Quit}
use Rattle.zre_actor.specs.declared.views.Placed.{Placed}
use Rattle.zre_actor.specs.Commands.{placed, under, times, command_of}
use Rattle.zre_actor.specs.Work.{QuitsLast}
use Rattle.zre_actor.proofs.SumsOverPasses.{under-append, other_number, is_first, not_first}
use Rattle.zre_console.specs.lines.Orders.{is_quit}
use Rattle.zre_console.specs.reader.Putting.{IsClose}
use Rattle.zre_console.proofs.CommandPrefixes.{prefix_trans, map-prefix, quit_is}
use Rattle.zre_console.proofs.PoppedCommands.{all_under, its_own, no_others, commands_under, here, not_here}
use Rattle.zre_gate.specs.Clients.{Served, put_for, put_for_all}
use Rattle.zre_gate.specs.Interleaving.{of_name, IsInterleaving}

-- ---- lists under numbers

module _ (P : Placed → Type 0) where
  all_under_number : (n : ℕ) (es : List Placed) → All P es → All P (under n es)
  all_under_number n [] a = All-nil P
  all_under_number n (e ∷ es) a = by (all_under_number n es (All-tail P e es a)) (e.number == n) refl
    where
      by : All P (under n es) → (b : Bool) → (e.number == n) ≡ b → All P (under n (e ∷ es))
      by rest true is = All-same P (under n (e ∷ es)) (e ∷ under n es) (here n e es is) (All-cons P e (under n es) (All-head P e es a) rest)
      by rest false isnt = All-same P (under n (e ∷ es)) (under n es) (not_here n e es isnt) rest

  -- what holds under each number holds of all
  all_numbers : (es : List Placed) → ((n : ℕ) → All P (under n es)) → All P es
  all_numbers [] a = All-nil P
  all_numbers (e ∷ es) a = All-cons P e es (All-head P e (under e.number es) (All-same P (e ∷ under e.number es) (under e.number (e ∷ es)) (sym (here e.number e es (eq-eqb e.number e.number refl))) (a e.number)))
      (all_numbers es (λ n. by n (e.number == n) refl))
    where
      by : (n : ℕ) (b : Bool) → (e.number == n) ≡ b → All P (under n es)
      by n true is = All-tail P e (under n es) (All-same P (e ∷ under n es) (under n (e ∷ es)) (sym (here n e es is)) (a n))
      by n false isnt = All-same P (under n es) (under n (e ∷ es)) (sym (not_here n e es isnt)) (a n)

  all_front : (xs ys : List Placed) → All P (xs ++ ys) → All P xs
  all_front [] ys a = All-nil P
  all_front (x ∷ xs) ys a = All-cons P x xs (All-head P x (xs ++ ys) a) (all_front xs ys (All-tail P x (xs ++ ys) a))

  pub all_last : (xs : List Placed) (x : Placed) → All P (xs ++ x ∷ []) → P x
  all_last [] x a = All-head P x [] a
  all_last (y ∷ xs) x a = all_last xs x (All-tail P y (xs ++ x ∷ []) a)

  -- so of what is, under each number, a front of what it holds of
  pub all_popped : (es ps : List Placed) → ((n : ℕ) → IsPrefix (under n es) (under n ps)) → All P ps → All P es
  all_popped es ps fronts a = all_numbers es (λ n. all_front (under n es) (fronts n).0 (All-same P (under n es ++ (fronts n).0) (under n ps) (fronts n).1 (all_under_number n ps a)))

-- ---- what clients put

abbrev pub num : Served → ℕ
num x = x.number

pub none_under : (n : ℕ) (xs : List Served) → times n (map num xs) ≡ 0 → under n (put_for_all xs) ≡ []
none_under n [] none = refl
none_under n (x ∷ xs) none =
    under-append n (put_for x) (put_for_all xs) ∙ ap (λ l. l ++ under n (put_for_all xs)) (no_others n x.number [] x.commands (not_first x.number n (map num xs) none))
    ∙ none_under n xs (omega (arith, none))

abbrev pub IsThere : List Served → Served → Type 0
IsThere xs x = 1 ≤ times x.number (map num xs)

pub all_there : (xs : List Served) → All (IsThere xs) xs
all_there [] = All-nil (IsThere [])
all_there (x ∷ xs) = All-cons (IsThere (x ∷ xs)) x xs (let e = is_first x.number (map num xs) in omega (arith, e))
    (All-weaker (IsThere xs) (IsThere (x ∷ xs)) (λ y h. omega (arith, h)) xs (all_there xs))

abbrev pub IsOwn : List Served → Served → Type 0
IsOwn xs x = under x.number (put_for_all xs) ≡ put_for x

pub own_under : (xs : List Served) → ((n : ℕ) → times n (map num xs) ≤ 1) → All (IsOwn xs) xs
own_under [] apart = All-nil (IsOwn [])
own_under (x ∷ xs) apart = All-cons (IsOwn (x ∷ xs)) x xs first
    (All-weaker (λ y. IsOwn xs y × IsThere xs y) (IsOwn (x ∷ xs)) later xs (λ k d h. (own_under xs (λ n. (let a = apart n in omega (arith, a))) k d h, all_there xs k d h)))
  where
    first : under x.number (put_for x ++ put_for_all xs) ≡ put_for x
    first =
        let none : times x.number (map num xs) ≡ 0 = (let e = is_first x.number (map num xs) in let a = apart x.number in omega (arith, e, a)) in
        under-append x.number (put_for x) (put_for_all xs) ∙ ap (λ l. l ++ under x.number (put_for_all xs)) (its_own x.number [] x.commands)
        ∙ ap (λ l. put_for x ++ l) (none_under x.number xs none) ∙ append-nil (put_for x)

    later : (y : Served) → IsOwn xs y × IsThere xs y → IsOwn (x ∷ xs) y
    later y h =
        under-append y.number (put_for x) (put_for_all xs)
        ∙ ap (λ l. l ++ under y.number (put_for_all xs)) (no_others y.number x.number [] x.commands (other_number x.number y.number (map num xs) (apart y.number) h.1))
        ∙ h.0

-- ---- what holds of all that was put

abbrev pub IsPlain : Served → Type 0
IsPlain x = list_any is_quit x.commands ≡ false

module _ (P : Placed → Type 0) (n : ℕ) (ended : List ℕ) (each : (c : Command) → is_quit c ≡ false → P (placed n ended c)) where
  all_placed : (cs : List Command) → list_any is_quit cs ≡ false → All P (all_under n ended cs)
  all_placed [] none = All-nil P
  all_placed (c ∷ cs) none = All-cons P (placed n ended c) (all_under n ended cs) (each c (or_parts (is_quit c) (list_any is_quit cs) none).0) (all_placed cs (or_parts (is_quit c) (list_any is_quit cs) none).1)

module _ (P : Placed → Type 0) (T : Served → Type 0) (each : (x : Served) → T x → (c : Command) → is_quit c ≡ false → P (placed x.number [] c)) where
  all_for : (xs : List Served) → All IsPlain xs → All T xs → All P (put_for_all xs)
  all_for [] plain ts = All-nil P
  all_for (x ∷ xs) plain ts = All-append P (put_for x) (put_for_all xs) (all_placed P x.number [] (each x (All-head T x xs ts)) x.commands (All-head IsPlain x xs plain)) (all_for xs (All-tail IsPlain x xs plain) (All-tail T x xs ts))

all_closing : (P : Placed → Type 0) (n : ℕ) (ended : List ℕ) (cs : List Command) → IsClose cs → P (placed n ended Quit) → All P (all_under n ended cs)
all_closing P n ended cs (inl none) p = All-same P (all_under n ended cs) [] (ap (all_under n ended) none) (All-nil P)
all_closing P n ended cs (inr one) p = All-same P (all_under n ended cs) (placed n ended Quit ∷ []) (ap (all_under n ended) one) (All-cons P (placed n ended Quit) [] p (All-nil P))

-- ---- a quit at the end

pub nothing_mapped : (es : List Placed) → map command_of es ≡ [] → es ≡ []
nothing_mapped [] is = refl
nothing_mapped (e ∷ es) is = absurd (let x : e.command ∷ map command_of es ≡ [] = is in cc)

-- a list whose quits stand last
pub quit_split : (es : List Placed) → QuitsLast (map command_of es)
    → (list_any is_quit (map command_of es) ≡ false) ⊎ ((b : List Placed) × (l : Placed) × (es ≡ b ++ l ∷ []) × (l.command ≡ Quit) × (list_any is_quit (map command_of b) ≡ false))
quit_split [] q = inl refl
quit_split (e ∷ es) q = by (is_quit e.command) refl (quit_split es q.1)
  where
    by : (b : Bool) → is_quit e.command ≡ b
        → (list_any is_quit (map command_of es) ≡ false) ⊎ ((b : List Placed) × (l : Placed) × (es ≡ b ++ l ∷ []) × (l.command ≡ Quit) × (list_any is_quit (map command_of b) ≡ false))
        → (list_any is_quit (map command_of (e ∷ es)) ≡ false) ⊎ ((b : List Placed) × (l : Placed) × (e ∷ es ≡ b ++ l ∷ []) × (l.command ≡ Quit) × (list_any is_quit (map command_of b) ≡ false))
    by true is rest = (let quit = quit_is e.command is in inr ([], e, ap (λ l. e ∷ l) (nothing_mapped es (q.0 quit)), quit, refl))
    by false isnt (inl none) = inl (or_from (is_quit e.command) (list_any is_quit (map command_of es)) isnt none)
    by false isnt (inr (b, l, is, quit, none)) = inr (e ∷ b, l, ap (λ x. e ∷ x) is, quit, or_from (is_quit e.command) (list_any is_quit (map command_of b)) isnt none)

nothing_left : (xs ys : List Command) → xs ++ ys ≡ [] → xs ≡ []
nothing_left [] ys is = refl
nothing_left (x ∷ xs) ys is = absurd (let y : x ∷ (xs ++ ys) ≡ [] = is in cc)

pub quits_front : (xs ys : List Command) → QuitsLast (xs ++ ys) → QuitsLast xs
quits_front [] ys q = tt
quits_front (x ∷ xs) ys q = ((λ is. nothing_left xs ys (q.0 is)), quits_front xs ys q.1)

-- a list of commands cut in two
pub map_split : (es : List Placed) (xs ys : List Command) → map command_of es ≡ xs ++ ys → (f : List Placed) × (r : List Placed) × (es ≡ f ++ r) × (map command_of f ≡ xs) × (map command_of r ≡ ys)
map_split es [] ys is = ([], es, refl, refl, is)
map_split [] (x ∷ xs) ys is = absurd (let y : [] ≡ x ∷ (xs ++ ys) = is in cc)
map_split (e ∷ es) (x ∷ xs) ys is = (let r = map_split es xs ys (ap tail is) in (e ∷ r.0, r.1, ap (λ l. e ∷ l) r.2, (λ i. head (is i) ∷ r.3 i), r.4))
  where
    tail : List Command → List Command
    tail [] = []
    tail (c ∷ cs) = cs

    head : List Command → Command
    head [] = x
    head (c ∷ cs) = c

-- ---- names

abbrev pub by_name : Placed → ℕ × Command
by_name e = (e.number, e.command)

pub name_under : (n : ℕ) (es : List Placed) → of_name n (map by_name es) ≡ map command_of (under n es)
name_under n [] = refl
name_under n (e ∷ es) = by (name_under n es) (e.number == n) refl
  where
    by : of_name n (map by_name es) ≡ map command_of (under n es) → (b : Bool) → (e.number == n) ≡ b → of_name n (map by_name (e ∷ es)) ≡ map command_of (under n (e ∷ es))
    by rest true is = ap (λ b. cond b (e.command ∷ of_name n (map by_name es)) (of_name n (map by_name es))) is ∙ ap (λ l. e.command ∷ l) rest ∙ ap (map command_of) (sym (here n e es is))
    by rest false isnt = ap (λ b. cond b (e.command ∷ of_name n (map by_name es)) (of_name n (map by_name es))) isnt ∙ rest ∙ ap (map command_of) (sym (not_here n e es isnt))

pub commands_named : (es : List Placed) → map (λ (x : ℕ × Command). x.1) (map by_name es) ≡ map command_of es
commands_named [] = refl
commands_named (e ∷ es) = ap (λ l. e.command ∷ l) (commands_named es)

pub maps_named : {X : Type 0} (f : Served → X) (h : ℕ → X) → ((x : Served) → h x.number ≡ f x) → (xs : List Served) → map h (map num xs) ≡ map f xs
maps_named f h same [] = refl
maps_named f h same (x ∷ xs) = λ i. same x i ∷ maps_named f h same xs i

-- ---- all of it

-- the commands of one client among some that were popped
abbrev pub its_named : List Placed → Served → List Command
its_named b x = of_name x.number (map by_name b)

module _ (S : List Served) (c a : ℕ) (ea : List ℕ) (tail asks : List Command) (apart : (n : ℕ) → times n (c ∷ a ∷ map num S) ≤ 1) (few_tail : IsClose tail) (few_asks : IsClose asks) (plain : All IsPlain S)
    (es : List Placed) (fronts : (n : ℕ) → IsPrefix (under n es) (under n ((put_for_all S ++ all_under c (map num S) tail) ++ (all_under a ea asks ++ [])))) where
  abbrev ns : List ℕ
  ns = map num S

  abbrev closing : List Placed
  closing = all_under c ns tail

  abbrev asking : List Placed
  asking = all_under a ea asks

  abbrev puts : List Placed
  puts = (put_for_all S ++ closing) ++ (asking ++ [])

  apart_clients : (n : ℕ) → times n ns ≤ 1
  apart_clients n = (let h = apart n in omega (arith, h))

  -- what holds of all that was put holds of what was popped
  module _ (P : Placed → Type 0) (clients : All P (put_for_all S)) (closed : All P closing) (asked : All P asking) where
    holds : All P es
    holds = all_popped P es puts fronts (All-append P (put_for_all S ++ closing) (asking ++ []) (All-append P (put_for_all S) closing clients closed) (All-append P asking [] asked (All-nil P)))

  abbrev IsGood : Placed → Type 0
  IsGood e = ((is_quit e.command ≡ false) × (1 ≤ times e.number ns)) ⊎ (e.command ≡ Quit)

  good : All IsGood es
  good = holds IsGood (all_for IsGood (IsThere S) (λ x h command isnt. inl (isnt, h)) S plain (all_there S)) (all_closing IsGood c ns tail few_tail (inr refl)) (all_closing IsGood a ea asks few_asks (inr refl))

  -- where neither the closer nor the other caller put a quit, none was popped
  pub none_quit : tail ≡ [] → asks ≡ [] → All (λ e. is_quit e.command ≡ false) es
  none_quit t k = holds (λ e. is_quit e.command ≡ false) (all_for (λ e. is_quit e.command ≡ false) (IsThere S) (λ x h command isnt. isnt) S plain (all_there S))
      (All-same (λ e. is_quit e.command ≡ false) closing [] (ap (all_under c ns) t) (All-nil (λ e. is_quit e.command ≡ false)))
      (All-same (λ e. is_quit e.command ≡ false) asking [] (ap (all_under a ea) k) (All-nil (λ e. is_quit e.command ≡ false)))

  -- under the number of a client stands what was put for it
  pub own_puts : All (λ x. under x.number puts ≡ put_for x) S
  own_puts = All-weaker (λ x. IsOwn S x × IsThere S x) (λ x. under x.number puts ≡ put_for x) by S (λ k d h. (own_under S apart_clients k d h, all_there S k d h))
    where
      by : (x : Served) → IsOwn S x × IsThere S x → under x.number puts ≡ put_for x
      by x h =
          let m = x.number in let most = apart m in let there = h.1 in
          let no_closing : under m closing ≡ [] = no_others m c ns tail (other_number c m (a ∷ ns) most (omega (arith, there))) in
          let no_asking : under m asking ≡ [] = no_others m a ea asks (other_number a m ns (omega (arith, most)) there) in
          under-append m (put_for_all S ++ closing) (asking ++ [])
          ∙ ap (λ l. l ++ under m (asking ++ [])) (under-append m (put_for_all S) closing ∙ ap (λ l. l ++ under m closing) h.0 ∙ ap (λ l. put_for x ++ l) no_closing ∙ append-nil (put_for x))
          ∙ ap (λ l. put_for x ++ l) (ap (under m) (append-nil asking) ∙ no_asking) ∙ append-nil (put_for x)

  of_each : All (λ x. IsPrefix (under x.number es) (put_for x)) S
  of_each = All-weaker (λ x. under x.number puts ≡ put_for x) (λ x. IsPrefix (under x.number es) (put_for x)) (λ x is. subst (IsPrefix (under x.number es)) is (fronts x.number)) S own_puts

  -- a front of what was popped that holds no quit
  module _ (b r : List Placed) (is_front : es ≡ b ++ r) (none : list_any is_quit (map command_of b) ≡ false) where
    pub named_front : All (λ x. IsPrefix (its_named b x) x.commands) S
    named_front = All-weaker (λ x. IsPrefix (under x.number es) (put_for x)) (λ x. IsPrefix (its_named b x) x.commands) by S of_each
      where
        by : (x : Served) → IsPrefix (under x.number es) (put_for x) → IsPrefix (its_named b x) x.commands
        by x p =
            let m = x.number in
            let first : IsPrefix (under m b) (under m es) = (under m r, sym (ap (under m) is_front ∙ under-append m b r)) in
            let all = map-prefix command_of (under m b) (put_for x) (prefix_trans (under m b) (under m es) (put_for x) first p) in
            subst (λ (z : List Command × List Command). IsPrefix z.0 z.1) (λ i. (sym (name_under m b) i, commands_under m [] x.commands i)) all

    names_known : (bs : List Placed) → All IsGood bs → list_any is_quit (map command_of bs) ≡ false → All (λ (x : ℕ × Command). 1 ≤ times x.0 ns) (map by_name bs)
    names_known [] g plainly = All-nil (λ (x : ℕ × Command). 1 ≤ times x.0 ns)
    names_known (e ∷ bs) g plainly = All-cons (λ (x : ℕ × Command). 1 ≤ times x.0 ns) (by_name e) (map by_name bs) (by (All-head IsGood e bs g)) (names_known bs (All-tail IsGood e bs g) (or_parts (is_quit e.command) (list_any is_quit (map command_of bs)) plainly).1)
      where
        by : IsGood e → 1 ≤ times e.number ns
        by (inl h) = h.1
        by (inr quit) = absurd (true≢false (sym (ap is_quit quit) ∙ (or_parts (is_quit e.command) (list_any is_quit (map command_of bs)) plainly).0))

    pub is_interleaved : IsInterleaving (map (its_named b) S) (map command_of b)
    is_interleaved = record {
      names = ns;
      apart = apart_clients;
      named = map by_name b;
      are_whole = commands_named b;
      are_lists = maps_named (its_named b) (λ n. of_name n (map by_name b)) (λ x. refl) S;
      known = names_known b (all_front IsGood b r (All-same IsGood (b ++ r) es (sym is_front) good)) none;
    }

  -- where a quit stands last and the other caller put nothing, it names all clients as ended
  module _ (b : List Placed) (l : Placed) (is_all : es ≡ b ++ l ∷ []) (quit : l.command ≡ Quit) (calm : asks ≡ []) where
    abbrev IsTold : Placed → Type 0
    IsTold e = (e.ended ≡ ns) ⊎ (is_quit e.command ≡ false)

    pub names_all : l.ended ≡ ns
    names_all = by (all_last IsTold b l (All-same IsTold (b ++ l ∷ []) es (sym is_all) all_told))
      where
        all_told : All IsTold es
        all_told = holds IsTold (all_for IsTold (IsThere S) (λ x h command isnt. inr isnt) S plain (all_there S)) (all_closing IsTold c ns tail few_tail (inl refl)) (All-same IsTold asking [] (ap (all_under a ea) calm) (All-nil IsTold))

        by : IsTold l → l.ended ≡ ns
        by (inl is) = is
        by (inr isnt) = absurd (true≢false (sym (ap is_quit quit) ∙ isnt))

    -- and all that was put for them was popped
    pub named_all : ((n : ℕ) → 1 ≤ times n l.ended → under n es ≡ under n puts) → All (λ x. its_named b x ≡ x.commands) S
    named_all ends = All-weaker (λ x. (under x.number puts ≡ put_for x) × (IsThere S x × IsPlain x)) (λ x. its_named b x ≡ x.commands) by S (λ k d h. (own_puts k d h, (all_there S k d h, plain k d h)))
      where
        by : (x : Served) → (under x.number puts ≡ put_for x) × (IsThere S x × IsPlain x) → its_named b x ≡ x.commands
        by x h = name_under m b ∙ last (l.number == m) refl
          where
            m : ℕ
            m = x.number

            all : under x.number b ++ under x.number (l ∷ []) ≡ put_for x
            all = sym (under-append x.number b (l ∷ [])) ∙ ap (under x.number) (sym is_all) ∙ ends x.number (subst (λ k. 1 ≤ times x.number k) (sym names_all) h.1.0) ∙ h.0

            same : map command_of (under x.number b ++ under x.number (l ∷ [])) ≡ x.commands
            same = ap (map command_of) all ∙ commands_under x.number [] x.commands

            last : (z : Bool) → (l.number == x.number) ≡ z → map command_of (under x.number b) ≡ x.commands
            last false isnt = ap (map command_of) (sym (append-nil (under x.number b)) ∙ ap (λ k. under x.number b ++ k) (sym (not_here x.number l [] isnt))) ∙ same
            last true is = absurd (true≢false (sym quits ∙ h.1.1))
              where
                with_quit : map command_of (under x.number b) ++ l.command ∷ [] ≡ x.commands
                with_quit = sym (map-append command_of (under x.number b) (l ∷ [])) ∙ ap (λ k. map command_of (under x.number b ++ k)) (sym (here x.number l [] is)) ∙ same

                or_true : (z : Bool) → (z || true) ≡ true
                or_true true = refl
                or_true false = refl

                quits : list_any is_quit x.commands ≡ true
                quits = ap (list_any is_quit) (sym with_quit ∙ ap (λ k. map command_of (under x.number b) ++ k ∷ []) quit) ∙ list_any-append is_quit (map command_of (under x.number b)) (Quit ∷ []) ∙ or_true (list_any is_quit (map command_of (under x.number b)))
