-- How far a reader has come.
use Rattle.std.proofs.Common.{◌≡◌, ◌⊎◌, ℕ, ◌+◌, ◌<◌, ◌≤◌, true, false, List, [], ◌∷◌, ◌++◌, length, Option, refl, sym, ap, ◌∙◌, subst, arith}
use Rattle.std.specs.List.{list_any}
use mathlib.Core.Logic.{inl, inr}
use mathlib.Core.List.{IsPrefix}
use Rattle.std.specs.Io.KnownBytes.{IsAtEnd}
use Rattle.std.proofs.lemmas.List.{append-nil}
use Rattle.zre_outside.specs.declared.entry.Command.{Command}
use Rattle.zre_outside.specs.Told.{MovesOn}
use Rattle.zre_actor.specs.declared.passes.CallerPass.{CallerPass}
use Rattle.zre_console.specs.lines.Orders.{is_quit, typed, orders, asked, Begins}
use Rattle.zre_console.specs.lines.Typing.{Typing, Typed}
use Rattle.zre_commands.proofs.pump.PumpProgress.{MovesOn-nil, MovesOn-trans, counted_more}
use Rattle.zre_console.proofs.lines.OrdersUpToQuit.{typed-begin, asked-quits, asked-begins, asked-typed, quit-short}
use Rattle.zre_console.specs.declared.reader.ending.InputEnd.{InputEnd}
use Rattle.zre_console.specs.declared.reader.ending.InputEnd.TheVariants as ends
use Rattle.zre_console.specs.declared.reader.reading.Next.TheVariants as nexts
use Rattle.zre_outside.specs.declared.entry.Command.TheVariants.{Quit}
use Rattle.zre_console.specs.reader.Putting.{Puts, Closes, IsShort}
use Rattle.zre_console.specs.reader.Reading.{BreaksOff, CutsOff, HasRead, HasReadLines, Outcome, LinesOutcome}
use Rattle.zre_console.specs.reader.Turning.{PutsTyped, Turned, Finishes, Closing}
use Rattle.zre_console.proofs.reader.PutCommands.{puts-none, puts-then}

-- some octets were taken, so many; they were typed, no line is a quit, and their commands were put
pub record Reached (t : Typing) (a b : CallerPass) (left left' taken taken' : Option (List ℕ)) (count : ℕ) : Type 0 where
  pub octets : List ℕ
  pub moved : MovesOn left left' taken taken' octets
  pub counted : length octets ≡ count
  pub known : Typed octets t
  pub going : list_any is_quit (typed octets) ≡ false
  pub puts : Puts a b (typed octets)

pub starts : (t : Typing) (a : CallerPass) (left taken : Option (List ℕ)) → Typed [] t → Reached t a a left left taken taken 0
starts t a left taken known = record {
  octets = [];
  moved = MovesOn-nil left taken;
  counted = refl;
  known = known;
  going = refl;
  puts = puts-none a;
}

-- a piece more was read and its commands put
pub goes-on : (s t : Typing) (a b c : CallerPass) (l l' l'' k k' k'' : Option (List ℕ)) (count read : ℕ) (piece : List ℕ)
    → (r : Reached s a b l l' k k' count) → length piece ≡ read → MovesOn l' l'' k' k'' piece
    → Typed (r.octets ++ piece) t × (list_any is_quit (typed (r.octets ++ piece)) ≡ false) × PutsTyped b c r.octets (r.octets ++ piece)
    → Reached t a c l l'' k k'' (count + read)
goes-on s t a b c l l' l'' k k' k'' count read piece r long moves took = record {
  octets = r.octets ++ piece;
  moved = MovesOn-trans l l' l'' k k' k'' r.octets piece r.moved moves;
  counted = counted_more r.octets piece count read r.counted long;
  known = took.0;
  going = took.1;
  puts = subst (λ (cs : List Command). Puts a c cs) took.2.2 (puts-then a b c (typed r.octets) took.2.0 r.puts took.2.1);
}

-- ---- the ways to end

module _ (t : Typing) (a b : CallerPass) (l l' k k' : Option (List ℕ)) (count : ℕ) (r : Reached t a b l l' k k' count) (limit : ℕ) where
  -- nothing was put since
  stays : (end : InputEnd) (l'' k'' : Option (List ℕ)) (read : Type 0) → MovesOn l l'' k k'' r.octets → count ≤ limit → LinesOutcome end limit (typed r.octets) r.octets l'' read → HasReadLines end limit a b l l'' k k'' read
  stays end l'' k'' read moves within is = record {
    octets = r.octets;
    moved = moves;
    within = omega (arith, r.counted, within);
    commands = typed r.octets;
    puts = r.puts;
    outcome = is;
  }

  pub over-now : (read : Type 0) → count < limit → HasReadLines ends.Over limit a b l l' k k' read
  over-now read within = stays ends.Over l' k' read r.moved (omega (arith, within))
      (typed-begin r.octets (typed r.octets) [] (sym (append-nil (typed r.octets))) r.going, ([], append-nil (typed r.octets)), inr (inl (omega (arith, r.counted, within))))

  pub too-long : (read : Type 0) → count ≡ limit → HasReadLines ends.TooLong limit a b l l' k k' read
  too-long read all = stays ends.TooLong l' k' read r.moved (omega (arith, all)) (r.counted ∙ all, r.going, refl)

  module _ (l'' k'' : Option (List ℕ)) (piece : List ℕ) (moves : MovesOn l' l'' k' k'' piece) (c : CallerPass) (read : Type 0) where
    moved : MovesOn l l'' k k'' (r.octets ++ piece)
    moved = MovesOn-trans l l' l'' k k' k'' r.octets piece r.moved moves

    -- the source told no more octets
    moved-same : piece ≡ [] → MovesOn l l'' k k'' r.octets
    moved-same none = subst (MovesOn l l'' k k'') (ap (λ (p : List ℕ). r.octets ++ p) none ∙ append-nil r.octets) moved

    -- more was put
    puts-more : (end : InputEnd) (octets : List ℕ) (tail : List Command) → MovesOn l l'' k k'' octets → length octets ≤ limit → Puts b c tail → LinesOutcome end limit (typed r.octets ++ tail) octets l'' read → HasReadLines end limit a c l l'' k k'' read
    puts-more end octets tail moves within p is = record {
      octets = octets;
      moved = moves;
      within = within;
      commands = typed r.octets ++ tail;
      puts = puts-then a b c (typed r.octets) tail r.puts p;
      outcome = is;
    }

    pub finished : (end : InputEnd) → piece ≡ [] → IsAtEnd l'' → count < limit → Finishes end r.octets b c → HasReadLines end limit a c l l'' k k'' read
    finished ends.AtEnd none at less f = puts-more ends.AtEnd r.octets f.0 (moved-same none) (omega (arith, r.counted, less)) f.1 (at, omega (arith, r.counted, less), f.2)
    finished ends.Over none at less f = puts-more ends.Over r.octets f.0 (moved-same none) (omega (arith, r.counted, less)) f.1 (f.2, f.3, inr (inl (omega (arith, r.counted, less))))
    finished ends.OutOfMemory none at less f = puts-more ends.OutOfMemory r.octets f.0 (moved-same none) (omega (arith, r.counted, less)) f.1 (f.2, f.3)
    finished ends.Quit none at less f = absurd f
    finished ends.ReadFault none at less f = absurd f
    finished ends.TooLong none at less f = absurd f

    within-more : (size : ℕ) → length piece ≡ size → count + size ≤ limit → length (r.octets ++ piece) ≤ limit
    within-more size long within = omega (arith, counted_more r.octets piece count size r.counted long, within)

    -- a turn was the last; what is known of its read is known of the whole
    pub ended-turn : (end : InputEnd) (s : Typing) (now : Type 0) (size : ℕ) → (now → read) → length piece ≡ size → count + size ≤ limit → count < limit → Turned (nexts.End end) s r.octets piece l'' b c now → HasReadLines end limit a c l l'' k k'' read
    ended-turn ends.Quit s now size known long within less took = puts-more ends.Quit (r.octets ++ piece) took.1.0 moved (within-more size long within) took.1.1 (took.0, took.1.2)
    ended-turn ends.Over s now size known long within less took =
        puts-more ends.Over (r.octets ++ piece) took.0 moved (within-more size long within) took.1 (took.2, (took.3.0 ∷ took.3.1, sym took.3.2), inr (inr took.3))
    ended-turn ends.OutOfMemory s now size known long within less took = puts-more ends.OutOfMemory (r.octets ++ piece) took.0 moved (within-more size long within) took.1 (took.2, took.3)
    ended-turn ends.ReadFault s now size known long within less took =
        subst (λ (p : CallerPass). HasReadLines ends.ReadFault limit a p l l'' k k'' read) (sym took.2)
        (stays ends.ReadFault l'' k'' read (moved-same took.0) (omega (arith, less)) (known took.1, omega (arith, r.counted, less), r.going, refl))
    ended-turn ends.AtEnd s now size known long within less took = absurd took
    ended-turn ends.TooLong s now size known long within less took = absurd took

-- memory ran out at the start
pub memory-first : (a : CallerPass) (l k : Option (List ℕ)) (limit : ℕ) (read : Type 0) → HasReadLines ends.OutOfMemory limit a a l l k k read
memory-first a l k limit read = record {
  octets = [];
  moved = MovesOn-nil l k;
  within = omega arith;
  commands = [];
  puts = puts-none a;
  outcome = (typed-begin [] [] [] refl refl, (typed [], refl));
}

-- ---- the quit after the lines

module _ (limit : ℕ) (a b c : CallerPass) (l l' k k' : Option (List ℕ)) (read : Type 0) where
  more : (end final : InputEnd) (h : HasReadLines end limit a b l l' k k' read) (tail : List Command) → Puts b c tail → Outcome final limit (h.commands ++ tail) h.octets l' read → HasRead final limit a c l l' k k' read
  more end final h tail p is = record {
    octets = h.octets;
    moved = h.moved;
    within = h.within;
    commands = h.commands ++ tail;
    puts = puts-then a b c h.commands tail h.puts p;
    outcome = is;
  }

  over : (end : InputEnd) (h : HasReadLines end limit a b l l' k k' read) → Puts b c [] → Begins h.commands h.octets
      → (h.octets ≡ []) ⊎ ((length h.octets < limit) ⊎ IsShort h.commands (typed h.octets))
      → IsPrefix h.commands (typed h.octets) ⊎ (IsAtEnd l' × (length h.octets < limit)) → HasRead ends.Over limit a c l l' k k' read
  over end h p begins why whole = more end ends.Over h [] p (rw (append-nil h.commands) (begins, why, whole))

  broken : (commands : List Command) (o : List ℕ) (closes : Closes b c) → Begins commands o → IsPrefix commands (typed o) → BreaksOff ⊥ (commands ++ closes.0) o
  broken commands o closes begins front = record { front = commands; tail = closes.0; parts = refl; begins = begins; are_whole = inl front; closes = closes.1 }

  cut : (commands : List Command) (o : List ℕ) (closes : Closes b c) → commands ≡ typed o → CutsOff (commands ++ closes.0) o
  cut commands o closes is = record { tail = closes.0; parts = ap (λ (cs : List Command). cs ++ closes.0) is; closes = closes.1 }

  -- where a line is a quit, what is asked for are whole lines before it
  short : (commands : List Command) (o : List ℕ) → commands ≡ asked false o → list_any is_quit (typed o) ≡ true → IsShort commands (typed o)
  short commands o is quits = subst (λ (cs : List Command). IsShort cs (typed o)) (sym (is ∙ asked-typed o quits)) (quit-short (typed o) quits)

  quit-put : (commands : List Command) (o : List ℕ) → commands ≡ asked false o → commands ++ Quit ∷ [] ≡ orders o
  quit-put commands o is = ap (λ (cs : List Command). cs ++ Quit ∷ []) is ∙ sym (asked-quits o)

  begun : (commands : List Command) (o : List ℕ) → commands ≡ asked false o → Begins commands o
  begun commands o is = subst (λ (cs : List Command). Begins cs o) (sym is) (asked-begins o)

  pub closed : (end final : InputEnd) → HasReadLines end limit a b l l' k k' read → Closing end final b c → HasRead final limit a c l l' k k' read
  closed ends.Quit final h (inl (is, p)) = subst (λ (e : InputEnd). HasRead e limit a c l l' k k' read) (sym is) (more ends.Quit ends.Quit h (Quit ∷ []) p (h.outcome.0, quit-put h.commands h.octets h.outcome.1))
  closed ends.Quit final h (inr (is, p)) = subst (λ (e : InputEnd). HasRead e limit a c l l' k k' read) (sym is) (let few = short h.commands h.octets h.outcome.1 h.outcome.0 in
      over ends.Quit h p (begun h.commands h.octets h.outcome.1) (inr (inr few)) (inl (few.0 ∷ few.1, sym few.2)))
  closed ends.AtEnd final h (inl (is, p)) = subst (λ (e : InputEnd). HasRead e limit a c l l' k k' read) (sym is) (more ends.AtEnd ends.AtEnd h (Quit ∷ []) p (h.outcome.0, h.outcome.1, quit-put h.commands h.octets h.outcome.2))
  closed ends.AtEnd final h (inr (is, p)) = subst (λ (e : InputEnd). HasRead e limit a c l l' k k' read) (sym is) (over ends.AtEnd h p (begun h.commands h.octets h.outcome.2) (inr (inl h.outcome.1)) (inr (h.outcome.0, h.outcome.1)))
  closed ends.Over final h (is, same) = subst (λ (e : InputEnd). HasRead e limit a c l l' k k' read) (sym is) (over ends.Over h (subst (λ (p : CallerPass). Puts b p []) (sym same) (puts-none b)) h.outcome.0 h.outcome.2 (inl h.outcome.1))
  closed ends.ReadFault final h (is, p) = subst (λ (e : InputEnd). HasRead e limit a c l l' k k' read) (sym is)
      (more ends.ReadFault ends.ReadFault h p.0 p.2 (h.outcome.0, h.outcome.1, h.outcome.2, cut h.commands h.octets p h.outcome.3))
  closed ends.TooLong final h (is, p) = subst (λ (e : InputEnd). HasRead e limit a c l l' k k' read) (sym is)
      (more ends.TooLong ends.TooLong h p.0 p.2 (h.outcome.0, h.outcome.1, cut h.commands h.octets p h.outcome.2))
  closed ends.OutOfMemory final h (is, p) = subst (λ (e : InputEnd). HasRead e limit a c l l' k k' read) (sym is)
      (more ends.OutOfMemory ends.OutOfMemory h p.0 p.2 (broken h.commands h.octets p h.outcome.0 h.outcome.1))
