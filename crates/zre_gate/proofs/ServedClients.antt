-- What a client came to, from how its thread ended.
use Rattle.std.proofs.Common.{◌≡◌, ℕ, ◌<◌, true, false, true≢false, cond, List, [], ◌∷◌, ◌++◌, length, Option, refl, sym, ap, ◌∙◌, subst, arith, append_assoc, append-nil}
use Rattle.std.specs.Prelude.{◌⊎◌}
use mathlib.Core.Logic.{inl, inr}
use mathlib.Core.List.{IsPrefix}
use Rattle.std.specs.List.{list_any}
use Rattle.std.specs.Io.KnownBytes.{IsAtEnd}
use Rattle.std.proofs.lemmas.Bool.{or_parts}
use Rattle.std.proofs.lemmas.List.{append_cancel_right}
use Rattle.zre_outside.specs.declared.entry.Command.{Command}
use Rattle.zre_outside.specs.declared.entry.Command.TheVariants.{Quit}
use Rattle.zre_outside.specs.Causes.{Rose}
use Rattle.zre_outside.specs.Refusals.{Refusals, RefusesNone, RefusesLast}
use Rattle.zre_console.specs.lines.Orders.{is_quit, before_quit, typed, orders, asked, Begins}
use Rattle.zre_console.proofs.lines.OrdersUpToQuit.{begun-none, none-before, asked-quits, asked-typed, before-none, typed-begin}
use Rattle.zre_console.specs.declared.reader.ending.InputEnd.{InputEnd}
use Rattle.zre_console.specs.declared.reader.ending.InputEnd.TheVariants as end
use Rattle.zre_console.specs.reader.Putting.{IsShort}
use Rattle.zre_console.specs.reader.Reading.{LinesOutcome, EndsByRefusal}
use Rattle.zre_commands.specs.declared.pump.status.Status.TheVariants.{Done, TooLong, OutOfMemory}
use Rattle.zre_console.proofs.CommandPrefixes.{prefix_self, prefix_trans, short_front}
use Rattle.zre_gate.specs.Clients.{Served, IsServed, is_over, of_client}
use Rattle.zre_gate.specs.Gate.{Client, IsClient, IsWhole, IsFree, IsLong}

-- ---- fronts of what is asked for

before_front : (cs rest : List Command) → list_any is_quit cs ≡ false → before_quit (cs ++ rest) ≡ cs ++ before_quit rest
before_front [] rest none = refl
before_front (c ∷ cs) rest none =
    ap (λ b. cond b [] (c ∷ before_quit (cs ++ rest))) (or_parts (is_quit c) (list_any is_quit cs) none).0
    ∙ ap (λ l. c ∷ l) (before_front cs rest (or_parts (is_quit c) (list_any is_quit cs) none).1)

-- a front of lines without a quit is one of those before it
front_before : (cs ts : List Command) → IsPrefix cs ts → list_any is_quit cs ≡ false → IsPrefix cs (before_quit ts)
front_before cs ts (rest, is) none = (before_quit rest, sym (before_front cs rest none) ∙ ap before_quit is)

begins_asked : (cs : List Command) (o : List ℕ) → Begins cs o → IsPrefix cs (asked false o)
begins_asked cs o b = (b.rest, append_cancel_right (cs ++ b.rest) (asked false o) (Quit ∷ []) (append_assoc cs b.rest (Quit ∷ []) ∙ sym b.parts ∙ asked-quits o))

typed_asked : (cs : List Command) (o : List ℕ) → cs ≡ typed o → list_any is_quit (typed o) ≡ false → IsPrefix cs (asked false o)
typed_asked cs o is none = begins_asked cs o (subst (λ (xs : List Command). Begins xs o) (sym is) (typed-begin o (typed o) [] (sym (append-nil (typed o))) none))

-- what was put begins what is asked for
pub asked_front : (e : InputEnd) (limit : ℕ) (cs : List Command) (o : List ℕ) (left : Option (List ℕ)) (read : Type 0) → LinesOutcome e limit cs o left read → IsPrefix cs (asked false o)
asked_front end.Quit limit cs o left read x = subst (IsPrefix cs) x.1 (prefix_self cs)
asked_front end.AtEnd limit cs o left read x = subst (IsPrefix cs) x.2 (prefix_self cs)
asked_front end.Over limit cs o left read x = begins_asked cs o x.0
asked_front end.ReadFault limit cs o left read x = typed_asked cs o x.3 x.2
asked_front end.TooLong limit cs o left read x = typed_asked cs o x.2 x.1
asked_front end.OutOfMemory limit cs o left read x = begins_asked cs o x.0

all_typed : (cs : List Command) (o : List ℕ) → cs ≡ typed o → list_any is_quit (typed o) ≡ false → cs ≡ asked true o
all_typed cs o is none = is ∙ sym (before-none (typed o) none)

-- and that without a last line without a line feed, unless the end was found before the limit
finished_front : (e : InputEnd) (limit : ℕ) (cs : List Command) (o : List ℕ) (left : Option (List ℕ)) (read : Type 0) → LinesOutcome e limit cs o left read
    → IsPrefix cs (asked true o) ⊎ (IsAtEnd left × (length o < limit))
finished_front end.Quit limit cs o left read x = inl (subst (IsPrefix cs) (x.1 ∙ asked-typed o x.0) (prefix_self cs))
finished_front end.AtEnd limit cs o left read x = inr (x.0, x.1)
finished_front end.Over limit cs o left read x = inl (front_before cs (typed o) x.1 (begun-none cs o x.0))
finished_front end.ReadFault limit cs o left read x = inl (subst (IsPrefix cs) (all_typed cs o x.3 x.2) (prefix_self cs))
finished_front end.TooLong limit cs o left read x = inl (subst (IsPrefix cs) (all_typed cs o x.2 x.1) (prefix_self cs))
finished_front end.OutOfMemory limit cs o left read x = inl (front_before cs (typed o) x.1 (begun-none cs o x.0))

front_finished : (limit : ℕ) (handed cs : List Command) (o : List ℕ) (left : Option (List ℕ)) → IsPrefix handed cs
    → IsPrefix cs (asked true o) ⊎ (IsAtEnd left × (length o < limit)) → IsPrefix handed (asked true o) ⊎ (IsAtEnd left × (length o < limit))
front_finished limit handed cs o left p (inl q) = inl (prefix_trans handed cs (asked true o) p q)
front_finished limit handed cs o left p (inr at) = inr at

-- where a read was refused, that is without such a line
refused_how : (e : InputEnd) (limit : ℕ) (handed cs : List Command) (o : List ℕ) (left : Option (List ℕ)) (read : Type 0) (a b : Option Refusals) → LinesOutcome e limit cs o left read → EndsByRefusal e a b → IsPrefix handed cs
    → RefusesNone a b ⊎ (RefusesLast a b × IsPrefix handed (asked true o))
refused_how end.ReadFault limit handed cs o left read a b x last p = inr (last, prefix_trans handed cs (asked true o) p (subst (IsPrefix cs) (all_typed cs o x.3 x.2) (prefix_self cs)))
refused_how end.Quit limit handed cs o left read a b x none p = inl none
refused_how end.AtEnd limit handed cs o left read a b x none p = inl none
refused_how end.Over limit handed cs o left read a b x none p = inl none
refused_how end.TooLong limit handed cs o left read a b x none p = inl none
refused_how end.OutOfMemory limit handed cs o left read a b x none p = inl none

pub plain_commands : (e : InputEnd) (limit : ℕ) (cs : List Command) (o : List ℕ) (left : Option (List ℕ)) (read : Type 0) → LinesOutcome e limit cs o left read → list_any is_quit cs ≡ false
plain_commands end.Quit limit cs o left read x = ap (list_any is_quit) x.1 ∙ none-before (orders o)
plain_commands end.AtEnd limit cs o left read x = ap (list_any is_quit) x.2 ∙ none-before (orders o)
plain_commands end.Over limit cs o left read x = begun-none cs o x.0
plain_commands end.ReadFault limit cs o left read x = ap (list_any is_quit) x.3 ∙ x.2
plain_commands end.TooLong limit cs o left read x = ap (list_any is_quit) x.2 ∙ x.1
plain_commands end.OutOfMemory limit cs o left read x = begun-none cs o x.0

free_how : (e : InputEnd) (limit : ℕ) (cs handed : List Command) (o : List ℕ) (left : Option (List ℕ)) (read : Type 0) → LinesOutcome e limit cs o left read → of_client e ≡ Done → 0 < limit → IsPrefix handed cs
    → (length o < limit) ⊎ ((list_any is_quit (typed o) ≡ true) ⊎ IsShort handed (typed o))
free_how end.Quit limit cs handed o left read x well some p = inr (inl x.0)
free_how end.AtEnd limit cs handed o left read x well some p = inl x.1
free_how end.Over limit cs handed o left read x well some p = by x.2
  where
    by : (o ≡ []) ⊎ ((length o < limit) ⊎ IsShort cs (typed o)) → (length o < limit) ⊎ ((list_any is_quit (typed o) ≡ true) ⊎ IsShort handed (typed o))
    by (inl none) = inl (let n : length o ≡ 0 = ap length none in omega (arith, n, some))
    by (inr (inl less)) = inl less
    by (inr (inr short)) = inr (inr (short_front handed cs (typed o) p short))
free_how end.ReadFault limit cs handed o left read x well some p = inl x.1
free_how end.TooLong limit cs handed o left read x well some p = absurd (let y : TooLong ≡ Done = well in cc)
free_how end.OutOfMemory limit cs handed o left read x well some p = absurd (let y : OutOfMemory ≡ Done = well in cc)

whole_how : (e : InputEnd) (limit : ℕ) (cs : List Command) (o : List ℕ) (left : Option (List ℕ)) (read : Type 0) → LinesOutcome e limit cs o left read → of_client e ≡ Done → is_over e ≡ false
    → ((cs ≡ asked false o) ⊎ ((read ⊎ (length o ≡ limit)) × (cs ≡ asked true o))) × (read ⊎ (IsAtEnd left ⊎ (list_any is_quit (typed o) ≡ true)))
whole_how end.Quit limit cs o left read x well own = (inl x.1, inr (inr x.0))
whole_how end.AtEnd limit cs o left read x well own = (inl x.2, inr (inl x.0))
whole_how end.Over limit cs o left read x well own = absurd (true≢false own)
whole_how end.ReadFault limit cs o left read x well own = (inr (inl x.0, all_typed cs o x.3 x.2), inl x.0)
whole_how end.TooLong limit cs o left read x well own = absurd (let y : TooLong ≡ Done = well in cc)
whole_how end.OutOfMemory limit cs o left read x well own = absurd (let y : OutOfMemory ≡ Done = well in cc)

-- ---- the client

abbrev pub client_for : (Served → List Command) → Served → Client
client_for handed x = record {
  before = x.before;
  after = x.after;
  octets = x.octets;
  handed = handed x;
}

module _ (limit : ℕ) (handed : Served → List Command) (x : Served) (s : IsServed limit x) where
  pub is_client : IsPrefix (handed x) x.commands → IsClient limit (client_for handed x)
  is_client p = record {
    moved = s.moved;
    within = s.within;
    later = s.later;
    in_order = prefix_trans (handed x) x.commands (asked false x.octets) p (asked_front x.end limit x.commands x.octets x.after.left (Rose x.before.faults x.after.faults) s.outcome);
    unfinished = front_finished limit (handed x) x.commands x.octets x.after.left p (finished_front x.end limit x.commands x.octets x.after.left (Rose x.before.faults x.after.faults) s.outcome);
    refused = refused_how x.end limit (handed x) x.commands x.octets x.after.left (Rose x.before.faults x.after.faults) x.before.refused x.after.refused s.outcome s.refused p;
  }

  pub is_free : of_client x.end ≡ Done → 0 < limit → IsPrefix (handed x) x.commands → IsFree limit (client_for handed x)
  is_free well some p = free_how x.end limit x.commands (handed x) x.octets x.after.left (Rose x.before.faults x.after.faults) s.outcome well some p

  pub is_whole : of_client x.end ≡ Done → is_over x.end ≡ false → handed x ≡ x.commands → IsWhole limit (client_for handed x)
  is_whole well own all = subst (λ (h : List Command). IsWhole limit (record { before = x.before; after = x.after; octets = x.octets; handed = h })) (sym all)
      (whole_how x.end limit x.commands x.octets x.after.left (Rose x.before.faults x.after.faults) s.outcome well own)

  pub is_long : x.end ≡ end.TooLong → IsLong limit (client_for handed x)
  is_long is = (let o : LinesOutcome end.TooLong limit x.commands x.octets x.after.left (Rose x.before.faults x.after.faults) = subst (λ e. LinesOutcome e limit x.commands x.octets x.after.left (Rose x.before.faults x.after.faults)) is s.outcome in (o.0, o.1))
