-- What is told of refused reads, where the reading goes on and ends.
use Rattle.std.proofs.Common.{Option, sym, subst}
use mathlib.Core.Logic.{inl, inr}
use Rattle.zre_outside.specs.Refusals.{Refusals, RefusesNone}
use Rattle.zre_outside.proofs.RefusedReads.{none_then, last_then}
use Rattle.zre_actor.specs.declared.passes.CallerPass.{CallerPass}
use Rattle.zre_console.specs.declared.reader.ending.InputEnd.{InputEnd}
use Rattle.zre_console.specs.declared.reader.ending.InputEnd.TheVariants as ends
use Rattle.zre_console.specs.reader.Reading.{EndsByRefusal}
use Rattle.zre_console.specs.reader.Turning.{Closing}

-- none was refused before the end
pub ends_then : (end : InputEnd) (a b c : Option Refusals) → RefusesNone a b → EndsByRefusal end b c → EndsByRefusal end a c
ends_then ends.ReadFault a b c p q = last_then a b c p q
ends_then ends.Quit a b c p q = none_then a b c p q
ends_then ends.AtEnd a b c p q = none_then a b c p q
ends_then ends.Over a b c p q = none_then a b c p q
ends_then ends.TooLong a b c p q = none_then a b c p q
ends_then ends.OutOfMemory a b c p q = none_then a b c p q

-- the quit that was put at the end makes no read fault of another end, nor another end of one
pub closed_refuses : (end final : InputEnd) (old new : CallerPass) (a b : Option Refusals) → Closing end final old new → EndsByRefusal end a b → EndsByRefusal final a b
closed_refuses ends.Quit final old new a b (inl (is, p)) q = subst (λ (e : InputEnd). EndsByRefusal e a b) (sym is) q
closed_refuses ends.Quit final old new a b (inr (is, p)) q = subst (λ (e : InputEnd). EndsByRefusal e a b) (sym is) q
closed_refuses ends.AtEnd final old new a b (inl (is, p)) q = subst (λ (e : InputEnd). EndsByRefusal e a b) (sym is) q
closed_refuses ends.AtEnd final old new a b (inr (is, p)) q = subst (λ (e : InputEnd). EndsByRefusal e a b) (sym is) q
closed_refuses ends.Over final old new a b (is, p) q = subst (λ (e : InputEnd). EndsByRefusal e a b) (sym is) q
closed_refuses ends.ReadFault final old new a b (is, p) q = subst (λ (e : InputEnd). EndsByRefusal e a b) (sym is) q
closed_refuses ends.TooLong final old new a b (is, p) q = subst (λ (e : InputEnd). EndsByRefusal e a b) (sym is) q
closed_refuses ends.OutOfMemory final old new a b (is, p) q = subst (λ (e : InputEnd). EndsByRefusal e a b) (sym is) q
