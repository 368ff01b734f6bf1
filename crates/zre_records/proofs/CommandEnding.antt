-- The end of a command that writes nothing before it: the line that tells where its input is bad, or else a text.
use Rattle.std.proofs.Common.{◌≡◌, ℕ, true, false, List, ◌++◌, Option, Some, None, ap, ◌∙◌, subst, append-nil}
use Rattle.std.specs.Prelude.{is_some}
use Rattle.zre_outside.specs.Told.{AppendsFront, WritesThrough}
use Rattle.zre_capture.specs.declared.fault.BadCapture.{BadCapture}
use Rattle.zre_commands.specs.pump.Lines.{refusal}
use Rattle.zre_records.specs.replay.Capture.{refusal_or}

pub bad_end : (bad : Option BadCapture) (text out out' : List ℕ) → true ≡ is_some bad → out' ≡ out ++ refusal bad → out' ≡ out ++ refusal_or bad text
bad_end None text out out' e w = absurd cc
bad_end (Some b) text out out' e w = w

pub good_end : (bad : Option BadCapture) (text shown out mid out' : List ℕ) → false ≡ is_some bad → mid ≡ out ++ refusal bad → out' ≡ mid ++ shown → shown ≡ text → out' ≡ out ++ refusal_or bad text
good_end None text shown out mid out' e m w s = w ∙ ap (λ (l : List ℕ). l ++ shown) (m ∙ append-nil out) ∙ ap (λ (l : List ℕ). out ++ l) s
good_end (Some b) text shown out mid out' e m w s = absurd cc

pub good_through : (bad : Option BadCapture) (text shown out mid out' : List ℕ) (w w' : Option (List ℕ)) → false ≡ is_some bad → mid ≡ out ++ refusal bad → shown ≡ text → WritesThrough mid out' w w' shown → WritesThrough out out' w w' (refusal_or bad text)
good_through None text shown out mid out' w w' e m s k = subst (λ (l : List ℕ). WritesThrough l out' w w' text) (m ∙ append-nil out) (subst (WritesThrough mid out' w w') s k)
good_through (Some b) text shown out mid out' w w' e m s k = absurd cc

pub good_front : (bad : Option BadCapture) (text shown out mid : List ℕ) (w w' : Option (List ℕ)) → false ≡ is_some bad → mid ≡ out ++ refusal bad → shown ≡ text → AppendsFront w w' (mid ++ shown) → AppendsFront w w' (out ++ refusal_or bad text)
good_front None text shown out mid w w' e m s f = subst (AppendsFront w w') (ap (λ (l : List ℕ). l ++ shown) (m ∙ append-nil out) ∙ ap (λ (l : List ℕ). out ++ l) s) f
good_front (Some b) text shown out mid w w' e m s f = absurd cc
