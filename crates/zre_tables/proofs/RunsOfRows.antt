-- Runs of rows.
use Rattle.std.proofs.Common.{◌≡◌, ℕ, List, Option, Some, Result, Ok, Err, OnErr, IfErr, sym, ◌∙◌, subst}
use Rattle.zre_values.specs.declared.peer_id.PeerId.{PeerId}
use Rattle.zre_msg.specs.declared.message.Message.{Message}
use Rattle.zre_tables.specs.Runs.{HasRun, IsRunning}
use Rattle.zre_tables.specs.declared.peer.CarriedRun.{CarriedRun}

pub if_err : {T E B : Type 0} {P Q : E → Type 0} (r : Result T E) → IfErr r P → OnErr r B → ((e : E) → P e → B → Q e) → IfErr r Q
if_err (Ok x) p b f = tt
if_err (Err e) p b f = f e p b

pub run_in : (c : ℕ) (id : PeerId) (ms : List Message) (o : Option CarriedRun) (x : CarriedRun) → HasRun (Some c) id ms o → o ≡ Some x → IsRunning c id ms x
run_in c id ms o x h e = let z : Some h.0 ≡ Some x = sym h.1 ∙ e in let same : h.0 ≡ x = cc in subst (IsRunning c id ms) same h.2

pub of_err : {T E : Type 0} {P Q : E → Type 0} (r : Result T E) → IfErr r P → ((e : E) → P e → Q e) → IfErr r Q
of_err (Ok x) p f = tt
of_err (Err e) p f = f e p
