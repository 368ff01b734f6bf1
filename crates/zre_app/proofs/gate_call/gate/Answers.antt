use Rattle.zre_app.proofs.GateComplete.{gate_completes, nothing_gated}
use Rattle.zre_app.proofs.gate_call.gate.Goals as goal

pub returns-in-Ok-Some-clause-complete : goal.returns-in-Ok-Some-clause-complete
returns-in-Ok-Some-clause-complete g c = gate_completes _ _ _ _ _ _

pub returns-in-Ok-None-clause-complete : goal.returns-in-Ok-None-clause-complete
returns-in-Ok-None-clause-complete g c = gate_completes _ _ _ _ _ _

pub returns-in-Err-clause-complete : goal.returns-in-Err-clause-complete
returns-in-Err-clause-complete g c = gate_completes _ _ _ _ _ _

pub returns-in-Err-clause-does : goal.returns-in-Err-clause-does
returns-in-Err-clause-does g c = nothing_gated _ _ _ _ _ _ _ c.new-in-Err.ensures.items
