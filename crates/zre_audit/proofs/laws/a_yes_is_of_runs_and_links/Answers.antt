use Rattle.zre_audit.proofs.RunsHaveLinks.{yes_is_of_links}
use Rattle.zre_audit.proofs.laws.a_yes_is_of_runs_and_links.Goals as goal

pub returns : goal.returns
returns c = λ g k J K. yes_is_of_links g k J K
