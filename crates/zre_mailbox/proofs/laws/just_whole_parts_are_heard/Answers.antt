use Rattle.zre_mailbox.proofs.ArrivalsOfUtterances.{are_heard}
use Rattle.zre_mailbox.proofs.laws.just_whole_parts_are_heard.Goals as goal

pub returns : goal.returns
returns c = λ own id us sixteen h. are_heard own id sixteen us h
