use Rattle.std.proofs.Common.{sym, subst, ◌∙◌}
use Rattle.zre_peer.specs.Standing.{Stands}
use Rattle.zre_commands.proofs.follow.TextIsMonotone.{nothing_over, no_messages, no_fault, nothing_stopped}
use Rattle.zre_commands.proofs.follow.follower.Follower.new.Goals as goal

pub returns-clause-fed : goal.returns-clause-fed
returns-clause-fed c = record {
  spent = c.new.ensures.stands.going ∙ sym nothing_over;
  stands = λ _. subst (Stands c.new.result) (sym no_messages) c.new.ensures.stands;
  read = λ _. record { faulty = sym no_fault; reads = λ _. c.traffic.ensures };
}

pub returns-clause-going : goal.returns-clause-going
returns-clause-going c = nothing_stopped
