use Rattle.std.proofs.Common.{◌≡◌, List, false, take}
use Rattle.zre_msg.specs.declared.message.Message.{Message}
use Rattle.zre_peer.specs.Standing.{Stands, id_of, is_spent}
use Rattle.zre_commands.specs.follow.Messages.{messages_in}
use Rattle.zre_commands.specs.follow.Taken.{Took}
use Rattle.zre_commands.proofs.follow.taking.take_items.Given as goal

abbrev pub invariant-loop-item : goal.invariant-loop-item
invariant-loop-item l = record {
  took : (ms : List Message) → Stands l.initial.run ms → Took (id_of l.initial.run) ms (messages_in (take l.item-index l.items)) l.run l.initial.out l.out;
  going : is_spent l.run ≡ false;
  same : id_of l.run ≡ id_of l.initial.run;
}
