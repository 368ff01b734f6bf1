use Rattle.std.proofs.Common.{Some, map}
use Rattle.std.specs.Arc.{arc_value}
use Rattle.zre_gate.specs.Clients.{seen_client}
use Rattle.zre_gate.specs.ClientLists.{client_list_of}
use Rattle.zre_gate.specs.Tables.{caller_number}
use Rattle.zre_gate.proofs.gate.Gate.run.Given as goal

abbrev pub ghosts-serve : goal.ghosts-serve
ghosts-serve g a = record {
  client_list = Some (client_list_of (arc_value a.self.base.others.printer.pipes) a.work.limit (map caller_number a.self.all_args.items)
      (map (seen_client g.D.Client.Source.left g.D.Client.Source.taken g.D.Client.Source.faults g.D.Client.Source.refused) a.clients.items));
}
