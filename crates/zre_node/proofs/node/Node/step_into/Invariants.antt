use Rattle.zre_node.proofs.node.Node.step_into.Given as goal

abbrev pub ghosts-step_from : goal.ghosts-step_from
ghosts-step_from a = record { name = a.blank.name; parts = a.blank.parts }
