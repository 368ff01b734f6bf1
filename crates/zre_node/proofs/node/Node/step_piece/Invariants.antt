use Rattle.zre_node.proofs.node.Node.step_piece.Given as goal

abbrev pub ghosts-step_lent_from : goal.ghosts-step_lent_from
ghosts-step_lent_from a = record { name = a.blank.name; parts = a.blank.parts }
