use Rattle.zre_link.proofs.link.Link.reply.Given as goal

abbrev pub ghosts-reply_from : goal.ghosts-reply_from
ghosts-reply_from a = record { name = a.blank.name; parts = a.blank.parts }
