use Rattle.zre_zmtp.proofs.reader.Reader.feed_pieces.Given as goal

abbrev pub ghosts-feed_pieces_from : goal.ghosts-feed_pieces_from
ghosts-feed_pieces_from a = record { name = a.blank.name; parts = a.blank.parts }
