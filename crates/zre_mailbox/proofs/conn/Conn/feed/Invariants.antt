use Rattle.zre_mailbox.proofs.conn.Conn.feed.Given as goal

abbrev pub ghosts-feed_from : goal.ghosts-feed_from
ghosts-feed_from a = record { name = a.blank.name; parts = a.blank.parts }
