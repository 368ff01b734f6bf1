-- The beginnings of a peer's lines: the word of an event, and who the peer is.
use Rattle.std.specs.Prelude.{ℕ, List, ◌++◌, codes}
use Rattle.zre_values.specs.declared.peer_id.PeerId.{PeerId}
use Rattle.zre_peer.specs.Lines.{who_text}
use Rattle.zre_peer.specs.declared.heads.Heads.{Heads}

abbrev pub heads_of : PeerId → List ℕ → Heads
heads_of id name = record {
  join = codes "JOIN " ++ who_text id name;
  leave = codes "LEAVE " ++ who_text id name;
  whisper = codes "WHISPER " ++ who_text id name;
  shout = codes "SHOUT " ++ who_text id name;
}
