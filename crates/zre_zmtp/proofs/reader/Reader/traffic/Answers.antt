use Rattle.zre_zmtp.specs.Stream.{Any}
use Rattle.zre_zmtp.proofs.ReadersFollowStreams.{reads_traffic}
use Rattle.zre_zmtp.proofs.reader.Reader.traffic.Goals as goal

pub returns : goal.returns
returns c = reads_traffic Any c.expecting.result c.expecting.ensures
