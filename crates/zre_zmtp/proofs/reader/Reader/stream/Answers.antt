use Rattle.zre_zmtp.specs.Stream.{Any}
use Rattle.zre_zmtp.proofs.ReadersFollowStreams.{reads_whole}
use Rattle.zre_zmtp.proofs.reader.Reader.stream.Goals as goal

pub returns : goal.returns
returns c = reads_whole Any c.expecting.result c.expecting.ensures
