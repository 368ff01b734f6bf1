use Rattle.zre_zmtp.proofs.ReadersFollowStreams.{reads_whole}
use Rattle.zre_zmtp.proofs.reader.Reader.wanting.Goals as goal

pub returns : goal.returns
returns c = reads_whole c.args.want c.expecting.result c.expecting.ensures
