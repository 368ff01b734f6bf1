use Rattle.std.proofs.Common.{rules}
use Rattle.zre_console.proofs.reader.ReaderProgress.{closed}
use Rattle.zre_console.proofs.reader.RefusedReads.{closed_refuses}
use Rattle.zre_console.proofs.reader.job.ReaderJobJob.run.Goals as goal

pub returns : goal.returns
returns g c = (
  search rules,
  c.read-done.ensures.later,
  closed c.args.self.limit c.args.self.pass c.read-done.result.0.pass c.end_reading-pass.result.0 _ _ _ _ _ c.read-done.result.0.end c.end_reading-pass.result.1 c.read-done.ensures.read c.end_reading-pass.ensures.closing,
  closed_refuses c.read-done.result.0.end c.end_reading-pass.result.1 _ _ _ _ c.end_reading-pass.ensures.closing c.read-done.ensures.refused,
)
