use Rattle.zre_capture.proofs.HelloFits.{hello_fits}
use Rattle.zre_capture.proofs.introduction.hello.Goals as goal

pub returns-clause-fits : goal.returns-clause-fits
returns-clause-fits c = hello_fits c.args.peer _ _ _ _ c.ranges.peer.fits c.in_ok-endpoint.ensures c.in_ok-name.ensures c.new.ensures c.new-2.ensures
