use Rattle.std.proofs.Common.{All, subst, take_all}
use Rattle.std.proofs.lemmas.List.Elements.{All-nil, All-more}
use Rattle.zre_capture.specs.Heads.{IsHeader}
use Rattle.zre_console.proofs.values.are_headers.Goals as goal

pub loop-header-init : goal.loop-header-init
loop-header-init c = All-nil IsHeader

pub loop-header-preserved : goal.loop-header-preserved
loop-header-preserved c =
    All-more IsHeader c.as_slice-header-items.result.now c.loop-header.header-index _ c.loop-header-test.true c.loop-header.invariant (subst IsHeader c.header-item.is c.is_header.ensures)

pub returns : goal.returns
returns c =
    subst (All IsHeader) c.as_slice-header-items.ensures (subst (All IsHeader) (take_all c.loop-header.header-index c.as_slice-header-items.result.now c.loop-header-test.false) c.loop-header.invariant)
