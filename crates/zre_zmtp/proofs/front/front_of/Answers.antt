use Rattle.std.proofs.Common.{◌≤◌, length, refl, sym, ◌∙◌, arith}
use Rattle.zre_zmtp.proofs.FrontsOfPieces.{one_front, two_front, shorter_by}
use Rattle.zre_zmtp.proofs.front.front_of.Goals as goal

pub returns-then-not-has_more : goal.returns-then-not-has_more
returns-then-not-has_more c =
    let o = c.args.octets.now in
    let rest = c.in_ok-header.rest.now in
    let less : length rest ≤ length o = shorter_by c.in_ok-header.header c.in_ok-header.first.now rest o c.in_ok-header.ensures in
    one_front _ c.in_ok-header.header rest o c.in_ok-header.ensures (sym c.has_more.ensures ∙ c.if-not-has_more.true) c.if-first-gt-MESSAGE_OCTETS.false refl (omega (arith, less))

pub overflow_sub-result-2 : goal.overflow_sub-result-2
overflow_sub-result-2 c =
    let later = c.in_ok-header.rest.now in
    let less : length later ≤ length c.args.octets.now = shorter_by c.in_ok-header.header c.in_ok-header.first.now later c.args.octets.now c.in_ok-header.ensures in
    let least : length c.in_ok-header-2.rest.now ≤ length later = shorter_by c.in_ok-header-2.header c.in_ok-header-2.second.now c.in_ok-header-2.rest.now later c.in_ok-header-2.ensures in
    omega (arith, less, least)

pub returns : goal.returns
returns c =
    let o = c.args.octets.now in
    let later = c.in_ok-header.rest.now in
    let rest = c.in_ok-header-2.rest.now in
    let body' = c.in_ok-header-2.second.now in
    let less : length later ≤ length o = shorter_by c.in_ok-header.header c.in_ok-header.first.now later o c.in_ok-header.ensures in
    let least : length rest ≤ length later = shorter_by c.in_ok-header-2.header body' rest later c.in_ok-header-2.ensures in
    two_front _ c.in_ok-header.header c.in_ok-header-2.header body' later rest o c.in_ok-header.ensures c.in_ok-header-2.ensures (sym c.has_more.ensures ∙ c.if-not-has_more.false) (sym c.has_more-2.ensures ∙ c.if-has_more.false)
    (omega (arith, c.if-first-gt-MESSAGE_OCTETS.false, c.if-second-first.false)) refl (omega (arith, less, least))
