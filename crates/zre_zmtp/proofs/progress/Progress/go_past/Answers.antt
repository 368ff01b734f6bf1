use Rattle.std.proofs.Common.{◌≡◌, ◌<◌, ◌++◌, ℕ, List, length, refl, sym, ap, ◌∙◌, arith}
use Rattle.std.proofs.lemmas.List.{length-append}
use Rattle.zre_zmtp.specs.Across.{octets_of}
use Rattle.zre_zmtp.proofs.PiecesAcrossFrames.{none_of, goes_past_on}
use Rattle.zre_zmtp.proofs.TurnsOfReaders.{joined}
use Rattle.zre_zmtp.proofs.progress.Progress.go_past.Goals as goal

pub returns-clause-taken : goal.returns-clause-taken
returns-clause-taken g c =
    let p = c.args.self.now in
    let h = c.args.header in
    let o = c.args.piece.now in
    let front = c.split_at.result.0.now in
    let rest = octets_of c.in-Some.next in
    let body = p.partial.body ++ front in
    let less : length p.partial.body < h.size = p.partial.unfinished h c.requires.in_body.known in
    let sized : length body ≡ h.size = omega (arith, length-append p.partial.body front, c.split_at.ensures.front_len, c.len-2.ensures, less) in
    let whole : o ≡ front ++ rest = joined _ o front c.split_at.ensures.front ∙ ap (λ (x : List ℕ). front ++ x) (sym c.split_at.ensures.back ∙ c.in-Some.ensures.all) in
    goes_past_on c.cross.result p c.cross.new.self h body front rest o c.len-header_len.result c.requires.in_body.traffic (none_of p.opened (omega (arith, c.if-len-gt0.false, c.len.ensures))) c.requires.in_body.known c.requires.message c.requires.more
    refl sized c.len-header_len.ensures whole c.cross.ensures.some c.cross.ensures.taken
