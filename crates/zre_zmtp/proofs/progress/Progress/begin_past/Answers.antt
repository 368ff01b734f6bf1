use Rattle.std.proofs.Common.{◌≡◌, ◌++◌, ℕ, List, length, take, drop, refl, sym, ap, ◌∙◌, arith}
use Rattle.zre_zmtp.specs.Across.{octets_of}
use Rattle.zre_zmtp.proofs.PiecesAcrossFrames.{none_of, begins_past_on}
use Rattle.zre_zmtp.proofs.FrameFaults.{head_of}
use Rattle.zre_zmtp.proofs.TurnsOfReaders.{joined}
use Rattle.zre_zmtp.proofs.progress.Progress.begin_past.Goals as goal

pub returns-clause-taken : goal.returns-clause-taken
returns-clause-taken g c =
    let p = c.args.self.now in
    let o = c.args.piece.now in
    let h = c.args.header in
    let head = c.split_at.result.0.now in
    let later = c.split_at.result.1.now in
    let front = c.split_at-2.result.0.now in
    let rest = octets_of c.in-Some.next in
    let at = head_of h o head later c.requires.header
    (c.split_at.ensures.front ∙ ap (λ n. take n o) c.header_len.ensures) (c.split_at.ensures.back ∙ ap (λ n. drop n o) c.header_len.ensures) in
    let parts : later ≡ front ++ rest = joined h.size later front c.split_at-2.ensures.front ∙ ap (λ (x : List ℕ). front ++ x) (sym c.split_at-2.ensures.back ∙ c.in-Some.ensures.all) in
    begins_past_on c.cross.result p c.cross.new.self h (p.partial.body ++ front) head later front rest o (length head) c.requires.between.traffic (none_of p.opened (omega (arith, c.if-len-gt0.false, c.len.ensures))) c.requires.between.none at
    (sym c.is_message.ensures ∙ c.if-not-is_message.false) (sym c.has_more.ensures ∙ c.if-not-has_more.false) c.in-Some.ensures.room refl c.split_at-2.ensures.front_len refl parts c.cross.ensures.some c.cross.ensures.taken
