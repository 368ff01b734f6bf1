use Rattle.std.proofs.Common.{◌≡◌, ◌<◌, ◌+◌, ◌++◌, List, ℕ, length, take, drop, Some, None, refl, sym, ap, ◌∙◌, arith}
use Rattle.std.proofs.lemmas.List.{length-append}
use Rattle.zre_zmtp.specs.Stream.{fault_of}
use Rattle.zre_zmtp.specs.Shown.{before_of, header_fault}
use Rattle.zre_zmtp.proofs.FaultsStay.{fault_of-stays}
use Rattle.zre_zmtp.proofs.FrameFaults.{IsHeader, is_header, head_of, header-refused, left-frame, waits-body}
use Rattle.zre_zmtp.proofs.TurnsOfReaders.{turn_waits, turn_refused}
use Rattle.zre_zmtp.proofs.begun.begin_frame.Goals as goal

pub returns-in-Some-clause-refused : goal.returns-in-Some-clause-refused
returns-in-Some-clause-refused g c =
    let b = before_of c.args.progress.now in
    let o = c.args.octets.now in
    let at = head_of c.args.header o c.split_at.result.0.now c.split_at.result.1.now c.requires.begun.header
    (c.split_at.ensures.front ∙ ap (λ n. take n o) c.header_len.ensures) (c.split_at.ensures.back ∙ ap (λ n. drop n o) c.header_len.ensures) in
    let bad : header_fault b c.split_at.result.0.now ≡ Some c.in-Some.why = sym (c.fault_of_whole.ensures c.split_at.result.0.now at.header) ∙ c.in-Some.is in
    λ want out.
    turn_refused want b o out out _
    (ap (λ (x : List ℕ). fault_of want b x) at.whole
    ∙ fault_of-stays want b c.split_at.result.0.now c.split_at.result.1.now _ (header-refused want b c.split_at.result.0.now c.in-Some.why c.requires.begun.frame bad)) refl

pub returns-clause-ok : goal.returns-clause-ok
returns-clause-ok g c =
    let b = before_of c.args.progress.now in
    let o = c.args.octets.now in
    let head = c.split_at.result.0.now in
    let later = c.split_at.result.1.now in
    let at = head_of c.args.header o head later c.requires.begun.header
    (c.split_at.ensures.front ∙ ap (λ n. take n o) c.header_len.ensures) (c.split_at.ensures.back ∙ ap (λ n. drop n o) c.header_len.ensures) in
    let is : IsHeader c.args.header head = is_header c.args.header head at.header at.within in
    let fine : header_fault b head ≡ None = sym (c.fault_of_whole.ensures head at.header) ∙ c.in_default.is in
    let parts : length o ≡ length head + length later = ap length at.whole ∙ length-append head later in
    let lt : length later < c.args.header.size = omega (arith, at.exact, parts, c.requires.unfinished) in
    let now = left-frame c.args.progress.now.expected c.args.progress.now.greeting c.of.result c.add.new.self c.requires.begun.frame
    ∙ ap (λ (x : List ℕ). x ++ c.add.new.self) c.of.ensures
    ∙ ap (λ (x : List ℕ). head ++ x) (c.in-Ok.ensures.ok ∙ ap (λ (x : List ℕ). x ++ later) c.new-body.ensures.empty) in
    λ want out.
    let still = waits-body want b c.args.header head later c.requires.begun.frame is fine lt in
    rw at.whole (turn_waits want b (head ++ later) out out b _ still.faultless still.partial refl refl now)

pub returns-clause-looks : goal.returns-clause-looks
returns-clause-looks g c =
    let o = c.args.octets.now in
    let head = c.split_at.result.0.now in
    let later = c.split_at.result.1.now in
    let at = head_of c.args.header o head later c.requires.begun.header
    (c.split_at.ensures.front ∙ ap (λ n. take n o) c.header_len.ensures) (c.split_at.ensures.back ∙ ap (λ n. drop n o) c.header_len.ensures) in
    let parts : length o ≡ length head + length later = ap length at.whole ∙ length-append head later in
    let now = left-frame c.args.progress.now.expected c.args.progress.now.greeting c.of.result c.add.new.self c.requires.begun.frame
    ∙ ap (λ (x : List ℕ). x ++ c.add.new.self) c.of.ensures
    ∙ ap (λ (x : List ℕ). head ++ x) (c.in-Ok.ensures.ok ∙ ap (λ (x : List ℕ). x ++ later) c.new-body.ensures.empty) in
    record {
      once = omega (arith, parts, c.in-Ok.ensures.looks);
      paid = (omega (arith, parts, ap length now, length-append head later, c.in-Ok.ensures.looks), tt);
    }
