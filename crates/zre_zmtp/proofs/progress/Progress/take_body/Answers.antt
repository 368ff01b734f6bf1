use Rattle.std.proofs.Common.{◌≡◌, ◌+◌, length, sym, ap, ◌∙◌, Some, arith}
use Rattle.std.proofs.lemmas.List.{length-append}
use Rattle.zre_zmtp.specs.declared.partial.Partial.{Partial}
use Rattle.zre_zmtp.specs.declared.progress.Progress.{Progress}
use Rattle.zre_zmtp.specs.declared.header.Header.{Header}
use Rattle.zre_zmtp.proofs.FrameFaults.{left-partial}
use Rattle.zre_zmtp.proofs.LooksByTurn.{paid}
use Rattle.zre_zmtp.proofs.UnfinishedFrames.{fine, grown}
use Rattle.zre_zmtp.proofs.progress.Progress.take_body.Goals as goal

-- what the header says that was kept
kept_header : (p : Progress) (part : Partial) (h : Header) → part ≡ p.partial → part.header ≡ Some h → p.partial.header ≡ Some h
kept_header p part h was is = ap (λ (x : Partial). x.header) (sym was) ∙ is

pub returns-clause-ok : goal.returns-clause-ok
returns-clause-ok g c = λ w.
    let was = c.replace-head.ensures.value in
    rw (grown c.args.self.now c.replace-head.result c.args.more.now c.add.new.self c.requires.frame was c.in_ok-add.ensures.ok)
    (c.take_frame.ensures.ok (fine c.args.want.now c.args.self.now c.replace-head.result c.in-Some.header c.requires.frame was (kept_header c.args.self.now c.replace-head.result c.in-Some.header c.replace-head.ensures.value c.in-Some.is) w))

pub returns-clause-refused : goal.returns-clause-refused
returns-clause-refused g c = λ w.
    let was = c.replace-head.ensures.value in
    rw (grown c.args.self.now c.replace-head.result c.args.more.now c.add.new.self c.requires.frame was c.in_ok-add.ensures.ok)
    (c.take_frame.ensures.refused (fine c.args.want.now c.args.self.now c.replace-head.result c.in-Some.header c.requires.frame was (kept_header c.args.self.now c.replace-head.result c.in-Some.header c.replace-head.ensures.value c.in-Some.is) w))

pub returns-clause-looks : goal.returns-clause-looks
returns-clause-looks g c =
    let p = c.replace-head.result in
    let left = left-partial c.args.self.now p c.requires.frame c.replace-head.ensures.value in
    let grows : length c.add.new.self ≡ length p.body + length c.args.more.now = ap length c.in_ok-add.ensures.ok ∙ length-append p.body c.args.more.now in
    record {
      once = omega (arith, c.in_ok-add.ensures.looks);
      paid = paid c.take_frame.result _ _ _ _ _ _ (omega (arith, ap length left, length-append p.head p.body, grows, c.in_ok-add.ensures.looks)) c.take_frame.ensures.held;
    }
