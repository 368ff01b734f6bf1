use Rattle.std.proofs.Common.{◌≡◌, ◌≢◌, ◌∷◌, [], ◌++◌, List, ℕ, length, Some, None, refl, sym, ap, ◌∙◌, arith}
use Rattle.std.proofs.lemmas.List.{append-nil, length-append}
use Rattle.zre_zmtp.specs.declared.partial.Partial.{Partial}
use Rattle.zre_zmtp.specs.declared.progress.Progress.{Progress}
use Rattle.zre_zmtp.specs.declared.expected.Expected.TheVariants as expect
use Rattle.zre_zmtp.specs.Shown.{before_of, left_of, header_fault}
use Rattle.zre_zmtp.proofs.FrameFaults.{left-partial, header-short, header-within, header-refused}
use Rattle.zre_zmtp.proofs.LooksByTurn.{at_most}
use Rattle.zre_zmtp.proofs.TurnsOfReaders.{turn_refused}
use Rattle.zre_zmtp.proofs.progress.Progress.take_header.Goals as goal

-- the octets of the header so far, and one more
grown : (p : Progress) (part : Partial) (more : List ℕ) (x : ℕ) → p.expected ≢ expect.Greeting → p.partial.header ≡ None → part ≡ p.partial → more ≡ part.head ++ x ∷ [] → left_of p ++ x ∷ [] ≡ more
grown p part more x frame unknown was e =
    let none = part.apart (ap (λ (y : Partial). y.header) was ∙ unknown) in
    ap (λ (o : List ℕ). o ++ x ∷ []) (left-partial p part frame was ∙ ap (λ (o : List ℕ). part.head ++ o) none ∙ append-nil part.head) ∙ sym e

pub returns-in-Some-clause-refused : goal.returns-in-Some-clause-refused
returns-in-Some-clause-refused c =
    let b = before_of c.args.self.now in
    let all = grown c.args.self.now c.replace-head.result c.push.new.self c.args.octet c.requires.frame c.requires.header c.replace-head.ensures.value c.push.ensures in
    let bad : header_fault b c.push.new.self ≡ Some c.in-Some.why = ap (λ (o : List ℕ). header_fault b o) (sym c.as_slice.ensures) ∙ sym c.fault_of_header.ensures ∙ c.in-Some.is in
    λ w. rw all (turn_refused c.args.want.now b c.push.new.self c.args.out.now c.args.out.now _ (header-refused c.args.want.now b c.push.new.self c.in-Some.why c.requires.frame bad) refl)

pub begin_body-requires-clause-within : goal.begin_body-requires-clause-within
begin_body-requires-clause-within c =
    let p = c.replace-head.result in
    header-within p.head c.push.new.self c.args.octet (sym p.known ∙ ap (λ (x : Partial). x.header) c.replace-head.ensures.value ∙ c.requires.header) p.within c.push.ensures

pub returns-clause-ok : goal.returns-clause-ok
returns-clause-ok c =
    let all = grown c.args.self.now c.replace-head.result c.push.new.self c.args.octet c.requires.frame c.requires.header c.replace-head.ensures.value c.push.ensures in
    λ w. rw all c.begin_body.ensures.ok

pub returns-clause-refused : goal.returns-clause-refused
returns-clause-refused c =
    let all = grown c.args.self.now c.replace-head.result c.push.new.self c.args.octet c.requires.frame c.requires.header c.replace-head.ensures.value c.push.ensures in
    λ w. rw all c.begin_body.ensures.refused

pub returns-clause-held : goal.returns-clause-held
returns-clause-held c =
    let all = grown c.args.self.now c.replace-head.result c.push.new.self c.args.octet c.requires.frame c.requires.header c.replace-head.ensures.value c.push.ensures in
    at_most c.begin_body.result _ _ _ (omega (arith, ap length all, length-append (left_of c.args.self.now) (c.args.octet ∷ []))) c.begin_body.ensures.held

pub push-requires : goal.push-requires
push-requires c =
    let p = c.replace-head.result in
    header-short p.head (sym p.known ∙ ap (λ (x : Partial). x.header) c.replace-head.ensures.value ∙ c.requires.header) p.within
