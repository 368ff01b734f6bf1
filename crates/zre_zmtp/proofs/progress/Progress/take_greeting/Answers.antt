use Rattle.std.proofs.Common.{◌≡◌, ◌<◌, ◌≤◌, ◌∙◌, ◌∷◌, [], ◌++◌, List, ℕ, length, sym, ap, arith}
use Rattle.zre_zmtp.specs.Shown.{before_of, left_of}
use Rattle.zre_zmtp.proofs.FrameFaults.{left-greeting}
use Rattle.zre_zmtp.proofs.TurnsOfReaders.{greeting_refused, greeting_waits, greeting_whole}
use Rattle.zre_zmtp.proofs.progress.Progress.take_greeting.Goals as goal

pub returns-in-Some-clause-refused : goal.returns-in-Some-clause-refused
returns-in-Some-clause-refused g c =
    let p = c.args.self.now in
    let left : left_of p ≡ p.greeting = left-greeting p.expected p.greeting _ _ c.requires in
    λ want w. greeting_refused want (before_of p) (left_of p) c.args.octet c.len-i.result c.in-Some.why c.args.out.now c.requires w (c.len-i.ensures ∙ ap length (sym left)) (sym c.fault_of_octet.ensures ∙ c.in-Some.is)

pub returns-then-len-lt-GREETING_OCTETS-clause-ok :
    goal.returns-then-len-lt-GREETING_OCTETS-clause-ok
returns-then-len-lt-GREETING_OCTETS-clause-ok g c =
    let p = c.args.self.now in
    let left : left_of p ≡ p.greeting = left-greeting p.expected p.greeting _ _ c.requires in
    let now : left_of (record p { greeting = c.add.new.self }) ≡ c.add.new.self = left-greeting p.expected c.add.new.self _ _ c.requires in
    let more : c.add.new.self ≡ left_of p ++ c.args.octet ∷ [] = c.in_ok-add.ensures.ok ∙ ap (λ (o : List ℕ). o ++ c.args.octet ∷ []) (sym left) in
    let few : length c.add.new.self < 64 = omega (arith, c.len.ensures, c.if-len-lt-GREETING_OCTETS.true) in
    λ want w. greeting_waits want (before_of p) (left_of p) (left_of (record p { greeting = c.add.new.self })) c.args.octet c.len-i.result c.args.out.now c.requires w (c.len-i.ensures ∙ ap length (sym left))
    (sym c.fault_of_octet.ensures ∙ c.in_default.is) (now ∙ more) (rw now few)

pub returns-clause-ok : goal.returns-clause-ok
returns-clause-ok g c =
    let p = c.args.self.now in
    let left : left_of p ≡ p.greeting = left-greeting p.expected p.greeting _ _ c.requires in
    let more : c.add.new.self ≡ left_of p ++ c.args.octet ∷ [] = c.in_ok-add.ensures.ok ∙ ap (λ (o : List ℕ). o ++ c.args.octet ∷ []) (sym left) in
    let many : 64 ≤ length c.add.new.self = omega (arith, c.len.ensures, c.if-len-lt-GREETING_OCTETS.false) in
    λ want w. greeting_whole want (before_of p) (left_of p) c.add.new.self c.args.octet c.len-i.result c.in_ok-finish_greeting.field-0 c.args.out.now c.push.new.self _ _ c.requires w (c.len-i.ensures ∙ ap length (sym left))
    (sym c.fault_of_octet.ensures ∙ c.in_default.is) more many c.in_ok-finish_greeting.ensures.says c.in_ok-push.ensures.ok c.in_ok-finish_greeting.ensures.after c.in_ok-finish_greeting.ensures.left
