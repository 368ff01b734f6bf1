use Rattle.std.proofs.Common.{◌≡◌, ◌≢◌, [], ◌++◌, List, ℕ, length, None, refl, sym, ap, ◌∙◌, arith}
use Rattle.std.proofs.lemmas.List.{append-nil}
use Rattle.zre_zmtp.specs.Frame.{header_of}
use Rattle.zre_zmtp.specs.declared.progress.Progress.{Progress}
use Rattle.zre_zmtp.specs.declared.expected.Expected.TheVariants as expect
use Rattle.zre_zmtp.specs.Shown.{before_of, left_by}
use Rattle.zre_zmtp.proofs.FrameFaults.{left-frame, waits-no_header}
use Rattle.zre_zmtp.proofs.LooksByTurn.{at_most}
use Rattle.zre_zmtp.proofs.TurnsOfReaders.{turn_waits}
use Rattle.zre_zmtp.proofs.progress.Progress.begin_body.Goals as goal

-- what is left where a header alone is there
begun : (p : Progress) (head body : List ℕ) → p.expected ≢ expect.Greeting → body ≡ [] → left_by p.expected p.greeting head body ≡ head
begun p head body frame none = left-frame p.expected p.greeting head body frame ∙ ap (λ (o : List ℕ). head ++ o) none ∙ append-nil head

whole : (o head body : List ℕ) → head ≡ o → body ≡ [] → o ≡ head ++ body
whole o head body is none = rw (is, none) (sym (append-nil o))

pub returns-in_default-clause-ok : goal.returns-in_default-clause-ok
returns-in_default-clause-ok c =
    let b = before_of c.args.self.now in
    let o = c.args.head in
    let said : header_of o ≡ None = ap header_of (sym c.as_slice.ensures) ∙ sym c.read_header.ensures ∙ c.in_default.is in
    let still = waits-no_header c.args.want.now b o c.requires.frame c.requires.faultless said in
    let now = begun c.args.self.now o c.new-body.result c.requires.frame c.new-body.ensures.empty in
    turn_waits c.args.want.now b o c.args.out.now c.args.out.now b _ still.faultless still.partial refl refl now

pub returns-clause-ok : goal.returns-clause-ok
returns-clause-ok c =
    rw (whole c.args.head c.args.head c.new-body.result refl c.new-body.ensures.empty) (c.take_frame.ensures.ok c.requires.faultless)

pub returns-clause-refused : goal.returns-clause-refused
returns-clause-refused c =
    rw (whole c.args.head c.args.head c.new-body.result refl c.new-body.ensures.empty) (c.take_frame.ensures.refused c.requires.faultless)

pub returns-clause-held : goal.returns-clause-held
returns-clause-held c = at_most c.take_frame.result _ _ _ (omega (arith, ap length c.new-body.ensures.empty)) c.take_frame.ensures.held

pub returns-in_default-clause-held : goal.returns-in_default-clause-held
returns-in_default-clause-held c =
    let o = c.args.head in
    let now = begun c.args.self.now o c.new-body.result c.requires.frame c.new-body.ensures.empty in
    omega (arith, ap length now)
