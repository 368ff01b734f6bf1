use Rattle.std.proofs.Common.{◌≡◌, true, ℕ, ◌+◌, List, [], ◌++◌, length, take, drop, Some, None, refl, sym, ap, ◌∙◌, arith, append_assoc}
use Rattle.std.proofs.lemmas.List.{take-append-le, take_all, length-append}
use Rattle.std.proofs.lemmas.Result.{err_from_is_err_and}
use Rattle.zre_zmtp.specs.declared.partial.Partial.{Partial}
use Rattle.zre_zmtp.specs.Stream.{Before, fault_of}
use Rattle.zre_zmtp.specs.Run.{run_all}
use Rattle.zre_zmtp.specs.Shown.{before_of, left_of, header_fault, is_content}
use Rattle.zre_zmtp.proofs.ContentFrames.{content_is_faultless}
use Rattle.zre_zmtp.proofs.FaultsStay.{fault_of-stays}
use Rattle.zre_zmtp.proofs.FrameFaults.{head_of, header-refused, is_framed, left-nothing}
use Rattle.zre_zmtp.proofs.LooksByTurn.{frame_kept}
use Rattle.zre_zmtp.proofs.TurnsOfReaders.{begins, joined, waits_from, no_part, no_octets, turn_refused, refused_turn, frame_taken}
use Rattle.zre_zmtp.proofs.progress.Progress.take_whole.Goals as goal

-- a header, a body and what stands after them
parted : (o head later body rest : List ℕ) → o ≡ head ++ later → later ≡ body ++ rest → o ≡ (head ++ body) ++ rest
parted o head later body rest p q = p ∙ ap (λ (x : List ℕ). head ++ x) q ∙ sym (append_assoc head body rest)

front_of : (o head body rest : List ℕ) → o ≡ (head ++ body) ++ rest → take (length head + length body) o ≡ head ++ body
front_of o head body rest is =
    ap (λ (x : List ℕ). take (length head + length body) x) is
    ∙ ap (λ n. take n ((head ++ body) ++ rest)) (sym (length-append head body))
    ∙ take-append-le (length (head ++ body)) (head ++ body) rest (omega arith)
    ∙ take_all (length (head ++ body)) (head ++ body) (omega arith)

-- what was copied to where nothing was
copied : (all none body : List ℕ) → all ≡ none ++ body → none ≡ [] → all ≡ body
copied all none body is nothing = is ∙ ap (λ (x : List ℕ). x ++ body) nothing

pub returns-in-Some-clause-refused : goal.returns-in-Some-clause-refused
returns-in-Some-clause-refused g c =
    let b = before_of c.args.self.now in
    let o = c.args.octets.now in
    let at = head_of c.args.header o c.split_at.result.0.now c.split_at.result.1.now c.requires.header
    (c.split_at.ensures.front ∙ ap (λ n. take n o) c.header_len.ensures) (c.split_at.ensures.back ∙ ap (λ n. drop n o) c.header_len.ensures) in
    let bad : header_fault b c.split_at.result.0.now ≡ Some c.in-Some.why = sym (c.fault_of_whole.ensures c.split_at.result.0.now at.header) ∙ c.in-Some.is in
    turn_refused c.args.want.now b o c.args.out.now c.args.out.now _
    (ap (λ (x : List ℕ). fault_of c.args.want.now b x) at.whole
    ∙ fault_of-stays c.args.want.now b c.split_at.result.0.now c.split_at.result.1.now _ (header-refused c.args.want.now b c.split_at.result.0.now c.in-Some.why c.requires.frame bad)) refl

pub returns-in_err-take_frame-clause-refused : goal.returns-in_err-take_frame-clause-refused
returns-in_err-take_frame-clause-refused g c =
    let p = err_from_is_err_and c.from_residual-in_err-take_frame.result c.from_residual-in_err-take_frame.ensures.1 in
    let b = before_of c.args.self.now in
    let o = c.args.octets.now in
    let out = c.args.out.now in
    let head = c.of-head.result in
    let at = head_of c.args.header o head c.split_at.result.1.now c.requires.header
    (c.of-head.ensures ∙ c.split_at.ensures.front ∙ ap (λ n. take n o) c.header_len.ensures) (c.split_at.ensures.back ∙ ap (λ n. drop n o) c.header_len.ensures) in
    let fine : header_fault b head ≡ None = sym (c.fault_of_whole.ensures head at.header) ∙ c.in_default.is in
    let whole = parted o head c.split_at.result.1.now c.add.new.self _ at.whole
    (joined _ c.split_at.result.1.now c.add.new.self (copied c.add.new.self c.new-copied.result c.split_at-2.result.0.now c.in_ok-add.ensures.ok c.new-copied.ensures.empty ∙ c.split_at-2.ensures.front)) in
    rw (p.1, p.2) (refused_turn c.args.want.now out out c.take_frame.new.out (run_all c.args.want.now b o) b [] (head ++ c.add.new.self) _ o c.in_err-take_frame.field-0.0 whole
    (begins c.args.want.now b [] o out (waits_from c.args.want.now b [] (no_part c.args.want.now b) (no_octets c.args.want.now b.expected b))) (c.in_err-take_frame.ensures.refused fine))

pub returns-clause-ok : goal.returns-clause-ok
returns-clause-ok g c =
    let b = before_of c.args.self.now in
    let o = c.args.octets.now in
    let head = c.of-head.result in
    let at = head_of c.args.header o head c.split_at.result.1.now c.requires.header
    (c.of-head.ensures ∙ c.split_at.ensures.front ∙ ap (λ n. take n o) c.header_len.ensures) (c.split_at.ensures.back ∙ ap (λ n. drop n o) c.header_len.ensures) in
    let fine : header_fault b head ≡ None = sym (c.fault_of_whole.ensures head at.header) ∙ c.in_default.is in
    let same = copied c.add.new.self c.new-copied.result c.split_at-2.result.0.now c.in_ok-add.ensures.ok c.new-copied.ensures.empty in
    let whole = parted o head c.split_at.result.1.now c.add.new.self _ at.whole
    (joined _ c.split_at.result.1.now c.add.new.self (same ∙ c.split_at-2.ensures.front)) in
    let front : take (length c.split_at.result.0.now + length c.split_at-2.result.0.now) o ≡ head ++ c.add.new.self =
    ap (λ (x : List ℕ). take (length x + length c.split_at-2.result.0.now) o) (sym c.of-head.ensures)
    ∙ ap (λ (x : List ℕ). take (length head + length x) o) (sym same) ∙ front_of o head c.add.new.self _ whole in
    rw front (c.in_ok-take_frame.ensures.ok fine)

pub returns-then-is_content-clause-ok : goal.returns-then-is_content-clause-ok
returns-then-is_content-clause-ok g c =
    let b = before_of c.args.self.now in
    let o = c.args.octets.now in
    let head = c.split_at.result.0.now in
    let body = c.split_at-2.result.0.now in
    let at = head_of c.args.header o head c.split_at.result.1.now c.requires.header
    (c.split_at.ensures.front ∙ ap (λ n. take n o) c.header_len.ensures) (c.split_at.ensures.back ∙ ap (λ n. drop n o) c.header_len.ensures) in
    let fine : header_fault b head ≡ None = sym (c.fault_of_whole.ensures head at.header) ∙ c.in_default.is in
    let whole = parted o head c.split_at.result.1.now body _ at.whole (joined _ c.split_at.result.1.now body c.split_at-2.ensures.front) in
    let m : is_content b.expected c.args.header.flags ≡ true = sym c.is_content.ensures ∙ c.if-is_content.true in
    let e = c.in_ok-finish_lent_content.ensures in
    let now = c.finish_lent_content.new.self in
    let none : now.partial.head ≡ [] = ap (λ (p : Partial). p.head) e.partial ∙ c.requires.no_head in
    let none' : now.partial.body ≡ [] = ap (λ (p : Partial). p.body) e.partial ∙ c.requires.no_body in
    rw (front_of o head body _ whole)
    (frame_taken c.args.want.now b c.args.header head body (length head) c.args.out.now c.finish_lent_content.new.out (before_of now) (left_of now)
    (is_framed c.args.want.now b c.args.header head body c.requires.frame at.header at.within c.split_at-2.ensures.front_len fine)
    (content_is_faultless c.args.want.now b c.args.header.flags body m) refl e.given e.after
    (left-nothing now.expected now.greeting now.partial.head now.partial.body (ap (λ (x : Before). x.expected) e.after) none none'))

pub returns-then-is_content-clause-held : goal.returns-then-is_content-clause-held
returns-then-is_content-clause-held g c =
    let b = before_of c.args.self.now in
    let body = c.split_at-2.result.0.now in
    let e = c.in_ok-finish_lent_content.ensures in
    let now = c.finish_lent_content.new.self in
    let none : now.partial.head ≡ [] = ap (λ (p : Partial). p.head) e.partial ∙ c.requires.no_head in
    let none' : now.partial.body ≡ [] = ap (λ (p : Partial). p.body) e.partial ∙ c.requires.no_body in
    let kept = frame_kept b c.args.header body _ (before_of now) (left_of now) e.after
    (left-nothing now.expected now.greeting now.partial.head now.partial.body (ap (λ (x : Before). x.expected) e.after) none none') in
    omega (arith, kept, c.split_at-2.ensures.front_len)

pub returns-clause-held : goal.returns-clause-held
returns-clause-held g c =
    let same = copied c.add.new.self c.new-copied.result c.split_at-2.result.0.now c.in_ok-add.ensures.ok c.new-copied.ensures.empty in
    let sized : length c.add.new.self ≡ c.args.header.size = ap length same ∙ c.split_at-2.ensures.front_len in
    omega (arith, c.in_ok-take_frame.ensures.held_whole sized, sized)
