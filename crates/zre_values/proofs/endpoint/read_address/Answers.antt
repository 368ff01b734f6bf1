use Rattle.std.proofs.Common.{◌≡◌, [], ◌∷◌, ℕ, Some, None, sym, ap, ◌∙◌}
use Rattle.zre_values.proofs.Addresses.{four, text-four}
use Rattle.zre_values.proofs.endpoint.read_address.Goals as goal

pub returns-in_default-octet_before_dot-clause-back : goal.returns-in_default-octet_before_dot-clause-back
returns-in_default-octet_before_dot-clause-back c = λ addr is e.
    let f = four addr is in
    let p = c.in-Some.ensures.back f.a _ f.a_fits (text-four addr c.args.text.now f e) in
    c.in_default-octet_before_dot.ensures.back f.b _ f.b_fits p.1

pub returns-in_default-octet_before_dot-2-clause-back : goal.returns-in_default-octet_before_dot-2-clause-back
returns-in_default-octet_before_dot-2-clause-back c = λ addr is e.
    let f = four addr is in
    let p = c.in-Some.ensures.back f.a _ f.a_fits (text-four addr c.args.text.now f e) in
    let q = c.in-Some-octet_before_dot.ensures.back f.b _ f.b_fits p.1 in
    c.in_default-octet_before_dot-2.ensures.back f.c _ f.c_fits q.1

pub returns-in_err-d-clause-back : goal.returns-in_err-d-clause-back
returns-in_err-d-clause-back c = λ addr is e.
    let f = four addr is in
    let p = c.in-Some.ensures.back f.a _ f.a_fits (text-four addr c.args.text.now f e) in
    let q = c.in-Some-octet_before_dot.ensures.back f.b _ f.b_fits p.1 in
    let r = c.in-Some-octet_before_dot-2.ensures.back f.c _ f.c_fits q.1 in
    let s : None ≡ Some f.d = c.in_err-d.ensures.back f.d f.d_fits r.1 in
    absurd cc s

pub returns-clause-back : goal.returns-clause-back
returns-clause-back c = λ addr is e.
    let f = four addr is in
    let p = c.in-Some.ensures.back f.a _ f.a_fits (text-four addr c.args.text.now f e) in
    let q = c.in-Some-octet_before_dot.ensures.back f.b _ f.b_fits p.1 in
    let r = c.in-Some-octet_before_dot-2.ensures.back f.c _ f.c_fits q.1 in
    let s : Some c.in_ok-d.d ≡ Some f.d = c.in_ok-d.ensures.back f.d f.d_fits r.1 in
    let d : c.in_ok-d.d ≡ f.d = cc s in
    let same : c.in-Some.a ∷ c.in-Some-octet_before_dot.b ∷ c.in-Some-octet_before_dot-2.c ∷ c.in_ok-d.d ∷ [] ≡ f.a ∷ f.b ∷ f.c ∷ f.d ∷ [] =
    ap (λ (x : ℕ). x ∷ c.in-Some-octet_before_dot.b ∷ c.in-Some-octet_before_dot-2.c ∷ c.in_ok-d.d ∷ []) p.0
    ∙ ap (λ (x : ℕ). f.a ∷ x ∷ c.in-Some-octet_before_dot-2.c ∷ c.in_ok-d.d ∷ []) q.0
    ∙ ap (λ (x : ℕ). f.a ∷ f.b ∷ x ∷ c.in_ok-d.d ∷ []) r.0
    ∙ ap (λ (x : ℕ). f.a ∷ f.b ∷ f.c ∷ x ∷ []) d in
    same ∙ sym f.is
