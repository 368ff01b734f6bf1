use Rattle.std.proofs.Common.{◌≡◌, ◌∷◌, [], ◌++◌, ℕ, ◌-◌, List, length, get_or, slice_get, slice_set, Some, ap, sym, ◌∙◌, arith}
use Rattle.std.proofs.Math.Seq.{set-append_seam, get_or-append_seam}
use Rattle.std.proofs.lemmas.List.{length-append}
use Rattle.std.proofs.lemmas.Option.{get_or_from_slice_get}
use Rattle.zre_zmtp.specs.declared.item.Item.{Item}
use Rattle.zre_zmtp.specs.declared.item.What.TheVariants.{Message}
use Rattle.zre_zmtp.proofs.item.push_message.Goals as goal

last_place : (xs all : List Item) (x : Item) (n : ℕ) → all ≡ xs ++ x ∷ [] → n ≡ length all → n - 1 ≡ length xs
last_place xs all x n is at = omega (arith, at, ap length is, length-append xs (x ∷ []))

last_set : (xs all : List Item) (x y : Item) (n : ℕ) → all ≡ xs ++ x ∷ [] → n ≡ length all → slice_set all (n - 1) y ≡ xs ++ y ∷ []
last_set xs all x y n is at = ap (λ (a : List Item). slice_set a (n - 1) y) is ∙ ap (λ k. slice_set (xs ++ x ∷ []) k y) (last_place xs all x n is at) ∙ set-append_seam xs x [] y

last_got : (xs all : List Item) (x y : Item) (n : ℕ) → all ≡ xs ++ x ∷ [] → n ≡ length all → slice_get all (n - 1) ≡ Some y → y ≡ x
last_got xs all x y n is at got =
    sym (get_or_from_slice_get all (n - 1) y y got)
    ∙ ap (λ (a : List Item). get_or a (n - 1) y) is
    ∙ ap (λ k. get_or (xs ++ x ∷ []) k y) (last_place xs all x n is at)
    ∙ get_or-append_seam xs x [] y

pub returns-clause-given : goal.returns-clause-given
returns-clause-given g c =
    let is = c.in_ok-push.ensures.ok in
    let len = c.len-last.ensures in
    let got = last_got c.args.out.now c.push.new.self _ c.get_mut.result.now c.len-last.result is len c.get_mut.ensures.value in
    last_set c.args.out.now c.push.new.self _ c.append_body.new.item c.len-last.result is len
    ∙ ap (λ (i : Item). c.args.out.now ++ i ∷ [])
    (c.in_ok-append_body.ensures.appended ∙ ap (λ (i : Item). let x : Item = record { start = i.start; end = i.end; what = Message (c.args.body.now ∷ []) } in x) got)
