use Rattle.std.proofs.Common.{◌≡◌, ◌≤◌, ◌++◌, List, ℕ, length, drop, sym, ap, ◌∙◌}
use Rattle.std.specs.List.{flat_map}
use Rattle.std.proofs.lemmas.List.{append-nil, drop_all}
use Rattle.zre_values.specs.Framing.{frame, frames}
use Rattle.zre_zmtp.proofs.WrittenFrames.{frames-last}
use Rattle.zre_zmtp.proofs.writing.write_message.Goals as goal

all_written : (octets : List ℕ) (others : List (List ℕ)) (i : ℕ) → length others ≤ i → octets ++ flat_map (λ y. frame 1 y) (drop i others) ≡ flat_map (λ y. frame 1 y) others → octets ≡ flat_map (λ y. frame 1 y) others
all_written octets others i done so_far = sym (append-nil octets) ∙ ap (λ xs. octets ++ flat_map (λ y. frame 1 y) xs) (sym (drop_all i others done)) ∙ so_far

pub returns : goal.returns
returns c =
    let others = c.in-Some.others.now in
    let last = c.in-Some.last.now in
    let done = all_written c.loop-frame.octets others c.loop-frame.frame-index c.loop-frame-test.false c.loop-frame.invariant in
    c.in_ok-push_frame-2.ensures
    ∙ ap (λ x. x ++ frame 0 c.as_slice-2.result.now) done
    ∙ ap (λ x. flat_map (λ y. frame 1 y) others ++ frame 0 x) c.as_slice-2.ensures
    ∙ frames-last others last
    ∙ ap frames (sym c.in-Some.ensures.cases.0 ∙ c.as_slice.ensures)
