-- The last octets of parts.
use Rattle.std.proofs.Common.{◌≡◌, ℕ, ◌+◌, ◌-◌, ◌<◌, List, ◌++◌, length, take, drop, sym, ap, ◌∙◌, arith, length-append, append_assoc}
use Rattle.std.specs.Prelude.{get_or, min}
use Rattle.std.specs.List.{concat}
use Rattle.std.proofs.Math.Seq.{drop-append-add}
use Rattle.std.proofs.lemmas.List.{take-append-drop, drop_more}
use Rattle.std.proofs.lemmas.List.Folds.{concat-append}
use Rattle.bytes.proofs.Chunks.{drop-append_min}
use Rattle.zre_link.proofs.RemovedOctets.{drop_both}

parted : (parts : List (List ℕ)) (i : ℕ) → concat parts ≡ concat (take i parts) ++ concat (drop i parts)
parted parts i = ap concat (sym (take-append-drop i parts)) ∙ concat-append (take i parts) (drop i parts)

from_part : (parts : List (List ℕ)) (part : List ℕ) (i : ℕ) → i < length parts → part ≡ get_or parts i part → concat (drop i parts) ≡ part ++ concat (drop (i + 1) parts)
from_part parts part i lt is = ap concat (drop_more parts i part lt) ∙ ap (λ p. p ++ concat (drop (i + 1) parts)) (sym is)

-- they begin in this part, where so many of them don't stand in those after it
pub begin_in : (parts : List (List ℕ)) (part : List ℕ) (i next count left size : ℕ) → i < length parts → next ≡ i + 1 → part ≡ get_or parts i part → size ≡ length part → left < size
    → left + length (concat (drop next parts)) ≡ count → drop (size - left) (concat (drop i parts)) ≡ drop (length (concat parts) - count) (concat parts)
begin_in parts part i next count left size lt after is len less rest =
    let whole = ap length (parted parts i) ∙ length-append (concat (take i parts)) (concat (drop i parts)) in
    let here = ap length (from_part parts part i lt is) ∙ length-append part (concat (drop (i + 1) parts)) in
    let later = ap (λ k. length (concat (drop k parts))) after in
    let at : length (concat (take i parts)) + (size - left) ≡ length (concat parts) - count = omega (arith, whole, here, later, len, less, rest) in
    sym (drop-append-add (concat (take i parts)) (concat (drop i parts)) (size - left))
    ∙ ap (λ l. drop (length (concat (take i parts)) + (size - left)) l) (sym (parted parts i)) ∙ ap (λ n. drop n (concat parts)) at

-- one part more was copied, without those that are still to be left out
pub copied : (parts : List (List ℕ)) (part : List ℕ) (i skip at : ℕ) (out more : List ℕ) → i < length parts → part ≡ get_or parts i part → at ≡ min skip (length part)
    → more ≡ out ++ drop at part → more ++ drop (skip - at) (concat (drop (i + 1) parts)) ≡ out ++ drop skip (concat (drop i parts))
copied parts part i skip at out more lt is few added =
    let rest = concat (drop (i + 1) parts) in
    ap (λ l. l ++ drop (skip - at) rest) added ∙ append_assoc out (drop at part) (drop (skip - at) rest)
    ∙ ap (λ n. out ++ (drop n part ++ drop (skip - n) rest)) few ∙ ap (λ l. out ++ l) (sym (drop-append_min part rest skip))
    ∙ ap (λ l. out ++ drop skip l) (sym (from_part parts part i lt is))

-- the last of two lists, where the second has too few
pub last_of_both : (parts newest whole got : List ℕ) (count : ℕ) → parts ++ newest ≡ whole → length newest < count → got ≡ drop (length parts - (count - length newest)) parts ++ newest
    → got ≡ drop (length whole - count) whole
last_of_both parts newest whole got count is few got_is =
    let len = length-append parts newest in
    let here : length parts - (count - length newest) ≡ length (parts ++ newest) - count = omega (arith, len, few) in
    let none : 0 ≡ length (parts ++ newest) - count - length parts = omega (arith, len, few) in
    got_is ∙ ap (λ n. drop n parts ++ newest) here ∙ ap (λ k. drop (length (parts ++ newest) - count) parts ++ drop k newest) none
    ∙ drop_both (length (parts ++ newest) - count) parts newest ∙ ap (λ w. drop (length w - count) w) is
