-- Draws, one by one.
use Rattle.std.proofs.Common.{◌≡◌, ℕ, zero, suc, ◌+◌, ◌-◌, ◌*◌, ◌<◌, ◌≤◌, List, [], ◌++◌, length, refl, sym, ap, ◌∙◌, append_assoc, append-nil, arith}
use Rattle.std.proofs.lemmas.List.{length-append}
use Rattle.std.specs.Int.{w32, to_be_bytes}
use Rattle.zre_capture.specs.Draws.{drawn, upper_half, after_draws, octets_drawn}

pub no_draws : (x : ℕ) → after_draws 0 x ≡ x
unfolding after_draws
no_draws x = refl

pub no_octets : (x : ℕ) → octets_drawn 0 x ≡ []
unfolding octets_drawn
no_octets x = refl

pub one_draw : (n : ℕ) (x : ℕ) → 0 < n → after_draws n x ≡ after_draws (n - 1) (drawn x)
unfolding after_draws
one_draw zero x h = absurd (omega arith)
one_draw (suc n) x h = let e : suc n - 1 ≡ n = omega arith in ap (λ m. after_draws m (drawn x)) (sym e)

pub four_octets : (n : ℕ) (x : ℕ) → 0 < n → octets_drawn n x ≡ to_be_bytes w32 (upper_half (drawn x)) ++ octets_drawn (n - 1) (drawn x)
unfolding octets_drawn
four_octets zero x h = absurd (omega arith)
four_octets (suc n) x h = let e : suc n - 1 ≡ n = omega arith in ap (λ m. to_be_bytes w32 (upper_half (drawn x)) ++ octets_drawn m (drawn x)) (sym e)

-- the octets of one more draw are appended
pub appended_draw : (out before : List ℕ) (n : ℕ) (x : ℕ) (all : List ℕ) → 0 < n → out ++ octets_drawn n x ≡ before ++ all →
    (out ++ to_be_bytes w32 (upper_half (drawn x))) ++ octets_drawn (n - 1) (drawn x) ≡ before ++ all
appended_draw out before n x all h e = append_assoc out _ _ ∙ sym (ap (λ (o : List ℕ). out ++ o) (four_octets n x h)) ∙ e

-- the draws that are left lead from here to where all lead, and give what is still to be appended
pub record Drawing (left x count from : ℕ) (out before : List ℕ) : Type 0 where
  pub after : after_draws left x ≡ after_draws count from
  pub octets : out ++ octets_drawn left x ≡ before ++ octets_drawn count from
  pub total : length out + 4 * left ≡ length before + 4 * count

pub next_draw : (left x count from : ℕ) (out before now octets : List ℕ) (y draw : ℕ) → Drawing left x count from out before → 0 < left →
    y ≡ drawn x → draw ≡ upper_half y → octets ≡ to_be_bytes w32 draw → now ≡ out ++ octets → Drawing (left - 1) y count from now before
next_draw left x count from out before now octets y draw d some to half spelled appended = record {
  after = ap (after_draws (left - 1)) to ∙ sym (one_draw left x some) ∙ d.after;
  octets = ap (λ (o : List ℕ). o ++ octets_drawn (left - 1) y) (appended ∙ ap (λ (o : List ℕ). out ++ o) (spelled ∙ ap (to_be_bytes w32) (half ∙ ap upper_half to)))
      ∙ ap (λ z. (out ++ to_be_bytes w32 (upper_half (drawn x))) ++ octets_drawn (left - 1) z) to
      ∙ appended_draw out before left x (octets_drawn count from) some d.octets;
  total = omega (arith, d.total, some, ap (λ (o : List ℕ). length o) appended, length-append out octets, ap (λ (o : List ℕ). length o) spelled);
}

pub all_drawn_octets : (left x count from : ℕ) (out before : List ℕ) → Drawing left x count from out before → left ≤ 0 → out ≡ before ++ octets_drawn count from
all_drawn_octets left x count from out before d z =
    let e : left ≡ 0 = omega arith in
    sym (append-nil out) ∙ ap (λ (o : List ℕ). out ++ o) (sym (no_octets x) ∙ ap (λ n. octets_drawn n x) (sym e)) ∙ d.octets

pub all_drawn : (left x count from : ℕ) (out before : List ℕ) → Drawing left x count from out before → left ≤ 0 → x ≡ after_draws count from
all_drawn left x count from out before d z =
    let e : left ≡ 0 = omega arith in
    sym (no_draws x) ∙ ap (λ n. after_draws n x) (sym e) ∙ d.after
