-- Lines that are read in one pass are those of their entries.
use Rattle.std.proofs.Common.{◌≡◌, ℕ, ◌+◌, ◌-◌, ◌*◌, ◌≤◌, ◌<◌, ◌^◌, List, ◌∷◌, ◌++◌, take, drop, Some, sym, ap, ◌∙◌, arith, add-one, append_assoc}
use Rattle.std.specs.Prelude.{decimal, codes}
use Rattle.std.proofs.Math.Nat.{pow-suc, pow-le-pow_right}
use Rattle.std.proofs.lemmas.List.{take-append-drop}
use Rattle.zre_outside.specs.declared.entry.Input.TheVariants as got
use Rattle.zre_capture.specs.declared.format.Format.{Format}
use Rattle.zre_capture.specs.Lines.{difference, reading_text, text}
use Rattle.zre_capture.specs.Values.{hex_of}
use Rattle.zre_capture.specs.Reading.{entry_of}
use Rattle.zre_capture.proofs.WrittenIsRead.{entry_of-text}
use Rattle.zre_capture.proofs.ReadingDifferences.{difference-up}
use Rattle.zre_capture.proofs.FieldTexts.{hex_of-some}

-- one more of nineteen digits at the most
pub record DigitFits (n i : ℕ) : Type 0 where
  pub fits : n < 2 ^ 64
  pub below : n < 10 ^ (i + 1)

pub digit-fits : (i n c : ℕ) → i < 18 → n < 10 ^ (i + 1) → c ≤ 57 → DigitFits (n * 10 + (c - 48)) (i + 1)
digit-fits i n c lt below high =
    let some : 0 < 10 = omega arith in
    let within : i + 1 ≤ 18 = omega (arith, lt) in
    let top : 10 ^ (i + 1) ≤ 10 ^ 18 = pow-le-pow_right some within in
    let more : 10 ^ (i + 1 + 1) ≡ 10 ^ (i + 1) * 10 = ap (λ (k : ℕ). 10 ^ k) (add-one (i + 1)) ∙ pow-suc 10 (i + 1) in
    record { fits = omega (arith, below, high, top); below = omega (arith, below, high, more) }

-- what stands after the digits that are read
pub digits-and-rest : (first : ℕ) (later rest : List ℕ) (i n : ℕ) → rest ≡ drop i later → decimal n ≡ decimal first ++ take i later → decimal n ++ rest ≡ decimal first ++ later
digits-and-rest first later rest i n is so_far =
    ap (λ (r : List ℕ). r ++ rest) so_far ∙ append_assoc (decimal first) (take i later) rest ∙ ap (λ (r : List ℕ). decimal first ++ (take i later ++ r)) is
    ∙ ap (λ (r : List ℕ). decimal first ++ r) (take-append-drop i later)

-- a reading that is no less is told by what it is more
pub more-difference : (before at n : ℕ) → at ≡ before + n → difference before at ≡ decimal n
more-difference before at n e = difference-up before at (omega (arith, e)) ∙ ap decimal (omega (arith, e))

pub tick-read : (f : Format) (before at : ℕ) (line rest : List ℕ) → before < 2 ^ 64 → at < 2 ^ 64 → line ≡ reading_text f before at ++ rest → rest ≡ codes " tick" → entry_of f before line ≡ Some (record { at = at; input = got.Tick })
tick-read f before at line rest fits is cut word =
    let same : line ≡ text f before (record { at = at; input = got.Tick }) = cut ∙ ap (λ (r : List ℕ). reading_text f before at ++ r) word in
    ap (entry_of f before) same ∙ entry_of-text f before (record { at = at; input = got.Tick }) fits (record { at = is; input = tt })

pub piece-read : (f : Format) (before at conn : ℕ) (line rest field bytes : List ℕ) → before < 2 ^ 64 → at < 2 ^ 64 → conn < 2 ^ 64 → line ≡ reading_text f before at ++ rest → rest ≡ codes " piece " ++ (decimal conn ++ (32 ∷ field)) → hex_of field ≡ Some bytes → entry_of f before line ≡ Some (record { at = at; input = got.Piece conn bytes })
piece-read f before at conn line rest field bytes fits is named cut parts octets =
    let t = hex_of-some field bytes octets in
    let same : line ≡ text f before (record { at = at; input = got.Piece conn bytes }) = cut ∙ ap (λ (r : List ℕ). reading_text f before at ++ r) (parts ∙ ap (λ (d : List ℕ). codes " piece " ++ (decimal conn ++ (32 ∷ d))) (sym t.text)) in
    ap (entry_of f before) same ∙ entry_of-text f before (record { at = at; input = got.Piece conn bytes }) fits (record { at = is; input = (named, t.is) })
