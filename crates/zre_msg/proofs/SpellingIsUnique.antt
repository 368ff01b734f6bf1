-- No message's octets begin another's.
use Rattle.std.proofs.Common.{◌≡◌, ℕ, suc, ◌^◌, ◌<◌, Bool, true, false, cond, ltb, List, [], ◌∷◌, ◌++◌, length, take, drop, refl, sym, ap, subst, ◌∙◌, append_assoc, arith}
use Rattle.std.specs.List.{AllByRecursion}
use Rattle.std.specs.Int.{w64, from_be_bytes, to_be_bytes}
use Rattle.std.proofs.lemmas.List.{take_at, drop_at}
use Rattle.std.proofs.lemmas.Nat.{from_be_bytes-to_be_bytes_8}
use Rattle.zre_msg.specs.declared.message.Message.{Message}
use Rattle.std.proofs.lemmas.List.Elements.{recursion_from_All}
use Rattle.zre_values.specs.Framing.{frame, frames, FitsFrame}
use Rattle.zre_values.proofs.QuotedTexts.{heads}
use Rattle.zre_msg.specs.Spelling.{spell, octets, HasOctets, Means}
use Rattle.zre_msg.proofs.MeansIsRead.{Means-one}

split : (xs ys a b : List ℕ) → length xs ≡ length ys → xs ++ a ≡ ys ++ b → (xs ≡ ys) × (a ≡ b)
split xs ys a b len e = (
  sym (take_at xs a (length ys) len) ∙ ap (take (length ys)) e ∙ take_at ys b (length ys) refl,
  sym (drop_at xs a (length ys) len) ∙ ap (drop (length ys)) e ∙ drop_at ys b (length ys) refl,
)

split_eight : (xs ys a b : List ℕ) → length xs ≡ 8 → length ys ≡ 8 → xs ++ a ≡ ys ++ b → (xs ≡ ys) × (a ≡ b)
split_eight xs ys a b p q e = split xs ys a b (p ∙ sym q) e

-- the parts of a frame, by whether it is short
abbrev by_len : Bool → ℕ → List ℕ → List ℕ
by_len short s body = cond short (s ∷ (length body ∷ body)) (suc (suc s) ∷ (to_be_bytes w64 (length body) ++ body))

front : (p q : Bool) (s t : ℕ) (x y a b : List ℕ) → s < 2 → t < 2 → length x < 2 ^ 64 → length y < 2 ^ 64 → by_len p s x ++ a ≡ by_len q t y ++ b → (s ≡ t) × (x ≡ y) × (a ≡ b)
front true true s t x y a b hs ht hx hy e =
    let h = heads s t _ _ e in
    let l = heads (length x) (length y) _ _ h.1 in
    let r = split x y a b l.0 l.1 in
    (h.0, r.0, r.1)
front true false s t x y a b hs ht hx hy e = let h = heads s (suc (suc t)) _ _ e in absurd (omega (arith, h.0, hs))
front false true s t x y a b hs ht hx hy e = let h = heads (suc (suc s)) t _ _ e in absurd (omega (arith, h.0, ht))
front false false s t x y a b hs ht hx hy e =
    let h = heads (suc (suc s)) (suc (suc t)) _ _ e in
    let size = split_eight (to_be_bytes w64 (length x)) (to_be_bytes w64 (length y)) (x ++ a) (y ++ b) refl refl h.1 in
    let len : length x ≡ length y = sym (from_be_bytes-to_be_bytes_8 (length x) hx) ∙ ap (from_be_bytes w64) size.0 ∙ from_be_bytes-to_be_bytes_8 (length y) hy in
    let r = split x y a b len size.1 in
    (omega (arith, h.0), r.0, r.1)

frame_front : (s t : ℕ) (x y a b : List ℕ) → s < 2 → t < 2 → FitsFrame x → FitsFrame y → frame s x ++ a ≡ frame t y ++ b → (s ≡ t) × (x ≡ y) × (a ≡ b)
frame_front s t x y a b hs ht hx hy e = front (ltb (length x) 256) (ltb (length y) 256) s t x y a b hs ht hx hy e

frames_front : (x y : List ℕ) (f g : List (List ℕ)) (a b : List ℕ) → AllByRecursion FitsFrame (x ∷ f) → AllByRecursion FitsFrame (y ∷ g) → frames (x ∷ f) ++ a ≡ frames (y ∷ g) ++ b
    → (x ∷ f ≡ y ∷ g) × (a ≡ b)
frames_front x y [] [] a b hf hg e =
    let r = frame_front 0 0 x y a b (omega arith) (omega arith) hf.0 hg.0 e in (ap (λ z. z ∷ []) r.1, r.2)
frames_front x y [] (z ∷ g) a b hf hg e =
    let r = frame_front 0 1 x y a (frames (z ∷ g) ++ b) (omega arith) (omega arith) hf.0 hg.0 (e ∙ append_assoc (frame 1 y) (frames (z ∷ g)) b) in
    absurd (omega (arith, r.0))
frames_front x y (w ∷ f) [] a b hf hg e =
    let r = frame_front 1 0 x y (frames (w ∷ f) ++ a) b (omega arith) (omega arith) hf.0 hg.0 (sym (append_assoc (frame 1 x) (frames (w ∷ f)) a) ∙ e) in
    absurd (omega (arith, r.0))
frames_front x y (w ∷ f) (z ∷ g) a b hf hg e =
    let r = frame_front 1 1 x y (frames (w ∷ f) ++ a) (frames (z ∷ g) ++ b) (omega arith) (omega arith) hf.0 hg.0
    (sym (append_assoc (frame 1 x) (frames (w ∷ f)) a) ∙ e ∙ append_assoc (frame 1 y) (frames (z ∷ g)) b) in
    let s = frames_front w z f g a b hf.1 hg.1 r.2 in
    (ap (λ v. v ∷ w ∷ f) r.1 ∙ ap (λ v. y ∷ v) s.0, s.1)

frames-fit : (m : Message) → HasOctets m → AllByRecursion FitsFrame (spell m)
frames-fit m h = recursion_from_All FitsFrame (spell m) h.frames_fit

-- no message's octets begin another's
pub octets-one : (m n : Message) (a b : List ℕ) → HasOctets m → HasOctets n → octets m ++ a ≡ octets n ++ b → m ≡ n
octets-one m n a b h k e =
    let same : spell m ≡ spell n = (frames_front _ _ _ _ a b (frames-fit m h) (frames-fit n k) e).0 in
    Means-one (spell n) m n (subst (λ (f : List (List ℕ)). Means f m) same h.means) k.means
