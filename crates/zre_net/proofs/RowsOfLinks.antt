-- The rows of links, and the links that they stand for.
use Rattle.std.proofs.Common.{◌≡◌, ℕ, zero, suc, ◌+◌, List, [], ◌∷◌, ◌++◌, length, map, Some, None, refl, sym, ap, ◌∙◌, arith, inl, inr}
use Rattle.std.specs.Prelude.{slice_get, slice_set, drop, sum_by}
use Rattle.std.specs.List.{AllByRecursion}
use Rattle.std.specs.Option.{option_map}
use Rattle.std.proofs.lemmas.List.Sums.{sum_by-cons}
use Rattle.zre_net.specs.declared.running.lines.Row.{Row}
use Rattle.zre_net.specs.Lists.{nth}
use Rattle.zre_net.specs.Lines.{Line, line_of, messages_at, message_octets, octets_in, HasTexts, IsNoted, IsNotedAt}
use Rattle.zre_net.specs.Texts.{Text, numbered, messages_from, IsOfText}
use Rattle.zre_net.proofs.ListsCountedFromOne.{some_one, set_back, sum_set, all_at, all_map}
use Rattle.zre_net.proofs.TextsStay.{as_many, all_stay, same_messages, one_message, message_at, no_message}

-- ---- one row

-- nothing was put on the link
pub none_noted : (texts : List Text) (sent count : ℕ) (waits : List ℕ) (x y : Row) → count ≡ length x.places → sent ≡ count → y.places ≡ x.places → y.waited ≡ length waits → IsNoted sent waits (line_of texts x) (line_of texts y)
none_noted texts sent count waits x y c s p w =
    record { waited = w; messages = inl (s ∙ c ∙ sym (as_many 1 texts x.places), ap (messages_from 1 texts) p) }

module _ (texts more now : List Text) (grown : now ≡ texts ++ more) (sent count : ℕ) (x y : Row) (place : ℕ) (m : List ℕ) (all : HasTexts texts x) (c : count ≡ length x.places) (s : sent ≡ count + 1) (put : y.places ≡ x.places ++ place ∷ []) (is : IsOfText now sent place m) where
  longer : (line_of now y).messages ≡ (line_of texts x).messages ++ m ∷ []
  longer =
      ap (messages_from 1 now) put ∙ one_message now 1 x.places sent place m (omega (arith, c, s)) is
      ∙ ap (λ ms. ms ++ m ∷ []) (same_messages texts more now grown 1 x.places all)

  -- one message was put on the link
  pub one_noted : (waits : List ℕ) → m ≡ drop x.waited waits → y.waited ≡ length waits → IsNoted sent waits (line_of texts x) (line_of now y)
  one_noted waits last w = record {
    waited = w;
    messages = inr ((let a = as_many 1 texts x.places in omega (arith, a, c, s)), longer ∙ ap (λ o. (line_of texts x).messages ++ o ∷ []) last);
  }

  sum_last : (ms : List (List ℕ)) → sum_by (λ o. length o) (ms ++ m ∷ []) ≡ sum_by (λ o. length o) ms + length m
  sum_last [] = let a = sum_by-cons (λ (o : List ℕ). length o) m [] in omega (arith, a)
  sum_last (o ∷ ms) =
      let a = sum_by-cons (λ (p : List ℕ). length p) o (ms ++ m ∷ []) in
      let b = sum_by-cons (λ (p : List ℕ). length p) o ms in
      let r = sum_last ms in
      omega (arith, a, b, r)

  pub one_counted : (octets sum : ℕ) → sum ≡ octets + length m → sum + message_octets (line_of texts x) ≡ octets + message_octets (line_of now y)
  one_counted octets sum e =
      let a = ap (sum_by (λ (o : List ℕ). length o)) longer in
      let b = sum_last (line_of texts x).messages in
      omega (arith, e, a, b)

-- ---- all rows

set_mapped : {A B : Type 0} (f : A → B) (xs : List A) (i : ℕ) (x : A) → map f (slice_set xs i x) ≡ slice_set (map f xs) i (f x)
set_mapped f [] i x = refl
set_mapped f (y ∷ ys) zero x = refl
set_mapped f (y ∷ ys) (suc i) x = ap (λ zs. f y ∷ zs) (set_mapped f ys i x)

got_mapped : {A B : Type 0} (f : A → B) (xs : List A) (i : ℕ) (x : A) → slice_get xs i ≡ Some x → slice_get (map f xs) i ≡ Some (f x)
got_mapped f [] i x e = absurd cc
got_mapped f (y ∷ ys) zero x e = ap (λ z. Some (f z)) (some_one e)
got_mapped f (y ∷ ys) (suc i) x e = got_mapped f ys i x e

all_set : {A : Type 0} (P : A → Type 0) (xs : List A) (i : ℕ) (x : A) → AllByRecursion P xs → P x → AllByRecursion P (slice_set xs i x)
all_set P [] i x a p = tt
all_set P (y ∷ ys) zero x a p = (p, a.1)
all_set P (y ∷ ys) (suc i) x a p = (a.0, all_set P ys i x a.1 p)

module _ (texts more now : List Text) (grown : now ≡ texts ++ more) (rows : List Row) (all : AllByRecursion (HasTexts texts) rows) where
  pub same_lines : (xs : List Row) → AllByRecursion (HasTexts texts) xs → map (line_of now) xs ≡ map (line_of texts) xs
  same_lines [] a = refl
  same_lines (x ∷ xs) a =
      ap (λ ms. record { messages = ms; waited = x.waited } ∷ map (line_of now) xs) (same_messages texts more now grown 1 x.places a.0)
      ∙ ap (λ ls. line_of texts x ∷ ls) (same_lines xs a.1)

  pub set_there : (i : ℕ) (y : Row) → HasTexts now y → AllByRecursion (HasTexts now) (slice_set rows i y)
  set_there i y a = all_set (HasTexts now) rows i y (all_map (HasTexts texts) (HasTexts now) (λ x b. all_stay texts more now grown x.places b) rows all) a

  pub set_lines : (i : ℕ) (y : Row) → map (line_of now) (slice_set rows i y) ≡ slice_set (map (line_of texts) rows) i (line_of now y)
  set_lines i y = set_mapped (line_of now) rows i y ∙ ap (λ ls. slice_set ls i (line_of now y)) (same_lines rows all)

  -- a row that stays as it was
  pub lines_stay : (i : ℕ) (x y : Row) → slice_get rows i ≡ Some x → y ≡ x → map (line_of now) (slice_set rows i y) ≡ map (line_of texts) rows
  lines_stay i x y e same = ap (λ z. map (line_of now) (slice_set rows i z)) same ∙ ap (map (line_of now)) (set_back rows i x e) ∙ same_lines rows all

  pub set_counted : (i : ℕ) (x y : Row) (octets sum : ℕ) → slice_get rows i ≡ Some x → octets ≡ octets_in (map (line_of texts) rows) → sum + message_octets (line_of texts x) ≡ octets + message_octets (line_of now y)
      → sum ≡ octets_in (map (line_of now) (slice_set rows i y))
  set_counted i x y octets sum e o s =
      let a = ap octets_in (set_lines i y) in
      let b = sum_set message_octets (map (line_of texts) rows) i (line_of texts x) (line_of now y) (got_mapped (line_of texts) rows i x e) in
      omega (arith, a, b, o, s)

  pub noted_at : (sent i : ℕ) (waits : List ℕ) (x y : Row) (lines : List Line) → slice_get rows i ≡ Some x → map (line_of texts) rows ≡ lines → IsNoted sent waits (line_of texts x) (line_of now y)
      → IsNotedAt sent waits i lines (map (line_of now) (slice_set rows i y))
  noted_at sent i waits x y lines e view n = record {
    before = line_of texts x;
    now = line_of now y;
    was = ap (λ ls. slice_get ls i) (sym view) ∙ got_mapped (line_of texts) rows i x e;
    is = set_lines i y ∙ ap (λ ls. slice_set ls i (line_of now y)) view;
    noted = n;
  }

-- ---- a message of a link

module _ (texts : List Text) (rows : List Row) (all : AllByRecursion (HasTexts texts) rows) (link : ℕ) (x : Row) (e : nth link rows ≡ Some x) where
  messages_are : messages_at link (map (line_of texts) rows) ≡ messages_from 1 texts x.places
  messages_are = at link rows e
    where
      at : (l : ℕ) (xs : List Row) → nth l xs ≡ Some x → messages_at l (map (line_of texts) xs) ≡ messages_from 1 texts x.places
      at zero xs q = absurd cc
      at (suc l) [] q = absurd cc
      at (suc zero) (y ∷ ys) q = ap (λ (z : Row). messages_from 1 texts z.places) (some_one q)
      at (suc (suc l)) (y ∷ ys) q = at (suc l) ys q

  pub one_read : (number p : ℕ) → nth number x.places ≡ Some p → option_map (numbered number) (nth p texts) ≡ nth number (messages_at link (map (line_of texts) rows))
  one_read zero p q = absurd cc
  one_read (suc j) p q =
      let same : suc j ≡ 1 + j = omega arith in
      ap (λ k. option_map (numbered k) (nth p texts)) same ∙ message_at texts 1 j p x.places (all_at (HasTexts texts) link rows x all e) q ∙ ap (nth (suc j)) (sym messages_are)

  pub none_read : (number : ℕ) → nth number x.places ≡ None → nth number (messages_at link (map (line_of texts) rows)) ≡ None
  none_read zero q = refl
  none_read (suc j) q = ap (nth (suc j)) messages_are ∙ no_message texts 1 j x.places q
