-- Texts stay where they are as one more is put beside them, and so do the messages that have them.
use Rattle.std.proofs.Common.{◌≡◌, ℕ, zero, suc, ◌+◌, List, [], ◌∷◌, ◌++◌, length, map, Option, Some, None, take, drop, refl, sym, ap, ◌∙◌, subst, arith, append_assoc, append-nil}
use Rattle.std.specs.Prelude.{Result, Ok, Err, OnErr, slice_get}
use Rattle.std.specs.List.{AllByRecursion}
use Rattle.std.proofs.lemmas.List.{drop-drop, take-append-drop}
use Rattle.std.specs.Option.{option_map, option_map_or}
use Rattle.zre_net.specs.declared.running.texts.Place.{Place}
use Rattle.zre_net.specs.Lists.{nth, joined}
use Rattle.zre_net.specs.Texts.{Text, numbered, text_at, IsPlaced, IsPut, IsOfText, messages_from, AreThere}
use Rattle.zre_net.proofs.ListsCountedFromOne.{some_one, nth_last, nth_more, all_map}

module _ (short now : List ℕ) (long longs : List (List ℕ)) (text : Text) (at : Place) (is : IsPut short long text at now longs) where
  pub same_texts : (ps : List Place) → AllByRecursion (IsPlaced (length short) (length long)) ps → map (text_at now longs) ps ≡ map (text_at short long) ps
  same_texts [] all = refl
  same_texts (p ∷ ps) all = ap (λ t. t ∷ map (text_at now longs) ps) (is.others p all.0).1 ∙ ap (λ ts. text_at short long p ∷ ts) (same_texts ps all.1)

  pub more_texts : (ps : List Place) → AllByRecursion (IsPlaced (length short) (length long)) ps → map (text_at now longs) (ps ++ at ∷ []) ≡ map (text_at short long) ps ++ text ∷ []
  more_texts [] all = ap (λ t. t ∷ []) is.is
  more_texts (p ∷ ps) all = ap (λ t. t ∷ map (text_at now longs) (ps ++ at ∷ [])) (is.others p all.0).1 ∙ ap (λ ts. text_at short long p ∷ ts) (more_texts ps all.1)

pub on_error : {T E A C : Type 0} (r : Result T E) → OnErr r A → (A → C) → OnErr r C
on_error (Ok x) a f = tt
on_error (Err x) a f = f a

-- a message has the text that was put for it
pub has_last : (texts now : List Text) (t : Text) (k n : ℕ) (m : List ℕ) → now ≡ texts ++ t ∷ [] → n ≡ length texts → numbered k t ≡ m → IsOfText now k (n + 1) m
has_last texts now t k n m e c is =
    ap (λ ts. option_map (numbered k) (nth (n + 1) ts)) e ∙ ap (λ j. option_map (numbered k) (nth (j + 1) (texts ++ t ∷ []))) c
    ∙ ap (option_map (numbered k)) (nth_last texts t) ∙ ap Some is

pub joined_more : (parts : List (List ℕ)) (part : List ℕ) → joined (parts ++ part ∷ []) ≡ joined parts ++ part
joined_more [] part = append-nil part
joined_more (p ∷ ps) part = ap (λ o. p ++ o) (joined_more ps part) ∙ sym (append_assoc p (joined ps) part)

-- octets and one part more, of the rest of a text
pub part_more : (octets all part : List ℕ) (from : ℕ) → all ++ drop from octets ≡ octets → part ≡ take (length part) (drop from octets) → (all ++ part) ++ drop (from + length part) octets ≡ octets
part_more octets all part from was is =
    let rest = drop from octets in
    append_assoc all part (drop (from + length part) octets)
    ∙ ap (λ o. all ++ (part ++ o)) (sym (drop-drop (length part) from octets))
    ∙ ap (λ o. all ++ (o ++ drop (length part) rest)) is
    ∙ ap (λ o. all ++ o) (take-append-drop (length part) rest) ∙ was

-- ---- the messages of a link

found : (k : ℕ) (o : Option Text) (m : List ℕ) → option_map (numbered k) o ≡ Some m → (t : Text) × (o ≡ Some t)
found k None m e = absurd cc
found k (Some t) m e = (t, refl)

pub message_of : (k : ℕ) (o : Option Text) (m : List ℕ) → option_map (numbered k) o ≡ Some m → option_map_or (numbered k) o [] ≡ m
message_of k None m e = absurd cc
message_of k (Some t) m e = some_one e

of_text : (k : ℕ) (o : Option Text) (t : Text) → o ≡ Some t → option_map (numbered k) o ≡ Some (option_map_or (numbered k) o [])
of_text k None t e = absurd cc
of_text k (Some s) t e = refl

pub as_many : (k : ℕ) (texts : List Text) (ps : List ℕ) → length (messages_from k texts ps) ≡ length ps
as_many k texts [] = refl
as_many k texts (p ∷ ps) = let r = as_many (k + 1) texts ps in omega (arith, r)

-- a message is found under its number
pub message_at : (texts : List Text) (k j p : ℕ) (ps : List ℕ) → AreThere texts ps → slice_get ps j ≡ Some p → option_map (numbered (k + j)) (nth p texts) ≡ slice_get (messages_from k texts ps) j
message_at texts k j p [] all e = absurd cc
message_at texts k zero p (q ∷ ps) all e =
    let same : q ≡ p = some_one e in
    let one : k + 0 ≡ k = omega arith in
    ap (λ i. option_map (numbered i) (nth p texts)) one ∙ ap (λ i. option_map (numbered k) (nth i texts)) (sym same) ∙ of_text k (nth q texts) all.0.0 all.0.1
message_at texts k (suc j) p (q ∷ ps) all e =
    let one : k + suc j ≡ k + 1 + j = omega arith in
    ap (λ i. option_map (numbered i) (nth p texts)) one ∙ message_at texts (k + 1) j p ps all.1 e

pub no_message : (texts : List Text) (k j : ℕ) (ps : List ℕ) → slice_get ps j ≡ None → slice_get (messages_from k texts ps) j ≡ None
no_message texts k j [] e = refl
no_message texts k zero (q ∷ ps) e = absurd cc
no_message texts k (suc j) (q ∷ ps) e = no_message texts (k + 1) j ps e

-- ---- texts come after those that are there

module _ (texts more now : List Text) (grown : now ≡ texts ++ more) where
  stays : (p : ℕ) (t : Text) → nth p texts ≡ Some t → nth p now ≡ Some t
  stays p t e = ap (nth p) grown ∙ nth_more p texts more t e

  pub all_stay : (ps : List ℕ) → AreThere texts ps → AreThere now ps
  all_stay ps all = all_map (λ p. (t : Text) × (nth p texts ≡ Some t)) (λ p. (t : Text) × (nth p now ≡ Some t)) (λ p a. (a.0, stays p a.0 a.1)) ps all

  pub same_messages : (k : ℕ) (ps : List ℕ) → AreThere texts ps → messages_from k now ps ≡ messages_from k texts ps
  same_messages k [] all = refl
  same_messages k (p ∷ ps) all =
      ap (λ o. option_map_or (numbered k) o [] ∷ messages_from (k + 1) now ps) (stays p all.0.0 all.0.1 ∙ sym all.0.1)
      ∙ ap (λ ms. option_map_or (numbered k) (nth p texts) [] ∷ ms) (same_messages (k + 1) ps all.1)

-- one message more
pub one_there : (now : List Text) (ps : List ℕ) (k p : ℕ) (m : List ℕ) → AreThere now ps → IsOfText now k p m → AreThere now (ps ++ p ∷ [])
one_there now [] k p m all is = (found k (nth p now) m is, tt)
one_there now (q ∷ ps) k p m all is = (all.0, one_there now ps k p m all.1 is)

pub one_message : (now : List Text) (k : ℕ) (ps : List ℕ) (n p : ℕ) (m : List ℕ) → n ≡ k + length ps → IsOfText now n p m → messages_from k now (ps ++ p ∷ []) ≡ messages_from k now ps ++ m ∷ []
one_message now k [] n p m e is =
    let same : n ≡ k = omega (arith, e) in
    ap (λ o. o ∷ []) (message_of k (nth p now) m (subst (λ j. IsOfText now j p m) same is))
one_message now k (q ∷ ps) n p m e is = ap (λ ms. option_map_or (numbered k) (nth q now) [] ∷ ms) (one_message now (k + 1) ps n p m (omega (arith, e)) is)
