-- Pieces one after another.
use Rattle.std.proofs.Common.{◌≡◌, ℕ, ◌+◌, ◌<◌, ◌≤◌, List, [], ◌∷◌, ◌++◌, length, take, drop, get_or, Some, refl, sym, ap, subst, ◌∙◌, append_assoc, arith}
use Rattle.std.specs.List.{concat}
use Rattle.std.proofs.lemmas.List.{take_more, append-nil, drop_at, drop_all, take_all, take-append-drop, length-append}
use Rattle.zre_zmtp.specs.declared.item.Item.{Item}
use Rattle.zre_zmtp.specs.declared.fault.FeedFault.{FeedFault}
use Rattle.zre_zmtp.specs.declared.fault.FeedFault.TheVariants.{Zmtp, OutOfMemory}
use Rattle.zre_zmtp.specs.Stream.{Want, Kind, items, fault}
use Rattle.zre_zmtp.specs.Reading.{Reading, Reads, Refuses, Adds, IsOver, new_items}
use Rattle.zre_zmtp.proofs.ReadersFollowStreams.{extends, is_over}

-- ---- lists of lists

pub concat-append : (xs ys : List (List ℕ)) → concat (xs ++ ys) ≡ concat xs ++ concat ys
concat-append [] ys = refl
concat-append (x ∷ xs) ys = ap (λ l. x ++ l) (concat-append xs ys) ∙ sym (append_assoc x (concat xs) (concat ys))

pub concat-take : (xs : List (List ℕ)) (x : List ℕ) (i : ℕ) → i < length xs → x ≡ get_or xs i x → concat (take (i + 1) xs) ≡ concat (take i xs) ++ x
concat-take xs x i lt is =
    ap concat (take_more xs i x lt ∙ ap (λ y. take i xs ++ y ∷ []) (sym is)) ∙ concat-append (take i xs) (x ∷ []) ∙ ap (λ l. concat (take i xs) ++ l) (append-nil x)

pub length-take-more : (xs : List (List ℕ)) (x : List ℕ) (i : ℕ) → i < length xs → x ≡ get_or xs i x → length (concat (take (i + 1) xs)) ≡ length (concat (take i xs)) + length x
length-take-more xs x i lt is = ap length (concat-take xs x i lt is) ∙ length-append (concat (take i xs)) x

pub length-within : (xs : List (List ℕ)) (x : List ℕ) (i : ℕ) → i < length xs → x ≡ get_or xs i x → length (concat (take i xs)) + length x ≤ length (concat xs)
length-within xs x i lt is =
    let rest = concat (drop (i + 1) xs) in
    let all : concat xs ≡ concat (take (i + 1) xs) ++ rest = ap concat (sym (take-append-drop (i + 1) xs)) ∙ concat-append (take (i + 1) xs) (drop (i + 1) xs) in
    omega (arith, ap length all, length-append (concat (take (i + 1) xs)) rest, length-take-more xs x i lt is)

-- ---- more items

appended-more : (want : Want) (kind : Kind) (o p q : List ℕ) → new_items want kind o (p ++ q) ≡ new_items want kind o p ++ new_items want kind (o ++ p) q
appended-more want kind o p q =
    let i = items want kind o in
    let all : items want kind (o ++ (p ++ q)) ≡ i ++ (new_items want kind o p ++ new_items want kind (o ++ p) q) =
    ap (λ l. items want kind l) (sym (append_assoc o p q)) ∙ extends want kind (o ++ p) q ∙ ap (λ is. is ++ new_items want kind (o ++ p) q) (extends want kind o p)
    ∙ append_assoc i (new_items want kind o p) (new_items want kind (o ++ p) q) in
    ap (λ (is : List Item). drop (length i) is) all ∙ drop_at i (new_items want kind o p ++ new_items want kind (o ++ p) q) (length i) refl

pub adds-more : (want : Want) (kind : Kind) (o p q : List ℕ) (old mid new : List Item) → Adds want kind o p old mid → Adds want kind (o ++ p) q mid new → Adds want kind o (p ++ q) old new
adds-more want kind o p q old mid new a b =
    record {
      extended = extends want kind o (p ++ q);
      appended = b.appended ∙ ap (λ (is : List Item). is ++ new_items want kind (o ++ p) q) a.appended ∙ append_assoc old (new_items want kind o p) (new_items want kind (o ++ p) q)
          ∙ ap (λ (is : List Item). old ++ is) (sym (appended-more want kind o p q));
    }

-- ---- a loop over pieces

-- the first i pieces were read after o
pub record HasRead (want : Want) (kind : Kind) (o : List ℕ) (pieces : List (List ℕ)) (i : ℕ) (r : Reading) (old out : List Item) : Type 0 where
  pub reads : Reads want kind (o ++ concat (take i pieces)) r
  pub adds : Adds want kind o (concat (take i pieces)) old out

pub read_none : (want : Want) (kind : Kind) (o : List ℕ) (pieces : List (List ℕ)) (r : Reading) (out : List Item) → Reads want kind o r → HasRead want kind o pieces 0 r out out
read_none want kind o pieces r out h =
    let same : o ++ [] ≡ o = append-nil o in
    let none : new_items want kind o [] ≡ [] = ap (λ (l : List ℕ). drop (length (items want kind o)) (items want kind l)) same ∙ drop_all (length (items want kind o)) (items want kind o) (omega arith) in
    record {
      reads = subst (λ (l : List ℕ). Reads want kind l r) (sym same) h;
      adds = record { extended = extends want kind o []; appended = sym (append-nil out) ∙ ap (λ (is : List Item). out ++ is) (sym none) };
    }

pub read_one_more : (want : Want) (kind : Kind) (o : List ℕ) (pieces : List (List ℕ)) (i : ℕ) (piece : List ℕ) (r now : Reading) (old out new : List Item) → i < length pieces → piece ≡ get_or pieces i piece
    → HasRead want kind o pieces i r old out → Reads want kind ((o ++ concat (take i pieces)) ++ piece) now × Adds want kind (o ++ concat (take i pieces)) piece out new → HasRead want kind o pieces (i + 1) now old new
read_one_more want kind o pieces i piece r now old out new lt is h step =
    let e = concat-take pieces piece i lt is in
    let reads : Reads want kind (o ++ (concat (take i pieces) ++ piece)) now = subst (λ (l : List ℕ). Reads want kind l now) (append_assoc o (concat (take i pieces)) piece) step.0 in
    record {
      reads = subst (λ (l : List ℕ). Reads want kind (o ++ l) now) (sym e) reads;
      adds = subst (λ (l : List ℕ). Adds want kind o l old new) (sym e) (adds-more want kind o (concat (take i pieces)) piece old out new h.adds step.1);
    }

pub read_whole : (want : Want) (kind : Kind) (o : List ℕ) (pieces : List (List ℕ)) (i : ℕ) (r : Reading) (old out : List Item) → length pieces ≤ i → HasRead want kind o pieces i r old out
    → Reads want kind (o ++ concat pieces) r × Adds want kind o (concat pieces) old out
read_whole want kind o pieces i r old out all h =
    let e : concat (take i pieces) ≡ concat pieces = ap concat (take_all i pieces all) in
    (subst (λ (l : List ℕ). Reads want kind (o ++ l) r) e h.reads, subst (λ (l : List ℕ). Adds want kind o l old out) e h.adds)

-- a fault in one piece is that of all of them
pub read_refused : (want : Want) (kind : Kind) (o : List ℕ) (pieces : List (List ℕ)) (i : ℕ) (piece : List ℕ) (r : Reading) (old out new : List Item) (e : FeedFault) → i < length pieces → piece ≡ get_or pieces i piece
    → HasRead want kind o pieces i r old out
    → Refuses e (fault want kind ((o ++ concat (take i pieces)) ++ piece)) (Adds want kind (o ++ concat (take i pieces)) piece out new × IsOver want kind ((o ++ concat (take i pieces)) ++ piece))
    → Refuses e (fault want kind (o ++ concat pieces)) (Adds want kind o (concat pieces) old new × IsOver want kind (o ++ concat pieces))
read_refused want kind o pieces i piece r old out new OutOfMemory lt is h refused = tt
read_refused want kind o pieces i piece r old out new (Zmtp x) lt is h refused =
    let p = concat (take i pieces) in
    let rest = concat (drop (i + 1) pieces) in
    let q = p ++ piece in
    let front : (o ++ p) ++ piece ≡ o ++ q = append_assoc o p piece in
    let all : concat pieces ≡ q ++ rest = ap concat (sym (take-append-drop (i + 1) pieces)) ∙ concat-append (take (i + 1) pieces) (drop (i + 1) pieces) ∙ ap (λ (l : List ℕ). l ++ rest) (concat-take pieces piece i lt is) in
    let whole : o ++ concat pieces ≡ (o ++ q) ++ rest = ap (λ (l : List ℕ). o ++ l) all ∙ sym (append_assoc o q rest) in
    let over : IsOver want kind (o ++ q) = subst (λ (l : List ℕ). IsOver want kind l) front refused.1.1 in
    let bad : fault want kind (o ++ concat pieces) ≡ Some x = ap (λ l. fault want kind l) whole ∙ over.fault rest ∙ ap (λ l. fault want kind l) (sym front) ∙ refused.0 in
    let a = adds-more want kind o p piece old out new h.adds refused.1.0 in
    let same : new_items want kind o q ≡ new_items want kind o (concat pieces) = ap (λ (is : List Item). drop (length (items want kind o)) is) (sym (ap (λ l. items want kind l) whole ∙ over.items rest)) in
    (bad, (record { extended = extends want kind o (concat pieces); appended = a.appended ∙ ap (λ (is : List Item). old ++ is) same }, is_over want kind (o ++ concat pieces) x bad))
