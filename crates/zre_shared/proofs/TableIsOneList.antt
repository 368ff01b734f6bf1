-- The table of some writes is the one list that has what a table has.
use Rattle.std.proofs.Common.{◌≡◌, false, inl, inr, List, [], ◌∷◌, ◌++◌, refl, sym, ap, ◌∙◌, subst}
use Rattle.std.specs.List.{Contains}
use Rattle.std.specs.declared.cmp.Ordering.TheVariants.{Equal}
use Rattle.std.proofs.lemmas.List.Elements.{All-from_recursion, recursion_from_All}
use Rattle.zre_shared.specs.declared.write.Write.{Write}
use Rattle.std.specs.Ordering.{is_gt}
use Rattle.zre_shared.specs.Tables.{by_key, by_age, put, table, IsCovered, IsTableOf, HaveSameMembers}
use Rattle.zre_shared.proofs.OrdersOfWrites.{key_total, same_write, alike}
use Rattle.zre_shared.proofs.RisingKeys.{In, in-from, contains-from, at_member, all_members, in-left, in-right, in-cases, Rising, rising-nil, one_of_key, same_list}
use Rattle.zre_shared.proofs.TableAfterWrite.{put-all, put-rising, covered-itself, covered-over, put-covers, put-keeps}

-- the same as IsTableOf, by members
pub record Tables (ws t : List Write) : Type 0 where
  pub rising : Rising t
  pub among : (x : Write) → In t x → In ws x
  pub greatest : (x : Write) → In ws x → IsCovered t x

pub public-from : (ws t : List Write) → Tables ws t → IsTableOf ws t
public-from ws t h = record {
  rising = h.rising;
  among = All-from_recursion (Contains ws) t (all_members (Contains ws) t (λ x i. contains-from ws x (h.among x i)));
  greatest = All-from_recursion (IsCovered t) ws (all_members (IsCovered t) ws h.greatest);
}

pub from-public : (ws t : List Write) → IsTableOf ws t → Tables ws t
from-public ws t h = record {
  rising = h.rising;
  among = λ x i. in-from ws x (at_member (Contains ws) t x (recursion_from_All (Contains ws) t h.among) i);
  greatest = λ x i. at_member (IsCovered t) ws x (recursion_from_All (IsCovered t) ws h.greatest) i;
}

pub tables : (ws : List Write) → Tables ws (table ws)
unfolding table
tables [] = record { rising = rising-nil; among = λ x i. i; greatest = λ x i. absurd i }
tables (w ∷ ws) =
    let h = tables ws in
    record {
      rising = put-rising w (table ws) h.rising;
      among = λ x i. at_member (In (w ∷ ws)) (put w (table ws)) x
          (put-all (In (w ∷ ws)) w (table ws) (inl refl) (all_members (In (w ∷ ws)) (table ws) (λ y j. inr (h.among y j)))) i;
      greatest = λ x i. first w ws h x i;
    }
  where
    first : (w : Write) (ws : List Write) → Tables ws (table ws) → (x : Write) → In (w ∷ ws) x → IsCovered (put w (table ws)) x
    first w ws h x (inl same) = subst (λ (y : Write). IsCovered (put w (table ws)) y) same (put-covers w (table ws))
    first w ws h x (inr later) = put-keeps w (table ws) x (h.greatest x later)

-- a member of one table is one of another of the same writes
in_other : (ws s t : List Write) → Tables ws s → Tables ws t → (x : Write) → In s x → In t x
in_other ws s t hs ht x i =
    let b = ht.greatest x (hs.among x i) in
    let c = hs.greatest b.by (ht.among b.by (in-from t b.by b.there)) in
    let key : by_key x c.by ≡ Equal = key_total.congr x b.by c.by b.same_key ∙ c.same_key in
    let back : x ≡ c.by = one_of_key s hs.rising x c.by i (in-from s c.by c.there) key in
    let no_less = subst (λ (y : Write). is_gt (by_age b.by y) ≡ false) (sym back) c.not_less in
    let same : x ≡ b.by = same_write x b.by b.same_key (alike x b.by b.not_less no_less) in
    subst (In t) (sym same) (in-from t b.by b.there)

pub one_table : (ws s t : List Write) → Tables ws s → Tables ws t → s ≡ t
one_table ws s t hs ht = same_list s t hs.rising ht.rising (in_other ws s t hs ht) (in_other ws t s ht hs)

pub is-table : (ws t : List Write) → Tables ws t → t ≡ table ws
is-table ws t h = one_table ws t (table ws) h (tables ws)

-- ---- laws

pub same_members : (xs ys : List Write) → ((x : Write) → In xs x → In ys x) → ((x : Write) → In ys x → In xs x) → table xs ≡ table ys
same_members xs ys to from =
    let h = tables xs in
    is-table ys (table xs) (record { rising = h.rising; among = λ x i. to x (h.among x i); greatest = λ x i. h.greatest x (from x i) })

pub members-public : (xs ys : List Write) → HaveSameMembers xs ys → table xs ≡ table ys
members-public xs ys h =
    same_members xs ys (λ x i. in-from ys x (at_member (Contains ys) xs x (recursion_from_All (Contains ys) xs h.there) i))
    (λ x i. in-from xs x (at_member (Contains xs) ys x (recursion_from_All (Contains xs) ys h.back) i))

-- a list with rising keys is its own table
pub rising-table : (ws : List Write) → Rising ws → table ws ≡ ws
rising-table ws r = sym (is-table ws ws (record { rising = r; among = λ x i. i; greatest = λ x i. covered-itself ws x i }))

-- a table stands for its writes
pub table-left : (xs ys : List Write) → table (table xs ++ ys) ≡ table (xs ++ ys)
table-left xs ys =
    let h = tables xs in
    let k = tables (table xs ++ ys) in
    is-table (xs ++ ys) (table (table xs ++ ys)) (record {
      rising = k.rising;
      among = λ x i. elim (in-cases (table xs) ys x (k.among x i)) [
        | inl left ↦ in-left xs ys x (h.among x left)
        | inr right ↦ in-right xs ys x right
      ];
      greatest = λ x i. elim (in-cases xs ys x i) [
        | inl left ↦
            (let c = h.greatest x left in
            covered-over (table (table xs ++ ys)) x c.by c.same_key c.not_less (k.greatest c.by (in-left (table xs) ys c.by (in-from (table xs) c.by c.there))))
        | inr right ↦ k.greatest x (in-right (table xs) ys x right)
      ];
    })

swapped : (xs ys : List Write) (x : Write) → In (xs ++ ys) x → In (ys ++ xs) x
swapped xs ys x i = elim (in-cases xs ys x i) [ inl left ↦ in-right ys xs x left | inr right ↦ in-left ys xs x right ]

pub table-swapped : (xs ys : List Write) → table (xs ++ ys) ≡ table (ys ++ xs)
table-swapped xs ys = same_members (xs ++ ys) (ys ++ xs) (swapped xs ys) (swapped ys xs)

pub table-right : (xs ys : List Write) → table (xs ++ table ys) ≡ table (xs ++ ys)
table-right xs ys = table-swapped xs (table ys) ∙ table-left ys xs ∙ table-swapped ys xs

-- a write that comes last is put in
pub put-table : (w : Write) (t : List Write) → Rising t → put w t ≡ table (t ++ w ∷ [])
unfolding table
put-table w t r = ap (put w) (sym (rising-table t r)) ∙ table-swapped (w ∷ []) t
