-- Frames and the writes that they are.
use Rattle.std.proofs.Common.{◌≡◌, ℕ, ◌<◌, ◌≤◌, ◌==◌, leb, true, false, Bool, List, [], ◌∷◌, ◌++◌, length, Some, None, inl, inr, refl, sym, ap, ◌∙◌, arith}
use Rattle.std.specs.Prelude.{codes, decimal, option_and_then}
use Rattle.std.specs.List.{list_all, join_with_byte}
use Rattle.std.specs.Str.{bytes_eq}
use Rattle.std.proofs.lemmas.Bool.{and_from, cases_Bool, le-leb, leb-true}
use Rattle.std.proofs.lemmas.Option.{same_Some}
use Rattle.std.proofs.lemmas.List.Splits.{length-slice_split, join_with_byte-slice_split}
use Rattle.std.proofs.lemmas.Slice.Eq.{bytes_eq-Decides}
use Rattle.zre_values.specs.Text.{id_text, quoted}
use Rattle.zre_values.specs.declared.peer_id.PeerId.{PeerId}
use Rattle.zre_capture.specs.Parts.{between, Lacks}
use Rattle.zre_capture.specs.Values.{number_of, id_of, group_of}
use Rattle.zre_capture.proofs.TextParts.{between-cut, between-whole}
use Rattle.zre_capture.proofs.FieldTexts.{IsTextOf, number_of-decimal, number_of-some, id_of-text, id_of-some, group_of-quoted, group_of-some}
use Rattle.zre_capture.proofs.VisibleFields.{visible, decimal-visible, id-visible, quoted-visible, fields-joined}
use Rattle.zre_capture.proofs.ReadIsSpelled.{stepped}
use Rattle.zre_shared.specs.declared.write.Write.{Write}
use Rattle.zre_shared.specs.declared.write.TheConstants.{KEY_OCTETS, VALUE_OCTETS}
use Rattle.zre_shared.specs.Writes.{fields, write_text, IsWrite, at_most, short_of, pair_of, said_by, write_in, write_of}

-- ---- field by field

-- one more field, after those that were found
pub next : (done : List (List ℕ)) (frame rest field after : List ℕ) → between 32 frame ≡ done ++ between 32 rest → rest ≡ field ++ (32 ∷ after) → Lacks 32 field → between 32 frame ≡ done ++ (field ∷ between 32 after)
next done frame rest field after e parts none = e ∙ ap (λ (l : List (List ℕ)). done ++ l) (between-cut 32 rest field after parts none)

-- the last field
pub last : (done : List (List ℕ)) (frame rest : List ℕ) → between 32 frame ≡ done ++ between 32 rest → Lacks 32 rest → between 32 frame ≡ done ++ (rest ∷ [])
last done frame rest e none = e ∙ ap (λ (l : List (List ℕ)). done ++ l) (between-whole 32 rest none)

-- the first fields, and what comes after them
pub first_field : {f w : List ℕ} (r : List ℕ) → f ≡ w ++ (32 ∷ r) → Lacks 32 w → between 32 f ≡ w ∷ between 32 r
first_field {f} {w} r p q = next [] f f w r refl p q

pub two_fields : {f w r n : List ℕ} (s : List ℕ) → f ≡ w ++ (32 ∷ r) → Lacks 32 w → r ≡ n ++ (32 ∷ s) → Lacks 32 n → between 32 f ≡ w ∷ n ∷ between 32 s
two_fields {f} {w} {r} {n} s p q p2 q2 = next (w ∷ []) f r n s (first_field r p q) p2 q2

pub three_fields : {f w r n s i : List ℕ} (t : List ℕ) → f ≡ w ++ (32 ∷ r) → Lacks 32 w → r ≡ n ++ (32 ∷ s) → Lacks 32 n → s ≡ i ++ (32 ∷ t) → Lacks 32 i → between 32 f ≡ w ∷ n ∷ i ∷ between 32 t
three_fields {f} {w} {r} {n} {s} {i} t p q p2 q2 p3 q3 = next (w ∷ n ∷ []) f s i t (two_fields s p q p2 q2) p3 q3

pub four_fields : {f w r n s i t k : List ℕ} (v : List ℕ) → f ≡ w ++ (32 ∷ r) → Lacks 32 w → r ≡ n ++ (32 ∷ s) → Lacks 32 n → s ≡ i ++ (32 ∷ t) → Lacks 32 i → t ≡ k ++ (32 ∷ v) → Lacks 32 k
    → between 32 f ≡ w ∷ n ∷ i ∷ k ∷ between 32 v
four_fields {f} {w} {r} {n} {s} {i} {t} {k} v p q p2 q2 p3 q3 p4 q4 = next (w ∷ n ∷ i ∷ []) f t k v (three_fields t p q p2 q2 p3 q3) p4 q4

-- what the fields make
pub of_fields : (frame : List ℕ) (fs : List (List ℕ)) → between 32 frame ≡ fs → write_of frame ≡ write_in fs
unfolding write_of
of_fields frame fs e = ap write_in e

abbrev pub word : List ℕ → Bool
word w = bytes_eq w (codes "zre-set")

not_word : (w c i k : List ℕ) (fs : List (List ℕ)) → word w ≡ false → write_in (w ∷ c ∷ i ∷ k ∷ fs) ≡ None
not_word w c i k [] e = refl
not_word w c i k (v ∷ []) e = rw e refl
not_word w c i k (v ∷ x ∷ fs) e = refl

pub other_word : (frame w c i k rest : List ℕ) → between 32 frame ≡ w ∷ c ∷ i ∷ k ∷ between 32 rest → word w ≡ false → write_of frame ≡ None
other_word frame w c i k rest e other = of_fields frame (w ∷ c ∷ i ∷ k ∷ between 32 rest) e ∙ not_word w c i k (between 32 rest) other

six : (w c i k v : List ℕ) (fs : List (List ℕ)) → 0 < length fs → write_in (w ∷ c ∷ i ∷ k ∷ v ∷ fs) ≡ None
six w c i k v [] some = absurd (omega (arith, some))
six w c i k v (x ∷ fs) some = refl

pub too_many : (frame w c i k v rest : List ℕ) → between 32 frame ≡ w ∷ c ∷ i ∷ k ∷ v ∷ between 32 rest → write_of frame ≡ None
too_many frame w c i k v rest e =
    of_fields frame (w ∷ c ∷ i ∷ k ∷ v ∷ between 32 rest) e ∙ six w c i k v (between 32 rest) (omega (arith, length-slice_split (λ b. b == 32) rest))

pub five : (frame w c i k v : List ℕ) → between 32 frame ≡ w ∷ c ∷ i ∷ k ∷ v ∷ [] → word w ≡ true → write_of frame ≡ said_by c i k v
five frame w c i k v e is = of_fields frame (w ∷ c ∷ i ∷ k ∷ v ∷ []) e ∙ rw is refl

-- ---- a write is read from its frame

short-quoted : (most : ℕ) (o : List ℕ) → group_of (quoted o) ≡ Some o → length o ≤ most → short_of most (quoted o) ≡ Some o
unfolding short_of
short-quoted most o e fits = rw (e, le-leb (length o) most fits) refl

pair-quoted : (w : Write) → IsWrite w → pair_of (quoted w.key) (quoted w.value) ≡ Some (w.key, w.value)
unfolding pair_of
pair-quoted w is =
    rw (short-quoted KEY_OCTETS w.key (group_of-quoted w.key is.key) is.key_fits, short-quoted VALUE_OCTETS w.value (group_of-quoted w.value is.value) is.value_fits) refl

said-text : (w : Write) → IsWrite w → said_by (decimal w.count) (id_text w.id) (quoted w.key) (quoted w.value) ≡ Some w
unfolding said_by
said-text w is = rw (number_of-decimal w.count is.count, id_of-text w.id is.id, pair-quoted w is) refl

fields-visible : (w : Write) → IsWrite w → list_all visible (fields w) ≡ true
fields-visible w is =
    and_from true (list_all visible (decimal w.count ∷ id_text w.id ∷ quoted w.key ∷ quoted w.value ∷ [])) refl
    (and_from (visible (decimal w.count)) (list_all visible (id_text w.id ∷ quoted w.key ∷ quoted w.value ∷ [])) (decimal-visible w.count is.count)
    (and_from (visible (id_text w.id)) (list_all visible (quoted w.key ∷ quoted w.value ∷ [])) (id-visible w.id)
    (and_from (visible (quoted w.key)) (list_all visible (quoted w.value ∷ [])) (quoted-visible w.key is.key)
    (and_from (visible (quoted w.value)) true (quoted-visible w.value is.value) refl))))

pub write_of-text : (w : Write) → IsWrite w → write_of (write_text w) ≡ Some w
write_of-text w is =
    five (write_text w) (codes "zre-set") (decimal w.count) (id_text w.id) (quoted w.key) (quoted w.value)
    (fields-joined (codes "zre-set") (decimal w.count ∷ id_text w.id ∷ quoted w.key ∷ quoted w.value ∷ []) (fields-visible w is)) refl
    ∙ said-text w is

-- ---- a frame that is read is its write's

record IsShort (most : ℕ) (o field : List ℕ) : Type 0 where
  group : group_of field ≡ Some o
  fits : length o ≤ most

fitting : (most : ℕ) (x o : List ℕ) → at_most most x ≡ Some o → (x ≡ o) × (length o ≤ most)
fitting most x o e =
    elim (cases_Bool (leb (length x) most)) [
      | inl is ↦
          (let first : Some x ≡ Some o = rw is at e in
          let same : x ≡ o = same_Some x o first in
          (same, omega (arith, leb-true (length x) most is, ap (length {A = ℕ}) same)))
      | inr isnt ↦ (let none : None ≡ Some o = rw isnt at e in absurd cc)
    ]

short-some : (most : ℕ) (field o : List ℕ) → short_of most field ≡ Some o → IsShort most o field
unfolding short_of
short-some most field o e =
    stepped (at_most most) (group_of field) o (IsShort most o field) e
    (λ x g h. let p = fitting most x o h in record { group = g ∙ ap (λ (y : List ℕ). Some y) p.0; fits = p.1 })

record ArePair (key value : List ℕ) (p : List ℕ × List ℕ) : Type 0 where
  first : IsShort KEY_OCTETS p.0 key
  second : IsShort VALUE_OCTETS p.1 value

pair-some : (key value : List ℕ) (p : List ℕ × List ℕ) → pair_of key value ≡ Some p → ArePair key value p
unfolding pair_of
pair-some key value p e =
    stepped (λ (k : List ℕ). option_and_then (λ (v : List ℕ). Some (k, v)) (short_of VALUE_OCTETS value)) (short_of KEY_OCTETS key) p (ArePair key value p) e
    (λ k hk ek. stepped (λ (v : List ℕ). Some (k, v)) (short_of VALUE_OCTETS value) p (ArePair key value p) ek
    (λ v hv ev.
    let same : (k, v) ≡ p = same_Some (k, v) p ev in
    let keys : k ≡ p.0 = ap (λ (q : List ℕ × List ℕ). q.0) same in
    let values : v ≡ p.1 = ap (λ (q : List ℕ × List ℕ). q.1) same in
    record {
      first = short-some KEY_OCTETS key p.0 (hk ∙ ap (λ (y : List ℕ). Some y) keys);
      second = short-some VALUE_OCTETS value p.1 (hv ∙ ap (λ (y : List ℕ). Some y) values);
    }))

-- the fields are those of a write
pub record AreFieldsOf (w : Write) (fs : List (List ℕ)) : Type 0 where
  pub is : IsWrite w
  pub same : fs ≡ fields w

record IsSaid (w : Write) (c i k v : List ℕ) : Type 0 where
  number : number_of c ≡ Some w.count
  id : id_of i ≡ Some w.id
  pair : ArePair k v (w.key, w.value)

said-some : (c i k v : List ℕ) (w : Write) → said_by c i k v ≡ Some w → IsSaid w c i k v
unfolding said_by
said-some c i k v w e =
    stepped (λ (n : ℕ). option_and_then (λ (id : PeerId). option_and_then (λ (p : List ℕ × List ℕ). Some (record { key = p.0; count = n; id = id; value = p.1 })) (pair_of k v)) (id_of i)) (number_of c) w (IsSaid w c i k v) e
    (λ n hn en. stepped (λ (id : PeerId). option_and_then (λ (p : List ℕ × List ℕ). Some (record { key = p.0; count = n; id = id; value = p.1 })) (pair_of k v)) (id_of i) w (IsSaid w c i k v) en
    (λ id hi ei. stepped (λ (p : List ℕ × List ℕ). Some (record { key = p.0; count = n; id = id; value = p.1 })) (pair_of k v) w (IsSaid w c i k v) ei
    (λ p hp ep.
    let made : Write = record { key = p.0; count = n; id = id; value = p.1 } in
    let same : made ≡ w = same_Some made w ep in
    record {
      number = hn ∙ ap (λ (x : Write). Some x.count) same;
      id = hi ∙ ap (λ (x : Write). Some x.id) same;
      pair = pair-some k v (w.key, w.value) (hp ∙ ap (λ (x : Write). Some (x.key, x.value)) same);
    })))

said-fields : (w : Write) (word c i k v : List ℕ) → bytes_eq word (codes "zre-set") ≡ true → IsSaid w c i k v → AreFieldsOf w (word ∷ c ∷ i ∷ k ∷ v ∷ [])
said-fields w word c i k v is s =
    let n = number_of-some c w.count s.number in
    let id = id_of-some i w.id s.id in
    let key = group_of-some k w.key s.pair.first.group in
    let value = group_of-some v w.value s.pair.second.group in
    let first : word ≡ codes "zre-set" = (bytes_eq-Decides word (codes "zre-set")).0 is in
    record {
      is = record { key = key.is; key_fits = s.pair.first.fits; count = n.fits; id = id.is; value = value.is; value_fits = s.pair.second.fits };
      same = λ j. first j ∷ sym n.text j ∷ sym id.text j ∷ sym key.text j ∷ sym value.text j ∷ [];
    }

written : (fs : List (List ℕ)) (w : Write) → write_in fs ≡ Some w → AreFieldsOf w fs
written [] w e = absurd cc
written (a ∷ []) w e = absurd cc
written (a ∷ b ∷ []) w e = absurd cc
written (a ∷ b ∷ c ∷ []) w e = absurd cc
written (a ∷ b ∷ c ∷ d ∷ []) w e = absurd cc
written (a ∷ c ∷ i ∷ k ∷ v ∷ []) w e =
    elim (cases_Bool (bytes_eq a (codes "zre-set"))) [
      | inl is ↦ (let said : said_by c i k v ≡ Some w = rw is at e in said-fields w a c i k v is (said-some c i k v w said))
      | inr isnt ↦ (let none : None ≡ Some w = rw isnt at e in absurd cc)
    ]
written (a ∷ b ∷ c ∷ d ∷ f ∷ g ∷ fs) w e = absurd cc

pub write_of-some : (frame : List ℕ) (w : Write) → write_of frame ≡ Some w → IsTextOf IsWrite write_text w frame
unfolding write_of
write_of-some frame w e =
    let h = written (between 32 frame) w e in
    record { is = h.is; text = ap (join_with_byte 32) (sym h.same) ∙ join_with_byte-slice_split 32 frame }
