-- How long the frames of writes are.
use Rattle.std.proofs.Common.{◌≡◌, ℕ, ◌+◌, ◌*◌, ◌/◌, ◌%◌, ◌≤◌, ◌<◌, leb, Option, Some, None, List, [], ◌∷◌, ◌++◌, length, refl, ap, arith}
use Rattle.std.specs.Prelude.{codes, decimal, option_and_then}
use Rattle.std.proofs.lemmas.Bool.{leb-true, false_from_ne_true}
use Rattle.std.proofs.lemmas.Fmt.{length-decimal-le}
use Rattle.std.proofs.lemmas.List.{length-append}
use Rattle.zre_values.specs.Text.{quoted, id_text}
use Rattle.zre_shared.specs.declared.write.Write.{Write}
use Rattle.zre_shared.specs.declared.gathered.TheConstants.{OCTETS}
use Rattle.zre_capture.specs.Values.{group_of}
use Rattle.zre_capture.proofs.FieldTexts.{group_of-some}
use Rattle.zre_capture.proofs.HeadShort.{octets-short, id-short}
use Rattle.zre_shared.specs.Writes.{write_text, IsWrite, at_most, short_of}

pub quoted-short : (v : List ℕ) → length (quoted v) ≤ 3 * length v + 1
quoted-short [] = omega arith
quoted-short (b ∷ v) = omega (arith, octets-short (b ∷ v))

joined-length : (word c i k v : List ℕ) → length (word ++ (32 ∷ (c ++ (32 ∷ (i ++ (32 ∷ (k ++ (32 ∷ v)))))))) ≡ length word + length c + length i + length k + length v + 4
joined-length word c i k v =
    omega (arith, length-append word (32 ∷ (c ++ (32 ∷ (i ++ (32 ∷ (k ++ (32 ∷ v))))))), length-append c (32 ∷ (i ++ (32 ∷ (k ++ (32 ∷ v))))), length-append i (32 ∷ (k ++ (32 ∷ v))), length-append k (32 ∷ v))

-- the frame of a write is far within the limit of a message
pub frame-short : (w : Write) → IsWrite w → length (write_text w) ≤ OCTETS
frame-short w is =
    let count = length-decimal-le 20 w.count (omega arith) (omega (arith, is.count)) (omega (arith, is.count)) in
    omega (arith, joined-length (codes "zre-set") (decimal w.count) (id_text w.id) (quoted w.key) (quoted w.value), count, id-short w.id, quoted-short w.key, quoted-short w.value, is.key_fits, is.value_fits)

-- ---- a text that is too long

too_many : (most : ℕ) (o : List ℕ) → most < length o → at_most most o ≡ None
too_many most o more = rw (false_from_ne_true (leb (length o) most) (λ is. omega (arith, more, leb-true (length o) most is))) refl

long_group : (most : ℕ) (field : List ℕ) (found : Option (List ℕ)) → group_of field ≡ found → 3 * most + 1 < length field → option_and_then (at_most most) found ≡ None
long_group most field None e long = refl
long_group most field (Some o) e long =
    let t = group_of-some field o e in
    too_many most o (omega (arith, ap (length {A = ℕ}) t.text, quoted-short o, long))

-- no few octets have a long text
pub too-long : (most : ℕ) (field : List ℕ) → 3 * most + 1 < length field → short_of most field ≡ None
unfolding short_of
too-long most field long = long_group most field (group_of field) refl long
