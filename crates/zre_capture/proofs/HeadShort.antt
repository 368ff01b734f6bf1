-- A head isn't too long to be read.
use Rattle.std.proofs.Common.{◌≡◌, ℕ, ◌+◌, ◌*◌, ◌/◌, ◌%◌, ◌≤◌, Bool, true, false, cond, leb, List, [], ◌∷◌, ◌++◌, length, ap, arith}
use Rattle.std.specs.Prelude.{codes, decimal, flat_map}
use Rattle.std.specs.List.{join_with_byte, list_all}
use Rattle.std.proofs.lemmas.Bool.{and_parts, leb-true, eqb-true}
use Rattle.std.proofs.lemmas.Fmt.{length-decimal-le}
use Rattle.std.proofs.lemmas.List.{length-append}
use Rattle.std.proofs.lemmas.List.Concat.{flat_map-cons}
use Rattle.zre_values.specs.Address.{address_text}
use Rattle.zre_values.specs.PlainId.{is_plain_id}
use Rattle.zre_values.specs.Settings.{is_fitting}
use Rattle.zre_values.specs.Text.{id_text, is_plain, quoted_octet, hex_digit, quoted, quoted_pair, quoted_pairs}
use Rattle.zre_values.specs.declared.peer_id.PeerId.{PeerId}
use Rattle.zre_values.proofs.Endpoints.{address_text-short}
use Rattle.zre_values.proofs.PlainIds.{text-plain}
use Rattle.zre_capture.specs.Heads.{head_text, AreSettings, IsShortHead}
use Rattle.zre_capture.specs.declared.format.Format.{Format}
use Rattle.zre_capture.specs.declared.format.Format.TheVariants.{First, Second}
use Rattle.zre_values.specs.declared.settings.Settings.{Settings}
use Rattle.zre_capture.proofs.HeadSettings.{valid}

octet-short : (plain : Bool) (a b c d : ℕ) → length (cond plain (a ∷ []) (b ∷ c ∷ d ∷ [])) ≤ 3
octet-short true a b c d = omega arith
octet-short false a b c d = omega arith

pub octets-short : (v : List ℕ) → length (flat_map quoted_octet v) ≤ 3 * length v
octets-short [] = omega arith
octets-short (b ∷ v) =
    omega (arith, ap length (flat_map-cons quoted_octet b v), length-append (quoted_octet b) (flat_map quoted_octet v), octets-short v, octet-short (is_plain b) b 37 (hex_digit (b / 16)) (hex_digit (b % 16)))

quoted-short : (most : ℕ) (v : List ℕ) → leb (length v) most ≡ true → length (quoted v) ≤ 3 * most + 1
quoted-short most [] few = omega arith
quoted-short most (b ∷ v) few = omega (arith, octets-short (b ∷ v), leb-true (length (b ∷ v)) most few)

pair-short : (h : List ℕ × List ℕ) → is_fitting h ≡ true → length (quoted_pair h) ≤ 3840
pair-short h fits =
    let p = and_parts (leb (length h.0) 255) (leb (length h.1) 1024) fits in
    omega (arith, length-append (quoted h.0) (61 ∷ quoted h.1), quoted-short 255 h.0 p.0, quoted-short 1024 h.1 p.1)

abbrev joined : List ℕ × List ℕ → List ℕ
joined h = (44 ∷ []) ++ quoted_pair h

more-short : (hs : List (List ℕ × List ℕ)) → list_all is_fitting hs ≡ true → length (flat_map joined hs) ≤ 3841 * length hs
more-short [] fits = omega arith
more-short (h ∷ hs) fits =
    let p = and_parts (is_fitting h) (list_all is_fitting hs) fits in
    omega (arith, ap length (flat_map-cons joined h hs), length-append (joined h) (flat_map joined hs), pair-short h p.0, more-short hs p.1)

pairs-short : (hs : List (List ℕ × List ℕ)) → leb (length hs) 256 ≡ true → list_all is_fitting hs ≡ true → length (quoted_pairs hs) ≤ 983296
pairs-short [] few fits = omega arith
pairs-short (h ∷ hs) few fits =
    let p = and_parts (is_fitting h) (list_all is_fitting hs) fits in
    omega (arith, length-append (quoted_pair h) (flat_map joined hs), pair-short h p.0, more-short hs p.1, leb-true (length (h ∷ hs)) 256 few)

pub id-short : (id : PeerId) → length (id_text id) ≡ 32
unfolding id_text is_plain_id
id-short id = eqb-true _ _ (and_parts _ _ (text-plain id.0)).0

-- a field and those after it
after : (a b : List ℕ) (fs : List (List ℕ)) (n m : ℕ) → length a ≤ n → length (join_with_byte 32 (b ∷ fs)) ≤ m → length (join_with_byte 32 (a ∷ b ∷ fs)) ≤ n + 1 + m
after a b fs n m p q = omega (arith, length-append a (32 ∷ join_with_byte 32 (b ∷ fs)), p, q)

second-short : (s : Settings) → AreSettings s → length (head_text Second s) ≤ 4194324
second-short s are =
    let v = valid s are.valid in
    let port = are.port in
    let order = v.order in
    let last = v.last in
    let port_text : length (decimal s.port) ≤ 20 = length-decimal-le 20 s.port (omega arith) (omega (arith, port)) (omega (arith, port)) in
    let evasive : length (decimal s.evasive) ≤ 20 = length-decimal-le 20 s.evasive (omega arith) (omega (arith, order, last)) (omega (arith, order, last)) in
    let expired : length (decimal s.expired) ≤ 20 = length-decimal-le 20 s.expired (omega arith) (omega (arith, last)) (omega (arith, last)) in
    let headers = pairs-short s.headers v.few_headers v.fitting in
    let times = after (decimal s.port) (decimal s.evasive) (decimal s.expired ∷ quoted_pairs s.headers ∷ []) 20 983338 port_text
    (after (decimal s.evasive) (decimal s.expired) (quoted_pairs s.headers ∷ []) 20 983317 evasive (after (decimal s.expired) (quoted_pairs s.headers) [] 20 983296 expired headers)) in
    let rest = decimal s.port ∷ decimal s.evasive ∷ decimal s.expired ∷ quoted_pairs s.headers ∷ [] in
    let whole = after (codes "zre-capture") (codes "2") (id_text s.id ∷ quoted s.name ∷ address_text s.host ∷ rest) 11 984177 (omega arith)
    (after (codes "2") (id_text s.id) (quoted s.name ∷ address_text s.host ∷ rest) 1 984175 (omega arith)
    (after (id_text s.id) (quoted s.name) (address_text s.host ∷ rest) 32 984142 (omega (arith, id-short s.id))
    (after (quoted s.name) (address_text s.host) rest 766 983375 (quoted-short 255 s.name v.name)
    (after (address_text s.host) (decimal s.port) (decimal s.evasive ∷ decimal s.expired ∷ quoted_pairs s.headers ∷ []) 15 983359 (address_text-short s.host are.host) times)))) in
    omega (arith, whole)

pub head-short : (f : Format) (s : Settings) → AreSettings s → IsShortHead f s
head-short First s are = omega arith
head-short Second s are = second-short s are
