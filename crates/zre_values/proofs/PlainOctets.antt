-- Octets that stand for themselves.
use Rattle.std.proofs.Common.{◌≡◌, ℕ, true, false, eqb, length, List, [], ◌∷◌, ◌++◌, refl, ap, ◌∙◌}
use Rattle.std.specs.List.{flat_map, list_all}
use Rattle.std.proofs.lemmas.Bool.{and_parts}
use Rattle.std.proofs.lemmas.List.Concat.{flat_map-cons}
use Rattle.zre_values.specs.Text.{is_plain, quoted_octet, quoted}

plain_octet : (b : ℕ) → is_plain b ≡ true → quoted_octet b ≡ b ∷ []
plain_octet b e = rw e refl

pub plain_octets : (bytes : List ℕ) → list_all is_plain bytes ≡ true → flat_map quoted_octet bytes ≡ bytes
plain_octets [] e = refl
plain_octets (b ∷ bs) e =
    let p = and_parts (is_plain b) (list_all is_plain bs) e in
    flat_map-cons quoted_octet b bs ∙ ap (λ r. quoted_octet b ++ r) (plain_octets bs p.1) ∙ ap (λ r. r ++ bs) (plain_octet b p.0)

-- a text of plain octets is its own quoted text
pub quoted-plain : (bytes : List ℕ) → eqb (length bytes) 0 ≡ false → list_all is_plain bytes ≡ true → quoted bytes ≡ bytes
quoted-plain [] some e = absurd cc
quoted-plain (b ∷ bs) some e = plain_octets (b ∷ bs) e
