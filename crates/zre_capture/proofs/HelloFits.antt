-- HELLO of a peer of the exercise fits.
use Rattle.std.proofs.Common.{◌≡◌, ℕ, ◌<◌, ◌^◌, List, [], ◌++◌, length, refl, sym, subst, codes, decimal, arith}
use Rattle.std.specs.Prelude.{All}
use Rattle.std.proofs.lemmas.Fmt.{length-decimal-le}
use Rattle.std.proofs.lemmas.List.Elements.{All-from_recursion}
use Rattle.zre_values.specs.Endpoint.{endpoint_text, IsEndpoint}
use Rattle.zre_values.proofs.Endpoints.{endpoint_text-short}
use Rattle.zre_msg.specs.Spelling.{FitsHello, FitsLong, FitsPair}
use Rattle.zre_capture.specs.Exercise.{host}

mailbox_is : (i : ℕ) → i < 256 → IsEndpoint (record { addr = host i; port = 49152 })
mailbox_is i h = record {
  address = record {
    four = refl;
    octets = All-from_recursion (λ n. n < 2 ^ 8) (host i) (omega arith, (omega arith, (omega arith, (omega (arith, h), tt))));
  };
  port_is_some = omega arith;
  port_fits = omega arith;
}

name-short : (i : ℕ) → i < 256 → length (codes "p" ++ decimal i) < 2 ^ 8
name-short i h = omega (arith, length-decimal-le 3 i (omega arith) (omega (arith, h)) (omega (arith, h)))

pub hello_fits : (i : ℕ) (endpoint name : List ℕ) (groups : List (List ℕ)) (headers : List (List ℕ × List ℕ)) → i < 256 →
    endpoint ≡ endpoint_text (record { addr = host i; port = 49152 }) → name ≡ codes "p" ++ decimal i → groups ≡ [] → headers ≡ [] →
    FitsHello endpoint groups name headers
hello_fits i endpoint name groups headers h e n g d = record {
  endpoint_fits = subst (λ (o : List ℕ). length o < 2 ^ 8) (sym e) (omega (arith, endpoint_text-short (record { addr = host i; port = 49152 }) (mailbox_is i h)));
  group_count = subst (λ (gs : List (List ℕ)). length gs < 2 ^ 32) (sym g) (omega arith);
  groups_fit = subst (λ (gs : List (List ℕ)). All FitsLong gs) (sym g) (All-from_recursion FitsLong [] tt);
  name_fits = subst (λ (o : List ℕ). length o < 2 ^ 8) (sym n) (name-short i h);
  header_count = subst (λ (ps : List (List ℕ × List ℕ)). length ps < 2 ^ 32) (sym d) (omega arith);
  headers_fit = subst (λ (ps : List (List ℕ × List ℕ)). All FitsPair ps) (sym d) (All-from_recursion FitsPair [] tt);
}
