-- Clients by their places.
use Rattle.std.proofs.Common.{◌≡◌, ℕ, zero, suc, ◌+◌, ◌≤◌, List, [], ◌∷◌, ◌++◌, take, map, length, Option, Some, None, ap, ◌∙◌, refl, arith}
use Rattle.std.specs.Prelude.{All}
use Rattle.std.proofs.lemmas.List.Elements.{All-nil, All-cons, All-weaker}
use Rattle.zre_actor.specs.Commands.{times}
use Rattle.zre_actor.proofs.SumsOverPasses.{is_first}
use Rattle.zre_gate.specs.Clients.{SeenClient}
use Rattle.zre_gate.specs.ClientLists.{NewClient, new_client, new_client_at, new_clients_of, number_of, before_of}

abbrev or_else : NewClient → Option NewClient → NewClient
or_else d None = d
or_else d (Some x) = x

-- one more of them
pub new_client_taken : (xs : List NewClient) (k : ℕ) (x : NewClient) → new_client_at xs k ≡ Some x → take (k + 1) xs ≡ take k xs ++ x ∷ []
new_client_taken [] k x at = absurd (let e : None ≡ Some x = at in cc)
new_client_taken (y ∷ ys) zero x at = ap (λ z. z ∷ []) (ap (or_else y) at)
new_client_taken (y ∷ ys) (suc k) x at =
    let e : suc k + 1 ≡ suc (k + 1) = omega arith in
    ap (λ n. take n (y ∷ ys)) e ∙ ap (λ l. y ∷ l) (new_client_taken ys k x at)

-- each has its number and what it tells
pub new_client_there : (ns ms : List ℕ) (rs ss : List SeenClient) (n : ℕ) (r : SeenClient) → length ns ≡ length rs → new_client_at (new_clients_of (ns ++ n ∷ ms) (rs ++ r ∷ ss)) (length ns) ≡ Some (new_client n r)
new_client_there [] ms [] ss n r same = refl
new_client_there [] ms (q ∷ rs) ss n r same = absurd (omega (arith, same))
new_client_there (m ∷ ns) ms [] ss n r same = absurd (omega (arith, same))
new_client_there (m ∷ ns) ms (q ∷ rs) ss n r same = new_client_there ns ms rs ss n r (omega (arith, same))

pub new_clients_length : (ns : List ℕ) (rs : List SeenClient) → length ns ≡ length rs → length (new_clients_of ns rs) ≡ length rs
new_clients_length [] [] same = refl
new_clients_length [] (r ∷ rs) same = absurd (omega (arith, same))
new_clients_length (n ∷ ns) [] same = absurd (omega (arith, same))
new_clients_length (n ∷ ns) (r ∷ rs) same = ap suc (new_clients_length ns rs (omega (arith, same)))

pub new_clients_numbers : (ns : List ℕ) (rs : List SeenClient) → length ns ≡ length rs → map number_of (new_clients_of ns rs) ≡ ns
new_clients_numbers [] [] same = refl
new_clients_numbers [] (r ∷ rs) same = refl
new_clients_numbers (n ∷ ns) [] same = absurd (omega (arith, same))
new_clients_numbers (n ∷ ns) (r ∷ rs) same = ap (λ l. n ∷ l) (new_clients_numbers ns rs (omega (arith, same)))

pub new_clients_before : (ns : List ℕ) (rs : List SeenClient) → length ns ≡ length rs → map before_of (new_clients_of ns rs) ≡ rs
new_clients_before [] [] same = refl
new_clients_before [] (r ∷ rs) same = absurd (omega (arith, same))
new_clients_before (n ∷ ns) [] same = absurd (omega (arith, same))
new_clients_before (n ∷ ns) (r ∷ rs) same = ap (λ l. r ∷ l) (new_clients_before ns rs (omega (arith, same)))

-- each of a list stands in it
pub are_there : (ns : List ℕ) → All (λ n. 1 ≤ times n ns) ns
are_there [] = All-nil (λ n. 1 ≤ times n [])
are_there (m ∷ ns) = All-cons (λ n. 1 ≤ times n (m ∷ ns)) m ns (let e = is_first m ns in omega (arith, e))
    (All-weaker (λ n. 1 ≤ times n ns) (λ n. 1 ≤ times n (m ∷ ns)) (λ n h. omega (arith, h)) ns (are_there ns))
