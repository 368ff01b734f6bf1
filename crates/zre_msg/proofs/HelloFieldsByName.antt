-- The fields of HELLO, where the last three are read together.
use Rattle.std.proofs.Common.{◌≡◌, ℕ, List, Option, Some, None, refl, ap, ◌∙◌}
use Rattle.zre_msg.specs.declared.message.Body.{Body}
use Rattle.zre_msg.specs.declared.message.Body.TheVariants.{Hello}
use Rattle.zre_msg.specs.declared.fields.Stop.{Stop}
use Rattle.zre_msg.specs.declared.fields.Stop.TheVariants as stop
use Rattle.zre_msg.specs.Fields.{Ends}
use Rattle.zre_msg.specs.Reading.{◌>>=◌, octet_at, string_at, strings_at, dictionary_at, hello_at, named_at}

abbrev Last : Type 0
Last = ℕ × List ℕ × List (List ℕ × List ℕ)

-- HELLO, and what is left over, of its first two fields and of the others
abbrev pub whole : List ℕ → List (List ℕ) → Last × List ℕ → Option (Body × List ℕ)
whole endpoint groups x = Some (Hello endpoint groups x.0.0 x.0.1 x.0.2, x.1)

last_headers : (e : List ℕ) (g : List (List ℕ)) (s : ℕ) (n : List ℕ) (h : Option (List (List ℕ × List ℕ) × List ℕ)) →
    (h >>= λ headers. Some (Hello e g s n headers.0, headers.1)) ≡ ((h >>= λ headers. Some ((s, n, headers.0), headers.1)) >>= whole e g)
last_headers e g s n None = refl
last_headers e g s n (Some h) = refl

last_name : (e : List ℕ) (g : List (List ℕ)) (s : ℕ) (n : Option (List ℕ × List ℕ)) →
    (n >>= λ name. dictionary_at name.1 >>= λ headers. Some (Hello e g s name.0 headers.0, headers.1))
    ≡ ((n >>= λ name. dictionary_at name.1 >>= λ headers. Some ((s, name.0, headers.0), headers.1)) >>= whole e g)
last_name e g s None = refl
last_name e g s (Some n) = last_headers e g s n.0 (dictionary_at n.1)

last_status : (e : List ℕ) (g : List (List ℕ)) (s : Option (ℕ × List ℕ)) →
    (s >>= λ status. string_at status.1 >>= λ name. dictionary_at name.1 >>= λ headers. Some (Hello e g status.0 name.0 headers.0, headers.1))
    ≡ ((s >>= λ status. string_at status.1 >>= λ name. dictionary_at name.1 >>= λ headers. Some ((status.0, name.0, headers.0), headers.1)) >>= whole e g)
last_status e g None = refl
last_status e g (Some s) = last_name e g s.0 (string_at s.1)

-- after the endpoint and the groups come the others
pub hello_is : (o p q e : List ℕ) (g : List (List ℕ)) → string_at o ≡ Some (e, p) → strings_at p ≡ Some (g, q) → hello_at o ≡ (named_at q >>= whole e g)
unfolding hello_at named_at
hello_is o p q e g first second =
    ap (λ (r : Option (List ℕ × List ℕ)). r >>= λ endpoint. strings_at endpoint.1 >>= λ groups. octet_at groups.1 >>= λ status. string_at status.1 >>= λ name. dictionary_at name.1 >>= λ headers. Some (Hello endpoint.0 groups.0 status.0 name.0 headers.0, headers.1)) first
    ∙ ap (λ (r : Option (List (List ℕ) × List ℕ)). r >>= λ groups. octet_at groups.1 >>= λ status. string_at status.1 >>= λ name. dictionary_at name.1 >>= λ headers. Some (Hello e groups.0 status.0 name.0 headers.0, headers.1)) second
    ∙ last_status e g (octet_at q)

-- what isn't there after a field
pub ends_so : {A B : Type 0} (stopped : Stop) (r : Option A) (f : A → Option B) (whole : Option B) → whole ≡ (r >>= f) → Ends stopped r → Ends stopped whole
ends_so stop.Memory r f whole is ends = ends
ends_so stop.Short r f whole is ends = is ∙ ap (λ (x : Option _). x >>= f) ends
