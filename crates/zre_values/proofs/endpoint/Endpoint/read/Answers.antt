use Rattle.std.proofs.Common.{◌≡◌, ◌∷◌, ◌++◌, List, ℕ, Some, None, refl, sym, ap, ◌∙◌}
use Rattle.std.specs.Prelude.{codes, decimal}
use Rattle.zre_values.specs.declared.endpoint.Endpoint.{Endpoint}
use Rattle.zre_values.specs.Address.{address_text}
use Rattle.zre_values.specs.Endpoint.{endpoint_text}
use Rattle.zre_values.proofs.Addresses.{address_text-lacks}
use Rattle.zre_values.proofs.Endpoints.{nothing-read, this-read}
use Rattle.zre_values.proofs.endpoint.Endpoint.read.Goals as goal

abbrev named : Endpoint → List ℕ
named endpoint = address_text endpoint.addr ++ (58 ∷ decimal endpoint.port)

made : (addr : List ℕ) (port : ℕ) (endpoint : Endpoint) → addr ≡ endpoint.addr → Some port ≡ Some endpoint.port → Some (record { addr = addr; port = port }) ≡ Some endpoint
made addr port endpoint a p =
    let number : port ≡ endpoint.port = cc in
    ap (λ (n : ℕ). Some (record { addr = addr; port = n })) number ∙ ap (λ (l : List ℕ). Some (record { addr = l; port = endpoint.port })) a

pub returns-in_err-rest-clause-back : goal.returns-in_err-rest-clause-back
returns-in_err-rest-clause-back c = λ endpoint is e. absurd (c.in_err-rest.ensures.back (named endpoint) e)

pub returns-in_default-clause-back : goal.returns-in_default-clause-back
returns-in_default-clause-back c = λ endpoint is e.
    let rest = c.in_ok-rest.ensures.back (named endpoint) e in
    absurd (c.in_default.ensures.back (address_text endpoint.addr) (decimal endpoint.port) (address_text-lacks endpoint.addr is.address) rest)

pub returns-in_err-addr-clause-back : goal.returns-in_err-addr-clause-back
returns-in_err-addr-clause-back c = λ endpoint is e.
    let rest = c.in_ok-rest.ensures.back (named endpoint) e in
    let parts = c.in-Some.ensures.back (address_text endpoint.addr) (decimal endpoint.port) (address_text-lacks endpoint.addr is.address) rest in
    absurd (c.in_err-addr.ensures.back endpoint.addr is.address parts.0)

pub returns-in_err-port-clause-back : goal.returns-in_err-port-clause-back
returns-in_err-port-clause-back c = λ endpoint is e.
    let rest = c.in_ok-rest.ensures.back (named endpoint) e in
    let parts = c.in-Some.ensures.back (address_text endpoint.addr) (decimal endpoint.port) (address_text-lacks endpoint.addr is.address) rest in
    let port : None ≡ Some endpoint.port = c.in_err-port.ensures.back endpoint.port is.port_is_some is.port_fits parts.1 in
    absurd cc port

pub returns-clause-back : goal.returns-clause-back
returns-clause-back c = λ endpoint is e.
    let rest = c.in_ok-rest.ensures.back (named endpoint) e in
    let parts = c.in-Some.ensures.back (address_text endpoint.addr) (decimal endpoint.port) (address_text-lacks endpoint.addr is.address) rest in
    let addr = c.in_ok-addr.ensures.back endpoint.addr is.address parts.0 in
    let port = c.in_ok-port.ensures.back endpoint.port is.port_is_some is.port_fits parts.1 in
    made c.at.result.addr c.at.result.port endpoint (c.at.ensures.value.0 ∙ addr) (ap (λ (n : ℕ). Some n) c.at.ensures.value.1 ∙ port)

pub returns-in_err-rest-clause-read : goal.returns-in_err-rest-clause-read
returns-in_err-rest-clause-read c = nothing-read c.args.text.now c.from_residual.result c.from_residual.ensures (returns-in_err-rest-clause-back c)

pub returns-in_default-clause-read : goal.returns-in_default-clause-read
returns-in_default-clause-read c = nothing-read c.args.text.now None refl (returns-in_default-clause-back c)

pub returns-in_err-addr-clause-read : goal.returns-in_err-addr-clause-read
returns-in_err-addr-clause-read c = nothing-read c.args.text.now c.from_residual-in_err-addr.result c.from_residual-in_err-addr.ensures (returns-in_err-addr-clause-back c)

pub returns-in_err-port-clause-read : goal.returns-in_err-port-clause-read
returns-in_err-port-clause-read c = nothing-read c.args.text.now c.from_residual-in_err-port.result c.from_residual-in_err-port.ensures (returns-in_err-port-clause-back c)

joined : (e : Endpoint) (addr : List ℕ) (port : ℕ) (text rest front later : List ℕ) → e.addr ≡ addr → e.port ≡ port →
    text ≡ codes "tcp://" ++ rest → rest ≡ front ++ (58 ∷ later) → front ≡ address_text addr → later ≡ decimal port → text ≡ endpoint_text e
joined e addr port text rest front later a n whole parts left right =
    let named_front = left ∙ sym (ap address_text a) in
    let named_after = right ∙ sym (ap decimal n) in
    let named_rest = parts ∙ ap (λ (f : List ℕ). f ++ (58 ∷ later)) named_front ∙ ap (λ (b : List ℕ). address_text e.addr ++ (58 ∷ b)) named_after in
    whole ∙ ap (λ (r : List ℕ). codes "tcp://" ++ r) named_rest

pub returns-clause-read : goal.returns-clause-read
returns-clause-read c = this-read c.args.text.now c.at.result c.at.ensures.fits (joined c.at.result c.in_ok-addr.addr c.in_ok-port.port c.args.text.now c.in_ok-rest.rest.now c.in-Some.addr.now c.in-Some.port.now c.at.ensures.value.0 c.at.ensures.value.1 c.in_ok-rest.ensures.value c.in-Some.ensures.value c.in_ok-addr.ensures.value c.in_ok-port.ensures.value.0)
