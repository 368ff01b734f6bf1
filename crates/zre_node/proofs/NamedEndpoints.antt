-- The endpoint that a first message names.
use Rattle.std.proofs.Common.{◌≡◌, ℕ, List, [], ◌∷◌, None, refl, sym, ap}
use Rattle.zre_msg.specs.declared.message.Body.{Body}
use Rattle.zre_msg.specs.declared.message.Body.TheVariants as body
use Rattle.zre_values.specs.Endpoint.{endpoint_in}
use Rattle.zre_peer.specs.Views.{after, blank}
use Rattle.zre_msg.specs.declared.message.Message.{Message}
use Rattle.zre_peer.specs.Views.{view_of}

pub hello_endpoint : (m : Message) (endpoint : List ℕ) (groups : List (List ℕ)) (status : ℕ) (name : List ℕ) (headers : List (List ℕ × List ℕ)) → m.body ≡ body.Hello endpoint groups status name headers → (view_of (m ∷ [])).endpoint ≡ endpoint
unfolding view_of
hello_endpoint m endpoint groups status name headers e = ap (λ (b : Body). (after blank b).endpoint) e

said_none : (b : Body) → ((endpoint : List ℕ) (groups : List (List ℕ)) (status : ℕ) (name : List ℕ) (headers : List (List ℕ × List ℕ)) → b ≡ body.Hello endpoint groups status name headers → ⊥) → (after blank b).endpoint ≡ []
said_none (body.Hello endpoint groups status name headers) n = absurd (n endpoint groups status name headers refl)
said_none (body.Whisper content) n = refl
said_none (body.Shout group content) n = refl
said_none (body.Join group status) n = refl
said_none (body.Leave group status) n = refl
said_none body.Ping n = refl
said_none body.PingOk n = refl
said_none (body.Other number rest more) n = refl

pub other_endpoint : (m : Message) → ((endpoint : List ℕ) (groups : List (List ℕ)) (status : ℕ) (name : List ℕ) (headers : List (List ℕ × List ℕ)) → m.body ≡ body.Hello endpoint groups status name headers → ⊥) → None ≡ endpoint_in (view_of (m ∷ [])).endpoint
unfolding view_of
other_endpoint m n = ap endpoint_in (sym (said_none m.body n))
