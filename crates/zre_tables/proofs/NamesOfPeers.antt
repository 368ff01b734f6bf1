-- The name that a peer has told.
use Rattle.std.proofs.Common.{◌≡◌, List, [], ◌∷◌, None, refl}
use Rattle.zre_msg.specs.declared.message.Message.{Message}
use Rattle.zre_peer.specs.Runs.{shown}
use Rattle.zre_peer.specs.Views.{view_of}

-- none before HELLO
pub no_name : (ms : List Message) → None ≡ shown ms → [] ≡ (view_of ms).name
unfolding view_of
no_name [] e = refl
no_name (m ∷ ms) e = absurd cc
