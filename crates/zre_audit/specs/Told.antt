-- What events tell of the runs of a peer, as octets.
use Rattle.std.specs.Prelude.{ℕ, List, [], ◌∷◌, ◌++◌, if◌then◌else◌, bytes_eq}
use Rattle.std.specs.BTreeMap as tree
use Rattle.std.specs.Cmp.Lexicographic.{slice_cmp}
use Rattle.std.specs.List.{fold}
use Rattle.std.specs.Option.{unwrap_or}
use Rattle.std.specs.Ordering.{nat_cmp}
use Rattle.zre_msg.specs.declared.message.Body.TheVariants as body
use Rattle.zre_peer.specs.declared.event.Event.{Event}
use Rattle.zre_peer.specs.declared.event.Event.TheVariants.{Enter, Whisper, Shout}
use Rattle.zre_audit.specs.Coding.{octets_of}

-- octets, at the end of the last of these lists
abbrev pub at_last : List ℕ → List (List ℕ) → List (List ℕ)
at_last octets [] = []
at_last octets (xs ∷ []) = (xs ++ octets) ∷ []
at_last octets (xs ∷ ys ∷ yss) = xs ∷ at_last octets (ys ∷ yss)

-- the runs of the peer with the identity p with one more event: ENTER begins one, and what it says is of its last one
abbrev pub runs_with : List ℕ → List (List ℕ) → Event → List (List ℕ)
runs_with p runs (Enter id name endpoint headers) = if bytes_eq id.0 p then runs ++ [] ∷ [] else runs
runs_with p runs (Whisper id name content) =
    if bytes_eq id.0 p then at_last (octets_of (body.Whisper content)) runs else runs
runs_with p runs (Shout id name group content) =
    if bytes_eq id.0 p then at_last (octets_of (body.Shout group content)) runs else runs
runs_with p runs _ = runs

abbrev pub runs_after : List ℕ → List (List ℕ) → List Event → List (List ℕ)
runs_after p runs events = fold (runs_with p) runs events

-- ---- how they are kept

abbrev pub Runs : Type 0
Runs = tree.BTreeMap (List ℕ) (List (List ℕ))

-- the runs of the peer with this identity
abbrev pub runs_in : Runs → List ℕ → List (List ℕ)
runs_in runs p = unwrap_or (tree.get (slice_cmp nat_cmp) runs p) []
