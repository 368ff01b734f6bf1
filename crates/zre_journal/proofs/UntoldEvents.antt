-- Which events marks don't tell.
use Rattle.std.proofs.Common.{◌≡◌, ℕ, Bool, false, ◌||◌, List, [], ◌∷◌, map, Option, Some, None, refl, ap, ◌∙◌}
use Rattle.std.proofs.lemmas.List.Folds.{list_any-append}
use Rattle.std.specs.List.{AllByRecursion, list_any}
use Rattle.zre_msg.specs.declared.message.Body.{Body}
use Rattle.zre_msg.specs.declared.message.Body.TheVariants as body
use Rattle.zre_msg.specs.declared.message.Message.{Message}
use Rattle.zre_peer.specs.Members.{distinct, first_named}
use Rattle.zre_peer.specs.Runs.{events_of}
use Rattle.zre_values.specs.declared.peer_id.PeerId.{PeerId}
use Rattle.zre_peer.specs.declared.view.View.{View}
use Rattle.zre_peer.specs.declared.event.Event.{Event}
use Rattle.zre_peer.specs.declared.event.Event.TheVariants as event
use Rattle.zre_journal.specs.Chronicle.{Mark}
use Rattle.zre_journal.specs.Peers.{Life, view}
use Rattle.zre_journal.specs.Told.{told, told_at, by_message}

-- an event that a message may tell
abbrev pub IsOfMessage : Event → Type 0
IsOfMessage (event.Enter id name endpoint headers) = Unit {0}
IsOfMessage (event.Join id name group) = Unit {0}
IsOfMessage (event.Leave id name group) = Unit {0}
IsOfMessage (event.Whisper id name content) = Unit {0}
IsOfMessage (event.Shout id name group content) = Unit {0}
IsOfMessage _ = ⊥

module _ (t : Event → Bool) where
  -- where no mark tells such an event, none of them do
  pub none_of_marks : (Q : Mark → Type 0) (P : List Mark → Type 0) → ((h : Mark) (X : List Mark) → Q h → P X → list_any t (told_at h X) ≡ false) → ((h : Mark) (X : List Mark) → Q h → P X → P (h ∷ X))
      → (hs X : List Mark) → AllByRecursion Q hs → P X → list_any t (told hs X) ≡ false
  none_of_marks Q P one next [] X a o = refl
  none_of_marks Q P one next (h ∷ hs) X a o =
      list_any-append t (told_at h X) (told hs (h ∷ X)) ∙ ap (λ b. b || list_any t (told hs (h ∷ X))) (one h X a.0 o)
      ∙ none_of_marks Q P one next hs (h ∷ X) a.1 (next h X a.0 o)

  -- where no event of a message is such, a message tells none
  module _ (none : (e : Event) → IsOfMessage e → t e ≡ false) where
    none_of_body : (r : PeerId) (w : View) (b : Body) → list_any t (events_of r w b) ≡ false
    none_of_body r w (body.Hello endpoint groups status name headers) =
        ap (λ b. b || list_any t (map (λ x. event.Join r name x) (distinct groups))) (none (event.Enter r name endpoint (first_named headers)) tt) ∙ all (distinct groups)
      where
        all : (gs : List (List ℕ)) → list_any t (map (λ x. event.Join r name x) gs) ≡ false
        all [] = refl
        all (x ∷ xs) = ap (λ b. b || list_any t (map (λ y. event.Join r name y) xs)) (none (event.Join r name x) tt) ∙ all xs
    none_of_body r w (body.Whisper content) = ap (λ b. b || false) (none (event.Whisper r w.name content) tt)
    none_of_body r w (body.Shout group content) = ap (λ b. b || false) (none (event.Shout r w.name group content) tt)
    none_of_body r w (body.Join group status) = ap (λ b. b || false) (none (event.Join r w.name group) tt)
    none_of_body r w (body.Leave group status) = ap (λ b. b || false) (none (event.Leave r w.name group) tt)
    none_of_body r w _ = refl

    pub none_of_message : (o : Option Life) (m : Message) (X : List Mark) → list_any t (by_message o m X) ≡ false
    none_of_message None m X = refl
    none_of_message (Some u) m X = none_of_body u.id (view u.link X) m.body
