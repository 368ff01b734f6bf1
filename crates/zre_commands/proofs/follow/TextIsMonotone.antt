-- The text of more octets begins with that of fewer.
use Rattle.std.proofs.Common.{◌≡◌, ℕ, None, Bool, true, false, cond, not, ◌&&◌, ◌||◌, is_some, List, [], ◌∷◌, ◌++◌, refl, sym, ap, ◌∙◌, append_assoc, inl, inr}
use Rattle.std.proofs.lemmas.Bool.{cases_Bool}
use Rattle.std.proofs.lemmas.List.{append-nil}
use Rattle.std.proofs.lemmas.List.Elements.{filter_map-append}
use Rattle.std.proofs.lemmas.List.Concat.{flat_map-append}
use Rattle.zre_values.specs.declared.peer_id.PeerId.{PeerId}
use Rattle.zre_msg.specs.declared.message.Message.{Message}
use Rattle.zre_peer.specs.Lines.{line, lines}
use Rattle.zre_peer.specs.Runs.{may_follow}
use Rattle.zre_peer.specs.declared.event.Event.{Event}
use Rattle.zre_zmtp.specs.Reading.{new_items}
use Rattle.zre_zmtp.specs.Stream.{Traffic, items, fault, cut, frame_why}
use Rattle.zre_zmtp.specs.declared.want.Want.TheVariants.{Any}
use Rattle.zre_zmtp.specs.declared.item.Item.{Item}
use Rattle.zre_zmtp.proofs.ReadersFollowStreams.{extends}
use Rattle.zre_commands.specs.follow.Follow.{over, text, is_stopped, is_bad}
use Rattle.zre_commands.specs.follow.Messages.{meant, messages_in, messages}
use Rattle.zre_commands.specs.follow.Runs.{told, events_after, is_over}

more_cond : (b c : Bool) (one all first others : List Event) → (b ≡ true → all ≡ first ++ cond c [] others) → one ++ cond b all [] ≡ (one ++ cond b first []) ++ cond (cond b c true) [] others
more_cond true c one all first others h = ap (λ (r : List Event). one ++ r) (h refl) ∙ sym (append_assoc one first (cond c [] others))
more_cond false c one all first others h = sym (append-nil (one ++ []))

-- the events of more messages: those of the first, and those of the others unless the run is over
pub events_more : (id : PeerId) (done ms ns : List Message) → events_after id done (ms ++ ns) ≡ events_after id done ms ++ cond (is_over done ms) [] (events_after id (done ++ ms) ns)
unfolding events_after is_over
events_more id done [] ns = ap (λ d. events_after id d ns) (sym (append-nil done))
events_more id done (m ∷ ms) ns =
    let later = done ++ m ∷ [] in
    more_cond (may_follow done m) (is_over later ms) (told id done m) (events_after id later (ms ++ ns)) (events_after id later ms) (events_after id (done ++ m ∷ ms) ns)
    (λ _. events_more id later ms ns ∙ ap (λ d. events_after id later ms ++ cond (is_over later ms) [] (events_after id d ns)) (append_assoc done (m ∷ []) ms))

pub over_more : (done ms ns : List Message) → is_over done (ms ++ ns) ≡ cond (is_over done ms) true (is_over (done ++ ms) ns)
unfolding is_over
over_more done [] ns = ap (λ d. is_over d ns) (sym (append-nil done))
over_more done (m ∷ ms) ns =
    let later = done ++ m ∷ [] in
    elim (cases_Bool (may_follow done m)) [
      | inl t ↦ rw t (over_more later ms ns ∙ ap (λ d. cond (is_over later ms) true (is_over d ns)) (append_assoc done (m ∷ []) ms))
      | inr f ↦ rw f refl
    ]

pub messages_in-append : (xs ys : List Item) → messages_in (xs ++ ys) ≡ messages_in xs ++ messages_in ys
messages_in-append xs ys = filter_map-append (λ item. meant item.what) xs ys

-- the messages of one more piece
abbrev pub newly : List ℕ → List ℕ → List Message
newly o x = messages_in (new_items Any Traffic o x)

pub messages_more : (o x : List ℕ) → messages (o ++ x) ≡ messages o ++ newly o x
messages_more o x = ap messages_in (extends Any Traffic o x) ∙ messages_in-append (items Any Traffic o) (new_items Any Traffic o x)

text_more : (id : PeerId) (o x : List ℕ) → text id (o ++ x) ≡ text id o ++ lines (cond (over o) [] (events_after id (messages o) (newly o x)))
text_more id o x =
    ap (λ ms. lines (events_after id [] ms)) (messages_more o x)
    ∙ ap lines (events_more id [] (messages o) (newly o x))
    ∙ flat_map-append line (events_after id [] (messages o)) (cond (over o) [] (events_after id (messages o) (newly o x)))

pub text_grows : (id : PeerId) (o x : List ℕ) → (added : List ℕ) × (text id (o ++ x) ≡ text id o ++ added)
text_grows id o x = (_, text_more id o x)

over_cond : (o x : List ℕ) → over (o ++ x) ≡ cond (over o) true (is_over (messages o) (newly o x))
over_cond o x = ap (is_over []) (messages_more o x) ∙ over_more [] (messages o) (newly o x)

pub over_stays : (o x : List ℕ) → over o ≡ true → over (o ++ x) ≡ true
over_stays o x e = over_cond o x ∙ ap (λ b. cond b true (is_over (messages o) (newly o x))) e

pub over_later : (o x : List ℕ) → over o ≡ false → over (o ++ x) ≡ is_over (messages o) (newly o x)
over_later o x e = over_cond o x ∙ ap (λ b. cond b true (is_over (messages o) (newly o x))) e

pub text_over : (id : PeerId) (o x : List ℕ) → over o ≡ true → text id (o ++ x) ≡ text id o ++ []
text_over id o x e = text_more id o x ∙ ap (λ b. text id o ++ lines (cond b [] (events_after id (messages o) (newly o x)))) e

pub text_later : (id : PeerId) (o x : List ℕ) → over o ≡ false → text id (o ++ x) ≡ text id o ++ lines (events_after id (messages o) (newly o x))
text_later id o x e = text_more id o x ∙ ap (λ b. text id o ++ lines (cond b [] (events_after id (messages o) (newly o x)))) e

pub no_messages : messages [] ≡ []
unfolding cut
no_messages = refl

pub nothing_over : over [] ≡ false
unfolding is_over
nothing_over = ap (is_over []) no_messages

pub text_nothing : (id : PeerId) → text id [] ≡ []
unfolding events_after
text_nothing id = ap (λ ms. lines (events_after id [] ms)) no_messages

pub no_fault : fault Any Traffic [] ≡ None
unfolding cut frame_why
no_fault = refl

pub nothing_stopped : is_stopped [] ≡ false
nothing_stopped = ap (λ b. not b && is_some (fault Any Traffic [])) nothing_over ∙ ap is_some no_fault

stopped_bad : (a b c : Bool) → (a && b) ≡ true → (a && (b || c)) ≡ true
stopped_bad true true c e = refl
stopped_bad true false c e = absurd cc
stopped_bad false b c e = absurd cc

-- what is refused however it goes on is refused as it is
pub stopped_is_bad : (o : List ℕ) → is_stopped o ≡ true → is_bad o ≡ true
stopped_is_bad o e = stopped_bad (not (over o)) (is_some (fault Any Traffic o)) _ e
