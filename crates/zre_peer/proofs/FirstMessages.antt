-- The first message of a run.
use Rattle.std.proofs.Common.{◌≡◌, true, false, cond, ◌&&◌, List, [], ◌∷◌, ◌++◌, map, refl, sym, ap, ◌∙◌}
use Rattle.std.specs.Prelude.{◌==◌}
use Rattle.zre_values.specs.declared.peer_id.PeerId.{PeerId}
use Rattle.zre_msg.specs.declared.message.Message.{Message}
use Rattle.zre_msg.specs.declared.message.Body.{Body}
use Rattle.zre_msg.specs.declared.message.Body.TheVariants.{Hello, Whisper, Shout, Join, Leave, Ping, PingOk, Other}
use Rattle.zre_peer.specs.declared.event.Event.{Event}
use Rattle.zre_peer.specs.declared.event.Event.TheVariants as kinds
use Rattle.zre_peer.specs.declared.view.View.{View}
use Rattle.zre_peer.specs.declared.peer_run.RunFault.{RunFault}
use Rattle.zre_peer.specs.declared.peer_run.RunFault.TheVariants as faults
use Rattle.zre_peer.specs.Runs.{events_of, is_hello, may_follow, fault_of}
use Rattle.zre_peer.specs.Views.{view_of, after, blank, is_small}
use Rattle.zre_peer.proofs.ViewsWithinLimits.{and_true}

pub view_of_one : (m : Message) → view_of (m ∷ []) ≡ after blank m.body
unfolding view_of
view_of_one m = refl

-- the events of a HELLO, read off the view that it sets
abbrev pub told_of : PeerId → View → List Event
told_of id v = kinds.Enter id v.name v.endpoint v.headers ∷ map (λ g. kinds.Join id v.name g) v.groups

pub hello_tells : (id : PeerId) (u : View) (b : Body) → is_hello b ≡ true → events_of id u b ≡ told_of id (after blank b)
hello_tells id u (Hello endpoint groups status name headers) e = refl
hello_tells id u (Whisper content) e = absurd cc
hello_tells id u (Shout group content) e = absurd cc
hello_tells id u (Join group status) e = absurd cc
hello_tells id u (Leave group status) e = absurd cc
hello_tells id u Ping e = absurd cc
hello_tells id u PingOk e = absurd cc
hello_tells id u (Other number rest more) e = absurd cc

pub first_refuses : (m : Message) (e : RunFault) → m.sequence ≡ 1 → ((is_hello m.body && is_small (after blank m.body)) ≡ false) × (e ≡ cond (is_hello m.body) faults.Limit faults.NotHello)
    → (may_follow [] m ≡ false) × (e ≡ fault_of [] m)
first_refuses m e number h =
    let hello = is_hello m.body in
    let view = view_of (m ∷ []) in (
      ap (λ n. (hello && (n == 1)) && is_small view) number ∙ ap (λ b. b && is_small view) (and_true hello) ∙ ap (λ v. hello && is_small v) (view_of_one m) ∙ h.0,
      h.1 ∙ sym (ap (λ n. cond (hello && (n == 1)) faults.Limit faults.NotHello) number ∙ ap (λ b. cond b faults.Limit faults.NotHello) (and_true hello)),
    )

pub first_accepts : (id : PeerId) (m : Message) (v : View) (before events : List Event) → m.sequence ≡ 1 → (is_hello m.body ≡ true) × (v ≡ after blank m.body) × (is_small (after blank m.body) ≡ true) → events ≡ before ++ told_of id v
    → (may_follow [] m ≡ true) × (v ≡ view_of (m ∷ [])) × (events ≡ before ++ events_of id (view_of []) m.body)
first_accepts id m v before events number h told =
    let view : is_small (view_of (m ∷ [])) ≡ true = rw (view_of_one m) h.2 in
    (rw (h.0, view, number) refl, h.1 ∙ sym (view_of_one m), told ∙ ap (λ t. before ++ t) (ap (told_of id) h.1 ∙ sym (hello_tells id (view_of []) m.body h.0)))
