-- What is refused however it goes on is refused with whatever follows.
use Rattle.std.proofs.Common.{◌≡◌, ℕ, Bool, true, false, not, ◌&&◌, is_some, List, [], ◌++◌, Option, Some, None, refl, ap, ◌∙◌}
use Rattle.zre_values.specs.declared.peer_id.PeerId.{PeerId}
use Rattle.zre_zmtp.specs.Reading.{IsOver}
use Rattle.zre_zmtp.specs.Stream.{Kind, Whole, Traffic, fault}
use Rattle.zre_zmtp.specs.declared.fault.ZmtpFault.{ZmtpFault}
use Rattle.zre_zmtp.specs.declared.want.Want.TheVariants.{Any}
use Rattle.zre_zmtp.proofs.ReadersFollowStreams.{is_over as stays_faulty}
use Rattle.zre_commands.specs.pump.Meaning.{KeepsRefusing}
use Rattle.zre_commands.specs.follow.Follow as follows
use Rattle.zre_commands.specs.follow.Messages.{messages, messages_in}
use Rattle.zre_commands.specs.follow.Runs.{is_over}
use Rattle.zre_commands.specs.show.Show as shows
use Rattle.zre_commands.proofs.follow.TextIsMonotone as growing
use Rattle.zre_commands.proofs.show.ListerFedPiece as listing

found : (kind : Kind) (o : List ℕ) (f : Option ZmtpFault) → fault Any kind o ≡ f → is_some f ≡ true → IsOver Any kind o
found kind o None e there = absurd cc
found kind o (Some x) e there = stays_faulty Any kind o x e

second : (a b : Bool) → (a && b) ≡ true → b ≡ true
second true b e = e
second false b e = absurd cc

-- of a stream in which a fault is
pub show_refuses : KeepsRefusing shows.show
show_refuses o x e =
    listing.stopped_is_bad (o ++ x) (ap is_some ((found Whole o (fault Any Whole o) refl e).fault x) ∙ e)

-- of messages of a run that hasn't ended
pub follow_refuses : (id : PeerId) → KeepsRefusing (follows.follow id)
follow_refuses id o x e =
    let h = found Traffic o (fault Any Traffic o) refl (second (not (follows.over o)) _ e) in
    let same : messages (o ++ x) ≡ messages o = ap messages_in (h.items x) in
    growing.stopped_is_bad (o ++ x)
    (ap (λ ms. not (is_over [] ms) && is_some (fault Any Traffic (o ++ x))) same
    ∙ ap (λ f. not (follows.over o) && is_some f) (h.fault x) ∙ e)
