use Rattle.std.proofs.Common.{sym, ap, subst, refl, ◌∙◌}
use Rattle.zre_zmtp.specs.Reading.{Reading, Reads}
use Rattle.zre_zmtp.specs.Stream.{Traffic}
use Rattle.zre_zmtp.specs.declared.want.Want.TheVariants.{Any}
use Rattle.zre_commands.specs.follow.Follower.{peer_of}
use Rattle.zre_commands.specs.follow.Messages.{messages}
use Rattle.zre_commands.proofs.follow.FollowFedPiece.{piece_taken, feeds_on}
use Rattle.zre_commands.proofs.follow.FollowFedParts.{front_taken}
use Rattle.zre_commands.proofs.follow.follower.Follower.feed_front.Goals as goal

pub returns-in-Some-clause-fed : goal.returns-in-Some-clause-fed
returns-in-Some-clause-fed c = λ o h going.
    front_taken c.args.self.now _ o c.args.octets.now c.in-Some.front c.args.out.now c.take_front.new.out c.requires.running h going c.in-Some.ensures.passed (c.in_ok-take_front.ensures.took (messages o)) refl

pub returns-clause-fed : goal.returns-clause-fed
returns-clause-fed c = λ o h going.
    let part = c.split_at.result.0.now in
    let same = c.pass.ensures.none c.in_default.is in
    let k = piece_taken c.args.self.now o part _ _ _ _ _ _ _ _ c.requires.running h going c.clear.ensures c.as_slice.ensures
    (λ reads. c.in_ok-fault.ensures Traffic o (subst (λ (r : Reading). Reads Any Traffic o r) (sym same) reads)) (c.in_ok-take_items.ensures.took (messages o)) in
    rw (sym c.split_at.ensures.front) (feeds_on (peer_of c.args.self.now) _ o part c.args.out.now c.take_items.new.out k.0 k.1, k.1.text)
