use Rattle.std.proofs.Common.{◌+◌, ◌++◌, ◌∷◌, [], length, sym, ap, ◌∙◌, subst, append_assoc, rules}
use Rattle.crossbeam_queue.specs.Passes.{view}
use Rattle.crossbeam_channel.specs.Claims as channel
use Rattle.std.specs.Vec.Iter.{into_iter_items}
use Rattle.zre_actor.specs.Commands.{joined, Accounts, command_of}
use Rattle.zre_actor.specs.Passes.{caller}
use Rattle.zre_actor.proofs.CommandPipeInvariant.{merges}
use Rattle.zre_actor.proofs.EventPipeInvariant.{meets, learns_met}
use Rattle.std.proofs.lemmas.List.{length-map}
use Rattle.zre_actor.proofs.AllCallersGathered.{gathered_all, learns_all_put, gathered, gathered-snoc, fronts, each_prefix, all_left, all_ended}
use Rattle.zre_actor.proofs.passes.Pipes.finish.Goals as goal

pub absorb-requires-clause-rule : goal.absorb-requires-clause-rule
absorb-requires-clause-rule g c = merges _ _ _ _ c.in-Some.pass.is_caller.0

pub loop-pass-preserved : goal.loop-pass-preserved
loop-pass-preserved g c = let h = c.loop-pass.invariant in let p = c.in-Some.pass in record {
  seat = (c.absorb.ensures.queue.0 ∙ h.seat.0, c.absorb.ensures.queue.2 ∙ h.seat.1);
  rest = h.rest ∙ ap (λ l. c.loop-pass.yielded ++ l) c.in-Some.ensures.steps.0 ∙ sym (append_assoc c.loop-pass.yielded (p ∷ []) (into_iter_items c.next.new.self));
  view_is = c.absorb.ensures.rule ∙ ap (λ v. joined v (caller p)) h.view_is ∙ sym (gathered-snoc (view c.args.actor.commands) c.loop-pass.yielded p);
}

pub len_as-left-requires-clause-rule : goal.len_as-left-requires-clause-rule
len_as-left-requires-clause-rule g c = let l = c.loop-pass in let v = view c.args.actor.commands in let ps = c.args.callers.given.items in
    let all = gathered_all v (view l.commands) ps l.yielded (into_iter_items l.pass-iterator) l.pass-iterator.rest.len l.invariant.rest l.pass-iterator.rest.ok.0 c.in-None.ensures.steps.0 l.invariant.view_is in
    learns_all_put _ _ v ps all c.args.actor.is_actor c.requires.back

pub absorb-requires-2-clause-rule : goal.absorb-requires-2-clause-rule
absorb-requires-2-clause-rule g c = meets _ _ _ _ c.args.actor.raises c.args.taker.takes

pub learn_as-requires-clause-rule : goal.learn_as-requires-clause-rule
learn_as-requires-clause-rule g c = learns_met _ _ (channel.view c.args.actor.events) (channel.view c.args.taker.events) c.absorb-2.ensures.rule c.requires.last

pub returns : goal.returns
returns g c = let l = c.loop-pass in let v = view c.args.actor.commands in let ps = c.args.callers.given.items in
    let all = gathered_all v (view l.commands) ps l.yielded (into_iter_items l.pass-iterator) l.pass-iterator.rest.len l.invariant.rest l.pass-iterator.rest.ok.0 c.in-None.ensures.steps.0 l.invariant.view_is in
    let held = c.len_as-left.ensures.rule.1 in
    let known : Accounts (gathered v ps) held.0 = subst (λ u. Accounts u held.0) all held.2 in
    let nothing = c.args.actor.is_actor.3 in
    record {
      put = each_prefix v ps held.0 nothing known;
      fronts = fronts v ps held.0 nothing known;
      left = ap (λ n. n + length v.popped) (sym held.1 ∙ sym (ap length known.are_queued) ∙ length-map known.queued command_of) ∙ all_left v ps held.0 nothing known;
      ended = all_ended v ps held.0 nothing known;
      taken = search rules;
    }
