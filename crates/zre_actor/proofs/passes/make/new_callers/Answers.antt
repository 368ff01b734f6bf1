use Rattle.std.proofs.Common.{◌≡◌, ◌<◌, ◌+◌, ◌-◌, true, [], ◌∷◌, ◌++◌, ℕ, drop, length, sym, ap, ◌∙◌, arith}
use Rattle.std.proofs.lemmas.List.{map-append}
use Rattle.std.proofs.lemmas.List.Elements.{All-push}
use Rattle.crossbeam_queue.specs.Passes.{view, IsPassOf}
use Rattle.zre_actor.specs.declared.views.CommandView.{CommandView}
use Rattle.zre_actor.specs.Passes.{number, numbers_of, IsNew}
use Rattle.zre_actor.specs.Commands as commands
use Rattle.zre_actor.specs.Commands.{row, head_or}
use Rattle.zre_actor.proofs.ConsecutiveNumbers.{row_snoc, row_left, length_row}
use Rattle.zre_actor.proofs.passes.make.new_callers.Goals as goal

pub new_caller-requires-clause-unused : goal.new_caller-requires-clause-unused
new_caller-requires-clause-unused c = let n : ℕ = c.loop-number.number in
    let e : length (view c.loop-number.actor).unused ≡ 16 - n = ap (λ (v : CommandView). length v.unused) c.loop-number.invariant.actor.1 ∙ length_row (1 + n) (16 - n) in omega arith

pub loop-number-preserved : goal.loop-number-preserved
loop-number-preserved c = let n : ℕ = c.loop-number.number in let less : n < 16 = omega arith in let h = c.loop-number.invariant in record {
  actor = (
    (c.new_caller.ensures.queue.0.0 ∙ h.actor.0.0, c.new_caller.ensures.queue.0.2 ∙ h.actor.0.1),
    c.new_caller.ensures.actor ∙ ap commands.without_one h.actor.1 ∙ ap (λ r. commands.view true [] [] [] (drop 1 r) []) (row_left n less),
  );
  passes = rw c.push_reserved.ensures.items (All-push (λ p. IsPassOf c.args.commands.now p.commands) c.loop-number.fresh.items c.new_caller.result h.passes c.new_caller.ensures.queue.1);
  new = rw c.push_reserved.ensures.items (All-push IsNew c.loop-number.fresh.items c.new_caller.result h.new (ap (λ (v : CommandView). v.ended) c.new_caller.ensures.caller, ap (λ (v : CommandView). v.put) c.new_caller.ensures.caller, c.new_caller.ensures.fulls));
  numbers = ap numbers_of c.push_reserved.ensures.items ∙ map-append number c.loop-number.fresh.items _
      ∙ (let is = ap (λ (v : CommandView). head_or v.own) c.new_caller.ensures.caller ∙ ap (λ (v : CommandView). head_or (commands.one_caller v).own) h.actor.1 ∙ ap (λ r. head_or (commands.one_caller (commands.view true [] [] [] r [])).own) (row_left n less) in
      ap (λ l. l ++ number c.new_caller.result ∷ []) h.numbers ∙ ap (λ k. row 1 n ++ k ∷ []) is ∙ sym (row_snoc 1 n));
  room = (c.push_reserved.ensures.len ∙ ap (λ k. k + 1) h.room.0, omega (arith, c.push_reserved.ensures.capacity, h.room.1));
}
