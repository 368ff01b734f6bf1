use Rattle.std.proofs.Common.{ℕ, IsSome, sym, ap, ◌∙◌, subst, refl}
use Rattle.zre_msg.specs.declared.message.Body.TheVariants as body
use Rattle.zre_journal.specs.Pushes.{push}
use Rattle.zre_journal.specs.Peers.{life, life_of}
use Rattle.zre_journal.proofs.KnownPeers.{known_of}
use Rattle.zre_node.proofs.MarksOfCommands.{whispers}
use Rattle.zre_node.proofs.FirstMessages.{on_did_as}
use Rattle.zre_node.proofs.tables.Tables.whisper.Goals as goal

pub returns : goal.returns
returns c = λ g K h.
    let p = c.args.peer in
    let content = c.args.content in
    let it = c.in-Some.ensures g K h in
    let there : IsSome (life it.0.link K) = rw (known_of K h.keeps.proper p it.0 it.1) refl in
    let known = subst (λ (l : ℕ). IsSome (life l K)) it.3 there in
    on_did_as g _ _ K _ _ _ c.push.result (whispers g K p content (life_of p K) it.0 it.1 it.2 (sym c.is_big.ensures ∙ c.if-is_big.false) ∙ ap (λ (l : ℕ). push g l (body.Whisper content) K) it.3)
    (c.push.ensures.did g K h known)
