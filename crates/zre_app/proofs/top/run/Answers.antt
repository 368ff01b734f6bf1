use Rattle.std.proofs.Common.{true≢false, ◌∙◌, sym}
use Rattle.zre_app.proofs.CommandComplete.{completes}
use Rattle.zre_app.proofs.CommandOutcomes.{plain_did, usage_did, chat_did}
use Rattle.zre_app.proofs.LedgersKept.{keeps_its_ledgers}
use Rattle.zre_app.proofs.RefusedReads.{memory_read_so, unread_so, read_so, nothing_first, line_first}
use Rattle.zre_app.proofs.NoMemoryAtStart.{nothing_did}
use Rattle.zre_chat.specs.Views.{handed, stream_views, views}
use Rattle.zre_app.specs.Words.{command_of}
use Rattle.zre_app.proofs.top.run.Goals as goal

-- ---- no memory for the words

pub returns-in-Err-clause-does : goal.returns-in-Err-clause-does
returns-in-Err-clause-does g c = nothing_did _ _ _ _

pub returns-in-Err-clause-read : goal.returns-in-Err-clause-read
returns-in-Err-clause-read g c = memory_read_so _

pub returns-in-Err-clause-first : goal.returns-in-Err-clause-first
returns-in-Err-clause-first g c = λ is. nothing_first _ _ _ _ _

pub returns-in-Err-clause-ledgers : goal.returns-in-Err-clause-ledgers
returns-in-Err-clause-ledgers g c = keeps_its_ledgers _

pub returns-in-Err-clause-complete : goal.returns-in-Err-clause-complete
returns-in-Err-clause-complete g c =
    let i = g.I.Source in let w = g.W.World in let o = g.O.Sink in let r = g.R.Recorder in let a = c.args in
    let v = views (stream_views i.left i.taken i.faults o.written o.faults) w.told w.faults r.kept r.named r.faults g.P.Spawner.faults in
    let h = handed a.input a.world a.out.now a.rec a.spawner.now in
    completes _ _ _ _ _ (nothing_did v (command_of a.words.now) a.limit h).does

-- ---- words that aren't a chat's, though its name is theirs

pub returns-in-Ok-None-clause-read : goal.returns-in-Ok-None-clause-read
returns-in-Ok-None-clause-read g c = unread_so _ _ c.usage.ensures.unread

pub returns-in-Ok-None-clause-first : goal.returns-in-Ok-None-clause-first
returns-in-Ok-None-clause-first g c = λ is. line_first _ _ _ _ _ c.usage.ensures.first

pub returns-in-Ok-None-clause-ledgers : goal.returns-in-Ok-None-clause-ledgers
returns-in-Ok-None-clause-ledgers g c = keeps_its_ledgers _

pub returns-in-Ok-None-clause-complete : goal.returns-in-Ok-None-clause-complete
returns-in-Ok-None-clause-complete g c =
    let i = g.I.Source in let w = g.W.World in let o = g.O.Sink in let r = g.R.Recorder in let a = c.args in
    let v = views (stream_views i.left i.taken i.faults o.written o.faults) w.told w.faults r.kept r.named r.faults g.P.Spawner.faults in
    completes _ _ _ _ _ (usage_did v a.words.now a.limit c.usage.result a.input a.world a.out.now c.usage.new.out a.rec a.spawner.now
    (sym c.is_chat.ensures ∙ c.if-not-is_chat.false) (sym c.in-Ok-None.field-0-is ∙ c.in-Ok-None.ensures.value) c.usage.ensures.written c.usage.ensures.writes).does

-- ---- a chat

pub returns-in-Ok-Some-clause-does : goal.returns-in-Ok-Some-clause-does
returns-in-Ok-Some-clause-does g c =
    let i = g.I.Source in let w = g.W.World in let o = g.O.Sink in let r = g.R.Recorder in let a = c.args in
    let v = views (stream_views i.left i.taken i.faults o.written o.faults) w.told w.faults r.kept r.named r.faults g.P.Spawner.faults in
    let h = handed a.input a.world a.out.now a.rec a.spawner.now in
    let h' = handed c.run.result.input c.run.result.world c.run.new.out c.run.result.rec c.run.new.spawner in
    chat_did v a.words.now a.limit c.run.result.status h h' c.in-Ok-Some.asked
    (sym c.is_chat.ensures ∙ c.if-not-is_chat.false) (sym c.in-Ok-Some.field-0-is ∙ c.in-Ok-Some.ensures.value) c.run.ensures.chat c.run.ensures.unrecorded
    (c.run.ensures.faults.0, c.run.ensures.faults.1)

pub returns-in-Ok-Some-clause-read : goal.returns-in-Ok-Some-clause-read
returns-in-Ok-Some-clause-read g c = c.run.ensures.read

pub returns-in-Ok-Some-clause-first : goal.returns-in-Ok-Some-clause-first
returns-in-Ok-Some-clause-first g c = λ is. c.run.ensures.first

pub returns-in-Ok-Some-clause-ledgers : goal.returns-in-Ok-Some-clause-ledgers
returns-in-Ok-Some-clause-ledgers g c = keeps_its_ledgers _

pub returns-in-Ok-Some-clause-complete : goal.returns-in-Ok-Some-clause-complete
returns-in-Ok-Some-clause-complete g c =
    let i = g.I.Source in let w = g.W.World in let o = g.O.Sink in let r = g.R.Recorder in let a = c.args in
    let v = views (stream_views i.left i.taken i.faults o.written o.faults) w.told w.faults r.kept r.named r.faults g.P.Spawner.faults in
    let h = handed a.input a.world a.out.now a.rec a.spawner.now in
    let h' = handed c.run.result.input c.run.result.world c.run.new.out c.run.result.rec c.run.new.spawner in
    completes _ _ _ _ _ (chat_did v a.words.now a.limit c.run.result.status h h' c.in-Ok-Some.asked
    (sym c.is_chat.ensures ∙ c.if-not-is_chat.false) (sym c.in-Ok-Some.field-0-is ∙ c.in-Ok-Some.ensures.value) c.run.ensures.chat c.run.ensures.unrecorded
    (c.run.ensures.faults.0, c.run.ensures.faults.1)).does

-- ---- another command

pub returns-then-not-is_chat-clause-read : goal.returns-then-not-is_chat-clause-read
returns-then-not-is_chat-clause-read g c = read_so _ _ _ c.plain-status.ensures.refused

pub returns-then-not-is_chat-clause-first : goal.returns-then-not-is_chat-clause-first
returns-then-not-is_chat-clause-first g c = λ is. absurd (true≢false (sym is ∙ sym c.is_chat.ensures ∙ c.if-not-is_chat.true))

pub returns-then-not-is_chat-clause-ledgers : goal.returns-then-not-is_chat-clause-ledgers
returns-then-not-is_chat-clause-ledgers g c = keeps_its_ledgers _

pub returns-then-not-is_chat-clause-complete : goal.returns-then-not-is_chat-clause-complete
returns-then-not-is_chat-clause-complete g c =
    let i = g.I.Source in let w = g.W.World in let o = g.O.Sink in let r = g.R.Recorder in let a = c.args in
    let v = views (stream_views i.left i.taken i.faults o.written o.faults) w.told w.faults r.kept r.named r.faults g.P.Spawner.faults in
    completes _ _ _ _ _ (plain_did v a.words.now a.limit c.plain-status.result.status a.input c.plain-status.result.input a.world a.out.now c.plain-status.new.out a.rec a.spawner.now
    (sym c.is_chat.ensures ∙ c.if-not-is_chat.true) c.plain-status.ensures.does).does
