use Rattle.std.proofs.Common.{◌≡◌, ℕ, ap, ◌∙◌, length, subst, arith}
use Rattle.std.specs.List.{AllByRecursion}
use Rattle.std.specs.Map.{values_of}
use Rattle.std.proofs.lemmas.Result.{IfOk-weaker}
use Rattle.zre_shared.specs.Replicas.{HeldWrites}
use Rattle.zre_shared.specs.Writes.{IsWrite}
use Rattle.zre_shared.proofs.MapKeepsTable.{held-fits}
use Rattle.zre_shared.proofs.FrameLengths.{frame-short}
use Rattle.zre_shared.proofs.FramesOfTables.{started, stepped, fits-next, welcomed}
use Rattle.zre_shared.proofs.replica.Replica.welcome.Goals as goal

pub loop-write-init : goal.loop-write-init
loop-write-init c =
    let held : values_of c.self.inside.writes.entries ≡ c.args.self.now.writes = ap (λ (h : HeldWrites). h.writes) c.self.view_is in
    started c.args.peer c.args.self.now.writes c.into_iter-write-iterator.result c.new-gathered.result c.new-gathered.ensures.gathered c.new-gathered.ensures.peer c.new-gathered.ensures.none
    (c.into_iter-write-iterator.ensures.into_iter_gives ∙ c.values-write-items.ensures.rest ∙ held)
    (subst (AllByRecursion IsWrite) held (held-fits c.self.inside.writes c.self.inside.greatest c.self.inside.id c.self.invariant))

pub write-requires-clause-key : goal.write-requires-clause-key
write-requires-clause-key c =
    (fits-next c.args.peer c.args.self.now.writes c.loop-write.write-iterator c.next.new.self c.in-Some.write.now c.loop-write.gathered c.loop-write.invariant c.in-Some.ensures.steps).key_fits

pub write-requires-clause-value : goal.write-requires-clause-value
write-requires-clause-value c =
    (fits-next c.args.peer c.args.self.now.writes c.loop-write.write-iterator c.next.new.self c.in-Some.write.now c.loop-write.gathered c.loop-write.invariant c.in-Some.ensures.steps).value_fits

pub push-requires-clause-gathered : goal.push-requires-clause-gathered
push-requires-clause-gathered c = c.loop-write.invariant.gathered

pub push-requires-clause-fits : goal.push-requires-clause-fits
push-requires-clause-fits c =
    let is : IsWrite c.in-Some.write.now = fits-next c.args.peer c.args.self.now.writes c.loop-write.write-iterator c.next.new.self c.in-Some.write.now c.loop-write.gathered c.loop-write.invariant c.in-Some.ensures.steps in
    omega (arith, ap (length {A = ℕ}) c.in-Ok.ensures, frame-short c.in-Some.write.now is)

pub loop-write-preserved : goal.loop-write-preserved
loop-write-preserved c =
    stepped c.args.peer c.args.self.now.writes c.loop-write.write-iterator c.next.new.self c.in-Some.write.now c.loop-write.gathered c.push.new.self c.in-Ok.frame
    c.loop-write.invariant c.in-Some.ensures.steps c.in-Ok.ensures c.in-Ok-push.ensures

pub finish-requires : goal.finish-requires
finish-requires c = c.loop-write.invariant.gathered

pub returns : goal.returns
returns c =
    let held : values_of c.self.inside.writes.entries ≡ c.args.self.now.writes = ap (λ (h : HeldWrites). h.writes) c.self.view_is in
    IfOk-weaker c.finish.result _ _ (λ commands are. welcomed c.args.peer c.args.self.now.writes c.loop-write.write-iterator c.loop-write.gathered commands c.loop-write.invariant c.in-None.ensures.steps.0
    (subst (AllByRecursion IsWrite) held (held-fits c.self.inside.writes c.self.inside.greatest c.self.inside.id c.self.invariant)) are) c.finish.ensures
