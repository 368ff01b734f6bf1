use Rattle.std.proofs.Common.{◌≡◌, refl, sym, ap, ◌∙◌}
use Rattle.std.proofs.lemmas.Result.{IfOk-weaker}
use Rattle.zre_mailbox.specs.Conn.{ConnHearing}
use Rattle.zre_mailbox.specs.declared.phase.Phase.TheVariants.{Live}
use Rattle.zre_mailbox.proofs.ConnAfterOctets.{hears_lent, live_hearing, unlent}
use Rattle.zre_mailbox.proofs.conn.Conn.take.Goals as goal

pub returns-clause-taken : goal.returns-clause-taken
returns-clause-taken g c = λ own o e.
    let h = c.args.self.now in
    let live = sym (ap (λ (x : ConnHearing). x.phase) c.self.view_is) ∙ c.in-Live.is in
    let is = ap (λ i. let n : ConnHearing = record { phase = Live c.take.new.self; identity = i } in n) (ap (λ (x : ConnHearing). x.identity) c.self.view_is) in
    IfOk-weaker c.take.result _ _ (λ came t. hears_lent came own o c.args.piece.now h _ c.in-Live.reader c.take.new.self e live is (live_hearing h c.in-Live.reader live) t) c.take.ensures.taken

pub returns-clause-other : goal.returns-clause-other
returns-clause-other g c = λ e.
    let h = c.args.self.now in
    let live = sym (ap (λ (x : ConnHearing). x.phase) c.self.view_is) ∙ c.in-Live.is in
    let is = ap (λ i. let n : ConnHearing = record { phase = Live c.take.new.self; identity = i } in n) (ap (λ (x : ConnHearing). x.identity) c.self.view_is) in
    let same = unlent c.take.result c.in-Live.reader c.take.new.self c.args.piece.now c.take.ensures.taken e in
    (is ∙ ap (λ r. let n : ConnHearing = record { phase = Live r; identity = h.identity } in n) same ∙ live_hearing h c.in-Live.reader live, c.take.ensures.looks.other e)
