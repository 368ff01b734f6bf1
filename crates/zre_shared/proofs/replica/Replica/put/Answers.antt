use Rattle.std.proofs.Common.{◌∙◌}
use Rattle.zre_shared.proofs.MapKeepsTable.{adds, replaces, put-kept, put-held}
use Rattle.zre_shared.proofs.replica.Replica.put.Goals as goal

pub invariant_of-self : goal.invariant_of-self
invariant_of-self c =
    let m = c.self.inside.writes in
    let n = c.get_mut.follows.lender c.replace.new.held in
    let written = c.get_mut.follows.holds c.replace.new.held in
    let is = replaces m n c.self.inside.greatest c.self.inside.id c.in-Some.held.now c.args.write c.replace.new.held c.as_slice.result.now c.self.invariant c.requires c.as_slice.ensures c.in-Some.ensures.value c.replace.ensures written.0 written.4 in
    put-kept m n c.self.inside.greatest c.max-greatest.result c.self.inside.id c.args.write c.self.invariant is c.max-greatest.ensures

pub returns-in-Some-clause-ok : goal.returns-in-Some-clause-ok
returns-in-Some-clause-ok c =
    let m = c.self.inside.writes in
    let n = c.get_mut.follows.lender c.replace.new.held in
    let written = c.get_mut.follows.holds c.replace.new.held in
    let is = replaces m n c.self.inside.greatest c.self.inside.id c.in-Some.held.now c.args.write c.replace.new.held c.as_slice.result.now c.self.invariant c.requires c.as_slice.ensures c.in-Some.ensures.value c.replace.ensures written.0 written.4 in
    put-held m n c.self.inside.greatest c.self.inside.id c.args.write c.args.self.now c.self.invariant is c.self.view_is

pub invariant_of-self-2 : goal.invariant_of-self-2
invariant_of-self-2 c =
    let m = c.self.inside.writes in
    let is = adds m c.get_mut.follows.lender-at-none c.insert.new.self c.self.inside.greatest c.self.inside.id c.in_ok-key.key c.args.write c.as_slice.result.now c.self.invariant c.requires (c.in_ok-key.ensures.items ∙ c.as_slice-2.ensures) c.as_slice.ensures
    c.in_default.ensures.value c.get_mut.follows.holds-at-none c.in_ok-insert.ensures.entries c.in_ok-insert.ensures.ordered in
    put-kept m c.insert.new.self c.self.inside.greatest c.max-greatest.result c.self.inside.id c.args.write c.self.invariant is c.max-greatest.ensures

pub returns-clause-ok : goal.returns-clause-ok
returns-clause-ok c =
    let m = c.self.inside.writes in
    let is = adds m c.get_mut.follows.lender-at-none c.insert.new.self c.self.inside.greatest c.self.inside.id c.in_ok-key.key c.args.write c.as_slice.result.now c.self.invariant c.requires (c.in_ok-key.ensures.items ∙ c.as_slice-2.ensures) c.as_slice.ensures
    c.in_default.ensures.value c.get_mut.follows.holds-at-none c.in_ok-insert.ensures.entries c.in_ok-insert.ensures.ordered in
    put-held m c.insert.new.self c.self.inside.greatest c.self.inside.id c.args.write c.args.self.now c.self.invariant is c.self.view_is
