use Rattle.std.proofs.Common.{sym, ◌∙◌}
use Rattle.zre_peer.proofs.PairsOfMaps.{header_there, header_new}
use Rattle.zre_peer.proofs.headers.Headers.insert.Goals as goal

pub returns-then-contains_key-clause-ok : goal.returns-then-contains_key-clause-ok
returns-then-contains_key-clause-ok c =
    header_there (λ name. name.items) c.self.inside.named.entries c.args.self.now c.args.name.now c.args.value.now c.self.view_is (sym c.contains_key.ensures ∙ c.if-contains_key.true)

pub returns-clause-ok : goal.returns-clause-ok
returns-clause-ok c =
    header_new (λ name. name.items) c.self.inside.named.entries c.insert.new.self.entries c.in_ok-name.name c.in_ok-copy.field-0 c.args.self.now c.args.name.now c.args.value.now
    c.self.view_is c.in_ok-name.ensures.items c.in_ok-copy.ensures (sym c.contains_key.ensures ∙ c.if-contains_key.false) c.in_ok-insert.ensures.entries
