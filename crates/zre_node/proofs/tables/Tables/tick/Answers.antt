use Rattle.std.proofs.Common.{ℕ, List, sym, ap, ◌∙◌, subst}
use Rattle.zre_values.proofs.AnswersThatAreOk.{on_ok}
use Rattle.zre_tables.specs.declared.connection.Connection.{Connection}
use Rattle.zre_tables.specs.declared.peer.Peer.{Peer}
use Rattle.zre_tables.specs.Rows.{numbers_of}
use Rattle.zre_tables.specs.Searches.{row_evasive}
use Rattle.zre_node.specs.Stands.{Holds}
use Rattle.zre_node.proofs.TicksOfTables.{silent_are, evasive_are, stale_are, expiring_known, expire, wavering_entered, probe_then, stale_idle, ticks}
use Rattle.zre_node.proofs.tables.Tables.tick.Goals as goal

pub returns : goal.returns
returns c = λ g K h.
    let t = c.args.self.now in
    let a = c.args.out.now in
    let one = c.in_ok-silent.ensures.rows in
    let two = c.in_ok-evasive_ones.ensures.rows ∙ one in
    let ls = c.as_slice.ensures ∙ c.in_ok-silent.ensures.found ∙ silent_are g K t h in
    let fs = c.as_slice-2.ensures ∙ c.in_ok-evasive_ones.ensures.found ∙ ap (λ (es : List (ℕ × Peer)). numbers_of (row_evasive t.config.evasive t.config.expired t.clock) es) one ∙ evasive_are g K t h in
    let held = subst (λ (ks : List (ℕ × Connection)). Holds g K (record t { peers = c.evasive.new.self; conns = ks })) (sym c.in_ok-stale.ensures.rows)
    (subst (λ (es : List (ℕ × Peer)). Holds g K (record t { peers = es })) (sym two) h) in
    let cs = c.as_slice-3.ensures ∙ c.in_ok-stale.ensures.found ∙ stale_are g K t h in
    let first = expire g K t h _ c.end_all.new.self a c.end_all.new.out ls (c.in_ok-end_all.ensures g K held (expiring_known g K t h _ ls)) in
    let second = probe_then g K t h _ c.probe_all.new.self c.end_all.new.out c.probe_all.new.out fs (c.in_ok-probe_all.ensures g _ first.holds (wavering_entered g K t h _ fs)) in
    let third = c.in_ok-close_all.ensures g _ second.holds (stale_idle g K t h _ cs) in
    on_ok c.call.result (c.call.ensures g _ third.holds) (λ fourth.
    ticks g K _ c.end_all.new.self c.probe_all.new.self c.close_all.new.self a c.end_all.new.out c.probe_all.new.out c.close_all.new.out c.call.new.out cs first second third fourth)
