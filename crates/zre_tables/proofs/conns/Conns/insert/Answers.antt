use Rattle.std.proofs.Common.{◌≡◌, ℕ, ◌≤◌, List, Result, Ok, Err, OnOk, OnErr, nat_cmp, sym, subst}
use Rattle.std.specs.BTreeMap.{insert_entry}
use Rattle.zre_values.specs.declared.memory.OutOfMemory.{OutOfMemory}
use Rattle.zre_tables.specs.IdleConnections.{AllIdleFrom, IdleFrom}
use Rattle.zre_tables.specs.declared.connection.Connection.{Connection}
use Rattle.zre_tables.proofs.IdleConnections.{idle_earlier, idle_listed}
use Rattle.zre_tables.proofs.conns.Conns.insert.Goals as goal

-- whether the row came or not
either : {A : Type 0} (r : Result A OutOfMemory) (first first' n : ℕ) (k : Connection) (old new : List (ℕ × Connection)) → OnOk r (new ≡ insert_entry nat_cmp old n k) → OnErr r (new ≡ old) → first' ≤ first → IdleFrom first' k → AllIdleFrom first old → AllIdleFrom first' new
either (Ok x) first first' n k old new ok err low rests a = idle_listed first first' n k old new ok low rests a
either (Err e) first first' n k old new ok err low rests a = subst (AllIdleFrom first') (sym err) (idle_earlier first' first old low a)

pub invariant_of-self : goal.invariant_of-self
invariant_of-self c =
    let i = c.self.inside in (
      c.insert.ensures.rising,
      either c.insert.result i.first c.earlier_idle-self-inside.result c.args.conn c.args.opened i.rows.all.items c.insert.new.self.all.items c.insert.ensures.ok c.insert.ensures.err
          c.earlier_idle-self-inside.ensures.before c.earlier_idle-self-inside.ensures.rests c.self.invariant.1,
    )
