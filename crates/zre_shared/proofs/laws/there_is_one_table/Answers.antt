use Rattle.std.proofs.Common.{sym, subst, List}
use Rattle.zre_shared.specs.declared.write.Write.{Write}
use Rattle.zre_shared.specs.Tables.{table, IsTableOf}
use Rattle.zre_shared.proofs.TableIsOneList.{public-from, from-public, is-table, tables}
use Rattle.zre_shared.proofs.laws.there_is_one_table.Goals as goal

pub returns : goal.returns
returns c = λ ws t.
    (λ h. is-table ws t (from-public ws t h), λ e. subst (λ (s : List Write). IsTableOf ws s) (sym e) (public-from ws (table ws) (tables ws)))
