use Rattle.zre_node.proofs.WholeEntries.{others_about_links}
use Rattle.zre_node.proofs.tables.Tables.bring.Goals as goal

pub returns-in_default : goal.returns-in_default
returns-in_default c = λ g H K covered h. c.bring_link.ensures g H K (others_about_links c.args.input c.in_default.not-Datagram c.in_default.not-Opened c.in_default.not-Shut covered) h
