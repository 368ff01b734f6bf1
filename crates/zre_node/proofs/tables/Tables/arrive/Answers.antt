use Rattle.std.proofs.Common.{◌≡◌, ℕ, Bool, List, [], Option, None, Some, refl, sym, ap, ◌∙◌, subst}
use Rattle.std.specs.Prelude.{option_map, if◌then◌else◌}
use Rattle.std.specs.Result.{OnOk}
use Rattle.zre_msg.specs.declared.message.Message.{Message}
use Rattle.zre_mailbox.specs.declared.arrival.Arrival.TheVariants as arrived
use Rattle.zre_mailbox.specs.Talk.{arrival_of}
use Rattle.zre_values.specs.declared.settings.Settings.{Settings as Config}
use Rattle.zre_journal.specs.Arrivals.{at_message}
use Rattle.zre_journal.specs.Chronicle.{Mark}
use Rattle.zre_journal.specs.Connections.{runs}
use Rattle.zre_node.specs.Said.{at_item, at_read}
use Rattle.zre_node.specs.Stands.{Did}
use Rattle.zre_node.proofs.LentPieces.{comes_later}
use Rattle.zre_node.proofs.tables.Tables.arrive.Goals as goal

pub returns-in-Message-Some : goal.returns-in-Message-Some
returns-in-Message-Some c = λ g H h.
    let stands = c.in-Some.ensures g H h in
    let on : runs c.args.conn H ≡ Some c.in-Message-Some.link = sym stands.1 ∙ c.in-Message-Some.is-1 in
    subst (λ hs. OnOk c.later_in.result (Did g hs H c.later_in.new.self c.args.out.now c.later_in.new.out))
    (comes_later g c.args.conn c.in-Message-Some.link _ H on
    ∙ ap (λ w. at_item g c.args.conn (arrival_of w) H) (sym c.in-Message-Some.is-0)
    ∙ ap (λ (b : Bool). if b then at_item g c.args.conn (arrival_of c.args.what.now) H else []) (sym stands.0))
    (c.later_in.ensures g H c.args.conn h on)
