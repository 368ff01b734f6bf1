use Rattle.std.proofs.Common.{◌≡◌, ◌∙◌, ap, [], ◌∷◌, false}
use Rattle.zre_msg.specs.declared.message.Body.{Body}
use Rattle.zre_values.specs.declared.settings.Settings.{Settings as Config}
use Rattle.zre_journal.specs.Pushes.{hello}
use Rattle.zre_link.specs.Link.{Sending, link_after}
use Rattle.zre_link.specs.Text.{Says}
use Rattle.zre_node.proofs.EntriesThatCome.{ok_of, at_ok}
use Rattle.zre_node.proofs.CopiedLists.{same_hello}
use Rattle.zre_node.proofs.tables.Tables.greeted_link.Goals as goal

pub returns : goal.returns
returns c = λ g H k.
    let made = c.in_ok-hello.field-0 in
    let own = c.args.self.now.config.id in
    let same = same_hello g H c.args.self.now k made c.in_ok-hello.ensures in
    ok_of (λ (link : Sending). link ≡ link_after g.id (Says (hello g H) ∷ []) false [] 0) c.link_with-link.result (λ link ok.
    at_ok (λ (l : Sending). l ≡ link_after own (Says made ∷ []) false [] 0) c.link_with-link.result link ok c.link_with-link.ensures
    ∙ ap (λ (f : Config). link_after f.id (Says made ∷ []) false [] 0) k.config
    ∙ ap (λ (b : Body). link_after g.id (Says b ∷ []) false [] 0) same)
