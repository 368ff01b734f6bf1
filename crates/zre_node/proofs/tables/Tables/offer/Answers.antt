use Rattle.std.proofs.Common.{List, [], ◌≡◌, ◌++◌, ap, sym, ◌∙◌, arith}
use Rattle.std.proofs.lemmas.List.{append-nil, nil_from_length}
use Rattle.zre_outside.specs.declared.act.Act.{Act}
use Rattle.zre_journal.specs.Peers.{lives}
use Rattle.zre_values.proofs.AnswersThatAreOk.{on_ok}
use Rattle.zre_node.specs.Offers.{offered}
use Rattle.zre_node.proofs.OffersOfRows.{among, none_offered}
use Rattle.zre_node.proofs.tables.Tables.offer.Goals as goal

pub returns-then-len-eq0 : goal.returns-then-len-eq0
returns-then-len-eq0 c = λ g K h.
    let pushed = c.args.out.now.pushed in
    let acts = c.args.out.now.acts in
    let none : pushed ≡ [] = nil_from_length pushed (omega (arith, c.len.ensures, c.if-len-eq0.true)) in
    ap (λ (xs : List Act). record c.args.out.now { acts = xs }) (sym (append-nil acts) ∙ ap (λ (xs : List Act). acts ++ xs) (sym (ap (offered g K) none ∙ none_offered g K)))

pub returns : goal.returns
returns c = λ g K h.
    on_ok c.offer.result c.offer.ensures (λ e.
    ap (λ (xs : List Act). record c.args.out.now { acts = xs }) (e ∙ ap (λ (xs : List Act). c.args.out.now.acts ++ xs) (among g K c.args.out.now.pushed (lives K) c.args.self.now.peers h.peers)))
