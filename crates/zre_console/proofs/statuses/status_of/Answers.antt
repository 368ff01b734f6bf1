use Rattle.std.proofs.Common.{◌≡◌, ◌∙◌, ◌∷◌, [], ap}
use Rattle.zre_console.specs.Statuses.{least, of_print, of_work, of_thread}
use Rattle.zre_console.proofs.LeastStatus.{least_nested}
use Rattle.zre_console.proofs.statuses.status_of.Goals as goal

pub returns : goal.returns
returns c =
    let a = c.args in
    let work = of_work a.ending in
    let thread = of_thread a.refused in
    let print = of_print a.fault in
    let last : c.first-last.result ≡ least (work ∷ thread ∷ []) =
    c.first-last.ensures ∙ ap (λ s. least (s ∷ c.of_thread.result ∷ [])) c.of_work.ensures
    ∙ ap (λ s. least (work ∷ s ∷ [])) c.of_thread.ensures in
    let rest : c.first.result ≡ least (print ∷ work ∷ thread ∷ []) =
    c.first.ensures ∙ ap (λ s. least (s ∷ c.first-last.result ∷ [])) c.of_print.ensures
    ∙ ap (λ s. least (print ∷ s ∷ [])) last ∙ least_nested print (work ∷ thread ∷ []) in
    c.first-2.ensures ∙ ap (λ s. least (a.read ∷ s ∷ [])) rest
    ∙ least_nested a.read (print ∷ work ∷ thread ∷ [])
