-- Lists copied one by one, and what a node says of itself.
use Rattle.std.proofs.Common.{◌≡◌, ℕ, ◌+◌, ◌<◌, List, [], ◌∷◌, ◌++◌, length, take, Some, ap, ◌∙◌, refl}
use Rattle.std.proofs.lemmas.List.{take_more}
use Rattle.std.proofs.lemmas.Option.{get_or_from_slice_get}
use Rattle.std.specs.List.{slice_get}
use Rattle.zre_msg.specs.declared.message.Body.{Body}
use Rattle.zre_msg.specs.declared.message.Body.TheVariants as body
use Rattle.zre_values.specs.declared.settings.Settings.{Settings as Config}
use Rattle.zre_journal.specs.Chronicle.{Mark}
use Rattle.zre_journal.specs.Pushes.{hello}
use Rattle.zre_node.specs.declared.tables.Tables.{Tables}
use Rattle.zre_node.specs.Stands.{Keeps}

pub take_next : (xs : List (List ℕ)) (i : ℕ) (x : List ℕ) → i < length xs → slice_get xs i ≡ Some x → take (i + 1) xs ≡ take i xs ++ x ∷ []
take_next xs i x low e = take_more xs i x low ∙ ap (λ y. take i xs ++ y ∷ []) (get_or_from_slice_get xs i x x e)

-- the HELLO that the tables give is that of the chronicle
pub same_hello : (g : Config) (H : List Mark) (t : Tables) → Keeps g H t → (b : Body) → b ≡ body.Hello t.mailbox t.own.groups t.own.status t.config.name t.config.headers → b ≡ hello g H
same_hello g H t k b e = e ∙ rw (k.mailbox, k.own, k.config) refl
