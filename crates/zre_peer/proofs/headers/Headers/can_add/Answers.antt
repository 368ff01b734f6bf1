use Rattle.std.proofs.Common.{◌||◌, length, sym, ap, ◌∙◌, arith}
use Rattle.std.specs.List.{list_any}
use Rattle.std.specs.Str.{bytes_eq}
use Rattle.std.proofs.lemmas.Bool.{le-ltb}
use Rattle.zre_peer.proofs.PairsOfMaps.{name_there}
use Rattle.zre_peer.proofs.PassedLimitsStay.{named_with}
use Rattle.zre_peer.proofs.headers.Headers.can_add.Goals as goal

pub returns-else-len-lt-HEADERS : goal.returns-else-len-lt-HEADERS
returns-else-len-lt-HEADERS c = λ value.
    let headers = c.args.self.now in
    let name = c.args.name.now in
    c.contains_key.ensures
    ∙ name_there (λ name. name.items) name c.self.inside.named.entries headers c.self.view_is
    ∙ ap (λ b. b || list_any (λ pair. bytes_eq pair.0 name) headers) (sym (le-ltb (length headers) 256 (omega arith)))
    ∙ named_with headers name value c.requires
