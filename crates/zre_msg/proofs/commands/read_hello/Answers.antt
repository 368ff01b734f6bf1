use Rattle.std.proofs.Common.{ap, ◌∙◌}
use Rattle.zre_msg.specs.Reading.{◌>>=◌, hello_at, named_at}
use Rattle.zre_msg.proofs.HelloFieldsByName.{whole, hello_is, ends_so}
use Rattle.zre_msg.proofs.commands.read_hello.Goals as goal

pub returns-in-Ok-named_at : goal.returns-in-Ok-named_at
returns-in-Ok-named_at c =
    let e = c.in-Ok.found.0 in
    let g = c.in-Ok-strings_at.found.0 in
    hello_is c.args.octets.now c.in-Ok.found.1.now c.in-Ok-strings_at.found.1.now e g c.in-Ok.ensures c.in-Ok-strings_at.ensures
    ∙ ap (λ x. x >>= whole e g) c.in-Ok-named_at.ensures

pub returns-in-Err-named_at : goal.returns-in-Err-named_at
returns-in-Err-named_at c =
    let e = c.in-Ok.found.0 in
    let g = c.in-Ok-strings_at.found.0 in
    ends_so c.in-Err-named_at.stop (named_at c.in-Ok-strings_at.found.1.now) (whole e g) (hello_at c.args.octets.now)
    (hello_is c.args.octets.now c.in-Ok.found.1.now c.in-Ok-strings_at.found.1.now e g c.in-Ok.ensures c.in-Ok-strings_at.ensures) c.in-Err-named_at.ensures
