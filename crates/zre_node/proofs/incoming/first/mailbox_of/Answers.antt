use Rattle.std.proofs.Common.{◌∙◌, ap, sym}
use Rattle.zre_values.specs.Endpoint.{endpoint_in}
use Rattle.zre_node.proofs.NamedEndpoints.{hello_endpoint, other_endpoint}
use Rattle.zre_node.proofs.incoming.first.mailbox_of.Goals as goal

pub returns-in-Hello : goal.returns-in-Hello
returns-in-Hello c =
    let h = c.in-Hello in
    c.read.ensures.read ∙ ap endpoint_in (c.as_slice.ensures ∙ sym (hello_endpoint c.args.message.now h.endpoint h.groups h.status h.name h.headers h.is))

pub returns-in_default : goal.returns-in_default
returns-in_default c = other_endpoint c.args.message.now c.in_default.not-Hello
