-- The view that messages lead to, and its limits.
use Rattle.std.specs.Prelude.{Bool, ◌&&◌, nat_le, List, [], length}
use Rattle.std.specs.List.{fold}
use Rattle.zre_values.specs.Lists.{without}
use Rattle.zre_values.specs.declared.limits.TheConstants.{HEADERS}
use Rattle.zre_msg.specs.declared.message.Message.{Message}
use Rattle.zre_msg.specs.declared.message.Body.{Body}
use Rattle.zre_msg.specs.declared.message.Body.TheVariants.{Hello, Whisper, Shout, Join, Leave, Ping, PingOk, Other}
use Rattle.zre_peer.specs.Members.{are_few, with_group, distinct, first_named}
use Rattle.zre_peer.specs.declared.view.View.{View}

-- nothing told yet
abbrev pub blank : View
blank = record { name = []; endpoint = []; headers = []; groups = []; status = 0 }

-- the view after a message: HELLO sets all of it, JOIN and LEAVE set a group and the status, nothing else changes it
abbrev pub after : View → Body → View
after v (Hello endpoint groups status name headers) =
    record {
      name = name;
      endpoint = endpoint;
      headers = first_named headers;
      groups = distinct groups;
      status = status;
    }
after v (Join group status) = record v { groups = with_group v.groups group; status = status }
after v (Leave group status) = record v { groups = without group v.groups; status = status }
after v (Whisper content) = v
after v (Shout group content) = v
after v Ping = v
after v PingOk = v
after v (Other number rest more) = v

-- the view after some messages
unfoldable pub view_of : List Message → View
view_of messages = fold (λ v m. after v m.body) blank messages

-- a view within the limits of groups, of their names and of headers
unfoldable pub is_small : View → Bool
is_small v = are_few v.groups && nat_le (length v.headers) HEADERS
