-- The texts of reasons.
use Rattle.std.specs.Prelude.{ℕ, List, ◌++◌, codes, decimal}
use Rattle.zre_values.specs.Text.{id_text, quoted}
use Rattle.zre_zmtp.specs.declared.fault.ZmtpWhy.{ZmtpWhy}
use Rattle.zre_zmtp.specs.declared.fault.ZmtpWhy.TheVariants as zmtp
use Rattle.zre_zmtp.specs.declared.fault.ZmtpFault.{ZmtpFault}
use Rattle.zre_peer.specs.declared.causes.Cause.{Cause}
use Rattle.zre_peer.specs.declared.causes.Cause.TheVariants as causes
use Rattle.zre_peer.specs.declared.causes.CloseWhy.{CloseWhy}
use Rattle.zre_peer.specs.declared.causes.CloseWhy.TheVariants as closes
use Rattle.zre_peer.specs.declared.causes.IgnoreWhy.{IgnoreWhy}
use Rattle.zre_peer.specs.declared.causes.IgnoreWhy.TheVariants as ignores
use Rattle.zre_peer.specs.declared.causes.RefuseWhy.{RefuseWhy}
use Rattle.zre_peer.specs.declared.causes.RefuseWhy.TheVariants as refuses

-- what is wrong with a stream, by its name
abbrev pub zmtp_name : ZmtpWhy → List ℕ
zmtp_name zmtp.Signature = codes "Signature"
zmtp_name zmtp.OldVersion = codes "OldVersion"
zmtp_name zmtp.Mechanism = codes "Mechanism"
zmtp_name zmtp.Flags = codes "Flags"
zmtp_name zmtp.CommandName = codes "CommandName"
zmtp_name zmtp.Metadata = codes "Metadata"
zmtp_name zmtp.SocketType = codes "SocketType"
zmtp_name zmtp.Identity = codes "Identity"
zmtp_name zmtp.PeerError = codes "PeerError"
zmtp_name zmtp.Order = codes "Order"
zmtp_name zmtp.TooLarge = codes "TooLarge"
zmtp_name zmtp.TooManyFrames = codes "TooManyFrames"

-- a word and two numbers
abbrev pub numbers_text : List ℕ → ℕ → ℕ → List ℕ
numbers_text word a b = word ++ decimal a ++ codes " " ++ decimal b

-- a word and a group in quotes
abbrev pub group_text : List ℕ → List ℕ → List ℕ
group_text word group = word ++ quoted group

-- a fault of a stream, and its place
abbrev pub fault_text : ZmtpFault → List ℕ
fault_text fault = zmtp_name fault.why ++ codes " " ++ decimal fault.place

-- why a peer ended
abbrev pub cause_text : Cause → List ℕ
cause_text causes.Beacon = codes "beacon"
cause_text causes.Expired = codes "expired"
cause_text causes.Link = codes "link"
cause_text (causes.Reply fault) = codes "reply " ++ fault_text fault
cause_text (causes.Slow unsent size) = numbers_text (codes "slow ") unsent size
cause_text causes.Shut = codes "shut"
cause_text causes.Fault = codes "fault"
cause_text causes.Taken = codes "taken"
cause_text causes.Hello = codes "hello"
cause_text (causes.Order due got) = numbers_text (codes "order ") due got
cause_text causes.Limit = codes "limit"
cause_text causes.Stop = codes "stop"

-- why a connection is closed
abbrev pub close_text : CloseWhy → List ℕ
close_text (closes.Zmtp fault) = fault_text fault
close_text closes.TooMany = codes "TooMany"
close_text closes.Timeout = codes "Timeout"
close_text closes.Taken = codes "Taken"

-- why a connection is ignored
abbrev pub ignore_text : IgnoreWhy → List ℕ
ignore_text ignores.NotHello = codes "NotHello"
ignore_text ignores.Limit = codes "Limit"
ignore_text ignores.NoEndpoint = codes "NoEndpoint"
ignore_text ignores.Full = codes "Full"

-- why a command isn't done
abbrev pub refuse_text : RefuseWhy → List ℕ
refuse_text (refuses.NoPeer id) = codes "NOPEER " ++ id_text id
refuse_text refuses.TooBig = codes "TOOBIG"
refuse_text (refuses.NoGroup group) = group_text (codes "NOGROUP ") group
refuse_text (refuses.Same group) = group_text (codes "SAME ") group
refuse_text (refuses.Limit group) = group_text (codes "LIMIT ") group
refuse_text (refuses.BadLine number) = codes "BADLINE " ++ decimal number
