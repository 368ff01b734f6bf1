use Rattle.std.proofs.Common.{sym, ap, ◌∙◌}
use Rattle.zre_msg.specs.Further.{frames_of}
use Rattle.zre_msg.specs.Reading.{hello_at, read_of}
use Rattle.zre_msg.proofs.HelloFrames.{is_short, is_bad, is_message, answered, ends_short}
use Rattle.zre_msg.proofs.reading.read_hello_frame.Goals as goal

pub returns-in-Err-Short : goal.returns-in-Err-Short
returns-in-Err-Short c =
    let first = c.args.first.now in
    let none = ends_short c.in-Err-Short.field-0 (hello_at c.split_at.result.1.now) c.in-Err-Short.field-0-is c.in-Err-Short.ensures in
    let fields = ap hello_at (sym c.split_at.ensures.back) ∙ none in
    answered c.fault.result _ (read_of first (frames_of c.args.further.now)) c.fault.ensures
    (is_short first (frames_of c.args.further.now) (record { long = c.requires.long; number = c.requires.hello; head = c.requires.head }) fields)

pub returns-in-Some : goal.returns-in-Some
returns-in-Some c =
    let first = c.args.first.now in
    let fields = ap hello_at (sym c.split_at.ensures.back) ∙ c.in-Ok.ensures in
    is_bad first (frames_of c.args.further.now) (c.in-Ok.found.0, c.in-Ok.found.1.now) c.in-Some.bad (record { long = c.requires.long; number = c.requires.hello; head = c.requires.head }) fields (sym c.end_fault.ensures ∙ c.in-Some.is)

pub returns : goal.returns
returns c =
    let first = c.args.first.now in
    let fields = ap hello_at (sym c.split_at.ensures.back) ∙ c.in-Ok.ensures in
    is_message first (frames_of c.args.further.now) (c.in-Ok.found.0, c.in-Ok.found.1.now) c.sequence_of-sequence.result (record { long = c.requires.long; number = c.requires.hello; head = c.requires.head }) fields (sym (sym c.end_fault.ensures ∙ c.in_default.is)) c.sequence_of-sequence.ensures
