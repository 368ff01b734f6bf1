use Rattle.std.proofs.Common.{◌≡◌, ◌+◌, length}
use Rattle.zre_capture.specs.Reading.{first_bad, bad_field, but_last, fields_in}
use Rattle.zre_capture.proofs.field.first_bad.Given as goal

abbrev pub invariant-fields : goal.invariant-fields
invariant-fields l = record {
  at_column : l.column + length l.rest ≡ length l.text + 1;
  all : first_bad l.given l.required (fields_in l.rest) l.column ≡ bad_field l.fn.place (fields_in l.text);
  whole_ones : first_bad l.given l.required (but_last (fields_in l.rest)) l.column ≡ bad_field l.fn.place (but_last (fields_in l.text));
}

abbrev pub decreases-fields : goal.decreases-fields
decreases-fields l = length l.rest
