-- What holds of an error.
use Rattle.std.specs.Prelude.{Result, Ok, Err, OnErr}

pub on_err : {T E A : Type 0} (r : Result T E) → A → OnErr r A
on_err (Ok x) a = tt
on_err (Err e) a = a
