-- What holds of an answer, and what follows from it.
use Rattle.std.specs.Prelude.{Result, Ok, Err, OnOk}

pub on_ok : {T E A C : Type 0} (r : Result T E) → OnOk r A → (A → C) → OnOk r C
on_ok (Ok x) a f = f a
on_ok (Err x) a f = tt
