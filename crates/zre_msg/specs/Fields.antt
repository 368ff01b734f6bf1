-- A field that a function read, against the field that is there.
use Rattle.std.specs.Prelude.{◌≡◌, Option, Some, None, Result, Ok, Err}
use Rattle.zre_msg.specs.declared.fields.Stop.{Stop}
use Rattle.zre_msg.specs.declared.fields.Stop.TheVariants as stop

-- a call that stopped where octets were lacking read what isn't there
abbrev pub Ends : {Y : Type 0} → Stop → Option Y → Type 0
Ends stop.Memory read = Unit {0}
Ends stop.Short read = read ≡ None

-- what a call returned, seen by view, is what reading gives, unless memory ran out
abbrev pub Gives : {X Y : Type 0} → (X → Y) → Result X Stop → Option Y → Type 0
Gives view (Ok x) read = read ≡ Some (view x)
Gives view (Err e) read = Ends e read
