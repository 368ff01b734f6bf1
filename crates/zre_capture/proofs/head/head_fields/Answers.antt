use Rattle.std.proofs.Common.{List, ℕ, ◌∷◌, arith, ap}
use Rattle.zre_capture.specs.Reading.{fields_in}
use Rattle.zre_capture.proofs.HeadSettings.{few, many, one_is}
use Rattle.zre_capture.proofs.head.head_fields.Goals as goal

pub returns-in_err-magic : goal.returns-in_err-magic
returns-in_err-magic c = rw c.from_residual.ensures (rw (c.in_err-magic.ensures) (few _ (omega arith)))

pub returns-in_err-number : goal.returns-in_err-number
returns-in_err-number c = rw c.from_residual-in_err-number.ensures (rw (c.in_ok-magic.ensures, c.in_err-number.ensures) (few _ (omega arith)))

pub returns-in_err-id : goal.returns-in_err-id
returns-in_err-id c = rw c.from_residual-in_err-id.ensures (rw (c.in_ok-magic.ensures, c.in_ok-number.ensures, c.in_err-id.ensures) (few _ (omega arith)))

pub returns-in_err-name : goal.returns-in_err-name
returns-in_err-name c = rw c.from_residual-in_err-name.ensures (rw (c.in_ok-magic.ensures, c.in_ok-number.ensures, c.in_ok-id.ensures, c.in_err-name.ensures) (few _ (omega arith)))

pub returns-in_err-host : goal.returns-in_err-host
returns-in_err-host c = rw c.from_residual-in_err-host.ensures (rw (c.in_ok-magic.ensures, c.in_ok-number.ensures, c.in_ok-id.ensures, c.in_ok-name.ensures, c.in_err-host.ensures) (few _ (omega arith)))

pub returns-in_err-port : goal.returns-in_err-port
returns-in_err-port c = rw c.from_residual-in_err-port.ensures (rw (c.in_ok-magic.ensures, c.in_ok-number.ensures, c.in_ok-id.ensures, c.in_ok-name.ensures, c.in_ok-host.ensures, c.in_err-port.ensures) (few _ (omega arith)))

pub returns-in_err-evasive : goal.returns-in_err-evasive
returns-in_err-evasive c = rw c.from_residual-in_err-evasive.ensures (rw (c.in_ok-magic.ensures, c.in_ok-number.ensures, c.in_ok-id.ensures, c.in_ok-name.ensures, c.in_ok-host.ensures, c.in_ok-port.ensures, c.in_err-evasive.ensures) (few _ (omega arith)))

pub returns-in_err-expired : goal.returns-in_err-expired
returns-in_err-expired c = rw c.from_residual-in_err-expired.ensures (rw (c.in_ok-magic.ensures, c.in_ok-number.ensures, c.in_ok-id.ensures, c.in_ok-name.ensures, c.in_ok-host.ensures, c.in_ok-port.ensures, c.in_ok-evasive.ensures, c.in_err-expired.ensures) (few _ (omega arith)))

pub returns-in_err-headers : goal.returns-in_err-headers
returns-in_err-headers c = rw c.from_residual-in_err-headers.ensures (rw (c.in_ok-magic.ensures, c.in_ok-number.ensures, c.in_ok-id.ensures, c.in_ok-name.ensures, c.in_ok-host.ensures, c.in_ok-port.ensures, c.in_ok-evasive.ensures, c.in_ok-expired.ensures) (many c.in_ok-magic.magic.now c.in_ok-number.number.now c.in_ok-id.id.now c.in_ok-name.name.now c.in_ok-host.host.now c.in_ok-port.port.now c.in_ok-evasive.evasive.now c.in_ok-expired.expired.now (fields_in c.in_ok-expired.after_expired.now) c.in_err-headers.ensures))

pub returns : goal.returns
returns c = rw (c.in_ok-magic.ensures, c.in_ok-number.ensures, c.in_ok-id.ensures, c.in_ok-name.ensures, c.in_ok-host.ensures, c.in_ok-port.ensures, c.in_ok-evasive.ensures, c.in_ok-expired.ensures) (ap (λ (r : List (List ℕ)). c.in_ok-magic.magic.now ∷ c.in_ok-number.number.now ∷ c.in_ok-id.id.now ∷ c.in_ok-name.name.now ∷ c.in_ok-host.host.now ∷ c.in_ok-port.port.now ∷ c.in_ok-evasive.evasive.now ∷ c.in_ok-expired.expired.now ∷ r) (one_is (fields_in c.in_ok-expired.after_expired.now) c.in_ok-headers.headers.now c.in_ok-headers.ensures))
