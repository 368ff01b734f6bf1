-- A start of a schedule has an identity, a name, an address and a port as a node may have them, but that its port may be 0.
use Rattle.std.proofs.Common.{◌≡◌, ℕ, ◌^◌, ◌≤◌, ◌<◌, Bool, true, false, cond, ltb, leb, List, [], ◌∷◌, length, Option, Some, None, refl, subst, leb-true, ltb-true}
use Rattle.std.specs.List.{AllByRecursion}
use Rattle.std.specs.Option.{option_map, IfSome}
use Rattle.zre_values.specs.Address.{IsAddress}
use Rattle.zre_values.specs.declared.peer_id.PeerId.{PeerId}
use Rattle.zre_capture.specs.Parts.{◌>>=◌, two}
use Rattle.zre_capture.specs.Reading.{fields_in, two_numbers, number_and_hex, command_in}
use Rattle.zre_capture.specs.Values.{number_of, address_of, group_of, id_of}
use Rattle.zre_capture.proofs.FieldTexts.{id_of-some, address_of-some}
use Rattle.zre_net.specs.declared.limits.TheConstants.{NAME_OCTETS}
use Rattle.zre_net.specs.declared.word.MoveWord.{MoveWord}
use Rattle.zre_net.specs.declared.word.MoveWord.TheVariants as word
use Rattle.zre_net.specs.declared.moves.Move.{Move}
use Rattle.zre_net.specs.declared.moves.Move.TheVariants as move
use Rattle.zre_net.specs.Fields.{cut, port_in, short_name, name_of, number_then, node_and_number_then, one_node, node_and_number, number_and_node, three_numbers, host_and_port, who_and_place, part_of, start_in, do_in, carry_in, reply_in, move_word_of, move_from, move_in, move_of}
use Rattle.zre_net.specs.Reading.{with_first, moves_in, moves_of}
use Rattle.zre_net.proofs.CarriedOctets.{MayStart}

-- ---- fields

-- what the second of two parts has, where the first is there
bound : {A B : Type 0} (P : B → Type 0) (o : Option A) (f : A → Option B) → ((x : A) → o ≡ Some x → IfSome (f x) P) → IfSome (o >>= f) P
bound P None f each = tt
bound P (Some x) f each = each x refl

mapped : {A B : Type 0} (P : B → Type 0) (o : Option A) (f : A → B) → ((x : A) → P (f x)) → IfSome (option_map f o) P
mapped P None f each = tt
mapped P (Some x) f each = each x

found : {A : Type 0} (P : A → Type 0) (o : Option A) (x : A) → o ≡ Some x → IfSome o P → P x
found P o x e h = subst (λ p. IfSome p P) e h

port_fits : (n : ℕ) → IfSome (port_in n) (λ port. port < 2 ^ 16)
port_fits n = by (ltb n (2 ^ 16)) refl
  where
    by : (t : Bool) → ltb n (2 ^ 16) ≡ t → IfSome (cond t (Some n) None) (λ port. port < 2 ^ 16)
    by true z = ltb-true n (2 ^ 16) z
    by false z = tt

name_is : (f : List ℕ) → IfSome (name_of f) (λ name. length name ≤ 255)
unfolding name_of
name_is f = bound (λ (name : List ℕ). length name ≤ 255) (group_of f) short_name (λ name e. by name (leb (length name) NAME_OCTETS) refl)
  where
    by : (name : List ℕ) (t : Bool) → leb (length name) NAME_OCTETS ≡ t → IfSome (cond t (Some name) None) (λ n. length n ≤ 255)
    by name true z = leb-true (length name) NAME_OCTETS z
    by name false z = tt

record IsPlace (place : List ℕ × ℕ) : Type 0 where
  address : IsAddress place.0
  fits : place.1 < 2 ^ 16

place_is : (fs : List (List ℕ)) → IfSome (host_and_port fs) IsPlace
unfolding host_and_port
place_is fs = bound IsPlace (two fs) _ (λ p w. bound IsPlace (address_of p.0) _ (λ host a. bound IsPlace (number_of p.1) _ (λ n v. bound IsPlace (port_in n) _
    (λ port e. record { address = (address_of-some p.0 host a).is; fits = found (λ (k : ℕ). k < 2 ^ 16) (port_in n) port e (port_fits n) }))))

record IsWho (who : PeerId × (List ℕ × (List ℕ × ℕ))) : Type 0 where
  sixteen : length who.0.0 ≡ 16
  place : IsPlace who.1.1

who_is : (fs : List (List ℕ)) → IfSome (who_and_place fs) IsWho
unfolding who_and_place
who_is fs = bound IsWho (cut fs) _ (λ p w. bound IsWho (id_of p.0) _ (λ id i. bound IsWho (cut p.1) _ (λ q v. bound IsWho (host_and_port q.1) _
    (λ place e. record { sixteen = (id_of-some p.0 id i).is.sixteen; place = found IsPlace (host_and_port q.1) place e (place_is q.1) }))))

-- ---- moves

start_is : (fs : List (List ℕ)) → IfSome (start_in fs) MayStart
unfolding start_in
start_is fs = bound MayStart (node_and_number_then fs) _ (λ n w. bound MayStart (who_and_place n.1.1) _ (λ who a. bound MayStart (name_of who.1.0) _ (λ name e.
    let is = found IsWho (who_and_place n.1.1) who a (who_is n.1.1) in
    record { sixteen = is.sixteen; short = found (λ (o : List ℕ). length o ≤ 255) (name_of who.1.0) name e (name_is who.1.0); address = is.place.address; fits = is.place.fits })))

do_is : (fs : List (List ℕ)) → IfSome (do_in fs) MayStart
unfolding do_in
do_is fs = bound MayStart (node_and_number_then fs) _ (λ n w. bound MayStart (command_in n.1.1) _ (λ c e. tt))

carry_is : (fs : List (List ℕ)) → IfSome (carry_in fs) MayStart
unfolding carry_in
carry_is fs = bound MayStart (two fs) _ (λ p w. bound MayStart (number_of p.0) _ (λ x v. bound MayStart (part_of p.1) _ (λ part e. tt)))

reply_is : (fs : List (List ℕ)) → IfSome (reply_in fs) MayStart
unfolding reply_in
reply_is fs = bound MayStart (number_then fs) _ (λ g w. bound MayStart (number_and_hex g.1) _ (λ p e. tt))

from_is : (w : MoveWord) (fs : List (List ℕ)) → IfSome (move_from w fs) MayStart
from_is word.Start fs = start_is fs
from_is word.Crash fs = mapped MayStart (one_node fs) move.Crash (λ n. tt)
from_is word.Tick fs = mapped MayStart (node_and_number fs) _ (λ p. tt)
from_is word.Do fs = do_is fs
from_is word.Beacon fs = mapped MayStart (number_and_node fs) _ (λ p. tt)
from_is word.Open fs = mapped MayStart (number_and_node fs) _ (λ p. tt)
from_is word.Carry fs = carry_is fs
from_is word.Piece fs = mapped MayStart (three_numbers fs) _ (λ p. tt)
from_is word.Shut fs = mapped MayStart (two_numbers fs) _ (λ p. tt)
from_is word.Linked fs = mapped MayStart (two_numbers fs) _ (λ p. tt)
from_is word.Unlinked fs = mapped MayStart (two_numbers fs) _ (λ p. tt)
from_is word.Reply fs = reply_is fs
from_is word.Took fs = mapped MayStart (three_numbers fs) _ (λ p. tt)

line_is : (fs : List (List ℕ)) → IfSome (move_in fs) MayStart
unfolding move_in
line_is fs = bound MayStart (cut fs) _ (λ p w. bound MayStart (move_word_of p.0) _ (λ word e. from_is word p.1))

lines_are : (lines : List (List ℕ)) → AllByRecursion MayStart (moves_in lines)
lines_are [] = tt
lines_are (line ∷ lines) = by (move_of line) (line_is (fields_in line)) (lines_are lines)
  where
    by : (o : Option Move) → IfSome o MayStart → AllByRecursion MayStart (moves_in lines) → AllByRecursion MayStart (with_first o (moves_in lines))
    by None p r = r
    by (Some m) p r = (p, r)

-- what is read are moves with such fields
pub are_fielded : (lines : List (List ℕ)) → AllByRecursion MayStart (moves_of lines)
are_fielded [] = tt
are_fielded (head ∷ lines) = lines_are lines
