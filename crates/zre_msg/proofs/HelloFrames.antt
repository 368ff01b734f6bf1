-- What a first frame means that begins as HELLO does.
use Rattle.std.proofs.Common.{◌≡◌, ◌≤◌, ℕ, Bool, true, false, cond, List, [], ◌∷◌, ◌++◌, length, take, drop, Option, Some, None, Ok, Err, refl, sym, ap, subst, Result, ◌∙◌, is_none}
use Rattle.std.specs.Prelude.{slice_index, unwrap_or}
use Rattle.std.specs.Int.{w16, from_be_bytes}
use Rattle.std.proofs.lemmas.Bool.{le-ltb}
use Rattle.zre_msg.specs.declared.message.Bad.{Bad}
use Rattle.zre_msg.specs.declared.message.BadWhy.TheVariants.{Short}
use Rattle.zre_msg.specs.declared.message.Message.{Message}
use Rattle.zre_msg.specs.declared.message.Body.{Body}
use Rattle.zre_msg.specs.declared.message.ReadFault.{ReadFault}
use Rattle.zre_msg.specs.declared.message.ReadFault.TheVariants as faults
use Rattle.zre_msg.specs.declared.fields.Stop.{Stop}
use Rattle.zre_msg.specs.declared.fields.Stop.TheVariants as stop
use Rattle.zre_msg.specs.Fields.{Ends}
use Rattle.zre_msg.specs.Reading.{Answers, hello_at, body_at, command_of, read_of, first_row, head_rows, end_rows, left_over, unless, no_command}

-- rows of which none holds are passed by
passed : (xs ys : List (Bool × Bad)) → first_row xs ≡ None → first_row (xs ++ ys) ≡ first_row ys
passed [] ys none = refl
passed ((true, bad) ∷ xs) ys none = absurd cc
passed ((false, bad) ∷ xs) ys none = passed xs ys none

-- a first frame that begins as HELLO does
pub record Begins (first : List ℕ) : Type 0 where
  pub long : 6 ≤ length first
  pub number : slice_index first 2 ≡ 1
  pub head : first_row (head_rows first) ≡ None

abbrev short : List ℕ → Bad
short first = record { why = Short; frame = 0; place = length first }

abbrev message : List ℕ → Option (Body × List ℕ) → Message
message first command = record { sequence = from_be_bytes w16 (take 2 (drop 4 first)); body = (unwrap_or command no_command).0 }

command_is : (first : List ℕ) (more : List (List ℕ)) → Begins first → command_of first more ≡ hello_at (drop 6 first)
unfolding command_of
command_is first more is =
    ap (λ (b : Bool). cond b None (body_at (slice_index first 2) more (drop 6 first))) (le-ltb (length first) 6 is.long)
    ∙ ap (λ (n : ℕ). body_at n more (drop 6 first)) is.number

read_is : (first : List ℕ) (more : List (List ℕ)) (command : Option (Body × List ℕ)) → Begins first → hello_at (drop 6 first) ≡ command
    → read_of first more ≡ unless (first_row ((is_none command, short first) ∷ end_rows first (left_over command) more)) (message first command)
unfolding read_of
read_is first more command is fields =
    ap (λ (c : Option (Body × List ℕ)). unless (first_row (head_rows first ++ ((is_none c, short first) ∷ end_rows first (left_over c) more))) (message first c)) (command_is first more is ∙ fields)
    ∙ ap (λ (b : Option Bad). unless b (message first command)) (passed (head_rows first) ((is_none command, short first) ∷ end_rows first (left_over command) more) is.head)

-- it ends before its fields do
pub is_short : (first : List ℕ) (more : List (List ℕ)) → Begins first → hello_at (drop 6 first) ≡ None → read_of first more ≡ Err (short first)
is_short first more is fields = read_is first more None is fields

-- something is wrong after its fields
pub is_bad : (first : List ℕ) (more : List (List ℕ)) (x : Body × List ℕ) (bad : Bad) → Begins first → hello_at (drop 6 first) ≡ Some x → first_row (end_rows first (length x.1) more) ≡ Some bad → read_of first more ≡ Err bad
is_bad first more x bad is fields end = read_is first more (Some x) is fields ∙ ap (λ (b : Option Bad). unless b (message first (Some x))) end

-- it is a message
pub is_message : (first : List ℕ) (more : List (List ℕ)) (x : Body × List ℕ) (sequence : ℕ) → Begins first → hello_at (drop 6 first) ≡ Some x → None ≡ first_row (end_rows first (length x.1) more)
    → sequence ≡ from_be_bytes w16 (take 2 (drop 4 first)) → read_of first more ≡ Ok (record { sequence = sequence; body = x.0 })
is_message first more x sequence is fields end numbered =
    read_is first more (Some x) is fields
    ∙ ap (λ (b : Option Bad). unless b (message first (Some x))) (sym end)
    ∙ ap (λ (n : ℕ). unless None (record { sequence = n; body = x.0 })) (sym numbered)

-- where octets are lacking, there is nothing
pub ends_short : {Y : Type 0} (e : Stop) (read : Option Y) → e ≡ stop.Short → Ends e read → read ≡ None
ends_short stop.Short read is ends = ends
ends_short stop.Memory read is ends = absurd cc

-- a fault that is told
pub answered : (e : ReadFault) (bad : Bad) (read : Result Message Bad) → e ≡ faults.Bad bad → read ≡ Err bad → Answers (Err e) read
answered e bad read is wrong = subst (λ (f : ReadFault). Answers (Err f) read) (sym is) wrong
