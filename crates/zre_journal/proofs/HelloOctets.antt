-- The name, the endpoint and the headers of HELLO are among the octets of its frames.
use Rattle.std.proofs.Common.{◌≡◌, ℕ, zero, suc, ◌+◌, ◌≤◌, Bool, true, false, cond, ltb, eqb, List, [], ◌∷◌, length, take, drop, Option, Some, None, Ok, refl, subst, arith}
use Rattle.std.specs.Prelude.{sum_by, slice_index, unwrap_or}
use Rattle.std.specs.Int.{w16, w32, from_be_bytes}
use Rattle.std.proofs.lemmas.List.{length-take, length-drop}
use Rattle.std.proofs.lemmas.List.Sums.{sum_by-cons}
use Rattle.zre_msg.specs.declared.message.Bad.{Bad}
use Rattle.zre_msg.specs.declared.message.Body.{Body}
use Rattle.zre_msg.specs.declared.message.Body.TheVariants.{Hello, Whisper, Shout, Join, Leave, Ping, PingOk, Other}
use Rattle.zre_msg.specs.declared.message.Message.{Message}
use Rattle.zre_msg.specs.Reading.{◌>>=◌, octet_at, count_at, octets_at, string_at, long_string_at, pair_at, each_at, strings_at, dictionary_at, hello_at, join_at, leave_at, shout_at, body_at, command_of, read_of, read_frames, bad_of, unless, no_command}
use Rattle.zre_msg.proofs.ReadIsSpelled.{bind_some, some_is}
use Rattle.zre_journal.specs.Held.{header_octets}

-- the name, the endpoint and the headers that a body gives
abbrev pub hello_octets : Body → ℕ
hello_octets (Hello endpoint groups status name headers) = length name + length endpoint + header_octets headers
hello_octets _ = 0

-- ---- steps of a reader

guard_some : {A : Type 0} (b : Bool) (x y : A) → cond b None (Some x) ≡ Some y → x ≡ y
guard_some true x y e = absurd cc
guard_some false x y e = cc

-- what is read and what is left are no more than what was there
abbrev IsShorter : {A : Type 0} → (A → ℕ) → (List ℕ → Option (A × List ℕ)) → Type 0
IsShorter {A} measure read = (o : List ℕ) (x : A × List ℕ) → read o ≡ Some x → measure x.0 + length x.1 ≤ length o

abbrev nothing : ℕ → ℕ
nothing n = 0

octet_shorter : IsShorter nothing octet_at
octet_shorter [] x e = absurd cc
octet_shorter (b ∷ o) x e = subst (λ (y : ℕ × List ℕ). 0 + length y.1 ≤ length (b ∷ o)) (some_is (b, o) x e) (omega arith)

octets_shorter : (n : ℕ) → IsShorter length (octets_at n)
octets_shorter n o x e = subst (λ (y : List ℕ × List ℕ). length y.0 + length y.1 ≤ length o) (guard_some (ltb (length o) n) (take n o, drop n o) x e) (omega (arith, length-take n o, length-drop n o))

count_shorter : IsShorter nothing count_at
count_shorter o x e = subst (λ (y : ℕ × List ℕ). 0 + length y.1 ≤ length o) (guard_some (ltb (length o) 4) (from_be_bytes w32 (take 4 o), drop 4 o) x e) (omega (arith, length-drop 4 o))

string_shorter : IsShorter length string_at
unfolding string_at
string_shorter o x e =
    let n = bind_some (octet_at o) (λ n. octets_at n.0 n.1) x e in
    omega (arith, octet_shorter o n.0 n.1, octets_shorter n.0.0 n.0.1 x n.2)

long_string_shorter : IsShorter length long_string_at
unfolding long_string_at
long_string_shorter o x e =
    let n = bind_some (count_at o) (λ n. octets_at n.0 n.1) x e in
    omega (arith, count_shorter o n.0 n.1, octets_shorter n.0.0 n.0.1 x n.2)

abbrev pair_octets : List ℕ × List ℕ → ℕ
pair_octets h = length h.0 + length h.1

pair_shorter : IsShorter pair_octets pair_at
unfolding pair_at
pair_shorter o x e =
    let a = bind_some (string_at o) (λ name. long_string_at name.1 >>= λ value. Some ((name.0, value.0), value.1)) x e in
    let b = bind_some (long_string_at a.0.1) (λ value. Some ((a.0.0, value.0), value.1)) x a.2 in
    subst (λ (y : (List ℕ × List ℕ) × List ℕ). pair_octets y.0 + length y.1 ≤ length o) (some_is _ x b.2) (omega (arith, string_shorter o a.0 a.1, long_string_shorter a.0.1 b.0 b.1))

each_shorter : {A : Type 0} (measure : A → ℕ) (one : List ℕ → Option (A × List ℕ)) → IsShorter measure one → (n : ℕ) → IsShorter (sum_by measure) (each_at one n)
unfolding each_at
each_shorter {A} measure one h zero o x e = subst (λ (y : List A × List ℕ). sum_by measure y.0 + length y.1 ≤ length o) (some_is ([], o) x e) (omega arith)
each_shorter {A} measure one h (suc n) o x e =
    let a = bind_some (one o) (λ first. each_at one n first.1 >>= λ others. Some (first.0 ∷ others.0, others.1)) x e in
    let b = bind_some (each_at one n a.0.1) (λ others. Some (a.0.0 ∷ others.0, others.1)) x a.2 in
    subst (λ (y : List A × List ℕ). sum_by measure y.0 + length y.1 ≤ length o) (some_is _ x b.2)
    (omega (arith, h o a.0 a.1, each_shorter measure one h n a.0.1 b.0 b.1, sum_by-cons measure a.0.0 b.0.0))

strings_shorter : IsShorter (sum_by length) strings_at
unfolding strings_at
strings_shorter o x e =
    let n = bind_some (count_at o) (λ n. each_at long_string_at n.0 n.1) x e in
    omega (arith, count_shorter o n.0 n.1, each_shorter length long_string_at long_string_shorter n.0.0 n.0.1 x n.2)

dictionary_shorter : IsShorter (sum_by pair_octets) dictionary_at
unfolding dictionary_at
dictionary_shorter o x e =
    let n = bind_some (count_at o) (λ n. each_at pair_at n.0 n.1) x e in
    omega (arith, count_shorter o n.0 n.1, each_shorter pair_octets pair_at pair_shorter n.0.0 n.0.1 x n.2)

-- ---- commands

abbrev IsShort : List ℕ → Body × List ℕ → Type 0
IsShort o x = hello_octets x.0 ≤ length o

-- a body that is no HELLO gives none
other_short : (o : List ℕ) (x y : Body × List ℕ) → hello_octets y.0 ≡ 0 → Some y ≡ Some x → IsShort o x
other_short o x y h e = subst (IsShort o) (some_is y x e) (omega (arith, h))

-- what HELLO gives is among the octets of which its fields were read
hello_is : (o : List ℕ) (x y : Body × List ℕ) → Some y ≡ Some x → IsShort o y → IsShort o x
hello_is o x y e h = subst (IsShort o) (some_is y x e) h

hello_short : (o : List ℕ) (x : Body × List ℕ) → hello_at o ≡ Some x → IsShort o x
unfolding hello_at
hello_short o x e =
    let a = bind_some (string_at o) (λ endpoint. strings_at endpoint.1 >>= λ groups. octet_at groups.1 >>= λ status. string_at status.1 >>= λ name. dictionary_at name.1 >>= λ headers. Some (Hello endpoint.0 groups.0 status.0 name.0 headers.0, headers.1)) x e in
    let b = bind_some (strings_at a.0.1) (λ groups. octet_at groups.1 >>= λ status. string_at status.1 >>= λ name. dictionary_at name.1 >>= λ headers. Some (Hello a.0.0 groups.0 status.0 name.0 headers.0, headers.1)) x a.2 in
    let c = bind_some (octet_at b.0.1) (λ status. string_at status.1 >>= λ name. dictionary_at name.1 >>= λ headers. Some (Hello a.0.0 b.0.0 status.0 name.0 headers.0, headers.1)) x b.2 in
    let d = bind_some (string_at c.0.1) (λ name. dictionary_at name.1 >>= λ headers. Some (Hello a.0.0 b.0.0 c.0.0 name.0 headers.0, headers.1)) x c.2 in
    let f = bind_some (dictionary_at d.0.1) (λ headers. Some (Hello a.0.0 b.0.0 c.0.0 d.0.0 headers.0, headers.1)) x d.2 in
    hello_is o x (Hello a.0.0 b.0.0 c.0.0 d.0.0 f.0.0, f.0.1) f.2
    (omega (arith, string_shorter o a.0 a.1, strings_shorter a.0.1 b.0 b.1, octet_shorter b.0.1 c.0 c.1, string_shorter c.0.1 d.0 d.1, dictionary_shorter d.0.1 f.0 f.1))

-- a group and a status
change_short : (of : List ℕ → ℕ → Body) → ((group : List ℕ) (status : ℕ) → hello_octets (of group status) ≡ 0) → (o : List ℕ) (x : Body × List ℕ)
    → (string_at o >>= λ group. octet_at group.1 >>= λ status. Some (of group.0 status.0, status.1)) ≡ Some x → IsShort o x
change_short of none o x e =
    let a = bind_some (string_at o) (λ group. octet_at group.1 >>= λ status. Some (of group.0 status.0, status.1)) x e in
    let b = bind_some (octet_at a.0.1) (λ status. Some (of a.0.0 status.0, status.1)) x a.2 in
    other_short o x (of a.0.0 b.0.0, b.0.1) (none a.0.0 b.0.0) b.2

join_short : (o : List ℕ) (x : Body × List ℕ) → join_at o ≡ Some x → IsShort o x
unfolding join_at
join_short o x e = change_short Join (λ group status. refl) o x e

leave_short : (o : List ℕ) (x : Body × List ℕ) → leave_at o ≡ Some x → IsShort o x
unfolding leave_at
leave_short o x e = change_short Leave (λ group status. refl) o x e

shout_short : (o : List ℕ) (more : List (List ℕ)) (x : Body × List ℕ) → shout_at more o ≡ Some x → IsShort o x
unfolding shout_at
shout_short o more x e =
    let a = bind_some (string_at o) (λ group. Some (Shout group.0 more, group.1)) x e in
    other_short o x (Shout a.0.0 more, a.0.1) refl a.2

chosen : (b : Bool) (p q : Option (Body × List ℕ)) (o : List ℕ) (x : Body × List ℕ) → (p ≡ Some x → IsShort o x) → (q ≡ Some x → IsShort o x) → cond b p q ≡ Some x → IsShort o x
chosen true p q o x f g e = f e
chosen false p q o x f g e = g e

body_short : (number : ℕ) (more : List (List ℕ)) (o : List ℕ) (x : Body × List ℕ) → body_at number more o ≡ Some x → IsShort o x
body_short number more o x e =
    chosen (eqb number 1) _ _ o x (hello_short o x)
    (chosen (eqb number 2) _ _ o x (other_short o x (Whisper more, o) refl)
    (chosen (eqb number 3) _ _ o x (shout_short o more x)
    (chosen (eqb number 4) _ _ o x (join_short o x)
    (chosen (eqb number 5) _ _ o x (leave_short o x)
    (chosen (eqb number 6) _ _ o x (other_short o x (Ping, o) refl)
    (chosen (eqb number 7) _ _ o x (other_short o x (PingOk, o) refl)
    (other_short o x (Other number o more, []) refl))))))) e

command_short : (first : List ℕ) (more : List (List ℕ)) (x : Body × List ℕ) → command_of first more ≡ Some x → IsShort first x
unfolding command_of
command_short first more x e = by (ltb (length first) 6) e
  where
    by : (b : Bool) → cond b None (body_at (slice_index first 2) more (drop 6 first)) ≡ Some x → IsShort first x
    by true q = absurd cc
    by false q = omega (arith, body_short (slice_index first 2) more (drop 6 first) x q, length-drop 6 first)

unless_is : (r : Option Bad) (m n : Message) → unless r m ≡ Ok n → m ≡ n
unless_is None m n e = cc
unless_is (Some b) m n e = absurd cc

read_short : (first : List ℕ) (more : List (List ℕ)) (m : Message) → read_of first more ≡ Ok m → hello_octets m.body ≤ length first
unfolding read_of
read_short first more m e = by (command_of first more) (command_short first more) (unless_is (bad_of first more) _ m e)
  where
    by : (o : Option (Body × List ℕ)) → ((x : Body × List ℕ) → o ≡ Some x → IsShort first x)
        → (let n : Message = record { sequence = from_be_bytes w16 (take 2 (drop 4 first)); body = (unwrap_or o no_command).0 } in n ≡ m) → hello_octets m.body ≤ length first
    by None f same = subst (λ (n : Message). hello_octets n.body ≤ length first) same (omega arith)
    by (Some x) f same = subst (λ (n : Message). hello_octets n.body ≤ length first) same (f x refl)

pub frames-short : (frames : List (List ℕ)) (m : Message) → read_frames frames ≡ Ok m → hello_octets m.body ≤ sum_by length frames
frames-short [] m e = read_short [] [] m e
frames-short (first ∷ more) m e = omega (arith, read_short first more m e, sum_by-cons length first more)
