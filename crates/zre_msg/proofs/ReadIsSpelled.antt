-- What is read is spelled so.
use Rattle.std.proofs.Common.{◌≡◌, ℕ, zero, suc, ◌+◌, ◌^◌, ◌<◌, ◌≤◌, Bool, true, false, cond, not, ◌&&◌, ◌⊎◌, ltb, eqb, List, [], ◌∷◌, ◌++◌, length, take, drop, get_or, Option, Some, None, Ok, refl, sym, ap, subst, ◌∙◌, append_assoc, arith, inl, inr, is_none}
use Rattle.std.specs.Prelude.{flat_map, unwrap_or}
use Rattle.std.specs.List.{All}
use Rattle.std.proofs.lemmas.List.Elements.{All-nil, All-cons}
use Rattle.std.specs.Int.{w16, w32, from_be_bytes, to_be_bytes}
use Rattle.std.proofs.lemmas.Bool.{cases_lt, ltb-false, eqb-true, eqb-false, and_cases, not-false, cases_eq}
use Rattle.std.proofs.lemmas.List.{take-append-drop, length-take, length-drop, get_or-drop, get_or-take, get_or_past, append-nil, nil_from_length}
use Rattle.std.proofs.lemmas.List.Concat.{flat_map-cons}
use Rattle.std.proofs.lemmas.Nat.{be_bytes_4, be_bytes_2}
use Rattle.zre_msg.specs.declared.message.Bad.{Bad}
use Rattle.zre_msg.specs.declared.message.Message.{Message}
use Rattle.zre_msg.specs.declared.message.Body.{Body}
use Rattle.zre_msg.specs.declared.message.Body.TheVariants.{Hello, Whisper, Shout, Join, Leave, Ping, PingOk, Other}
use Rattle.zre_msg.specs.Spelling.{string, long_string, strings, pair, dictionary, number_of, fields, further, head, spell, FitsString, FitsLong, FitsPair, FitsBody, Means}
use Rattle.zre_msg.specs.Reading.{◌>>=◌, octet_at, count_at, octets_at, string_at, long_string_at, pair_at, each_at, strings_at, dictionary_at, hello_at, change_at, join_at, leave_at, shout_at, body_at, command_of, read_of, bad_rows, bad_of, first_row, left_over, is_single, is_other, unless, no_command}

abbrev pub IsBytes : List ℕ → Type 0
IsBytes bytes = (i : ℕ) → get_or bytes i 0 < 256

IsBytes-drop : (n : ℕ) (bytes : List ℕ) → IsBytes bytes → IsBytes (drop n bytes)
IsBytes-drop n bytes h i = rw get_or-drop (h (n + i))

IsBytes-take : (n : ℕ) (bytes : List ℕ) → IsBytes bytes → IsBytes (take n bytes)
IsBytes-take n bytes h i =
    elim (cases_lt i n) [
      | inl lt ↦ rw (get_or-take n bytes i 0 lt) (h i)
      | inr le ↦ rw (get_or_past (take n bytes) i 0 (omega (arith, length-take n bytes))) (omega arith)
    ]

-- the value of a step that did not fail
pub bind_some : {A B : Type 0} (r : Option A) (f : A → Option B) (y : B) → (r >>= f) ≡ Some y → (x : A) × (r ≡ Some x) × (f x ≡ Some y)
bind_some (Some x) f y e = (x, refl, e)
bind_some None f y e = absurd cc

guard_some : {A : Type 0} (b : Bool) (x y : A) → cond b None (Some x) ≡ Some y → (b ≡ false) × (x ≡ y)
guard_some true x y e = absurd cc
guard_some false x y e = (refl, cc)

pub some_is : {A : Type 0} (x y : A) → Some x ≡ Some y → x ≡ y
some_is x y e = cc

-- what a reader took from the front
pub record Takes (bytes text rest : List ℕ) : Type 0 where
  pub parts : bytes ≡ text ++ rest
  pub rest_fits : IsBytes rest

Takes-then : (a x b y c : List ℕ) → Takes a x b → Takes b y c → Takes a (x ++ y) c
Takes-then a x b y c p q = record { parts = p.parts ∙ ap (λ (t : List ℕ). x ++ t) q.parts ∙ sym (append_assoc x y c); rest_fits = q.rest_fits }

octet_takes : (o : List ℕ) (x : ℕ × List ℕ) → IsBytes o → octet_at o ≡ Some x → Takes o (x.0 ∷ []) x.1 × (x.0 < 2 ^ 8)
octet_takes [] x fits e = absurd cc
octet_takes (b ∷ o) x fits e = subst (λ (y : ℕ × List ℕ). Takes (b ∷ o) (y.0 ∷ []) y.1 × (y.0 < 2 ^ 8)) (some_is (b, o) x e) (record { parts = refl; rest_fits = λ i. fits (suc i) }, fits 0)

octets_takes : (n : ℕ) (o : List ℕ) (x : List ℕ × List ℕ) → IsBytes o → octets_at n o ≡ Some x → Takes o x.0 x.1 × (length x.0 ≡ n)
octets_takes n o x fits e =
    let g = guard_some (ltb (length o) n) (take n o, drop n o) x e in
    let long : n ≤ length o = ltb-false _ _ g.0 in
    let whole : Takes o (take n o) (drop n o) = record { parts = sym (take-append-drop n o); rest_fits = IsBytes-drop n o fits } in
    subst (λ (y : List ℕ × List ℕ). Takes o y.0 y.1 × (length y.0 ≡ n)) g.1 (whole, omega (arith, long, length-take n o))

count_takes : (o : List ℕ) (x : ℕ × List ℕ) → IsBytes o → count_at o ≡ Some x → Takes o (to_be_bytes w32 x.0) x.1 × (x.0 < 2 ^ 32)
count_takes o x fits e =
    let g = guard_some (ltb (length o) 4) (from_be_bytes w32 (take 4 o), drop 4 o) x e in
    let long : 4 ≤ length o = ltb-false _ _ g.0 in
    let f = IsBytes-take 4 o fits in
    let back : to_be_bytes w32 (from_be_bytes w32 (take 4 o)) ≡ take 4 o = be_bytes_4 (take 4 o) _ (omega (arith, long, length-take 4 o)) f refl in
    let whole : Takes o (to_be_bytes w32 (from_be_bytes w32 (take 4 o))) (drop 4 o) = record { parts = sym (ap (λ (t : List ℕ). t ++ drop 4 o) back ∙ take-append-drop 4 o); rest_fits = IsBytes-drop 4 o fits } in
    let below : from_be_bytes w32 (take 4 o) < 2 ^ 32 = omega (arith, f 0, f 1, f 2, f 3) in
    subst (λ (y : ℕ × List ℕ). Takes o (to_be_bytes w32 y.0) y.1 × (y.0 < 2 ^ 32)) g.1 (whole, below)

-- a length, and so many octets
sized_takes : (number : List ℕ → Option (ℕ × List ℕ)) (text : ℕ → List ℕ) (most : ℕ) → ((o : List ℕ) (n : ℕ × List ℕ) → IsBytes o → number o ≡ Some n → Takes o (text n.0) n.1 × (n.0 < most))
    → (o : List ℕ) (x : List ℕ × List ℕ) → IsBytes o → (number o >>= λ n. octets_at n.0 n.1) ≡ Some x → Takes o (text (length x.0) ++ x.0) x.1 × (length x.0 < most)
sized_takes number text most takes o x fits e =
    let b = bind_some (number o) (λ n. octets_at n.0 n.1) x e in
    let t = takes o b.0 fits b.1 in
    let u = octets_takes b.0.0 b.0.1 x t.0.rest_fits b.2 in
    let both = Takes-then o (text b.0.0) b.0.1 x.0 x.1 t.0 u.0 in
    (subst (λ (n : ℕ). Takes o (text n ++ x.0) x.1) (sym u.1) both, omega (arith, t.1, u.1))

string_takes : (o : List ℕ) (x : List ℕ × List ℕ) → IsBytes o → string_at o ≡ Some x → Takes o (string x.0) x.1 × FitsString x.0
unfolding string_at
string_takes o x fits e = sized_takes octet_at (λ n. n ∷ []) (2 ^ 8) octet_takes o x fits e

long_string_takes : (o : List ℕ) (x : List ℕ × List ℕ) → IsBytes o → long_string_at o ≡ Some x → Takes o (long_string x.0) x.1 × FitsLong x.0
unfolding long_string_at
long_string_takes o x fits e = sized_takes count_at (λ n. to_be_bytes w32 n) (2 ^ 32) count_takes o x fits e

pair_takes : (o : List ℕ) (x : (List ℕ × List ℕ) × List ℕ) → IsBytes o → pair_at o ≡ Some x → Takes o (pair x.0) x.1 × (FitsString x.0.0 × FitsLong x.0.1)
unfolding pair_at
pair_takes o x fits e =
    let a = bind_some (string_at o) (λ name. long_string_at name.1 >>= λ value. Some ((name.0, value.0), value.1)) x e in
    let b = bind_some (long_string_at a.0.1) (λ value. Some ((a.0.0, value.0), value.1)) x a.2 in
    let t = string_takes o a.0 fits a.1 in
    let u = long_string_takes a.0.1 b.0 t.0.rest_fits b.1 in
    subst (λ (y : (List ℕ × List ℕ) × List ℕ). Takes o (pair y.0) y.1 × (FitsString y.0.0 × FitsLong y.0.1)) (some_is _ x b.2)
    (Takes-then o (string a.0.0) a.0.1 (long_string b.0.0) b.0.1 t.0 u.0, (t.1, u.1))

each_takes : {A : Type 0} (one : List ℕ → Option (A × List ℕ)) (spelled : A → List ℕ) (Fits : A → Type 0) → ((o : List ℕ) (x : A × List ℕ) → IsBytes o → one o ≡ Some x → Takes o (spelled x.0) x.1 × Fits x.0)
    → (n : ℕ) (o : List ℕ) (x : List A × List ℕ) → IsBytes o → each_at one n o ≡ Some x → Takes o (flat_map spelled x.0) x.1 × (All Fits x.0 × (length x.0 ≡ n))
unfolding each_at
each_takes {A} one spelled Fits takes zero o x fits e =
    subst (λ (y : List A × List ℕ). Takes o (flat_map spelled y.0) y.1 × (All Fits y.0 × (length y.0 ≡ 0))) (some_is ([], o) x e) (record { parts = refl; rest_fits = fits }, (All-nil Fits, refl))
each_takes {A} one spelled Fits takes (suc n) o x fits e =
    let a = bind_some (one o) (λ first. each_at one n first.1 >>= λ others. Some (first.0 ∷ others.0, others.1)) x e in
    let b = bind_some (each_at one n a.0.1) (λ others. Some (a.0.0 ∷ others.0, others.1)) x a.2 in
    let t = takes o a.0 fits a.1 in
    let u = each_takes one spelled Fits takes n a.0.1 b.0 t.0.rest_fits b.1 in
    let both = Takes-then o (spelled a.0.0) a.0.1 (flat_map spelled b.0.0) b.0.1 t.0 u.0 in
    let whole : Takes o (flat_map spelled (a.0.0 ∷ b.0.0)) b.0.1 = subst (λ (text : List ℕ). Takes o text b.0.1) (sym (flat_map-cons spelled a.0.0 b.0.0)) both in
    subst (λ (y : List A × List ℕ). Takes o (flat_map spelled y.0) y.1 × (All Fits y.0 × (length y.0 ≡ suc n))) (some_is _ x b.2)
    (whole, (All-cons Fits a.0.0 b.0.0 t.1 u.1.0, ap suc u.1.1))

-- how many, and then each of them
counted_takes : {A : Type 0} (one : List ℕ → Option (A × List ℕ)) (spelled : A → List ℕ) (Fits : A → Type 0) → ((o : List ℕ) (x : A × List ℕ) → IsBytes o → one o ≡ Some x → Takes o (spelled x.0) x.1 × Fits x.0)
    → (o : List ℕ) (x : List A × List ℕ) → IsBytes o → (count_at o >>= λ n. each_at one n.0 n.1) ≡ Some x → Takes o (to_be_bytes w32 (length x.0) ++ flat_map spelled x.0) x.1 × ((length x.0 < 2 ^ 32) × All Fits x.0)
counted_takes one spelled Fits takes o x fits e =
    let b = bind_some (count_at o) (λ n. each_at one n.0 n.1) x e in
    let t = count_takes o b.0 fits b.1 in
    let u = each_takes one spelled Fits takes b.0.0 b.0.1 x t.0.rest_fits b.2 in
    let both = Takes-then o (to_be_bytes w32 b.0.0) b.0.1 (flat_map spelled x.0) x.1 t.0 u.0 in
    (subst (λ (n : ℕ). Takes o (to_be_bytes w32 n ++ flat_map spelled x.0) x.1) (sym u.1.1) both, (omega (arith, t.1, u.1.1), u.1.0))

strings_takes : (o : List ℕ) (x : List (List ℕ) × List ℕ) → IsBytes o → strings_at o ≡ Some x → Takes o (strings x.0) x.1 × ((length x.0 < 2 ^ 32) × All FitsLong x.0)
unfolding strings_at
strings_takes o x fits e = counted_takes long_string_at long_string FitsLong long_string_takes o x fits e

dictionary_takes : (o : List ℕ) (x : List (List ℕ × List ℕ) × List ℕ) → IsBytes o → dictionary_at o ≡ Some x → Takes o (dictionary x.0) x.1 × ((length x.0 < 2 ^ 32) × All FitsPair x.0)
unfolding dictionary_at
dictionary_takes o x fits e = counted_takes pair_at pair FitsPair pair_takes o x fits e

-- ---- commands

-- what the fields of a command took
pub record TakesBody (o : List ℕ) (number : ℕ) (more : List (List ℕ)) (x : Body × List ℕ) : Type 0 where
  pub text : Takes o (fields x.0) x.1
  pub fits : FitsBody x.0
  pub number_is : number_of x.0 ≡ number

hello_parts : (o o1 o2 o3 o4 rest : List ℕ) (more : List (List ℕ)) (endpoint : List ℕ) (groups : List (List ℕ)) (status : ℕ) (name : List ℕ) (headers : List (List ℕ × List ℕ))
    → Takes o (string endpoint) o1 × FitsString endpoint
    → Takes o1 (strings groups) o2 × ((length groups < 2 ^ 32) × All FitsLong groups)
    → Takes o2 (status ∷ []) o3 × (status < 2 ^ 8)
    → Takes o3 (string name) o4 × FitsString name
    → Takes o4 (dictionary headers) rest × ((length headers < 2 ^ 32) × All FitsPair headers)
    → TakesBody o 1 more (Hello endpoint groups status name headers, rest)
hello_parts o o1 o2 o3 o4 rest more endpoint groups status name headers ta tb tc td tf =
    let e4 = Takes-then o3 (string name) o4 (dictionary headers) rest td.0 tf.0 in
    let e3 = Takes-then o2 (status ∷ []) o3 (string name ++ dictionary headers) rest tc.0 e4 in
    let e2 = Takes-then o1 (strings groups) o2 (status ∷ (string name ++ dictionary headers)) rest tb.0 e3 in
    let e1 = Takes-then o (string endpoint) o1 (strings groups ++ (status ∷ (string name ++ dictionary headers))) rest ta.0 e2 in
    record {
      text = e1;
      fits = record { endpoint_fits = ta.1; group_count = tb.1.0; groups_fit = tb.1.1; name_fits = td.1; header_count = tf.1.0; headers_fit = tf.1.1 };
      number_is = refl;
    }

hello_is : (o : List ℕ) (more : List (List ℕ)) (x y : Body × List ℕ) → Some y ≡ Some x → TakesBody o 1 more y × (further y.0 ≡ []) → TakesBody o 1 more x × (further x.0 ≡ [])
hello_is o more x y e takes = subst (λ (z : Body × List ℕ). TakesBody o 1 more z × (further z.0 ≡ [])) (some_is y x e) takes

hello_takes : (o : List ℕ) (more : List (List ℕ)) (x : Body × List ℕ) → IsBytes o → hello_at o ≡ Some x → TakesBody o 1 more x × (further x.0 ≡ [])
unfolding hello_at
hello_takes o more x fits e =
    let a = bind_some (string_at o) (λ endpoint. strings_at endpoint.1 >>= λ groups. octet_at groups.1 >>= λ status. string_at status.1 >>= λ name. dictionary_at name.1 >>= λ headers. Some (Hello endpoint.0 groups.0 status.0 name.0 headers.0, headers.1)) x e in
    let b = bind_some (strings_at a.0.1) (λ groups. octet_at groups.1 >>= λ status. string_at status.1 >>= λ name. dictionary_at name.1 >>= λ headers. Some (Hello a.0.0 groups.0 status.0 name.0 headers.0, headers.1)) x a.2 in
    let c = bind_some (octet_at b.0.1) (λ status. string_at status.1 >>= λ name. dictionary_at name.1 >>= λ headers. Some (Hello a.0.0 b.0.0 status.0 name.0 headers.0, headers.1)) x b.2 in
    let d = bind_some (string_at c.0.1) (λ name. dictionary_at name.1 >>= λ headers. Some (Hello a.0.0 b.0.0 c.0.0 name.0 headers.0, headers.1)) x c.2 in
    let f = bind_some (dictionary_at d.0.1) (λ headers. Some (Hello a.0.0 b.0.0 c.0.0 d.0.0 headers.0, headers.1)) x d.2 in
    let ta = string_takes o a.0 fits a.1 in
    let tb = strings_takes a.0.1 b.0 ta.0.rest_fits b.1 in
    let tc = octet_takes b.0.1 c.0 tb.0.rest_fits c.1 in
    let td = string_takes c.0.1 d.0 tc.0.rest_fits d.1 in
    let tf = dictionary_takes d.0.1 f.0 td.0.rest_fits f.1 in
    let whole = hello_parts o a.0.1 b.0.1 c.0.1 d.0.1 f.0.1 more a.0.0 b.0.0 c.0.0 d.0.0 f.0.0 ta tb tc td tf in
    hello_is o more x (Hello a.0.0 b.0.0 c.0.0 d.0.0 f.0.0, f.0.1) f.2 (whole, refl {a = []})

-- a group and a status, of which a command is made
change_takes : (make : List ℕ → ℕ → Body) (o : List ℕ) (x : Body × List ℕ) (P : Body × List ℕ → Type 0) → IsBytes o
    → change_at make o ≡ Some x
    → ((group : List ℕ) (status : ℕ) (rest : List ℕ) → Takes o (string group ++ (status ∷ [])) rest → FitsString group → P (make group status, rest)) → P x
change_takes make o x P fits e made =
    let a = bind_some (string_at o) (λ group. octet_at group.1 >>= λ status. Some (make group.0 status.0, status.1)) x e in
    let b = bind_some (octet_at a.0.1) (λ status. Some (make a.0.0 status.0, status.1)) x a.2 in
    let ta = string_takes o a.0 fits a.1 in
    let tb = octet_takes a.0.1 b.0 ta.0.rest_fits b.1 in
    subst P (some_is (make a.0.0 b.0.0, b.0.1) x b.2) (made a.0.0 b.0.0 b.0.1 (Takes-then o (string a.0.0) a.0.1 (b.0.0 ∷ []) b.0.1 ta.0 tb.0) ta.1)

join_takes : (o : List ℕ) (more : List (List ℕ)) (x : Body × List ℕ) → IsBytes o → join_at o ≡ Some x → TakesBody o 4 more x × (further x.0 ≡ [])
unfolding join_at
join_takes o more x fits e =
    change_takes (λ group status. Join group status) o x (λ y. TakesBody o 4 more y × (further y.0 ≡ [])) fits e (λ group status rest t is. (record { text = t; fits = is; number_is = refl }, refl))

leave_takes : (o : List ℕ) (more : List (List ℕ)) (x : Body × List ℕ) → IsBytes o → leave_at o ≡ Some x → TakesBody o 5 more x × (further x.0 ≡ [])
unfolding leave_at
leave_takes o more x fits e =
    change_takes (λ group status. Leave group status) o x (λ y. TakesBody o 5 more y × (further y.0 ≡ [])) fits e (λ group status rest t is. (record { text = t; fits = is; number_is = refl }, refl))

shout_takes : (o : List ℕ) (more : List (List ℕ)) (x : Body × List ℕ) → IsBytes o → shout_at more o ≡ Some x → TakesBody o 3 more x × (further x.0 ≡ more)
unfolding shout_at
shout_takes o more x fits e =
    let a = bind_some (string_at o) (λ group. Some (Shout group.0 more, group.1)) x e in
    let ta = string_takes o a.0 fits a.1 in
    subst (λ (y : Body × List ℕ). TakesBody o 3 more y × (further y.0 ≡ more)) (some_is _ x a.2) (record { text = ta.0; fits = ta.1; number_is = refl }, refl)

chosen : {A : Type 0} (b : Bool) (x y z : A) → cond b x y ≡ z → ((b ≡ true) × (x ≡ z)) ⊎ ((b ≡ false) × (y ≡ z))
chosen true x y z e = inl (refl, e)
chosen false x y z e = inr (refl, e)

-- the frames after the first, as the command takes them
abbrev taken : ℕ → List (List ℕ) → List (List ℕ)
taken number more = cond (is_single number) [] more

record Took (o : List ℕ) (number : ℕ) (more : List (List ℕ)) (x : Body × List ℕ) : Type 0 where
  pub body : TakesBody o number more x
  pub further_is : further x.0 ≡ taken number more

at_number : (o : List ℕ) (n number : ℕ) (more : List (List ℕ)) (x : Body × List ℕ) → eqb number n ≡ true → TakesBody o n more x → further x.0 ≡ taken n more → Took o number more x
at_number o n number more x e b f =
    let same : n ≡ number = sym (eqb-true number n e) in
    subst (λ (k : ℕ). Took o k more x) same (record { body = b; further_is = f })

plain : (o : List ℕ) (n : ℕ) (more : List (List ℕ)) (b : Body) (x : Body × List ℕ) → IsBytes o → (b, o) ≡ x → fields b ≡ [] → FitsBody b → number_of b ≡ n → TakesBody o n more x
plain o n more b x fits e none body number =
    subst (λ (y : Body × List ℕ). TakesBody o n more y) e (record { text = record { parts = ap (λ (t : List ℕ). t ++ o) (sym none); rest_fits = fits }; fits = body; number_is = number })

other_number : (number : ℕ) → eqb number 1 ≡ false → eqb number 2 ≡ false → eqb number 3 ≡ false → eqb number 4 ≡ false → eqb number 5 ≡ false → eqb number 6 ≡ false → eqb number 7 ≡ false → (number ≡ 0) ⊎ (8 ≤ number)
other_number number e1 e2 e3 e4 e5 e6 e7 =
    elim (cases_eq number 0) [
      | inl z ↦ inl z
      | inr nz ↦ inr (omega (arith, nz, eqb-false number 1 e1, eqb-false number 2 e2, eqb-false number 3 e3, eqb-false number 4 e4, eqb-false number 5 e5, eqb-false number 6 e6, eqb-false number 7 e7))
    ]

other_single : (number : ℕ) → eqb number 1 ≡ false → eqb number 4 ≡ false → eqb number 5 ≡ false → eqb number 6 ≡ false → eqb number 7 ≡ false → is_single number ≡ false
other_single number e1 e4 e5 e6 e7 = rw (e1, e4, e5, e6, e7) refl

fits-nil : (i : ℕ) → get_or [] i 0 < 256
fits-nil i = omega (arith, get_or_past {X = ℕ} [] i 0 (omega arith))

body_takes : (number : ℕ) (more : List (List ℕ)) (o : List ℕ) (x : Body × List ℕ) → IsBytes o → body_at number more o ≡ Some x → Took o number more x
body_takes number more o x fits e =
    elim (chosen (eqb number 1) _ _ _ e) [
      | inl p ↦ (let t = hello_takes o more x fits p.1 in at_number o 1 number more x p.0 t.0 t.1)
      | inr q1 ↦ elim (chosen (eqb number 2) _ _ _ q1.1) [
        | inl p ↦ (let y = some_is (Whisper more, o) x p.1 in at_number o 2 number more x p.0 (plain o 2 more (Whisper more) x fits y refl tt refl) (ap (λ (z : Body × List ℕ). further z.0) (sym y)))
        | inr q2 ↦ elim (chosen (eqb number 3) _ _ _ q2.1) [
          | inl p ↦ (let t = shout_takes o more x fits p.1 in at_number o 3 number more x p.0 t.0 t.1)
          | inr q3 ↦ elim (chosen (eqb number 4) _ _ _ q3.1) [
            | inl p ↦ (let t = join_takes o more x fits p.1 in at_number o 4 number more x p.0 t.0 t.1)
            | inr q4 ↦ elim (chosen (eqb number 5) _ _ _ q4.1) [
              | inl p ↦ (let t = leave_takes o more x fits p.1 in at_number o 5 number more x p.0 t.0 t.1)
              | inr q5 ↦ elim (chosen (eqb number 6) _ _ _ q5.1) [
                | inl p ↦ (let y = some_is (Ping, o) x p.1 in at_number o 6 number more x p.0 (plain o 6 more Ping x fits y refl tt refl) (ap (λ (z : Body × List ℕ). further z.0) (sym y)))
                | inr q6 ↦ elim (chosen (eqb number 7) _ _ _ q6.1) [
                  | inl p ↦ (let y = some_is (PingOk, o) x p.1 in at_number o 7 number more x p.0 (plain o 7 more PingOk x fits y refl tt refl) (ap (λ (z : Body × List ℕ). further z.0) (sym y)))
                  | inr q7 ↦ (let y = some_is (Other number o more, []) x q7.1 in
                      let whole : Took o number more (Other number o more, []) = record {
                        body = record {
                          text = record { parts = sym (append-nil o); rest_fits = λ i. fits-nil i };
                          fits = other_number number q1.0 q2.0 q3.0 q4.0 q5.0 q6.0 q7.0;
                          number_is = refl;
                        };
                        further_is = sym (ap (λ b. cond b [] more) (other_single number q1.0 q4.0 q5.0 q6.0 q7.0));
                      } in
                      subst (λ (z : Body × List ℕ). Took o number more z) y whole)
                ]
              ]
            ]
          ]
        ]
      ]
    ]

-- ---- the whole message

guard_long : {A : Type 0} (b : Bool) (o : Option A) (x : A) → cond b None o ≡ Some x → (b ≡ false) × (o ≡ Some x)
guard_long true o x e = absurd cc
guard_long false o x e = (refl, e)

-- six octets, one by one
front_is : (o : List ℕ) → 6 ≤ length o → get_or o 0 0 ≡ 170 → get_or o 1 0 ≡ 161 → get_or o 3 0 ≡ 2 → o ≡ 170 ∷ 161 ∷ get_or o 2 0 ∷ 2 ∷ (take 2 (drop 4 o) ++ drop 6 o)
front_is (a ∷ b ∷ c ∷ d ∷ x ∷ y ∷ o) long p q r = ap (λ k. k ∷ b ∷ c ∷ d ∷ x ∷ y ∷ o) p ∙ ap (λ k. 170 ∷ k ∷ c ∷ d ∷ x ∷ y ∷ o) q ∙ ap (λ k. 170 ∷ 161 ∷ c ∷ k ∷ x ∷ y ∷ o) r
front_is [] long p q r = absurd (omega (arith, long))
front_is (a ∷ []) long p q r = absurd (omega (arith, long))
front_is (a ∷ b ∷ []) long p q r = absurd (omega (arith, long))
front_is (a ∷ b ∷ c ∷ []) long p q r = absurd (omega (arith, long))
front_is (a ∷ b ∷ c ∷ d ∷ []) long p q r = absurd (omega (arith, long))
front_is (a ∷ b ∷ c ∷ d ∷ x ∷ []) long p q r = absurd (omega (arith, long))

row_off : (t : Bool) (b : Bad) (rows : Option Bad) → cond t (Some b) rows ≡ None → (t ≡ false) × (rows ≡ None)
row_off true b rows e = absurd cc
row_off false b rows e = (refl, e)

unless_ok : (r : Option Bad) (m n : Message) → unless r m ≡ Ok n → (r ≡ None) × (m ≡ n)
unless_ok None m n e = (refl, cc)
unless_ok (Some b) m n e = absurd cc

is_there : {A : Type 0} (o : Option A) → is_none o ≡ false → (x : A) × (o ≡ Some x)
is_there None e = absurd cc
is_there (Some x) e = (x, refl)

octet_is : (o : List ℕ) (i wanted : ℕ) → i < length o → is_other o i wanted ≡ false → get_or o i 0 ≡ wanted
octet_is o i wanted lt e =
    elim (and_cases (ltb i (length o)) (not (eqb (get_or o i 0) wanted)) e) [
      | inl f ↦ absurd (omega (arith, lt, ltb-false _ _ f))
      | inr f ↦ eqb-true _ _ (not-false _ f)
    ]

no_more : (single : Bool) (more : List (List ℕ)) → (single && ltb 0 (length more)) ≡ false → cond single [] more ≡ more
no_more true more e = let h = ltb-false 0 (length more) e in sym (nil_from_length more (omega (arith, h)))
no_more false more e = refl

-- a number of two octets is one of sixteen bits
be_bytes_2_below : (bytes : List ℕ) → IsBytes bytes → from_be_bytes w16 bytes < 2 ^ 16
be_bytes_2_below bytes f = omega (arith, f 0, f 1)

-- no row of what may be wrong holds
record Right (first : List ℕ) (more : List (List ℕ)) (command : Option (Body × List ℕ)) : Type 0 where
  first_octet : is_other first 0 170 ≡ false
  second_octet : is_other first 1 161 ≡ false
  version : is_other first 3 2 ≡ false
  is_whole : is_none command ≡ false
  is_spent : ltb 0 (left_over command) ≡ false
  is_alone : (is_single (get_or first 2 0) && ltb 0 (length more)) ≡ false

none_wrong : (first : List ℕ) (more : List (List ℕ)) (command : Option (Body × List ℕ)) → first_row (bad_rows first more command) ≡ None → Right first more command
none_wrong first more command e =
    let r0 = row_off _ _ _ e in
    let r1 = row_off _ _ _ r0.1 in
    let r3 = row_off _ _ _ r1.1 in
    let rs = row_off _ _ _ r3.1 in
    let rt = row_off _ _ _ rs.1 in
    let rx = row_off _ _ _ rt.1 in
    record { first_octet = r0.0; second_octet = r1.0; version = r3.0; is_whole = rs.0; is_spent = rt.0; is_alone = rx.0 }

-- the sequence of a first frame
abbrev sequence_of : List ℕ → ℕ
sequence_of first = from_be_bytes w16 (take 2 (drop 4 first))

-- the head of a first frame, and what stands after it
head_parts : (first : List ℕ) → 6 ≤ length first → IsBytes first → is_other first 0 170 ≡ false → is_other first 1 161 ≡ false → is_other first 3 2 ≡ false
    → first ≡ head (get_or first 2 0) (sequence_of first) ++ drop 6 first
head_parts first long fits e0 e1 e3 =
    let two : length (take 2 (drop 4 first)) ≡ 2 = omega (arith, long, length-take 2 (drop 4 first), length-drop 4 first) in
    let octets : to_be_bytes w16 (sequence_of first) ≡ take 2 (drop 4 first) = be_bytes_2 (take 2 (drop 4 first)) (sequence_of first) two (IsBytes-take 2 (drop 4 first) (IsBytes-drop 4 first fits)) refl in
    let front = front_is first long (octet_is first 0 170 (omega (arith, long)) e0) (octet_is first 1 161 (omega (arith, long)) e1) (octet_is first 3 2 (omega (arith, long)) e3) in
    front ∙ ap (λ (l : List ℕ). 170 ∷ 161 ∷ get_or first 2 0 ∷ 2 ∷ (l ++ drop 6 first)) (sym octets)

nothing_left : (command : Option (Body × List ℕ)) (x : Body × List ℕ) → command ≡ Some x → ltb 0 (left_over command) ≡ false → x.1 ≡ []
nothing_left command x is e =
    let left : ltb 0 (length x.1) ≡ false = subst (λ (y : Option (Body × List ℕ)). ltb 0 (left_over y) ≡ false) is e in
    nil_from_length x.1 (let h = ltb-false 0 (length x.1) left in omega (arith, h))

-- what is read is spelled so
pub read-takes : (first : List ℕ) (more : List (List ℕ)) (m : Message) → IsBytes first → read_of first more ≡ Ok m → Means (first ∷ more) m
unfolding read_of command_of
read-takes first more m fits e =
    let command = command_of first more in
    let number = get_or first 2 0 in
    let sequence = sequence_of first in
    let u = unless_ok (bad_of first more) (record { sequence = sequence; body = (unwrap_or command no_command).0 }) m e in
    let right = none_wrong first more command u.0 in
    let c = is_there command right.is_whole in
    let g = guard_long (ltb (length first) 6) (body_at number more (drop 6 first)) c.0 c.1 in
    let t = body_takes number more (drop 6 first) c.0 (IsBytes-drop 6 first fits) g.1 in
    let none = nothing_left command c.0 c.1 right.is_spent in
    let text : drop 6 first ≡ fields c.0.0 = t.body.text.parts ∙ ap (λ (l : List ℕ). fields c.0.0 ++ l) none ∙ append-nil (fields c.0.0) in
    let front = head_parts first (ltb-false (length first) 6 g.0) fits right.first_octet right.second_octet right.version in
    let whole : first ∷ more ≡ spell (record { sequence = sequence; body = c.0.0 }) =
    ap (λ (l : List ℕ). l ∷ more) (front ∙ ap (λ (l : List ℕ). head number sequence ++ l) text ∙ ap (λ (k : ℕ). head k sequence ++ fields c.0.0) (sym t.body.number_is))
    ∙ ap (λ (l : List (List ℕ)). (head (number_of c.0.0) sequence ++ fields c.0.0) ∷ l) (sym (t.further_is ∙ no_more (is_single number) more right.is_alone)) in
    let body_is : (unwrap_or command no_command).0 ≡ c.0.0 = ap (λ (x : Option (Body × List ℕ)). (unwrap_or x no_command).0) c.1 in
    let same : record { sequence = sequence; body = c.0.0 } ≡ m = ap (λ (b : Body). record { sequence = sequence; body = b }) (sym body_is) ∙ u.1 in
    let below = be_bytes_2_below (take 2 (drop 4 first)) (IsBytes-take 2 (drop 4 first) (IsBytes-drop 4 first fits)) in
    subst (λ (x : Message). Means (first ∷ more) x) same (record { spelled = whole; fits = t.body.fits; sequence_fits = below })
