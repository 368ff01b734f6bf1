-- What is bad in a capture, whatever follows, stays bad.
use Rattle.std.proofs.Common.{◌≡◌, ℕ, ◌<◌, ◌==◌, Bool, true, false, cond, List, [], ◌∷◌, ◌++◌, length, Option, Some, None, refl, sym, ap, subst, arith, length-append}
use Rattle.std.specs.Prelude.{ltb, is_some}
use Rattle.std.specs.List.{onto_first}
use Rattle.std.specs.Option.{option_map_or}
use Rattle.std.proofs.lemmas.Bool.{lt-ltb, ltb-true}
use Rattle.zre_outside.specs.declared.entry.Entry.{Entry}
use Rattle.zre_capture.specs.Formats.{longest}
use Rattle.zre_capture.specs.Journal.{lines_in, line_of, bad_line, next, bad_from, bad, start}
use Rattle.zre_capture.specs.declared.fault.BadCapture.{BadCapture}
use Rattle.zre_capture.specs.declared.format.Format.{Format}
use Rattle.zre_capture.specs.declared.line_start.LineStart.{LineStart}
use Rattle.zre_capture.proofs.LineByLine.{some_lines}

-- the lines of a text that begins another: all but the last are lines of that one too, and the last begins one
abbrev Begins : List (List ℕ) → List (List ℕ) → Type 0
Begins [] ms = ⊥
Begins (l ∷ ls) [] = ⊥
Begins (l ∷ []) (m ∷ ms) = (h : List ℕ) × (m ≡ l ++ h)
Begins (l ∷ k ∷ ls) (m ∷ ms) = (m ≡ l) × Begins (k ∷ ls) ms

any_begins : (ms : List (List ℕ)) → 0 < length ms → Begins ([] ∷ []) ms
any_begins [] some = absurd (omega (arith, some))
any_begins (m ∷ ms) some = (m, refl)

-- one octet more at the front of both
octet_begins : (c : ℕ) (ls ms : List (List ℕ)) → Begins ls ms → Begins (onto_first c ls) (onto_first c ms)
octet_begins c [] ms b = absurd b
octet_begins c (l ∷ []) [] b = absurd b
octet_begins c (l ∷ k ∷ ls) [] b = absurd b
octet_begins c (l ∷ []) (m ∷ ms) b = (b.0, ap (λ t. c ∷ t) b.1)
octet_begins c (l ∷ k ∷ ls) (m ∷ ms) b = (ap (λ t. c ∷ t) b.0, b.1)

-- one line more
line_begins : (ls ms : List (List ℕ)) → Begins ls ms → Begins ([] ∷ ls) ([] ∷ ms)
line_begins [] ms b = absurd b
line_begins (l ∷ ls) ms b = (refl, b)

either_begins : (feed : Bool) (c : ℕ) (ls ms : List (List ℕ)) → Begins ls ms
    → Begins (cond feed ([] ∷ ls) (onto_first c ls)) (cond feed ([] ∷ ms) (onto_first c ms))
either_begins true c ls ms b = line_begins ls ms b
either_begins false c ls ms b = octet_begins c ls ms b

begins : (o x : List ℕ) → Begins (lines_in o) (lines_in (o ++ x))
begins [] x = any_begins (lines_in x) (some_lines x)
begins (c ∷ o) x = either_begins (c == 10) c (lines_in o) (lines_in (o ++ x)) (begins o x)

-- a last line that is too long already is bad, whatever follows
long_stays : (p : LineStart) (l m : List ℕ) (ms : List (List ℕ)) (h : List ℕ) → m ≡ l ++ h
    → ltb (longest p.format) (length l) ≡ true → is_some (bad_from p (m ∷ ms)) ≡ true
unfolding bad_from
long_stays p l m [] h e long =
    let longer : longest p.format < length m = omega (arith, ltb-true _ _ long, ap length e, length-append l h) in
    rw (lt-ltb (longest p.format) (length m) longer) refl
long_stays p l m (k ∷ ms) h e long =
    let longer : longest p.format < length m = omega (arith, ltb-true _ _ long, ap length e, length-append l h) in
    rw (lt-ltb (longest p.format) (length m) longer) refl

said_stays : (said : Option (List Entry)) (f g : List Entry → Option BadCapture) (here : BadCapture)
    → ((es : List Entry) → is_some (f es) ≡ true → is_some (g es) ≡ true)
    → is_some (option_map_or f said (Some here)) ≡ true → is_some (option_map_or g said (Some here)) ≡ true
said_stays None f g here h e = refl
said_stays (Some es) f g here h e = h es e

long_is : (b : Bool) (here : BadCapture) → is_some (cond b (Some here) None) ≡ true → b ≡ true
long_is true here e = refl
long_is false here e = absurd cc

none_begins : (k : List ℕ) (ls : List (List ℕ)) → Begins (k ∷ ls) [] → ⊥
none_begins k [] b = b
none_begins k (j ∷ ls) b = b

stays : (p : LineStart) (ls ms : List (List ℕ)) → Begins ls ms → is_some (bad_from p ls) ≡ true → is_some (bad_from p ms) ≡ true
unfolding bad_from
stays p [] ms b e = absurd b
stays p (l ∷ []) [] b e = absurd b
stays p (l ∷ k ∷ ls) [] b e = absurd b
stays p (l ∷ []) (m ∷ ms) b e = long_stays p l m ms b.0 b.1 (long_is _ _ e)
stays p (l ∷ k ∷ ls) (m ∷ []) b e = absurd (none_begins k ls b.1)
stays p (l ∷ k ∷ ls) (m ∷ n ∷ ms) b e =
    subst (λ (t : List ℕ). is_some (option_map_or (λ es. bad_from (next p es) (n ∷ ms)) (line_of p t) (Some (bad_line p t))) ≡ true) (sym b.0)
    (said_stays (line_of p l) (λ es. bad_from (next p es) (k ∷ ls)) (λ es. bad_from (next p es) (n ∷ ms)) (bad_line p l)
    (λ es h. stays (next p es) (k ∷ ls) (n ∷ ms) b.1 h) e)

pub bad_stays : (f : Format) (o x : List ℕ) → is_some (bad f o) ≡ true → is_some (bad f (o ++ x)) ≡ true
bad_stays f o x e = stays (start f) (lines_in o) (lines_in (o ++ x)) (begins o x) e
