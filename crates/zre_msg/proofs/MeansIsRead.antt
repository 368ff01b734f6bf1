-- The one spelling of a message is read as that message.
use Rattle.std.proofs.Common.{◌≡◌, ℕ, ◌^◌, ◌<◌, ◌≤◌, false, ◌&&◌, ◌⊎◌, ltb, eqb, List, [], ◌∷◌, ◌++◌, length, take, drop, get_or, Option, Some, None, Ok, refl, sym, ap, ◌∙◌, arith, inl, inr}
use Rattle.std.specs.Int.{w16, from_be_bytes}
use Rattle.std.proofs.lemmas.Bool.{le-ltb, ne_eqb, and_right}
use Rattle.std.proofs.lemmas.List.{length-append}
use Rattle.std.proofs.lemmas.Nat.{from_be_bytes-to_be_bytes_2}
use Rattle.zre_msg.specs.declared.message.Bad.{Bad}
use Rattle.zre_msg.specs.declared.message.Message.{Message}
use Rattle.zre_msg.specs.declared.message.Body.{Body}
use Rattle.zre_msg.specs.declared.message.Body.TheVariants.{Hello, Whisper, Shout, Join, Leave, Ping, PingOk, Other}
use Rattle.zre_msg.specs.Spelling.{number_of, fields, further, head, spell, FitsBody, Fits, Means}
use Rattle.zre_msg.specs.Reading.{body_at, command_of, read_of, read_frames, bad, unless, is_single, is_other}
use Rattle.zre_msg.proofs.SpelledIsRead.{hello_again, join_again, leave_again, shout_again}

read-ok : (first : List ℕ) (more : List (List ℕ)) (b : Body) → is_other first 0 170 ≡ false → is_other first 1 161 ≡ false → is_other first 3 2 ≡ false → command_of first more ≡ Some (b, [])
    → (is_single (get_or first 2 0) && ltb 0 (length more)) ≡ false → read_frames (first ∷ more) ≡ Ok (record { sequence = from_be_bytes w16 (take 2 (drop 4 first)); body = b })
unfolding read_of
read-ok first more b e0 e1 e3 command single = rw (e0, e1, e3, command, single) refl

command_is : (number sequence : ℕ) (o : List ℕ) (more : List (List ℕ)) → command_of (head number sequence ++ o) more ≡ body_at number more o
unfolding command_of
command_is number sequence o more =
    let long : ltb (length (head number sequence ++ o)) 6 ≡ false = le-ltb _ _ (omega (arith, length-append (head number sequence) o)) in
    rw long refl

read-body : (number sequence : ℕ) (o : List ℕ) (more : List (List ℕ)) (b : Body) → sequence < 2 ^ 16 → body_at number more o ≡ Some (b, [])
    → (is_single number && ltb 0 (length more)) ≡ false → read_frames ((head number sequence ++ o) ∷ more) ≡ Ok (record { sequence = sequence; body = b })
read-body number sequence o more b lt command single =
    read-ok (head number sequence ++ o) more b (and_right _ _ refl) (and_right _ _ refl) (and_right _ _ refl) (command_is number sequence o more ∙ command) single
    ∙ ap (λ s. Ok (record { sequence = s; body = b })) (from_be_bytes-to_be_bytes_2 sequence lt)

not_named : (number n : ℕ) → 0 < n → n < 8 → (number ≡ 0) ⊎ (8 ≤ number) → eqb number n ≡ false
not_named number n low high (inl e) = ne_eqb number n (λ q. omega (arith, low, e, q))
not_named number n low high (inr h) = ne_eqb number n (λ q. omega (arith, high, h, q))

other_again : (number : ℕ) (rest : List ℕ) (more : List (List ℕ)) → (number ≡ 0) ⊎ (8 ≤ number) → (body_at number more rest ≡ Some (Other number rest more, [])) × ((is_single number && ltb 0 (length more)) ≡ false)
other_again number rest more h =
    rw (
      not_named number 1 (omega arith) (omega arith) h,
      not_named number 2 (omega arith) (omega arith) h,
      not_named number 3 (omega arith) (omega arith) h,
      not_named number 4 (omega arith) (omega arith) h,
      not_named number 5 (omega arith) (omega arith) h,
      not_named number 6 (omega arith) (omega arith) h,
      not_named number 7 (omega arith) (omega arith) h,
    )
    (refl, refl)

body_again : (b : Body) → FitsBody b → (body_at (number_of b) (further b) (fields b) ≡ Some (b, [])) × ((is_single (number_of b) && ltb 0 (length (further b))) ≡ false)
body_again (Hello endpoint groups status name headers) fits = (hello_again endpoint groups status name headers fits, refl)
body_again (Whisper content) fits = (refl, refl)
body_again (Shout group content) fits = (shout_again group content, refl)
body_again (Join group status) fits = (join_again group status, refl)
body_again (Leave group status) fits = (leave_again group status, refl)
body_again Ping fits = (refl, refl)
body_again PingOk fits = (refl, refl)
body_again (Other number rest more) fits = other_again number rest more fits

-- what is spelled is read as the message that was spelled
pub read-spell : (m : Message) → m.sequence < 2 ^ 16 → Fits m → read_frames (spell m) ≡ Ok m
read-spell m lt fits = let p = body_again m.body fits in read-body (number_of m.body) m.sequence (fields m.body) (further m.body) m.body lt p.0 p.1

-- what frames mean is read from them
pub read-means : (frames : List (List ℕ)) (m : Message) → Means frames m → read_frames frames ≡ Ok m
read-means frames m means = ap read_frames means.spelled ∙ read-spell m means.sequence_fits means.fits

-- frames mean one message at most
pub Means-one : (frames : List (List ℕ)) (m n : Message) → Means frames m → Means frames n → m ≡ n
Means-one frames m n p q = let r = sym (read-means frames m p) ∙ read-means frames n q in cc

no_bad : (o : Option Bad) (m n : Message) → unless o m ≡ Ok n → o ≡ None
no_bad None m n e = refl
no_bad (Some b) m n e = absurd cc

-- nothing is wrong with frames that mean a message
pub Means-good : (frames : List (List ℕ)) (m : Message) → Means frames m → bad frames ≡ None
unfolding read_of
Means-good frames m means = no_bad (bad frames) _ m (read-means frames m means)
