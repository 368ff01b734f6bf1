use Rattle.std.proofs.Common.{◌≡◌, ℕ, ◌+◌, ◌<◌, List, [], ◌∷◌, ◌++◌, length, take, drop, get_or, refl, sym, ap, ◌∙◌, not, true, false, Some, arith}
use Rattle.std.specs.Int.{w16, to_be_bytes, from_be_bytes}
use Rattle.std.specs.Str.{bytes_eq}
use Rattle.std.proofs.lemmas.List.{take-append-drop, length-take-le, take_at, drop_at, get_or-drop}
use Rattle.std.proofs.lemmas.Nat.{be_bytes_2, from_be_bytes-to_be_bytes_2}
use Rattle.std.proofs.lemmas.Slice.Eq.{bytes_eq-Decides}
use Rattle.zre_beacon.proofs.Beacon.read.Goals as goal

-- a list that differs from none of the octets of another is that list
not_different : (xs ys : List ℕ) → false ≡ not (bytes_eq xs ys) → xs ≡ ys
not_different xs ys e =
    (bytes_eq-Decides xs ys).0 (elim (bytes_eq xs ys) as (λ b. false ≡ not b → b ≡ true) [ true ↦ λ _. refl | false ↦ λ d. absurd cc ] e)

-- three parts, one after the other
in_parts : (bytes head rest id tail : List ℕ) → head ≡ take 4 bytes → rest ≡ drop 4 bytes → id ≡ take 16 rest → tail ≡ drop 16 rest → bytes ≡ head ++ (id ++ tail)
in_parts bytes head rest id tail h r i t =
    let whole = take-append-drop 4 bytes in
    let later = take-append-drop 16 rest in
    cc

octets_of_part : (bytes part : List ℕ) (n : ℕ) → part ≡ drop n bytes → ((i : ℕ) → get_or bytes i 0 < 256) → (i : ℕ) → get_or part i 0 < 256
octets_of_part bytes part n is each i = rw (is, get_or-drop) (each (n + i))

pub returns-clause-sound : goal.returns-clause-sound
returns-clause-sound c =
    let first = c.in_ok-head.ensures.cases in
    let second = c.in_ok-id.ensures.cases in
    let chunk = c.in-Ok.ensures.1 in
    let bytes = c.args.bytes.now in
    let head = not_different c.in_ok-head.head.now (0x5a ∷ 0x52 ∷ 0x45 ∷ 0x01 ∷ []) (sym c.if-ne.false ∙ c.ne.ensures) in
    let small = octets_of_part c.in_ok-head.rest.now c.in_ok-id.port.now 16 second.1 (octets_of_part bytes c.in_ok-head.rest.now 4 first.1 (λ i. omega (arith, c.type_inv.bytes i))) in
    let number = be_bytes_2 c.in-Ok.port c.from_be_bytes.result (ap length chunk.same ∙ chunk.long) (λ i. rw chunk.same (small i)) c.from_be_bytes.ensures in
    record {
      spelled = in_parts bytes c.in_ok-head.head.now c.in_ok-head.rest.now c.in_ok-id.id.now c.in_ok-id.port.now first.0 first.1 second.0 second.1
          ∙ ap (λ h. h ++ (c.in_ok-id.id.now ++ c.in_ok-id.port.now)) head
          ∙ ap (λ t. 0x5a ∷ 0x52 ∷ 0x45 ∷ 0x01 ∷ (c.in_ok-id.id.now ++ t)) (sym (number ∙ chunk.same));
      identity = ap length second.0 ∙ length-take-le 16 c.in_ok-head.rest.now (omega arith);
      number = c.from_be_bytes.type_inv;
    }

-- what stands after the head
after_head : (bytes rest id port : List ℕ) → bytes ≡ 0x5a ∷ 0x52 ∷ 0x45 ∷ 0x01 ∷ (id ++ port) → rest ≡ drop 4 bytes → rest ≡ id ++ port
after_head bytes rest id port e r = r ∙ ap (drop 4) e

pub returns-clause-complete : goal.returns-clause-complete
returns-clause-complete c = λ id port h.
    let second = c.in_ok-id.ensures.cases in
    let chunk = c.in-Ok.ensures.1 in
    let rest = after_head c.args.bytes.now c.in_ok-head.rest.now id.0 (to_be_bytes w16 port) h.spelled c.in_ok-head.ensures.cases.1 in
    let same_id : c.in_ok-id.id.now ≡ id.0 = second.0 ∙ ap (take 16) rest ∙ take_at id.0 (to_be_bytes w16 port) 16 h.identity in
    let tail : c.in-Ok.port ≡ to_be_bytes w16 port = chunk.same ∙ second.1 ∙ ap (drop 16) rest ∙ drop_at id.0 (to_be_bytes w16 port) 16 h.identity in
    let same_port : c.from_be_bytes.result ≡ port = c.from_be_bytes.ensures ∙ ap (from_be_bytes w16) tail ∙ from_be_bytes-to_be_bytes_2 port h.number in
    λ i. Some (record { id = record { 0 = same_id i }; port = same_port i })
