-- What arrives comes in the order of RFC 23, by the parts of the stream.
use Rattle.std.proofs.Common.{◌≡◌, ◌≢◌, ℕ, zero, suc, Bool, true, false, cond, not, ◌&&◌, List, [], ◌∷◌, ◌++◌, length, take, drop, Option, Some, None, refl, sym, ap, subst, ◌∙◌, inl, inr, arith}
use Rattle.std.specs.Prelude.{option_map, option_and_then, option_to_list, nat_eq, slice_index, is_some}
use Rattle.std.specs.Result.{result_ok}
use Rattle.std.specs.List.{cons_option, list_any}
use Rattle.std.specs.Str.{bytes_eq}
use Rattle.std.proofs.lemmas.Bool.{and_parts, eqb-true}
use Rattle.std.proofs.lemmas.Option.{none-some}
use Rattle.std.proofs.lemmas.List.{length-drop, take-append-drop}
use Rattle.std.proofs.lemmas.Slice.Eq.{bytes_eq-Decides}
use Rattle.zre_values.specs.declared.peer_id.PeerId.{PeerId}
use Rattle.zre_zmtp.specs.Frame.{flags, frame_len, body, is_message, has_more}
use Rattle.zre_zmtp.specs.Ready.{has_name, properties, rest, identity}
use Rattle.zre_zmtp.specs.Stream.{Before, Whole, Parts, before, cut, split, item, items_of, awaits_ready, is_ready, is_error, is_other, has_socket, has_identity, command_fault, body_fault, frame_why, part_len}
use Rattle.zre_zmtp.specs.declared.want.Want.{Want}
use Rattle.zre_zmtp.specs.declared.want.Want.TheVariants.{Dealer}
use Rattle.zre_zmtp.specs.declared.expected.Expected.{Expected}
use Rattle.zre_zmtp.specs.declared.expected.Expected.TheVariants as expect
use Rattle.zre_zmtp.specs.declared.item.Item.{Item}
use Rattle.zre_zmtp.specs.declared.item.What.{What}
use Rattle.zre_zmtp.specs.declared.item.What.TheVariants as says
use Rattle.zre_zmtp.specs.declared.fault.ZmtpWhy.{ZmtpWhy}
use Rattle.zre_zmtp.specs.declared.fault.ZmtpWhy.TheVariants as why
use Rattle.zre_zmtp.proofs.KnownHeadersStay.{IsWhole, is_whole-from, body-more}
use Rattle.zre_zmtp.proofs.FaultsStay.{is_part, IsPart, frame-len}
use Rattle.zre_zmtp.proofs.OctetsCutIntoParts.{cases_Option, cut-none, cut-some}
use Rattle.zre_zmtp.proofs.WholeFrames.{exact}
use Rattle.zre_zmtp.proofs.MoreOfOnePart.{head_fine, why_after, once-true}
use Rattle.zre_msg.specs.Reading.{read_frames}
use Rattle.zre_msg.specs.declared.message.Message.{Message as MessageValue}
use Rattle.zre_zmtp.specs.Ping.{context_of}
use Rattle.zre_zmtp.proofs.FrameFaults.{why_none}
use Rattle.zre_zmtp.proofs.OctetsHeld.{row-off}
use Rattle.zre_mailbox.specs.declared.arrival.Arrival.{Arrival}
use Rattle.zre_mailbox.specs.declared.arrival.Arrival.TheVariants.{Greeted, Shaken, Ping, Message}
use Rattle.zre_mailbox.specs.Talk.{peer_of, arrivals_in, arrivals, AreTraffic, Introduced, IsInOrder, is_ready as is_ready_item, has_ready}
use Rattle.zre_mailbox.proofs.TalkGrows.{arrivals_in-append}

-- ---- READY of another

-- the peer of an identity that is wanted
record IsPeer (own : PeerId) (given : Option (List ℕ)) : Type 0 where
  pub peer : PeerId
  pub read : option_and_then peer_of given ≡ Some peer
  pub other : peer.0 ≢ own.0
  pub sixteen : length peer.0 ≡ 16

not-true : (b : Bool) → not b ≡ true → b ≡ true → ⊥
not-true true e f = absurd cc
not-true false e f = absurd cc

other_peer : (own : PeerId) (given : Option (List ℕ)) → is_other own.0 given ≡ true → IsPeer own given
other_peer own None e = absurd cc
other_peer own (Some v) e =
    let p = and_parts (nat_eq (length v) 17 && nat_eq (slice_index v 0) 1) (not (bytes_eq (drop 1 v) own.0)) e in
    let q = and_parts (nat_eq (length v) 17) (nat_eq (slice_index v 0) 1) p.0 in
    let len : length v ≡ 17 = eqb-true _ _ q.0 in
    record {
      peer = record { 0 = drop 1 v };
      read = rw p.0 refl;
      other = λ same. not-true _ p.1 ((bytes_eq-Decides (drop 1 v) own.0).1 same);
      sixteen = omega (arith, len, length-drop 1 v);
    }

-- a test that isn't made where it would hold
and-off : (a b : Bool) → (a && b) ≡ false → b ≡ true → a ≡ false
and-off true true e f = absurd cc
and-off true false e f = absurd cc
and-off false b e f = refl

not-off : (a b : Bool) → (a && not b) ≡ false → a ≡ true → b ≡ true
not-off true true e f = refl
not-off true false e f = absurd cc
not-off false b e f = absurd cc

cond-off : (t : Bool) (c : Option ZmtpWhy) → t ≡ false → cond t None c ≡ c
cond-off true c e = absurd cc
cond-off false c e = refl

-- a table of six rows of which none holds
none_of_six : (t1 t2 t3 t4 t5 t6 : Bool) (w1 w2 w3 w4 w5 w6 : ZmtpWhy)
    → cond t1 (Some w1) (cond t2 (Some w2) (cond t3 (Some w3) (cond t4 (Some w4) (cond t5 (Some w5) (cond t6 (Some w6) None))))) ≡ None → t6 ≡ false
none_of_six true t2 t3 t4 t5 t6 w1 w2 w3 w4 w5 w6 e = absurd (none-some w1 (sym e))
none_of_six false true t3 t4 t5 t6 w1 w2 w3 w4 w5 w6 e = absurd (none-some w2 (sym e))
none_of_six false false true t4 t5 t6 w1 w2 w3 w4 w5 w6 e = absurd (none-some w3 (sym e))
none_of_six false false false true t5 t6 w1 w2 w3 w4 w5 w6 e = absurd (none-some w4 (sym e))
none_of_six false false false false true t6 w1 w2 w3 w4 w5 w6 e = absurd (none-some w5 (sym e))
none_of_six false false false false false true w1 w2 w3 w4 w5 w6 e = absurd (none-some w6 (sym e))
none_of_six false false false false false false w1 w2 w3 w4 w5 w6 e = refl

-- the body of READY that is whole and has no fault gives an identity that is wanted
ready_identity : (want : Want) (o : List ℕ) → command_fault want expect.Ready o ≡ None → has_identity want o ≡ true
ready_identity want o e =
    not-off true (has_identity want o)
    (none_of_six (not (has_name o)) (is_error o) (not (is_ready o)) (not (is_some (properties (rest o)))) (not (has_socket want o)) (not (has_identity want o))
    why.CommandName why.PeerError why.Order why.Metadata why.SocketType why.Identity e)
    refl

-- the octets of a whole frame have its body
same_body : (o : List ℕ) → IsWhole o → body (take (frame_len o) o) ≡ body o
same_body o w =
    let part = take (frame_len o) o in
    let x = exact o w in
    let all : IsWhole part = record { header = record { some = x.some; all = x.header }; rest = omega (arith, x.all) } in
    sym (body-more part (drop (frame_len o) o) all) ∙ ap body (take-append-drop (frame_len o) o)

ready_peer : (own : PeerId) (b : Before) (o : List ℕ) (len : ℕ) → b.expected ≡ expect.Ready → part_len (Dealer own) b o ≡ Some len → IsPeer own (identity (body (take len o)))
ready_peer own b o len ready e =
    let want = Dealer own in
    let p : IsPart expect.Ready want b o len = subst (λ (k : Expected). IsPart k want b o len) ready (is_part want b o len e) in
    let w = frame-len o len p.len in
    let right : frame_why want b o ≡ None = why_none want b o p.faultless in
    let fine = head_fine want b o w.0.header right in
    let fault : body_fault want b (flags o) (body o) ≡ None = sym (once-true _ _ (is_whole-from o w.0)) ∙ sym (why_after want b o fine) ∙ right in
    let r1 = row-off _ _ _ fine.flags_fine in
    let r2 = row-off _ _ _ r1.1 in
    let command : is_message (flags o) ≡ false = and-off (is_message (flags o)) (awaits_ready b.expected) r2.0 (ap awaits_ready ready) in
    let none : command_fault want expect.Ready (body o) ≡ None = subst (λ (k : Expected). command_fault want k (body o) ≡ None) ready (sym (cond-off (is_message (flags o)) _ command) ∙ fault) in
    let same : body (take len o) ≡ body o = ap (λ (n : ℕ). body (take n o)) (sym w.1) ∙ same_body o w.0 in
    subst (λ (x : List ℕ). IsPeer own (identity x)) (sym same) (other_peer own (identity (body o)) (ready_identity want (body o) none))

-- ---- traffic

-- what arrives with what a part says
abbrev with_what : ℕ → ℕ → Option What → List Arrival
with_what s e w = arrivals_in (option_to_list (option_map (λ x. let i : Item = record { start = s; end = e; what = x } in i) w))

one_ping : (t : Option (List ℕ)) → AreTraffic (cons_option (option_map (λ x. Ping x) t) [])
one_ping None = tt
one_ping (Some x) = (refl, tt)

one_read : (r : Option MessageValue) → AreTraffic (cons_option (option_map (λ m. Message m) r) [])
one_read None = tt
one_read (Some m) = (refl, tt)

one_item : (s e : ℕ) (t u : Bool) (n : ℕ) (name o : List ℕ) (frames : List (List ℕ))
    → AreTraffic (with_what s e (cond t (Some (says.Command n name o)) (cond u None (Some (says.Message frames)))))
one_item s e true u n name o frames = one_ping (context_of name (rest o))
one_item s e false true n name o frames = tt
one_item s e false false n name o frames = one_read (result_ok (read_frames frames))

traffic-append : (xs ys : List Arrival) → AreTraffic xs → AreTraffic ys → AreTraffic (xs ++ ys)
traffic-append [] ys a b = b
traffic-append (x ∷ xs) ys a b = (a.0, traffic-append xs ys a.1 b)

-- ---- parts

-- what arrives with so many parts
abbrev Shape : PeerId → Parts → List Arrival → Type 0
Shape own [] came = came ≡ []
Shape own (greeting ∷ []) came = came ≡ Greeted ∷ []
Shape own (part ∷ ready ∷ parts) came = Introduced own came

step : (own : PeerId) (parts : Parts) (o : List ℕ) (len : ℕ) → part_len (Dealer own) (before Whole parts) o ≡ Some len → Shape own parts (arrivals_in (items_of Whole parts))
    → Shape own (take len o ∷ parts) (arrivals_in (items_of Whole (take len o ∷ parts)))
unfolding item
step own [] o len e h = refl
step own (greeting ∷ []) o len e h =
    let part = take len o in
    let b = before Whole (greeting ∷ []) in
    let p = ready_peer own b o len refl e in
    let new : arrivals_in (option_to_list (item b part)) ≡ Shaken p.peer ∷ [] = ap (λ (x : Option PeerId). cons_option (option_map (λ y. Shaken y) x) []) p.read in
    record {
      peer = p.peer;
      traffic = [];
      other = p.other;
      sixteen = p.sixteen;
      are_traffic = tt;
      is = arrivals_in-append (items_of Whole (greeting ∷ [])) (option_to_list (item b part)) ∙ ap (λ (l : List Arrival). l ++ arrivals_in (option_to_list (item b part))) h ∙ ap (λ (l : List Arrival). Greeted ∷ l) new;
    }
step own (last ∷ ready ∷ parts) o len e h =
    let part = take len o in
    let b = before Whole (last ∷ ready ∷ parts) in
    let more = arrivals_in (option_to_list (item b part)) in
    record {
      peer = h.peer;
      traffic = h.traffic ++ more;
      other = h.other;
      sixteen = h.sixteen;
      are_traffic = traffic-append h.traffic more h.are_traffic (one_item _ _ (not (is_message (flags part))) (has_more (flags part)) _ _ _ _);
      is = arrivals_in-append (items_of Whole (last ∷ ready ∷ parts)) (option_to_list (item b part)) ∙ ap (λ (l : List Arrival). l ++ more) h.is;
    }

shape : (own : PeerId) (n : ℕ) (parts : Parts) (o : List ℕ) → Shape own parts (arrivals_in (items_of Whole parts))
    → let found = (cut (Dealer own) Whole n parts o).0 in Shape own found (arrivals_in (items_of Whole found))
unfolding cut
shape own zero parts o h = h
shape own (suc n) parts o h =
    let P : Parts × List ℕ → Type 0 = λ c. Shape own c.0 (arrivals_in (items_of Whole c.0)) in
    elim (cases_Option (part_len (Dealer own) (before Whole parts) o)) [
      | inl e ↦ subst P (sym (cut-none (Dealer own) Whole (suc n) parts o e)) h
      | inr p ↦ subst P (sym (cut-some (Dealer own) Whole n parts o p.0 p.1)) (shape own n (take p.0 o ∷ parts) (drop p.0 o) (step own parts o p.0 p.1 h))
    ]

by_shape : (own : PeerId) (parts : Parts) (came : List Arrival) → Shape own parts came → IsInOrder own came
by_shape own [] came h = inl h
by_shape own (greeting ∷ []) came h = inr (inl h)
by_shape own (part ∷ ready ∷ parts) came h = inr (inr h)

pub in_order : (own : PeerId) (o : List ℕ) → IsInOrder own (arrivals own o)
in_order own o = by_shape own (split (Dealer own) Whole o).0 (arrivals own o) (shape own (length o) [] o refl)

-- READY is the second part
ready_shape : (own : PeerId) (parts : Parts) → list_any (λ x. is_ready_item x.what) (items_of Whole parts) ≡ true → Shape own parts (arrivals_in (items_of Whole parts)) → Introduced own (arrivals_in (items_of Whole parts))
unfolding item
ready_shape own [] e h = absurd cc
ready_shape own (greeting ∷ []) e h = absurd cc
ready_shape own (part ∷ ready ∷ parts) e h = h

pub ready_introduces : (own : PeerId) (o : List ℕ) → has_ready own o ≡ true → Introduced own (arrivals own o)
ready_introduces own o e = ready_shape own (split (Dealer own) Whole o).0 e (shape own (length o) [] o refl)
