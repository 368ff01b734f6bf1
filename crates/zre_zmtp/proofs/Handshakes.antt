-- The greeting and READY of a node, as they are read.
use Rattle.std.proofs.Common.{◌≡◌, ◌≢◌, ℕ, ◌+◌, ◌<◌, true, false, List, [], ◌∷◌, ◌++◌, length, drop, Option, Some, None, refl, sym, ap, subst, ◌∙◌, arith, option_map, is_some, inl, inr}
use Rattle.std.specs.Prelude.{option_to_list, bytes_eq, IfSome}
use Rattle.zre_values.specs.Framing.{frame}
use Rattle.std.proofs.lemmas.Bool.{le-ltb, lt-ltb, cases_Bool}
use Rattle.std.proofs.lemmas.Slice.Eq.{bytes_eq-Decides}
use Rattle.std.proofs.lemmas.List.{length-append, take_at, drop_at}
use Rattle.zre_values.specs.declared.limits.TheConstants.{COMMAND_OCTETS}
use Rattle.zre_values.specs.declared.peer_id.PeerId.{PeerId}
use Rattle.zre_zmtp.specs.declared.item.Item.{Item}
use Rattle.zre_zmtp.specs.declared.item.What.TheVariants.{Ready}
use Rattle.zre_zmtp.specs.declared.header.Header.{Header}
use Rattle.zre_zmtp.specs.declared.writing.SocketType.{SocketType}
use Rattle.zre_zmtp.specs.declared.writing.SocketType.TheVariants as socket
use Rattle.zre_zmtp.specs.declared.expected.Expected.TheVariants as expect
use Rattle.zre_zmtp.specs.Ready.{has_name, properties, properties_within, rest, socket_type, identity}
use Rattle.zre_zmtp.specs.Stream.{Want, Any, Router, Dealer, Before, Whole, before, cut, part_len, greeting_fault, item, is_error, is_ready, has_socket, has_identity, is_other, command_fault, body_fault}
use Rattle.zre_zmtp.specs.Run.{Found, with_item, after, run_all}
use Rattle.zre_zmtp.specs.Shown.{header_fault}
use Rattle.zre_zmtp.specs.Written.{own_greeting, ready_body, ready_frame, socket_name}
use Rattle.zre_zmtp.specs.Laws.{IsWanted, handshake, greeting_item, ReadsHandshake}
use Rattle.zre_zmtp.proofs.FaultsStay.{part_len-stays}
use Rattle.zre_zmtp.proofs.WholeFrames.{run_all-some}
use Rattle.zre_zmtp.proofs.FrameFaults.{is_framed, IsFramed}
use Rattle.zre_zmtp.proofs.TurnsOfReaders.{turn_whole, no_octets}
use Rattle.zre_zmtp.proofs.ReadersFollowStreams.{Follows, follows, fault-follows}

-- ---- the greeting

greeting_len : (want : Want) → part_len want (before Whole []) own_greeting ≡ Some 64
unfolding part_len greeting_fault
greeting_len want = refl

greeting_says : item (before Whole []) own_greeting ≡ Some greeting_item
unfolding item
greeting_says = refl

abbrev shaken : Before
shaken = record { expected = expect.Ready; place = 64; opened = []; start = 64 }

greeted : (want : Want) (o : List ℕ) → run_all want (before Whole []) (own_greeting ++ o) ≡ with_item (Some greeting_item) (run_all want shaken o)
greeted want o =
    run_all-some want (before Whole []) (own_greeting ++ o) 64 (part_len-stays want (before Whole []) own_greeting o 64 (greeting_len want))
    ∙ ap (λ (p : List ℕ). with_item (item (before Whole []) p) (run_all want (after (before Whole []) p) (drop 64 (own_greeting ++ o)))) (take_at own_greeting o 64 refl)
    ∙ ap (λ (r : List ℕ). with_item (item (before Whole []) own_greeting) (run_all want (after (before Whole []) own_greeting) r)) (drop_at own_greeting o 64 refl)
    ∙ ap (λ i. with_item i (run_all want shaken o)) greeting_says

-- ---- READY

-- what is asked of its body
pub record IsReadyBody (kind : SocketType) (identity_is : Option (List ℕ)) (o : List ℕ) : Type 0 where
  pub named : has_name o ≡ true
  pub no_error : is_error o ≡ false
  pub ready : is_ready o ≡ true
  pub listed : is_some (properties (rest o)) ≡ true
  pub socket : socket_type o ≡ Some (socket_name kind)
  pub identity : identity o ≡ identity_is

plain_body : (kind : SocketType) → IsReadyBody kind None (ready_body kind None)
unfolding properties_within
plain_body socket.Dealer = record { named = refl; no_error = refl; ready = refl; listed = refl; socket = refl; identity = refl }
plain_body socket.Router = record { named = refl; no_error = refl; ready = refl; listed = refl; socket = refl; identity = refl }

own_body : (kind : SocketType) (l : List ℕ) → length l ≡ 16 → IsReadyBody kind (Some (1 ∷ l)) (ready_body kind (Some (record { 0 = l })))
unfolding properties_within
own_body socket.Dealer (x0 ∷ x1 ∷ x2 ∷ x3 ∷ x4 ∷ x5 ∷ x6 ∷ x7 ∷ x8 ∷ x9 ∷ x10 ∷ x11 ∷ x12 ∷ x13 ∷ x14 ∷ x15 ∷ []) e = record { named = refl; no_error = refl; ready = refl; listed = refl; socket = refl; identity = refl }
own_body socket.Router (x0 ∷ x1 ∷ x2 ∷ x3 ∷ x4 ∷ x5 ∷ x6 ∷ x7 ∷ x8 ∷ x9 ∷ x10 ∷ x11 ∷ x12 ∷ x13 ∷ x14 ∷ x15 ∷ []) e = record { named = refl; no_error = refl; ready = refl; listed = refl; socket = refl; identity = refl }
own_body kind l e = absurd (omega (arith, e))

own_len : (kind : SocketType) (l : List ℕ) → length l ≡ 16 → length (ready_body kind (Some (record { 0 = l }))) < 256
own_len socket.Dealer l e = omega (arith, e)
own_len socket.Router l e = omega (arith, e)

-- what is found, by its parts
found_is : (f : Found) (given : List Item) (b : Before) → f.given ≡ given → f.before ≡ b → f.left ≡ [] → f ≡ record { given = given; before = b; left = [] }
found_is f given b p q r =
    ap (λ is. let x : Found = record { given = is; before = f.before; left = f.left } in x) p
    ∙ ap (λ y. let x : Found = record { given = given; before = y; left = f.left } in x) q
    ∙ ap (λ l. let x : Found = record { given = given; before = b; left = l } in x) r

not_equal : (a b : List ℕ) → a ≢ b → bytes_eq a b ≡ false
not_equal a b h =
    elim (cases_Bool (bytes_eq a b)) [
      | inl t ↦ absurd (h ((bytes_eq-Decides a b).0 t))
      | inr f ↦ f
    ]

wanted_socket : (want : Want) (kind : SocketType) (identity_of : Option PeerId) (o : List ℕ) → IsWanted want kind identity_of → socket_type o ≡ Some (socket_name kind) → has_socket want o ≡ true
wanted_socket Any kind id o w e = refl
wanted_socket Router socket.Router id o w e = rw e refl
wanted_socket Router socket.Dealer id o w e = absurd cc
wanted_socket (Dealer own) socket.Dealer id o w e = rw e refl
wanted_socket (Dealer own) socket.Router id o w e = absurd (let k = w.0 in cc)

other_identity : (own id o : List ℕ) → length id ≡ 16 → id ≢ own → identity o ≡ Some (1 ∷ id) → is_other own (identity o) ≡ true
other_identity own id o len other e = rw (e, len, not_equal id own other) refl

wanted_identity : (want : Want) (kind : SocketType) (identity_of : Option PeerId) (o : List ℕ) → IfSome identity_of (λ id. length id.0 ≡ 16) → IsWanted want kind identity_of
    → identity o ≡ option_map (λ id. 1 ∷ id.0) identity_of → has_identity want o ≡ true
wanted_identity Any kind id o len w e = refl
wanted_identity Router kind id o len w e = refl
wanted_identity (Dealer own) kind None o len w e = absurd w.1
wanted_identity (Dealer own) kind (Some id) o len w e = other_identity own.0 id.0 o len w.1 e

no_fault : (want : Want) (o : List ℕ) → has_name o ≡ true → is_error o ≡ false → is_ready o ≡ true → is_some (properties (rest o)) ≡ true → has_socket want o ≡ true → has_identity want o ≡ true
    → command_fault want expect.Ready o ≡ None
no_fault want o named no_error ready listed socket identity = rw (named, no_error, ready, listed, socket, identity) refl

body_of : (kind : SocketType) (identity_of : Option PeerId) → IfSome identity_of (λ id. length id.0 ≡ 16) → IsReadyBody kind (option_map (λ id. 1 ∷ id.0) identity_of) (ready_body kind identity_of)
body_of kind None len = plain_body kind
body_of kind (Some id) len = own_body kind id.0 len

-- the body is short
body_len : (kind : SocketType) (identity_of : Option PeerId) → IfSome identity_of (λ id. length id.0 ≡ 16) → length (ready_body kind identity_of) < 256
body_len socket.Dealer None len = omega arith
body_len socket.Router None len = omega arith
body_len socket.Dealer (Some id) len = own_len socket.Dealer id.0 len
body_len socket.Router (Some id) len = own_len socket.Router id.0 len

short_frame : (o : List ℕ) → length o < 256 → frame 4 o ≡ 4 ∷ length o ∷ o
short_frame o lt = rw (lt-ltb (length o) 256 lt) refl

-- the header of a short command
short_header : (o : List ℕ) → length o < 256 → header_fault shaken (4 ∷ length o ∷ []) ≡ None
short_header o lt = rw (le-ltb COMMAND_OCTETS (length o) (omega (arith, lt))) refl

-- READY is read, and the first message awaited
ready_read : (want : Want) (kind : SocketType) (identity_of : Option PeerId) → IfSome identity_of (λ id. length id.0 ≡ 16) → IsWanted want kind identity_of
    → let o = ready_frame kind identity_of in
    let end = 64 + length o in
    run_all want shaken o ≡ record {
      given = record { start = 64; end = end; what = Ready (length (ready_body kind identity_of)) (Some (socket_name kind)) (option_map (λ id. 1 ∷ id.0) identity_of) } ∷ [];
      before = record { expected = expect.Traffic; place = end; opened = []; start = end };
      left = [];
    }
ready_read want kind id len wanted =
    let o = ready_body kind id in
    let is = body_of kind id len in
    let lt = body_len kind id len in
    let head : List ℕ = 4 ∷ length o ∷ [] in
    let said : Header = record { flags = 4; size = length o } in
    let framed : IsFramed want shaken said o (head ++ o) (2 + length o) = is_framed want shaken said head o (λ e. absurd cc) refl (omega arith) refl (short_header o lt) in
    let fine : body_fault want shaken 4 o ≡ None = no_fault want o is.named is.no_error is.ready is.listed (wanted_socket want kind id o wanted is.socket) (wanted_identity want kind id o len wanted is.identity) in
    let whole : ready_frame kind id ≡ head ++ o = short_frame o lt in
    let size : length (ready_frame kind id) ≡ 2 + length o = (let l : length (ready_frame kind id) ≡ length (head ++ o) = ap length whole in omega (arith, l)) in
    let says : item shaken (head ++ o) ≡ Some (record { start = 64; end = 64 + length (ready_frame kind id); what = Ready (length o) (Some (socket_name kind)) (option_map (λ x. 1 ∷ x.0) id) }) =
    framed.item
    ∙ ap (λ s. let i : Item = record { start = 64; end = 64 + (2 + length o); what = Ready (length o) s (identity o) } in Some i) is.socket
    ∙ ap (λ s. let i : Item = record { start = 64; end = 64 + (2 + length o); what = Ready (length o) (Some (socket_name kind)) s } in Some i) is.identity
    ∙ ap (λ n. let i : Item = record { start = 64; end = 64 + n; what = Ready (length o) (Some (socket_name kind)) (option_map (λ x. 1 ∷ x.0) id) } in Some i) (sym size) in
    let later : after shaken (head ++ o) ≡ record { expected = expect.Traffic; place = 64 + length (ready_frame kind id); opened = []; start = 64 + length (ready_frame kind id) } =
    framed.after ∙ ap (λ n. let b : Before = record { expected = expect.Traffic; place = 64 + n; opened = []; start = 64 + n } in b) (sym size) in
    let a = turn_whole want shaken (head ++ o) [] (option_to_list (item shaken (head ++ o))) (after shaken (head ++ o)) [] (framed.fault ∙ ap (λ x. option_map (λ reason. record { why = reason; place = 64 }) x) fine) framed.whole refl refl refl in
    ap (λ (l : List ℕ). run_all want shaken l) whole
    ∙ found_is (run_all want shaken (head ++ o)) _ _ (sym a.reads.given ∙ ap (λ i. option_to_list i) says) (sym a.reads.before ∙ later) (sym a.reads.left)

pub handshake_is_read : (want : Want) (kind : SocketType) (identity_of : Option PeerId) → IfSome identity_of (λ id. length id.0 ≡ 16) → IsWanted want kind identity_of → ReadsHandshake want kind identity_of
unfolding cut
handshake_is_read want kind id len wanted =
    let o = handshake kind id in
    let end = 64 + length (ready_frame kind id) in
    let b : Before = record { expected = expect.Traffic; place = end; opened = []; start = end } in
    let item_at : ℕ → Item = λ n. record { start = 64; end = n; what = Ready (length (ready_body kind id)) (Some (socket_name kind)) (option_map (λ x. 1 ∷ x.0) id) } in
    let found : run_all want (before Whole []) o ≡ record { given = greeting_item ∷ item_at end ∷ []; before = b; left = [] } = greeted want (ready_frame kind id) ∙ ap (λ f. with_item (Some greeting_item) f) (ready_read want kind id len wanted) in
    let f : Follows want Whole [] o (record { given = greeting_item ∷ item_at end ∷ []; before = b; left = [] }) = subst (λ (y : Found). Follows want Whole [] o y) found (follows want Whole [] o) in
    let size : end ≡ length o = sym (length-append own_greeting (ready_frame kind id)) in
    record {
      read = f.all ∙ ap (λ n. greeting_item ∷ item_at n ∷ []) size;
      awaits = record {
        at_rest = record { nothing_left = sym f.left; nothing_open = sym (ap (λ (x : Before). x.opened) f.before) };
        faultless = sym (fault-follows want Whole [] o _ f) ∙ no_octets want expect.Traffic b;
        in_traffic = sym (ap (λ (x : Before). x.expected) f.before);
      };
    }
