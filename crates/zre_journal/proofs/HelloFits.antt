-- HELLO of valid settings is short.
use Rattle.std.proofs.Common.{◌≡◌, ℕ, ◌+◌, ◌*◌, ◌<◌, ◌≤◌, ◌^◌, Bool, true, false, cond, ltb, leb, suc, List, [], ◌∷◌, ◌++◌, length, get_or, Some, ap, arith}
use Rattle.std.specs.List.{AllByRecursion, flat_map, list_all}
use Rattle.std.specs.Int.{w64, to_be_bytes}
use Rattle.std.proofs.lemmas.Bool.{and_parts, leb-true, ltb-true}
use Rattle.std.proofs.lemmas.List.{length-append}
use Rattle.std.proofs.lemmas.List.Concat.{flat_map-cons}
use Rattle.std.proofs.lemmas.List.Elements.{All-from_recursion, All-weaker}
use Rattle.std.proofs.lemmas.List.Sums.{AllPass-from_list_all}
use Rattle.zre_values.specs.declared.peer_id.PeerId.{PeerId}
use Rattle.zre_values.specs.declared.limits.TheConstants.{HEADERS, GROUP_OCTETS, OWN_GROUPS}
use Rattle.zre_values.specs.Address.{IsAddress}
use Rattle.zre_values.specs.Framing.{frame}
use Rattle.zre_values.proofs.Endpoints.{endpoint_text-short}
use Rattle.zre_zmtp.specs.declared.writing.SocketType.TheVariants as socket
use Rattle.zre_zmtp.specs.Written.{own_greeting, ready_body, ready_frame}
use Rattle.zre_zmtp.specs.Laws.{handshake}
use Rattle.zre_msg.specs.declared.message.Body.TheVariants as body
use Rattle.zre_msg.specs.declared.message.Message.{Message}
use Rattle.zre_msg.specs.Spelling.{string, long_string, strings, pair, dictionary, fields, first_frame, octets, FitsLong, FitsBody}
use Rattle.zre_link.specs.Text.{text_of}
use Rattle.zre_values.specs.declared.settings.Settings.{Settings as Config}
use Rattle.zre_journal.specs.Chronicle.{Mark}
use Rattle.zre_journal.specs.Config.{own_endpoint}
use Rattle.zre_values.specs.Settings.{is_valid}
use Rattle.zre_values.specs.Settings.{is_fitting}
use Rattle.zre_journal.specs.Links.{groups, status}
use Rattle.zre_journal.specs.Pushes.{hello}
use Rattle.zre_journal.specs.Introducing.{Introduces}

-- ---- frames
short_by : (b : Bool) (flags : ℕ) (octets_ : List ℕ) → length (cond b (flags ∷ length octets_ ∷ octets_) (suc (suc flags) ∷ (to_be_bytes w64 (length octets_) ++ octets_))) ≤ length octets_ + 9
short_by true flags o = omega arith
short_by false flags o = omega arith

-- a frame adds at most nine octets
frame-short : (flags : ℕ) (o : List ℕ) → length (frame flags o) ≤ length o + 9
frame-short flags o = short_by (ltb (length o) 256) flags o

-- ---- lists of strings and dictionaries
strings-short : (gs : List (List ℕ)) → AllByRecursion (λ group. length group ≤ GROUP_OCTETS) gs → length (flat_map long_string gs) ≤ length gs * 259
strings-short [] fit = omega arith
strings-short (g ∷ gs) fit =
    omega (arith, fit.0, strings-short gs fit.1, ap (length {A = ℕ}) (flat_map-cons long_string g gs), length-append (long_string g) (flat_map long_string gs))

pub fitting : (h : List ℕ × List ℕ) → is_fitting h ≡ true → (length h.0 ≤ 255) × (length h.1 ≤ 1024)
fitting h e =
    let p = and_parts (leb (length h.0) 255) (leb (length h.1) 1024) e in
    (leb-true _ _ p.0, leb-true _ _ p.1)

pair-short : (h : List ℕ × List ℕ) → is_fitting h ≡ true → length (pair h) ≤ 1284
pair-short h e =
    let p = fitting h e in
    omega (arith, p.0, p.1, length-append (string h.0) (long_string h.1))

pairs-short : (hs : List (List ℕ × List ℕ)) → list_all is_fitting hs ≡ true → length (flat_map pair hs) ≤ length hs * 1284
pairs-short [] fit = omega arith
pairs-short (h ∷ hs) fit =
    let p = and_parts (is_fitting h) (list_all is_fitting hs) fit in
    omega (arith, pair-short h p.0, pairs-short hs p.1, ap (length {A = ℕ}) (flat_map-cons pair h hs), length-append (pair h) (flat_map pair hs))

-- ---- settings
-- the node is valid and has a place, and its groups are within the limits.
pub record CanIntroduce (g : Config) (H : List Mark) : Type 0 where
  pub valid : is_valid g ≡ true
  pub sixteen : length g.id.0 ≡ 16
  pub host_is : IsAddress g.host
  pub port_fits : g.port < 2 ^ 16
  pub groups_fit : AllByRecursion (λ group. length group ≤ GROUP_OCTETS) (groups H)
  pub few_groups : length (groups H) ≤ OWN_GROUPS

-- what valid settings say of HELLO
pub record AreSmall (g : Config) : Type 0 where
  pub name : length g.name ≤ 255
  pub few : length g.headers ≤ HEADERS
  pub fit : list_all is_fitting g.headers ≡ true
  pub port_is_some : 0 < g.port

pub small : (g : Config) → is_valid g ≡ true → AreSmall g
small g valid =
    let p = and_parts _ _ (and_parts _ _ (and_parts _ _ (and_parts _ _ valid).0).0).0 in
    let q = and_parts _ _ (and_parts _ _ p.0).0 in
    let r = and_parts _ _ q.0 in
    record { name = leb-true _ _ r.0; few = leb-true _ _ r.1; fit = q.1; port_is_some = ltb-true _ _ p.1 }

endpoint-short : (g : Config) → IsAddress g.host → 0 < g.port → g.port < 2 ^ 16 → length (own_endpoint g) ≤ 27
endpoint-short g addr some fits = endpoint_text-short (record { addr = g.host; port = g.port }) (record { address = addr; port_is_some = some; port_fits = fits })

-- ---- HELLO
hello-fits : (g : Config) (H : List Mark) → CanIntroduce g H → FitsBody (hello g H)
hello-fits g H can =
    let is = small g can.valid in
    let endpoint = endpoint-short g can.host_is is.port_is_some can.port_fits in
    record {
      endpoint_fits = omega (arith, endpoint);
      group_count = omega (arith, can.few_groups);
      groups_fit = All-weaker (λ group. length group ≤ 255) FitsLong (λ group le. omega (arith, le)) (groups H) (All-from_recursion (λ group. length group ≤ 255) (groups H) can.groups_fit);
      name_fits = omega (arith, is.name);
      header_count = omega (arith, is.few);
      headers_fit = λ k d lt.
          (let p = fitting (get_or g.headers k d) (AllPass-from_list_all is_fitting g.headers is.fit k d lt) in
          (omega (arith, p.0), omega (arith, p.1)));
    }

hello-length : (endpoint : List ℕ) (gs : List (List ℕ)) (number : ℕ) (name : List ℕ) (hs : List (List ℕ × List ℕ)) →
    length (fields (body.Hello endpoint gs number name hs)) ≡ length endpoint + length (flat_map long_string gs) + length name + length (flat_map pair hs) + 11
hello-length endpoint gs number name hs =
    omega (arith, length-append (string endpoint) (strings gs ++ (number ∷ (string name ++ dictionary hs))), length-append (strings gs) (number ∷ (string name ++ dictionary hs)), length-append (string name) (dictionary hs))

hello-short : (g : Config) (H : List Mark) → CanIntroduce g H → length (octets (record { sequence = 1; body = hello g H })) ≤ 600000
hello-short g H can =
    let is = small g can.valid in
    let m : Message = record { sequence = 1; body = hello g H } in
    omega (arith, is.name, is.few, can.few_groups, endpoint-short g can.host_is is.port_is_some can.port_fits, strings-short (groups H) can.groups_fit, pairs-short g.headers is.fit, hello-length (own_endpoint g) (groups H) (status H) g.name g.headers, frame-short 0 (first_frame m))

-- ---- a new link
ready-length : (own : PeerId) → length (ready_body socket.Dealer (Some own)) ≡ length own.0 + 42
ready-length own = omega arith

pub new-short : (own : PeerId) → length own.0 ≡ 16 → length (text_of own []) ≤ 200
new-short own sixteen =
    omega (arith, sixteen, ready-length own, frame-short 4 (ready_body socket.Dealer (Some own)), length-append own_greeting (ready_frame socket.Dealer (Some own)), length-append (handshake socket.Dealer (Some own)) [])

pub introduces : (g : Config) (H : List Mark) → CanIntroduce g H → Introduces g H
introduces g H can =
    let short = hello-short g H can in
    record {
      body_fits = hello-fits g H can;
      is_short = omega (arith, short);
      has_room = omega (arith, short, new-short g.id can.sixteen);
    }
