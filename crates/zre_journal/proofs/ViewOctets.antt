-- How many octets a view has: those that its HELLO gave, and its groups.
use Rattle.std.proofs.Common.{◌≡◌, ℕ, ◌+◌, ◌*◌, ◌≤◌, Bool, true, false, cond, ◌&&◌, leb, List, [], ◌∷◌, ◌++◌, length, refl, ap, arith}
use Rattle.std.specs.Prelude.{sum_by}
use Rattle.std.specs.List.{fold, list_any, list_all}
use Rattle.std.specs.Str.{bytes_eq}
use Rattle.std.proofs.lemmas.Bool.{and_parts, leb-true}
use Rattle.std.proofs.lemmas.List.Sums.{sum_by-append, sum_by-cons}
use Rattle.zre_values.specs.declared.limits.TheConstants.{MESSAGE_OCTETS, GROUPS, GROUP_OCTETS, HEADERS}
use Rattle.zre_msg.specs.declared.message.Body.{Body}
use Rattle.zre_msg.specs.declared.message.Body.TheVariants.{Hello, Whisper, Shout, Join, Leave, Ping, PingOk, Other}
use Rattle.zre_msg.specs.declared.message.Message.{Message}
use Rattle.zre_peer.specs.declared.view.View.{View}
use Rattle.zre_peer.specs.Members.{with_header}
use Rattle.zre_peer.specs.Runs.{is_hello}
use Rattle.zre_peer.specs.Views.{after, view_of, is_small}
use Rattle.zre_peer.proofs.RunsAfterMessages.{view_of_more}
use Rattle.zre_peer.proofs.LinesAfterHello.{later_keeps}
use Rattle.zre_journal.specs.Held.{header_octets, view_octets}
use Rattle.zre_journal.proofs.HelloOctets.{hello_octets}

-- the name, the endpoint and the headers of a view
abbrev pub name_octets : View → ℕ
name_octets v = length v.name + length v.endpoint + header_octets v.headers

-- a view that a HELLO within the limit of a message gives, with groups within their limits
pub record IsShortView (v : View) : Type 0 where
  pub short : name_octets v ≤ MESSAGE_OCTETS
  pub small : is_small v ≡ true

abbrev pair_octets : List ℕ × List ℕ → ℕ
pair_octets h = length h.0 + length h.1

-- headers without repeats are no more, by any size that adds up
module _ (size : List (List ℕ × List ℕ) → ℕ) (adds_up : (xs ys : List (List ℕ × List ℕ)) → size (xs ++ ys) ≡ size xs + size ys) where
  pub fewer : (done hs : List (List ℕ × List ℕ)) → size (fold with_header done hs) ≤ size done + size hs
  fewer done [] = omega arith
  fewer done (h ∷ hs) = by (fewer done hs) (fewer (done ++ h ∷ []) hs) (list_any (λ pair. bytes_eq pair.0 h.0) done)
    where
      by : size (fold with_header done hs) ≤ size done + size hs → size (fold with_header (done ++ h ∷ []) hs) ≤ size (done ++ h ∷ []) + size hs
          → (t : Bool) → size (fold with_header (cond t done (done ++ h ∷ [])) hs) ≤ size done + size (h ∷ hs)
      by r s true = omega (arith, r, adds_up (h ∷ []) hs)
      by r s false = omega (arith, s, adds_up done (h ∷ []), adds_up (h ∷ []) hs)

hello_gives : (v : View) (b : Body) → is_hello b ≡ true → name_octets (after v b) ≤ hello_octets b
hello_gives v (Hello endpoint groups status name headers) h = omega (arith, fewer header_octets (sum_by-append pair_octets) [] headers)
hello_gives v (Whisper content) h = absurd cc
hello_gives v (Shout group content) h = absurd cc
hello_gives v (Join group status) h = absurd cc
hello_gives v (Leave group status) h = absurd cc
hello_gives v Ping h = absurd cc
hello_gives v PingOk h = absurd cc
hello_gives v (Other number rest more) h = absurd cc

others_keep : (v : View) (b : Body) → is_hello b ≡ false → name_octets (after v b) ≡ name_octets v
others_keep v b h = let k = later_keeps v b h in rw (k.0, k.1, k.2) refl

pub first-short : (m : Message) → is_hello m.body ≡ true → is_small (view_of (m ∷ [])) ≡ true → hello_octets m.body ≤ MESSAGE_OCTETS → IsShortView (view_of (m ∷ []))
first-short m h small le = record {
  short = let is : name_octets (view_of (m ∷ [])) ≡ name_octets (after (view_of []) m.body) = ap name_octets (view_of_more [] m) in omega (arith, is, hello_gives (view_of []) m.body h, le);
  small = small;
}

pub later-short : (ms : List Message) (m : Message) → is_hello m.body ≡ false → is_small (view_of (ms ++ m ∷ [])) ≡ true → IsShortView (view_of ms) → IsShortView (view_of (ms ++ m ∷ []))
later-short ms m h small was = record {
  short = let is : name_octets (view_of (ms ++ m ∷ [])) ≡ name_octets (after (view_of ms) m.body) = ap name_octets (view_of_more ms m) in omega (arith, is, others_keep (view_of ms) m.body h, was.short);
  small = small;
}

pub blank-short : IsShortView (view_of [])
unfolding view_of is_small
blank-short = record { short = omega arith; small = refl }

short_groups : (gs : List (List ℕ)) → list_all (λ g. leb (length g) GROUP_OCTETS) gs ≡ true → sum_by length gs ≤ length gs * 255
short_groups [] h = omega arith
short_groups (g ∷ gs) h =
    let p = and_parts (leb (length g) GROUP_OCTETS) (list_all (λ x. leb (length x) GROUP_OCTETS) gs) h in
    omega (arith, leb-true _ _ p.0, short_groups gs p.1, sum_by-cons length g gs)

pub view-most : (v : View) → IsShortView v → view_octets v ≤ 1309696
unfolding is_small
view-most v s =
    let groups = leb (length v.groups) GROUPS in
    let named = list_all (λ g. leb (length g) GROUP_OCTETS) v.groups in
    let p = and_parts (groups && named) (leb (length v.headers) HEADERS) s.small in
    let q = and_parts groups named p.0 in
    omega (arith, s.short, leb-true _ _ q.0, short_groups v.groups q.1)
