-- The octets that a network counts.
use Rattle.std.proofs.Common.{◌≡◌, ℕ, suc, ◌+◌, ◌&&◌, leb, List, [], ◌∷◌, length, map, Some, refl, sym, ap, ◌∙◌, arith}
use Rattle.std.specs.Prelude.{sum_by, slice_get}
use Rattle.std.specs.Option.{option_map_or}
use Rattle.std.proofs.lemmas.List.Concat.{length-flat_map}
use Rattle.std.proofs.lemmas.List.Sums.{sum_by-cons}
use Rattle.zre_msg.specs.declared.message.Message.{Message}
use Rattle.zre_msg.specs.Spelling.{octets}
use Rattle.zre_values.specs.declared.settings.Settings.{Settings as Config}
use Rattle.zre_journal.specs.Chronicle.{Mark}
use Rattle.zre_journal.specs.Links.{queued}
use Rattle.zre_net.specs.declared.limits.TheConstants.{QUEUED_OCTETS, PENDING_OCTETS}
use Rattle.zre_net.specs.Lines.{Line}
use Rattle.zre_net.specs.declared.running.network.Network.{Network}
use Rattle.zre_net.specs.declared.running.rows.Started.{Started}
use Rattle.zre_net.specs.declared.running.rows.Carrier.{Carrier}
use Rattle.zre_net.specs.Carried.{pending}
use Rattle.zre_net.specs.Grammar.{octets_on, octets_put, queued_octets, pending_octets, has_room}
use Rattle.zre_net.specs.History.{Incarnation, Happening, incarnations, chronicle_of}
use Rattle.zre_net.specs.Lines.{message_octets, octets_in}
use Rattle.zre_net.specs.Lists.{nth, numbers_from}
use Rattle.zre_net.specs.Numbers.{CarriedConn, conns}
use Rattle.zre_net.specs.Running.{StandsAfter}
use Rattle.zre_net.specs.Sender.{Keeps, spelled}
use Rattle.zre_net.proofs.ListsCountedFromOne.{sum_same}

sum-mapped : (ms : List Message) → sum_by (λ o. length o) (map octets ms) ≡ sum_by (λ m. length (octets m)) ms
sum-mapped [] = refl
sum-mapped (m ∷ ms) =
    let a = sum_by-cons (λ (o : List ℕ). length o) (octets m) (map octets ms) in
    let b = sum_by-cons (λ m. length (octets m)) m ms in
    let r = sum-mapped ms in
    omega (arith, a, b, r)

spelled_octets : (l : ℕ) (K : List Mark) → sum_by (λ o. length o) (spelled l K) ≡ octets_on K l
spelled_octets l K = sum-mapped (queued l K) ∙ sym (length-flat_map octets (queued l K))

numbered : (f : ℕ → ℕ) (k : ℕ) (lines : List Line) → ((j : ℕ) (x : Line) → slice_get lines j ≡ Some x → message_octets x ≡ f (k + j)) → sum_by message_octets lines ≡ sum_by f (numbers_from k (length lines))
numbered f k [] a = refl
numbered f k (x ∷ xs) a =
    let first : k + 0 ≡ k = omega arith in
    let h = a 0 x refl ∙ ap f first in
    let r = numbered f (k + 1) xs (λ j y e. a (suc j) y e ∙ ap f (later j)) in
    let b = sum_by-cons message_octets x xs in
    let c = sum_by-cons f k (numbers_from (k + 1) (length xs)) in
    omega (arith, h, r, b, c)
  where
    later : (j : ℕ) → k + suc j ≡ k + 1 + j
    later j = omega arith

pub kept_octets : (g : Config) (K : List Mark) (h : ℕ) (lines : List Line) → Keeps g K h lines → octets_in lines ≡ octets_put K
kept_octets g K h lines k = numbered (octets_on K) 1 lines at ∙ ap (λ n. sum_by (octets_on K) (numbers_from 1 n)) k.count
  where
    at : (j : ℕ) (x : Line) → slice_get lines j ≡ Some x → message_octets x ≡ octets_on K (1 + j)
    at j x e =
        let place : suc j ≡ 1 + j = omega arith in
        ap (λ ms. sum_by (λ (o : List ℕ). length o) ms) (sym (ap (λ o. option_map_or (λ (y : Line). y.messages) o []) e) ∙ k.messages_are (suc j)) ∙ spelled_octets (suc j) K ∙ ap (octets_on K) place

module _ (H : List Happening) (net : Network) (s : StandsAfter H net) where
  pub queued_same : net.queued ≡ queued_octets H
  queued_same = s.nodes.queued ∙ sym (sum_same (λ (a : Incarnation). octets_put (chronicle_of a H)) (λ (x : Started). octets_in x.sender.lines) (incarnations H) net.started.items s.nodes.started.count at)
    where
      at : (k : ℕ) (a : Incarnation) → nth k (incarnations H) ≡ Some a → (x : Started) × (nth k net.started.items ≡ Some x) × (octets_put (chronicle_of a H) ≡ octets_in x.sender.lines)
      at k a e =
          let h = s.nodes.started.each k a e in
          (h.row, h.there, sym (kept_octets a.settings (chronicle_of a H) h.row.sender.handshake h.row.sender.lines h.is.sent.keeps))

  pub pending_same : net.pending ≡ pending_octets H
  pending_same = s.pending_is ∙ sym (sum_same (λ (c : CarriedConn). length (pending c.number H)) (λ (y : Carrier). length y.waiting) (conns H) net.conns.items s.conns_are.count at)
    where
      at : (x : ℕ) (c : CarriedConn) → nth x (conns H) ≡ Some c → (y : Carrier) × (nth x net.conns.items ≡ Some y) × (length (pending c.number H) ≡ length y.waiting)
      at x c e =
          let h = s.conns_are.each x c e in
          (h.row, h.there, ap (λ o. length o) (sym h.is.waits))

  pub room_same : (leb net.queued QUEUED_OCTETS && leb net.pending PENDING_OCTETS) ≡ has_room H
  room_same = ap (λ n. leb n QUEUED_OCTETS && leb net.pending PENDING_OCTETS) queued_same ∙ ap (λ n. leb (queued_octets H) QUEUED_OCTETS && leb n PENDING_OCTETS) pending_same
