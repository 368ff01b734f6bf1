-- Connections that are fed.
use Rattle.std.proofs.Common.{◌≡◌, ℕ, true, false, List, [], ◌++◌, map, Option, Some, None, refl, sym, ap, ◌∙◌}
use Rattle.zre_values.specs.declared.peer_id.PeerId.{PeerId}
use Rattle.zre_zmtp.specs.Stream.{Whole}
use Rattle.zre_zmtp.specs.declared.want.Want.TheVariants.{Dealer}
use Rattle.zre_zmtp.specs.declared.fault.ZmtpFault.{ZmtpFault}
use Rattle.zre_zmtp.specs.Reading.{IsOver}
use Rattle.zre_zmtp.proofs.ReadersFollowStreams.{is_over}
use Rattle.zre_mailbox.specs.Conn.{ConnHearing, conn_after, is_ignored, is_spent, identity_in, reading, phase_by, held_in, held_of}
use Rattle.zre_mailbox.specs.declared.phase.Phase.TheVariants.{Spent}
use Rattle.zre_zmtp.specs.declared.item.Item.{Item}
use Rattle.zre_zmtp.specs.Reading.{Adds}
use Rattle.zre_mailbox.specs.Conn.{Hears}
use Rattle.zre_mailbox.specs.declared.arrival.Arrival.{Arrival}
use Rattle.zre_mailbox.specs.Talk.{Arrived, arrivals, arrivals_in, fault_in, fault_said, new_arrivals, completed}
use Rattle.zre_mailbox.proofs.TalkGrows.{goes}

pub never_ignored : (own : PeerId) (o : List ℕ) → is_ignored (conn_after own o) ≡ false
never_ignored own o = by (fault_in own o) refl
  where
    by : (f : Option ZmtpFault) → fault_in own o ≡ f → is_ignored (conn_after own o) ≡ false
    by None e = rw e refl
    by (Some f) e = rw e refl

-- after a fault nothing changes, and nothing is completed
pub spent_stays : (own : PeerId) (o more : List ℕ) → is_spent (conn_after own o) ≡ true → (conn_after own (o ++ more) ≡ conn_after own o) × (completed own o more ≡ [])
spent_stays own o more s = by (fault_in own o) refl
  where
    by : (f : Option ZmtpFault) → fault_in own o ≡ f → (conn_after own (o ++ more) ≡ conn_after own o) × (completed own o more ≡ [])
    by None e = let z : false ≡ true = rw e at s in absurd cc
    by (Some f) e =
        let h : IsOver (Dealer own) Whole o = is_over (Dealer own) Whole o f e in
        let later : fault_in own (o ++ more) ≡ Some f = h.fault more ∙ e in
        let same : identity_in (arrivals own (o ++ more)) ≡ identity_in (arrivals own o) = ap (λ is. identity_in (arrivals_in is)) (h.items more) in
        (rw (later, e) (ap (λ (i : Option PeerId). record { phase = Spent; identity = i }) same), ((goes own o more).over f e).1)

-- after a fault nothing is kept
pub kept_refused : (own : PeerId) (o : List ℕ) (f : ZmtpFault) (h : ConnHearing) → h ≡ conn_after own o → fault_in own o ≡ Some f → held_of h ≡ 0
kept_refused own o f h is e = ap held_of is ∙ ap (λ x. held_in (phase_by x (reading (Dealer own) Whole o))) e

-- ---- items

-- what a piece without a fault completes
pub said_fine : (own : PeerId) (o piece : List ℕ) (now : ConnHearing) (start items : List Item) → (fault_in own (o ++ piece) ≡ None) × Adds (Dealer own) Whole o piece start items × Hears own o piece now [] (arrivals_in items)
    → (now ≡ conn_after own (o ++ piece)) × (map (λ (a : Arrival). Arrived a) (arrivals_in items) ++ fault_said None ≡ completed own o piece)
said_fine own o piece now start items h = (
  h.2.now_is,
  ap (λ (l : List Arrival). map (λ (a : Arrival). Arrived a) l ++ fault_said None) h.2.appended
      ∙ ap (λ f. map (λ (a : Arrival). Arrived a) (new_arrivals own o piece) ++ fault_said f) (sym h.0) ∙ sym h.2.completes,
)

-- and one with a fault
pub said_faulty : (own : PeerId) (o piece : List ℕ) (now : ConnHearing) (start items : List Item) (f : ZmtpFault) → (fault_in own (o ++ piece) ≡ Some f) × (Adds (Dealer own) Whole o piece start items × Hears own o piece now [] (arrivals_in items))
    → (now ≡ conn_after own (o ++ piece)) × (map (λ (a : Arrival). Arrived a) (arrivals_in items) ++ fault_said (Some f) ≡ completed own o piece)
said_faulty own o piece now start items f h = (
  h.1.1.now_is,
  ap (λ (l : List Arrival). map (λ (a : Arrival). Arrived a) l ++ fault_said (Some f)) h.1.1.appended
      ∙ ap (λ x. map (λ (a : Arrival). Arrived a) (new_arrivals own o piece) ++ fault_said x) (sym h.0) ∙ sym h.1.1.completes,
)
