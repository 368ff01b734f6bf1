-- What more octets of a connection complete.
use Rattle.std.proofs.Common.{◌≡◌, ℕ, Bool, true, false, ◌||◌, List, [], ◌∷◌, ◌++◌, length, map, Option, Some, None, refl, sym, ap, ◌∙◌, arith, append-nil, true≢false}
use Rattle.zre_values.specs.declared.peer_id.PeerId.{PeerId}
use Rattle.zre_zmtp.specs.Reading.{IsOver}
use Rattle.zre_zmtp.specs.Stream.{Whole}
use Rattle.zre_zmtp.specs.declared.want.Want.TheVariants.{Dealer}
use Rattle.zre_zmtp.specs.declared.fault.ZmtpFault.{ZmtpFault}
use Rattle.zre_zmtp.proofs.ReadersFollowStreams.{is_over}
use Rattle.zre_mailbox.specs.Conn.{ConnHearing, conn_after, phase_by, reading, identity_in, is_spent, is_ignored, is_spent_in, Hears}
use Rattle.zre_mailbox.specs.Talk.{Arrived, arrivals, arrivals_in, fault_in, fault_said, new_arrivals, completed}
use Rattle.zre_mailbox.specs.declared.arrival.Arrival.{Arrival}
use Rattle.zre_mailbox.proofs.TalkGrows.{goes}
use Rattle.zre_tables.proofs.FedConnections.{never_ignored}

spent_fault : (own : PeerId) (o : List ℕ) → is_spent (conn_after own o) ≡ true → (f : ZmtpFault) × (fault_in own o ≡ Some f)
spent_fault own o s = by (fault_in own o) refl s
  where
    by : (f : Option ZmtpFault) → fault_in own o ≡ f → is_spent_in (phase_by f (reading (Dealer own) Whole o)) ≡ true → (x : ZmtpFault) × (fault_in own o ≡ Some x)
    by None e z = absurd (true≢false (sym z))
    by (Some f) e z = (f, e)

record Ended (own : PeerId) (o more : List ℕ) : Type 0 where
  pub none : completed own o more ≡ []
  pub same : conn_after own (o ++ more) ≡ conn_after own o

ended : (own : PeerId) (o more : List ℕ) (f : ZmtpFault) → fault_in own o ≡ Some f → Ended own o more
ended own o more f e =
    let h : IsOver (Dealer own) Whole o = is_over (Dealer own) Whole o f e in
    let stays : fault_in own (o ++ more) ≡ Some f = h.fault more ∙ e in record {
      none = ((goes own o more).over f e).1;
      same = ap (λ x. record { phase = phase_by x (reading (Dealer own) Whole (o ++ more)); identity = identity_in (arrivals own (o ++ more)) }) stays
          ∙ ap (λ is. record { phase = phase_by (Some f) (reading (Dealer own) Whole o); identity = identity_in (arrivals_in is) }) (h.items more)
          ∙ ap (λ x. record { phase = phase_by x (reading (Dealer own) Whole o); identity = identity_in (arrivals own o) }) (sym e);
    }

-- nothing comes after a fault
pub deaf : (own : PeerId) (o more : List ℕ) (h : ConnHearing) (b c : Bool) → h ≡ conn_after own o → b ≡ is_ignored h → c ≡ is_spent h → (b || c) ≡ true → (0 ≡ length (completed own o more)) × (h ≡ conn_after own (o ++ more))
deaf own o more h true c e i s z = absurd (true≢false (i ∙ ap is_ignored e ∙ never_ignored own o))
deaf own o more h false true e i s z =
    let f = spent_fault own o (sym (s ∙ ap is_spent e)) in
    let d = ended own o more f.0 f.1 in
    (ap (λ xs. length xs) (sym d.none), e ∙ sym d.same)
deaf own o more h false false e i s z = absurd (true≢false (sym z))

mapped : (as_ : List Arrival) → length (map (λ a. Arrived a) as_) ≡ length as_
mapped [] = refl
mapped (a ∷ as_) = let r = mapped as_ in omega (arith, r)

pub heard : (own : PeerId) (o more : List ℕ) (now : ConnHearing) (out out' : List Arrival) → out ≡ [] → fault_in own (o ++ more) ≡ None → Hears own o more now out out' → length out' ≡ length (completed own o more)
heard own o more now out out' e n h =
    ap (λ as_. length as_) (h.appended ∙ ap (λ as_. as_ ++ new_arrivals own o more) e) ∙ sym (mapped (new_arrivals own o more))
    ∙ ap (λ xs. length xs) (sym (h.completes ∙ ap (λ f. map (λ a. Arrived a) (new_arrivals own o more) ++ fault_said f) n ∙ append-nil (map (λ a. Arrived a) (new_arrivals own o more))))
