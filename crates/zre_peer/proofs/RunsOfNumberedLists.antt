-- A sender's numbered list, of which some messages come: what a run makes of them.
use Rattle.std.proofs.Common.{◌≡◌, ◌≢◌, ℕ, suc, ◌+◌, ◌-◌, ◌%◌, ◌<◌, Bool, true, false, cond, not, ◌&&◌, eqb, List, [], ◌∷◌, ◌++◌, length, take, drop, Some, Result, Ok, Err, OnOk, IfErr, slice_get, refl, sym, ap, ◌∙◌, subst, arith, eq-eqb, eqb-true}
use Rattle.std.proofs.lemmas.Bool.{and_parts, eqb-false, ne_eqb}
use Rattle.std.proofs.lemmas.List.{length-append, drop_more}
use Rattle.std.proofs.lemmas.Option.{slice_get_within, get_or_from_slice_get}
use Rattle.std.specs.List.{range_with_len}
use Rattle.zre_msg.specs.declared.message.Message.{Message}
use Rattle.zre_peer.specs.declared.peer_run.RunFault.{RunFault}
use Rattle.zre_peer.specs.declared.peer_run.RunFault.TheVariants as faults
use Rattle.zre_peer.specs.Ledger.{IsNumbered, IsPicked, IsNear, ArePicked, AreNear, Follows, KeepsItsList}
use Rattle.zre_peer.specs.Runs.{due, fault_of, is_hello, may_follow, in_order, in_order_after}
use Rattle.zre_peer.specs.Views.{view_of, is_small}

-- two places fewer than 65536 apart have different numbers
pub apart : (p q : ℕ) → p ≢ q → p < q + 65536 → q < p + 65536 → p % 65536 ≢ q % 65536
apart p q ne l m e = ne (omega (arith, l, m, e))

-- what a message says by its place
pub number_at : (sent : List Message) (pick : ℕ) (m : Message) → IsNumbered sent → IsPicked sent pick m → (is_hello m.body ≡ eqb pick 1) × (m.sequence ≡ pick % 65536)
number_at sent pick m numbered p =
    let said = numbered (pick - 1) m p.is_there in
    let place : pick - 1 + 1 ≡ pick = omega (arith, p.some) in
    (said.0 ∙ by (eqb pick 1) refl, said.1 ∙ ap (λ k. k % 65536) place)
  where
    by : (b : Bool) → eqb pick 1 ≡ b → eqb (pick - 1) 0 ≡ b
    by true e = let is : pick ≡ 1 = eqb-true pick 1 e in eq-eqb (pick - 1) 0 (omega (arith, is))
    by false e = ne_eqb (pick - 1) 0 (λ z. eqb-false pick 1 e (omega (arith, z, p.some)))

-- as the first one
first_follows : (pick : ℕ) (m : Message) → is_hello m.body ≡ eqb pick 1 → m.sequence ≡ pick % 65536 → Follows [] pick m
first_follows pick m hello number = by (eqb pick 1) refl
  where
    small : Bool
    small = is_small (view_of (m ∷ []))

    by : (b : Bool) → eqb pick 1 ≡ b → Follows [] pick m
    by true e =
        let is : pick ≡ 1 = eqb-true pick 1 e in
        let one : m.sequence ≡ 1 = number ∙ ap (λ k. k % 65536) is in
        record {
          taken = ap (λ b. (b && eqb m.sequence 1) && small) (hello ∙ e) ∙ ap (λ n. (true && eqb n 1) && small) one ∙ ap (λ b. b && small) (sym e);
          another = λ ne. absurd (ne is);
          next = λ _. ap (λ b. cond (b && eqb m.sequence 1) faults.Limit faults.NotHello) (hello ∙ e) ∙ ap (λ n. cond (true && eqb n 1) faults.Limit faults.NotHello) one;
        }
    by false e = record {
      taken = ap (λ b. (b && eqb m.sequence 1) && small) (hello ∙ e) ∙ ap (λ b. b && small) (sym e);
      another = λ ne. ap (λ b. cond (b && eqb m.sequence 1) faults.Limit faults.NotHello) (hello ∙ e);
      next = λ is. absurd (eqb-false pick 1 e is);
    }

-- as a later one
later_follows : (d : Message) (ds : List Message) (pick : ℕ) (m : Message) → is_hello m.body ≡ eqb pick 1 → m.sequence ≡ pick % 65536 → IsNear (length (d ∷ ds)) pick → Follows (d ∷ ds) pick m
later_follows d ds pick m hello number near = by (eqb pick 1) refl (eqb pick (length (d ∷ ds) + 1)) refl
  where
    next : ℕ
    next = length (d ∷ ds) + 1

    small : Bool
    small = is_small (view_of ((d ∷ ds) ++ m ∷ []))

    turn : ℕ
    turn = due (d ∷ ds)

    -- what the tests come to, by their answers
    may : (h n : Bool) → is_hello m.body ≡ h → eqb m.sequence turn ≡ n → may_follow (d ∷ ds) m ≡ ((not h && n) && small)
    may h n e f = ap (λ b. (not b && eqb m.sequence turn) && small) e ∙ ap (λ b. (not h && b) && small) f

    why : (h n : Bool) → is_hello m.body ≡ h → eqb m.sequence turn ≡ n → fault_of (d ∷ ds) m ≡ cond h faults.SecondHello (cond n faults.Limit (faults.Broken turn m.sequence))
    why h n e f = ap (λ b. cond b faults.SecondHello (cond (eqb m.sequence turn) faults.Limit (faults.Broken turn m.sequence))) e
        ∙ ap (λ b. cond h faults.SecondHello (cond b faults.Limit (faults.Broken turn m.sequence))) f

    by : (h : Bool) → eqb pick 1 ≡ h → (b : Bool) → eqb pick next ≡ b → Follows (d ∷ ds) pick m
    by true e b f =
        let is : pick ≡ 1 = eqb-true pick 1 e in
        let no : eqb pick next ≡ false = ne_eqb pick next (λ z. let low : next ≡ length ds + 2 = omega arith in omega (arith, is, z, low)) in
        record {
          taken = may true (eqb m.sequence turn) (hello ∙ e) refl ∙ ap (λ c. c && small) (sym no);
          another = λ _. why true (eqb m.sequence turn) (hello ∙ e) refl ∙ ap (λ c. cond c faults.SecondHello (faults.Broken turn (pick % 65536))) (sym e);
          next = λ z. absurd (eqb-false pick next no z);
        }
    by false e true f =
        let is : pick ≡ next = eqb-true pick next f in
        let same : eqb m.sequence turn ≡ true = eq-eqb m.sequence turn (number ∙ ap (λ k. k % 65536) is) in
        record {
          taken = may false true (hello ∙ e) same ∙ ap (λ c. c && small) (sym f);
          another = λ ne. absurd (ne is);
          next = λ _. why false true (hello ∙ e) same;
        }
    by false e false f =
        let ne : pick ≢ next = eqb-false pick next f in
        let other : eqb m.sequence turn ≡ false = ne_eqb m.sequence turn (λ z. apart pick next ne near.after near.before (sym number ∙ z)) in
        record {
          taken = may false false (hello ∙ e) other ∙ ap (λ c. c && small) (sym f);
          another = λ _. why false false (hello ∙ e) other ∙ ap (λ n. faults.Broken turn n) number ∙ ap (λ c. cond c faults.SecondHello (faults.Broken turn (pick % 65536))) (sym e);
          next = λ z. absurd (ne z);
        }

pub follows : (sent ms : List Message) (pick : ℕ) (m : Message) → IsNumbered sent → IsPicked sent pick m → (0 < length ms → IsNear (length ms) pick) → Follows ms pick m
follows sent [] pick m numbered p near = let n = number_at sent pick m numbered p in first_follows pick m n.0 n.1
follows sent (d ∷ ds) pick m numbered p near = let n = number_at sent pick m numbered p in later_follows d ds pick m n.0 n.1 (near (omega arith))

-- what is left of a list, with the message at a place
left_at : (sent : List Message) (n pick : ℕ) (m : Message) → pick ≡ n + 1 → IsPicked sent pick m → drop n sent ≡ m ∷ drop (n + 1) sent
left_at sent n pick m is p =
    let at : slice_get sent n ≡ Some m = subst (λ k. slice_get sent k ≡ Some m) (let k : pick - 1 ≡ n = omega (arith, is) in k) p.is_there in
    drop_more sent n m (slice_get_within sent n m at) ∙ ap (λ x. x ∷ drop (n + 1) sent) (get_or_from_slice_get sent n m m at)

-- messages in order are the next ones of the list
pub in_turn : (sent done : List Message) (n : ℕ) (picks : List ℕ) (ms : List Message) → length done ≡ n → IsNumbered sent → ArePicked sent picks ms → AreNear n (take (length ms) picks) → in_order_after done ms ≡ true
    → (take (length ms) picks ≡ range_with_len (n + 1) (length ms)) × (take (length ms) (drop n sent) ≡ ms)
in_turn sent done n picks [] len numbered p near o = (refl, refl)
in_turn sent done n [] (m ∷ ms) len numbered p near o = absurd p
in_turn sent done n (pick ∷ picks) (m ∷ ms) len numbered p near o =
    let order = and_parts (may_follow done m) (in_order_after (done ++ m ∷ []) ms) o in
    let it = follows sent done pick m numbered p.0 (subst (λ k. 0 < k → IsNear k pick) (sym len) near.0) in
    let next = and_parts (eqb pick (length done + 1)) (is_small (view_of (done ++ m ∷ []))) (sym it.taken ∙ order.0) in
    let is : pick ≡ n + 1 = eqb-true pick (length done + 1) next.0 ∙ ap (λ k. k + 1) len in
    let more : length (done ++ m ∷ []) ≡ n + 1 = length-append done (m ∷ []) ∙ ap (λ k. k + 1) len in
    let rest = in_turn sent (done ++ m ∷ []) (n + 1) picks ms more numbered p.1 near.1 order.1 in (
      ap (λ k. k ∷ take (length ms) picks) is ∙ ap (λ ks. (n + 1) ∷ ks) rest.0,
      ap (take (length (m ∷ ms))) (left_at sent n pick m is p.0) ∙ ap (λ xs. m ∷ xs) rest.1,
    )

-- the last of some messages is at the place for it
last_picked : (sent : List Message) (picks : List ℕ) (ms : List Message) (m : Message) (pick : ℕ) → ArePicked sent picks (ms ++ m ∷ []) → slice_get picks (length ms) ≡ Some pick → IsPicked sent pick m
last_picked sent [] [] m pick p at = absurd p
last_picked sent (k ∷ picks) [] m pick p at = let is : k ≡ pick = cc in subst (λ j. IsPicked sent j m) is p.0
last_picked sent [] (n ∷ ms) m pick p at = absurd p
last_picked sent (k ∷ picks) (n ∷ ms) m pick p at = last_picked sent picks ms m pick p.1 at

-- and near the one that is due
last_near : (n d : ℕ) (picks : List ℕ) (ms : List Message) (pick : ℕ) → d ≡ n + length ms → AreNear n (take (length ms + 1) picks) → slice_get picks (length ms) ≡ Some pick → 0 < d → IsNear d pick
last_near n d [] ms pick e near at some = absurd cc
last_near n d (k ∷ picks) [] pick e near at some =
    let is : k ≡ pick = cc in
    let same : n ≡ d = omega (arith, e) in
    subst (λ j. IsNear d j) is (subst (λ j. IsNear j k) same (near.0 (omega (arith, e, some))))
last_near n d (k ∷ picks) (m ∷ ms) pick e near at some =
    let more : length (m ∷ ms) + 1 ≡ suc (length ms + 1) = omega arith in
    let rest : AreNear n (take (suc (length ms + 1)) (k ∷ picks)) = subst (λ j. AreNear n (take j (k ∷ picks))) more near in
    last_near (n + 1) d picks ms pick (omega (arith, e)) rest.1 at some

-- what a run answers to a message that comes from a list
pub keeps_its_list : {A : Type 0} (result : Result A RunFault) (ms : List Message) (m : Message) → OnOk result (in_order (ms ++ m ∷ []) ≡ true) → IfErr result (λ e. e ≢ faults.OutOfMemory → (may_follow ms m ≡ false) × (e ≡ fault_of ms m)) → KeepsItsList result ms m
keeps_its_list (Ok x) ms m ordered refused = λ sent picks pick numbered picked near at.
    let all : length (ms ++ m ∷ []) ≡ length ms + 1 = length-append ms (m ∷ []) in
    let b = in_turn sent [] 0 picks (ms ++ m ∷ []) refl numbered picked (subst (λ k. AreNear 0 (take k picks)) (sym all) near) ordered in
    (record { places = b.0; messages = b.1 }, tt)
keeps_its_list (Err e) ms m ordered refused = λ sent picks pick numbered picked near at.
    let it = follows sent ms pick m numbered (last_picked sent picks ms m pick picked at) (last_near 0 (length ms) picks ms pick (omega arith) near at) in (
      tt,
      λ ne. let r = refused ne in record {
        why = sym it.taken ∙ r.0;
        another = λ other. r.1 ∙ it.another other;
        next = λ is. r.1 ∙ it.next is;
      },
    )
