-- What a connection says grows with its octets, up to a fault.
use Rattle.std.proofs.Common.{◌≡◌, ℕ, List, [], ◌∷◌, ◌++◌, length, drop, Some, None, refl, sym, ap, ◌∙◌, append_assoc, inl, inr}
use Rattle.std.specs.Prelude.{map}
use Rattle.std.proofs.lemmas.List.{append-nil, drop_at}
use Rattle.std.proofs.lemmas.List.Elements.{filter_map-append}
use Rattle.zre_zmtp.proofs.OctetsCutIntoParts.{cases_Option}
use Rattle.zre_values.specs.declared.peer_id.PeerId.{PeerId}
use Rattle.zre_zmtp.specs.Stream.{Whole, items, cut, greeting_fault}
use Rattle.zre_zmtp.specs.declared.want.Want.TheVariants.{Dealer}
use Rattle.zre_zmtp.specs.declared.item.Item.{Item}
use Rattle.zre_zmtp.specs.declared.fault.ZmtpFault.{ZmtpFault}
use Rattle.zre_zmtp.specs.Reading.{IsOver, new_items}
use Rattle.zre_zmtp.proofs.ReadersFollowStreams.{extends, is_over}
use Rattle.zre_mailbox.specs.declared.arrival.Arrival.{Arrival}
use Rattle.zre_mailbox.specs.Talk.{Said, Arrived, arrival_of, arrivals_in, arrivals, fault_in, fault_said, talk, completed, new_arrivals, Goes}

pub arrivals_in-append : (xs ys : List Item) → arrivals_in (xs ++ ys) ≡ arrivals_in xs ++ arrivals_in ys
arrivals_in-append xs ys = filter_map-append (λ item. arrival_of item.what) xs ys

-- what is after a front is what was put there
later : {A : Type 0} (front rest all : List A) → all ≡ front ++ rest → drop (length front) all ≡ rest
later {A} front rest all e = ap (λ (l : List A). drop (length front) l) e ∙ drop_at front rest (length front) refl

-- a list that begins with another is that one and what is after it
begins : {A : Type 0} (front rest all : List A) → all ≡ front ++ rest → all ≡ front ++ drop (length front) all
begins {A} front rest all e = e ∙ ap (λ (l : List A). front ++ l) (sym (later front rest all e))

map-append : {A B : Type 0} (f : A → B) (xs ys : List A) → map f (xs ++ ys) ≡ map f xs ++ map f ys
map-append f [] ys = refl
map-append f (x ∷ xs) ys = ap (λ l. f x ∷ l) (map-append f xs ys)

-- what arrives with more octets comes with the items that they complete
arrivals_more : (own : PeerId) (o more : List ℕ) → arrivals own (o ++ more) ≡ arrivals own o ++ arrivals_in (new_items (Dealer own) Whole o more)
arrivals_more own o more = ap arrivals_in (extends (Dealer own) Whole o more) ∙ arrivals_in-append (items (Dealer own) Whole o) (new_items (Dealer own) Whole o more)

pub new_arrivals-items : (own : PeerId) (o more : List ℕ) → new_arrivals own o more ≡ arrivals_in (new_items (Dealer own) Whole o more)
new_arrivals-items own o more = later (arrivals own o) _ _ (arrivals_more own o more)

pub arrivals_grow : (own : PeerId) (o more : List ℕ) → arrivals own (o ++ more) ≡ arrivals own o ++ new_arrivals own o more
arrivals_grow own o more = begins (arrivals own o) _ _ (arrivals_more own o more)

-- where nothing is wrong so far, the rest is what arrives and the fault
talk_on : (own : PeerId) (o more : List ℕ) → fault_in own o ≡ None → talk own (o ++ more) ≡ talk own o ++ (map (λ a. Arrived a) (new_arrivals own o more) ++ fault_said (fault_in own (o ++ more)))
talk_on own o more none =
    let told = λ (l : List Arrival). map (λ a. Arrived a) l in
    let last = fault_said (fault_in own (o ++ more)) in
    let front : talk own o ≡ told (arrivals own o) = ap (λ f. told (arrivals own o) ++ fault_said f) none ∙ append-nil (told (arrivals own o)) in
    ap (λ (l : List Arrival). told l ++ last) (arrivals_grow own o more)
    ∙ ap (λ l. l ++ last) (map-append (λ a. Arrived a) (arrivals own o) (new_arrivals own o more))
    ∙ append_assoc (told (arrivals own o)) (told (new_arrivals own o more)) last
    ∙ ap (λ (l : List Said). l ++ (told (new_arrivals own o more) ++ last)) (sym front)

-- after a fault nothing is said
pub talk_over : (own : PeerId) (o more : List ℕ) (f : ZmtpFault) → fault_in own o ≡ Some f → talk own (o ++ more) ≡ talk own o
talk_over own o more f e =
    let h : IsOver (Dealer own) Whole o = is_over (Dealer own) Whole o f e in
    ap (λ is. map (λ a. Arrived a) (arrivals_in is) ++ fault_said (fault_in own (o ++ more))) (h.items more)
    ∙ ap (λ x. map (λ a. Arrived a) (arrivals own o) ++ fault_said x) (h.fault more)

completed_over : (own : PeerId) (o more : List ℕ) (f : ZmtpFault) → fault_in own o ≡ Some f → completed own o more ≡ []
completed_over own o more f e = later (talk own o) [] _ (talk_over own o more f e ∙ sym (append-nil (talk own o)))

said_more : (own : PeerId) (o more : List ℕ) → talk own (o ++ more) ≡ talk own o ++ completed own o more
said_more own o more =
    elim (cases_Option (fault_in own o)) [
      | inl none ↦ begins (talk own o) _ _ (talk_on own o more none)
      | inr some ↦ begins (talk own o) [] _ (talk_over own o more some.0 some.1 ∙ sym (append-nil (talk own o)))
    ]

pub goes : (own : PeerId) (o more : List ℕ) → Goes own o more
goes own o more = record {
  said = said_more own o more;
  arrived = arrivals_grow own o more;
  faultless = λ none. later (talk own o) _ _ (talk_on own o more none);
  over = λ f e. (talk_over own o more f e, completed_over own o more f e);
}

pub completed-append : (own : PeerId) (o a b : List ℕ) → completed own o (a ++ b) ≡ completed own o a ++ completed own (o ++ a) b
completed-append own o a b =
    later (talk own o) (completed own o a ++ completed own (o ++ a) b) _ (
    ap (λ l. talk own l) (sym (append_assoc o a b)) ∙ said_more own (o ++ a) b ∙ ap (λ (l : List Said). l ++ completed own (o ++ a) b) (said_more own o a)
    ∙ append_assoc (talk own o) (completed own o a) (completed own (o ++ a) b)
    )

-- no octets say nothing
pub nothing_said : (own : PeerId) → talk own [] ≡ []
unfolding cut greeting_fault
nothing_said own = refl
