-- What a node has said of itself on its links, message by message: numbered, true as it was said, and within the limits of a view.
use Rattle.std.proofs.Common.{◌≡◌, ℕ, zero, suc, ◌+◌, ◌%◌, ◌^◌, ◌≤◌, Bool, true, false, cond, not, ◌&&◌, ◌||◌, eqb, leb, List, [], ◌∷◌, ◌++◌, length, take, Some, refl, sym, ap, ◌∙◌, subst, arith, true≢false}
use Rattle.std.specs.Prelude.{slice_get}
use Rattle.std.specs.List.{AllByRecursion, list_any, list_all}
use Rattle.std.proofs.lemmas.Bool.{and_parts, and_from, le-leb, ne_eqb}
use Rattle.std.proofs.lemmas.List.{length-append}
use Rattle.zre_values.specs.declared.limits.TheConstants.{GROUPS, GROUP_OCTETS, HEADERS}
use Rattle.zre_outside.specs.declared.entry.Entry.{Entry}
use Rattle.zre_msg.specs.declared.message.Body.{Body}
use Rattle.zre_msg.specs.declared.message.Message.{Message}
use Rattle.zre_link.specs.Text.{numbered_from}
use Rattle.zre_mailbox.specs.Utterances.{IsReadable}
use Rattle.zre_peer.specs.Ledger.{IsNumbered}
use Rattle.zre_peer.specs.Members.{first_named}
use Rattle.zre_peer.specs.Runs.{is_hello}
use Rattle.zre_peer.specs.Views.{blank, view_of, is_small}
use Rattle.zre_values.specs.declared.settings.Settings.{Settings as Config}
use Rattle.zre_journal.specs.Chronicle.{Mark}
use Rattle.zre_journal.specs.Config.{CanBe}
use Rattle.zre_journal.specs.Events.{chronicle}
use Rattle.zre_journal.specs.Links.{groups, bodies, queued}
use Rattle.zre_journal.specs.Speaking.{moment, SpokeTruly}
use Rattle.zre_journal.specs.Truth.{own_view, only_begins_with_hello}
use Rattle.zre_journal.proofs.HelloFits.{small}
use Rattle.zre_journal.proofs.BodiesOnLinks.{bodies_on, are_bodies}
use Rattle.zre_journal.proofs.SentIsReadable.{AreSent, are_sent, each_readable}
use Rattle.zre_journal.proofs.SpokenIsTrue.{Spoke, both_of}
use Rattle.zre_journal.proofs.TrueOnLink.{told, view_told}
use Rattle.zre_journal.proofs.ViewOctets.{fewer}

-- ---- numbers

pub numbered_length : (n : ℕ) (bs : List Body) → length (numbered_from n bs) ≡ length bs
numbered_length n [] = refl
numbered_length n (b ∷ bs) = let r = numbered_length (n + 1) bs in omega (arith, r)

numbered_take : (k n : ℕ) (bs : List Body) → take k (numbered_from n bs) ≡ numbered_from n (take k bs)
numbered_take zero n bs = refl
numbered_take (suc k) n [] = refl
numbered_take (suc k) n (b ∷ bs) = ap (λ ms. record { sequence = n % 2 ^ 16; body = b } ∷ ms) (numbered_take k (n + 1) bs)

record IsAt (n i : ℕ) (bs : List Body) (m : Message) : Type 0 where
  body : Body
  is_there : slice_get bs i ≡ Some body
  is_body : m.body ≡ body
  is_number : m.sequence ≡ (n + i) % 65536

numbered_at : (n i : ℕ) (bs : List Body) (m : Message) → slice_get (numbered_from n bs) i ≡ Some m → IsAt n i bs m
numbered_at n i [] m e = absurd cc
numbered_at n zero (b ∷ bs) m e =
    let z : Some (record { sequence = n % 2 ^ 16; body = b }) ≡ Some m = e in
    let same : (let x : Message = record { sequence = n % 2 ^ 16; body = b } in x) ≡ m = cc in
    let none : n + 0 ≡ n = omega arith in
    record { body = b; is_there = refl; is_body = ap (λ (x : Message). x.body) (sym same); is_number = ap (λ (x : Message). x.sequence) (sym same) ∙ ap (λ k. k % 65536) (sym none) }
numbered_at n (suc i) (b ∷ bs) m e =
    let r = numbered_at (n + 1) i bs m e in
    let same : n + 1 + i ≡ n + suc i = omega arith in
    record { body = r.body; is_there = r.is_there; is_body = r.is_body; is_number = r.is_number ∙ ap (λ k. k % 65536) same }

none_at : (bs : List Body) (i : ℕ) (b : Body) → list_any is_hello bs ≡ false → slice_get bs i ≡ Some b → is_hello b ≡ false
none_at [] i b n e = absurd cc
none_at (x ∷ bs) i b n e = by (is_hello x) refl (list_any is_hello bs) refl n i e (none_at bs)
  where
    by : (s : Bool) → is_hello x ≡ s → (t : Bool) → list_any is_hello bs ≡ t → (s || t) ≡ false → (i : ℕ) → slice_get (x ∷ bs) i ≡ Some b → ((i : ℕ) (c : Body) → list_any is_hello bs ≡ false → slice_get bs i ≡ Some c → is_hello c ≡ false) → is_hello b ≡ false
    by true p t q z i g r = absurd (true≢false z)
    by false p true q z i g r = absurd (true≢false z)
    by false p false q z zero g r = let same : x ≡ b = cc in ap is_hello (sym same) ∙ p
    by false p false q z (suc i) g r = r i b q g

hello_at : (bs : List Body) (i : ℕ) (b : Body) → only_begins_with_hello bs ≡ true → slice_get bs i ≡ Some b → is_hello b ≡ eqb i 0
hello_at [] i b h e = absurd cc
hello_at (x ∷ bs) zero b h e = let p = and_parts (is_hello x) (not (list_any is_hello bs)) h in let same : x ≡ b = cc in ap is_hello (sym same) ∙ p.0
hello_at (x ∷ bs) (suc i) b h e = let p = and_parts (is_hello x) (not (list_any is_hello bs)) h in none_at bs i b (turned (list_any is_hello bs) p.1) e ∙ sym (ne_eqb (suc i) 0 (λ z. omega (arith, z)))
  where
    turned : (t : Bool) → not t ≡ true → t ≡ false
    turned true z = absurd (true≢false (sym z))
    turned false z = refl

-- ---- limits

all_short : (gs : List (List ℕ)) → AllByRecursion (λ x. length x ≤ GROUP_OCTETS) gs → list_all (λ x. leb (length x) GROUP_OCTETS) gs ≡ true
all_short [] a = refl
all_short (x ∷ gs) a = and_from (leb (length x) GROUP_OCTETS) _ (le-leb _ _ a.0) (all_short gs a.1)

own_small : (g : Config) (K : List Mark) → CanBe g → AreSent g K → is_small (own_view g K) ≡ true
unfolding is_small
own_small g K can o =
    let few = (small g can.valid).few in
    and_from (leb (length (groups K)) GROUPS && list_all (λ x. leb (length x) GROUP_OCTETS) (groups K)) (leb (length (first_named g.headers)) HEADERS)
    (and_from (leb (length (groups K)) GROUPS) (list_all (λ x. leb (length x) GROUP_OCTETS) (groups K)) (le-leb _ _ (let f = o.few_groups in omega (arith, f))) (all_short (groups K) o.groups_fit))
    (le-leb _ _ (omega (arith, few, fewer length length-append [] g.headers)))

is_moment : (l n : ℕ) (H : List Mark) → (later : List Mark) × (H ≡ later ++ moment l n H)
is_moment l n [] = ([], refl)
is_moment l n (h ∷ H) = by (is_moment l n H) (leb n (length (bodies l H)))
  where
    by : (later : List Mark) × (H ≡ later ++ moment l n H) → (t : Bool) → (later : List Mark) × (h ∷ H ≡ later ++ cond t (moment l n H) (h ∷ H))
    by r true = (h ∷ r.0, ap (λ J. h ∷ J) r.1)
    by r false = ([], refl)

-- ---- all of it

pub spoke_truly : (g : Config) (journal : List Entry) → CanBe g → SpokeTruly g (chronicle g journal)
unfolding view_of
spoke_truly g journal can = record { are_numbered = numbered; was_true = was_true; was_small = was_small }
  where
    H : List Mark
    H = chronicle g journal

    spoke : Spoke g H
    spoke = (both_of g journal).spoke

    long : (l : ℕ) → length (queued l H) ≡ length (bodies_on l H)
    long l = numbered_length 1 (bodies l H) ∙ ap (length {A = Body}) (are_bodies l H)

    numbered : (l : ℕ) → IsNumbered (queued l H)
    numbered l i m e =
        let a = numbered_at 1 i (bodies l H) m e in
        let there : slice_get (bodies_on l H) i ≡ Some a.body = ap (λ (bs : List Body). slice_get bs i) (sym (are_bodies l H)) ∙ a.is_there in
        let same : 1 + i ≡ i + 1 = omega arith in
        (ap is_hello a.is_body ∙ hello_at (bodies_on l H) i a.body (spoke.begun l (some (bodies_on l H) i a.body there)) there, a.is_number ∙ ap (λ k. k % 65536) same)
      where
        some : (bs : List Body) (i : ℕ) (b : Body) → slice_get bs i ≡ Some b → 1 ≤ length bs
        some [] i b e = absurd cc
        some (x ∷ bs) i b e = omega arith

    was_true : (l n : ℕ) → 1 ≤ n → n ≤ length (queued l H) → view_of (take n (queued l H)) ≡ own_view g (moment l n H)
    was_true l n some le =
        let len = long l in
        ap view_of (numbered_take n 1 (bodies l H)) ∙ view_told 1 blank (take n (bodies l H)) ∙ ap (λ bs. told (take n bs)) (are_bodies l H)
        ∙ spoke.was_true l n some (omega (arith, le, len))

    was_small : (l n : ℕ) → 1 ≤ n → n ≤ length (queued l H) → is_small (own_view g (moment l n H)) ≡ true
    was_small l n some le = let s = is_moment l n H in own_small g (moment l n H) can (are_sent g can journal s.0 (moment l n H) s.1)

-- the messages of a link are read as they were spelled
pub are_readable : (g : Config) (journal : List Entry) → CanBe g → (l : ℕ) → AllByRecursion IsReadable (queued l (chronicle g journal))
are_readable g journal can l =
    let H = chronicle g journal in
    subst (λ bs. AllByRecursion IsReadable (numbered_from 1 bs)) (sym (are_bodies l H)) (each_readable 1 (bodies_on l H) ((are_sent g can journal [] H refl).sendable l))
