-- What a node has said of itself on a link is true of each moment: the messages up to any of them lead to what it was as it put that one there.
use Rattle.std.proofs.Common.{◌≡◌, ℕ, ◌+◌, ◌%◌, ◌≤◌, Bool, true, false, cond, eqb, leb, List, [], ◌∷◌, ◌++◌, length, take, Some, None, IsSome, refl, sym, ap, ◌∙◌, subst, arith, eqb-true, eq-eqb, inl, inr}
use Rattle.std.proofs.lemmas.Bool.{le-leb, lt-leb, cases_lt}
use Rattle.std.proofs.lemmas.List.{length-append, take-append-le, take_all}
use Rattle.std.specs.List.{AllByRecursion}
use Rattle.zre_values.specs.declared.peer_id.PeerId.{PeerId}
use Rattle.zre_values.specs.declared.endpoint.Endpoint.{Endpoint}
use Rattle.zre_outside.specs.declared.entry.Entry.{Entry}
use Rattle.zre_msg.specs.declared.message.Body.{Body}
use Rattle.zre_msg.specs.declared.message.Body.TheVariants as body
use Rattle.zre_peer.specs.Members.{first_named}
use Rattle.zre_peer.specs.Runs.{is_hello}
use Rattle.zre_peer.specs.Views.{after as reading}
use Rattle.zre_peer.specs.declared.view.View.{View}
use Rattle.zre_values.specs.declared.settings.Settings.{Settings as Config}
use Rattle.zre_journal.specs.Chronicle.{Mark, Comes, Born, Starts, Ends, Puts, Joins, Leaves, after, followed}
use Rattle.zre_journal.specs.Commands.{has_group}
use Rattle.zre_journal.specs.Config.{own_endpoint}
use Rattle.zre_journal.specs.Events.{chronicle}
use Rattle.zre_journal.specs.Happens.{has_stopped, marks, with_entry, chronicle_after}
use Rattle.zre_journal.specs.Links.{groups, status}
use Rattle.zre_journal.specs.Peers.{Life, lives, life, births}
use Rattle.zre_journal.specs.Proper.{IsProper, Apart}
use Rattle.zre_journal.specs.Pushes.{hello, push, push_all, birth}
use Rattle.zre_journal.specs.Speaking.{moment}
use Rattle.zre_journal.specs.Truth.{own_view, only_begins_with_hello}
use Rattle.zre_journal.proofs.ProperChronicles.{empty, marks_allowed}
use Rattle.zre_journal.proofs.MarksOfEntries.{pushed, Outcome, plainly, birth_of, start_of, joining, leaving, then, all_brought}
use Rattle.zre_journal.proofs.EachMarkOfEntries.{Ground, Plain, ArePlain, allowed, plain}
use Rattle.zre_journal.proofs.JoinedEntries.{after-append}
use Rattle.zre_journal.proofs.KnownPeers.{each_known, newborn_known}
use Rattle.zre_journal.proofs.BodiesOnLinks.{bodies_on, are_bodies}
use Rattle.zre_journal.proofs.NumberedLists.{All-map, eqb-comm}
use Rattle.zre_journal.proofs.SaidOnConnections.{outcome}
use Rattle.zre_journal.proofs.ProperPeers.{Comes-proper}
use Rattle.zre_journal.proofs.WhenMarksCome.{May, Allowed, steps, choice}
use Rattle.zre_journal.proofs.TrueOnLink.{told, once_more, once_less, apart_of, still_begins, told_more, Truth, plain_step, born, changes}

module _ (g : Config) where
  pub record Spoke (H : List Mark) : Type 0 where
    pub was_true : (l n : ℕ) → 1 ≤ n → n ≤ length (bodies_on l H) → told (take n (bodies_on l H)) ≡ own_view g (moment l n H)
    pub begun : (l : ℕ) → 1 ≤ length (bodies_on l H) → only_begins_with_hello (bodies_on l H) ≡ true

  -- ---- one mark more

  moment_stays : (l n : ℕ) (h : Mark) (H : List Mark) → n ≤ length (bodies_on l H) → moment l n (h ∷ H) ≡ moment l n H
  moment_stays l n h H le = ap (λ b. cond b (moment l n H) (h ∷ H)) (ap (λ (bs : List Body). leb n (length bs)) (are_bodies l H) ∙ le-leb n (length (bodies_on l H)) le)

  moment_now : (l n : ℕ) (h : Mark) (H : List Mark) → n ≡ length (bodies_on l H) + 1 → moment l n (h ∷ H) ≡ h ∷ H
  moment_now l n h H e = ap (λ b. cond b (moment l n H) (h ∷ H)) (ap (λ (bs : List Body). leb n (length bs)) (are_bodies l H) ∙ lt-leb n (length (bodies_on l H)) (omega (arith, e)))

  -- nothing is put on this link
  same_true : (l : ℕ) (h : Mark) (H : List Mark) → bodies_on l (h ∷ H) ≡ bodies_on l H → Spoke H → (n : ℕ) → 1 ≤ n → n ≤ length (bodies_on l (h ∷ H)) → told (take n (bodies_on l (h ∷ H))) ≡ own_view g (moment l n (h ∷ H))
  same_true l h H e o n some le =
      let le' : n ≤ length (bodies_on l H) = (let k = ap (length {A = Body}) e in omega (arith, le, k)) in
      ap (λ bs. told (take n bs)) e ∙ o.was_true l n some le' ∙ ap (own_view g) (sym (moment_stays l n h H le'))

  same_begun : (l : ℕ) (h : Mark) (H : List Mark) → bodies_on l (h ∷ H) ≡ bodies_on l H → Spoke H → 1 ≤ length (bodies_on l (h ∷ H)) → only_begins_with_hello (bodies_on l (h ∷ H)) ≡ true
  same_begun l h H e o some = ap only_begins_with_hello e ∙ o.begun l (let k = ap (length {A = Body}) e in omega (arith, some, k))

  nothing_put : (h : Mark) (H : List Mark) → ((l : ℕ) → bodies_on l (h ∷ H) ≡ bodies_on l H) → Spoke H → Spoke (h ∷ H)
  nothing_put h H same o = record { was_true = λ l. same_true l h H (same l) o; begun = λ l. same_begun l h H (same l) o }

  -- a body is put on a link
  one_put : (l : ℕ) (b : Body) (H : List Mark) → told (bodies_on l H ++ b ∷ []) ≡ own_view g (Puts l b ∷ H) → only_begins_with_hello (bodies_on l H ++ b ∷ []) ≡ true → Spoke H → Spoke (Puts l b ∷ H)
  one_put l b H now begins o = record { was_true = λ k. by k (eqb k l) refl; begun = λ k. begun k (eqb k l) refl }
    where
      h : Mark
      h = Puts l b

      more : (k : ℕ) → eqb k l ≡ true → bodies_on k (h ∷ H) ≡ bodies_on l H ++ b ∷ []
      more k e = ap (λ t. followed (bodies_on k H) (cond t (Some b) None)) e ∙ ap (λ j. bodies_on j H ++ b ∷ []) (eqb-true k l e)

      same : (k : ℕ) → eqb k l ≡ false → bodies_on k (h ∷ H) ≡ bodies_on k H
      same k e = ap (λ t. followed (bodies_on k H) (cond t (Some b) None)) e

      here : (n : ℕ) → 1 ≤ n → n ≤ length (bodies_on l H ++ b ∷ []) → told (take n (bodies_on l H ++ b ∷ [])) ≡ own_view g (moment l n (h ∷ H))
      here n some le =
          elim (cases_lt n (length (bodies_on l H) + 1)) [
            | inl lt ↦ (let low : n ≤ length (bodies_on l H) = omega (arith, lt) in
                ap told (take-append-le n (bodies_on l H) (b ∷ []) low) ∙ o.was_true l n some low ∙ ap (own_view g) (sym (moment_stays l n h H low)))
            | inr ge ↦ (let len = length-append (bodies_on l H) (b ∷ []) in
                ap told (take_all n (bodies_on l H ++ b ∷ []) (omega (arith, ge, len))) ∙ now ∙ ap (own_view g) (sym (moment_now l n h H (omega (arith, ge, le, len)))))
          ]

      by : (k : ℕ) (t : Bool) → eqb k l ≡ t → (n : ℕ) → 1 ≤ n → n ≤ length (bodies_on k (h ∷ H)) → told (take n (bodies_on k (h ∷ H))) ≡ own_view g (moment k n (h ∷ H))
      by k true e n some le =
          ap (λ bs. told (take n bs)) (more k e) ∙ here n some (let q = ap (length {A = Body}) (more k e) in omega (arith, le, q)) ∙ ap (λ j. own_view g (moment j n (h ∷ H))) (sym (eqb-true k l e))
      by k false e n some le = same_true k h H (same k e) o n some le

      begun : (k : ℕ) (t : Bool) → eqb k l ≡ t → 1 ≤ length (bodies_on k (h ∷ H)) → only_begins_with_hello (bodies_on k (h ∷ H)) ≡ true
      begun k true e some = ap only_begins_with_hello (more k e) ∙ begins
      begun k false e some = same_begun k h H (same k e) o some

  -- the same on the link of a known peer, where the truth is told after it
  put_truly : (l : ℕ) (b : Body) (H : List Mark) → IsSome (life l H) → Truth g (Puts l b ∷ H) → Spoke H → Spoke (Puts l b ∷ H)
  put_truly l b H known t o = one_put l b H (ap told (sym is) ∙ t.true_ l known) (ap only_begins_with_hello (sym is) ∙ t.first l known) o
    where
      is : bodies_on l (Puts l b ∷ H) ≡ bodies_on l H ++ b ∷ []
      is = ap (λ c. followed (bodies_on l H) (cond c (Some b) None)) (eq-eqb l l refl)

  -- ---- what comes about

  plain_spoke : (h : Mark) (H : List Mark) → Plain h → May h H → Truth g (h ∷ H) → Spoke H → Spoke (h ∷ H)
  plain_spoke (Puts l b) H p m t o = put_truly l b H m t o
  plain_spoke h H p m t o = nothing_put h H (λ l. refl) o

  pub record Both (H : List Mark) : Type 0 where
    pub truth : Truth g H
    pub spoke : Spoke H

  plain_both : (hs H : List Mark) → ArePlain hs → Allowed hs H → Both H → Both (after hs H)
  plain_both [] H p a o = o
  plain_both (h ∷ hs) H p a o =
      let t = plain_step g h H p.0 o.truth in
      plain_both hs (h ∷ H) p.1 a.1 (record { truth = t; spoke = plain_spoke h H p.0 a.0 t o.spoke })

  born_both : (K : List Mark) → IsProper K → (p : PeerId) (to : Endpoint) → Both K → Both (after (birth g p to K) K)
  born_both K q p to o =
      let t = born g K q p to o.truth in
      let B = Born (births K + 1) p to ∷ K in
      record { truth = t; spoke = put_truly (births K + 1) (hello g K) B (rw (newborn_known K q p to) refl) t (nothing_put (Born (births K + 1) p to) K (λ l. refl) o.spoke) }

  -- ---- the node joins or leaves a group

  module _ (b : Body) (old new : View) (turns : reading old b ≡ new) (later : is_hello b ≡ false) where
    abbrev IsDue : List Mark → Life → Type 0
    IsDue H v = (told (bodies_on v.link H) ≡ old) × (only_begins_with_hello (bodies_on v.link H) ≡ true)

    record Stage (vs : List Life) (H : List Mark) : Type 0 where
      spoke : Spoke H
      now : own_view g H ≡ new
      due : AllByRecursion (IsDue H) vs

    one_stage : (v : Life) (vs : List Life) (I H : List Mark) → AllByRecursion (λ (u : Life). eqb v.link u.link ≡ false) vs → Stage (v ∷ vs) H → Stage vs (after (push g v.link b I) H)
    one_stage v vs I H far s = pushed g (Stage vs) v.link b I H (λ why. record { spoke = nothing_put (Ends v.link why) H (λ l. refl) s.spoke; now = s.now; due = s.due.1 })
        (record { spoke = one_put v.link b H (told_more (bodies_on v.link H) b ∙ ap (λ w. reading w b) s.due.0.0 ∙ turns ∙ sym s.now) (still_begins (bodies_on v.link H) b later s.due.0.1) s.spoke; now = s.now; due = others vs far s.due.1 })
      where
        others : (us : List Life) → AllByRecursion (λ (u : Life). eqb v.link u.link ≡ false) us → AllByRecursion (IsDue H) us → AllByRecursion (IsDue (Puts v.link b ∷ H)) us
        others [] f d = tt
        others (u ∷ us) f d =
            let same : bodies_on u.link (Puts v.link b ∷ H) ≡ bodies_on u.link H = ap (λ t. followed (bodies_on u.link H) (cond t (Some b) None)) (eqb-comm u.link v.link ∙ f.0) in
            ((ap told same ∙ d.0.0, ap only_begins_with_hello same ∙ d.0.1), others us f.1 d.1)

    all_stages : (vs : List Life) (I H : List Mark) → Apart (λ (v : Life). v.link) vs → Stage vs H → Spoke (after (push_all g vs b I) H)
    all_stages [] I H a s = s.spoke
    all_stages (v ∷ vs) I H a s =
        let p = push g v.link b I in
        subst Spoke (sym (after-append p (push_all g vs b (after p I)) H)) (all_stages vs (after p I) (after p H) a.1 (one_stage v vs I H a.0 s))

  changes_both : (h : Mark) (b : Body) (K : List Mark) → IsProper K → Both K → ((l : ℕ) → life l (h ∷ K) ≡ life l K) → ((l : ℕ) → bodies_on l (h ∷ K) ≡ bodies_on l K) → reading (own_view g K) b ≡ own_view g (h ∷ K) → is_hello b ≡ false
      → Truth g (after (push_all g (lives K) b K) (h ∷ K)) → Both (after (push_all g (lives K) b K) (h ∷ K))
  changes_both h b K q o same put turns later t = record {
    truth = t;
    spoke = all_stages b (own_view g K) (own_view g (h ∷ K)) turns later (lives K) K (h ∷ K) q.living.apart (record {
      spoke = nothing_put h K put o.spoke;
      now = refl;
      due = All-map (λ (v : Life). IsSome (life v.link K)) (IsDue b (own_view g K) (own_view g (h ∷ K)) turns later (h ∷ K)) (λ v k. (ap told (put v.link) ∙ o.truth.true_ v.link k, ap only_begins_with_hello (put v.link) ∙ o.truth.first v.link k)) (lives K) (each_known K);
    });
  }

  module _ (K : List Mark) (q : IsProper K) (o : Both K) (group : List ℕ) where
    abbrev own_with : List (List ℕ) → View
    own_with gs = record { name = g.name; endpoint = own_endpoint g; headers = first_named g.headers; groups = gs; status = (status K + 1) % 256 }

    joined : has_group group (groups K) ≡ false → Both (after (push_all g (lives K) (body.Join group ((status K + 1) % 256)) K) (Joins group ∷ K))
    joined n =
        let turns = ap own_with (ap (λ c. cond c (groups K) (groups K ++ group ∷ [])) n) in
        changes_both (Joins group) (body.Join group ((status K + 1) % 256)) K q o (λ l. refl) (λ l. refl) turns refl
        (changes g (Joins group) (body.Join group ((status K + 1) % 256)) K q o.truth (λ l. refl) (λ l. refl) turns refl (once_more group (groups K) (apart_of group (groups K) n) o.truth.once))

    left : Both (after (push_all g (lives K) (body.Leave group ((status K + 1) % 256)) K) (Leaves group ∷ K))
    left =
        changes_both (Leaves group) (body.Leave group ((status K + 1) % 256)) K q o (λ l. refl) (λ l. refl) refl refl
        (changes g (Leaves group) (body.Leave group ((status K + 1) % 256)) K q o.truth (λ l. refl) (λ l. refl) refl refl (once_less group (groups K) o.truth.once))

  after_outcome : {w : Ground} {hs K : List Mark} → Outcome g w hs K → IsProper K → Both K → Both (after hs K)
  after_outcome {w} (plainly {hs = hs} {K = K} b) q o = plain_both hs K (plain g w false refl hs K (b false)) (allowed g w false hs K (b false)) o
  after_outcome (birth_of {K = K} p e b) q o = born_both K q p e o
  after_outcome (start_of {K = K} p e c m b) q o =
      let r = born_both K q p e o in
      let L = after (birth g p e K) K in
      record { truth = plain_step g (Starts c (births K + 1) m) L tt r.truth; spoke = nothing_put (Starts c (births K + 1) m) L (λ l. refl) r.spoke }
  after_outcome (joining {K = K} group n b) q o = joined K q o group n
  after_outcome (leaving {K = K} group b) q o = left K q o group
  after_outcome {w} (then {hs = hs} {ks = ks} {K = K} a b) q o =
      subst Both (sym (after-append hs ks K)) (after_outcome b (steps hs K q (allowed g w true hs K (all_brought a))) (after_outcome a q o))

  -- ---- each entry

  next : (e : Entry) (H : List Mark) → IsProper H → Both H → Both (with_entry g e H)
  next e H q o =
      let M = Comes e ∷ H in
      let come : Both M = record { truth = record { once = o.truth.once; first = o.truth.first; true_ = o.truth.true_ }; spoke = nothing_put (Comes e) H (λ l. refl) o.spoke } in
      choice (λ hs. Both (after hs M)) (has_stopped H) _ _ (λ z. come) (λ z. after_outcome (outcome g e.input H M (Comes-proper H q e)) (Comes-proper H q e) come)

  later : (es : List Entry) (H : List Mark) → IsProper H → Both H → Both (chronicle_after g es H)
  later [] H q o = o
  later (e ∷ es) H q o = later es (with_entry g e H) (steps (marks g e H) (Comes e ∷ H) (Comes-proper H q e) (marks_allowed g e H q)) (next e H q o)

  pub both_of : (journal : List Entry) → Both (chronicle g journal)
  both_of journal = later journal [] empty (record {
    truth = record { once = tt; first = λ l s. cc; true_ = λ l s. cc };
    spoke = record { was_true = λ l n some le. absurd (omega (arith, some, le)); begun = λ l some. absurd (omega (arith, some)) };
  })
