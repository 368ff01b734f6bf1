-- A watch that is told one more entry.
use Rattle.std.proofs.Common.{◌≡◌, ℕ, List, [], ◌∷◌, ◌++◌, length, map, Option, Some, None, refl, sym, ap, ◌∙◌, subst, append-nil, drop, nat_eq}
use Rattle.std.proofs.lemmas.List.Sums.{fold-append}
use Rattle.zre_values.specs.declared.peer_id.PeerId.{PeerId}
use Rattle.zre_msg.specs.declared.message.Body.{Body}
use Rattle.zre_outside.specs.declared.entry.Entry.{Entry}
use Rattle.zre_values.specs.declared.settings.Settings.{Settings as Config}
use Rattle.zre_journal.specs.Chronicle.{Mark}
use Rattle.zre_journal.specs.Done.{acts_at}
use Rattle.zre_journal.specs.Events.{chronicle, events, events_at, acts}
use Rattle.zre_journal.specs.Happens.{with_entry}
use Rattle.zre_journal.specs.Links.{bodies}
use Rattle.zre_journal.proofs.ProperChronicles.{is_proper}
use Rattle.zre_journal.proofs.JoinedEntries.{continues}
use Rattle.zre_node.specs.Asked.{sent_after}
use Rattle.zre_node.specs.Journal.{IsStep}
use Rattle.zre_node.specs.declared.effects.Step.{Step}
use Rattle.zre_node.specs.declared.node.Node.{Node}
use Rattle.zre_audit.specs.Agreement.{heard_first, heard_second, put_first, put_second, too_many, judged, Judges}
use Rattle.zre_audit.specs.Coding.{octets_of, code}
use Rattle.zre_audit.specs.declared.verdicts.Verdict.{Verdict}
use Rattle.zre_audit.specs.declared.verdicts.Verdict.TheVariants.{Yes, No}
use Rattle.zre_audit.specs.Exchanged.{heard, put, is_same_said}
use Rattle.zre_audit.specs.Prefixes.{first_short}
use Rattle.zre_audit.specs.Watching.{Watches}
use Rattle.zre_audit.specs.declared.watch.Watch.{Watch}
use Rattle.zre_audit.specs.Kept.{ArePut, lines_of, lines_with, all_noted, risen, reached, counts_of}
use Rattle.zre_audit.specs.Seen.{asked_by, whispered_by, announced_by, born_with}
use Rattle.zre_audit.specs.Told.{Runs, runs_in, runs_with, runs_after}
use Rattle.zre_audit.specs.declared.put.PutLine.{PutLine}
use Rattle.zre_audit.proofs.BirthsSeenOutside.{entry_adds}
use Rattle.zre_audit.proofs.JudgedIsAgreed.{first-code, heard-said, put-said, judged_right}
use Rattle.zre_audit.proofs.LinesOfLinks.{lines_added, lines_said, lines_put}
use Rattle.zre_audit.proofs.PushesOfEntries.{Says, entry_says, entry_only, reached_apart}
use Rattle.zre_audit.proofs.ToldIsSaid.{hears}

same_rest : {A : Type 0} (xs ys zs : List A) → xs ++ ys ≡ xs ++ zs → ys ≡ zs
same_rest [] ys zs e = e
same_rest (x ∷ xs) ys zs e = same_rest xs ys zs (ap (drop 1) e)

module _ (g : Config) (J : List Entry) (e : Entry) (n : Node) (s : Step) (t : IsStep g J e n s) where
  abbrev H : List Mark
  H = chronicle g J

  happened : chronicle g (J ++ e ∷ []) ≡ with_entry g e H
  happened = (continues g J (e ∷ [])).happened

  pub events_are : s.events ≡ events_at g e H
  events_are = same_rest (events g J) s.events (events_at g e H) (sym t.told ∙ (continues g J (e ∷ [])).told ∙ ap (λ es. events g J ++ es) (append-nil (events_at g e H)))

  pub acts_are : s.acts ≡ acts_at g e H
  acts_are = same_rest (acts g J) s.acts (acts_at g e H) (sym t.done ∙ (continues g J (e ∷ [])).done ∙ ap (λ as_. acts g J ++ as_) (append-nil (acts_at g e H)))

  -- what was heard
  pub heard_then : (old new : Runs) → ((p : PeerId) → runs_in old p.0 ≡ map code (heard p H)) → ((p : List ℕ) → runs_in new p ≡ runs_after p (runs_in old p) s.events)
      → (p : PeerId) → runs_in new p.0 ≡ map code (heard p (chronicle g (J ++ e ∷ [])))
  heard_then old new was now p =
      now p.0 ∙ ap (λ rs. runs_after p.0 rs s.events) (was p ∙ sym (hears g J p)) ∙ sym (fold-append (runs_with p.0) [] (events g J) s.events)
      ∙ ap (runs_after p.0 []) (sym t.told) ∙ hears g (J ++ e ∷ []) p

  -- what was put, where nothing is asked to be said
  pub put_then : asked_by e.input ≡ None → (messages new_messages : List (List ℕ)) (xs ys : List PutLine) → ArePut H messages xs → new_messages ≡ messages
      → ys ≡ lines_with xs (born_with (announced_by e.input) s.acts s.events) → ArePut (chronicle g (J ++ e ∷ [])) new_messages ys
  put_then none messages new_messages xs ys was same lines =
      let born : born_with (announced_by e.input) s.acts s.events ≡ born_with (announced_by e.input) (acts_at g e H) (events_at g e H) = λ i. born_with (announced_by e.input) (acts_are i) (events_are i) in
      subst (λ K. ArePut K new_messages ys) (sym happened)
      (subst (λ ms. ArePut (with_entry g e H) ms ys) (sym same)
      (subst (ArePut (with_entry g e H) messages) (sym (lines ∙ ap (lines_with xs) born))
      (lines_added H (with_entry g e H) (is_proper g J) (born_with (announced_by e.input) (acts_at g e H) (events_at g e H)) (entry_adds g e H (is_proper g J) none) messages xs was)))

  -- what was put, where this is
  pub said_then : (b : Body) → asked_by e.input ≡ Some b → (octets : List ℕ) → octets ≡ octets_of b → (messages new_messages : List (List ℕ)) (xs ys : List PutLine) → ArePut H messages xs
      → new_messages ≡ messages ++ octets ∷ [] → ys ≡ all_noted (length messages) xs (risen (sent_after g (J ++ e ∷ [])) (counts_of H (reached (whispered_by e.input) H))) → ArePut (chronicle g (J ++ e ∷ [])) new_messages ys
  said_then b asked octets o messages new_messages xs ys was more lines =
      subst (λ ms. ArePut (chronicle g (J ++ e ∷ [])) ms ys) (sym more)
      (subst (ArePut (chronicle g (J ++ e ∷ [])) (messages ++ octets ∷ [])) (sym lines)
      (lines_said H (chronicle g (J ++ e ∷ [])) (is_proper g (J ++ e ∷ [])) b
      (subst (λ K. Says b H K) (sym happened) (entry_says g e H (is_proper g J) b asked))
      (sent_after g (J ++ e ∷ [])) (λ l. refl) (reached (whispered_by e.input) H) (reached_apart H (is_proper g J) (whispered_by e.input))
      (λ l f. ap (bodies l) happened ∙ entry_only g e H (is_proper g J) b asked l f) messages octets o xs was))

-- ---- what watches have of each other

-- the first run that is too many, as it is found of octets
pub first_found : (g k : Config) (J K : List Entry) (a b : Watch) → Watches g J a → Watches k K b
    → first_short nat_eq (runs_in a.heard.runs b.id.0) (lines_of b.put.messages b.put.lines.items a.id) ≡ first_short is_same_said (heard k.id (chronicle g J)) (put g.id (chronicle k K))
first_found g k J K a b w v =
    let runs : runs_in a.heard.runs b.id.0 ≡ map code (heard k.id (chronicle g J)) = ap (λ (p : PeerId). runs_in a.heard.runs p.0) v.id_is ∙ w.has_heard k.id in
    let links : lines_of b.put.messages b.put.lines.items a.id ≡ map code (put g.id (chronicle k K)) = ap (lines_of b.put.messages b.put.lines.items) w.id_is ∙ lines_put k K b.put.messages b.put.lines.items v.has_put g.id in
    (λ i. first_short nat_eq (runs i) (links i)) ∙ first-code (heard k.id (chronicle g J)) (put g.id (chronicle k K)) (heard-said k.id (chronicle g J)) (put-said g.id (chronicle k K))

-- ---- verdicts

module _ (g k : Config) (J K : List Entry) where
  abbrev first : Option (ℕ × ℕ × ℕ)
  first = first_short is_same_said (heard_first g k J K) (put_second g k J K)

  abbrev second : Option (ℕ × ℕ × ℕ)
  second = first_short is_same_said (heard_second g k J K) (put_first g k J K)

  pub first_judged : (t : ℕ × ℕ × ℕ) → first ≡ Some t → No 1 t.0 t.1 t.2 ≡ judged g k J K
  first_judged t e = sym (ap (λ o. too_many 1 o (too_many 2 second Yes)) e)

  pub second_judged : (t : ℕ × ℕ × ℕ) → first ≡ None → second ≡ Some t → No 2 t.0 t.1 t.2 ≡ judged g k J K
  second_judged t n e = sym (λ i. too_many 1 (n i) (too_many 2 (e i) Yes))

  pub yes_judged : first ≡ None → second ≡ None → Yes ≡ judged g k J K
  yes_judged n e = sym (λ i. too_many 1 (n i) (too_many 2 (e i) Yes))

  pub is_right : (v : Verdict) → v ≡ judged g k J K → Judges g k J K v
  is_right v e = subst (Judges g k J K) (sym e) (judged_right g k J K)
