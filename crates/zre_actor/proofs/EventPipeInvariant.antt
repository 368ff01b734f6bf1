-- Each step of the event pipe keeps its rule.
use Rattle.std.proofs.Common.{◌≡◌, ◌≢◌, ℕ, zero, suc, true, true≢false, List, [], ◌∷◌, ◌++◌, length, set, sym, refl, ap, ◌∙◌, subst, ⊎_elim, append_assoc, append-nil, Option, Some, None, IsSome}
use Rattle.std.proofs.lemmas.List.{map-append}
use mathlib.Core.Option.{some, some-injective, some-ne-none}
use lib.ListN.{get_elem?}
use Rattle.crossbeam_channel.specs.Fifo.{Pushes, Pops, Forks, Merges, Learns}
use Rattle.crossbeam_queue.proofs.Lists.{at_set, at_snoc}
use Rattle.zre_peer.specs.declared.event.Event.{Event}
use Rattle.zre_actor.specs.declared.ending.Ending.{Ending}
use Rattle.zre_actor.specs.declared.told.Told.{Told}
use Rattle.zre_actor.specs.declared.told.Told.TheVariants as told
use Rattle.zre_actor.specs.declared.views.EventView.{EventView}
use Rattle.zre_actor.specs.Events.{event_of, Queued, Fits, EventRule, first_hearing, actors, takers, met, deaf, sent, heard, AllHeard}

abbrev All : (ℕ → EventView → Type 0) → List EventView → Type 0
All F views = (pass : ℕ) (v : EventView) → get_elem? views pass ≡ some v → F pass v

at_end : (l : List EventView) (a b : EventView) (j : ℕ) → get_elem? l j ≢ some b → get_elem? (l ++ a ∷ []) j ≡ some b → j ≡ length l
at_end [] a b zero n e = refl
at_end [] a b (suc j) n e = absurd (some-ne-none b (sym e))
at_end (x ∷ xs) a b zero n e = absurd (n e)
at_end (x ∷ xs) a b (suc j) n e = ap suc (at_end xs a b j n e)

all_set : (F : ℕ → EventView → Type 0) (views : List EventView) (pass : ℕ) (w : EventView) → F pass w → ((j : ℕ) (u : EventView) → j ≢ pass → get_elem? views j ≡ some u → F j u) → All F (set views pass w)
all_set F views pass w mine others j u e = ⊎_elim (λ (x : (j ≡ pass) × (w ≡ u)). subst (λ (y : ℕ × EventView). F y.0 y.1) (λ i. (sym x.0 i, x.1 i)) mine)
    (λ (x : (j ≢ pass) × (get_elem? views j ≡ some u)). others j u x.0 x.1) (at_set views pass j w u e)

first_fits : All (Fits 0 [] None 0 [] None) (first_hearing ∷ [])
first_fits zero u at = let is = some-injective first_hearing u at in subst (Fits 0 [] None 0 [] None 0) is ((λ _. (refl, refl, refl)), λ _. (refl, refl, refl))
first_fits (suc j) u at = absurd (some-ne-none u (sym at))

pub hearing_begins : EventRule [] (first_hearing ∷ [])
hearing_begins = (0, [], None, 0, [], None, [], refl, refl, first_fits)

-- an event may be pushed, or Last, while there is no ending
queued_more : (last : Option Ending) (rest : List Event) (items : List Told) (e : Event) → Queued None last rest items → Queued None last (rest ++ e ∷ []) (items ++ told.Event e ∷ [])
queued_more None rest items e q = ap (λ l. l ++ told.Event e ∷ []) q ∙ sym (map-append event_of rest (e ∷ []))
queued_more (Some x) rest items e q = q

queued_last : (last : Option Ending) (rest : List Event) (items : List Told) (x : Ending) → Queued None last rest items → Queued (Some x) last rest (items ++ told.Last x ∷ [])
queued_last None rest items x q = ap (λ l. l ++ told.Last x ∷ []) q
queued_last (Some y) rest items x q = absurd q

-- a pass that raises went on to w: this was raised then
raised_on : (port : ℕ) (v w : EventView) (items items' : List Told) (views : List EventView) (h : EventRule items views) → get_elem? views port ≡ some v → v.raises ≡ true
    → (raised : List Event) (ended_by : Option Ending) (rest : List Event) → raised ≡ h.4 ++ rest → Queued ended_by h.5 rest items' → Fits h.0 raised ended_by h.3 h.4 h.5 port w → EventRule items' (set views port w)
raised_on port v w items items' views h at may raised ended_by rest parts queued fits = (
  h.0,
  raised,
  ended_by,
  h.3,
  h.4,
  h.5,
  rest,
  parts,
  queued,
  all_set (Fits h.0 raised ended_by h.3 h.4 h.5) views port w fits (λ j u other there. ((λ p. absurd (other (((h.9 j u there).0 p).0 ∙ sym ((h.9 port v at).0 may).0))), (h.9 j u there).1)),
)

pub sends : (n port : ℕ) (v : EventView) (m : Told) → v.raises ≡ true → v.ended_by ≡ None → Pushes EventRule n port v m (λ w. w ≡ sent v m)
sends n port v (told.Event e) may open_ items views _ h at =
    let raised = h.1 in let last = h.5 in let rest = h.6 in let mine = h.9 port v at in let m = told.Event e in
    let none = sym ((mine.0 may).2) ∙ open_ in (
      sent v m,
      raised_on port v (sent v m) items (items ++ m ∷ []) views h at may (raised ++ e ∷ []) h.2 (rest ++ e ∷ []) (ap (λ l. l ++ e ∷ []) h.7 ∙ append_assoc h.4 rest (e ∷ []))
          (subst (λ o. Queued o last (rest ++ e ∷ []) (items ++ m ∷ [])) (sym none) (queued_more last rest items e (subst (λ o. Queued o last rest items) none h.8)))
          ((λ _. ((mine.0 may).0, ap (λ l. l ++ e ∷ []) (mine.0 may).1, (mine.0 may).2)), mine.1),
      refl,
    )
sends n port v (told.Last x) may open_ items views _ h at =
    let last = h.5 in let rest = h.6 in let mine = h.9 port v at in let m = told.Last x in
    let none = sym ((mine.0 may).2) ∙ open_ in (
      sent v m,
      raised_on port v (sent v m) items (items ++ m ∷ []) views h at may h.1 (Some x) rest h.7 (queued_last last rest items x (subst (λ o. Queued o last rest items) none h.8))
          ((λ _. ((mine.0 may).0, (mine.0 may).1, refl)), mine.1),
      refl,
    )

-- what is at the front is the next event, or Last where none is left
next_event : (ended_by last : Option Ending) (rest : List Event) (e : Event) (items : List Told) → Queued ended_by last rest (told.Event e ∷ items)
    → (more : List Event) × (rest ≡ e ∷ more) × (last ≡ None) × Queued ended_by None more items
next_event None None [] e items q = absurd (cc)
next_event None None (r ∷ rs) e items q = (rs, (cc), refl, (cc))
next_event None (Some y) rest e items q = absurd q
next_event (Some x) None [] e items q = absurd (cc)
next_event (Some x) None (r ∷ rs) e items q = (rs, (cc), refl, (cc))
next_event (Some x) (Some y) rest e items q = let no = q.2 in absurd (cc)

next_last : (ended_by last : Option Ending) (rest : List Event) (x : Ending) (items : List Told) → Queued ended_by last rest (told.Last x ∷ items)
    → (rest ≡ []) × (last ≡ None) × Queued ended_by (Some x) [] items
next_last None None [] x items q = absurd (cc)
next_last None None (r ∷ rs) x items q = absurd (cc)
next_last None (Some y) rest x items q = absurd q
next_last (Some z) None [] x items q = (refl, refl, ((cc), refl, (cc)))
next_last (Some z) None (r ∷ rs) x items q = absurd (cc)
next_last (Some z) (Some y) rest x items q = let no = q.2 in absurd (cc)

-- a pass that takes went on to w: this was taken then
taken_on : (port : ℕ) (v w : EventView) (items items' : List Told) (views : List EventView) (h : EventRule items views) → get_elem? views port ≡ some v → v.takes ≡ true
    → (taken : List Event) (last : Option Ending) (rest : List Event) → h.1 ≡ taken ++ rest → Queued h.2 last rest items' → Fits h.0 h.1 h.2 h.3 taken last port w → EventRule items' (set views port w)
taken_on port v w items items' views h at may taken last rest parts queued fits = (
  h.0,
  h.1,
  h.2,
  h.3,
  taken,
  last,
  rest,
  parts,
  queued,
  all_set (Fits h.0 h.1 h.2 h.3 taken last) views port w fits (λ j u other there. ((h.9 j u there).0, λ p. absurd (other (((h.9 j u there).1 p).0 ∙ sym ((h.9 port v at).1 may).0)))),
)

pub receives : (port : ℕ) (v : EventView) → v.takes ≡ true → Pops EventRule port v (λ m w. (v.last ≡ None) × (w ≡ heard v m))
receives port v may (told.Event e) items views h at =
    let taken = h.4 in let mine = h.9 port v at in let m = told.Event e in let t = next_event h.2 h.5 h.6 e items h.8 in
    let none : v.last ≡ None = (mine.1 may).2 ∙ t.2 in (
      heard v m,
      taken_on port v (heard v m) (m ∷ items) items views h at may (taken ++ e ∷ []) None t.0 (h.7 ∙ ap (λ l. taken ++ l) t.1 ∙ sym (append_assoc taken (e ∷ []) t.0)) t.3
          (mine.0, λ _. ((mine.1 may).0, ap (λ l. l ++ e ∷ []) (mine.1 may).1, none)),
      (none, refl),
    )
receives port v may (told.Last x) items views h at =
    let mine = h.9 port v at in let m = told.Last x in let t = next_last h.2 h.5 h.6 x items h.8 in
    let none : v.last ≡ None = (mine.1 may).2 ∙ t.1 in (
      heard v m,
      taken_on port v (heard v m) (m ∷ items) items views h at may h.4 (Some x) [] (h.7 ∙ ap (λ l. h.4 ++ l) t.0) t.2 (mine.0, λ _. ((mine.1 may).0, (mine.1 may).1, refl)),
      (none, refl),
    )

pub cuts : (port : ℕ) (v : EventView) → v.raises ≡ true → v.takes ≡ true → Forks EventRule port v (actors v) (takers v)
cuts port v a b items views h at = let l : EventView = actors v in let r : EventView = takers v in let all = h.9 in let mine = all port v at in let vs : List EventView = set views port l in
    let Old : ℕ → EventView → Type 0 = λ j u. (u.raises ≡ true → (j ≡ h.0) × (u.raised ≡ h.1) × (u.ended_by ≡ h.2)) × (u.takes ≢ true) in
    let old : All Old vs = all_set Old views port l ((λ _. mine.0 a), λ p. true≢false (sym p)) (λ j u other e. ((all j u e).0, λ p. other (((all j u e).1 p).0 ∙ sym (mine.1 b).0))) in (
      h.0,
      h.1,
      h.2,
      length vs,
      h.4,
      h.5,
      h.6,
      h.7,
      h.8,
      λ j u e. ⊎_elim (λ x. ((old j u x).0, λ p. absurd ((old j u x).1 p)))
          (λ (is : r ≡ u). ((λ p. absurd (true≢false (sym (ap (λ (y : EventView). y.raises) is ∙ p)))), λ p. (at_end vs r u j (λ x. (old j u x).1 p) e, ap (λ (y : EventView). y.taken) (sym is) ∙ (mine.1 b).1, ap (λ (y : EventView). y.last) (sym is) ∙ (mine.1 b).2))) (at_snoc vs r u j e),
    )

pub meets : (port : ℕ) (v : EventView) (other : ℕ) (u : EventView) → v.raises ≡ true → u.takes ≡ true → Merges EventRule port v other u (met v u) deaf
meets port v other u a b items views h at two at' = let both : EventView = met v u in let all = h.9 in let mine = all port v at in let vs : List EventView = set views port both in
    let was : get_elem? views other ≡ some u = ⊎_elim (λ x. absurd (two x.0)) (λ x. x.1) (at_set views port other both u at') in let theirs = (all other u was).1 b in
    let Now : ℕ → EventView → Type 0 = λ j y. j ≢ other → Fits h.0 h.1 h.2 port h.4 h.5 j y in
    let now : All Now vs = all_set Now views port both (λ _. ((λ _. mine.0 a), λ _. (refl, theirs.1, theirs.2))) (λ j y _ e apart. ((all j y e).0, λ p. absurd (apart (((all j y e).1 p).0 ∙ sym theirs.0)))) in
    (h.0, h.1, h.2, port, h.4, h.5, h.6, h.7, h.8, all_set (Fits h.0 h.1 h.2 port h.4 h.5) vs other deaf ((λ p. absurd (true≢false (sym p))), λ p. absurd (true≢false (sym p))) (λ j y apart e. now j y e apart))

ended : (ended_by last : Option Ending) (x : Ending) (rest : List Event) (items : List Told) → last ≡ Some x → Queued ended_by last rest items → (rest ≡ []) × (last ≡ ended_by)
ended None None x rest items is q = absurd (cc)
ended None (Some y) x rest items is q = absurd q
ended (Some z) None x rest items is q = absurd (cc)
ended (Some z) (Some y) x rest items is q = (q.1, ap Some (sym q.0))

pub learns_all : (port : ℕ) (v : EventView) (x : Ending) → v.raises ≡ true → v.takes ≡ true → v.last ≡ Some x → Learns EventRule port v (λ items. AllHeard v)
learns_all port v x a b is items views h at = let mine = h.9 port v at in let t = ended h.2 h.5 x h.6 items (sym (mine.1 b).2 ∙ is) h.8 in
    ((mine.1 b).1 ∙ sym (append-nil h.4) ∙ ap (λ l. h.4 ++ l) (sym t.0) ∙ sym h.7 ∙ sym (mine.0 a).1, (mine.1 b).2 ∙ t.1 ∙ sym (mine.0 a).2)

some_of : (o : Option Ending) → IsSome o → (x : Ending) × (o ≡ Some x)
some_of None is = absurd (true≢false (sym is))
some_of (Some x) is = (x, refl)

-- the two ends in one pass, once Last was taken
pub learns_met : (port : ℕ) (u v w : EventView) → u ≡ met v w → IsSome w.last → Learns EventRule port u (λ items. AllHeard u)
learns_met port u v w is told = let s = some_of w.last told in
    learns_all port u s.0 (ap (λ (x : EventView). x.raises) is) (ap (λ (x : EventView). x.takes) is) (ap (λ (x : EventView). x.last) is ∙ s.1)
