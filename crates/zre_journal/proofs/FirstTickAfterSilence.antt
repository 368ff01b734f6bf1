-- A silent peer goes at the first tick after the time for which it may be silent, and for that at no tick before.
use Rattle.std.proofs.Common.{◌≡◌, ℕ, ◌+◌, ◌<◌, ◌≤◌, Bool, true, false, true≢false, cond, not, eqb, ltb, leb, length, List, [], ◌∷◌, ◌++◌, map, Option, Some, None, filter, refl, sym, ap, ◌∙◌, subst, eqb-true, append_assoc, append-nil, ◌≢◌, ◌||◌, eq-eqb}
use Rattle.std.specs.List.{AllByRecursion, list_any}
use Rattle.zre_values.specs.declared.limits.TheConstants.{UNSENT_OCTETS, CONNECTIONS}
use Rattle.zre_values.specs.declared.peer_id.PeerId.{PeerId}
use Rattle.zre_msg.specs.declared.message.Body.{Body}
use Rattle.zre_msg.specs.declared.message.Body.TheVariants as body
use Rattle.zre_link.specs.Text.{size_of}
use Rattle.zre_outside.specs.declared.entry.Entry.{Entry}
use Rattle.zre_outside.specs.declared.entry.Input.{Input}
use Rattle.zre_outside.specs.declared.entry.Input.TheVariants as input
use Rattle.zre_peer.specs.declared.event.Event.TheVariants as event
use Rattle.zre_peer.specs.declared.causes.Cause.{Cause}
use Rattle.zre_peer.specs.declared.causes.Cause.TheVariants as cause
use Rattle.zre_peer.specs.declared.causes.CloseWhy.TheVariants as close
use Rattle.zre_values.specs.declared.settings.Settings.{Settings as Config}
use Rattle.zre_journal.specs.Arrivals.{end_of_run}
use Rattle.zre_journal.specs.Chronicle.{Mark, Comes, Closes, IsShut, Ends, IsEvasive, Puts, SendsBeacon, after}
use Rattle.zre_journal.specs.Connections.{open_ones, is_open, is_new, runs, has_ended}
use Rattle.zre_journal.specs.Events.{chronicle, events_at}
use Rattle.zre_journal.specs.Happens.{has_stopped, at_input, with_entry, chronicle_after}
use Rattle.zre_journal.specs.Heard.{clock}
use Rattle.zre_journal.specs.LinkEntries.{at_unlinked}
use Rattle.zre_journal.specs.Links.{line, unsent}
use Rattle.zre_journal.specs.Peers.{Life, lives, life, active}
use Rattle.zre_journal.specs.Pushes.{push}
use Rattle.zre_journal.specs.Silence.{tells_expired, expires, has_expired, IsTickOf, IsFirstTick, GoesAt, silent_for, TellsSilence}
use Rattle.zre_journal.specs.Ticks.{is_silent, is_evasive, is_stale, probe, at_tick}
use Rattle.zre_journal.specs.Told.{told, told_at}
use Rattle.zre_journal.proofs.WithinCounts.{none_kept}
use Rattle.zre_journal.proofs.JoinedEntries.{continues}
use Rattle.zre_journal.proofs.LawsOfChronicles.{ends_once}
use Rattle.zre_journal.proofs.NumberedLists.{All-join, All-map, found_passes}
use Rattle.zre_journal.proofs.WhichMarks.{Mild, is_tick, Kind, kind, mild_input}
use Rattle.zre_journal.proofs.SilentPeersTold.{gone, told_gone, not_told, none_ever, not_long, only_tick, Lasts, lasting_mark, only_any}
use Rattle.zre_journal.proofs.WhenMarksCome.{choice}
use Rattle.zre_journal.proofs.MarksOfTicks.{AreTicks, E, F, C, all_tick}
use Rattle.zre_journal.proofs.UntoldEvents.{none_of_marks}

module _ (g : Config) (l : ℕ) where
  -- a mark that isn't the end of this peer as expired
  abbrev Lasting : Mark → Type 0
  Lasting h = expires l h ≡ false

  abbrev AreLasting : List Mark → Type 0
  AreLasting hs = AllByRecursion Lasting hs

  none_after : (hs X : List Mark) → AreLasting hs → has_expired l X ≡ false → has_expired l (after hs X) ≡ false
  none_after [] X a e = e
  none_after (h ∷ hs) X a e = none_after hs (h ∷ X) a.1 (ap (λ b. cond b true (has_expired l X)) a.0 ∙ e)

  -- one that hasn't ended hasn't ended so
  not_ended : (X : List Mark) → has_ended l X ≡ false → has_expired l X ≡ false
  not_ended [] e = refl
  not_ended (Ends k why ∷ X) e = by (λ f. not_ended X f) (eqb l k) refl e
    where
      at : (w : Cause) → eqb l k ≡ false → has_expired l X ≡ false → has_expired l (Ends k w ∷ X) ≡ false
      at cause.Expired z r = rw z r
      at _ z r = r

      by : (has_ended l X ≡ false → has_expired l X ≡ false) → (b : Bool) → eqb l k ≡ b → cond b true (has_ended l X) ≡ false → has_expired l (Ends k why ∷ X) ≡ false
      by r true z f = cc
      by r false z f = at why z (r f)
  not_ended (_ ∷ X) e = not_ended X e

  -- ---- entries that are no tick

  lasting_mild : (t : Kind) → t.ticks ≡ false → (h : Mark) → Mild t h → Lasting h
  lasting_mild t n (Ends k cause.Expired) m = absurd (true≢false (sym m ∙ n))
  lasting_mild t n _ m = refl

  lasting_shut : (o : Option ℕ) (c : ℕ) → AreLasting (end_of_run g o cause.Shut ++ IsShut c ∷ [])
  lasting_shut None c = (refl, tt)
  lasting_shut (Some k) c = (refl, (refl, tt))

  lasting_input : (i : Input) (H K : List Mark) → is_tick i ≡ false → AreLasting (at_input g i H K)
  lasting_input (input.Opened c) H K n = choice AreLasting (is_new c K) _ _ (λ z. choice AreLasting (ltb (length (open_ones K)) CONNECTIONS) _ _ (λ y. (refl, tt)) (λ y. (refl, tt))) (λ z. tt)
  lasting_input (input.Shut c) H K n = choice AreLasting (is_open c K) _ _ (λ z. lasting_shut (runs c K) c) (λ z. tt)
  lasting_input (input.Unlinked k) H K n = by (life k K)
    where
      by : (o : Option Life) → AreLasting (at_unlinked g k o)
      by None = tt
      by (Some u) = (refl, tt)
  lasting_input input.Tick H K n = absurd (true≢false n)
  lasting_input i H K n = All-map (Mild (kind i)) Lasting (lasting_mild (kind i) n) (at_input g i H K) (mild_input g i H K tt)

  -- ---- ticks

  module _ (K : List Mark) where
    lasting_push : (k : ℕ) (b : Body) (X : List Mark) → AreLasting (push g k b X)
    lasting_push k b X = choice AreLasting (ltb UNSENT_OCTETS (unsent g k X + size_of (line k X) b)) _ _ (λ z. (refl, tt)) (λ z. (refl, tt))

    lasting_probes : (vs : List Life) (X : List Mark) → AreLasting (probe g vs X)
    lasting_probes [] X = tt
    lasting_probes (v ∷ vs) X =
        let x = push g v.link body.Ping X in
        (refl, All-join Lasting x (probe g vs (after x (IsEvasive v.link ∷ X))) (lasting_push v.link body.Ping X) (lasting_probes vs (after x (IsEvasive v.link ∷ X))))

    lasting_closes : (cs : List ℕ) → AreLasting (map (λ c. Closes c close.Timeout) cs)
    lasting_closes [] = tt
    lasting_closes (c ∷ cs) = (refl, lasting_closes cs)

    module _ (short : leb g.expired (silent_for l K) ≡ false) where
      lasting_ends : (vs : List Life) → AreLasting (map (λ (v : Life). Ends v.link cause.Expired) (filter (is_silent g g.expired K) vs))
      lasting_ends [] = tt
      lasting_ends (v ∷ vs) = by (lasting_ends vs) (is_silent g g.expired K v) refl
        where
          far : is_silent g g.expired K v ≡ true → (b : Bool) → eqb l v.link ≡ b → b ≡ false
          far z false y = refl
          far z true y = absurd (true≢false (sym z ∙ ap (λ k. leb g.expired (silent_for k K)) (sym (eqb-true l v.link y)) ∙ short))

          by : AreLasting (map (λ (u : Life). Ends u.link cause.Expired) (filter (is_silent g g.expired K) vs)) → (b : Bool) → is_silent g g.expired K v ≡ b → AreLasting (map (λ (u : Life). Ends u.link cause.Expired) (cond b (v ∷ filter (is_silent g g.expired K) vs) (filter (is_silent g g.expired K) vs)))
          by r false z = r
          by r true z = (far z (eqb l v.link) refl, r)

      lasting_tick : AreLasting (at_tick g K)
      lasting_tick = All-join Lasting (E g K ++ F g K ++ C g K) (SendsBeacon g.port ∷ []) (All-join Lasting (E g K ++ F g K) (C g K) (All-join Lasting (E g K) (F g K) (lasting_ends (lives K))
          (lasting_probes (filter (is_evasive g K) (lives K)) K)) (lasting_closes (filter (is_stale g K) (open_ones K)))) (refl, tt)

  -- ---- entry by entry

  not_at : (e : Entry) (X : List Mark) → (e.input ≡ input.Tick → silent_for l (Comes e ∷ X) < g.expired) → has_expired l X ≡ false → has_expired l (with_entry g e X) ≡ false
  not_at e X soon n = by (has_stopped X)
    where
      lasting : AreLasting (at_input g e.input X (Comes e ∷ X))
      lasting = at (is_tick e.input) refl
        where
          at : (t : Bool) → is_tick e.input ≡ t → AreLasting (at_input g e.input X (Comes e ∷ X))
          at false y = lasting_input e.input X (Comes e ∷ X) y
          at true y = let tick : e.input ≡ input.Tick = only_tick e.input y in
              subst (λ i. AreLasting (at_input g i X (Comes e ∷ X))) (sym tick) (lasting_tick (Comes e ∷ X) (not_long g.expired (active l (Comes e ∷ X)) (clock (Comes e ∷ X)) (soon tick)))

      by : (b : Bool) → has_expired l (after (cond b [] (at_input g e.input X (Comes e ∷ X))) (Comes e ∷ X)) ≡ false
      by true = n
      by false = none_after (at_input g e.input X (Comes e ∷ X)) (Comes e ∷ X) lasting n

  -- a tick brings back nobody
  none_known : (hs X : List Mark) → AreTicks hs → life l X ≡ None → life l (after hs X) ≡ None
  none_known [] X a e = e
  none_known (Ends k w ∷ hs) X a e = none_known hs (Ends k w ∷ X) a.1 (none_kept (λ (v : Life). eqb l v.link) (λ (v : Life). not (eqb k v.link)) (lives X) e)
  none_known (Closes c w ∷ hs) X a e = none_known hs (Closes c w ∷ X) a.1 e
  none_known (IsEvasive k ∷ hs) X a e = none_known hs (IsEvasive k ∷ X) a.1 e
  none_known (Puts k b ∷ hs) X a e = none_known hs (Puts k b ∷ X) a.1 e
  none_known (SendsBeacon port ∷ hs) X a e = none_known hs (SendsBeacon port ∷ X) a.1 e
  none_known (_ ∷ hs) X a e = absurd a.0

-- ---- what is told

module _ (g : Config) (p : PeerId) where
  told_mark : (h : Mark) (X : List Mark) → ((l : ℕ) → expires l h ≡ false) → list_any (tells_expired p) (told_at h X) ≡ false
  told_mark h X a = lasting_mark p (λ k. Unit {0}) h X (lasts h a) (only_any p X)
    where
      lasts : (k : Mark) → ((l : ℕ) → expires l k ≡ false) → Lasts p (λ j. Unit {0}) k
      lasts (Ends k cause.Expired) n = absurd (true≢false (sym (eq-eqb k k refl) ∙ n k))
      lasts _ n = tt

  told_marks : (hs X : List Mark) → ((l : ℕ) → AllByRecursion (λ h. expires l h ≡ false) hs) → list_any (tells_expired p) (told hs X) ≡ false
  told_marks hs X a = none_of_marks (tells_expired p) (λ h. (l : ℕ) → expires l h ≡ false) (λ Y. Unit {0}) (λ h Y n o. told_mark h Y n) (λ h Y n o. tt) hs X (each hs a) tt
    where
      each : (ks : List Mark) → ((l : ℕ) → AllByRecursion (λ h. expires l h ≡ false) ks) → AllByRecursion (λ h. (l : ℕ) → expires l h ≡ false) ks
      each [] n = tt
      each (k ∷ ks) n = (λ l. (n l).0, each ks (λ l. (n l).1))

  -- where no tick comes nobody is told as gone for that
  not_told_else : (e : Entry) (H : List Mark) → e.input ≢ input.Tick → list_any (tells_expired p) (events_at g e H) ≡ false
  not_told_else e H other = by (has_stopped H) (is_tick e.input) refl
    where
      by : (b t : Bool) → is_tick e.input ≡ t → list_any (tells_expired p) (told (cond b [] (at_input g e.input H (Comes e ∷ H))) (Comes e ∷ H)) ≡ false
      by true t z = refl
      by false true z = absurd (other (only_tick e.input z))
      by false false z = told_marks (at_input g e.input H (Comes e ∷ H)) (Comes e ∷ H) (λ l. lasting_input g l e.input H (Comes e ∷ H) z)

module _ (g : Config) (J earlier span : List Entry) (e : Entry) (later : List Entry) (v : Life) (at : IsFirstTick g J earlier span e later v) where
  abbrev H : List Mark
  H = chronicle g (earlier ++ span)

  abbrev K : List Mark
  K = Comes e ∷ H

  on : (more front : List Entry) (X : List Mark) → span ≡ front ++ more → chronicle g (earlier ++ front) ≡ X → has_expired v.link X ≡ false → has_expired v.link (chronicle_after g more X) ≡ false
  on [] front X is z n = n
  on (t ∷ more) front X is z n = on more (front ++ t ∷ []) (with_entry g t X) (is ∙ sym (append_assoc front (t ∷ []) more))
      (ap (chronicle g) (sym (append_assoc earlier front (t ∷ []))) ∙ (continues g (earlier ++ front) (t ∷ [])).happened ∙ ap (with_entry g t) z)
      (not_at g v.link t X (λ tick. subst (λ (Y : List Mark). silent_for v.link (Comes t ∷ Y) < g.expired) z (at.not_before front t more is tick)) n)

  not_yet : has_expired v.link H ≡ false
  not_yet = ap (has_expired v.link) (continues g earlier span).happened
      ∙ on span [] (chronicle g earlier) refl (ap (chronicle g) (append-nil earlier)) (not_ended g v.link (chronicle g earlier) ((ends_once g earlier).is_gone v.link (rw at.was_known refl)))

  -- it is a tick of the peer that has this link
  tick_of : (u : Life) → life u.link K ≡ Some u → IsTickOf g J (earlier ++ span) e later u
  tick_of u known = record { is_entry = at.is_entry; is_tick = at.is_tick; is_known = known }

  is_gone : life v.link (with_entry g e H) ≡ None
  is_gone = by (life v.link K) refl
    where
      whole : with_entry g e H ≡ after (at_tick g K) K
      whole = ap (λ b. after (cond b [] (at_input g e.input H K)) K) at.is_entry.going ∙ ap (λ i. after (at_input g i H K) K) at.is_tick

      by : (o : Option Life) → life v.link K ≡ o → life v.link (with_entry g e H) ≡ None
      by None z = ap (life v.link) whole ∙ none_known g v.link (at_tick g K) K (all_tick g K) z
      by (Some u) z =
          let same : v.link ≡ u.link = eqb-true v.link u.link (found_passes (λ (w : Life). eqb v.link w.link) (lives K) u z) in
          let known : life u.link K ≡ Some u = ap (λ k. life k K) (sym same) ∙ z in
          ap (λ k. life k (with_entry g e H)) same ∙ gone g J (earlier ++ span) e later u (tick_of u known) (subst (λ k. g.expired ≤ silent_for k K) same at.has_passed)

  goes : GoesAt g v H e
  goes = record {
    not_yet = not_yet;
    is_gone = is_gone;
    is_told = λ known entered. told_gone g J (earlier ++ span) e later v (tick_of v known) at.has_passed entered;
  }

pub tells_silence : (g : Config) (J : List Entry) → TellsSilence g J
tells_silence g J = record {
  is_gone = λ earlier e later v at z. gone g J earlier e later v at z;
  is_told = λ earlier e later v at z entered. told_gone g J earlier e later v at z entered;
  not_sooner = λ earlier e later v at z. not_told g J earlier e later v at z;
  only_at_ticks = λ earlier e later p in_journal other. not_told_else g p e (chronicle g earlier) other;
  at_first_tick = λ earlier span e later v at. goes g J earlier span e later v at;
  never_evasive = λ p heard. none_ever g J p heard;
}
