-- The writes of an entry after a journal.
use Rattle.std.proofs.Common.{◌≡◌, ℕ, Bool, cond, not, ◌&&◌, List, [], ◌∷◌, ◌++◌, flat_map, refl, sym, ap, ◌∙◌, subst, append_assoc, append-nil}
use Rattle.std.specs.List.{list_any}
use Rattle.std.proofs.lemmas.List.{append_cancel_left}
use Rattle.zre_values.specs.declared.settings.Settings.{Settings as Config}
use Rattle.zre_journal.specs.Chronicle.{Mark}
use Rattle.zre_journal.specs.Events.{events, events_at, chronicle}
use Rattle.zre_journal.specs.Happens.{has_stopped, with_entry, chronicle_after}
use Rattle.zre_journal.proofs.JoinedEntries.{continues}
use Rattle.zre_node.specs.declared.node.Node.{Node}
use Rattle.zre_node.specs.declared.effects.Step.{Step}
use Rattle.zre_node.specs.Journal.{IsStep}
use Rattle.zre_outside.specs.declared.entry.Entry.{Entry}
use Rattle.zre_peer.specs.declared.event.Event.{Event}
use Rattle.zre_shared.specs.Replicas.{HeldWrites}
use Rattle.zre_records.specs.table.Kept.{Gathered, Keeps}
use Rattle.zre_records.specs.table.Writes.{frames_told, frames_shouted, is_refusal, frames_at, frames_after, frames}
use Rattle.zre_records.proofs.table.FramesTaken.{keeps_same}

frames-append : (g : Config) (group : List ℕ) (J K : List Entry) (H : List Mark) → frames_after g group (J ++ K) H ≡ frames_after g group J H ++ frames_after g group K (chronicle_after g J H)
frames-append g group [] K H = refl
frames-append g group (e ∷ J) K H =
    ap (λ (r : List (List ℕ)). frames_at g group e H ++ r) (frames-append g group J K (with_entry g e H))
    ∙ sym (append_assoc (frames_at g group e H) (frames_after g group J (with_entry g e H)) (frames_after g group K (chronicle_after g J (with_entry g e H))))

frames_on : (g : Config) (group : List ℕ) (J : List Entry) (e : Entry) → frames g group (J ++ e ∷ []) ≡ frames g group J ++ frames_at g group e (chronicle g J)
frames_on g group J e =
    frames-append g group J (e ∷ []) [] ∙ ap (λ (r : List (List ℕ)). frames g group J ++ r) (append-nil (frames_at g group e (chronicle g J)))

-- what a step tells are the events of its entry
its_events : (g : Config) (J : List Entry) (e : Entry) (n : Node) (s : Step) → IsStep g J e n s → s.events ≡ events_at g e (chronicle g J)
its_events g J e n s st =
    append_cancel_left (events g J) s.events (events_at g e (chronicle g J))
    (sym st.told ∙ (continues g J (e ∷ [])).told ∙ ap (λ (r : List Event). events g J ++ r) (append-nil (events_at g e (chronicle g J))))

-- the frames of what was told and of what was done
abbrev pub brought : List ℕ → (stopped : Bool) → List Event → (shouted : List (List ℕ)) → List (List ℕ)
brought group stopped es shouted = flat_map (frames_told group) es ++ cond (not stopped && not (list_any is_refusal es)) shouted []

its_frames : (g : Config) (group : List ℕ) (J : List Entry) (e : Entry) (n : Node) (s : Step) (stopped : Bool) (shouted : List (List ℕ)) → IsStep g J e n s
    → stopped ≡ has_stopped (chronicle g J) → shouted ≡ frames_shouted group e.input → brought group stopped s.events shouted ≡ frames_at g group e (chronicle g J)
its_frames g group J e n s stopped shouted st is asked =
    ap (λ (es : List Event). brought group stopped es shouted) (its_events g J e n s st)
    ∙ ap (λ (b : Bool). brought group b (events_at g e (chronicle g J)) shouted) is
    ∙ ap (λ (fs : List (List ℕ)). brought group (has_stopped (chronicle g J)) (events_at g e (chronicle g J)) fs) asked

-- an entry was taken, and then the frames that it brought
pub gathered_on : (g : Config) (group : List ℕ) (J : List Entry) (e : Entry) (n : Node) (s : Step) (stopped done : Bool) (shouted : List (List ℕ)) (h : HeldWrites) → IsStep g J e n s
    → stopped ≡ has_stopped (chronicle g J) → shouted ≡ frames_shouted group e.input → done ≡ (not stopped && not (list_any is_refusal s.events))
    → Keeps ((frames g group J ++ flat_map (frames_told group) s.events) ++ cond done shouted []) h → Gathered g group (J ++ e ∷ []) n h
gathered_on g group J e n s stopped done shouted h st is asked when keeps = record {
  stands = st.stands;
  keeps = keeps_same ((frames g group J ++ flat_map (frames_told group) s.events) ++ cond done shouted []) (frames g group (J ++ e ∷ [])) h
      (ap (λ (b : Bool). (frames g group J ++ flat_map (frames_told group) s.events) ++ cond b shouted []) when
      ∙ append_assoc (frames g group J) (flat_map (frames_told group) s.events) (cond (not stopped && not (list_any is_refusal s.events)) shouted [])
      ∙ ap (λ (r : List (List ℕ)). frames g group J ++ r) (its_frames g group J e n s stopped shouted st is asked)
      ∙ sym (frames_on g group J e)) keeps;
}

-- ---- entries, one after the other

pub gathered_none : (g : Config) (group : List ℕ) (J : List Entry) (n : Node) (h : HeldWrites) → Gathered g group J n h → Gathered g group (J ++ []) n h
gathered_none g group J n h k = subst (λ (K : List Entry). Gathered g group K n h) (sym (append-nil J)) k

pub gathered_more : (g : Config) (group : List ℕ) (J es : List Entry) (e : Entry) (n : Node) (h : HeldWrites) → Gathered g group ((J ++ es) ++ e ∷ []) n h → Gathered g group (J ++ (es ++ e ∷ [])) n h
gathered_more g group J es e n h k = subst (λ (K : List Entry). Gathered g group K n h) (append_assoc J es (e ∷ [])) k
