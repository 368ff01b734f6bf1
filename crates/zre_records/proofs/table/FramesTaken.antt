-- Frames that a replica takes after others.
use Rattle.std.proofs.Common.{◌≡◌, ℕ, ◌+◌, ◌<◌, ◌≤◌, List, [], ◌∷◌, ◌++◌, length, get_or, take, flat_map, filter_map, sym, ap, ◌∙◌, subst, append_assoc, append-nil, add-one, take_all}
use Rattle.std.proofs.Math.Seq.{take-suc}
use Rattle.std.proofs.lemmas.List.Concat.{flat_map-append}
use Rattle.std.proofs.lemmas.List.Elements.{filter_map-append}
use Rattle.zre_peer.specs.declared.event.Event.{Event}
use Rattle.zre_shared.proofs.FramesOneByOne.{taken}
use Rattle.zre_shared.specs.Replicas.{HeldWrites, with_frame}
use Rattle.zre_shared.specs.Tables.{table}
use Rattle.zre_shared.specs.Writes.{write_of}
use Rattle.zre_shared.specs.declared.write.Write.{Write}
use Rattle.zre_records.specs.table.Kept.{Keeps}
use Rattle.zre_records.specs.table.Writes.{frames_told}

-- of frames that are these
pub keeps_same : (fs gs : List (List ℕ)) (h : HeldWrites) → fs ≡ gs → Keeps fs h → Keeps gs h
keeps_same fs gs h e k = subst (λ (xs : List (List ℕ)). Keeps xs h) e k

pub keeps_none : (fs : List (List ℕ)) (h : HeldWrites) → Keeps fs h → Keeps (fs ++ []) h
keeps_none fs h k = keeps_same fs (fs ++ []) h (sym (append-nil fs)) k

keeps_one : (fs : List (List ℕ)) (f : List ℕ) (h m : HeldWrites) → Keeps fs h → m ≡ with_frame h f → Keeps (fs ++ f ∷ []) m
keeps_one fs f h m k e =
    ap (λ (x : HeldWrites). x.writes) e
    ∙ ap (λ (t : List Write). (with_frame (record { id = h.id; writes = t }) f).writes) k
    ∙ ap (λ (x : HeldWrites). x.writes) (taken h.id (filter_map write_of fs) (f ∷ []))
    ∙ ap table (sym (filter_map-append write_of fs (f ∷ [])))

-- ---- frames, one after the other

pub no_frame : (frames fs : List (List ℕ)) (h : HeldWrites) → Keeps fs h → Keeps (fs ++ take 0 frames) h
no_frame frames fs h k = keeps_none fs h k

pub next_frame : (i : ℕ) (frames fs : List (List ℕ)) (f : List ℕ) (h m : HeldWrites) → i < length frames → f ≡ get_or frames i f → Keeps (fs ++ take i frames) h → m ≡ with_frame h f
    → Keeps (fs ++ take (i + 1) frames) m
next_frame i frames fs f h m lt is k e =
    let step : take (i + 1) frames ≡ take i frames ++ f ∷ [] = rw add-one (take-suc frames i f lt ∙ ap (λ (x : List ℕ). take i frames ++ x ∷ []) (sym is)) in
    keeps_same ((fs ++ take i frames) ++ f ∷ []) (fs ++ take (i + 1) frames) m
    (append_assoc fs (take i frames) (f ∷ []) ∙ ap (λ (xs : List (List ℕ)). fs ++ xs) (sym step))
    (keeps_one (fs ++ take i frames) f h m k e)

pub all_frames : (i : ℕ) (frames fs : List (List ℕ)) (h : HeldWrites) → length frames ≤ i → Keeps (fs ++ take i frames) h → Keeps (fs ++ frames) h
all_frames i frames fs h le k = keeps_same (fs ++ take i frames) (fs ++ frames) h (ap (λ (xs : List (List ℕ)). fs ++ xs) (take_all i frames le)) k

-- ---- the frames of events, one after the other

abbrev so_far : List ℕ → List Event → List (List ℕ) → List (List ℕ)
so_far group es fs = fs ++ flat_map (frames_told group) es

pub no_event : (group : List ℕ) (es : List Event) (fs : List (List ℕ)) (h : HeldWrites) → Keeps fs h → Keeps (fs ++ flat_map (frames_told group) (take 0 es)) h
no_event group es fs h k = keeps_none fs h k

pub next_event : (group : List ℕ) (i : ℕ) (es : List Event) (fs : List (List ℕ)) (e : Event) (m : HeldWrites) → i < length es → e ≡ get_or es i e
    → Keeps ((fs ++ flat_map (frames_told group) (take i es)) ++ frames_told group e) m → Keeps (fs ++ flat_map (frames_told group) (take (i + 1) es)) m
next_event group i es fs e m lt is k =
    let step : take (i + 1) es ≡ take i es ++ e ∷ [] = rw add-one (take-suc es i e lt ∙ ap (λ (x : Event). take i es ++ x ∷ []) (sym is)) in
    let told : flat_map (frames_told group) (take (i + 1) es) ≡ flat_map (frames_told group) (take i es) ++ frames_told group e =
    ap (flat_map (frames_told group)) step ∙ flat_map-append (frames_told group) (take i es) (e ∷ [])
    ∙ ap (λ (xs : List (List ℕ)). flat_map (frames_told group) (take i es) ++ xs) (append-nil (frames_told group e)) in
    keeps_same (so_far group (take i es) fs ++ frames_told group e) (so_far group (take (i + 1) es) fs) m
    (append_assoc fs (flat_map (frames_told group) (take i es)) (frames_told group e) ∙ ap (λ (xs : List (List ℕ)). fs ++ xs) (sym told)) k

pub all_events : (group : List ℕ) (i : ℕ) (es : List Event) (fs : List (List ℕ)) (h : HeldWrites) → length es ≤ i → Keeps (fs ++ flat_map (frames_told group) (take i es)) h
    → Keeps (fs ++ flat_map (frames_told group) es) h
all_events group i es fs h le k =
    keeps_same (so_far group (take i es) fs) (so_far group es fs) h (ap (λ (xs : List Event). fs ++ flat_map (frames_told group) xs) (take_all i es le)) k
