-- Where nothing fails, a command does all that it is asked for, unless memory runs out.
use Rattle.std.proofs.Common.{◌≡◌, ◌⊎◌, ℕ, ◌<◌, Bool, true, false, List, [], ◌++◌, length, Option, Some, None, inl, inr, refl, sym, ap, ◌∙◌, subst, arith, append-nil, length-append}
use Rattle.std.specs.Io.KnownBytes.{Appends, Consumes, IsAtEnd}
use Rattle.zre_commands.specs.declared.pump.status.Status.{Status}
use Rattle.zre_commands.specs.declared.pump.status.Status.TheVariants.{Done, Usage, BadInput, ReadFault, WriteFault, WorldFault, NoThread, TooLong, OutOfMemory, DeskFault}
use Rattle.zre_commands.specs.pump.Meaning.{Meaning, KeepsRefusing, whole_text}
use Rattle.zre_commands.specs.pump.Outcome.{Outcome}
use Rattle.zre_commands.proofs.InvalidStaysInvalid.{show_refuses, follow_refuses}
use Rattle.zre_records.proofs.InvalidStaysInvalid.{capture_refuses, audit_refuses, simulate_refuses}
use Rattle.zre_console.specs.Lived.{Seen, HasCause}
use Rattle.zre_capture.specs.declared.format.Format.TheVariants.{First, Second}
use Rattle.zre_app.specs.declared.command.Command.{Command}
use Rattle.zre_app.specs.declared.command.Command.TheVariants.{Plain, Chat}
use Rattle.zre_app.specs.declared.plain_words.Plain.{Plain as PlainCommand}
use Rattle.zre_app.specs.declared.plain_words.Plain.TheVariants.{Follow, Show, Replay, ReplayTold, Upgrade, Table, Audit, Simulate, Exercise}
use Rattle.zre_app.specs.Complete.{WellOrShort, NoneRose, CompletesWork, Completes}
use Rattle.zre_app.specs.Does.{DoesWork, work_of, Does, Did}
use Rattle.zre_app.specs.Does.Work.{Reads}
use Rattle.zre_app.specs.Streams.{Streams, streams_of}
use Rattle.zre_chat.specs.Views.{Handed, Views, seen_of}
use Rattle.zre_app.specs.Usage.{WritesText}

-- ---- a command that reads

-- what stands after the octets that were taken, and that it is all of the rest
rest_of : (o taken : List ℕ) (left : Option (List ℕ)) → Consumes (Some o) left taken
    → (rest : List ℕ) × (o ≡ taken ++ rest) × (IsAtEnd left → rest ≡ [])
rest_of o taken None c = absurd c
rest_of o taken (Some rest) c = (rest, c, λ none. none)

both_ways : {A : Type 0} (b : Bool) → b ≡ true → b ≡ false → A
both_ways true e f = absurd cc
both_ways false e f = absurd cc

whole_outcome : (m : Meaning) → KeepsRefusing m → (status : Status) (limit : ℕ) (o taken : List ℕ)
    (left written written' : Option (List ℕ)) (read write : Type 0)
    → Consumes (Some o) left taken → Outcome status limit m taken left written written' read write
    → m.is_bad o ≡ false → length o < limit → ¬ read → ¬ write → WellOrShort status (Appends written written' (whole_text m o))
whole_outcome m keeps Done limit o taken left written written' read write c out good short unread unwritten =
    let r = rest_of o taken left c in
    let all : taken ≡ o = sym (r.1 ∙ ap (λ (x : List ℕ). taken ++ x) (r.2 out.1) ∙ append-nil taken) in
    inl (refl, subst (λ (x : List ℕ). Appends written written' (whole_text m x)) all out.3)
whole_outcome m keeps BadInput limit o taken left written written' read write c out good short unread unwritten =
    let r = rest_of o taken left c in
    elim (out.1) [
      | inl stopped ↦ both_ways (m.is_bad o) (ap m.is_bad r.1 ∙ keeps taken r.0 stopped) good
      | inr ended ↦ both_ways (m.is_bad o) (ap m.is_bad (r.1 ∙ ap (λ (x : List ℕ). taken ++ x) (r.2 ended.0) ∙ append-nil taken) ∙ out.0) good
    ]
whole_outcome m keeps ReadFault limit o taken left written written' read write c out good short unread unwritten = absurd (unread out.0)
whole_outcome m keeps WriteFault limit o taken left written written' read write c out good short unread unwritten = absurd (unwritten out.0)
whole_outcome m keeps TooLong limit o taken left written written' read write c out good short unread unwritten =
    let r = rest_of o taken left c in
    absurd (omega (arith, out.0, short, ap length r.1, length-append taken r.0))
whole_outcome m keeps OutOfMemory limit o taken left written written' read write c out good short unread unwritten = inr refl
whole_outcome m keeps Usage limit o taken left written written' read write c out good short unread unwritten = absurd out
whole_outcome m keeps WorldFault limit o taken left written written' read write c out good short unread unwritten = absurd out
whole_outcome m keeps NoThread limit o taken left written written' read write c out good short unread unwritten = absurd out
whole_outcome m keeps DeskFault limit o taken left written written' read write c out good short unread unwritten = absurd out

reads_all : (m : Meaning) → KeepsRefusing m → (limit : ℕ) (status : Status) (s t : Streams) → DoesWork (Reads m) limit status s t
    → CompletesWork (Reads m) limit status s t
reads_all m keeps limit status s t does o told good short unread unwritten =
    whole_outcome m keeps status limit o does.octets t.left s.written t.written _ _
    (subst (λ (l : Option (List ℕ)). Consumes l t.left does.octets) told does.moved.consumed) does.outcome good short unread unwritten

-- ---- a command that writes

writes_all : (status : Status) (text : List ℕ) (written written' : Option (List ℕ)) (write : Type 0)
    → WritesText status text written written' write → ¬ write → WellOrShort status (Appends written written' text)
writes_all Done text written written' write out unwritten = inl (refl, out)
writes_all WriteFault text written written' write out unwritten = absurd (unwritten out.0)
writes_all OutOfMemory text written written' write out unwritten = inr refl
writes_all Usage text written written' write out unwritten = absurd out
writes_all BadInput text written written' write out unwritten = absurd out
writes_all ReadFault text written written' write out unwritten = absurd out
writes_all WorldFault text written written' write out unwritten = absurd out
writes_all NoThread text written written' write out unwritten = absurd out
writes_all TooLong text written written' write out unwritten = absurd out
writes_all DeskFault text written written' write out unwritten = absurd out

plain_completes : (p : PlainCommand) (limit : ℕ) (status : Status) (s t : Streams) → DoesWork (work_of p) limit status s t
    → CompletesWork (work_of p) limit status s t
plain_completes (Follow id) limit status s t does = reads_all _ (follow_refuses id) limit status s t does
plain_completes Show limit status s t does = reads_all _ show_refuses limit status s t does
plain_completes (Replay g) limit status s t does = reads_all _ (capture_refuses First) limit status s t does
plain_completes ReplayTold limit status s t does = reads_all _ (capture_refuses Second) limit status s t does
plain_completes (Upgrade g) limit status s t does = reads_all _ (capture_refuses First) limit status s t does
plain_completes (Table group) limit status s t does = reads_all _ (capture_refuses Second) limit status s t does
plain_completes Audit limit status s t does = reads_all _ audit_refuses limit status s t does
plain_completes Simulate limit status s t does = reads_all _ simulate_refuses limit status s t does
plain_completes (Exercise seed peers messages) limit status s t does = λ unwritten. writes_all status _ s.written t.written _ does unwritten

-- ---- a chat

abbrev pub Spares : Status → Type 0
Spares status = (status ≡ Done) ⊎ (status ≡ OutOfMemory)

-- nothing else has a cause
pub spared : (x : Status) (reads long desk : Type 0) (s t : Seen) → HasCause x reads long desk s t → NoneRose s t → ¬ reads → ¬ long → ¬ desk → Spares x
spared Done reads long desk s t cause none read short held = inl refl
spared OutOfMemory reads long desk s t cause none read short held = inr refl
spared ReadFault reads long desk s t cause none read short held = absurd (read cause)
spared WriteFault reads long desk s t cause none read short held =
    elim (cause) [ inl rose ↦ absurd (none.write rose) | inr rose ↦ absurd (none.recorded rose) ]
spared WorldFault reads long desk s t cause none read short held = absurd (none.world cause)
spared NoThread reads long desk s t cause none read short held = absurd (none.thread cause)
spared TooLong reads long desk s t cause none read short held = absurd (short cause)
spared DeskFault reads long desk s t cause none read short held = absurd (held cause)
spared Usage reads long desk s t cause none read short held = absurd cause
spared BadInput reads long desk s t cause none read short held = absurd cause

pub well_or_short : (status : Status) (all : Type 0) → Spares status → (status ≡ Done → all) → WellOrShort status all
well_or_short status all (inl done) whole = inl (done, whole done)
well_or_short status all (inr short) whole = inr short

pub completes : (c : Option Command) (limit : ℕ) (status : Status) (s t : Seen) → Does c limit status s t → Completes c limit status s t
completes None limit status s t does = tt
completes (Some (Plain p)) limit status s t does = plain_completes p limit status (streams_of s) (streams_of t) does
completes (Some (Chat c)) limit status s t does = λ chat none few early.
    well_or_short status _
    (spared status _ _ _ s t chat.caused none (λ read. none.read read.0)
    (λ long. elim (long) [ inl many ↦ omega (arith, many.0, few) | inr late ↦ omega (arith, late.0, early) ]) (λ z. z))
    (λ done. chat.wrote.whole (inl done))

-- any call does
pub all_complete : {I W O R P : Type 0} (v : Views I W O R P) (c : Option Command) (limit : ℕ) (status : Status) (h h' : Handed I W O R P)
    → Did v c limit status h h' → Completes c limit status (seen_of v h) (seen_of v h')
all_complete v c limit status h h' did = completes c limit status (seen_of v h) (seen_of v h') did.does
