-- How far a pump has come: the octets taken so far, whose text is written.
use Rattle.std.proofs.Common.{◌≡◌, ℕ, ◌+◌, ◌<◌, ◌≤◌, true, false, List, [], ◌++◌, ◌⊎◌, length, take, Option, refl, sym, ap, ◌∙◌, subst, append-nil, arith, inl, inr, true≢false}
use Rattle.std.specs.Io.KnownBytes.{Appends, IsAtEnd}
use Rattle.std.proofs.KnownBytes.{Appends-nil, Appends-trans, Appends-kept, Consumes-nil, Consumes-trans}
use Rattle.std.proofs.lemmas.List.{length-append, length-take-le}
use Rattle.zre_outside.specs.Told.{MovesOn, AppendsFront}
use Rattle.zre_outside.proofs.GatheredText.{front_after, front_longer}
use Rattle.zre_commands.specs.declared.pump.status.Status.{Status}
use Rattle.zre_commands.specs.declared.pump.status.Status.TheVariants as statuses
use Rattle.zre_commands.specs.pump.Meaning.{Meaning, whole_text}
use Rattle.zre_commands.specs.pump.Outcome.{Outcome, Pumped}
use Rattle.zre_commands.specs.declared.pump.pumping.Onward.{Onward}
use Rattle.zre_commands.specs.declared.pump.pumping.Onward.TheVariants as nexts
use Rattle.zre_commands.specs.pump.Turning.{WritesText, WritesFront, Refuses, Told, Turned, Finishes}

-- some octets were taken, so many; the machine was fed them, they aren't stopped, and their text was written
pub record Reached (fed : List ℕ → Type 0) (m : Meaning) (left left' taken taken' written written' : Option (List ℕ)) (count : ℕ) : Type 0 where
  pub octets : List ℕ
  pub moved : MovesOn left left' taken taken' octets
  pub counted : length octets ≡ count
  pub known : fed octets
  pub going : m.is_stopped octets ≡ false
  pub appended : Appends written written' (m.text octets)

-- a piece that isn't empty was told: so went the turn
pub turned : (next : Onward) (fed : List ℕ → Type 0) (m : Meaning) (o piece : List ℕ) (left w w' : Option (List ℕ)) (read write : Type 0) → 0 < length piece → Told next fed m o piece w w' write → Turned next fed m o piece left w w' read write
turned nexts.Go fed m o piece left w w' read write some t = (some, t)
turned nexts.Finish fed m o piece left w w' read write some t = inl t
turned (nexts.Fail status) fed m o piece left w w' read write some t = inl t

pub MovesOn-nil : (a b : Option (List ℕ)) → MovesOn a a b b []
MovesOn-nil a b = record { consumed = Consumes-nil a; recorded = Appends-nil b }

pub MovesOn-trans : (a b c d e f : Option (List ℕ)) (x y : List ℕ) → MovesOn a b d e x → MovesOn b c e f y → MovesOn a c d f (x ++ y)
MovesOn-trans a b c d e f x y p q = record { consumed = Consumes-trans a b c x y p.consumed q.consumed; recorded = Appends-trans d e f x y p.recorded q.recorded }

pub starts : (fed : List ℕ → Type 0) (m : Meaning) (left taken w w' : Option (List ℕ)) → fed [] → Appends w w' (m.text []) → m.is_stopped [] ≡ false → Reached fed m left left taken taken w w' 0
starts fed m left taken w w' h e s = record {
  octets = [];
  moved = MovesOn-nil left taken;
  counted = refl;
  known = h;
  going = s;
  appended = e;
}

-- the text of one piece more was written
pub written_more : (m : Meaning) (o piece : List ℕ) (w w' w'' : Option (List ℕ)) → Appends w w' (m.text o) → WritesText m o piece w' w'' → Appends w w'' (m.text (o ++ piece))
written_more m o piece w w' w'' p t = subst (Appends w w'') (sym t.longer) (Appends-trans w w' w'' (m.text o) t.added p t.appended)

pub counted_more : (o piece : List ℕ) (count read : ℕ) → length o ≡ count → length piece ≡ read → length (o ++ piece) ≡ count + read
counted_more o piece count read e f = omega (arith, length-append o piece, e, f)

-- a piece more was read, fed and written
pub goes_on : (fed fed' : List ℕ → Type 0) (m : Meaning) (l l' l'' t t' t'' w w' w'' : Option (List ℕ)) (count read : ℕ) (piece : List ℕ)
    → (r : Reached fed m l l' t t' w w' count) → length piece ≡ read → MovesOn l' l'' t' t'' piece → fed' (r.octets ++ piece) → m.is_stopped (r.octets ++ piece) ≡ false → WritesText m r.octets piece w' w''
    → Reached fed' m l l'' t t'' w w'' (count + read)
goes_on fed fed' m l l' l'' t t' t'' w w' w'' count read piece r len moves h s wt = record {
  octets = r.octets ++ piece;
  moved = MovesOn-trans l l' l'' t t' t'' r.octets piece r.moved moves;
  counted = counted_more r.octets piece count read r.counted len;
  known = h;
  going = s;
  appended = written_more m r.octets piece w w' w'' r.appended wt;
}

-- a piece was read, and only a front of its text was written
pub front_of_more : (m : Meaning) (o piece : List ℕ) (w w' w'' : Option (List ℕ)) → Appends w w' (m.text o) → WritesFront m o piece w' w'' → AppendsFront w w'' (whole_text m (o ++ piece))
front_of_more m o piece w w' w'' p f =
    front_longer w w'' (m.text (o ++ piece)) (m.ending (o ++ piece)) (subst (AppendsFront w w'') (sym f.longer) (front_after w w' w'' (m.text o) f.added p f.appended))

-- the octets so far are stopped, or they are the whole input
abbrev pub Ends : (limit : ℕ) (m : Meaning) (o : List ℕ) (left : Option (List ℕ)) → Type 0
Ends limit m o left = ((m.is_stopped o ≡ true) × (m.is_bad o ≡ true)) ⊎ (IsAtEnd left × (length o < limit))

-- what is stopped has no good end
good_end : (limit : ℕ) (m : Meaning) (o : List ℕ) (left : Option (List ℕ)) → Ends limit m o left → m.is_bad o ≡ false → IsAtEnd left × (length o < limit)
good_end limit m o left ends good = elim ends [ inl s ↦ absurd (true≢false (sym s.1 ∙ good)) | inr e ↦ e ]

bad_end : (limit : ℕ) (m : Meaning) (o : List ℕ) (left : Option (List ℕ)) → Ends limit m o left → (m.is_stopped o ≡ true) ⊎ (IsAtEnd left × (length o < limit))
bad_end limit m o left ends = elim ends [ inl s ↦ inl s.0 | inr e ↦ inr e ]

-- a command ends by a refusal, where a front of its text was written
pub refused : (status : Status) (limit : ℕ) (m : Meaning) (o : List ℕ) (left w w' : Option (List ℕ)) (read write write' front : Type 0)
    → (write' → write) → (front → AppendsFront w w' (whole_text m o)) → Refuses status write' front → Outcome status limit m o left w w' read write
refused statuses.WriteFault limit m o left w w' read write write' front rises written f = (rises f.0, written f.1)
refused statuses.OutOfMemory limit m o left w w' read write write' front rises written f = written f
refused statuses.Done limit m o left w w' read write write' front rises written f = absurd f
refused statuses.BadInput limit m o left w w' read write write' front rises written f = absurd f
refused statuses.Usage limit m o left w w' read write write' front rises written f = absurd f
refused statuses.ReadFault limit m o left w w' read write write' front rises written f = absurd f
refused statuses.WorldFault limit m o left w w' read write write' front rises written f = absurd f
refused statuses.NoThread limit m o left w w' read write write' front rises written f = absurd f
refused statuses.TooLong limit m o left w w' read write write' front rises written f = absurd f
refused statuses.DeskFault limit m o left w w' read write write' front rises written f = absurd f

-- after the text for o, the end of the input
finished : (status : Status) (limit : ℕ) (m : Meaning) (o : List ℕ) (left w w' w'' : Option (List ℕ)) (read write write' : Type 0)
    → (write' → write) → Appends w w' (m.text o) → Ends limit m o left → Finishes status m o w' w'' write' → Outcome status limit m o left w w'' read write
finished statuses.Done limit m o left w w' w'' read write write' rises p ends f =
    let e = good_end limit m o left ends f.0 in (f.0, e.0, e.1, Appends-trans w w' w'' (m.text o) (m.ending o) p f.1)
finished statuses.BadInput limit m o left w w' w'' read write write' rises p ends f = (f.0, bad_end limit m o left ends, Appends-trans w w' w'' (m.text o) (m.ending o) p f.1)
finished statuses.WriteFault limit m o left w w' w'' read write write' rises p ends f = (rises f.0, front_after w w' w'' (m.text o) (m.ending o) p f.1)
finished statuses.OutOfMemory limit m o left w w' w'' read write write' rises p ends f = front_after w w' w'' (m.text o) (m.ending o) p f
finished statuses.Usage limit m o left w w' w'' read write write' rises p ends f = absurd f
finished statuses.ReadFault limit m o left w w' w'' read write write' rises p ends f = absurd f
finished statuses.WorldFault limit m o left w w' w'' read write write' rises p ends f = absurd f
finished statuses.NoThread limit m o left w w' w'' read write write' rises p ends f = absurd f
finished statuses.TooLong limit m o left w w' w'' read write write' rises p ends f = absurd f
finished statuses.DeskFault limit m o left w w' w'' read write write' rises p ends f = absurd f

nothing_more : (o piece : List ℕ) → piece ≡ [] → o ++ piece ≡ o
nothing_more o piece none = ap (λ (x : List ℕ). o ++ x) none ∙ append-nil o

-- a turn after which no more octets are read: the machine was fed the octets so far, which end, and their text was written
ended : (fed : List ℕ → Type 0) (m : Meaning) (limit : ℕ) (o piece : List ℕ) (left w w' w'' : Option (List ℕ))
    → length o < limit → Appends w w' (m.text o) → Turned nexts.Finish fed m o piece left w' w'' (Unit {0}) (Unit {0})
    → fed (o ++ piece) × Ends limit m (o ++ piece) left × Appends w w'' (m.text (o ++ piece))
ended fed m limit o piece left w w' w'' below p t = elim t [
  | inl s ↦ (s.0, inl (s.1, s.2), written_more m o piece w w' w'' p s.3)
  | inr e ↦
      let same = sym (nothing_more o piece e.1) in
      (subst fed same e.0, inr (e.2, subst (λ (x : List ℕ). length x < limit) same below), subst (λ (x : List ℕ). Appends w w'' (m.text x)) same (Appends-kept w w' w'' (m.text o) p e.3))
]

-- a turn that fails: this is how the pump ends
failed : (status : Status) (m : Meaning) (limit : ℕ) (o piece : List ℕ) (left w w' w'' : Option (List ℕ)) (read write read' write' : Type 0)
    → (read' → read) → (write' → write) → length o < limit → m.is_stopped o ≡ false → Appends w w' (m.text o) → Turned (nexts.Fail status) (λ _. Unit {0}) m o piece left w' w'' read' write'
    → Outcome status limit m (o ++ piece) left w w'' read write
failed status m limit o piece left w w' w'' read write read' write' reads writes below going p t = elim t [
  | inl s ↦ refused status limit m (o ++ piece) left w w'' read write write' (WritesFront m o piece w' w'') writes (front_of_more m o piece w w' w'' p) s
  | inr e ↦
      let same = sym (nothing_more o piece e.1) in
      subst (λ (s : Status). Outcome s limit m (o ++ piece) left w w'' read write) (sym e.0)
      (subst (λ (x : List ℕ). Outcome statuses.ReadFault limit m x left w w'' read write) same (reads e.2, going, below, Appends-kept w w' w'' (m.text o) p e.3))
]

-- the pump ends after a piece more, the front of a buffer
pumped_on : (status : Status) (fed : List ℕ → Type 0) (m : Meaning) (limit count read : ℕ) (buf : List ℕ) (l l' l'' t t' t'' w w' w'' : Option (List ℕ)) (reads writes : Type 0)
    → (r : Reached fed m l l' t t' w w' count) → read ≤ length buf → count + read ≤ limit → MovesOn l' l'' t' t'' (take read buf) → Outcome status limit m (r.octets ++ take read buf) l'' w w'' reads writes
    → Pumped status limit m l l'' t t'' w w'' reads writes
pumped_on status fed m limit count read buf l l' l'' t t' t'' w w' w'' reads writes r bound fits moves outcome = record {
  octets = r.octets ++ take read buf;
  moved = MovesOn-trans l l' l'' t t' t'' r.octets (take read buf) r.moved moves;
  within = omega (arith, counted_more r.octets (take read buf) count read r.counted (length-take-le read buf bound), fits);
  outcome = outcome;
}

-- by a turn that fails
pub fails_on : (status : Status) (fed : List ℕ → Type 0) (m : Meaning) (limit count read : ℕ) (buf : List ℕ) (l l' l'' t t' t'' w w' w'' : Option (List ℕ)) (reads writes reads' writes' : Type 0)
    → (r : Reached fed m l l' t t' w w' count) → read ≤ length buf → count + read ≤ limit → count < limit → MovesOn l' l'' t' t'' (take read buf) → (reads' → reads) → (writes' → writes)
    → Turned (nexts.Fail status) (λ _. Unit {0}) m r.octets (take read buf) l'' w' w'' reads' writes' → Pumped status limit m l l'' t t'' w w'' reads writes
fails_on status fed m limit count read buf l l' l'' t t' t'' w w' w'' reads writes reads' writes' r bound fits below moves rises rises' turn =
    pumped_on status fed m limit count read buf l l' l'' t t' t'' w w' w'' reads writes r bound fits moves
    (failed status m limit r.octets (take read buf) l'' w w' w'' reads writes reads' writes' rises rises' (omega (arith, r.counted, below)) r.going r.appended turn)

-- by a turn after which no more octets are read, and what the end of the input does then
pub finishes_on : (status : Status) (fed fed' : List ℕ → Type 0) (m : Meaning) (limit count read : ℕ) (buf : List ℕ) (l l' l'' t t' t'' w w' w'' last : Option (List ℕ)) (reads writes writes' : Type 0)
    → (r : Reached fed m l l' t t' w w' count) → read ≤ length buf → count + read ≤ limit → count < limit → MovesOn l' l'' t' t'' (take read buf) → (writes' → writes)
    → Turned nexts.Finish fed' m r.octets (take read buf) l'' w' w'' (Unit {0}) (Unit {0}) → ((o : List ℕ) → fed' o → length o ≡ count + read → Finishes status m o w'' last writes') → Pumped status limit m l l'' t t'' w last reads writes
finishes_on status fed fed' m limit count read buf l l' l'' t t' t'' w w' w'' last reads writes writes' r bound fits below moves rises turn finish =
    let o = r.octets ++ take read buf in
    let e = ended fed' m limit r.octets (take read buf) l'' w w' w'' (omega (arith, r.counted, below)) r.appended turn in
    pumped_on status fed m limit count read buf l l' l'' t t' t'' w w' last reads writes r bound fits moves
    (finished status limit m o l'' w w'' last reads writes writes' rises e.2 e.1 (finish o e.0 (counted_more r.octets (take read buf) count read r.counted (length-take-le read buf bound))))
