-- What is told of a peer of which nothing is heard, as far as ticks come.
use Rattle.std.specs.Prelude.{◌≡◌, ◌≢◌, ℕ, ◌-◌, ◌<◌, ◌≤◌, Bool, true, false, List, ◌∷◌, ◌++◌, Some, None, nat_eq}
use Rattle.std.specs.List.{list_any}
use Rattle.std.specs.Str.{bytes_eq}
use Rattle.zre_values.specs.declared.peer_id.PeerId.{PeerId}
use Rattle.zre_outside.specs.declared.entry.Entry.{Entry}
use Rattle.zre_outside.specs.declared.entry.Input.TheVariants as input
use Rattle.zre_peer.specs.declared.causes.Cause.TheVariants as cause
use Rattle.zre_peer.specs.declared.event.Event.{Event}
use Rattle.zre_peer.specs.declared.event.Event.TheVariants as event
use Rattle.zre_values.specs.declared.settings.Settings.{Settings as Config}
use Rattle.zre_journal.specs.Chronicle.{Mark, Comes, Ends, ever}
use Rattle.zre_journal.specs.Events.{chronicle, events, events_at}
use Rattle.zre_journal.specs.Happens.{with_entry}
use Rattle.zre_journal.specs.Heard.{clock}
use Rattle.zre_journal.specs.Peers.{Life, life, is_entered, view, active}
use Rattle.zre_journal.specs.Places.{IsEntry}

-- this is among these events
pub record IsTold (told : Event) (es : List Event) : Type 0 where
  pub before : List Event
  pub later : List Event
  pub there : es ≡ before ++ told ∷ later

-- the event tells that p was silent for long, or for too long
abbrev pub tells_evasive : PeerId → Event → Bool
tells_evasive p (event.Evasive id name) = bytes_eq p.0 id.0
tells_evasive p _ = false

abbrev pub tells_expired : PeerId → Event → Bool
tells_expired p (event.Exit id name cause.Expired) = bytes_eq p.0 id.0
tells_expired p _ = false

-- for how long nothing was heard of the peer of link l, by the journal's readings
abbrev pub silent_for : ℕ → List Mark → ℕ
silent_for l K = clock K - active l K

-- A place at which the journal has a tick, with the known peer v: K is the chronicle with that entry.
pub record IsTickOf (g : Config) (J earlier : List Entry) (e : Entry) (later : List Entry) (v : Life) : Type 0 where
  pub is_entry : IsEntry g J earlier e later
  pub is_tick : e.input ≡ input.Tick
  pub is_known : life v.link (Comes e ∷ chronicle g earlier) ≡ Some v

-- the peer of link l has ended since it was silent for too long
abbrev pub expires : ℕ → Mark → Bool
expires l (Ends k cause.Expired) = nat_eq l k
expires l _ = false

abbrev pub has_expired : ℕ → List Mark → Bool
has_expired l H = ever (expires l) H

-- The first tick at which nothing was heard of v for `expired`, of all that come after the entries `earlier`, with
-- which v is known: between them and that tick come the entries `span`.
pub record IsFirstTick (g : Config) (J earlier span : List Entry) (e : Entry) (later : List Entry) (v : Life) : Type 0
  where
    pub is_entry : IsEntry g J (earlier ++ span) e later
    pub is_tick : e.input ≡ input.Tick
    pub was_known : life v.link (chronicle g earlier) ≡ Some v
    pub has_passed : g.expired ≤ silent_for v.link (Comes e ∷ chronicle g (earlier ++ span))
    pub not_before : (front : List Entry) (t : Entry) (rest : List Entry) → span ≡ front ++ t ∷ rest
        → t.input ≡ input.Tick → silent_for v.link (Comes t ∷ chronicle g (earlier ++ front)) < g.expired

-- The peer v has not ended as expired before the entry e, and is known no more after it. Where it hasn't ended for
-- another cause before, it is told as gone there, if it was entered.
pub record GoesAt (g : Config) (v : Life) (H : List Mark) (e : Entry) : Type 0 where
  pub not_yet : has_expired v.link H ≡ false
  pub is_gone : life v.link (with_entry g e H) ≡ None
  pub is_told : let K = Comes e ∷ H in life v.link K ≡ Some v → is_entered K v ≡ true
      → IsTold (event.Exit v.id (view v.link K).name cause.Expired) (events_at g e H)

-- At a tick a known peer of which nothing was heard for `expired`, by the journal's readings, is known no more, and
-- told as gone where it was entered; any other isn't told as gone for that, and none is but at a tick. So a peer goes
-- at the first such tick, and for that at no tick before. One that was heard of less than `evasive` before each tick is
-- never told as evasive.
pub record TellsSilence (g : Config) (J : List Entry) : Type 0 where
  pub is_gone : (earlier : List Entry) (e : Entry) (later : List Entry) (v : Life) → IsTickOf g J earlier e later v
      → let H = chronicle g earlier in let K = Comes e ∷ H in g.expired ≤ silent_for v.link K
      → life v.link (with_entry g e H) ≡ None
  pub is_told : (earlier : List Entry) (e : Entry) (later : List Entry) (v : Life) → IsTickOf g J earlier e later v
      → let H = chronicle g earlier in let K = Comes e ∷ H in g.expired ≤ silent_for v.link K
      → is_entered K v ≡ true → IsTold (event.Exit v.id (view v.link K).name cause.Expired) (events_at g e H)
  pub not_sooner : (earlier : List Entry) (e : Entry) (later : List Entry) (v : Life) → IsTickOf g J earlier e later v
      → let H = chronicle g earlier in let K = Comes e ∷ H in silent_for v.link K < g.expired
      → list_any (tells_expired v.id) (events_at g e H) ≡ false
  pub only_at_ticks : (earlier : List Entry) (e : Entry) (later : List Entry) (p : PeerId) → J ≡ earlier ++ e ∷ later
      → e.input ≢ input.Tick → list_any (tells_expired p) (events_at g e (chronicle g earlier)) ≡ false
  pub at_first_tick : (earlier span : List Entry) (e : Entry) (later : List Entry) (v : Life)
      → IsFirstTick g J earlier span e later v → GoesAt g v (chronicle g (earlier ++ span)) e
  pub never_evasive : (p : PeerId) → ((earlier : List Entry) (e : Entry) (later : List Entry) (v : Life)
      → IsTickOf g J earlier e later v → v.id ≡ p → let K = Comes e ∷ chronicle g earlier in
      silent_for v.link K < g.evasive) → list_any (tells_evasive p) (events g J) ≡ false
