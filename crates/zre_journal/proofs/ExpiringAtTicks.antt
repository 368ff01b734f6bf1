-- Those that expire at a tick, those that are evasive, and the connections that have waited too long.
use Rattle.std.proofs.Common.{◌≡◌, ℕ, ◌-◌, Bool, true, false, not, ◌&&◌, leb, List, Option, Some, None, IsSome, is_none, filter, refl, ◌∙◌, is_some, ap}
use Rattle.std.proofs.lemmas.Bool.{and_parts}
use Rattle.std.specs.List.{AllByRecursion}
use Rattle.zre_values.specs.declared.settings.Settings.{Settings as Config}
use Rattle.zre_journal.specs.Chronicle.{Mark, after}
use Rattle.zre_journal.specs.Heard.{clock}
use Rattle.zre_journal.specs.Connections.{open_ones, runs, since}
use Rattle.zre_journal.specs.Peers.{Life, lives, life, is_entered, runner}
use Rattle.zre_journal.specs.Proper.{IsProper, Apart}
use Rattle.zre_journal.specs.Ticks.{is_silent, is_evasive, is_stale}
use Rattle.zre_peer.specs.declared.causes.Cause.TheVariants as cause
use Rattle.zre_journal.proofs.NumberedLists.{All-kept, Apart-kept, All-passing}
use Rattle.zre_journal.proofs.KnownPeers.{AreKnown, each_known, end_all, ends_known, kept_far, ends_run}
use Rattle.zre_journal.proofs.IdleConnections.{idle_after, AreNoStarts}

-- each of these is entered
abbrev pub AreEntered : List Mark → List Life → Type 0
AreEntered H vs = AllByRecursion (λ (v : Life). is_some (runner v.link H) ≡ true) vs

abbrev pub expiring : Config → List Mark → List Life
expiring g K = filter (is_silent g g.expired K) (lives K)

abbrev pub wavering : Config → List Mark → List Life
wavering g K = filter (is_evasive g K) (lives K)

abbrev pub stale : Config → List Mark → List ℕ
stale g K = filter (is_stale g K) (open_ones K)

-- the chronicle where those that expire have ended
abbrev pub expired : Config → List Mark → List Mark
expired g K = after (end_all cause.Expired (expiring g K)) K

module _ (g : Config) (K : List Mark) where
  -- who expires doesn't waver
  pub excludes : (v : Life) → is_silent g g.expired K v ≡ true → is_evasive g K v ≡ false
  excludes v e = rw e (by (is_entered K v))
    where
      by : (b : Bool) → (b && not true && is_silent g g.evasive K v) ≡ false
      by true = refl
      by false = refl

  module _ (q : IsProper K) where
    pub expiring_apart : Apart (λ (v : Life). v.link) (expiring g K)
    expiring_apart = Apart-kept (λ (v : Life). v.link) (is_silent g g.expired K) (lives K) q.living.apart

    pub wavering_apart : Apart (λ (v : Life). v.link) (wavering g K)
    wavering_apart = Apart-kept (λ (v : Life). v.link) (is_evasive g K) (lives K) q.living.apart

    pub stale_apart : Apart (λ (c : ℕ). c) (stale g K)
    stale_apart = Apart-kept (λ (c : ℕ). c) (is_stale g K) (open_ones K) q.opening.open_apart

    -- who wavers is known after the ends of those that expire
    pub wavering_known : AreKnown (expired g K) (wavering g K)
    wavering_known = ends_known cause.Expired (expiring g K) (wavering g K) K (kept_far (is_silent g g.expired K) (is_evasive g K) excludes (lives K) q.living.apart)
        (All-kept (λ (v : Life). IsSome (life v.link K)) (is_evasive g K) (lives K) (each_known K))

  pub expiring_known : AreKnown K (expiring g K)
  expiring_known = All-kept (λ (v : Life). IsSome (life v.link K)) (is_silent g g.expired K) (lives K) (each_known K)

  -- and entered
  pub wavering_entered : AreEntered (expired g K) (wavering g K)
  wavering_entered = All-passing (λ (v : Life). is_some (runner v.link (expired g K)) ≡ true) (is_evasive g K) (λ v e. ap is_some (ends_run cause.Expired (expiring g K) v.link K) ∙ entered v e) (lives K)
    where
      entered : (v : Life) → is_evasive g K v ≡ true → is_some (runner v.link K) ≡ true
      entered v e = by (is_some (runner v.link K)) e
        where
          by : (b : Bool) → (b && not (is_silent g g.expired K v) && is_silent g g.evasive K v) ≡ true → b ≡ true
          by true z = refl
          by false z = cc

  -- the connections run no peer, after marks that start nothing too
  pub stale_idle : (hs : List Mark) → AreNoStarts hs → AllByRecursion (λ c. runs c (after hs K) ≡ None) (stale g K)
  stale_idle hs n = All-passing (λ c. runs c (after hs K) ≡ None) (is_stale g K) (λ c e. idle_after hs K c n (idle c e)) (open_ones K)
    where
      idle : (c : ℕ) → is_stale g K c ≡ true → runs c K ≡ None
      idle c e = none (runs c K) (and_parts (is_none (runs c K)) (leb g.expired (clock K - since c K)) e).0
        where
          none : (o : Option ℕ) → is_none o ≡ true → o ≡ None
          none None z = refl
          none (Some l) z = cc
