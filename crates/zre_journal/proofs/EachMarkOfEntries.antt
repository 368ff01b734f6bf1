-- What is so of each mark that an entry brings about, past that it may come, and what follows for all of them.
use Rattle.std.proofs.Common.{◌≡◌, ℕ, Bool, true, false, eqb, List, [], ◌∷◌, sym, ap, ◌∙◌, ◌≤◌, true≢false, ne_eqb}
use Rattle.std.specs.List.{AllByRecursion}
use Rattle.zre_msg.specs.declared.message.Body.{Body}
use Rattle.zre_peer.specs.Runs.{is_hello}
use Rattle.zre_values.specs.declared.settings.Settings.{Settings as Config}
use Rattle.zre_journal.specs.Chronicle.{Mark, Comes, Opens, TurnsAway, Identifies, Starts, Counts, Closes, IsShut, ClosesAtStop, Born, Puts, PutsPong, Links, Joins, Leaves, Stops, ever}
use Rattle.zre_journal.specs.Connections.{is_open, is_new, refuses}
use Rattle.zre_journal.specs.Links.{is_linked}
use Rattle.zre_journal.specs.Proper.{IsProper}
use Rattle.zre_values.specs.declared.limits.TheConstants.{MESSAGE_OCTETS}
use Rattle.zre_journal.specs.Config.{CanBe}
use Rattle.zre_peer.specs.Views.{after as reading}
use Rattle.zre_peer.specs.declared.view.View.{View}
use Rattle.zre_journal.proofs.HelloOctets.{hello_octets}
use Rattle.zre_journal.proofs.WhenMarksCome.{May, Allowed, step, Each, each_map}
use Rattle.zre_journal.proofs.WithinLimits.{HasRoom, Fits, AllFit, room-more}
use Rattle.zre_journal.proofs.SoundMarks.{Sound, AreSound, IsOther, AreOthers, others_more}
use Rattle.zre_journal.proofs.HeardUnchanged.{Quiet, AreQuiet}

-- which connections something is said on, and whether the node stops
pub record Ground : Type 0 where
  pub of : ℕ → Bool
  pub stops : Bool

-- nothing is said, and the node goes on
abbrev pub silence : Ground
silence = record { of = λ c. false; stops = false }

-- a body that tells nothing of the node
pub record IsMild (b : Body) : Type 0 where
  pub leaves : (v : View) → reading v b ≡ v
  pub later : is_hello b ≡ false

-- a mark that leaves what is told as it is
abbrev pub Plain : Mark → Type 0
Plain (Comes e) = ⊥
Plain (Joins group) = ⊥
Plain (Leaves group) = ⊥
Plain (Born l p to) = ⊥
Plain (Puts l b) = IsMild b
Plain _ = Unit {0}

abbrev pub ArePlain : List Mark → Type 0
ArePlain hs = AllByRecursion Plain hs

-- tells: whether marks are among these that tell something of the node
module _ (g : Config) (w : Ground) (tells : Bool) where
  abbrev pub Also : Mark → List Mark → Type 0
  Also (Comes e) H = ⊥
  Also (Opens c) H = w.of c ≡ true
  Also (TurnsAway c) H = is_new c H ≡ true
  Also (Identifies c p) H = (w.of c ≡ true) × IsOther g p
  Also (Starts c l m) H = (w.of c ≡ true) × (ever (refuses c) H ≡ false) × (hello_octets m.body ≤ MESSAGE_OCTETS)
  Also (Counts c l m) H = w.of c ≡ true
  Also (Closes c why) H = is_open c H ≡ true
  Also (IsShut c) H = is_open c H ≡ true
  Also (ClosesAtStop c) H = is_open c H ≡ true
  Also (Born l p e) H = (tells ≡ true) × (AreOthers g H → IsOther g p)
  Also (Puts l b) H = (tells ≡ false → IsMild b) × (CanBe g → HasRoom g H → Fits g (Puts l b) H)
  Also (PutsPong l t) H = CanBe g → HasRoom g H → Fits g (PutsPong l t) H
  Also (Links l) H = is_linked l H ≡ false
  Also (Joins group) H = (tells ≡ true) × Fits g (Joins group) H
  Also (Leaves group) H = tells ≡ true
  Also Stops H = w.stops ≡ true
  Also _ H = Unit {0}

  abbrev pub Brought : Mark → List Mark → Type 0
  Brought h H = May h H × Also h H

  pub allowed : (hs H : List Mark) → Each Brought hs H → Allowed hs H
  allowed hs H b = each_map Brought May (λ h K a. a.0) hs H b

  -- ---- marks that don't stop the node

  sound_of : w.stops ≡ false → (h : Mark) (H : List Mark) → AreOthers g H → Also h H → Sound g h H
  sound_of on (Comes e) H o a = a
  sound_of on (TurnsAway c) H o a = a
  sound_of on (Identifies c p) H o a = a.1
  sound_of on (Closes c why) H o a = a
  sound_of on (IsShut c) H o a = a
  sound_of on (ClosesAtStop c) H o a = a
  sound_of on (Born l p e) H o a = a.1 o
  sound_of on (Links l) H o a = a
  sound_of on Stops H o a = absurd (true≢false (sym a ∙ on))
  sound_of on _ H o a = tt

  pub sound : w.stops ≡ false → (hs H : List Mark) → AreOthers g H → Each Brought hs H → AreSound g hs H
  sound on [] H o b = tt
  sound on (h ∷ hs) H o b = let s = sound_of on h H o b.0.1 in (s, sound on hs (h ∷ H) (others_more g h H s o) b.1)

  fits_of : w.stops ≡ false → CanBe g → (h : Mark) (H : List Mark) → HasRoom g H → Also h H → Fits g h H
  fits_of on can (Comes e) H r a = a
  fits_of on can (Starts c l m) H r a = (a.1, a.2)
  fits_of on can (Puts l b) H r a = a.1 can r
  fits_of on can (PutsPong l t) H r a = a can r
  fits_of on can (Joins group) H r a = a.1
  fits_of on can Stops H r a = absurd (true≢false (sym a ∙ on))
  fits_of on can _ H r a = tt

  pub fit : w.stops ≡ false → CanBe g → (hs H : List Mark) → IsProper H → HasRoom g H → Each Brought hs H → AllFit g hs H
  fit on can [] H q r b = tt
  fit on can (h ∷ hs) H q r b = let f = fits_of on can h H r b.0.1 in (f, fit on can hs (h ∷ H) (step h H q b.0.0) (room-more g h H q b.0.0 f r) b.1)

  -- ---- marks of other connections, and those that tell nothing of the node

  pub quiet : (d : ℕ) → w.of d ≡ false → (hs H : List Mark) → Each Brought hs H → AreQuiet d hs
  quiet d far [] H b = tt
  quiet d far (h ∷ hs) H b = (one h b.0.1, quiet d far hs (h ∷ H) b.1)
    where
      other : (c : ℕ) → w.of c ≡ true → eqb d c ≡ false
      other c o = ne_eqb d c (λ e. true≢false (sym o ∙ ap w.of (sym e) ∙ far))

      one : (h : Mark) → Also h H → Quiet d h
      one (Comes e) a = a
      one (Opens c) a = other c a
      one (Identifies c p) a = other c a.0
      one (Starts c l m) a = other c a.0
      one (Counts c l m) a = other c a
      one _ a = tt

  pub plain : tells ≡ false → (hs H : List Mark) → Each Brought hs H → ArePlain hs
  plain none [] H b = tt
  plain none (h ∷ hs) H b = (one h b.0.1, plain none hs (h ∷ H) b.1)
    where
      one : (h : Mark) → Also h H → Plain h
      one (Comes e) a = a
      one (Joins group) a = true≢false (sym a.0 ∙ none)
      one (Leaves group) a = true≢false (sym a ∙ none)
      one (Born l p e) a = true≢false (sym a.0 ∙ none)
      one (Puts l b) a = a.0 none
      one _ a = tt
