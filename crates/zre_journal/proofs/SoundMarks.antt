-- What the marks of an entry are, past that they may come: none is an entry or a stop, what closes was open, a link is up once, and no peer is the node itself.
use Rattle.std.proofs.Common.{◌≡◌, ℕ, Bool, true, false, cond, eqb, List, [], ◌∷◌, Some, None, subst}
use Rattle.std.specs.Option.{option_or}
use Rattle.std.specs.Str.{bytes_eq}
use Rattle.zre_values.specs.declared.peer_id.PeerId.{PeerId}
use Rattle.zre_values.specs.declared.settings.Settings.{Settings as Config}
use Rattle.zre_journal.specs.Chronicle.{Mark, Comes, TurnsAway, Identifies, Closes, IsShut, ClosesAtStop, Born, Links, Stops, after}
use Rattle.zre_journal.specs.Connections.{is_open, is_new, identity}
use Rattle.zre_journal.specs.Links.{is_linked}
use Rattle.zre_journal.proofs.WhenMarksCome.{Each}

module _ (g : Config) where
  abbrev pub IsOther : PeerId → Type 0
  IsOther p = bytes_eq p.0 g.id.0 ≡ false

  -- whether a mark is so after H. Neither an entry nor a stop is among those that are asked
  abbrev pub Sound : Mark → List Mark → Type 0
  Sound (Comes e) H = ⊥
  Sound (TurnsAway c) H = is_new c H ≡ true
  Sound (Identifies c p) H = IsOther p
  Sound (Closes c why) H = is_open c H ≡ true
  Sound (IsShut c) H = is_open c H ≡ true
  Sound (ClosesAtStop c) H = is_open c H ≡ true
  Sound (Born l p e) H = IsOther p
  Sound (Links l) H = is_linked l H ≡ false
  Sound Stops H = ⊥
  Sound _ H = Unit {0}

  -- whether marks are, each after those before it
  abbrev pub AreSound : List Mark → List Mark → Type 0
  AreSound hs H = Each Sound hs H

  -- who has come on a connection isn't the node itself
  abbrev pub AreOthers : List Mark → Type 0
  AreOthers H = (c : ℕ) (p : PeerId) → identity c H ≡ Some p → IsOther p

  pub others_more : (h : Mark) (H : List Mark) → Sound h H → AreOthers H → AreOthers (h ∷ H)
  others_more (Identifies d i) H s o = λ c p. by c p (eqb c d)
    where
      by : (c : ℕ) (p : PeerId) (b : Bool) → option_or (cond b (Some i) None) (identity c H) ≡ Some p → IsOther p
      by c p true e = let same : i ≡ p = cc in subst IsOther same s
      by c p false e = o c p e
  others_more _ H s o = o

  pub others_after : (hs H : List Mark) → AreSound hs H → AreOthers H → AreOthers (after hs H)
  others_after [] H s o = o
  others_after (h ∷ hs) H s o = others_after hs (h ∷ H) s.1 (others_more h H s.0 o)
