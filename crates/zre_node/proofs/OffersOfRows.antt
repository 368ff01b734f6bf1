-- Offers, at the tables.
use Rattle.std.proofs.Common.{◌≡◌, ℕ, Bool, true, false, cond, ◌&&◌, eqb, ltb, List, [], ◌∷◌, map, filter, refl, ap}
use Rattle.std.specs.List.{list_any}
use Rattle.zre_outside.specs.declared.act.Act.{Act}
use Rattle.zre_outside.specs.declared.act.Act.TheVariants as act
use Rattle.zre_values.specs.declared.settings.Settings.{Settings as Config}
use Rattle.zre_journal.specs.Chronicle.{Mark}
use Rattle.zre_journal.specs.Links.{gate, taken}
use Rattle.zre_journal.specs.Peers.{Life, lives}
use Rattle.zre_tables.specs.declared.peer.Peer.{Peer}
use Rattle.zre_tables.specs.Searches.{offered_among}
use Rattle.zre_tables.specs.Tabled.{Tabled}
use Rattle.zre_node.specs.Offers.{offered}
use Rattle.zre_node.specs.Stands.{IsPeer}

-- what is offered of the rows is what is offered of the peers
pub among : (g : Config) (K : List Mark) (pushed : List ℕ) (vs : List Life) (es : List (ℕ × Peer)) → Tabled (λ (v : Life). v.link) (IsPeer g K) vs es
    → offered_among pushed es ≡ map (λ (v : Life). act.Offer v.link) (filter (λ (v : Life). list_any (eqb v.link) pushed && ltb (taken v.link K) (gate g v.link K)) vs)
among g K pushed [] [] t = refl
among g K pushed [] (e ∷ es) t = absurd t
among g K pushed (v ∷ vs) [] t = absurd t
among g K pushed (v ∷ vs) (e ∷ es) t = rw (t.0, t.1.link_is) (by (among g K pushed vs es t.2) (list_any (eqb v.link) pushed && ltb (taken v.link K) (gate g v.link K)))
  where
    by : offered_among pushed es ≡ map (λ (u : Life). act.Offer u.link) (filter (λ (u : Life). list_any (eqb u.link) pushed && ltb (taken u.link K) (gate g u.link K)) vs) → (b : Bool)
        → cond b (act.Offer v.link ∷ offered_among pushed es) (offered_among pushed es)
        ≡ map (λ (u : Life). act.Offer u.link) (cond b (v ∷ filter (λ (u : Life). list_any (eqb u.link) pushed && ltb (taken u.link K) (gate g u.link K)) vs) (filter (λ (u : Life). list_any (eqb u.link) pushed && ltb (taken u.link K) (gate g u.link K)) vs))
    by r true = ap (λ (xs : List Act). act.Offer v.link ∷ xs) r
    by r false = r

-- where nothing was put on a link, nothing is offered
pub none_offered : (g : Config) (K : List Mark) → offered g K [] ≡ []
none_offered g K = by (lives K)
  where
    by : (vs : List Life) → map (λ (v : Life). act.Offer v.link) (filter (λ (v : Life). list_any (eqb v.link) [] && ltb (taken v.link K) (gate g v.link K)) vs) ≡ []
    by [] = refl
    by (v ∷ vs) = by vs
