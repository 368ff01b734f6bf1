-- A datagram: which marks it leaves, by what the code tests.
use Rattle.std.proofs.Common.{◌≡◌, ℕ, Bool, true, false, cond, eqb, List, [], ◌∷◌, length, Option, Some, None, IsSome, option_map, find, refl, ap, ◌∙◌, ne_eqb, bytes_eq, subst}
use Rattle.zre_values.specs.declared.peer_id.PeerId.{PeerId}
use Rattle.zre_beacon.specs.Beacon.{beacon_in}
use Rattle.zre_peer.specs.declared.causes.Cause.TheVariants as cause
use Rattle.zre_values.specs.declared.settings.Settings.{Settings as Config}
use Rattle.zre_journal.specs.Chronicle.{Mark, Ends, HearsBeacon}
use Rattle.zre_journal.specs.Peers.{Life, lives, life, life_of}
use Rattle.zre_journal.specs.Happens.{is_welcome, at_datagram}
use Rattle.zre_journal.specs.Pushes.{birth}
use Rattle.zre_tables.specs.declared.peer.Peer.{Peer}
use Rattle.zre_node.specs.declared.tables.Tables.{Tables}
use Rattle.zre_tables.specs.Tabled.{Tabled}
use Rattle.zre_tables.specs.Searches.{link_among}
use Rattle.zre_node.specs.Stands.{Holds, IsPeer}
use Rattle.zre_tables.proofs.EntriesOfMaps.{as_many}
use Rattle.zre_journal.proofs.KnownPeers.{known_of}

-- a search of the rows by an id finds the link of the known peer
pub link_in_rows : (g : Config) (H : List Mark) (p : PeerId) (vs : List Life) (es : List (ℕ × Peer)) → Tabled (λ (v : Life). v.link) (IsPeer g H) vs es
    → link_among p es ≡ option_map (λ (v : Life). v.link) (find (λ (v : Life). bytes_eq p.0 v.id.0) vs)
link_in_rows g H p [] [] t = refl
link_in_rows g H p [] (e ∷ es) t = absurd t
link_in_rows g H p (v ∷ vs) [] t = absurd t
link_in_rows g H p (v ∷ vs) (e ∷ es) t = rw (t.0, t.1.id_is) (by (link_in_rows g H p vs es t.2) (bytes_eq p.0 v.id.0))
  where
    by : link_among p es ≡ option_map (λ (u : Life). u.link) (find (λ (u : Life). bytes_eq p.0 u.id.0) vs) → (b : Bool)
        → cond b (Some v.link) (link_among p es) ≡ option_map (λ (u : Life). u.link) (cond b (Some v) (find (λ (u : Life). bytes_eq p.0 u.id.0) vs))
    by r true = refl
    by r false = r

-- the code's search finds the known peer
pub link_found : (g : Config) (H : List Mark) (t : Tables) (p : PeerId) → Holds g H t → link_among p t.peers ≡ option_map (λ (v : Life). v.link) (life_of p H)
link_found g H t p h = link_in_rows g H p (lives H) t.peers h.peers

-- the peer of a found link
pub its_life : (o : Option Life) (l : ℕ) → Some l ≡ option_map (λ (v : Life). v.link) o → (v : Life) × (o ≡ Some v) × (v.link ≡ l)
its_life None l e = cc
its_life (Some v) l e = (v, refl, cc)

pub no_life : (o : Option Life) → None ≡ option_map (λ (v : Life). v.link) o → o ≡ None
no_life None e = refl
no_life (Some v) e = cc

-- the known peer whose link the code's search finds
pub known_by : (g : Config) (H : List Mark) (t : Tables) (p : PeerId) (l : ℕ) → Holds g H t → Some l ≡ link_among p t.peers → (v : Life) × (life_of p H ≡ Some v) × (v.link ≡ l) × IsSome (life l H)
known_by g H t p l h e =
    let v = its_life (life_of p H) l (e ∙ link_found g H t p h) in
    let k : IsSome (life v.0.link H) = rw (known_of H h.keeps.proper p v.0 v.1) refl in
    (v.0, v.1, v.2, subst (λ j. IsSome (life j H)) v.2 k)

pub unknown_by : (g : Config) (H : List Mark) (t : Tables) (p : PeerId) → Holds g H t → None ≡ link_among p t.peers → life_of p H ≡ None
unknown_by g H t p h e = no_life (life_of p H) (e ∙ link_found g H t p h)

module _ (g : Config) (from o : List ℕ) (H : List Mark) (p : PeerId) (port : ℕ) (b : beacon_in o ≡ Some (p, port)) where
  pub ends_it : (v : Life) → life_of p H ≡ Some v → port ≡ 0 → at_datagram g from (beacon_in o) H ≡ Ends v.link cause.Beacon ∷ []
  ends_it v k z = rw (b, k, z) refl

  pub renews_it : (v : Life) → life_of p H ≡ Some v → (port ≡ 0 → ⊥) → at_datagram g from (beacon_in o) H ≡ HearsBeacon v.link ∷ []
  renews_it v k z = let off : eqb port 0 ≡ false = ne_eqb port 0 z in rw (b, k, off) refl

  pub bears_it : life_of p H ≡ None → is_welcome g p port (length (lives H)) ≡ true → at_datagram g from (beacon_in o) H ≡ birth g p (record { addr = from; port = port }) H
  bears_it k w = rw (b, k, w) refl

  pub leaves_it : life_of p H ≡ None → is_welcome g p port (length (lives H)) ≡ false → at_datagram g from (beacon_in o) H ≡ []
  leaves_it k w = rw (b, k, w) refl

pub no_beacon : (g : Config) (from o : List ℕ) (H : List Mark) → beacon_in o ≡ None → at_datagram g from (beacon_in o) H ≡ []
no_beacon g from o H b = rw b refl

-- the code's test is that of the chronicle
pub welcome_is : (g : Config) (H : List Mark) (t : Tables) (p : PeerId) (port : ℕ) → Holds g H t → is_welcome t.config p port (length t.peers) ≡ is_welcome g p port (length (lives H))
welcome_is g H t p port h = ap (λ (c : Config). is_welcome c p port (length t.peers)) h.keeps.config ∙ ap (is_welcome g p port) (as_many (λ (v : Life). v.link) (IsPeer g H) (lives H) t.peers h.peers)
