-- What is read off the rows is what the definitions ask, of a node that goes on and of one that rests.
use Rattle.std.proofs.Common.{◌≡◌, ℕ, Bool, true, false, cond, eqb, List, [], ◌∷◌, map, filter, find, Option, Some, None, is_some, option_and_then, refl, sym, ap, ◌∙◌, bytes_eq, eqb-true}
use Rattle.std.specs.Prelude.{option_map}
use Rattle.zre_values.specs.declared.peer_id.PeerId.{PeerId}
use Rattle.zre_msg.specs.declared.message.Message.{Message}
use Rattle.zre_peer.specs.Runs.{shown}
use Rattle.zre_peer.specs.Views.{view_of}
use Rattle.zre_journal.specs.Asked.{view_if_entered}
use Rattle.zre_values.specs.declared.settings.Settings.{Settings as Config}
use Rattle.zre_journal.specs.Chronicle.{Mark}
use Rattle.zre_journal.specs.Happens.{has_stopped}
use Rattle.zre_journal.specs.Peers.{Life, life, lives, runner, counted, is_entered}
use Rattle.zre_journal.proofs.EnteredPeersSpoke.{unheard_idle}
use Rattle.zre_journal.proofs.NumberedLists.{found_passes}
use Rattle.zre_tables.specs.Rows.{row_at}
use Rattle.zre_tables.specs.Views.{view_of_row, view_among, ids_entered}
use Rattle.zre_tables.specs.declared.peer.Peer.{Peer}
use Rattle.zre_node.specs.declared.tables.Tables.{Tables}
use Rattle.zre_node.specs.Journal.{StandsIn}
use Rattle.zre_tables.specs.Tabled.{Tabled}
use Rattle.zre_tables.specs.Runs.{HasRun}
use Rattle.zre_node.specs.Stands.{IsPeer, link_of_life}
use Rattle.zre_node.proofs.RowsOfKnownPeers.{its_row, no_row}

-- the rows are those of the known peers
pub rows : (g : Config) (H : List Mark) (t : Tables) → StandsIn g H t → Tabled (λ (v : Life). v.link) (IsPeer g H) (lives H) t.peers
rows g H t s = by (has_stopped H) refl
  where
    by : (b : Bool) → has_stopped H ≡ b → Tabled (λ (v : Life). v.link) (IsPeer g H) (lives H) t.peers
    by true z = let r = s.resting z in rw (r.none_known, r.no_peers) tt
    by false z = (s.going z).peers

-- the row of a link is that of a known peer, and keeps what is to be kept of it
pub asked : (g : Config) (H : List Mark) (t : Tables) → StandsIn g H t → (l : ℕ) (k : Peer) → Some k ≡ row_at l t.peers → (v : Life) × (life l H ≡ Some v) × (l ≡ v.link) × (k.link ≡ link_of_life g H v.link)
asked g H t s l k e =
    let it = its_row (IsPeer g H) H t.peers (rows g H t s) l k e in
    (it.0, it.1, eqb-true l it.0.link (found_passes (λ (u : Life). eqb l u.link) (lives H) it.0 it.1), it.2.link_is)

pub unasked : (g : Config) (H : List Mark) (t : Tables) → StandsIn g H t → (l : ℕ) → None ≡ row_at l t.peers → life l H ≡ None
unasked g H t s l e = no_row (IsPeer g H) H t.peers (rows g H t s) l e

-- what is told of it is told of the peer
pub answered : {A : Type 0} (g : Config) (H : List Mark) (t : Tables) → StandsIn g H t → (l : ℕ) (k : Peer) → Some k ≡ row_at l t.peers → (f : Life → A) (x : A) → ((v : Life) → k.link ≡ link_of_life g H v.link → x ≡ f v) → Some x ≡ option_map f (life l H)
answered g H t s l k e f x says =
    let it = asked g H t s l k e in
    ap (λ y. Some y) (says it.0 it.3) ∙ ap (option_map f) (sym it.1)

-- ---- views

shown_some : (ms : List Message) → (ms ≡ [] → ⊥) → shown ms ≡ Some (view_of ms)
shown_some [] n = absurd (n refl)
shown_some (m ∷ ms) n = refl

pub its_view : (g : Config) (H : List Mark) (v : Life) (k : Peer) → IsPeer g H v k → view_of_row k ≡ view_if_entered H v
its_view g H v k i = by (runner v.link H) refl i.run_is
  where
    by : (o : Option ℕ) → runner v.link H ≡ o → HasRun o v.id (counted v.link H) k.run → view_of_row k ≡ view_if_entered H v
    by None q h = rw (h, q) refl
    by (Some c) q h = rw (h.1, q) (h.2.stands.view ∙ shown_some (counted v.link H) (λ e. let z : runner v.link H ≡ None = unheard_idle v.link H e in cc))

has_run : (g : Config) (H : List Mark) (v : Life) (k : Peer) → IsPeer g H v k → is_some k.run ≡ is_entered H v
has_run g H v k i = by (runner v.link H) refl i.run_is
  where
    by : (o : Option ℕ) → runner v.link H ≡ o → HasRun o v.id (counted v.link H) k.run → is_some k.run ≡ is_entered H v
    by None q h = rw (h, q) refl
    by (Some c) q h = rw (h.1, q) refl

pub view_found : (g : Config) (H : List Mark) (p : PeerId) (vs : List Life) (es : List (ℕ × Peer)) → Tabled (λ (v : Life). v.link) (IsPeer g H) vs es
    → view_among p es ≡ option_and_then (view_if_entered H) (find (λ (v : Life). bytes_eq p.0 v.id.0) vs)
view_found g H p [] [] t = refl
view_found g H p [] (e ∷ es) t = absurd t
view_found g H p (v ∷ vs) [] t = absurd t
view_found g H p (v ∷ vs) (e ∷ es) t = rw (t.1.id_is, its_view g H v e.1 t.1) (by (view_found g H p vs es t.2) (bytes_eq p.0 v.id.0))
  where
    by : view_among p es ≡ option_and_then (view_if_entered H) (find (λ (u : Life). bytes_eq p.0 u.id.0) vs) → (b : Bool)
        → cond b (view_if_entered H v) (view_among p es) ≡ option_and_then (view_if_entered H) (cond b (Some v) (find (λ (u : Life). bytes_eq p.0 u.id.0) vs))
    by r true = refl
    by r false = r

pub all_entered : (g : Config) (H : List Mark) (vs : List Life) (es : List (ℕ × Peer)) → Tabled (λ (v : Life). v.link) (IsPeer g H) vs es
    → ids_entered es ≡ map (λ (v : Life). v.id) (filter (is_entered H) vs)
all_entered g H [] [] t = refl
all_entered g H [] (e ∷ es) t = absurd t
all_entered g H (v ∷ vs) [] t = absurd t
all_entered g H (v ∷ vs) (e ∷ es) t = rw (t.1.id_is, has_run g H v e.1 t.1) (by (all_entered g H vs es t.2) (is_entered H v))
  where
    by : ids_entered es ≡ map (λ (u : Life). u.id) (filter (is_entered H) vs) → (b : Bool)
        → cond b (v.id ∷ ids_entered es) (ids_entered es) ≡ map (λ (u : Life). u.id) (cond b (v ∷ filter (is_entered H) vs) (filter (is_entered H) vs))
    by r true = ap (λ (ids : List PeerId). v.id ∷ ids) r
    by r false = r
