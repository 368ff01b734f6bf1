-- Peers found in their table, and taken out of it.
use Rattle.std.proofs.Common.{◌≡◌, ℕ, List, Option, Some, None, IsSome, sym, ◌∙◌, nat_cmp, subst, refl}
use Rattle.std.specs.BTreeMap.{is_at}
use Rattle.std.specs.Map.{lookup, remove_entry}
use Rattle.zre_msg.specs.declared.message.Message.{Message}
use Rattle.zre_peer.specs.Runs.{shown}
use Rattle.zre_peer.specs.Standing.{view_in}
use Rattle.zre_values.specs.declared.peer_id.PeerId.{PeerId}
use Rattle.zre_values.specs.declared.settings.Settings.{Settings as Config}
use Rattle.zre_journal.specs.Chronicle.{Mark}
use Rattle.zre_journal.specs.Peers.{Life, lives, life, runner, counted, other_lives}
use Rattle.zre_tables.specs.declared.peer.Peer.{Peer}
use Rattle.zre_tables.specs.declared.peer.CarriedRun.{CarriedRun}
use Rattle.zre_node.specs.declared.tables.Tables.{Tables}
use Rattle.zre_tables.specs.Tabled.{Tabled}
use Rattle.zre_tables.specs.Runs.{IsRunning, HadRun, HasRun}
use Rattle.zre_node.specs.Stands.{Holds, Keeps, Nearly, Parted, IsLeaving, IsBut, IsPeer}
use Rattle.zre_tables.proofs.EntriesOfMaps.{Row, Is, IsNone, row, removed, retold}
use Rattle.zre_node.proofs.UnchangedByMarks.{keeps_as}

pub keeps_with : (g : Config) (H : List Mark) (t : Tables) → Keeps g H t → (P : List (ℕ × Peer)) → Keeps g H (record t { peers = P })
keeps_with g H t k P = keeps_as g H _ _ _ k k.proper refl (refl, refl, refl) k.clock_is k.births_is k.last_is k.groups_fit k.own k.conns

-- the row of a known peer
pub data PeerRow (P : Life → Peer → Type 0) (H : List Mark) (l : ℕ) (o : Option Peer) : Type 0 where
  Found : (v : Life) (k : Peer) → life l H ≡ Some v → o ≡ Some k → P v k → PeerRow P H l o
  Missing : life l H ≡ None → o ≡ None → PeerRow P H l o

pub peer_row : (P : Life → Peer → Type 0) (H : List Mark) (es : List (ℕ × Peer)) → Tabled (λ (v : Life). v.link) P (lives H) es → (l : ℕ) → PeerRow P H l (lookup (is_at (nat_cmp l)) es)
peer_row P H es t l = by (row (λ (v : Life). v.link) P l (lives H) es t)
  where
    by : Row (λ (v : Life). v.link) P l (lives H) (lookup (is_at (nat_cmp l)) es) → PeerRow P H l (lookup (is_at (nat_cmp l)) es)
    by (Is v k f o q p) = Found v k f o p
    by (IsNone f o) = Missing f o

-- what is found is the row of that life
pub its_row : (P : Life → Peer → Type 0) (H : List Mark) (es : List (ℕ × Peer)) → Tabled (λ (v : Life). v.link) P (lives H) es → (l : ℕ) (k : Peer) → Some k ≡ lookup (is_at (nat_cmp l)) es → (v : Life) × (life l H ≡ Some v) × P v k
its_row P H es t l k e = by (peer_row P H es t l)
  where
    by : PeerRow P H l (lookup (is_at (nat_cmp l)) es) → (v : Life) × (life l H ≡ Some v) × P v k
    by (Found v w f o p) = let z : Some k ≡ Some w = e ∙ o in let same : k ≡ w = cc in (v, f, subst (P v) (sym same) p)
    by (Missing f o) = let z : Some k ≡ None = e ∙ o in cc

pub no_row : (P : Life → Peer → Type 0) (H : List Mark) (es : List (ℕ × Peer)) → Tabled (λ (v : Life). v.link) P (lives H) es → (l : ℕ) → None ≡ lookup (is_at (nat_cmp l)) es → life l H ≡ None
no_row P H es t l e = by (peer_row P H es t l)
  where
    by : PeerRow P H l (lookup (is_at (nat_cmp l)) es) → life l H ≡ None
    by (Found v w f o p) = let z : None ≡ Some w = e ∙ o in cc
    by (Missing f o) = f

pub not_missing : {C : Type 0} (o : Option Life) → IsSome o → o ≡ None → C
not_missing None s e = cc
not_missing (Some v) s e = cc

-- a known peer has a row
pub known_row : (P : Life → Peer → Type 0) (H : List Mark) (es : List (ℕ × Peer)) → Tabled (λ (v : Life). v.link) P (lives H) es → (l : ℕ) → IsSome (life l H) → (k : Peer) × (lookup (is_at (nat_cmp l)) es ≡ Some k)
known_row P H es t l s = by (peer_row P H es t l)
  where
    by : PeerRow P H l (lookup (is_at (nat_cmp l)) es) → (k : Peer) × (lookup (is_at (nat_cmp l)) es ≡ Some k)
    by (Found v k f o p) = (k, o)
    by (Missing f o) = not_missing (life l H) s f

-- ---- a peer that ends

-- a run shows its view
pub shows : (x : CarriedRun) (c : ℕ) (id : PeerId) (ms : List Message) → IsRunning c id ms x → (x.conn ≡ c) × (view_in x.run ≡ shown ms)
shows x c id ms r = (r.conn, r.stands.view)

had : (o : Option ℕ) (id : PeerId) (ms : List Message) (r : Option CarriedRun) → HasRun o id ms r → HadRun o ms r
had None id ms r h = h
had (Some c) id ms r h = (h.0, h.1, h.2.conn, h.2.stands.view)

pub leaves : (g : Config) (H : List Mark) (v : Life) (k : Peer) → IsPeer g H v k → IsLeaving H v k
leaves g H v k p = record { id_is = p.id_is; run_is = had (runner v.link H) v.id (counted v.link H) k.run p.run_is }

pub nearly : (g : Config) (H : List Mark) (l : ℕ) (t : Tables) → Holds g H t → Nearly g H l t
nearly g H l t h = record {
  keeps = h.keeps;
  peers = retold (λ (v : Life). v.link) (IsPeer g H) (IsBut g H l) (λ v k p. record { leaving = leaves g H v k p; staying = λ far. p }) (lives H) t.peers h.peers;
}

pub parts : (g : Config) (H : List Mark) (l : ℕ) (t : Tables) → Nearly g H l t → (k : Peer) → Some k ≡ lookup (is_at (nat_cmp l)) t.peers
    → (P : List (ℕ × Peer)) → P ≡ remove_entry (is_at (nat_cmp l)) t.peers → Parted g H l k (record t { peers = P })
parts g H l t n k e P is =
    let r = its_row (IsBut g H l) H t.peers n.peers l k e in
    record {
      keeps = keeps_with g H t n.keeps P;
      gone = r.0;
      known = r.1;
      leaving = r.2.leaving;
      peers = subst (λ es. Tabled (λ (v : Life). v.link) (IsPeer g H) (other_lives l (lives H)) es) (sym is)
          (removed (λ (v : Life). v.link) (IsBut g H l) (IsPeer g H) l (λ v w far b. b.staying far) (lives H) t.peers n.keeps.proper.living.apart n.peers);
    }

-- a known peer has its row
pub peer_of : (P : Life → Peer → Type 0) (H : List Mark) (es : List (ℕ × Peer)) → Tabled (λ (v : Life). v.link) P (lives H) es → (l : ℕ) (v : Life) → life l H ≡ Some v → (k : Peer) × (lookup (is_at (nat_cmp l)) es ≡ Some k)
peer_of P H es t l v e = by (peer_row P H es t l)
  where
    by : PeerRow P H l (lookup (is_at (nat_cmp l)) es) → (k : Peer) × (lookup (is_at (nat_cmp l)) es ≡ Some k)
    by (Found u k f o p) = (k, o)
    by (Missing f o) = let z : None ≡ Some v = sym f ∙ e in absurd cc
