-- A body put on several links, one after the other.
use Rattle.std.proofs.Common.{◌≡◌, ℕ, ◌+◌, ◌<◌, zero, suc, Bool, true, false, ◌&&◌, eqb, ltb, if◌then◌else◌, List, [], ◌∷◌, ◌++◌, map, filter, take, length, get_or, Option, Some, None, IsSome, is_some, refl, sym, ap, ◌∙◌, subst, arith}
use Rattle.std.specs.List.{AllByRecursion}
use Rattle.zre_msg.specs.declared.message.Body.{Body}
use Rattle.zre_msg.specs.declared.message.Message.{Message}
use Rattle.zre_values.specs.declared.peer_id.PeerId.{PeerId}
use Rattle.zre_peer.specs.declared.causes.Cause.TheVariants as cause
use Rattle.zre_peer.specs.Runs.{shown}
use Rattle.zre_peer.specs.Views.{view_of}
use Rattle.zre_link.specs.Text.{Member, size_of}
use Rattle.zre_values.specs.declared.settings.Settings.{Settings as Config}
use Rattle.zre_journal.specs.Chronicle.{Mark, Puts, Ends, after, followed, in_turn}
use Rattle.zre_journal.specs.Peers.{Life, lives, life, runner, counted}
use Rattle.zre_journal.specs.Links.{line, put_on, taken, unsent}
use Rattle.zre_journal.specs.Commands.{has_group, is_member}
use Rattle.zre_journal.specs.Pushes.{push, push_all}
use Rattle.zre_journal.proofs.JoinedEntries.{after-append}
use Rattle.zre_journal.proofs.KnownPeers.{each_known}
use Rattle.zre_journal.proofs.NumberedLists.{All-kept, Apart-kept}
use Rattle.zre_tables.specs.declared.peer.Peer.{Peer}
use Rattle.zre_node.specs.declared.tables.Tables.{Tables}
use Rattle.zre_tables.specs.Views.{lists_group, row_in}
use Rattle.zre_tables.specs.Rows.{numbers_of}
use Rattle.zre_tables.specs.Runs.{HasRun}
use Rattle.zre_node.specs.Stands.{Holds, AreKnown, IsPeer}
use Rattle.zre_node.proofs.MarksAfterMarks.{still_known}
use Rattle.zre_node.proofs.BodyOnOneLink.{Alike, alike_after, same_push}
use Rattle.zre_node.proofs.StopOfNode.{link_list, known_from}
use Rattle.zre_tables.proofs.RowsThatPass.{numbers_are}

-- ---- each of the peers is known when its turn comes

-- a push leaves the other peers known
pushed_known : (g : Config) (l : ℕ) (b : Body) (K : List Mark) (ks : List ℕ) → AllByRecursion (λ k. eqb l k ≡ false) ks → AreKnown K ks → AreKnown (after (push g l b K) K) ks
pushed_known g l b K ks a known = by (ltb 4194304 (unsent g l K + size_of (line l K) b))
  where
    kept : (ms : List ℕ) → AreKnown K ms → AreKnown (Puts l b ∷ K) ms
    kept [] n = tt
    kept (m ∷ ms) n = (n.0, n.1, kept ms n.2)

    by : (q : Bool) → AreKnown (after (if q then Ends l (cause.Slow (unsent g l K) (size_of (line l K) b)) ∷ [] else Puts l b ∷ []) K) ks
    by true = still_known K l (cause.Slow (unsent g l K) (size_of (line l K) b)) ks a known
    by false = kept ks known

pub known_in_turn : (g : Config) (b : Body) (ls : List ℕ) (K : List Mark) (i : ℕ) → i < length ls → AreKnown K ls → IsSome (life (get_or ls i 0) (after (in_turn (λ l J. push g l b J) (take i ls) K) K))
known_in_turn g b [] K i low k = absurd (omega arith)
known_in_turn g b (l ∷ ls) K zero low k = k.0
known_in_turn g b (l ∷ ls) K (suc i) low k =
    subst (λ J. IsSome (life (get_or ls i 0) J)) (sym (after-append (push g l b K) (in_turn (λ m J. push g m b J) (take i ls) (after (push g l b K) K)) K))
    (known_in_turn g b ls (after (push g l b K) K) i (omega arith) (pushed_known g l b K ls k.1 k.2))

-- ---- links of lives

in_turn-map : {A B : Type 0} (f : B → List Mark → List Mark) (key : A → B) (xs : List A) (K : List Mark) → in_turn f (map key xs) K ≡ in_turn (λ x J. f (key x) J) xs K
in_turn-map f key [] K = refl
in_turn-map f key (x ∷ xs) K = ap (λ hs. f (key x) K ++ hs) (in_turn-map f key xs (after (f (key x) K) K))

-- pushes to the links of these lives are pushes to these lives
pub push_links : (g : Config) (ls : List ℕ) (vs : List Life) (b : Body) (K : List Mark) → ls ≡ link_list vs → push_all g vs b K ≡ in_turn (λ l J. push g l b J) ls K
push_links g ls vs b K e = sym (ap (λ (xs : List ℕ). in_turn (λ l J. push g l b J) xs K) e ∙ in_turn-map (λ l J. push g l b J) (λ (v : Life). v.link) vs K)

-- ---- a push looks at its own link alone

same_pushes : (g : Config) (vs : List Life) (b : Body) (I K : List Mark) → Alike I K → push_all g vs b I ≡ push_all g vs b K
same_pushes g [] b I K a = refl
same_pushes g (v ∷ vs) b I K a =
    ap (λ hs. hs ++ push_all g vs b (after hs I)) (same_push g v.link b I K a)
    ∙ ap (λ ks. push g v.link b K ++ ks) (same_pushes g vs b (after (push g v.link b K) I) (after (push g v.link b K) K) (alike_after (push g v.link b K) I K a))

-- a mark that puts nothing and takes nothing changes no push
pub pushed_after : (g : Config) (vs : List Life) (b : Body) (h : Mark) (K : List Mark) → ((l : ℕ) → (put_on l h ≡ None) × (taken l (h ∷ K) ≡ taken l K)) → push_all g vs b (h ∷ K) ≡ push_all g vs b K
pushed_after g vs b h K n = same_pushes g vs b (h ∷ K) K (λ l. (ap (λ (o : Option Member). followed (line l K) o) (n l).0, (n l).1))

-- ---- members

-- a view that is shown has the groups that messages told
shows : (group : List ℕ) (ms : List Message) → lists_group group (shown ms) ≡ has_group group (view_of ms).groups
unfolding view_of
shows group [] = refl
shows group (m ∷ ms) = refl

-- a row tells what the messages of its peer told
in_row : (o : Option ℕ) (id : PeerId) (ms : List Message) (k : Peer) (group : List ℕ) → HasRun o id ms k.run → row_in group k ≡ (is_some o && has_group group (view_of ms).groups)
in_row None id ms k group h = rw h refl
in_row (Some c) id ms k group h = rw (h.1, h.2.stands.view) (shows group ms)

pub members_are : (g : Config) (K : List Mark) (t : Tables) → Holds g K t → (group : List ℕ) → numbers_of (row_in group) t.peers ≡ link_list (filter (is_member g group K) (lives K))
members_are g K t h group =
    numbers_are (λ (v : Life). v.link) (IsPeer g K) (row_in group) (is_member g group K) (λ v k is. in_row (runner v.link K) v.id (counted v.link K) k group is.run_is) (lives K) t.peers h.peers

-- some of the known peers are known
pub some_known : (g : Config) (K : List Mark) (t : Tables) → Holds g K t → (p : Life → Bool) → AreKnown K (link_list (filter p (lives K)))
some_known g K t h p = known_from K (filter p (lives K)) (Apart-kept (λ (v : Life). v.link) p (lives K) h.keeps.proper.living.apart) (All-kept (λ (v : Life). IsSome (life v.link K)) p (lives K) (each_known K))
