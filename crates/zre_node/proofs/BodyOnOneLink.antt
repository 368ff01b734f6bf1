-- A body put on a link, at the tables.
use Rattle.std.proofs.Common.{◌≡◌, ℕ, ◌+◌, ◌-◌, ◌<◌, ◌≤◌, true, false, eqb, ltb, if◌then◌else◌, List, [], ◌∷◌, ◌++◌, length, Some, refl, sym, ap, ◌∙◌, nat_cmp, subst, eq-eqb, eqb-true, lt-ltb, le-ltb, append-nil}
use Rattle.std.specs.List.{list_any}
use Rattle.std.specs.BTreeMap.{is_at}
use Rattle.std.specs.Map.{lookup, set_value}
use Rattle.std.proofs.lemmas.List.Folds.{list_any-append}
use Rattle.zre_msg.specs.declared.message.Body.{Body}
use Rattle.zre_peer.specs.declared.causes.Cause.TheVariants as cause
use Rattle.zre_link.specs.Link.{Sending, link_after}
use Rattle.zre_link.specs.Text.{Member, Says, text_of, size_of}
use Rattle.zre_values.specs.declared.settings.Settings.{Settings as Config}
use Rattle.zre_journal.specs.Chronicle.{Mark, Puts, Sends, Ends, after, followed}
use Rattle.zre_journal.specs.Peers.{Life, lives, life}
use Rattle.zre_journal.specs.Links.{line, put_on, is_linked, replies, taken, unsent}
use Rattle.zre_journal.specs.Pushes.{push}
use Rattle.zre_journal.proofs.ProperAfterMarks.{known_lives, Puts-proper}
use Rattle.zre_journal.proofs.NumberedLists.{eqb-comm, found_passes}
use Rattle.zre_tables.specs.declared.peer.Peer.{Peer}
use Rattle.zre_node.specs.declared.tables.Tables.{Tables}
use Rattle.zre_node.specs.declared.effects.Effects.{Effects}
use Rattle.zre_tables.specs.Tabled.{Tabled}
use Rattle.zre_node.specs.Stands.{Holds, Did, IsPeer, link_of_life}
use Rattle.zre_tables.proofs.EntriesOfMaps.{changed}
use Rattle.zre_node.proofs.RowsOfKnownPeers.{its_row, keeps_with}
use Rattle.zre_node.proofs.UnchangedByMarks.{keeps_as}

module _ (g : Config) (K : List Mark) (t : Tables) (h : Holds g K t) (l : ℕ) (k : Peer) (was : Some k ≡ lookup (is_at (nat_cmp l)) t.peers) where
  its : (v : Life) × (life l K ≡ Some v) × IsPeer g K v k
  its = its_row (IsPeer g K) K t.peers h.peers l k was

  link_is : l ≡ its.0.link
  link_is = eqb-true l its.0.link (found_passes (λ (u : Life). eqb l u.link) (lives K) its.0 its.1)

  -- the link of a row is what is kept of link l
  pub row_link : k.link ≡ link_after g.id (line l K) (is_linked l K) (replies l K) (taken l K)
  row_link = its.2.link_is ∙ ap (link_of_life g K) (sym link_is)

  -- a row whose link is as before
  pub written_back : (o : Sending) (P : List (ℕ × Peer)) → o ≡ k.link → P ≡ set_value (is_at (nat_cmp l)) t.peers (record k { link = o }) → Holds g K (record t { peers = P })
  written_back o P same put = record {
    keeps = keeps_with g K t h.keeps P;
    peers = subst (λ es. Tabled (λ (v : Life). v.link) (IsPeer g K) (lives K) es) (sym put)
        (changed (λ (v : Life). v.link) (IsPeer g K) (IsPeer g K) l (record k { link = o }) (λ v w far is. is) (lives K) t.peers h.keeps.proper.living.apart
        (λ v f. let at : v ≡ its.0 = (let z : Some v ≡ Some its.0 = sym f ∙ its.1 in cc) in
        let is = subst (λ u. IsPeer g K u k) (sym at) its.2 in
        record { id_is = is.id_is; active_is = is.active_is; run_is = is.run_is; link_is = same ∙ is.link_is }) h.peers);
  }

  -- a row on whose link a body was put
  pub puts_it : (b : Body) (o : Sending) (P : List (ℕ × Peer)) → o ≡ link_after g.id (line l K ++ Says b ∷ []) (is_linked l K) (replies l K) (taken l K)
      → P ≡ set_value (is_at (nat_cmp l)) t.peers (record k { link = o }) → Holds g (Puts l b ∷ K) (record t { peers = P })
  puts_it b o P new put = record {
    keeps = keeps_as g K _ _ _ h.keeps (Puts-proper K h.keeps.proper l b (known_lives K h.keeps.proper l its.0 its.1).1) refl (refl, refl, refl) h.keeps.clock_is h.keeps.births_is h.keeps.last_is h.keeps.groups_fit h.keeps.own h.keeps.conns;
    peers = subst (λ es. Tabled (λ (v : Life). v.link) (IsPeer g (Puts l b ∷ K)) (lives K) es) (sym put)
        (changed (λ (v : Life). v.link) (IsPeer g K) (IsPeer g (Puts l b ∷ K)) l (record k { link = o })
        (λ v w far is. let off : eqb v.link l ≡ false = eqb-comm v.link l ∙ far in rw off is) (lives K) t.peers h.keeps.proper.living.apart
        (λ v f. let at : v ≡ its.0 = (let z : Some v ≡ Some its.0 = sym f ∙ its.1 in cc) in
        let here : l ≡ v.link = eqb-true l v.link (found_passes (λ (u : Life). eqb l u.link) (lives K) v f) in
        let me : eqb v.link l ≡ true = eq-eqb v.link l (sym here) in
        let is = subst (λ u. IsPeer g K u k) (sym at) its.2 in
        let to : o ≡ link_after g.id (line v.link K ++ Says b ∷ []) (is_linked v.link K) (replies v.link K) (taken v.link K) =
        new ∙ ap (λ j. link_after g.id (line j K ++ Says b ∷ []) (is_linked j K) (replies j K) (taken j K)) here in
        rw me record { id_is = is.id_is; active_is = is.active_is; run_is = is.run_is; link_is = to }) h.peers);
  }

-- what is due, by the test
pub fits : (g : Config) (l : ℕ) (b : Body) (K : List Mark) → unsent g l K + size_of (line l K) b ≤ 4194304 → push g l b K ≡ Puts l b ∷ []
fits g l b K low = let e : ltb 4194304 (unsent g l K + size_of (line l K) b) ≡ false = le-ltb 4194304 (unsent g l K + size_of (line l K) b) low in rw e refl

pub is_slow : (g : Config) (l : ℕ) (b : Body) (K : List Mark) (waits size : ℕ) → waits ≡ unsent g l K → size ≡ size_of (line l K) b → 4194304 < unsent g l K + size_of (line l K) b → push g l b K ≡ Ends l (cause.Slow waits size) ∷ []
is_slow g l b K waits size w s high = let e : ltb 4194304 (unsent g l K + size_of (line l K) b) ≡ true = lt-ltb 4194304 (unsent g l K + size_of (line l K) b) high in rw (e, w, s) refl

-- it was put, and its link is noted
pub put_did : (g : Config) (l : ℕ) (b : Body) (K : List Mark) (n : Tables) (a s : Effects) → Holds g (Puts l b ∷ K) n → s.events ≡ a.events → s.acts ≡ a.acts → s.pushed ≡ a.pushed ++ l ∷ [] → Did g (Puts l b ∷ []) K n a s
put_did g l b K n a s h ev ac pu = record {
  holds = h;
  events = ev ∙ sym (append-nil a.events);
  acts = ac ∙ sym (append-nil a.acts);
  pushed = λ j. ap (λ (ks : List ℕ). list_any (eqb j) ks) pu ∙ list_any-append (eqb j) a.pushed (l ∷ []);
}

-- ---- a push looks at its own link alone

-- what was put on each link, and how much of it has gone out, is the same
abbrev pub Alike : List Mark → List Mark → Type 0
Alike I K = (l : ℕ) → (line l I ≡ line l K) × (taken l I ≡ taken l K)

alike_mark : (h : Mark) (I K : List Mark) → Alike I K → Alike (h ∷ I) (h ∷ K)
alike_mark (Sends k n) I K a l = ((a l).0, ap (λ (m : ℕ). if eqb l k then m + n else m) (a l).1)
alike_mark h I K a l = (ap (λ (ms : List Member). followed ms (put_on l h)) (a l).0, (a l).1)

pub alike_after : (hs I K : List Mark) → Alike I K → Alike (after hs I) (after hs K)
alike_after [] I K a = a
alike_after (h ∷ hs) I K a = alike_after hs (h ∷ I) (h ∷ K) (alike_mark h I K a)

-- what a push brings, by what was put on its link and has gone out of it
push_of : Config → ℕ → Body → List Member → ℕ → List Mark
push_of g l b bs n = let size = size_of bs b in if ltb 4194304 (length (text_of g.id bs) - n + size) then Ends l (cause.Slow (length (text_of g.id bs) - n) size) ∷ [] else Puts l b ∷ []

pub same_push : (g : Config) (l : ℕ) (b : Body) (I K : List Mark) → Alike I K → push g l b I ≡ push g l b K
unfolding push_of
same_push g l b I K a = ap (λ (ms : List Member). push_of g l b ms (taken l I)) (a l).0 ∙ ap (λ (n : ℕ). push_of g l b (line l K) n) (a l).1
