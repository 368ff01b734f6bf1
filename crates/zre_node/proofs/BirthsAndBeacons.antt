-- A birth and a beacon, at the tables.
use Rattle.std.proofs.Common.{◌≡◌, ℕ, ◌+◌, ◌<◌, ◌≤◌, true, false, eqb, List, [], ◌∷◌, ◌++◌, Some, None, refl, sym, ap, ◌∙◌, nat_cmp, subst, arith, ne_eqb, eq-eqb, eqb-true, append-nil}
use Rattle.std.specs.List.{AllByRecursion, list_any}
use Rattle.std.specs.BTreeMap.{is_at, insert_entry}
use Rattle.std.specs.Map.{lookup, set_value}
use Rattle.zre_values.specs.declared.peer_id.PeerId.{PeerId}
use Rattle.zre_values.specs.declared.endpoint.Endpoint.{Endpoint}
use Rattle.zre_outside.specs.declared.act.Act.TheVariants as act
use Rattle.zre_link.specs.Link.{link_after}
use Rattle.zre_link.specs.Text.{Says}
use Rattle.zre_values.specs.declared.settings.Settings.{Settings as Config}
use Rattle.zre_journal.specs.Chronicle.{Mark, HearsBeacon}
use Rattle.zre_journal.specs.Heard.{clock}
use Rattle.zre_journal.specs.Peers.{Life, lives, births, counted}
use Rattle.zre_journal.specs.Pushes.{hello, birth}
use Rattle.zre_journal.proofs.ProperAfterMarks.{born, newborn, born-proper, HearsBeacon-proper}
use Rattle.zre_journal.proofs.NumberedLists.{eqb-comm, found_passes}
use Rattle.zre_tables.specs.declared.peer.Peer.{Peer}
use Rattle.zre_node.specs.declared.tables.Tables.{Tables}
use Rattle.zre_node.specs.declared.effects.Effects.{Effects}
use Rattle.zre_tables.specs.Tabled.{Tabled}
use Rattle.zre_node.specs.Stands.{Holds, Did, IsPeer}
use Rattle.std.proofs.lemmas.List.Folds.{list_any-append}
use Rattle.zre_tables.proofs.EntriesOfMaps.{inserted, changed}
use Rattle.zre_node.proofs.RowsOfKnownPeers.{its_row}
use Rattle.zre_node.proofs.UnchangedByMarks.{keeps_as}

module _ (g : Config) (H : List Mark) (t : Tables) (h : Holds g H t) (p : PeerId) (e : Endpoint) where
  -- the others are as before
  others : (v : Life) (k : Peer) → v.link < births H + 1 → IsPeer g H v k → IsPeer g (born p e (hello g H) H) v k
  others v k low is = let far : eqb v.link (births H + 1) ≡ false = ne_eqb v.link (births H + 1) (λ q. omega arith) in rw far is

  -- the new row is that of the new life
  fresh : (k : Peer) → k.id ≡ p → k.active ≡ clock H → k.run ≡ None → k.link ≡ link_after g.id (Says (hello g H) ∷ []) false [] 0 → IsPeer g (born p e (hello g H) H) (newborn (births H + 1) p e) k
  fresh k id now run link =
      let u = h.keeps.proper.living.fresh (births H + 1) (omega arith) in
      let me : eqb (births H + 1) (births H + 1) ≡ true = eq-eqb (births H + 1) (births H + 1) refl in
      let silent : counted (births H + 1) H ≡ [] = h.keeps.proper.running.is_silent (births H + 1) u.no_run in
      rw (me, u.no_run, u.no_member, u.not_linked, u.no_reply, u.none_taken, silent) record { id_is = id; active_is = now; run_is = run; link_is = link }

  pub is_born : (k : Peer) (P : List (ℕ × Peer)) → k.id ≡ p → k.active ≡ clock H → k.run ≡ None → k.link ≡ link_after g.id (Says (hello g H) ∷ []) false [] 0
      → P ≡ insert_entry nat_cmp t.peers (births H + 1) k → Holds g (born p e (hello g H) H) (record t { births = births H + 1; peers = P })
  is_born k P id now run link put = record {
    keeps = keeps_as g H _ _ _ h.keeps (born-proper H h.keeps.proper p e (hello g H)) refl (refl, refl, refl) h.keeps.clock_is refl h.keeps.last_is h.keeps.groups_fit h.keeps.own h.keeps.conns;
    peers = subst (λ es. Tabled (λ (v : Life). v.link) (IsPeer g (born p e (hello g H) H)) (lives H ++ newborn (births H + 1) p e ∷ []) es) (sym put)
        (inserted (λ (v : Life). v.link) (IsPeer g H) (IsPeer g (born p e (hello g H) H)) (newborn (births H + 1) p e) k (lives H) t.peers
        (below (lives H) h.keeps.proper.living.numbered) others (fresh k id now run link) h.peers);
  }
    where
      below : (vs : List Life) → AllByRecursion (λ (v : Life). v.link ≤ births H) vs → AllByRecursion (λ (v : Life). v.link < births H + 1) vs
      below [] a = tt
      below (v ∷ vs) a = (let low : v.link ≤ births H = a.0 in omega arith, below vs a.1)

  -- a birth, with its act
  pub birth_did : (n : Tables) (a s : Effects) → Holds g (born p e (hello g H) H) n → s.events ≡ a.events → s.acts ≡ a.acts ++ act.Connect (births H + 1) e ∷ [] → s.pushed ≡ a.pushed ++ (births H + 1) ∷ []
      → Did g (birth g p e H) H n a s
  birth_did n a s holds ev ac pu = record {
    holds = holds;
    events = ev ∙ sym (append-nil a.events);
    acts = ac;
    pushed = λ l. ap (λ (ks : List ℕ). list_any (eqb l) ks) pu ∙ list_any-append (eqb l) a.pushed ((births H + 1) ∷ []);
  }

-- ---- a beacon

module _ (g : Config) (H : List Mark) (t : Tables) (h : Holds g H t) (l : ℕ) where
  pub renewed : (k : Peer) (P : List (ℕ × Peer)) → Some k ≡ lookup (is_at (nat_cmp l)) t.peers → P ≡ set_value (is_at (nat_cmp l)) t.peers (record k { active = t.clock })
      → Holds g (HearsBeacon l ∷ H) (record t { peers = P })
  renewed k P was put =
      let r = its_row (IsPeer g H) H t.peers h.peers l k was in
      record {
        keeps = keeps_as g H _ _ _ h.keeps (HearsBeacon-proper H h.keeps.proper l) refl (refl, refl, refl) h.keeps.clock_is h.keeps.births_is h.keeps.last_is h.keeps.groups_fit h.keeps.own h.keeps.conns;
        peers = subst (λ es. Tabled (λ (v : Life). v.link) (IsPeer g (HearsBeacon l ∷ H)) (lives H) es) (sym put)
            (changed (λ (v : Life). v.link) (IsPeer g H) (IsPeer g (HearsBeacon l ∷ H)) l (record k { active = t.clock })
            (λ v w far is. let off : eqb v.link l ≡ false = eqb-comm v.link l ∙ far in rw off is) (lives H) t.peers h.keeps.proper.living.apart
            (λ v f. let same : v ≡ r.0 = (let z : Some v ≡ Some r.0 = sym f ∙ r.1 in cc) in
            let me : eqb v.link l ≡ true = eq-eqb v.link l (sym (eqb-true l v.link (found_passes (λ (u : Life). eqb l u.link) (lives H) v f))) in
            let is = subst (λ u. IsPeer g H u k) (sym same) r.2 in
            rw me record { id_is = is.id_is; active_is = h.keeps.clock_is; run_is = is.run_is; link_is = is.link_is }) h.peers);
      }
