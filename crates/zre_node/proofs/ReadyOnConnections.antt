-- READY on a connection, and an older connection that gives way.
use Rattle.std.proofs.Common.{◌≡◌, ℕ, Bool, true, false, cond, not, ◌&&◌, eqb, List, [], ◌∷◌, Option, Some, None, find, refl, sym, ◌∙◌, nat_cmp, subst, eq-eqb, eqb-true}
use Rattle.std.specs.BTreeMap.{is_at}
use Rattle.std.specs.Map.{set_value}
use Rattle.zre_values.specs.declared.peer_id.PeerId.{PeerId}
use Rattle.zre_values.specs.declared.settings.Settings.{Settings as Config}
use Rattle.zre_journal.specs.Chronicle.{Mark, Greets, Identifies, AnswersPing}
use Rattle.zre_journal.specs.Connections.{open_ones, is_open, identity, is_same, other_with}
use Rattle.zre_journal.proofs.ProperAfterMarks.{Greets-proper, AnswersPing-proper, Identifies-proper}
use Rattle.zre_journal.proofs.NumberedLists.{eqb-comm, found_passes, found_there}
use Rattle.zre_tables.specs.declared.connection.Connection.{Connection}
use Rattle.zre_node.specs.declared.tables.Tables.{Tables}
use Rattle.zre_tables.specs.Tabled.{Tabled}
use Rattle.zre_tables.specs.Searches.{other_among}
use Rattle.zre_node.specs.Stands.{Holds, IsConn, kept_conn, IsOpenIfAny}
use Rattle.zre_tables.proofs.EntriesOfMaps.{changed}
use Rattle.zre_node.proofs.ConnectionsComeAndGo.{with_conns}

-- ---- the search for another

among : (g : Config) (H : List Mark) (p : PeerId) (c : ℕ) (cs : List ℕ) (es : List (ℕ × Connection)) → Tabled (λ (d : ℕ). d) (IsConn g H) cs es
    → other_among p c es ≡ find (λ d. not (eqb c d) && is_same p (identity d H)) cs
among g H p c [] [] t = refl
among g H p c [] (e ∷ es) t = absurd t
among g H p c (d ∷ cs) [] t = absurd t
among g H p c (d ∷ cs) (e ∷ es) t = rw (t.0, t.1) (by (among g H p c cs es t.2) (not (eqb c d) && is_same p (identity d H)))
  where
    by : other_among p c es ≡ find (λ x. not (eqb c x) && is_same p (identity x H)) cs → (b : Bool) → cond b (Some d) (other_among p c es) ≡ cond b (Some d) (find (λ x. not (eqb c x) && is_same p (identity x H)) cs)
    by r true = refl
    by r false = r

pub other_found : (g : Config) (H : List Mark) (t : Tables) (p : PeerId) (c : ℕ) → Holds g H t → other_among p c t.conns ≡ other_with p c H
other_found g H t p c h = among g H p c (open_ones H) t.conns h.keeps.conns

-- what is found is open, another, and has the identity
pub other_open : (p : PeerId) (c : ℕ) (H : List Mark) (o : Option ℕ) → other_with p c H ≡ o → IsOpenIfAny o H
other_open p c H None e = tt
other_open p c H (Some d) e = found_there (λ x. not (eqb c x) && is_same p (identity x H)) d (open_ones H) e

-- ---- READY

module _ (g : Config) (H : List Mark) (t : Tables) (h : Holds g H t) (c : ℕ) (p : PeerId) (is_there : is_open c H ≡ true) (unknown : identity c H ≡ None) (alone : other_with p c H ≡ None) where
  pub introduced : (C : List (ℕ × Connection)) → C ≡ set_value (is_at (nat_cmp c)) t.conns (record (kept_conn g H c) { identity = Some p }) → Holds g (Identifies c p ∷ H) (record t { conns = C })
  introduced C is = with_conns g H (Identifies c p ∷ H) t t.last C h (Identifies-proper H h.keeps.proper c p is_there unknown alone) refl refl refl h.peers refl refl refl h.keeps.last_is
      (subst (λ es. Tabled (λ (d : ℕ). d) (IsConn g (Identifies c p ∷ H)) (open_ones H) es) (sym is)
      (changed (λ (d : ℕ). d) (IsConn g H) (IsConn g (Identifies c p ∷ H)) c (record (kept_conn g H c) { identity = Some p })
      (λ d w far k. let off : eqb d c ≡ false = eqb-comm d c ∙ far in k ∙ rw off refl) (open_ones H) t.conns h.keeps.proper.opening.open_apart
      (λ d f. let same : c ≡ d = eqb-true c d (found_passes (eqb c) (open_ones H) d f) in
      let me : eqb c c ≡ true = eq-eqb c c refl in
      subst (λ x. record (kept_conn g H c) { identity = Some p } ≡ kept_conn g (Identifies c p ∷ H) x) same (rw me refl)) h.keeps.conns))

-- ---- a greeting

pub greets : (g : Config) (H : List Mark) (t : Tables) → Holds g H t → (c : ℕ) → Holds g (Greets c ∷ H) t
greets g H t h c = with_conns g H (Greets c ∷ H) t t.last t.conns h (Greets-proper H h.keeps.proper c) refl refl refl h.peers refl refl refl h.keeps.last_is h.keeps.conns

-- ---- a PING

pub pings : (g : Config) (H : List Mark) (t : Tables) → Holds g H t → (c : ℕ) (context : List ℕ) → Holds g (AnswersPing c context ∷ H) t
pings g H t h c context = with_conns g H (AnswersPing c context ∷ H) t t.last t.conns h (AnswersPing-proper H h.keeps.proper c context) refl refl refl h.peers refl refl refl h.keeps.last_is h.keeps.conns
