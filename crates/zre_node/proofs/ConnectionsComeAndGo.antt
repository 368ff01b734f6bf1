-- Connections come and go, at the tables.
use Rattle.std.proofs.Common.{◌≡◌, ℕ, ◌<◌, ◌≤◌, Bool, true, false, ◌&&◌, eqb, ltb, List, [], ◌∷◌, ◌++◌, map, length, Option, Some, None, refl, sym, ◌∙◌, nat_cmp, subst, arith, ltb-true, lt-ltb, le-ltb, ne_eqb, eq-eqb}
use Rattle.std.specs.List.{AllByRecursion}
use Rattle.std.specs.BTreeMap.{is_at, insert_entry}
use Rattle.std.specs.Map.{remove_entry}
use Rattle.zre_peer.specs.declared.causes.Cause.{Cause}
use Rattle.zre_peer.specs.declared.causes.Cause.TheVariants as cause
use Rattle.zre_peer.specs.declared.causes.CloseWhy.{CloseWhy}
use Rattle.zre_mailbox.specs.Conn.{conn_after}
use Rattle.zre_values.specs.declared.settings.Settings.{Settings as Config}
use Rattle.zre_journal.specs.Chronicle.{Mark, Opens, TurnsAway, Closes, IsShut, ClosesAtStop, after}
use Rattle.zre_journal.specs.Heard.{clock}
use Rattle.zre_journal.specs.Connections.{open_ones, is_new, is_open, runs, others}
use Rattle.zre_journal.specs.Peers.{Life, lives, births}
use Rattle.zre_journal.specs.Links.{groups, status}
use Rattle.zre_journal.specs.Proper.{IsProper}
use Rattle.zre_journal.specs.Happens.{has_stopped}
use Rattle.zre_journal.specs.Arrivals.{at_opened, at_shut, end_of_run}
use Rattle.zre_journal.proofs.ProperAfterMarks.{Opens-proper, TurnsAway-proper, Closes-proper, IsShut-proper, ClosesAtStop-proper}
use Rattle.zre_tables.specs.declared.connection.Connection.{Connection}
use Rattle.zre_node.specs.declared.tables.Tables.{Tables}
use Rattle.zre_tables.specs.Tabled.{Tabled}
use Rattle.zre_node.specs.Stands.{Holds, Keeps, IsPeer, IsConn, kept_conn, is_above, RunNone}
use Rattle.zre_tables.proofs.EntriesOfMaps.{inserted, removed, as_many}
use Rattle.zre_node.proofs.UnchangedByMarks.{keeps_as}

pub open_count : (g : Config) (H : List Mark) (t : Tables) → Keeps g H t → length t.conns ≡ length (open_ones H)
open_count g H t k = as_many (λ (c : ℕ). c) (IsConn g H) (open_ones H) t.conns k.conns

-- the tables with other connections, after a mark that concerns those alone
pub with_conns : (g : Config) (H K : List Mark) (t : Tables) (o : Option ℕ) (C : List (ℕ × Connection)) → Holds g H t → IsProper K → clock K ≡ clock H → births K ≡ births H → lives K ≡ lives H
    → Tabled (λ (v : Life). v.link) (IsPeer g K) (lives K) t.peers → has_stopped K ≡ has_stopped H
    → groups K ≡ groups H → status K ≡ status H
    → ((c : ℕ) → is_new c K ≡ is_above o c) → Tabled (λ (c : ℕ). c) (IsConn g K) (open_ones K) C → Holds g K (record t { last = o; conns = C })
with_conns g H K t o C h proper same_clock same_births same_lives peers going same_groups same_status last conns = record {
  keeps = keeps_as g H _ _ _ h.keeps proper going (refl, refl, refl) (h.keeps.clock_is ∙ sym same_clock) (h.keeps.births_is ∙ sym same_births) last (subst (λ gs. AllByRecursion (λ group. length group ≤ 255) gs) (sym same_groups) h.keeps.groups_fit) (h.keeps.own ∙ rw (same_groups, same_status) refl) conns;
  peers = peers;
}

module _ (g : Config) (H : List Mark) (t : Tables) (c : ℕ) (h : Holds g H t) (new : is_new c H ≡ true) where
  -- above c and new are one
  last_after : (d : ℕ) → (ltb c d && is_new d H) ≡ ltb c d
  last_after d = by (ltb c d) refl
    where
      by : (b : Bool) → ltb c d ≡ b → (b && is_new d H) ≡ b
      by true e = h.keeps.proper.opening.rises c d new (let less : c < d = ltb-true c d e in omega arith)
      by false e = refl

  value : record { since = t.clock; identity = None; run = None; conn = Some (conn_after t.config.id []) } ≡ kept_conn g (Opens c ∷ H) c
  value = let u = h.keeps.proper.opening.unheard c new in let me : eqb c c ≡ true = eq-eqb c c refl in
      rw (me, u.unknown, u.not_started, u.not_refused, u.no_octets, h.keeps.clock_is, h.keeps.config) refl

  other : (d : ℕ) → d < c → kept_conn g H d ≡ kept_conn g (Opens c ∷ H) d
  other d less = let far : eqb d c ≡ false = ne_eqb d c (λ e. omega arith) in rw far refl

  pub opens : (C : List (ℕ × Connection)) → C ≡ insert_entry nat_cmp t.conns c (record { since = t.clock; identity = None; run = None; conn = Some (conn_after t.config.id []) })
      → Holds g (Opens c ∷ H) (record t { last = Some c; conns = C })
  opens C is = with_conns g H (Opens c ∷ H) t (Some c) C h (Opens-proper H h.keeps.proper c new) refl refl refl h.peers refl refl refl last_after
      (subst (λ es. Tabled (λ (d : ℕ). d) (IsConn g (Opens c ∷ H)) (open_ones H ++ c ∷ []) es) (sym is)
      (inserted (λ (d : ℕ). d) (IsConn g H) (IsConn g (Opens c ∷ H)) c (record { since = t.clock; identity = None; run = None; conn = Some (conn_after t.config.id []) }) (open_ones H) t.conns
      (h.keeps.proper.opening.open_old c new) (λ d v less e. e ∙ other d less) value h.keeps.conns))

  pub turns_away : Holds g (TurnsAway c ∷ H) (record t { last = Some c })
  turns_away = with_conns g H (TurnsAway c ∷ H) t (Some c) t.conns h (TurnsAway-proper H h.keeps.proper c) refl refl refl h.peers refl refl refl last_after h.keeps.conns

module _ (g : Config) (H : List Mark) (c : ℕ) where
  pub not_new : is_new c H ≡ false → at_opened g c H ≡ []
  not_new e = rw e refl

  pub too_many : is_new c H ≡ true → 512 ≤ length (open_ones H) → at_opened g c H ≡ TurnsAway c ∷ []
  too_many e f = let full : ltb (length (open_ones H)) 512 ≡ false = le-ltb (length (open_ones H)) 512 f in rw (e, full) refl

  pub has_room : is_new c H ≡ true → length (open_ones H) < 512 → at_opened g c H ≡ Opens c ∷ []
  has_room e f = let room : ltb (length (open_ones H)) 512 ≡ true = lt-ltb (length (open_ones H)) 512 f in rw (e, room) refl

-- ---- one that runs no peer goes

module _ (g : Config) (H : List Mark) (t : Tables) (h : Holds g H t) (c : ℕ) (idle : runs c H ≡ None) (C : List (ℕ × Connection)) (e : C ≡ remove_entry (is_at (nat_cmp c)) t.conns) where
  pub closed : (why : CloseWhy) → Holds g (Closes c why ∷ H) (record t { conns = C })
  closed why = with_conns g H (Closes c why ∷ H) t t.last C h (Closes-proper H h.keeps.proper c why idle) refl refl refl h.peers refl refl refl h.keeps.last_is
      (subst (λ es. Tabled (λ (d : ℕ). d) (IsConn g (Closes c why ∷ H)) (others c (open_ones H)) es) (sym e)
      (removed (λ (d : ℕ). d) (IsConn g H) (IsConn g (Closes c why ∷ H)) c (λ d w far is. is) (open_ones H) t.conns h.keeps.proper.opening.open_apart h.keeps.conns))

  pub is_shut : Holds g (IsShut c ∷ H) (record t { conns = C })
  is_shut = with_conns g H (IsShut c ∷ H) t t.last C h (IsShut-proper H h.keeps.proper c idle) refl refl refl h.peers refl refl refl h.keeps.last_is
      (subst (λ es. Tabled (λ (d : ℕ). d) (IsConn g (IsShut c ∷ H)) (others c (open_ones H)) es) (sym e)
      (removed (λ (d : ℕ). d) (IsConn g H) (IsConn g (IsShut c ∷ H)) c (λ d w far is. is) (open_ones H) t.conns h.keeps.proper.opening.open_apart h.keeps.conns))

  pub dropped : Holds g (ClosesAtStop c ∷ H) (record t { conns = C })
  dropped = with_conns g H (ClosesAtStop c ∷ H) t t.last C h (ClosesAtStop-proper H h.keeps.proper c idle) refl refl refl h.peers refl refl refl h.keeps.last_is
      (subst (λ es. Tabled (λ (d : ℕ). d) (IsConn g (ClosesAtStop c ∷ H)) (others c (open_ones H)) es) (sym e)
      (removed (λ (d : ℕ). d) (IsConn g H) (IsConn g (ClosesAtStop c ∷ H)) c (λ d w far is. is) (open_ones H) t.conns h.keeps.proper.opening.open_apart h.keeps.conns))

-- closings at a stop leave no connection running a peer where none did
pub drops_run : (cs : List ℕ) (H : List Mark) → RunNone H → RunNone (after (map (λ c. ClosesAtStop c) cs) H)
drops_run [] H none = none
drops_run (c ∷ cs) H none = drops_run cs (ClosesAtStop c ∷ H) none

-- ---- the run of a connection ends

-- then it is open as before
pub open_then : (g : Config) (o : Option ℕ) (why : Cause) (c : ℕ) (H : List Mark) → is_open c (after (end_of_run g o why) H) ≡ is_open c H
open_then g None why c H = refl
open_then g (Some l) why c H = refl

pub shut_not_open : (g : Config) (c : ℕ) (H : List Mark) → is_open c H ≡ false → at_shut g c H ≡ []
shut_not_open g c H e = rw e refl

pub shut_open : (g : Config) (c : ℕ) (H : List Mark) → is_open c H ≡ true → at_shut g c H ≡ end_of_run g (runs c H) cause.Shut ++ IsShut c ∷ []
shut_open g c H e = rw e refl
