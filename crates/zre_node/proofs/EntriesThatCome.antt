-- An entry comes: the clock goes on, and a piece is read.
use Rattle.std.proofs.Common.{◌≡◌, ℕ, Bool, true, false, ◌||◌, eqb, if◌then◌else◌, max, List, [], ◌∷◌, ◌++◌, length, drop, Option, Some, None, is_some, option_and_then, Result, Ok, Err, IfOk, refl, sym, ap, ◌∙◌, nat_cmp, subst, eq-eqb, eqb-true, append-nil}
use Rattle.std.specs.List.{AllByRecursion, list_any}
use Rattle.std.specs.BTreeMap.{is_at}
use Rattle.std.specs.Map.{lookup, set_value}
use Rattle.std.proofs.lemmas.Map.Steps.{set_value_same}
use Rattle.zre_values.specs.declared.peer_id.PeerId.{PeerId}
use Rattle.zre_outside.specs.declared.entry.Entry.{Entry}
use Rattle.zre_outside.specs.declared.entry.Input.{Input}
use Rattle.zre_outside.specs.declared.entry.Input.TheVariants as input
use Rattle.zre_mailbox.specs.Conn.{conn_after}
use Rattle.zre_mailbox.specs.Talk.{Said, talk, completed}
use Rattle.zre_link.specs.Link.{link_after}
use Rattle.zre_values.specs.declared.settings.Settings.{Settings as Config}
use Rattle.zre_journal.specs.Chronicle.{Mark, Comes}
use Rattle.zre_journal.specs.Heard.{bytes, piece_of, was_opened, newly_completed}
use Rattle.zre_journal.specs.Connections.{open_ones, is_open, is_live, is_ignored, since, identity, runs}
use Rattle.zre_journal.specs.Peers.{Life, lives}
use Rattle.zre_journal.specs.Links.{line, is_linked, replies, reply_of, taken}
use Rattle.zre_journal.specs.Arrivals.{at_places}
use Rattle.zre_journal.proofs.ProperAfterMarks.{Comes-proper}
use Rattle.zre_journal.proofs.NumberedLists.{eqb-comm, found_passes, any_has}
use Rattle.zre_tables.specs.declared.connection.Connection.{Connection}
use Rattle.zre_node.specs.declared.tables.Tables.{Tables}
use Rattle.zre_tables.specs.Holding.{reader_at}
use Rattle.zre_tables.specs.Rows.{row_at, with_row}
use Rattle.zre_tables.specs.Tabled.{Tabled}
use Rattle.zre_node.specs.Stands.{Holds, IsPeer, IsConn, kept_conn, heard_by, is_quiet}
use Rattle.zre_tables.proofs.EntriesOfMaps.{changed, retold, retold_of}
use Rattle.zre_node.proofs.EndsOfPeers.{conn_row, some_row}
use Rattle.zre_node.proofs.FaultsOnConnections.{dead_places}
use Rattle.zre_node.proofs.UnchangedByMarks.{keeps_as}

pub quiet_piece : (c : ℕ) (i : Input) → is_quiet i ≡ true → piece_of c i ≡ []
quiet_piece c (input.Piece d o) q = absurd cc
quiet_piece c _ q = refl

pub quiet_reply : (l : ℕ) (i : Input) → is_quiet i ≡ true → reply_of l i ≡ []
quiet_reply l (input.Reply k o) q = absurd cc
quiet_reply l _ q = refl

module _ (g : Config) (H : List Mark) (t : Tables) (h : Holds g H t) (e : Entry) where
  no_bytes : (c : ℕ) → piece_of c e.input ≡ [] → bytes c H ≡ bytes c (Comes e ∷ H)
  no_bytes c p = by (was_opened c H)
    where
      by : (b : Bool) → bytes c H ≡ bytes c H ++ (if b then piece_of c e.input else [])
      by true = rw p (sym (append-nil (bytes c H)))
      by false = sym (append-nil (bytes c H))

  pub no_replies : (l : ℕ) → reply_of l e.input ≡ [] → replies l H ≡ replies l (Comes e ∷ H)
  no_replies l p = by (is_linked l H)
    where
      by : (b : Bool) → replies l H ≡ replies l H ++ (if b then reply_of l e.input else [])
      by true = rw p (sym (append-nil (replies l H)))
      by false = sym (append-nil (replies l H))

  pub other_conn : (c : ℕ) → piece_of c e.input ≡ [] → kept_conn g H c ≡ kept_conn g (Comes e ∷ H) c
  other_conn c p = ap (λ o. record { since = since c H; identity = identity c H; run = runs c H; conn = heard_by (is_ignored c H) g.id o }) (no_bytes c p)

  pub comes : (C : List (ℕ × Connection)) → ((l : ℕ) → reply_of l e.input ≡ []) → Tabled (λ (c : ℕ). c) (IsConn g (Comes e ∷ H)) (open_ones H) C → Holds g (Comes e ∷ H) (record t { clock = max e.at t.clock; conns = C })
  comes C none conns = record {
    keeps = keeps_as g H _ _ _ h.keeps (Comes-proper H h.keeps.proper e) refl (refl, refl, refl) (ap (max e.at) h.keeps.clock_is) h.keeps.births_is h.keeps.last_is h.keeps.groups_fit h.keeps.own conns;
    peers = retold (λ (v : Life). v.link) (IsPeer g H) (IsPeer g (Comes e ∷ H))
        (λ v k is. record {
          id_is = is.id_is;
          active_is = is.active_is;
          run_is = is.run_is;
          link_is = is.link_is ∙ ap (λ r. link_after g.id (line v.link H) (is_linked v.link H) r (taken v.link H)) (no_replies v.link (none v.link));
        })
        (lives H) t.peers h.peers;
  }

  -- an entry that brings no octets
  pub quietly : is_quiet e.input ≡ true → Holds g (Comes e ∷ H) (record t { clock = max e.at t.clock })
  quietly q = comes t.conns (λ l. quiet_reply l e.input q)
      (retold (λ (c : ℕ). c) (IsConn g H) (IsConn g (Comes e ∷ H)) (λ c k is. is ∙ other_conn c (quiet_piece c e.input q)) (open_ones H) t.conns h.keeps.conns)

-- ---- a piece

none_from : {A : Type 0} (o : Option A) → is_some o ≡ false → o ≡ None
none_from None e = refl
none_from (Some x) e = absurd cc

none_is : (c : ℕ) (xs : List ℕ) → list_any (eqb c) xs ≡ false → AllByRecursion (λ d. eqb c d ≡ false) xs
none_is c [] e = tt
none_is c (x ∷ xs) e = by (none_is c xs) (eqb c x) refl e
  where
    by : (list_any (eqb c) xs ≡ false → AllByRecursion (λ d. eqb c d ≡ false) xs) → (b : Bool) → eqb c x ≡ b → (b || list_any (eqb c) xs) ≡ false → (eqb c x ≡ false) × AllByRecursion (λ d. eqb c d ≡ false) xs
    by r true q k = absurd cc
    by r false q k = (q, r k)

module _ (g : Config) (H : List Mark) (t : Tables) (h : Holds g H t) (e : Entry) (c : ℕ) (o : List ℕ) (is : e.input ≡ input.Piece c o) where
  no_reply : (l : ℕ) → reply_of l e.input ≡ []
  no_reply l = rw is refl

  another : (d : ℕ) → eqb c d ≡ false → kept_conn g H d ≡ kept_conn g (Comes e ∷ H) d
  another d far = other_conn g H t h e d (let off : eqb d c ≡ false = eqb-comm d c ∙ far in rw (is, off) refl)

  -- it isn't open
  pub not_heard : is_open c H ≡ false → Holds g (Comes e ∷ H) (record t { clock = max e.at t.clock })
  not_heard shut = comes g H t h e t.conns no_reply
      (retold_of (λ (d : ℕ). d) (λ d. eqb c d ≡ false) (IsConn g H) (IsConn g (Comes e ∷ H)) (λ d k far q. q ∙ another d far) (open_ones H) t.conns (none_is c (open_ones H) shut) h.keeps.conns)

  pub silent : (heard : List Said) → is_live c H ≡ false → at_places g c heard (Comes e ∷ H) ≡ at_places g c (newly_completed g.id c H (Comes e ∷ H)) (Comes e ∷ H)
  silent heard dead = dead_places g c (Comes e ∷ H) dead heard ∙ sym (dead_places g c (Comes e ∷ H) dead (newly_completed g.id c H (Comes e ∷ H)))

  -- it is open, and its row is this one now
  with_its : is_open c H ≡ true → (x : Connection) → x ≡ kept_conn g (Comes e ∷ H) c → (C : List (ℕ × Connection)) → C ≡ set_value (is_at (nat_cmp c)) t.conns x → Holds g (Comes e ∷ H) (record t { clock = max e.at t.clock; conns = C })
  with_its there x row C put = comes g H t h e C no_reply
      (subst (λ es. Tabled (λ (d : ℕ). d) (IsConn g (Comes e ∷ H)) (open_ones H) es) (sym put)
      (changed (λ (d : ℕ). d) (IsConn g H) (IsConn g (Comes e ∷ H)) c x (λ d k far q. q ∙ another d far) (open_ones H) t.conns h.keeps.proper.opening.open_apart
      (λ d f. subst (λ y. x ≡ kept_conn g (Comes e ∷ H) y) (eqb-true c d (found_passes (eqb c) (open_ones H) d f)) row) h.keeps.conns))

  pub grown : is_open c H ≡ true → bytes c (Comes e ∷ H) ≡ bytes c H ++ o
  grown there =
      let w : was_opened c H ≡ true = any_has (λ d. was_opened d H ≡ true) c (open_ones H) h.keeps.proper.opening.were_opened there in
      let me : eqb c c ≡ true = eq-eqb c c refl in rw (w, is, me) refl

  said_is : is_open c H ≡ true → completed g.id (bytes c H) o ≡ newly_completed g.id c H (Comes e ∷ H)
  said_is there = ap (λ (all : List ℕ). drop (length (talk g.id (bytes c H))) (talk g.id all)) (sym (grown there))

  -- its row, by what reads it
  reads : (b : Bool) → is_ignored c H ≡ b → is_open c H ≡ true → reader_at c t.conns ≡ heard_by b g.id (bytes c H)
  reads b q there = ap (λ (x : Option Connection). option_and_then (λ (k : Connection). k.conn) x) (conn_row g H t h.keeps c there) ∙ rw q refl

  pub unread : is_open c H ≡ false → reader_at c t.conns ≡ None
  unread shut = ap (λ (x : Option Connection). option_and_then (λ (k : Connection). k.conn) x) (none_from (lookup (is_at (nat_cmp c)) t.conns) (some_row g H t h.keeps c ∙ shut))

  pub deaf : is_open c H ≡ true → is_ignored c H ≡ true → reader_at c t.conns ≡ None
  deaf there q = reads true q there

  pub hears : is_open c H ≡ true → is_ignored c H ≡ false → reader_at c t.conns ≡ Some (conn_after g.id (bytes c H))
  hears there q = reads false q there

  -- what was heard of it
  pub heard_it : (C : List (ℕ × Connection)) (heard : List Said)
      → ((x : Connection) (own : PeerId) (q : List ℕ) → row_at c t.conns ≡ Some x → x.conn ≡ Some (conn_after own q) → (C ≡ with_row c (record x { conn = Some (conn_after own (q ++ o)) }) t.conns) × (heard ≡ completed own q o))
      → (reader_at c t.conns ≡ None → C ≡ t.conns)
      → Holds g (Comes e ∷ H) (record t { clock = max e.at t.clock; conns = C }) × (at_places g c heard (Comes e ∷ H) ≡ at_places g c (newly_completed g.id c H (Comes e ∷ H)) (Comes e ∷ H))
  heard_it C heard live dead = by (is_open c H) refl (is_ignored c H) refl
    where
      by : (b : Bool) → is_open c H ≡ b → (d : Bool) → is_ignored c H ≡ d
          → Holds g (Comes e ∷ H) (record t { clock = max e.at t.clock; conns = C }) × (at_places g c heard (Comes e ∷ H) ≡ at_places g c (newly_completed g.id c H (Comes e ∷ H)) (Comes e ∷ H))
      by false z d q =
          (subst (λ es. Holds g (Comes e ∷ H) (record t { clock = max e.at t.clock; conns = es })) (sym (dead (unread z))) (not_heard z), silent heard (rw z refl))
      by true z true q =
          let row : lookup (is_at (nat_cmp c)) t.conns ≡ Some (kept_conn g H c) = conn_row g H t h.keeps c z in
          let same : kept_conn g H c ≡ kept_conn g (Comes e ∷ H) c = rw q refl in
          (with_its z (kept_conn g H c) same C (dead (deaf z q) ∙ sym (set_value_same (is_at (nat_cmp c)) t.conns (kept_conn g H c) row)), silent heard (rw (z, q) refl))
      by true z false q =
          let row : lookup (is_at (nat_cmp c)) t.conns ≡ Some (kept_conn g H c) = conn_row g H t h.keeps c z in
          let l = live (kept_conn g H c) g.id (bytes c H) row (rw q refl) in
          let same : record (kept_conn g H c) { conn = Some (conn_after g.id (bytes c H ++ o)) } ≡ kept_conn g (Comes e ∷ H) c = rw (q, grown z) refl in
          (with_its z (record (kept_conn g H c) { conn = Some (conn_after g.id (bytes c H ++ o)) }) same C l.0, ap (λ xs. at_places g c xs (Comes e ∷ H)) (l.1 ∙ said_is z))

-- ---- answers that are Ok

pub ok_of : {T E : Type 0} (Q : T → Type 0) (r : Result T E) → ((x : T) → r ≡ Ok x → Q x) → IfOk r Q
ok_of Q (Ok x) f = f x refl
ok_of Q (Err e) f = tt

pub at_ok : {T E : Type 0} (P : T → Type 0) (r : Result T E) (x : T) → r ≡ Ok x → IfOk r P → P x
at_ok P (Ok y) x e h = let same : y ≡ x = cc in subst P same h
at_ok P (Err y) x e h = absurd cc
