-- What the tables hold is what the chronicle holds.
use Rattle.std.proofs.Common.{◌≡◌, ℕ, ◌+◌, ◌≤◌, Bool, true, false, cond, not, ◌&&◌, ◌||◌, eqb, List, [], ◌∷◌, ◌++◌, length, filter, Option, Some, None, IsSome, refl, sym, ap, ◌∙◌, arith, eq-eqb, append-nil, sum_by, subst}
use Rattle.std.proofs.lemmas.List.{length-drop}
use Rattle.std.proofs.lemmas.List.Sums.{sum_by-cons}
use Rattle.std.specs.List.{AllByRecursion, list_any}
use Rattle.zre_zmtp.specs.Stream.{Whole, cut}
use Rattle.zre_zmtp.specs.declared.fault.ZmtpFault.{ZmtpFault}
use Rattle.zre_zmtp.specs.declared.want.Want.TheVariants.{Router, Dealer}
use Rattle.zre_mailbox.specs.Talk.{fault_in}
use Rattle.zre_mailbox.specs.Conn.{reading, phase_by, conn_after, held_in, held_of}
use Rattle.zre_link.specs.Heard.{reply_fault, heard_after, hearing_by, reading as reply_reading, held_in as held_in_replies, held_of as held_of_replies}
use Rattle.zre_link.specs.Link.{Sending}
use Rattle.zre_link.specs.Text.{text_of}
use Rattle.zre_values.specs.declared.settings.Settings.{Settings as Config}
use Rattle.zre_journal.specs.Asked.{view_if_entered}
use Rattle.zre_journal.specs.Chronicle.{Mark, Comes}
use Rattle.zre_journal.specs.Heard.{bytes}
use Rattle.zre_journal.specs.Connections.{open_ones, is_open, is_ignored, is_live}
use Rattle.zre_journal.specs.Held.{unfinished, header_octets, view_octets, conn_octets, reply_octets, peer_octets, own_octets, held, bound}
use Rattle.zre_journal.specs.Links.{groups, status, line, links, is_linked, replies, reply_of, taken, unsent}
use Rattle.zre_journal.specs.Peers.{Life, lives, life, is_entered, view}
use Rattle.zre_journal.specs.Happens.{has_stopped}
use Rattle.zre_journal.specs.Config.{CanBe}
use Rattle.zre_journal.proofs.KnownPeers.{each_known}
use Rattle.zre_journal.proofs.NumberedLists.{All-map}
use Rattle.zre_tables.specs.declared.connection.Connection.{Connection}
use Rattle.zre_tables.specs.declared.peer.Peer.{Peer}
use Rattle.zre_node.specs.declared.tables.Tables.{Tables}
use Rattle.zre_tables.specs.Views.{view_of_row}
use Rattle.zre_tables.specs.Holding.{capped, reader_octets, conn_row_octets, IsReading, shown_octets, peer_row_octets, IsSending}
use Rattle.zre_node.specs.Journal.{StandsIn}
use Rattle.zre_node.specs.Stands.{IsConn, IsPeer, heard_by}
use Rattle.zre_tables.specs.Tabled.{Tabled}
use Rattle.zre_node.proofs.RowsAnswerDefinitions.{rows, its_view}

-- ---- the tables of a node that goes on, and of one that rests

pub can_be : (g : Config) (H : List Mark) (t : Tables) → StandsIn g H t → CanBe g
can_be g H t s = by (has_stopped H) refl
  where
    by : (b : Bool) → has_stopped H ≡ b → CanBe g
    by true z = (s.resting z).can
    by false z = (s.going z).keeps.can

pub config_is : (g : Config) (H : List Mark) (t : Tables) → StandsIn g H t → t.config ≡ g
config_is g H t s = by (has_stopped H) refl
  where
    by : (b : Bool) → has_stopped H ≡ b → t.config ≡ g
    by true z = (s.resting z).config
    by false z = (s.going z).keeps.config

own_is : (g : Config) (H : List Mark) (t : Tables) → StandsIn g H t → t.own ≡ record { groups = groups H; status = status H }
own_is g H t s = by (has_stopped H) refl
  where
    by : (b : Bool) → has_stopped H ≡ b → t.own ≡ record { groups = groups H; status = status H }
    by true z = (s.resting z).own
    by false z = (s.going z).keeps.own

conn_rows : (g : Config) (H : List Mark) (t : Tables) → StandsIn g H t → Tabled (λ (c : ℕ). c) (IsConn g H) (open_ones H) t.conns
conn_rows g H t s = by (has_stopped H) refl
  where
    by : (b : Bool) → has_stopped H ≡ b → Tabled (λ (c : ℕ). c) (IsConn g H) (open_ones H) t.conns
    by true z = let r = s.resting z in rw (r.none_open, r.no_conns) tt
    by false z = (s.going z).keeps.conns

module _ (g : Config) (H : List Mark) where
  -- ---- connections

  is_read : (b : Bool) (o : List ℕ) → IsReading (heard_by b g.id o)
  is_read true o = tt
  is_read false o = (g.id, o, refl)

  conns_read : (cs : List ℕ) (es : List (ℕ × Connection)) → Tabled (λ (c : ℕ). c) (IsConn g H) cs es → AllByRecursion (λ (e : ℕ × Connection). IsReading e.1.conn) es
  conns_read [] [] t = tt
  conns_read [] (e ∷ es) t = absurd t
  conns_read (c ∷ cs) [] t = absurd t
  conns_read (c ∷ cs) (e ∷ es) t =
      (subst (λ (k : Connection). IsReading k.conn) (sym t.1) (is_read (is_ignored c H) (bytes c H)), conns_read cs es t.2)

  -- what is kept of octets without a fault
  kept_heard : (o : List ℕ) → fault_in g.id o ≡ None → held_of (conn_after g.id o) ≡ unfinished (Dealer g.id) o
  kept_heard o none = ap (λ (f : Option ZmtpFault). held_in (phase_by f (reading (Dealer g.id) Whole o))) none

  conn_row : (c : ℕ) (k : Connection) → IsConn g H c k → (b : Bool) → is_ignored c H ≡ b → (b ≡ false → fault_in g.id (bytes c H) ≡ None) → conn_row_octets k ≡ cond (not b) (conn_octets g H c) 0
  conn_row c k is true i none = ap conn_row_octets is ∙ ap (λ b. reader_octets (heard_by b g.id (bytes c H))) i
  conn_row c k is false i none = ap conn_row_octets is ∙ ap (λ b. reader_octets (heard_by b g.id (bytes c H))) i ∙ kept_heard (bytes c H) (none refl)

  conns_are : (cs : List ℕ) (es : List (ℕ × Connection)) → AllByRecursion (λ c. is_open c H ≡ true) cs → ((c : ℕ) → is_live c H ≡ true → fault_in g.id (bytes c H) ≡ None) → Tabled (λ (c : ℕ). c) (IsConn g H) cs es
      → sum_by (λ (e : ℕ × Connection). conn_row_octets e.1) es ≡ sum_by (conn_octets g H) (filter (λ c. is_live c H) cs)
  conns_are [] [] a n t = refl
  conns_are [] (e ∷ es) a n t = absurd t
  conns_are (c ∷ cs) [] a n t = absurd t
  conns_are (c ∷ cs) (e ∷ es) a n t = by (conns_are cs es a.1 n t.2) (is_ignored c H) refl
    where
      live : (b : Bool) → is_ignored c H ≡ b → is_live c H ≡ not b
      live b i = ap (λ x. x && not (is_ignored c H)) a.0 ∙ ap not i

      by : sum_by (λ (x : ℕ × Connection). conn_row_octets x.1) es ≡ sum_by (conn_octets g H) (filter (λ d. is_live d H) cs) → (b : Bool) → is_ignored c H ≡ b
          → sum_by (λ (x : ℕ × Connection). conn_row_octets x.1) (e ∷ es) ≡ sum_by (conn_octets g H) (filter (λ d. is_live d H) (c ∷ cs))
      by r true i =
          let off : is_live c H ≡ false = live true i in
          let row : conn_row_octets e.1 ≡ 0 = conn_row c e.1 t.1 true i (λ z. absurd cc) in
          let kept_ : filter (λ d. is_live d H) (c ∷ cs) ≡ filter (λ d. is_live d H) cs = ap (λ b. cond b (c ∷ filter (λ d. is_live d H) cs) (filter (λ d. is_live d H) cs)) off in
          let same : sum_by (conn_octets g H) (filter (λ d. is_live d H) (c ∷ cs)) ≡ sum_by (conn_octets g H) (filter (λ d. is_live d H) cs) = ap (sum_by (conn_octets g H)) kept_ in
          let front : sum_by (λ (x : ℕ × Connection). conn_row_octets x.1) (e ∷ es) ≡ conn_row_octets e.1 + sum_by (λ (x : ℕ × Connection). conn_row_octets x.1) es = sum_by-cons (λ (x : ℕ × Connection). conn_row_octets x.1) e es in
          omega (arith, front, row, r, same)
      by r false i =
          let on : is_live c H ≡ true = live false i in
          let row : conn_row_octets e.1 ≡ conn_octets g H c = conn_row c e.1 t.1 false i (λ z. n c on) in
          let kept_ : filter (λ d. is_live d H) (c ∷ cs) ≡ c ∷ filter (λ d. is_live d H) cs = ap (λ b. cond b (c ∷ filter (λ d. is_live d H) cs) (filter (λ d. is_live d H) cs)) on in
          let same : sum_by (conn_octets g H) (filter (λ d. is_live d H) (c ∷ cs)) ≡ conn_octets g H c + sum_by (conn_octets g H) (filter (λ d. is_live d H) cs) =
          ap (sum_by (conn_octets g H)) kept_ ∙ sum_by-cons (conn_octets g H) c (filter (λ d. is_live d H) cs) in
          let front : sum_by (λ (x : ℕ × Connection). conn_row_octets x.1) (e ∷ es) ≡ conn_row_octets e.1 + sum_by (λ (x : ℕ × Connection). conn_row_octets x.1) es = sum_by-cons (λ (x : ℕ × Connection). conn_row_octets x.1) e es in
          omega (arith, front, row, r, same)

  each_open : (cs : List ℕ) → AllByRecursion (λ c. list_any (eqb c) cs ≡ true) cs
  each_open [] = tt
  each_open (c ∷ cs) = (
    let me : eqb c c ≡ true = eq-eqb c c refl in rw me refl,
    All-map (λ d. list_any (eqb d) cs ≡ true) (λ d. list_any (eqb d) (c ∷ cs) ≡ true) (λ d h. further (eqb d c) (list_any (eqb d) cs) h) cs (each_open cs),
  )
    where
      further : (b d : Bool) → d ≡ true → (b || d) ≡ true
      further true d h = refl
      further false d h = h

  -- ---- peers

  peers_send : (vs : List Life) (es : List (ℕ × Peer)) → Tabled (λ (v : Life). v.link) (IsPeer g H) vs es → AllByRecursion (λ (e : ℕ × Peer). IsSending e.1) es
  peers_send [] [] t = tt
  peers_send [] (e ∷ es) t = absurd t
  peers_send (v ∷ vs) [] t = absurd t
  peers_send (v ∷ vs) (e ∷ es) t =
      (record { own = g.id; line = line v.link H; linked = is_linked v.link H; replied = replies v.link H; gone = taken v.link H; link_is = t.1.link_is }, peers_send vs es t.2)

-- before a link stands nothing has come back on it
unlinked_silent : (l : ℕ) (H : List Mark) → is_linked l H ≡ false → replies l H ≡ []
unlinked_silent l [] e = refl
unlinked_silent l (Comes e ∷ H) z = ap (λ b. replies l H ++ cond b (reply_of l e.input) []) z ∙ append-nil (replies l H) ∙ unlinked_silent l H z
unlinked_silent l (h ∷ H) z = unlinked_silent l H (by (links l h) z)
  where
    by : (b : Bool) → cond b true (is_linked l H) ≡ false → is_linked l H ≡ false
    by true q = cc
    by false q = q

nothing_unfinished : unfinished Router [] ≡ 0
unfolding cut
nothing_unfinished = refl

module _ (g : Config) (H : List Mark) where
  kept_replies : (l : ℕ) → reply_fault (replies l H) ≡ None → held_of_replies (heard_after (replies l H)) ≡ reply_octets g H l
  kept_replies l none = ap (λ (f : Option ZmtpFault). held_in_replies (hearing_by f (reply_reading (replies l H)))) none ∙ by (is_linked l H) refl
    where
      by : (b : Bool) → is_linked l H ≡ b → unfinished Router (replies l H) ≡ cond b (unfinished Router (replies l H)) 0
      by true e = refl
      by false e = ap (unfinished Router) (unlinked_silent l H e) ∙ nothing_unfinished

  shown : (v : Life) → shown_octets (view_if_entered H v) ≡ cond (is_entered H v) (view_octets (view v.link H)) 0
  shown v = by (is_entered H v)
    where
      by : (b : Bool) → shown_octets (cond b (Some (view v.link H)) None) ≡ cond b (view_octets (view v.link H)) 0
      by true = refl
      by false = refl

  peer_row : (v : Life) (k : Peer) → IsPeer g H v k → reply_fault (replies v.link H) ≡ None → peer_row_octets k ≡ peer_octets g H v
  peer_row v k i none =
      let back : held_of_replies k.link.replies ≡ reply_octets g H v.link = ap (λ (s : Sending). held_of_replies s.replies) i.link_is ∙ kept_replies v.link none in
      let waits : length k.link.queue ≡ unsent g v.link H = ap (λ (s : Sending). length s.queue) i.link_is ∙ length-drop (taken v.link H) (text_of g.id (line v.link H)) in
      let told : shown_octets (view_of_row k) ≡ cond (is_entered H v) (view_octets (view v.link H)) 0 = ap shown_octets (its_view g H v k i) ∙ shown v in
      ap (λ n. n + length k.link.queue + shown_octets (view_of_row k)) back ∙ ap (λ n. reply_octets g H v.link + n + shown_octets (view_of_row k)) waits ∙ ap (λ n. reply_octets g H v.link + unsent g v.link H + n) told

  peers_are : (vs : List Life) (es : List (ℕ × Peer)) → AllByRecursion (λ (v : Life). IsSome (life v.link H)) vs → ((l : ℕ) → IsSome (life l H) → reply_fault (replies l H) ≡ None) → Tabled (λ (v : Life). v.link) (IsPeer g H) vs es
      → sum_by (λ (e : ℕ × Peer). peer_row_octets e.1) es ≡ sum_by (peer_octets g H) vs
  peers_are [] [] a n t = refl
  peers_are [] (e ∷ es) a n t = absurd t
  peers_are (v ∷ vs) [] a n t = absurd t
  peers_are (v ∷ vs) (e ∷ es) a n t =
      sum_by-cons (λ (x : ℕ × Peer). peer_row_octets x.1) e es ∙ ap (λ m. m + sum_by (λ (x : ℕ × Peer). peer_row_octets x.1) es) (peer_row v e.1 t.1 (n v.link a.0))
      ∙ ap (λ m. peer_octets g H v + m) (peers_are vs es a.1 n t.2) ∙ sym (sum_by-cons (peer_octets g H) v vs)

  -- ---- all of them

  module _ (t : Tables) (s : StandsIn g H t) where
    pub all_read : AllByRecursion (λ (e : ℕ × Connection). IsReading e.1.conn) t.conns
    all_read = conns_read g H (open_ones H) t.conns (conn_rows g H t s)

    pub all_send : AllByRecursion (λ (e : ℕ × Peer). IsSending e.1) t.peers
    all_send = peers_send g H (lives H) t.peers (rows g H t s)

    pub all_held : ((c : ℕ) → is_live c H ≡ true → fault_in g.id (bytes c H) ≡ None) → ((l : ℕ) → IsSome (life l H) → reply_fault (replies l H) ≡ None)
        → sum_by (λ (e : ℕ × Connection). conn_row_octets e.1) t.conns + sum_by (λ (e : ℕ × Peer). peer_row_octets e.1) t.peers
        + (length t.config.name + header_octets t.config.headers + sum_by length t.own.groups) ≡ held g H
    all_held talks answers =
        let conns = conns_are g H (open_ones H) t.conns (each_open g H (open_ones H)) talks (conn_rows g H t s) in
        let peers = peers_are (lives H) t.peers (each_known H) answers (rows g H t s) in
        let own : length t.config.name + header_octets t.config.headers + sum_by length t.own.groups ≡ own_octets g H =
        ap (λ (c : Config). length c.name + header_octets c.headers + sum_by length t.own.groups) (config_is g H t s) ∙ ap (λ n. length g.name + header_octets g.headers + n) (ap (λ o. sum_by length o.groups) (own_is g H t s)) in
        ap (λ n. n + sum_by (λ (e : ℕ × Peer). peer_row_octets e.1) t.peers + (length t.config.name + header_octets t.config.headers + sum_by length t.own.groups)) conns
        ∙ ap (λ n. sum_by (conn_octets g H) (filter (λ c. is_live c H) (open_ones H)) + n + (length t.config.name + header_octets t.config.headers + sum_by length t.own.groups)) peers
        ∙ ap (λ n. sum_by (conn_octets g H) (filter (λ c. is_live c H) (open_ones H)) + sum_by (peer_octets g H) (lives H) + n) own

-- what is within the bound of few peers and connections is told as it is
pub told_whole : (n peers connections : ℕ) → n ≤ bound peers connections → peers ≤ 256 → connections ≤ 512 → capped n ≡ n
told_whole n peers connections h p c = omega (arith, h, p, c)
