-- A node that was told octets in two pieces stands for the journal that has them in one.
use Rattle.std.proofs.Common.{◌≡◌, ℕ, ◌-◌, ◌≤◌, eqb, List, [], ◌∷◌, ◌++◌, length, Option, Some, None, IsSome, map, find, refl, sym, ap, ◌∙◌, subst}
use Rattle.std.specs.List.{AllByRecursion}
use Rattle.zre_values.specs.declared.peer_id.PeerId.{PeerId}
use Rattle.zre_outside.specs.declared.entry.Entry.{Entry}
use Rattle.zre_mailbox.specs.Conn.{ConnHearing}
use Rattle.zre_msg.specs.Spelling.{octets}
use Rattle.zre_link.specs.Text.{bodies_in, numbered_from, text_of}
use Rattle.zre_net.specs.Lines.{Line}
use Rattle.zre_net.specs.declared.running.sender.Sender.{Sender}
use Rattle.zre_net.specs.Sender.{Keeps}
use Rattle.zre_net.specs.Sending.{Holds as Keeping, HasSent}
use Rattle.zre_link.specs.Link.{link_after}
use Rattle.zre_values.specs.declared.settings.Settings.{Settings as Config}
use Rattle.zre_journal.specs.Chronicle.{Mark}
use Rattle.zre_journal.specs.Connections.{open_ones, is_new, identity, identity_at, runs, is_ignored, since}
use Rattle.zre_journal.specs.Cutting.{piece}
use Rattle.zre_journal.specs.Events.{chronicle}
use Rattle.zre_journal.specs.Happens.{is_stop, has_stopped}
use Rattle.zre_journal.specs.Heard.{bytes}
use Rattle.zre_journal.specs.Links.{groups, status, line, put_on, links, is_linked, replies, text, taken}
use Rattle.zre_journal.specs.Peers.{Life, life, lives, births, runner, runner_at, counted, message_at, active}
use Rattle.zre_journal.specs.Proper.{IsProper}
use Rattle.zre_journal.proofs.ProperChronicles.{is_proper}
use Rattle.zre_journal.proofs.WithoutEntryMarks.{through, same_runs, same_ignored, latest_but, each_but, ever_but, lives_but, births_but, open_but, groups_but, status_but, taken_but}
use Rattle.zre_journal.proofs.CutPieces.{same_cut}
use Rattle.zre_net.proofs.SameMarksWhenCut.{Sim, new_but, sim}
use Rattle.zre_node.specs.Journal.{StandsIn, StandsFor}
use Rattle.zre_node.specs.Stands.{Holds, Rests, IsKept, IsPeer, IsConn, kept_conn, heard_by, link_of_life}
use Rattle.zre_tables.specs.declared.connection.Connection.{Connection}
use Rattle.zre_node.specs.declared.node.Node.{Node}
use Rattle.zre_tables.specs.declared.peer.Peer.{Peer}
use Rattle.zre_node.specs.declared.tables.Tables.{Tables}
use Rattle.zre_tables.specs.Tabled.{Tabled}
use Rattle.zre_tables.proofs.EntriesOfMaps.{retold}

-- ---- the tables of a node hold in either

abbrev conn_with : ℕ → Option PeerId → Option ℕ → Option ConnHearing → Connection
conn_with n i r h = record { since = n; identity = i; run = r; conn = h }

module _ (g : Config) (K L : List Mark) (s : Sim K L) (octets : (c : ℕ) → bytes c K ≡ bytes c L) where
  same_conn : (c : ℕ) → kept_conn g K c ≡ kept_conn g L c
  same_conn c =
      ap (λ n. conn_with n (identity c K) (runs c K) (heard_by (is_ignored c K) g.id (bytes c K))) (s.sinces c)
      ∙ ap (λ i. conn_with (since c L) i (runs c K) (heard_by (is_ignored c K) g.id (bytes c K))) (through (identity c) (latest_but (identity_at c) (λ e. refl)) K L s.alike)
      ∙ ap (λ r. conn_with (since c L) (identity c L) r (heard_by (is_ignored c K) g.id (bytes c K))) (same_runs K L s.alike c)
      ∙ ap (λ b. conn_with (since c L) (identity c L) (runs c L) (heard_by b g.id (bytes c K))) (same_ignored K L s.alike c)
      ∙ ap (λ o. conn_with (since c L) (identity c L) (runs c L) (heard_by (is_ignored c L) g.id o)) (octets c)

  same_link : (l : ℕ) → link_of_life g K l ≡ link_of_life g L l
  same_link l =
      ap (λ ms. link_after g.id ms (is_linked l K) (replies l K) (taken l K)) (through (line l) (each_but (put_on l) (λ e. refl)) K L s.alike)
      ∙ ap (λ b. link_after g.id (line l L) b (replies l K) (taken l K)) (through (is_linked l) (ever_but (links l) (λ e. refl)) K L s.alike)
      ∙ ap (λ o. link_after g.id (line l L) (is_linked l L) o (taken l K)) (s.replied l)
      ∙ ap (λ n. link_after g.id (line l L) (is_linked l L) (replies l L) n) (through (taken l) (taken_but l) K L s.alike)

  same_peer : (v : Life) (k : Peer) → IsPeer g K v k → IsPeer g L v k
  same_peer v k p =
      let l = v.link in
      subst (λ x. IsKept v.id (active l L) (runner l L) (counted l L) x k) (same_link l)
      (subst (λ ms. IsKept v.id (active l L) (runner l L) ms (link_of_life g K l) k) (through (counted l) (each_but (message_at l) (λ e. refl)) K L s.alike)
      (subst (λ o. IsKept v.id (active l L) o (counted l K) (link_of_life g K l) k) (through (runner l) (latest_but (runner_at l) (λ e. refl)) K L s.alike)
      (subst (λ n. IsKept v.id n (runner l K) (counted l K) (link_of_life g K l) k) (s.actives l) p)))

  stopped_too : has_stopped K ≡ has_stopped L
  stopped_too = through has_stopped (ever_but is_stop (λ e. refl)) K L s.alike

  holds : (t : Tables) → IsProper L → Holds g K t → Holds g L t
  holds t proper h = record {
    keeps = record {
      can = h.keeps.can;
      proper = proper;
      going = sym stopped_too ∙ h.keeps.going;
      awake = h.keeps.awake;
      config = h.keeps.config;
      mailbox = h.keeps.mailbox;
      clock_is = h.keeps.clock_is ∙ s.clocks;
      births_is = h.keeps.births_is ∙ through births births_but K L s.alike;
      last_is = λ c. sym (through (is_new c) (new_but c) K L s.alike) ∙ h.keeps.last_is c;
      groups_fit = subst (λ gs. AllByRecursion (λ (group : List ℕ). length group ≤ 255) gs) (through groups groups_but K L s.alike) h.keeps.groups_fit;
      own = h.keeps.own ∙ ap (λ gs. record { groups = gs; status = status K }) (through groups groups_but K L s.alike)
          ∙ ap (λ n. record { groups = groups L; status = n }) (through status status_but K L s.alike);
      conns = subst (λ cs. Tabled (λ (c : ℕ). c) (IsConn g L) cs t.conns) (through open_ones open_but K L s.alike)
          (retold (λ (c : ℕ). c) (IsConn g K) (IsConn g L) (λ c k e. e ∙ same_conn c) (open_ones K) t.conns h.keeps.conns);
    };
    peers = subst (λ vs. Tabled (λ (v : Life). v.link) (IsPeer g L) vs t.peers) (through lives lives_but K L s.alike)
        (retold (λ (v : Life). v.link) (IsPeer g K) (IsPeer g L) same_peer (lives K) t.peers h.peers);
  }

  rests : (t : Tables) → Rests g K t → Rests g L t
  rests t r = record {
    can = r.can;
    stopped = sym stopped_too ∙ r.stopped;
    asleep = r.asleep;
    config = r.config;
    own = r.own ∙ ap (λ gs. record { groups = gs; status = status K }) (through groups groups_but K L s.alike)
        ∙ ap (λ n. record { groups = groups L; status = n }) (through status status_but K L s.alike);
    none_known = sym (through lives lives_but K L s.alike) ∙ r.none_known;
    no_peers = r.no_peers;
    none_open = sym (through open_ones open_but K L s.alike) ∙ r.none_open;
    no_conns = r.no_conns;
  }

  stands_in : (t : Tables) → IsProper L → StandsIn g K t → StandsIn g L t
  stands_in t proper x = record {
    stopped = x.stopped ∙ stopped_too;
    going = λ e. holds t proper (x.going (stopped_too ∙ e));
    resting = λ e. rests t (x.resting (stopped_too ∙ e));
  }

-- ---- a piece that is cut

pub stands_for_whole : (g : Config) (J : List Entry) (at c : ℕ) (a b : List ℕ) (n : Node) → StandsFor g (J ++ piece at c a ∷ piece at c b ∷ []) n → StandsFor g (J ++ piece at c (a ++ b) ∷ []) n
stands_for_whole g J at c a b n s = record {
  stands = stands_in g (chronicle g (J ++ piece at c a ∷ piece at c b ∷ [])) (chronicle g (J ++ piece at c (a ++ b) ∷ [])) (sim g J at c a b) (same_cut g J at c a b).octets_are n.tables
      (is_proper g (J ++ piece at c (a ++ b) ∷ [])) s.stands;
  whole = s.whole;
}

-- ---- what was put on links

module _ (g : Config) (K L : List Mark) (s : Sim K L) (h : ℕ) (lines : List Line) (k : Keeps g K h lines) where
  same_line : (l : ℕ) → line l K ≡ line l L
  same_line l = through (line l) (each_but (put_on l) (λ e. refl)) K L s.alike

  same_taken : (l : ℕ) → taken l K ≡ taken l L
  same_taken l = through (taken l) (taken_but l) K L s.alike

  same_life : (l : ℕ) → life l K ≡ life l L
  same_life l = ap (λ (vs : List Life). find (λ (v : Life). eqb l v.link) vs) (through lives lives_but K L s.alike)

  pub keeps_too : Keeps g L h lines
  keeps_too = record {
    count = k.count ∙ through births births_but K L s.alike;
    messages_are = λ l. k.messages_are l ∙ ap (λ ms. map octets (numbered_from 1 (bodies_in ms))) (same_line l);
    waits = λ l z. k.waits l (subst IsSome (sym (same_life l)) z) ∙ ap (λ ms. length (text_of g.id ms) - taken l K) (same_line l) ∙ ap (λ n. length (text g l L) - n) (same_taken l);
    within = λ l z. subst (λ ms. taken l L ≤ length (text_of g.id ms)) (same_line l) (subst (λ n. n ≤ length (text g l K)) (same_taken l) (k.within l (subst IsSome (sym (same_life l)) z)));
  }

keeping_whole : (g : Config) (J : List Entry) (at c : ℕ) (a b : List ℕ) (n : Option Node) → Keeping g (J ++ piece at c a ∷ piece at c b ∷ []) n → Keeping g (J ++ piece at c (a ++ b) ∷ []) n
keeping_whole g J at c a b None s = tt
keeping_whole g J at c a b (Some n) s = stands_for_whole g J at c a b n s

-- a node that has taken a piece in two has taken it in one
pub has_sent_whole : (g : Config) (J : List Entry) (at c : ℕ) (a b : List ℕ) (x : Sender) → HasSent g (J ++ piece at c a ∷ piece at c b ∷ []) x → HasSent g (J ++ piece at c (a ++ b) ∷ []) x
has_sent_whole g J at c a b x s = record {
  stands = keeping_whole g J at c a b x.node s.stands;
  waits_first = s.waits_first;
  keeps = keeps_too g (chronicle g (J ++ piece at c a ∷ piece at c b ∷ [])) (chronicle g (J ++ piece at c (a ++ b) ∷ [])) (sim g J at c a b) x.handshake x.lines s.keeps;
}
