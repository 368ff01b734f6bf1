-- What comes about on links, at the tables.
use Rattle.std.proofs.Common.{◌≡◌, ℕ, ◌+◌, ◌-◌, ◌≤◌, min, Bool, true, false, ◌||◌, eqb, if◌then◌else◌, List, [], ◌∷◌, ◌++◌, length, Option, Some, None, IsSome, is_some, refl, sym, ap, ◌∙◌, nat_cmp, subst, eq-eqb}
use Rattle.std.specs.List.{AllByRecursion, list_any}
use Rattle.std.specs.BTreeMap.{is_at}
use Rattle.std.specs.Map.{lookup, set_value}
use Rattle.std.proofs.lemmas.List.Folds.{list_any-append}
use Rattle.zre_outside.specs.declared.entry.Entry.{Entry}
use Rattle.zre_outside.specs.declared.entry.Input.{Input}
use Rattle.zre_outside.specs.declared.entry.Input.TheVariants as input
use Rattle.zre_peer.specs.declared.causes.Cause.TheVariants as cause
use Rattle.zre_link.specs.Link.{Sending, link_after, taken_by}
use Rattle.zre_values.specs.declared.settings.Settings.{Settings as Config}
use Rattle.zre_journal.specs.Chronicle.{Mark, Comes, Ends, Links, Sends, after}
use Rattle.zre_journal.specs.Connections.{open_ones, is_new}
use Rattle.zre_journal.specs.Done.{names}
use Rattle.zre_journal.specs.Heard.{clock}
use Rattle.zre_journal.specs.Links.{line, groups, status, is_linked, replies, gate, taken}
use Rattle.zre_journal.specs.Peers.{Life, lives, life, births}
use Rattle.zre_journal.specs.Happens.{has_stopped, at_input}
use Rattle.zre_journal.specs.LinkEntries.{at_linked, at_reply, at_unlinked, at_took}
use Rattle.zre_journal.specs.Proper.{IsProper}
use Rattle.zre_journal.proofs.ProperAfterMarks.{known_lives, Links-proper, Sends-proper}
use Rattle.zre_journal.proofs.NumberedLists.{eqb-comm}
use Rattle.zre_node.specs.declared.effects.Effects.{Effects}
use Rattle.zre_tables.specs.declared.peer.Peer.{Peer}
use Rattle.zre_node.specs.declared.tables.Tables.{Tables}
use Rattle.zre_node.specs.Kinds.{is_about_link}
use Rattle.zre_node.specs.Links.{Notes}
use Rattle.zre_tables.specs.Tabled.{Tabled}
use Rattle.zre_node.specs.Stands.{Holds, Keeps, Did, IsPeer, IsConn, is_quiet, link_of_life}
use Rattle.zre_tables.proofs.EntriesOfMaps.{Agree, changed}
use Rattle.zre_node.proofs.MarksAfterMarks.{or-nil, idle_did, silent_did}
use Rattle.zre_node.proofs.RowsOfKnownPeers.{PeerRow, Found, Missing, peer_row, its_row}
use Rattle.zre_node.proofs.BodyOnOneLink.{row_link, written_back}
use Rattle.zre_node.proofs.UnchangedByMarks.{keeps_as}

abbrev pub key : Life → ℕ
key v = v.link

-- all but the table of peers, after a mark that says nothing of it
keeps_after : (g : Config) (K H : List Mark) (t : Tables) (P : List (ℕ × Peer)) → Keeps g K t → IsProper H → has_stopped H ≡ has_stopped K → clock H ≡ clock K → births H ≡ births K → ((c : ℕ) → is_new c H ≡ is_new c K)
    → groups H ≡ groups K → status H ≡ status K → Tabled (λ (c : ℕ). c) (IsConn g H) (open_ones H) t.conns → Keeps g H (record t { peers = P })
keeps_after g K H t P k proper going same_clock same_births same_new same_groups same_status conns = keeps_as g K _ _ _ k proper going (refl, refl, refl) (k.clock_is ∙ sym same_clock) (k.births_is ∙ sym same_births) (λ c. same_new c ∙ k.last_is c) (subst (λ gs. AllByRecursion (λ group. length group ≤ 255) gs) (sym same_groups) k.groups_fit) (k.own ∙ rw (same_groups, same_status) refl) conns

module _ (g : Config) (K : List Mark) (t : Tables) (h : Holds g K t) (l : ℕ) (k : Peer) (was : Some k ≡ lookup (is_at (nat_cmp l)) t.peers) where
  pub its : (v : Life) × (life l K ≡ Some v) × IsPeer g K v k
  its = its_row (IsPeer g K) K t.peers h.peers l k was

  pub link_is : l ≡ its.0.link
  link_is = (known_lives K h.keeps.proper l its.0 its.1).2

  pub its_known : IsSome (life l K)
  its_known = rw its.1 refl

  me : eqb its.0.link l ≡ true
  me = eq-eqb its.0.link l (sym link_is)

  -- the rows with another link in that of l
  pub relinked : (H : List Mark) (o : Sending) (P : List (ℕ × Peer)) → Agree key l (IsPeer g K) (IsPeer g H) → IsPeer g H its.0 (record k { link = o }) → P ≡ set_value (is_at (nat_cmp l)) t.peers (record k { link = o })
      → Tabled key (IsPeer g H) (lives K) P
  relinked H o P others here put = subst (λ es. Tabled key (IsPeer g H) (lives K) es) (sym put)
      (changed key (IsPeer g K) (IsPeer g H) l (record k { link = o }) others (lives K) t.peers h.keeps.proper.living.apart
      (λ v f. let that : its.0 ≡ v = (let z : Some its.0 ≡ Some v = sym its.1 ∙ f in cc) in subst (λ u. IsPeer g H u (record k { link = o })) that here) h.peers)

  -- ---- it stands

  stands_now : (o : Sending) (P : List (ℕ × Peer)) → o ≡ link_after g.id (line l K) true (replies l K) (taken l K) → P ≡ set_value (is_at (nat_cmp l)) t.peers (record k { link = o })
      → Holds g (Links l ∷ K) (record t { peers = P })
  stands_now o P new put = record {
    keeps = keeps_after g K (Links l ∷ K) t P h.keeps (Links-proper K h.keeps.proper l (known_lives K h.keeps.proper l its.0 its.1).1) refl refl refl (λ c. refl) refl refl h.keeps.conns;
    peers = relinked (Links l ∷ K) o P (λ v w far is. let off : eqb v.link l ≡ false = eqb-comm v.link l ∙ far in rw off is)
        (rw me record { id_is = its.2.id_is; active_is = its.2.active_is; run_is = its.2.run_is; link_is = new ∙ ap (λ j. link_after g.id (line j K) true (replies j K) (taken j K)) link_is }) put;
  }

  pub linked_holds : (o : Sending) (P : List (ℕ × Peer)) → o ≡ link_after g.id (line l K) true (replies l K) (taken l K) → P ≡ set_value (is_at (nat_cmp l)) t.peers (record k { link = o })
      → Holds g (after (at_linked g l (life l K) K) K) (record t { peers = P })
  linked_holds o P new put = subst (λ (x : Option Life). Holds g (after (at_linked g l x K) K) (record t { peers = P })) (sym its.1) (by (is_linked l K) refl)
    where
      by : (b : Bool) → is_linked l K ≡ b → Holds g (after (if b then [] else Links l ∷ []) K) (record t { peers = P })
      by true e = written_back g K t h l k was o P (new ∙ ap (λ b. link_after g.id (line l K) b (replies l K) (taken l K)) (sym e) ∙ sym (row_link g K t h l k was)) put
      by false e = stands_now o P new put

  -- ---- it takes octets

  takes_now : (n : ℕ) (o : Sending) (P : List (ℕ × Peer)) → o ≡ link_after g.id (line l K) (is_linked l K) (replies l K) (taken l K + n) → P ≡ set_value (is_at (nat_cmp l)) t.peers (record k { link = o })
      → Holds g (Sends l n ∷ K) (record t { peers = P })
  takes_now n o P new put = record {
    keeps = keeps_after g K (Sends l n ∷ K) t P h.keeps (Sends-proper K h.keeps.proper l n (known_lives K h.keeps.proper l its.0 its.1).1) refl refl refl (λ c. refl) refl refl h.keeps.conns;
    peers = relinked (Sends l n ∷ K) o P (λ v w far is. let off : eqb v.link l ≡ false = eqb-comm v.link l ∙ far in rw off is)
        (rw me record { id_is = its.2.id_is; active_is = its.2.active_is; run_is = its.2.run_is; link_is = new ∙ ap (λ j. link_after g.id (line j K) (is_linked j K) (replies j K) (taken j K + n)) link_is }) put;
  }

  pub took_holds : (n : ℕ) (o : Sending) (P : List (ℕ × Peer)) → o ≡ link_after g.id (line l K) (is_linked l K) (replies l K) (taken_by g.id (line l K) (is_linked l K) (replies l K) (taken l K) n)
      → P ≡ set_value (is_at (nat_cmp l)) t.peers (record k { link = o }) → Holds g (after (at_took g l n (life l K) K) K) (record t { peers = P })
  took_holds n o P new put = subst (λ (x : Option Life). Holds g (after (at_took g l n x K) K) (record t { peers = P })) (sym its.1) (takes_now (min n (gate g l K - taken l K)) o P new put)

-- a link has the row of a known peer, or none
pub at_link : {C : Type 0} (g : Config) (K : List Mark) (t : Tables) → Holds g K t → (l : ℕ) → ((k : Peer) → lookup (is_at (nat_cmp l)) t.peers ≡ Some k → k.link ≡ link_of_life g K l → C) → (life l K ≡ None → lookup (is_at (nat_cmp l)) t.peers ≡ None → C) → C
at_link {C} g K t h l found missing = by (peer_row (IsPeer g K) K t.peers h.peers l)
  where
    by : PeerRow (IsPeer g K) K l (lookup (is_at (nat_cmp l)) t.peers) → C
    by (Found v k f o p) = found k o (row_link g K t h l k (sym o))
    by (Missing f o) = missing f o

-- no mark comes about on a link of no known peer
pub unlinked_holds : (g : Config) (K : List Mark) (t : Tables) (l : ℕ) → Holds g K t → life l K ≡ None → Holds g (after (at_linked g l (life l K) K) K) t
unlinked_holds g K t l h e = subst (λ (x : Option Life). Holds g (after (at_linked g l x K) K) t) (sym e) h

pub untaken_holds : (g : Config) (K : List Mark) (t : Tables) (l n : ℕ) → Holds g K t → life l K ≡ None → Holds g (after (at_took g l n (life l K) K) K) t
untaken_holds g K t l n h e = subst (λ (x : Option Life). Holds g (after (at_took g l n x K) K) t) (sym e) h

-- these marks tell nothing and ask for nothing
pub linked_did : (g : Config) (K : List Mark) (l : ℕ) (n : Tables) (a : Effects) → Holds g (after (at_linked g l (life l K) K) K) n → Did g (at_linked g l (life l K) K) K n a a
linked_did g K l n a = known (life l K)
  where
    by : (b : Bool) → Holds g (after (if b then [] else Links l ∷ []) K) n → Did g (if b then [] else Links l ∷ []) K n a a
    by true h = idle_did g K n a h
    by false h = silent_did g (Links l) K n a h refl refl (λ j. refl)

    known : (o : Option Life) → Holds g (after (at_linked g l o K) K) n → Did g (at_linked g l o K) K n a a
    known None h = idle_did g K n a h
    known (Some v) h = by (is_linked l K) h

pub took_did : (g : Config) (K : List Mark) (l m : ℕ) (n : Tables) (a : Effects) → Holds g (after (at_took g l m (life l K) K) K) n → Did g (at_took g l m (life l K) K) K n a a
took_did g K l m n a = known (life l K)
  where
    known : (o : Option Life) → Holds g (after (at_took g l m o K) K) n → Did g (at_took g l m o K) K n a a
    known None h = idle_did g K n a h
    known (Some v) h = silent_did g (Sends l (min m (gate g l K - taken l K))) K n a h refl refl (λ j. refl)

-- ---- it breaks

-- whether a link has a row
pub some_peer : (g : Config) (K : List Mark) (t : Tables) → Holds g K t → (l : ℕ) → is_some (lookup (is_at (nat_cmp l)) t.peers) ≡ is_some (life l K)
some_peer g K t h l = by (peer_row (IsPeer g K) K t.peers h.peers l)
  where
    by : PeerRow (IsPeer g K) K l (lookup (is_at (nat_cmp l)) t.peers) → is_some (lookup (is_at (nat_cmp l)) t.peers) ≡ is_some (life l K)
    by (Found v k f o p) = rw (f, o) refl
    by (Missing f o) = rw (f, o) refl

pub no_break : (g : Config) (l : ℕ) (o : Option Life) → is_some o ≡ false → at_unlinked g l o ≡ []
no_break g l None e = refl
no_break g l (Some v) e = absurd cc

pub break : (g : Config) (l : ℕ) (o : Option Life) → is_some o ≡ true → (IsSome o) × (at_unlinked g l o ≡ Ends l cause.Link ∷ [])
break g l None e = absurd cc
break g l (Some v) e = (refl, refl)

-- ---- entries that name a link

or-false : (b c : Bool) → (b || (c || false)) ≡ (b || c)
or-false true c = refl
or-false false true = refl
or-false false false = refl

-- the link that is named was noted after the others
pub noted : (l : ℕ) (i : Input) (a s : Effects) → ((j : ℕ) → names j i ≡ eqb j l) → s.events ≡ a.events → s.acts ≡ a.acts → s.pushed ≡ a.pushed ++ l ∷ [] → Notes i a s
noted l i a s n ev ac pu = record {
  events = ev;
  acts = ac;
  pushed = λ j. ap (λ (ks : List ℕ). list_any (eqb j) ks) pu ∙ list_any-append (eqb j) a.pushed (l ∷ []) ∙ or-false (list_any (eqb j) a.pushed) (eqb j l) ∙ ap (λ b. list_any (eqb j) a.pushed || b) (sym (n j));
}

-- no link is named
pub not_noted : (i : Input) (a : Effects) → ((j : ℕ) → names j i ≡ false) → Notes i a a
not_noted i a n = record { events = refl; acts = refl; pushed = λ j. or-nil (list_any (eqb j) a.pushed) ∙ ap (λ b. list_any (eqb j) a.pushed || b) (sym (n j)) }

pub unnamed : (i : Input) → ((l : ℕ) → i ≡ input.Linked l → ⊥) → ((l : ℕ) (o : List ℕ) → i ≡ input.Reply l o → ⊥) → ((l n : ℕ) → i ≡ input.Took l n → ⊥) → (j : ℕ) → names j i ≡ false
unnamed (input.Linked l) a b c j = absurd (a l refl)
unnamed (input.Reply l o) a b c j = absurd (b l o refl)
unnamed (input.Took l n) a b c j = absurd (c l n refl)
unnamed _ a b c j = refl

pub other_input : {C : Type 0} (i : Input) → ((l : ℕ) → i ≡ input.Linked l → ⊥) → ((l : ℕ) → i ≡ input.Unlinked l → ⊥) → ((l n : ℕ) → i ≡ input.Took l n → ⊥) → is_about_link i ≡ true → C
other_input (input.Linked l) a b c e = absurd (a l refl)
other_input (input.Unlinked l) a b c e = absurd (b l refl)
other_input (input.Took l n) a b c e = absurd (c l n refl)
other_input _ a b c e = absurd cc

-- an entry with a reply
pub reply_names : (e : Entry) (l : ℕ) (o : List ℕ) → e.input ≡ input.Reply l o → (j : ℕ) → names j e.input ≡ eqb j l
reply_names e l o is j = rw is refl

pub reply_marks : (g : Config) (e : Entry) (H : List Mark) (l : ℕ) (o : List ℕ) → e.input ≡ input.Reply l o → at_input g e.input H (Comes e ∷ H) ≡ at_reply g l (life l H) H (Comes e ∷ H)
reply_marks g e H l o is = ap (λ i. at_input g i H (Comes e ∷ H)) is
