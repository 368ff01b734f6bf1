-- Replies on links, at the tables: PONGs are put, and peers end.
use Rattle.std.proofs.Common.{◌≡◌, ℕ, ◌≤◌, max, Bool, true, false, cond, ◌||◌, eqb, List, [], ◌∷◌, ◌++◌, length, map, Option, Some, None, IsSome, IfSome, Result, IfOk, find, refl, sym, ap, ◌∙◌, nat_cmp, subst, eq-eqb, append-nil, append_assoc, drop}
use Rattle.std.specs.List.{AllByRecursion, list_any}
use Rattle.std.specs.BTreeMap.{is_at}
use Rattle.std.specs.Map.{lookup}
use Rattle.std.proofs.lemmas.Map.Steps.{set_value_same}
use Rattle.std.proofs.lemmas.Result.{IfOk-weaker}
use Rattle.zre_values.specs.declared.memory.OutOfMemory.{OutOfMemory}
use Rattle.zre_values.specs.declared.peer_id.PeerId.{PeerId}
use Rattle.zre_outside.specs.declared.entry.Entry.{Entry}
use Rattle.zre_outside.specs.declared.entry.Input.TheVariants as input
use Rattle.zre_peer.specs.declared.causes.Cause.{Cause}
use Rattle.zre_link.specs.Heard.{reply_fault, pings, new_pings}
use Rattle.zre_link.specs.Link.{Sending, link_after, link_answering, answered, slow_in}
use Rattle.zre_link.specs.Text.{Member, Pongs}
use Rattle.zre_values.specs.declared.settings.Settings.{Settings as Config}
use Rattle.zre_journal.specs.Chronicle.{Mark, Comes, PutsPong, after}
use Rattle.zre_journal.specs.Connections.{open_ones}
use Rattle.zre_journal.specs.Done.{done, puts}
use Rattle.zre_journal.specs.Heard.{piece_of}
use Rattle.zre_journal.specs.LinkEntries.{cause_by_reply, end_by, answers, at_reply}
use Rattle.zre_journal.specs.Links.{line, is_linked, replies, newly_pinged, taken, unsent}
use Rattle.zre_journal.specs.Peers.{Life, lives, life, births, active, runner, counted}
use Rattle.zre_journal.specs.Told.{told}
use Rattle.zre_journal.proofs.ProperAfterMarks.{known_lives, Comes-proper, PutsPong-proper}
use Rattle.zre_journal.proofs.NumberedLists.{eqb-comm}
use Rattle.zre_node.specs.declared.effects.Effects.{Effects}
use Rattle.zre_tables.specs.declared.peer.Peer.{Peer}
use Rattle.zre_node.specs.declared.tables.Tables.{Tables}
use Rattle.zre_node.specs.Links.{pongs, IsReplied}
use Rattle.zre_tables.specs.Rows.{with_row}
use Rattle.zre_tables.specs.Tabled.{Tabled}
use Rattle.zre_node.specs.Stands.{Holds, Keeps, Did, IsPeer, IsKept, IsConn, link_of_life}
use Rattle.zre_node.proofs.EntriesThatCome.{other_conn, no_replies}
use Rattle.zre_tables.proofs.EntriesOfMaps.{Agree, retold, retold_of}
use Rattle.zre_node.proofs.EffectsOnLinks.{key, its, link_is, its_known, relinked}
use Rattle.zre_node.proofs.MarksAfterMarks.{or-nil}
use Rattle.zre_node.proofs.BodyOnOneLink.{row_link}
use Rattle.zre_node.proofs.UnchangedByMarks.{keeps_as}

-- ---- PONGs, one after another

-- they leave what none of them changes
unmoved : {A : Type 0} (f : List Mark → A) (l : ℕ) → ((c : List ℕ) (J : List Mark) → f (PutsPong l c ∷ J) ≡ f J) → (ts : List (List ℕ)) (K : List Mark) → f (after (pongs l ts) K) ≡ f K
unmoved f l same [] K = refl
unmoved f l same (c ∷ ts) K = unmoved f l same ts (PutsPong l c ∷ K) ∙ same c K

untold : (l : ℕ) (ts : List (List ℕ)) (K : List Mark) → told (pongs l ts) K ≡ []
untold l [] K = refl
untold l (c ∷ ts) K = untold l ts (PutsPong l c ∷ K)

undone : (own : PeerId) (l : ℕ) (ts : List (List ℕ)) → done own (pongs l ts) ≡ []
undone own l [] = refl
undone own l (c ∷ ts) = undone own l ts

no_message : (l k : ℕ) (ts : List (List ℕ)) → list_any (puts k) (pongs l ts) ≡ false
no_message l k [] = refl
no_message l k (c ∷ ts) = no_message l k ts

-- they tell nothing and ask for nothing
pub pongs_did : (g : Config) (l : ℕ) (ts : List (List ℕ)) (K : List Mark) (n : Tables) (a : Effects) → Holds g (after (pongs l ts) K) n → Did g (pongs l ts) K n a a
pongs_did g l ts K n a h = record {
  holds = h;
  events = sym (append-nil a.events) ∙ ap (λ es. a.events ++ es) (sym (untold l ts K));
  acts = sym (append-nil a.acts) ∙ ap (λ as_. a.acts ++ as_) (sym (undone g.id l ts));
  pushed = λ k. or-nil (list_any (eqb k) a.pushed) ∙ ap (λ b. list_any (eqb k) a.pushed || b) (sym (no_message l k ts));
}

keeps_pongs : (g : Config) (l : ℕ) (t : Tables) (ts : List (List ℕ)) (K : List Mark) → Keeps g K t → l ≤ births K → Keeps g (after (pongs l ts) K) t
keeps_pongs g l t [] K k low = k
keeps_pongs g l t (c ∷ ts) K k low =
    keeps_pongs g l t ts (PutsPong l c ∷ K) (keeps_as g K (PutsPong l c ∷ K) t t k (PutsPong-proper K k.proper l c low) refl (refl, refl, refl) k.clock_is k.births_is k.last_is k.groups_fit k.own k.conns) low

-- the row of another link
pongs_other : (g : Config) (l : ℕ) (ts : List (List ℕ)) (K : List Mark) → Agree key l (IsPeer g K) (IsPeer g (after (pongs l ts) K))
pongs_other g l [] K v w far is = is
pongs_other g l (c ∷ ts) K v w far is = pongs_other g l ts (PutsPong l c ∷ K) v w far (let off : eqb v.link l ≡ false = eqb-comm v.link l ∙ far in rw off is)

-- the row of that link
pongs_own : (g : Config) (l : ℕ) (ts : List (List ℕ)) (K : List Mark) (v : Life) (w : Peer) → l ≡ v.link
    → IsKept v.id (active v.link K) (runner v.link K) (counted v.link K) (link_after g.id (line l K ++ map (λ c. Pongs c) ts) (is_linked l K) (replies l K) (taken l K)) w → IsPeer g (after (pongs l ts) K) v w
pongs_own g l [] K v w same p = record {
  id_is = p.id_is;
  active_is = p.active_is;
  run_is = p.run_is;
  link_is = p.link_is ∙ ap (λ (ms : List Member). link_after g.id ms (is_linked l K) (replies l K) (taken l K)) (append-nil (line l K)) ∙ ap (link_of_life g K) same;
}
pongs_own g l (c ∷ ts) K v w same p =
    let me : eqb l l ≡ true = eq-eqb l l refl in
    pongs_own g l ts (PutsPong l c ∷ K) v w same (record {
      id_is = p.id_is;
      active_is = p.active_is;
      run_is = p.run_is;
      link_is = rw me (p.link_is ∙ ap (λ (ms : List Member). link_after g.id ms (is_linked l K) (replies l K) (taken l K)) (sym (append_assoc (line l K) (Pongs c ∷ []) (map (λ x. Pongs x) ts))));
    })

-- ---- a reply, by whether the link stands

reply_up : (g : Config) (l : ℕ) (H K : List Mark) (o : Option Life) (v : Life) → o ≡ Some v → is_linked l K ≡ true → at_reply g l o H K ≡ answers g l (newly_pinged l H K) (reply_fault (replies l K)) K
reply_up g l H K o v e up = rw (e, up) refl

reply_down : (g : Config) (l : ℕ) (H K : List Mark) (o : Option Life) (v : Life) → o ≡ Some v → is_linked l K ≡ false → at_reply g l o H K ≡ []
reply_down g l H K o v e down = rw (e, down) refl

if_any : {P : Type 0} (why : Option Cause) → P → IfSome why (λ x. P)
if_any None p = tt
if_any (Some x) p = p

none_found : (l : ℕ) (vs : List Life) → find (λ (v : Life). eqb l v.link) vs ≡ None → AllByRecursion (λ (v : Life). eqb l v.link ≡ false) vs
none_found l [] e = tt
none_found l (v ∷ vs) e = by (none_found l vs) (eqb l v.link) refl e
  where
    by : (find (λ (u : Life). eqb l u.link) vs ≡ None → AllByRecursion (λ (u : Life). eqb l u.link ≡ false) vs) → (b : Bool) → eqb l v.link ≡ b → cond b (Some v) (find (λ (u : Life). eqb l u.link) vs) ≡ None
        → (eqb l v.link ≡ false) × AllByRecursion (λ (u : Life). eqb l u.link ≡ false) vs
    by r true q k = absurd cc
    by r false q k = (q, r k)

module _ (g : Config) (H : List Mark) (t : Tables) (h : Holds g H t) (e : Entry) (l : ℕ) (o : List ℕ) (is : e.input ≡ input.Reply l o) where
  abbrev K : List Mark
  K = Comes e ∷ H

  no_piece : (c : ℕ) → piece_of c e.input ≡ []
  no_piece c = rw is refl

  -- the links of the others are as before
  another : Agree key l (IsPeer g H) (IsPeer g K)
  another v w far p = record {
    id_is = p.id_is;
    active_is = p.active_is;
    run_is = p.run_is;
    link_is = p.link_is ∙ ap (λ r. link_after g.id (line v.link H) (is_linked v.link H) r (taken v.link H)) (no_replies g H t h e v.link (let off : eqb v.link l ≡ false = eqb-comm v.link l ∙ far in rw (is, off) refl));
  }

  comes_keeps : (P : List (ℕ × Peer)) → Keeps g K (record t { clock = max e.at t.clock; peers = P })
  comes_keeps P = keeps_as g H _ _ _ h.keeps (Comes-proper H h.keeps.proper e) refl (refl, refl, refl) (ap (max e.at) h.keeps.clock_is) h.keeps.births_is h.keeps.last_is h.keeps.groups_fit h.keeps.own (retold (λ (c : ℕ). c) (IsConn g H) (IsConn g K) (λ c k q. q ∙ other_conn g H t h e c (no_piece c)) (open_ones H) t.conns h.keeps.conns)

  -- no known peer has the link
  pub not_replied : life l H ≡ None → IsReplied g H e l None (record t { clock = max e.at t.clock })
  not_replied none = record {
    contexts = [];
    holds = record {
      keeps = comes_keeps t.peers;
      peers = retold_of key (λ (v : Life). eqb l v.link ≡ false) (IsPeer g H) (IsPeer g K) (λ v k far p. another v k far p) (lives H) t.peers (none_found l (lives H) none) h.peers;
    };
    brings = rw none refl;
    known = tt;
  }

  module _ (k : Peer) (was : Some k ≡ lookup (is_at (nat_cmp l)) t.peers) where
    -- the replies with this one
    grown : is_linked l H ≡ true → replies l K ≡ replies l H ++ o
    grown up = let this : eqb l l ≡ true = eq-eqb l l refl in rw (up, is, this) refl

    dropped : is_linked l H ≡ false → replies l K ≡ replies l H
    dropped down = rw down (append-nil (replies l H))

    -- the link has these PONGs more
    with_pongs : (ts : List (List ℕ)) (s : Sending) (P : List (ℕ × Peer)) → P ≡ with_row l (record k { link = s }) t.peers → s ≡ link_after g.id (line l H ++ map (λ c. Pongs c) ts) (is_linked l H) (replies l K) (taken l H) → Holds g (after (pongs l ts) K) (record t { clock = max e.at t.clock; peers = P })
    with_pongs ts s P put new =
        let p = (its g H t h l k was).2 in
        let same = link_is g H t h l k was in
        record {
          keeps = keeps_pongs g l (record t { clock = max e.at t.clock; peers = P }) ts K (comes_keeps P) (known_lives H h.keeps.proper l (its g H t h l k was).0 (its g H t h l k was).1).1;
          peers = subst (λ vs. Tabled key (IsPeer g (after (pongs l ts) K)) vs P) (sym (unmoved lives l (λ c J. refl) ts K))
              (relinked g H t h l k was (after (pongs l ts) K) s P (λ v w far q. pongs_other g l ts K v w far (another v w far q))
              (pongs_own g l ts K (its g H t h l k was).0 (record k { link = s }) same (record { id_is = p.id_is; active_is = p.active_is; run_is = p.run_is; link_is = new })) put);
        }

    still : (ts : List (List ℕ)) → IsSome (life l (after (pongs l ts) K))
    still ts = subst IsSome (sym (unmoved (life l) l (λ c J. refl) ts K)) (its_known g H t h l k was)

    pub replied : (P : List (ℕ × Peer)) (r : Result (Option Cause) OutOfMemory)
        → ((own : PeerId) (ms : List Member) (q : List ℕ) (n : ℕ) → k.link ≡ link_after own ms true q n
        → IfOk r (λ why. (P ≡ with_row l (record k { link = link_answering own ms true q n o }) t.peers) × (why ≡ cause_by_reply (slow_in own ms q n o) (reply_fault (q ++ o)))))
        → (k.link.linked ≡ false → IfOk r (λ why. (P ≡ t.peers) × (why ≡ None)))
        → IfOk r (λ why. IsReplied g H e l why (record t { clock = max e.at t.clock; peers = P }))
    replied P r live dead = by (is_linked l H) refl
      where
        row : k.link ≡ link_after g.id (line l H) (is_linked l H) (replies l H) (taken l H)
        row = row_link g H t h l k was

        by : (b : Bool) → is_linked l H ≡ b → IfOk r (λ why. IsReplied g H e l why (record t { clock = max e.at t.clock; peers = P }))
        by true q =
            let ts = answered (unsent g l K) (new_pings (replies l H) o) in
            IfOk-weaker r _ _ (λ why a. record {
              contexts = ts;
              holds = with_pongs ts _ P a.0 (ap (λ b. link_after g.id (line l H ++ map (λ c. Pongs c) ts) b (replies l H ++ o) (taken l H)) (sym q) ∙ ap (λ (rs : List ℕ). link_after g.id (line l H ++ map (λ c. Pongs c) ts) (is_linked l H) rs (taken l H)) (sym (grown q)));
              brings =
                  reply_up g l H K (life l H) (its g H t h l k was).0 (its g H t h l k was).1 q ∙ ap (λ (rs : List ℕ). answers g l (drop (length (pings (replies l H))) (pings rs)) (reply_fault rs) K) (grown q)
                  ∙ ap (λ w. pongs l ts ++ end_by g l w) (sym a.1);
              known = if_any why (still ts);
            }) (live g.id (line l H) (replies l H) (taken l H) (row ∙ ap (λ b. link_after g.id (line l H) b (replies l H) (taken l H)) q))
        by false q =
            IfOk-weaker r _ _ (λ why a. record {
              contexts = [];
              holds = with_pongs [] k.link P (a.0 ∙ sym (set_value_same (is_at (nat_cmp l)) t.peers k (sym was)))
                  (row ∙ ap (λ (rs : List ℕ). link_after g.id (line l H) (is_linked l H) rs (taken l H)) (sym (dropped q)) ∙ ap (λ (ms : List Member). link_after g.id ms (is_linked l H) (replies l K) (taken l H)) (sym (append-nil (line l H))));
              brings = reply_down g l H K (life l H) (its g H t h l k was).0 (its g H t h l k was).1 q ∙ ap (λ w. end_by g l w) (sym a.1);
              known = if_any why (still []);
            }) (dead (ap (λ (x : Sending). x.linked) row ∙ q))
