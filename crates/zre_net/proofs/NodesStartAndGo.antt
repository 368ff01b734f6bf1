-- A node starts, or is gone.
use Rattle.std.proofs.Common.{◌≡◌, ◌⊎◌, ℕ, ◌+◌, ◌<◌, Bool, true, false, cond, not, ◌&&◌, ◌||◌, eqb, ltb, List, [], ◌∷◌, ◌++◌, length, Option, Some, None, is_none, refl, sym, ap, ◌∙◌, subst, inl, inr, arith, eqb-true, true≢false}
use Rattle.std.specs.Prelude.{sum_by}
use Rattle.std.specs.List.{list_all, list_any}
use Rattle.std.specs.Str.{bytes_eq}
use Rattle.std.proofs.lemmas.Slice.Eq.{bytes_eq-Decides}
use Rattle.std.proofs.lemmas.List.Sums.{sum_by_push}
use Rattle.zre_values.specs.declared.peer_id.PeerId.{PeerId}
use Rattle.zre_journal.specs.Events.{chronicle}
use Rattle.zre_journal.specs.Heard.{bytes}
use Rattle.zre_net.specs.declared.moves.Move.TheVariants as move
use Rattle.zre_net.specs.Lines.{Line}
use Rattle.zre_net.specs.declared.running.network.Network.{Network}
use Rattle.zre_net.specs.declared.running.rows.Started.{Started}
use Rattle.zre_net.specs.declared.running.rows.Carrier.{Carrier}
use Rattle.zre_net.specs.Grammar.{may_come, agrees}
use Rattle.zre_net.specs.History.{Incarnation, Happening, IsKnown, starts, incarnations, running, journal, chronicle_of, settings_of}
use Rattle.zre_net.specs.Lines.{octets_in}
use Rattle.zre_net.specs.Lists.{nth}
use Rattle.zre_net.specs.Numbers.{Route, routes, conns}
use Rattle.zre_net.specs.Rows.{running_at, with_running, has_node, OnlyRunning, fits_owner, is_owner, Owns, IsBegun}
use Rattle.zre_net.specs.declared.running.rows.Owner.{Owner}
use Rattle.zre_net.specs.Said.{said_in, IsRest}
use Rattle.zre_net.specs.Running.{IsStarted, HasStarted, Finds, AreNodes, AreConns, StandsAfter}
use Rattle.zre_net.specs.Sending.{HasSent}
use Rattle.zre_net.proofs.RunningNodes.{live_more, gone_more}
use Rattle.zre_net.proofs.ListsCountedFromOne.{some_one, nth_more, nth_last, nth_cases, all_map}
use Rattle.zre_net.proofs.JournalsOfIncarnations.{length-last, as_many_starts}
use Rattle.zre_journal.proofs.NumberedLists.{eqb-comm}
use Rattle.zre_net.proofs.RowsStandForSame.{start_stays, conn_stays, finds_stays, starting, after_start, known_started, number_is, starting_known}

-- ---- whose IDs the numbers have

fits_same : (n : ℕ) (id : PeerId) (a : Incarnation) → fits_owner n id (record { node = a.node; id = a.settings.id }) ≡ agrees n id a
fits_same n id a = ap (λ b. cond b (bytes_eq a.settings.id.0 id.0) (not (bytes_eq a.settings.id.0 id.0))) (eqb-comm a.node n)
    ∙ ap (λ b. cond (eqb n a.node) b (not b)) (bytes-turned a.settings.id.0 id.0)
  where
    bytes-turned : (xs ys : List ℕ) → bytes_eq xs ys ≡ bytes_eq ys xs
    bytes-turned [] [] = refl
    bytes-turned [] (y ∷ ys) = refl
    bytes-turned (x ∷ xs) [] = refl
    bytes-turned (x ∷ xs) (y ∷ ys) = ap (λ b. b && bytes_eq xs ys) (eqb-comm x y) ∙ ap (λ b. eqb y x && b) (bytes-turned xs ys)

all_last : {A : Type 0} (f : A → Bool) (xs : List A) (x : A) → list_all f (xs ++ x ∷ []) ≡ (list_all f xs && f x)
all_last f [] x = by (f x)
  where
    by : (b : Bool) → (b && true) ≡ b
    by true = refl
    by false = refl
all_last f (y ∷ xs) x = by (f y) (all_last f xs x)
  where
    by : (b : Bool) → list_all f (xs ++ x ∷ []) ≡ (list_all f xs && f x) → (b && list_all f (xs ++ x ∷ [])) ≡ ((b && list_all f xs) && f x)
    by true e = e
    by false e = refl

module _ (n : ℕ) (id : PeerId) where
  abbrev own : Owner
  own = record { node = n; id = id }

  pub owns_more : (before now : List Owner) → now ≡ before ++ own ∷ [] → Owns before n id now
  owns_more before now e k p = ap (list_all (fits_owner k p)) e ∙ all_last (fits_owner k p) before own

  fits_too : (k : ℕ) (p : PeerId) (o : Owner) → is_owner n id o ≡ true → fits_owner k p o ≡ fits_owner k p own
  fits_too k p o e = by (eqb o.node n) refl e
    where
      by : (t : Bool) → eqb o.node n ≡ t → cond t (bytes_eq o.id.0 id.0) false ≡ true → fits_owner k p o ≡ fits_owner k p own
      by false z q = absurd (true≢false (sym q))
      by true z q =
          ap (λ m. cond (eqb m k) (bytes_eq o.id.0 p.0) (not (bytes_eq o.id.0 p.0))) (eqb-true o.node n z)
          ∙ ap (λ (xs : List ℕ). cond (eqb n k) (bytes_eq xs p.0) (not (bytes_eq xs p.0))) ((bytes_eq-Decides o.id.0 id.0).0 q)

  pub owns_already : (os : List Owner) → list_any (is_owner n id) os ≡ true → Owns os n id os
  owns_already [] e k p = absurd (true≢false (sym e))
  owns_already (o ∷ os) e k p = by (is_owner n id o) refl e (λ q. owns_already os q k p)
    where
      f : Owner → Bool
      f = fits_owner k p

      mine : (a b : Bool) → (a && b) ≡ ((a && b) && a)
      mine true true = refl
      mine true false = refl
      mine false b = refl

      theirs : (a b c : Bool) → b ≡ (b && c) → (a && b) ≡ ((a && b) && c)
      theirs true b c z = z
      theirs false b c z = refl

      by : (t : Bool) → is_owner n id o ≡ t → (t || list_any (is_owner n id) os) ≡ true → (list_any (is_owner n id) os ≡ true → list_all f os ≡ (list_all f os && f own)) → (f o && list_all f os) ≡ ((f o && list_all f os) && f own)
      by true z q r = mine (f o) (list_all f os) ∙ ap (λ b. (f o && list_all f os) && b) (fits_too k p o z)
      by false z q r = theirs (f o) (list_all f os) (f own) (r q)

none_put : (ls : List Line) → length ls ≡ 0 → octets_in ls ≡ 0
none_put [] z = refl
none_put (l ∷ ls) z = absurd (omega (arith, z))

-- ---- a start

module _ (H : List Happening) (n at : ℕ) (id : PeerId) (name host : List ℕ) (port : ℕ) (net new : Network) (s : StandsAfter H net) where
  abbrev a : Incarnation
  a = starting H n at id name host port

  abbrev N : List Happening
  N = after_start H n at id name host port

  known_later : (b : Incarnation) → IsKnown H b → IsKnown N b
  known_later = known_started H n at id name host port

  its_number : length (incarnations H) + 1 ≡ starts H + 1
  its_number = number_is H n at id name host port

  none_yet : journal a N ≡ []
  none_yet = s.nodes.started.none_yet a (let e = as_many_starts H in omega (arith, e))

  module _ (x : Started) (begun : IsBegun n at (settings_of id name host port) x) (rows : new.started.items ≡ net.started.items ++ x ∷ []) (runs : with_running n (Some (length new.started.items)) net.running.items new.running.items)
      (owners : Owns net.owners n id new.owners) (said : IsRest new.handed (said_in H) new.said) (beacons : new.beacons ≡ net.beacons) (links : new.links ≡ net.links) (conns_stay : new.conns ≡ net.conns)
      (queued : new.queued ≡ net.queued) (pending_stay : new.pending ≡ net.pending) (free : running_at n net.running.items ≡ None) where
    new_row : IsStarted N a x
    new_row = record { node = begun.node; since = begun.since_is; id = begun.id; host = begun.host; sent = subst (λ J. HasSent a.settings J x.sender) (sym none_yet) begun.sent }

    count : length new.started.items ≡ length (incarnations H) + 1
    count = let e = ap (λ xs. length xs) rows in let l = length-last net.started.items x in let c = s.nodes.started.count in omega (arith, e, l, c)

    each : (k : ℕ) (b : Incarnation) → nth k (incarnations N) ≡ Some b → HasStarted N k b new.started.items
    each k b e = by (nth_cases k (incarnations H) a b e)
      where
        by : (nth k (incarnations H) ≡ Some b) ⊎ ((k ≡ length (incarnations H) + 1) × (b ≡ a)) → HasStarted N k b new.started.items
        by (inl z) =
            start_stays H N known_later k b net.started.items new.started.items (λ r t. ap (nth k) rows ∙ nth_more k net.started.items (x ∷ []) r t) (λ r q. q) (s.nodes.started.each k b z)
        by (inr z) = record {
          number = ap (λ (c : Incarnation). c.number) z.1 ∙ sym its_number ∙ sym z.0;
          row = x;
          there = ap (λ j. nth j new.started.items) (z.0 ∙ ap (λ l. l + 1) (sym s.nodes.started.count)) ∙ ap (nth (length net.started.items + 1)) rows ∙ nth_last net.started.items x;
          is = subst (λ c. IsStarted N c x) (sym z.1) new_row;
        }

    finds : (k : ℕ) → Finds N k (running k N) (running_at k new.running.items)
    finds k = subst (λ f. Finds N k (running k N) f) (sym (runs k)) (by (eqb k n) refl)
      where
        by : (t : Bool) → eqb k n ≡ t → Finds N k (cond t (Some a) (running k H)) (cond t (Some (length new.started.items)) (running_at k net.running.items))
        by true e = (ap (λ m. Some m) (count ∙ its_number), starting_known H n at id name host port, sym (eqb-true k n e))
        by false e = finds_stays H N known_later k (running k H) (running_at k net.running.items) (s.nodes.runs k)

    long : length new.started.items ≡ length net.started.items + 1
    long = let q = ap (λ xs. length xs) rows in let l = length-last net.started.items x in omega (arith, q, l)

    live : (k j : ℕ) → running_at k new.running.items ≡ Some j → has_node (nth j new.started.items) ≡ true
    live k j e = by (eqb k n) (sym (runs k) ∙ e)
      where
        by : (t : Bool) → cond t (Some (length new.started.items)) (running_at k net.running.items) ≡ Some j → has_node (nth j new.started.items) ≡ true
        by true z = ap (λ i. has_node (nth i new.started.items)) (sym (some_one z) ∙ long) ∙ ap (λ xs. has_node (nth (length net.started.items + 1) xs)) rows ∙ ap has_node (nth_last net.started.items x) ∙ begun.live
        by false z = ap (λ xs. has_node (nth j xs)) rows ∙ live_more j net.started.items (x ∷ []) (s.nodes.live k j z)

    nodes : AreNodes N new
    nodes = record {
      said = said;
      started = record {
        count = count ∙ sym (length-last (incarnations H) a);
        each = each;
        none_yet = λ b z. s.nodes.started.none_yet b (let l = length-last (incarnations H) a in omega (arith, l, z));
      };
      runs = finds;
      live = live;
      gone = subst (λ ys. OnlyRunning ys new.running.items) (sym rows)
          (gone_more net.started.items net.running.items s.nodes.gone new.running.items n x begun.node (λ j. runs j ∙ ap (λ l. cond (eqb j n) (Some l) (running_at j net.running.items)) long) free);
      owners = λ k p. owners k p ∙ ap (λ b. b && fits_owner k p (record { node = n; id = id })) (s.nodes.owners k p) ∙ ap (λ b. list_all (agrees k p) (incarnations H) && b) (fits_same k p a) ∙ sym (all_last (agrees k p) (incarnations H) a);
      beacons = beacons ∙ s.nodes.beacons;
      links = links ∙ s.nodes.links;
      known = all_map (λ (r : Route). IsKnown H r.from) (λ (r : Route). IsKnown N r.from) (λ r z. known_later r.from z) (routes H) s.nodes.known;
      queued = queued ∙ s.nodes.queued ∙ more ∙ sym (ap (λ xs. sum_by (λ (y : Started). octets_in y.sender.lines) xs) rows);
    }
      where
        empty : octets_in x.sender.lines ≡ 0
        empty = none_put x.sender.lines begun.sent.keeps.count

        more : sum_by (λ (y : Started). octets_in y.sender.lines) net.started.items ≡ sum_by (λ (y : Started). octets_in y.sender.lines) (net.started.items ++ x ∷ [])
        more = let p = sum_by_push (λ (y : Started). octets_in y.sender.lines) net.started.items x in omega (arith, p, empty)

    pub starts_stand : StandsAfter N new
    starts_stand = record {
      nodes = nodes;
      conns_are = subst (λ ys. AreConns N ys.items) (sym conns_stay) (record { count = s.conns_are.count; each = λ x c e. conn_stays H N known_later x c net.conns.items net.conns.items (λ y t. t) refl (λ y k f. f) (s.conns_are.each x c e); silent = silent });
      pending_is = pending_stay ∙ s.pending_is ∙ ap (λ ys. sum_by (λ (y : Carrier). length y.waiting) ys.items) (sym conns_stay);
    }
      where
        silent : (b : Incarnation) → IsKnown N b → (x : ℕ) → length (conns H) < x → bytes x (chronicle_of b N) ≡ []
        silent b k x z = by (nth_cases b.number (incarnations H) a b k)
          where
            by : (nth b.number (incarnations H) ≡ Some b) ⊎ ((b.number ≡ length (incarnations H) + 1) × (b ≡ a)) → bytes x (chronicle_of b N) ≡ []
            by (inl q) = s.conns_are.silent b q x z
            by (inr q) = ap (λ c. bytes x (chronicle_of c N)) q.1 ∙ ap (λ J. bytes x (chronicle a.settings J)) none_yet

-- ---- whether one may

same_none : (H : List Happening) (n : ℕ) (o : Option Incarnation) (f : Option ℕ) → Finds H n o f → is_none f ≡ is_none o
same_none H n None f z = ap (λ x. is_none x) z
same_none H n (Some a) f z = ap (λ x. is_none x) z.0

pub may_start : (H : List Happening) (net : Network) (n at : ℕ) (id : PeerId) (name host : List ℕ) (port : ℕ) → StandsAfter H net
    → (is_none (running_at n net.running.items) && (list_all (fits_owner n id) net.owners && ltb 0 port)) ≡ may_come (move.Start n at id name host port) H
may_start H net n at id name host port s =
    ap (λ b. b && (list_all (fits_owner n id) net.owners && ltb 0 port)) (same_none H n (running n H) (running_at n net.running.items) (s.nodes.runs n))
    ∙ ap (λ b. is_none (running n H) && (b && ltb 0 port)) (s.nodes.owners n id)
    ∙ grouped (is_none (running n H)) (list_all (agrees n id) (incarnations H)) (ltb 0 port)
  where
    grouped : (a b c : Bool) → (a && (b && c)) ≡ (a && b && c)
    grouped true b c = refl
    grouped false b c = refl

-- none runs there
pub is_free : (H : List Happening) (net : Network) (n at : ℕ) (id : PeerId) (name host : List ℕ) (port : ℕ) → StandsAfter H net → may_come (move.Start n at id name host port) H ≡ true → running_at n net.running.items ≡ None
is_free H net n at id name host port s = by (running n H) (s.nodes.runs n)
  where
    by : (o : Option Incarnation) → Finds H n o (running_at n net.running.items) → (is_none o && list_all (agrees n id) (incarnations H) && ltb 0 port) ≡ true → running_at n net.running.items ≡ None
    by None f e = f
    by (Some a) f e = absurd (true≢false (sym e))
