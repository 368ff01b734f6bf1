-- What comes about as something is said, and what is told of it, doesn't look at the marks of entries.
use Rattle.std.proofs.Common.{◌≡◌, ℕ, ◌+◌, ◌-◌, ◌%◌, Bool, true, false, cond, not, ◌&&◌, ◌||◌, eqb, ltb, List, [], ◌∷◌, ◌++◌, length, Option, Some, None, is_some, is_none, find, refl, sym, ap, ◌∙◌}
use Rattle.std.specs.Option.{option_and_then, option_or}
use Rattle.std.specs.List.{list_any}
use Rattle.std.specs.Str.{bytes_eq}
use Rattle.zre_values.specs.declared.limits.TheConstants.{PEERS, UNSENT_OCTETS}
use Rattle.zre_outside.specs.declared.entry.Entry.{Entry}
use Rattle.zre_link.specs.Text.{size_of, text_of}
use Rattle.zre_mailbox.specs.Talk.{Said, Arrived, Fault}
use Rattle.zre_peer.specs.Runs.{is_hello, due, events_of}
use Rattle.zre_peer.specs.Views.{view_of, is_small}
use Rattle.zre_peer.specs.declared.view.View.{View}
use Rattle.zre_peer.specs.declared.event.Event.TheVariants as event
use Rattle.zre_peer.specs.declared.causes.Cause.{Cause}
use Rattle.zre_peer.specs.declared.causes.Cause.TheVariants as cause
use Rattle.zre_peer.specs.declared.causes.CloseWhy.TheVariants as close
use Rattle.zre_peer.specs.declared.causes.IgnoreWhy.TheVariants as ignore
use Rattle.zre_journal.specs.Chronicle.{Mark, Comes, Opens, Identifies, Starts, Counts, Ignores, Closes, IsShut, ClosesAtStop, Born, Ends, IsEvasive, Puts, Sends, Joins, Leaves, after, latest, followed, each, ever}
use Rattle.zre_journal.specs.Config.{own_endpoint}
use Rattle.zre_journal.specs.Connections.{open_ones, is_open, identity, identity_at, started, start_at, is_end_of, has_ended, runs, refuses, was_used, is_ignored, is_live, other_with, is_same, others}
use Rattle.zre_journal.specs.Cutting.{is_entry, but_entries}
use Rattle.zre_journal.specs.Peers.{Life, lives, other_lives, life_of, life, runner, runner_at, births, counted, message_at, view}
use Rattle.zre_journal.specs.Links.{groups, status, line, put_on, taken, unsent}
use Rattle.zre_journal.specs.Pushes.{hello, push, birth}
use Rattle.zre_journal.specs.Told.{told, told_at, by_message, exit, becoming_evasive}
use Rattle.zre_values.specs.Lists.{without}
use Rattle.zre_journal.specs.Arrivals.{end_of_run, taken_over, start_unknown, start, at_first, answer_to, at_later, at_message, at_ready, at_said, at_place, at_places}
use Rattle.zre_values.specs.declared.settings.Settings.{Settings as Config}
use Rattle.zre_mailbox.specs.declared.arrival.Arrival.TheVariants as arrival
use Rattle.zre_msg.specs.declared.message.Body.{Body}
use Rattle.zre_msg.specs.declared.message.Body.TheVariants as body
use Rattle.zre_msg.specs.declared.message.Message.{Message}
use Rattle.zre_values.specs.Endpoint.{endpoint_in}
use Rattle.zre_values.specs.declared.endpoint.Endpoint.{Endpoint}
use Rattle.zre_values.specs.declared.peer_id.PeerId.{PeerId}

-- the same came about
abbrev pub AreAlike : List Mark → List Mark → Type 0
AreAlike K L = but_entries K ≡ but_entries L

pub after_alike : (hs K L : List Mark) → AreAlike K L → AreAlike (after hs K) (after hs L)
after_alike [] K L r = r
after_alike (h ∷ hs) K L r = after_alike hs (h ∷ K) (h ∷ L) (ap (λ X. cond (not (is_entry h)) (h ∷ X) X) r)

-- ---- what marks say, but for those of entries

module _ {A : Type 0} (f : Mark → Option A) (none : (e : Entry) → f (Comes e) ≡ None) where
  pub latest_but : (H : List Mark) → latest f (but_entries H) ≡ latest f H
  latest_but [] = refl
  latest_but (Comes e ∷ H) = latest_but H ∙ ap (λ o. option_or o (latest f H)) (sym (none e))
  latest_but (h ∷ H) = ap (λ o. option_or (f h) o) (latest_but H)

  pub each_but : (H : List Mark) → each f (but_entries H) ≡ each f H
  each_but [] = refl
  each_but (Comes e ∷ H) = each_but H ∙ ap (λ o. followed (each f H) o) (sym (none e))
  each_but (h ∷ H) = ap (λ xs. followed xs (f h)) (each_but H)

pub ever_but : (t : Mark → Bool) → ((e : Entry) → t (Comes e) ≡ false) → (H : List Mark) → ever t (but_entries H) ≡ ever t H
ever_but t none [] = refl
ever_but t none (Comes e ∷ H) = ever_but t none H ∙ ap (λ b. cond b true (ever t H)) (sym (none e))
ever_but t none (h ∷ H) = ap (λ b. cond (t h) true b) (ever_but t none H)

pub lives_but : (H : List Mark) → lives (but_entries H) ≡ lives H
lives_but [] = refl
lives_but (Born l p to ∷ H) = ap (λ (vs : List Life). vs ++ record { link = l; id = p; endpoint = to } ∷ []) (lives_but H)
lives_but (Ends l why ∷ H) = ap (other_lives l) (lives_but H)
lives_but (_ ∷ H) = lives_but H

pub births_but : (H : List Mark) → births (but_entries H) ≡ births H
births_but [] = refl
births_but (Born l p to ∷ H) = ap (λ n. n + 1) (births_but H)
births_but (_ ∷ H) = births_but H

pub open_but : (H : List Mark) → open_ones (but_entries H) ≡ open_ones H
open_but [] = refl
open_but (Opens c ∷ H) = ap (λ cs. cs ++ c ∷ []) (open_but H)
open_but (Closes c why ∷ H) = ap (others c) (open_but H)
open_but (IsShut c ∷ H) = ap (others c) (open_but H)
open_but (ClosesAtStop c ∷ H) = ap (others c) (open_but H)
open_but (_ ∷ H) = open_but H

pub groups_but : (H : List Mark) → groups (but_entries H) ≡ groups H
groups_but [] = refl
groups_but (Joins group ∷ H) = ap (λ gs. gs ++ group ∷ []) (groups_but H)
groups_but (Leaves group ∷ H) = ap (without group) (groups_but H)
groups_but (_ ∷ H) = groups_but H

pub status_but : (H : List Mark) → status (but_entries H) ≡ status H
status_but [] = refl
status_but (Joins group ∷ H) = ap (λ n. (n + 1) % 256) (status_but H)
status_but (Leaves group ∷ H) = ap (λ n. (n + 1) % 256) (status_but H)
status_but (_ ∷ H) = status_but H

pub taken_but : (l : ℕ) (H : List Mark) → taken l (but_entries H) ≡ taken l H
taken_but l [] = refl
taken_but l (Sends k n ∷ H) = ap (λ m. cond (eqb l k) (m + n) m) (taken_but l H)
taken_but l (_ ∷ H) = taken_but l H

pub through : {A : Type 0} (O : List Mark → A) → ((H : List Mark) → O (but_entries H) ≡ O H) → (K L : List Mark) → AreAlike K L → O K ≡ O L
through O l K L r = sym (l K) ∙ ap O r ∙ l L

unless_same : (s t : ℕ → Bool) (o : Option ℕ) → ((l : ℕ) → s l ≡ t l) → option_and_then (λ l. cond (s l) None (Some l)) o ≡ option_and_then (λ l. cond (t l) None (Some l)) o
unless_same s t None e = refl
unless_same s t (Some l) e = ap (λ b. cond b None (Some l)) (e l)

find_same : (s t : ℕ → Bool) (cs : List ℕ) → ((c : ℕ) → s c ≡ t c) → find s cs ≡ find t cs
find_same s t [] e = refl
find_same s t (c ∷ cs) e = ap (λ b. cond b (Some c) (find s cs)) (e c) ∙ ap (λ o. cond (t c) (Some c) o) (find_same s t cs e)

module _ (K L : List Mark) (r : AreAlike K L) where
  same_lives : lives K ≡ lives L
  same_lives = through lives lives_but K L r

  same_births : births K ≡ births L
  same_births = through births births_but K L r

  same_open : open_ones K ≡ open_ones L
  same_open = through open_ones open_but K L r

  -- the latest, and each, of what marks say, where entries say none of it
  same_latest : {A : Type 0} (f : Mark → Option A) → ((e : Entry) → f (Comes e) ≡ None) → latest f K ≡ latest f L
  same_latest f none = through (latest f) (latest_but f none) K L r

  same_each : {A : Type 0} (f : Mark → Option A) → ((e : Entry) → f (Comes e) ≡ None) → each f K ≡ each f L
  same_each f none = through (each f) (each_but f none) K L r

  same_ever : (t : Mark → Bool) → ((e : Entry) → t (Comes e) ≡ false) → ever t K ≡ ever t L
  same_ever t none = through (ever t) (ever_but t none) K L r

  same_identity : (c : ℕ) → identity c K ≡ identity c L
  same_identity c = same_latest (identity_at c) (λ e. refl)

  pub same_runs : (c : ℕ) → runs c K ≡ runs c L
  same_runs c = ap (option_and_then (λ l. cond (has_ended l K) None (Some l))) (same_latest (start_at c) (λ e. refl)) ∙ unless_same (λ l. has_ended l K) (λ l. has_ended l L) (started c L) (λ l. same_ever (is_end_of l) (λ e. refl))

  same_used : (c : ℕ) → was_used c K ≡ was_used c L
  same_used c = ap (λ b. b || is_some (started c K)) (same_ever (refuses c) (λ e. refl)) ∙ ap (λ o. ever (refuses c) L || is_some o) (same_latest (start_at c) (λ e. refl))

  pub same_ignored : (c : ℕ) → is_ignored c K ≡ is_ignored c L
  same_ignored c = ap (λ o. is_none o && was_used c K) (same_runs c) ∙ ap (λ b. is_none (runs c L) && b) (same_used c)

  same_live : (c : ℕ) → is_live c K ≡ is_live c L
  same_live c = ap (λ cs. list_any (eqb c) cs && not (is_ignored c K)) same_open ∙ ap (λ b. is_open c L && not b) (same_ignored c)

  same_counted : (l : ℕ) → counted l K ≡ counted l L
  same_counted l = same_each (message_at l) (λ e. refl)

  same_other : (p : PeerId) (c : ℕ) → other_with p c K ≡ other_with p c L
  same_other p c = ap (find (λ d. not (eqb c d) && is_same p (identity d K))) same_open
      ∙ find_same (λ d. not (eqb c d) && is_same p (identity d K)) (λ d. not (eqb c d) && is_same p (identity d L)) (open_ones L) (λ d. ap (λ i. not (eqb c d) && is_same p i) (same_identity d))

  module _ (g : Config) where
    same_unsent : (l : ℕ) → unsent g l K ≡ unsent g l L
    same_unsent l = ap (λ bs. length (text_of g.id bs) - taken l K) (same_each (put_on l) (λ e. refl)) ∙ ap (λ n. length (text_of g.id (line l L)) - n) (through (taken l) (taken_but l) K L r)

    same_push : (l : ℕ) (b : Body) → push g l b K ≡ push g l b L
    same_push l b = ap (λ bs. cond (ltb UNSENT_OCTETS (unsent g l K + size_of bs b)) (Ends l (cause.Slow (unsent g l K) (size_of bs b)) ∷ []) (Puts l b ∷ [])) (same_each (put_on l) (λ e. refl))
        ∙ ap (λ n. cond (ltb UNSENT_OCTETS (n + size_of (line l L) b)) (Ends l (cause.Slow n (size_of (line l L) b)) ∷ []) (Puts l b ∷ [])) (same_unsent l)

    same_birth : (p : PeerId) (to : Endpoint) → birth g p to K ≡ birth g p to L
    same_birth p to = ap (λ n. Born (n + 1) p to ∷ Puts (n + 1) (hello g K) ∷ []) same_births
        ∙ ap (λ gs. Born (births L + 1) p to ∷ Puts (births L + 1) (body.Hello (own_endpoint g) gs (status K) g.name g.headers) ∷ []) (through groups groups_but K L r)
        ∙ ap (λ n. Born (births L + 1) p to ∷ Puts (births L + 1) (body.Hello (own_endpoint g) (groups L) n g.name g.headers) ∷ []) (through status status_but K L r)

    same_taken_over : (o : Option ℕ) → taken_over g o K ≡ taken_over g o L
    same_taken_over None = refl
    same_taken_over (Some d) = ap (λ o. end_of_run g o cause.Taken ++ Closes d close.Taken ∷ []) (same_runs d)

    same_ready : (c : ℕ) (p : PeerId) (i : Option PeerId) → at_ready g c p i K ≡ at_ready g c p i L
    same_ready c p (Some j) = refl
    same_ready c p None = ap (λ o. taken_over g o K ++ Identifies c p ∷ []) (same_other p c) ∙ ap (λ hs. hs ++ Identifies c p ∷ []) (same_taken_over (other_with p c L))

    module _ (c : ℕ) (m : Message) where
      same_unknown : (p : PeerId) (o : Option Endpoint) → start_unknown g c p m o K ≡ start_unknown g c p m o L
      same_unknown p None = refl
      same_unknown p (Some to) = ap (λ (vs : List Life). cond (ltb (length vs) PEERS) (birth g p to K ++ Starts c (births K + 1) m ∷ []) (Ignores c ignore.Full ∷ [])) same_lives
          ∙ ap (λ hs. cond (ltb (length (lives L)) PEERS) (hs ++ Starts c (births K + 1) m ∷ []) (Ignores c ignore.Full ∷ [])) (same_birth p to)
          ∙ ap (λ n. cond (ltb (length (lives L)) PEERS) (birth g p to L ++ Starts c (n + 1) m ∷ []) (Ignores c ignore.Full ∷ [])) same_births

      same_start : (p : PeerId) (o : Option Life) → start g c p m o K ≡ start g c p m o L
      same_start p (Some v) = refl
      same_start p None = same_unknown p (endpoint_in (view_of (m ∷ [])).endpoint)

      same_first : (i : Option PeerId) → at_first g c i m K ≡ at_first g c i m L
      same_first None = refl
      same_first (Some p) = ap (λ hs. cond (not (is_hello m.body && eqb m.sequence 1)) (Ignores c ignore.NotHello ∷ []) (cond (not (is_small (view_of (m ∷ [])))) (Ignores c ignore.Limit ∷ []) hs))
          (ap (λ vs. start g c p m (find (λ (v : Life). bytes_eq p.0 v.id.0) vs) K) same_lives ∙ same_start p (life_of p L))

      same_answer : (l : ℕ) (b : Body) → answer_to g l b K ≡ answer_to g l b L
      same_answer l body.Ping = same_push l body.PingOk
      same_answer l _ = refl

      same_later : (l : ℕ) → at_later g c l m K ≡ at_later g c l m L
      same_later l = ap (λ ms. cond (is_hello m.body) (Ends l cause.Hello ∷ []) (cond (not (eqb m.sequence (due ms))) (Ends l (cause.Order (due ms) m.sequence) ∷ [])
          (cond (not (is_small (view_of (ms ++ m ∷ [])))) (Ends l cause.Limit ∷ []) (Counts c l m ∷ answer_to g l m.body K)))) (same_counted l)
          ∙ ap (λ hs. cond (is_hello m.body) (Ends l cause.Hello ∷ []) (cond (not (eqb m.sequence (due (counted l L)))) (Ends l (cause.Order (due (counted l L)) m.sequence) ∷ [])
          (cond (not (is_small (view_of (counted l L ++ m ∷ [])))) (Ends l cause.Limit ∷ []) (Counts c l m ∷ hs)))) (same_answer l m.body)

      same_message : (o : Option ℕ) → at_message g c o m K ≡ at_message g c o m L
      same_message None = ap (λ i. at_first g c i m K) (same_identity c) ∙ same_first (identity c L)
      same_message (Some l) = same_later l

    same_said : (c : ℕ) (x : Said) → at_said g c x K ≡ at_said g c x L
    same_said c (Arrived arrival.Greeted) = refl
    same_said c (Arrived (arrival.Shaken p)) = ap (λ i. at_ready g c p i K) (same_identity c) ∙ same_ready c p (identity c L)
    same_said c (Arrived (arrival.Ping t)) = refl
    same_said c (Arrived (arrival.Message m)) = ap (λ o. at_message g c o m K) (same_runs c) ∙ same_message c m (runs c L)
    same_said c (Fault f) = ap (λ o. end_of_run g o cause.Fault ++ Closes c (close.Zmtp f) ∷ []) (same_runs c)

    pub same_place : (c : ℕ) (x : Said) → at_place g c x K ≡ at_place g c x L
    same_place c x = ap (λ b. cond b (at_said g c x K) []) (same_live c) ∙ ap (λ hs. cond (is_live c L) hs []) (same_said c x)

  -- ---- what is told

  same_view : (l : ℕ) → view l K ≡ view l L
  same_view l = ap view_of (same_counted l)

  told_message : (o : Option Life) (m : Message) → by_message o m K ≡ by_message o m L
  told_message None m = refl
  told_message (Some v) m = ap (λ w. events_of v.id w m.body) (same_view v.link)

  told_exit : (o : Option Life) (why : Cause) → exit o why K ≡ exit o why L
  told_exit None why = refl
  told_exit (Some v) why = ap (λ i. cond (is_some i) (event.Exit v.id (view v.link K).name why ∷ []) []) (same_latest (runner_at v.link) (λ e. refl)) ∙ ap (λ (w : View). cond (is_some (runner v.link L)) (event.Exit v.id w.name why ∷ []) []) (same_view v.link)

  told_probe : (o : Option Life) → becoming_evasive o K ≡ becoming_evasive o L
  told_probe None = refl
  told_probe (Some v) = ap (λ (w : View). event.Evasive v.id w.name ∷ []) (same_view v.link)

  same_life : (l : ℕ) → life l K ≡ life l L
  same_life l = ap (find (λ (v : Life). eqb l v.link)) same_lives

  pub same_told : (h : Mark) → told_at h K ≡ told_at h L
  same_told (Starts c l m) = ap (λ o. by_message o m K) (same_life l) ∙ told_message (life l L) m
  same_told (Counts c l m) = ap (λ o. by_message o m K) (same_life l) ∙ told_message (life l L) m
  same_told (Ends l why) = ap (λ o. exit o why K) (same_life l) ∙ told_exit (life l L) why
  same_told (IsEvasive l) = ap (λ o. becoming_evasive o K) (same_life l) ∙ told_probe (life l L)
  same_told _ = refl

pub all_places : (g : Config) (c : ℕ) (xs : List Said) (K L : List Mark) → AreAlike K L → at_places g c xs K ≡ at_places g c xs L
all_places g c [] K L r = refl
all_places g c (x ∷ xs) K L r =
    let hs = at_place g c x K in
    ap (λ ks. hs ++ ks) (all_places g c xs (after hs K) (after hs L) (after_alike hs K L r)) ∙ ap (λ ks. ks ++ at_places g c xs (after ks L)) (same_place K L r g c x)

pub all_told : (hs K L : List Mark) → AreAlike K L → told hs K ≡ told hs L
all_told [] K L r = refl
all_told (h ∷ hs) K L r = ap (λ es. es ++ told hs (h ∷ K)) (same_told K L r h) ∙ ap (λ es. told_at h L ++ es) (all_told hs (h ∷ K) (h ∷ L) (after_alike (h ∷ []) K L r))
