-- Marks with which nobody is born and nothing is said, and what they leave as it is.
use Rattle.std.proofs.Common.{◌≡◌, ℕ, ◌+◌, Bool, true, false, cond, not, eqb, ltb, leb, List, [], ◌∷◌, ◌++◌, length, map, filter, Option, Some, None, refl, ap, ◌∙◌, ◌%◌, append-nil}
use Rattle.std.specs.List.{AllByRecursion, list_any}
use Rattle.zre_values.specs.declared.peer_id.PeerId.{PeerId}
use Rattle.zre_values.specs.declared.limits.TheConstants.{CONNECTIONS, UNSENT_OCTETS, OWN_GROUPS, GROUP_OCTETS}
use Rattle.zre_msg.specs.declared.message.Body.{Body}
use Rattle.zre_msg.specs.declared.message.Body.TheVariants as body
use Rattle.zre_msg.specs.declared.message.Message.{Message}
use Rattle.zre_peer.specs.Runs.{is_hello, due}
use Rattle.zre_peer.specs.Views.{view_of, is_small}
use Rattle.zre_peer.specs.declared.causes.Cause.{Cause}
use Rattle.zre_peer.specs.declared.causes.Cause.TheVariants as cause
use Rattle.zre_peer.specs.declared.causes.CloseWhy.TheVariants as close
use Rattle.zre_link.specs.Heard.{reply_fault}
use Rattle.zre_link.specs.Link.{answered, slow_at}
use Rattle.zre_link.specs.Text.{Member, Says, Pongs, bodies_in, size_of}
use Rattle.zre_values.specs.declared.settings.Settings.{Settings as Config}
use Rattle.zre_journal.specs.Chronicle.{Mark, Identifies, Starts, Closes, IsShut, ClosesAtStop, Born, Ends, IsEvasive, Puts, PutsPong, SendsBeacon, Stops, after, followed}
use Rattle.zre_journal.specs.Connections.{open_ones, is_new, is_open, runs, other_with}
use Rattle.zre_journal.specs.Done.{done, done_at, close_link}
use Rattle.zre_journal.specs.Peers.{Life, lives, births, counted}
use Rattle.zre_journal.specs.Links.{line, bodies, unsent, is_linked, replies, newly_pinged, groups, status}
use Rattle.zre_journal.specs.Pushes.{push, push_all}
use Rattle.zre_journal.specs.Arrivals.{at_opened, end_of_run, at_shut, taken_over, answer_to, at_later, at_ready}
use Rattle.zre_journal.specs.LinkEntries.{at_linked, cause_by_reply, end_by, at_reply, at_unlinked, at_took}
use Rattle.zre_journal.specs.Ticks.{is_silent, is_evasive, is_stale, probe, at_tick}
use Rattle.zre_journal.specs.Commands.{has_group, at_join, at_leave, at_stop}
use Rattle.zre_journal.proofs.WhenMarksCome.{choice}
use Rattle.zre_journal.proofs.NumberedLists.{All-join}
use Rattle.zre_audit.specs.Coding.{octets_of, code}
use Rattle.zre_audit.specs.Exchanged.{peer_on}
use Rattle.zre_audit.specs.Seen.{is_connect}
use Rattle.zre_audit.proofs.ToldIsSaid.{code-last}

-- nobody is born; no run begins; nothing is said
abbrev pub BearsNone : Mark → Type 0
BearsNone (Born l p e) = ⊥
BearsNone _ = Unit {0}

abbrev pub SaysNone : Mark → Type 0
SaysNone (Puts l b) = octets_of b ≡ []
SaysNone _ = Unit {0}

abbrev pub BeginsNone : Mark → Type 0
BeginsNone (Starts c l m) = ⊥
BeginsNone _ = Unit {0}

abbrev pub IsStill : Mark → Type 0
IsStill h = BearsNone h × SaysNone h × BeginsNone h

abbrev pub AreStill : List Mark → Type 0
AreStill hs = AllByRecursion IsStill hs

pub still_both : (hs ks : List Mark) → AreStill hs → AreStill ks → AreStill (hs ++ ks)
still_both = All-join IsStill

-- ---- what they leave

pub record Leaves (H K : List Mark) : Type 0 where
  pub same_births : births K ≡ births H
  pub same_peers : (l : ℕ) → peer_on l K ≡ peer_on l H

pub leaves_itself : (H : List Mark) → Leaves H H
leaves_itself H = record { same_births = refl; same_peers = λ l. refl }

pub leaves_then : (H K L : List Mark) → Leaves H K → Leaves K L → Leaves H L
leaves_then H K L a b = record { same_births = b.same_births ∙ a.same_births; same_peers = λ l. b.same_peers l ∙ a.same_peers l }

leaves_one : (h : Mark) (H : List Mark) → BearsNone h → Leaves H (h ∷ H)
leaves_one (Born l p e) H n = absurd n
leaves_one _ H n = record { same_births = refl; same_peers = λ l. refl }

pub leaves_all : (hs H : List Mark) → AllByRecursion BearsNone hs → Leaves H (after hs H)
leaves_all [] H a = leaves_itself H
leaves_all (h ∷ hs) H a = leaves_then H (h ∷ H) (after hs (h ∷ H)) (leaves_one h H a.0) (leaves_all hs (h ∷ H) a.1)

abbrev pub SaysAsMuch : List Mark → List Mark → Type 0
SaysAsMuch H K = (l : ℕ) → code (bodies l K) ≡ code (bodies l H)

bodies-last : (ms : List Member) (b : Body) → bodies_in (ms ++ Says b ∷ []) ≡ bodies_in ms ++ b ∷ []
bodies-last [] b = refl
bodies-last (Says c ∷ ms) b = ap (λ bs. c ∷ bs) (bodies-last ms b)
bodies-last (Pongs t ∷ ms) b = bodies-last ms b

bodies-pong : (ms : List Member) (t : List ℕ) → bodies_in (ms ++ Pongs t ∷ []) ≡ bodies_in ms
bodies-pong [] t = refl
bodies-pong (Says b ∷ ms) t = ap (λ bs. b ∷ bs) (bodies-pong ms t)
bodies-pong (Pongs u ∷ ms) t = bodies-pong ms t

-- one more message, or none
pub put_bodies : (l k : ℕ) (b : Body) (H : List Mark) (t : Bool) → eqb l k ≡ t → bodies l (Puts k b ∷ H) ≡ cond t (bodies l H ++ b ∷ []) (bodies l H)
put_bodies l k b H true e = ap (λ z. bodies_in (followed (line l H) (cond z (Some (Says b)) None))) e ∙ bodies-last (line l H) b
put_bodies l k b H false e = ap (λ z. bodies_in (followed (line l H) (cond z (Some (Says b)) None))) e

pong_bodies : (l k : ℕ) (t : List ℕ) (H : List Mark) → bodies l (PutsPong k t ∷ H) ≡ bodies l H
pong_bodies l k t H = by (eqb l k)
  where
    by : (z : Bool) → bodies_in (followed (line l H) (cond z (Some (Pongs t)) None)) ≡ bodies l H
    by true = bodies-pong (line l H) t
    by false = refl

says_one : (h : Mark) (H : List Mark) → SaysNone h → SaysAsMuch H (h ∷ H)
says_one (Puts k b) H n l = by (eqb l k) refl
  where
    by : (t : Bool) → eqb l k ≡ t → code (bodies l (Puts k b ∷ H)) ≡ code (bodies l H)
    by true e = ap code (put_bodies l k b H true e) ∙ code-last (bodies l H) b ∙ ap (λ o. code (bodies l H) ++ o) n ∙ append-nil (code (bodies l H))
    by false e = ap code (put_bodies l k b H false e)
says_one (PutsPong k t) H n l = ap code (pong_bodies l k t H)
says_one _ H n l = refl

pub says_all : (hs H : List Mark) → AllByRecursion SaysNone hs → SaysAsMuch H (after hs H)
says_all [] H a l = refl
says_all (h ∷ hs) H a l = says_all hs (h ∷ H) a.1 l ∙ says_one h H a.0 l

-- no link is made
pub connects_none : (own : PeerId) (hs : List Mark) → AllByRecursion BearsNone hs → list_any is_connect (done own hs) ≡ false
connects_none own [] a = refl
connects_none own (h ∷ hs) a = by (connects_none own hs a.1) h a.0
  where
    closing : list_any is_connect (done own hs) ≡ false → (l : ℕ) (why : Cause) → list_any is_connect (close_link l why ++ done own hs) ≡ false
    closing r l cause.Link = r
    closing r l _ = r

    by : list_any is_connect (done own hs) ≡ false → (h : Mark) → BearsNone h → list_any is_connect (done_at own h ++ done own hs) ≡ false
    by r (Born l p e) n = absurd n
    by r (Ends l why) n = closing r l why
    by r _ n = r

-- ---- which marks are still

still_one : (h : Mark) → IsStill h → AreStill (h ∷ [])
still_one h s = (s, tt)

still_map : {A : Type 0} (f : A → Mark) → ((x : A) → IsStill (f x)) → (xs : List A) → AreStill (map f xs)
still_map f n [] = tt
still_map f n (x ∷ xs) = (n x, still_map f n xs)

abbrev S : List Mark → Type 0
S hs = AreStill hs

module _ (g : Config) where
  still_push : (l : ℕ) (b : Body) (K : List Mark) → octets_of b ≡ [] → AreStill (push g l b K)
  still_push l b K n = choice S (ltb UNSENT_OCTETS (unsent g l K + size_of (line l K) b)) _ _ (λ e. ((tt, tt, tt), tt)) (λ e. ((tt, n, tt), tt))

  still_pushes : (vs : List Life) (b : Body) (K : List Mark) → octets_of b ≡ [] → AreStill (push_all g vs b K)
  still_pushes [] b K n = tt
  still_pushes (v ∷ vs) b K n = let p = push g v.link b K in still_both p (push_all g vs b (after p K)) (still_push v.link b K n) (still_pushes vs b (after p K) n)

  still_probe : (vs : List Life) (K : List Mark) → AreStill (probe g vs K)
  still_probe [] K = tt
  still_probe (v ∷ vs) K =
      let p = IsEvasive v.link ∷ push g v.link body.Ping K in
      still_both p (probe g vs (after p K)) ((tt, tt, tt), still_push v.link body.Ping K refl) (still_probe vs (after p K))

  pub still_run : (o : Option ℕ) (why : Cause) → AreStill (end_of_run g o why)
  still_run None why = tt
  still_run (Some l) why = ((tt, tt, tt), tt)

  pub still_answer : (l : ℕ) (b : Body) (K : List Mark) → AreStill (answer_to g l b K)
  still_answer l body.Ping K = still_push l body.PingOk K refl
  still_answer l _ K = tt

  pub still_opened : (c : ℕ) (K : List Mark) → AreStill (at_opened g c K)
  still_opened c K = choice S (is_new c K) _ _ (λ z. choice S (ltb (length (open_ones K)) CONNECTIONS) _ _ (λ y. ((tt, tt, tt), tt)) (λ y. ((tt, tt, tt), tt))) (λ z. tt)

  pub still_shut : (c : ℕ) (K : List Mark) → AreStill (at_shut g c K)
  still_shut c K = choice S (is_open c K) _ _ (λ z. still_both (end_of_run g (runs c K) cause.Shut) (IsShut c ∷ []) (still_run (runs c K) cause.Shut) ((tt, tt, tt), tt)) (λ z. tt)

  pub still_linked : (l : ℕ) (o : Option Life) (K : List Mark) → AreStill (at_linked g l o K)
  still_linked l None K = tt
  still_linked l (Some v) K = choice S (is_linked l K) _ _ (λ z. tt) (λ z. ((tt, tt, tt), tt))

  pub still_unlinked : (l : ℕ) (o : Option Life) → AreStill (at_unlinked g l o)
  still_unlinked l None = tt
  still_unlinked l (Some v) = ((tt, tt, tt), tt)

  pub still_took : (l n : ℕ) (o : Option Life) (K : List Mark) → AreStill (at_took g l n o K)
  still_took l n None K = tt
  still_took l n (Some v) K = ((tt, tt, tt), tt)

  still_end : (l : ℕ) (o : Option Cause) → AreStill (end_by g l o)
  still_end l None = tt
  still_end l (Some why) = ((tt, tt, tt), tt)

  pub still_reply : (l : ℕ) (o : Option Life) (H K : List Mark) → AreStill (at_reply g l o H K)
  still_reply l None H K = tt
  still_reply l (Some v) H K = choice S (is_linked l K) _ _
      (λ z. still_both (map (λ t. PutsPong l t) (answered (unsent g l K) (newly_pinged l H K))) (end_by g l (cause_by_reply (slow_at (unsent g l K) (newly_pinged l H K)) (reply_fault (replies l K))))
      (still_map (λ t. PutsPong l t) (λ t. (tt, tt, tt)) (answered (unsent g l K) (newly_pinged l H K))) (still_end l (cause_by_reply (slow_at (unsent g l K) (newly_pinged l H K)) (reply_fault (replies l K))))) (λ z. tt)

  pub still_tick : (K : List Mark) → AreStill (at_tick g K)
  still_tick K =
      let gone = map (λ (v : Life). Ends v.link cause.Expired) (filter (is_silent g g.expired K) (lives K)) in
      let probed = probe g (filter (is_evasive g K) (lives K)) K in
      let shut = map (λ c. Closes c close.Timeout) (filter (is_stale g K) (open_ones K)) in
      still_both (gone ++ probed ++ shut) (SendsBeacon g.port ∷ [])
      (still_both (gone ++ probed) shut
      (still_both gone probed (still_map (λ (v : Life). Ends v.link cause.Expired) (λ v. (tt, tt, tt)) (filter (is_silent g g.expired K) (lives K))) (still_probe (filter (is_evasive g K) (lives K)) K))
      (still_map (λ c. Closes c close.Timeout) (λ c. (tt, tt, tt)) (filter (is_stale g K) (open_ones K)))) ((tt, tt, tt), tt)

  pub still_stop : (K : List Mark) → AreStill (at_stop g K)
  still_stop K =
      let gone = map (λ (v : Life). Ends v.link cause.Stop) (lives K) in
      let shut = map (λ c. ClosesAtStop c) (open_ones K) in
      still_both (gone ++ shut) (SendsBeacon 0 ∷ Stops ∷ [])
      (still_both gone shut (still_map (λ (v : Life). Ends v.link cause.Stop) (λ v. (tt, tt, tt)) (lives K)) (still_map (λ c. ClosesAtStop c) (λ c. (tt, tt, tt)) (open_ones K)))
      ((tt, tt, tt), ((tt, tt, tt), tt))

  pub still_join : (group : List ℕ) (K : List Mark) → AreStill (at_join g group K)
  still_join group K = choice S (ltb GROUP_OCTETS (length group)) _ _ (λ z. ((tt, tt, tt), tt))
      (λ z. choice S (has_group group (groups K)) _ _ (λ y. ((tt, tt, tt), tt))
      (λ y. choice S (leb OWN_GROUPS (length (groups K))) _ _ (λ x. ((tt, tt, tt), tt)) (λ x. ((tt, tt, tt), still_pushes (lives K) (body.Join group ((status K + 1) % 256)) K refl))))

  pub still_leave : (group : List ℕ) (K : List Mark) → AreStill (at_leave g group K)
  still_leave group K = choice S (has_group group (groups K)) _ _ (λ z. ((tt, tt, tt), still_pushes (lives K) (body.Leave group ((status K + 1) % 256)) K refl)) (λ z. ((tt, tt, tt), tt))

  pub still_taken : (o : Option ℕ) (K : List Mark) → AreStill (taken_over g o K)
  still_taken None K = tt
  still_taken (Some d) K = still_both (end_of_run g (runs d K) cause.Taken) (Closes d close.Taken ∷ []) (still_run (runs d K) cause.Taken) ((tt, tt, tt), tt)

  pub still_shaken : (c : ℕ) (p : PeerId) (o : Option PeerId) (K : List Mark) → AreStill (at_ready g c p o K)
  still_shaken c p (Some i) K = tt
  still_shaken c p None K = still_both (taken_over g (other_with p c K) K) (Identifies c p ∷ []) (still_taken (other_with p c K) K) ((tt, tt, tt), tt)

  pub still_later : (c l : ℕ) (m : Message) (K : List Mark) → AreStill (at_later g c l m K)
  still_later c l m K = choice S (is_hello m.body) _ _ (λ z. ((tt, tt, tt), tt))
      (λ z. choice S (not (eqb m.sequence (due (counted l K)))) _ _ (λ y. ((tt, tt, tt), tt))
      (λ y. choice S (not (is_small (view_of (counted l K ++ m ∷ [])))) _ _ (λ x. ((tt, tt, tt), tt)) (λ x. ((tt, tt, tt), still_answer l m.body K))))
