-- When each mark may come, that a chronicle stays proper after marks that may, and what each of many marks has.
use Rattle.std.proofs.Common.{◌≡◌, ℕ, ◌+◌, ◌<◌, ◌≤◌, Bool, true, false, cond, not, eqb, ltb, List, [], ◌∷◌, ◌++◌, length, Option, Some, None, IsSome, is_some, is_none, refl, sym, ◌∙◌, arith, subst}
use Rattle.std.proofs.lemmas.Bool.{and_parts}
use Rattle.std.specs.List.{AllByRecursion}
use Rattle.zre_values.specs.declared.peer_id.PeerId.{PeerId}
use Rattle.zre_values.specs.declared.limits.TheConstants.{PEERS, CONNECTIONS, UNSENT_OCTETS}
use Rattle.zre_values.specs.declared.endpoint.Endpoint.{Endpoint}
use Rattle.zre_msg.specs.declared.message.Message.{Message}
use Rattle.zre_msg.specs.declared.message.Body.{Body}
use Rattle.zre_msg.specs.declared.message.Body.TheVariants as body
use Rattle.zre_link.specs.Text.{size_of}
use Rattle.zre_peer.specs.Runs.{may_follow, is_hello, due}
use Rattle.zre_peer.specs.Views.{view_of, is_small}
use Rattle.zre_peer.specs.declared.causes.Cause.{Cause}
use Rattle.zre_peer.specs.declared.causes.Cause.TheVariants as cause
use Rattle.zre_peer.specs.declared.causes.CloseWhy.{CloseWhy}
use Rattle.zre_peer.specs.declared.causes.CloseWhy.TheVariants as close
use Rattle.zre_values.specs.declared.settings.Settings.{Settings as Config}
use Rattle.zre_journal.specs.Arrivals.{end_of_run, taken_over, answer_to}
use Rattle.zre_journal.specs.Chronicle.{Mark, Comes, Opens, TurnsAway, Greets, Identifies, AnswersPing, Starts, Counts, Ignores, Closes, IsShut, ClosesAtStop, Born, HearsBeacon, Ends, IsEvasive, Puts, PutsPong, Links, Sends, Joins, Leaves, Refuses, SendsBeacon, Stops, after}
use Rattle.zre_journal.specs.Connections.{open_ones, is_open, is_new, identity, started, runs, is_ignored, is_live, is_waiting, other_with}
use Rattle.zre_journal.specs.Links.{line, unsent}
use Rattle.zre_journal.specs.Pushes.{push}
use Rattle.zre_journal.specs.Peers.{Life, lives, life_of, life, births, runner, counted}
use Rattle.zre_journal.specs.Proper.{IsProper}
use Rattle.zre_journal.proofs.NumberedLists.{some_is, All-join}
use Rattle.zre_journal.proofs.ProperAfterMarks.{Opens-proper, TurnsAway-proper, Identifies-proper, Starts-proper, Counts-proper, Ignores-proper, Closes-proper, IsShut-proper, ClosesAtStop-proper, born-proper, Ends-proper}
use Rattle.zre_journal.proofs.ProperPeers.{known_lives, Comes-proper, Greets-proper, AnswersPing-proper, HearsBeacon-proper, IsEvasive-proper, Puts-proper, PutsPong-proper, Links-proper, Sends-proper, Joins-proper, Leaves-proper, Refuses-proper, SendsBeacon-proper, Stops-proper}

-- a waiting connection, which is open and has started nothing, begins to run a known peer that nothing has run, its own, by a first message
pub record MayStart (c l : ℕ) (m : Message) (H : List Mark) : Type 0 where
  pub who : Life
  pub waits : is_waiting c H ≡ true
  pub is_there : is_open c H ≡ true
  pub idle : started c H ≡ None
  pub known : life l H ≡ Some who
  pub its_own : identity c H ≡ Some who.id
  pub free : runner l H ≡ None
  pub first : may_follow [] m ≡ true

-- a message after the first is counted for the peer that its connection runs
pub record MayCount (c l : ℕ) (m : Message) (H : List Mark) : Type 0 where
  pub running : runs c H ≡ Some l
  pub later : is_hello m.body ≡ false
  pub next : eqb m.sequence (due (counted l H)) ≡ true
  pub small : is_small (view_of (counted l H ++ m ∷ [])) ≡ true

-- a connection opens under a new number, where fewer than 512 are open
pub record MayOpen (c : ℕ) (H : List Mark) : Type 0 where
  pub is_fresh : is_new c H ≡ true
  pub has_place : length (open_ones H) < CONNECTIONS

-- a peer that isn't known is born on the next link, where fewer than 256 are known
pub record MayBear (l : ℕ) (p : PeerId) (H : List Mark) : Type 0 where
  pub next_link : l ≡ births H + 1
  pub is_unknown : life_of p H ≡ None
  pub has_room : length (lives H) < PEERS

-- a known peer that is entered is silent
pub record MayProbe (l : ℕ) (H : List Mark) : Type 0 where
  pub is_known : IsSome (life l H)
  pub is_run : is_some (runner l H) ≡ true

-- whether a mark may come after H
abbrev pub May : Mark → List Mark → Type 0
May (Opens c) H = MayOpen c H
May (Identifies c p) H = (is_open c H ≡ true) × (identity c H ≡ None) × (other_with p c H ≡ None)
May (Starts c l m) H = MayStart c l m H
May (Counts c l m) H = MayCount c l m H
May (Ignores c why) H = is_waiting c H ≡ true
May (Closes c why) H = runs c H ≡ None
May (IsShut c) H = runs c H ≡ None
May (ClosesAtStop c) H = runs c H ≡ None
May (Born l p e) H = MayBear l p H
May (IsEvasive l) H = MayProbe l H
May (Ends l why) H = IsSome (life l H)
May (Puts l b) H = IsSome (life l H)
May (PutsPong l t) H = IsSome (life l H)
May (Links l) H = IsSome (life l H)
May (Sends l n) H = IsSome (life l H)
May _ H = Unit {0}

-- ---- each of many

-- each of these marks has P after those before it
abbrev pub Each : (Mark → List Mark → Type 0) → List Mark → List Mark → Type 0
Each P [] H = Unit {0}
Each P (h ∷ hs) H = P h H × Each P hs (h ∷ H)

-- what each mark leaves as it is, all of them do
pub each_same : {A : Type 0} (P : Mark → List Mark → Type 0) (O : List Mark → A) → ((h : Mark) (H : List Mark) → P h H → O (h ∷ H) ≡ O H) → (hs H : List Mark) → Each P hs H → O (after hs H) ≡ O H
each_same P O one [] H q = refl
each_same P O one (h ∷ hs) H q = each_same P O one hs (h ∷ H) q.1 ∙ one h H q.0

pub all_same : {A : Type 0} (P : Mark → Type 0) (O : List Mark → A) → ((h : Mark) (H : List Mark) → P h → O (h ∷ H) ≡ O H) → (hs H : List Mark) → AllByRecursion P hs → O (after hs H) ≡ O H
all_same P O one [] H q = refl
all_same P O one (h ∷ hs) H q = all_same P O one hs (h ∷ H) q.1 ∙ one h H q.0

pub both : (P : Mark → List Mark → Type 0) (hs ks H : List Mark) → Each P hs H → Each P ks (after hs H) → Each P (hs ++ ks) H
both P [] ks H a b = b
both P (h ∷ hs) ks H a b = (a.0, both P hs ks (h ∷ H) a.1 b)

pub each_map : (P Q : Mark → List Mark → Type 0) → ((h : Mark) (H : List Mark) → P h H → Q h H) → (hs H : List Mark) → Each P hs H → Each Q hs H
each_map P Q f [] H a = tt
each_map P Q f (h ∷ hs) H a = (f h H a.0, each_map P Q f hs (h ∷ H) a.1)

-- what marks of either choice have
pub choice : (P : List Mark → Type 0) (b : Bool) (hs ks : List Mark) → (b ≡ true → P hs) → (b ≡ false → P ks) → P (cond b hs ks)
choice P true hs ks f g = f refl
choice P false hs ks f g = g refl

-- what each end, each close and each body that is put has, these marks have
module _ (P : Mark → Type 0) (ends : (l : ℕ) (why : Cause) → P (Ends l why)) (closes : (c : ℕ) (why : CloseWhy) → P (Closes c why)) (puts : (l : ℕ) (b : Body) → P (Puts l b)) (g : Config) where
  pub all_end : (o : Option ℕ) (why : Cause) → AllByRecursion P (end_of_run g o why)
  all_end None why = tt
  all_end (Some l) why = (ends l why, tt)

  pub all_taken : (o : Option ℕ) (K : List Mark) → AllByRecursion P (taken_over g o K)
  all_taken None K = tt
  all_taken (Some d) K = All-join P (end_of_run g (runs d K) cause.Taken) _ (all_end (runs d K) cause.Taken) (closes d close.Taken, tt)

  pub all_push : (l : ℕ) (b : Body) (K : List Mark) → AllByRecursion P (push g l b K)
  all_push l b K =
      let size = size_of (line l K) b in
      choice (AllByRecursion P) (ltb UNSENT_OCTETS (unsent g l K + size)) _ _ (λ z. (ends l (cause.Slow (unsent g l K) size), tt)) (λ z. (puts l b, tt))

  pub all_answer : (l : ℕ) (b : Body) (K : List Mark) → AllByRecursion P (answer_to g l b K)
  all_answer l body.Ping K = all_push l body.PingOk K
  all_answer l _ K = tt

-- whether marks may come after H, each after those before it
abbrev pub Allowed : List Mark → List Mark → Type 0
Allowed hs H = Each May hs H

-- ---- what stays proper

-- the number of a known peer is that of a birth
low : (H : List Mark) → IsProper H → (l : ℕ) → IsSome (life l H) → l ≤ births H
low H p l k = let v = some_is (life l H) k in (known_lives H p l v.0 v.1).1

waiting_open : (c : ℕ) (H : List Mark) → is_waiting c H ≡ true → is_open c H ≡ true
waiting_open c H w = (and_parts (is_open c H) (not (is_ignored c H)) (and_parts (is_live c H) (is_none (runs c H)) w).0).0

Born-proper : (H : List Mark) → IsProper H → (p : PeerId) (e : Endpoint) → IsProper (Born (births H + 1) p e ∷ H)
Born-proper H q p e = let b = born-proper H q p e body.Ping in record {
  living = record { numbered = b.living.numbered; apart = b.living.apart; living = b.living.living; fresh = λ k h. q.living.fresh k (omega arith) };
  opening = b.opening;
  running = b.running;
}

pub step : (h : Mark) (H : List Mark) → IsProper H → May h H → IsProper (h ∷ H)
step (Comes e) H p m = Comes-proper H p e
step (Opens c) H p m = Opens-proper H p c m.is_fresh
step (TurnsAway c) H p m = TurnsAway-proper H p c
step (Greets c) H p m = Greets-proper H p c
step (Identifies c i) H p m = Identifies-proper H p c i m.0 m.1 m.2
step (AnswersPing c t) H p m = AnswersPing-proper H p c t
step (Starts c l s) H p m = Starts-proper H p c l s m.who m.is_there m.idle m.known m.its_own m.free
step (Counts c l s) H p m = Counts-proper H p c l s m.running
step (Ignores c why) H p m = Ignores-proper H p c why (waiting_open c H m)
step (Closes c why) H p m = Closes-proper H p c why m
step (IsShut c) H p m = IsShut-proper H p c m
step (ClosesAtStop c) H p m = ClosesAtStop-proper H p c m
step (Born l i e) H p m = subst (λ k. IsProper (Born k i e ∷ H)) (sym m.next_link) (Born-proper H p i e)
step (HearsBeacon l) H p m = HearsBeacon-proper H p l
step (Ends l why) H p m = Ends-proper H p l why (low H p l m)
step (IsEvasive l) H p m = IsEvasive-proper H p l
step (Puts l b) H p m = Puts-proper H p l b (low H p l m)
step (PutsPong l t) H p m = PutsPong-proper H p l t (low H p l m)
step (Links l) H p m = Links-proper H p l (low H p l m)
step (Sends l n) H p m = Sends-proper H p l n (low H p l m)
step (Joins group) H p m = Joins-proper H p group
step (Leaves group) H p m = Leaves-proper H p group
step (Refuses why) H p m = Refuses-proper H p why
step (SendsBeacon port) H p m = SendsBeacon-proper H p port
step Stops H p m = Stops-proper H p

pub steps : (hs H : List Mark) → IsProper H → Allowed hs H → IsProper (after hs H)
steps [] H p a = p
steps (h ∷ hs) H p a = steps hs (h ∷ H) (step h H p a.0) a.1
