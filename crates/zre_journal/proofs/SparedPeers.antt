-- Marks that spare a peer, and what they leave of it.
use Rattle.std.proofs.Common.{◌≡◌, ℕ, Bool, true, false, true≢false, cond, not, ◌||◌, eqb, List, [], ◌∷◌, ◌++◌, map, Option, Some, None, find, refl, sym, ap, ◌∙◌, eq-eqb, eqb-true, ne_eqb}
use Rattle.std.proofs.lemmas.List.Folds.{list_any-append}
use Rattle.std.specs.List.{AllByRecursion, list_any}
use Rattle.std.specs.Str.{bytes_eq}
use Rattle.zre_values.specs.declared.peer_id.PeerId.{PeerId}
use Rattle.zre_msg.specs.declared.message.Body.{Body}
use Rattle.zre_msg.specs.declared.message.Body.TheVariants as body
use Rattle.zre_msg.specs.declared.message.Message.{Message}
use Rattle.zre_peer.specs.Members.{distinct}
use Rattle.zre_peer.specs.Runs.{events_of}
use Rattle.zre_peer.specs.declared.view.View.{View}
use Rattle.zre_peer.specs.declared.event.Event.TheVariants as event
use Rattle.zre_journal.specs.Chronicle.{Mark, Comes, Opens, TurnsAway, Greets, Identifies, AnswersPing, Starts, Counts, Ignores, Closes, IsShut, Born, Ends, Puts, after}
use Rattle.zre_journal.specs.Happens.{has_stopped}
use Rattle.zre_journal.specs.Isolation.{is_of_peer}
use Rattle.zre_journal.specs.Links.{groups, status, line, is_linked, replies, taken}
use Rattle.zre_journal.specs.Peers.{Life, lives, life, life_of, runner, is_entered, counted, view, active}
use Rattle.zre_journal.specs.Proper.{IsProper}
use Rattle.zre_journal.specs.Told.{told, told_at, exit, by_message}
use Rattle.zre_journal.proofs.WithinCounts.{AreNamed, named_more, found_kept, none_kept}
use Rattle.zre_journal.proofs.KnownPeers.{same_id}
use Rattle.zre_journal.proofs.NumberedLists.{found_passes}
use Rattle.zre_journal.proofs.WhenMarksCome.{Allowed, step}
use Rattle.zre_link.specs.Text.{Member}

-- a link that isn't that of this life
abbrev pub IsOff : Option Life → ℕ → Type 0
IsOff None l = Unit {0}
IsOff (Some v) l = eqb v.link l ≡ false

-- a mark of a connection that concerns neither the peer p, whose life is o, nor the node itself
abbrev pub Spares : PeerId → Option Life → Mark → Type 0
Spares p o (Opens d) = Unit {0}
Spares p o (TurnsAway d) = Unit {0}
Spares p o (Greets d) = Unit {0}
Spares p o (Identifies d r) = Unit {0}
Spares p o (AnswersPing d t) = Unit {0}
Spares p o (Starts d l m) = IsOff o l
Spares p o (Counts d l m) = IsOff o l
Spares p o (Ignores d why) = Unit {0}
Spares p o (Closes d why) = Unit {0}
Spares p o (IsShut d) = Unit {0}
Spares p o (Born l r to) = (bytes_eq p.0 r.0 ≡ false) × IsOff o l
Spares p o (Ends l why) = IsOff o l
Spares p o (Puts l b) = IsOff o l
Spares p o _ = ⊥

abbrev pub AreSpared : PeerId → Option Life → List Mark → Type 0
AreSpared p o hs = AllByRecursion (Spares p o) hs

-- ---- what such marks leave

not_last : {A : Type 0} (t : A → Bool) (xs : List A) (y : A) → t y ≡ false → find t (xs ++ y ∷ []) ≡ find t xs
not_last t [] y e = rw e refl
not_last t (x ∷ xs) y e = by (not_last t xs y e) (t x)
  where
    by : find t (xs ++ y ∷ []) ≡ find t xs → (b : Bool) → cond b (Some x) (find t (xs ++ y ∷ [])) ≡ cond b (Some x) (find t xs)
    by r true = refl
    by r false = r

module _ (p : PeerId) (o : Option Life) where
  life_left : (h : Mark) (H : List Mark) → Spares p o h → life_of p H ≡ o → life_of p (h ∷ H) ≡ o
  life_left (Born l r to) H s e = not_last (λ (v : Life). bytes_eq p.0 v.id.0) (lives H) (record { link = l; id = r; endpoint = to }) s.0 ∙ e
  life_left (Ends l why) H s e = by o s e
    where
      by : (u : Option Life) → IsOff u l → life_of p H ≡ u → life_of p (Ends l why ∷ H) ≡ u
      by None f z = none_kept (λ (v : Life). bytes_eq p.0 v.id.0) (λ (v : Life). not (eqb l v.link)) (lives H) z
      by (Some v) f z = let far : eqb l v.link ≡ false = ne_eqb l v.link (λ q. true≢false (sym (eq-eqb v.link l (sym q)) ∙ f)) in
          found_kept (λ (u : Life). bytes_eq p.0 u.id.0) (λ (u : Life). not (eqb l u.link)) (lives H) v z (rw far refl)
  life_left (Comes x) H s e = absurd s
  life_left _ H s e = e

-- what is asked of a link
pub record Asked : Type 0 where
  pub run : Option ℕ
  pub messages : List Message
  pub activity : ℕ
  pub put : List Member
  pub linked : Bool
  pub replied : List ℕ
  pub gone : ℕ

-- that of the link l, with these replies
abbrev pub asked_with : ℕ → List Mark → List ℕ → Asked
asked_with l H xs = record { run = runner l H; messages = counted l H; activity = active l H; put = line l H; linked = is_linked l H; replied = xs; gone = taken l H }

abbrev pub asked : ℕ → List Mark → Asked
asked l H = asked_with l H (replies l H)

module _ (p : PeerId) (v : Life) where
  abbrev pub l : ℕ
  l = v.link

  mark_left : (h : Mark) (H : List Mark) → Spares p (Some v) h → asked l (h ∷ H) ≡ asked l H
  mark_left (Starts d k m) H s = rw s refl
  mark_left (Counts d k m) H s = rw s refl
  mark_left (Puts k b) H s = rw s refl
  mark_left (Born k r to) H s = let far = s.1 in rw far refl
  mark_left (Opens d) H s = refl
  mark_left (TurnsAway d) H s = refl
  mark_left (Greets d) H s = refl
  mark_left (Identifies d r) H s = refl
  mark_left (AnswersPing d t) H s = refl
  mark_left (Ignores d why) H s = refl
  mark_left (Closes d why) H s = refl
  mark_left (IsShut d) H s = refl
  mark_left (Ends k why) H s = refl
  mark_left _ H s = absurd s

  pub marks_left : (hs H : List Mark) → AreSpared p (Some v) hs → asked l (after hs H) ≡ asked l H
  marks_left [] H s = refl
  marks_left (h ∷ hs) H s = marks_left hs (h ∷ H) s.1 ∙ mark_left h H s.0

pub lives_left : (p : PeerId) (o : Option Life) (hs H : List Mark) → AreSpared p o hs → life_of p H ≡ o → life_of p (after hs H) ≡ o
lives_left p o [] H s e = e
lives_left p o (h ∷ hs) H s e = lives_left p o hs (h ∷ H) s.1 (life_left p o h H s.0 e)

-- the node itself: its groups, its status, and whether it has stopped
abbrev pub Itself : Type 0
Itself = List (List ℕ) × ℕ × Bool

abbrev pub itself : List Mark → Itself
itself H = (groups H, status H, has_stopped H)

itself_mark : (p : PeerId) (o : Option Life) (h : Mark) (H : List Mark) → Spares p o h → itself (h ∷ H) ≡ itself H
itself_mark p o (Opens d) H s = refl
itself_mark p o (TurnsAway d) H s = refl
itself_mark p o (Greets d) H s = refl
itself_mark p o (Identifies d r) H s = refl
itself_mark p o (AnswersPing d t) H s = refl
itself_mark p o (Starts d k m) H s = refl
itself_mark p o (Counts d k m) H s = refl
itself_mark p o (Ignores d why) H s = refl
itself_mark p o (Closes d why) H s = refl
itself_mark p o (IsShut d) H s = refl
itself_mark p o (Born k r to) H s = refl
itself_mark p o (Ends k why) H s = refl
itself_mark p o (Puts k b) H s = refl
itself_mark p o _ H s = absurd s

pub itself_marks : (p : PeerId) (o : Option Life) (hs H : List Mark) → AreSpared p o hs → itself (after hs H) ≡ itself H
itself_marks p o [] H s = refl
itself_marks p o (h ∷ hs) H s = itself_marks p o hs (h ∷ H) s.1 ∙ itself_mark p o h H s.0

-- ---- what they tell

-- all events of a message are of its peer
of_others : (p r : PeerId) → bytes_eq p.0 r.0 ≡ false → (w : View) (b : Body) → list_any (is_of_peer p) (events_of r w b) ≡ false
of_others p r far w (body.Hello endpoint groups status name headers) = rw far (all (distinct groups))
  where
    all : (gs : List (List ℕ)) → list_any (is_of_peer p) (map (λ x. event.Join r name x) gs) ≡ false
    all [] = refl
    all (x ∷ xs) = rw far (all xs)
of_others p r far w (body.Whisper content) = rw far refl
of_others p r far w (body.Shout group content) = rw far refl
of_others p r far w (body.Join group status) = rw far refl
of_others p r far w (body.Leave group status) = rw far refl
of_others p r far w _ = refl

module _ (p : PeerId) (o : Option Life) where
  -- the peer of another link is another one
  other_id : (H : List Mark) → AreNamed H → life_of p H ≡ o → (k : ℕ) (w : Life) → IsOff o k → life k H ≡ Some w → bytes_eq p.0 w.id.0 ≡ false
  other_id H n e k w f z = by (bytes_eq p.0 w.id.0) refl
    where
      by : (b : Bool) → bytes_eq p.0 w.id.0 ≡ b → b ≡ false
      by false y = refl
      by true y = at o f (sym e ∙ ap (λ i. life_of i H) (sym (same_id p w.id y)) ∙ n k w z)
        where
          at : (u : Option Life) → IsOff u k → u ≡ Some w → true ≡ false
          at None g s = cc
          at (Some v) g s = let is : v ≡ w = cc in sym (eq-eqb v.link k (ap (λ (x : Life). x.link) is ∙ sym (eqb-true k w.link (found_passes (λ (x : Life). eqb k x.link) (lives H) w z)))) ∙ g

  none_of : (h : Mark) (H : List Mark) → AreNamed H → life_of p H ≡ o → Spares p o h → list_any (is_of_peer p) (told_at h H) ≡ false
  none_of (Opens d) H n e s = refl
  none_of (TurnsAway d) H n e s = refl
  none_of (Greets d) H n e s = refl
  none_of (Identifies d r) H n e s = refl
  none_of (AnswersPing d t) H n e s = refl
  none_of (Starts d k m) H n e s = by (life k H) refl
    where
      by : (u : Option Life) → life k H ≡ u → list_any (is_of_peer p) (by_message u m H) ≡ false
      by None z = refl
      by (Some w) z = of_others p w.id (other_id H n e k w s z) (view w.link H) m.body
  none_of (Counts d k m) H n e s = by (life k H) refl
    where
      by : (u : Option Life) → life k H ≡ u → list_any (is_of_peer p) (by_message u m H) ≡ false
      by None z = refl
      by (Some w) z = of_others p w.id (other_id H n e k w s z) (view w.link H) m.body
  none_of (Ignores d why) H n e s = refl
  none_of (Closes d why) H n e s = refl
  none_of (IsShut d) H n e s = refl
  none_of (Born k r to) H n e s = refl
  none_of (Ends k why) H n e s = by (life k H) refl
    where
      by : (u : Option Life) → life k H ≡ u → list_any (is_of_peer p) (exit u why H) ≡ false
      by None z = refl
      by (Some w) z = at (is_entered H w)
        where
          at : (b : Bool) → list_any (is_of_peer p) (cond b (event.Exit w.id (view w.link H).name why ∷ []) []) ≡ false
          at true = let far = other_id H n e k w s z in rw far refl
          at false = refl
  none_of (Puts k b) H n e s = refl
  none_of _ H n e s = absurd s

  pub none_told : (hs H : List Mark) → IsProper H → AreNamed H → Allowed hs H → life_of p H ≡ o → AreSpared p o hs → list_any (is_of_peer p) (told hs H) ≡ false
  none_told [] H q n a e s = refl
  none_told (h ∷ hs) H q n a e s =
      let r = step h H q a.0 in
      list_any-append (is_of_peer p) (told_at h H) (told hs (h ∷ H))
      ∙ ap (λ b. b || list_any (is_of_peer p) (told hs (h ∷ H))) (none_of h H n e s.0)
      ∙ none_told hs (h ∷ H) r (named_more h H q a.0 r n) a.1 (life_left p o h H s.0 e) s.1
