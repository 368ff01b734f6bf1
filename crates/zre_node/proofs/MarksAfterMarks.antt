-- Marks after marks, at the tables.
use Rattle.std.proofs.Common.{◌≡◌, ℕ, ◌+◌, ◌<◌, ◌≤◌, zero, suc, Bool, true, false, ◌||◌, eqb, List, [], ◌∷◌, ◌++◌, map, take, length, get_or, IsSome, refl, sym, ap, ◌∙◌, arith, append_assoc, append-nil, subst}
use Rattle.std.proofs.lemmas.List.{take_more, map-append, take_all}
use Rattle.std.proofs.lemmas.List.Folds.{list_any-append}
use Rattle.std.specs.List.{AllByRecursion, list_any}
use Rattle.zre_peer.specs.declared.causes.Cause.{Cause}
use Rattle.zre_values.specs.declared.settings.Settings.{Settings as Config}
use Rattle.zre_journal.specs.Chronicle.{Mark, Ends, after, in_turn}
use Rattle.zre_journal.specs.Peers.{Life, lives, life}
use Rattle.zre_journal.specs.Told.{told}
use Rattle.zre_journal.specs.Done.{done, puts}
use Rattle.zre_journal.proofs.JoinedEntries.{after-append, told-append, done-append, in_turn-append}
use Rattle.zre_journal.proofs.NumberedLists.{others_find}
use Rattle.zre_node.specs.declared.tables.Tables.{Tables}
use Rattle.zre_node.specs.declared.effects.Effects.{Effects}
use Rattle.zre_node.specs.Stands.{Holds, Did, AreKnown}

pub or-nil : (b : Bool) → b ≡ (b || false)
or-nil true = refl
or-nil false = refl

or-assoc : (a b c : Bool) → ((a || b) || c) ≡ (a || (b || c))
or-assoc true b c = refl
or-assoc false b c = refl

-- one call after another
pub did_then : (g : Config) (hs ks H : List Mark) (t n : Tables) (a b c : Effects) → Did g hs H t a b → Did g ks (after hs H) n b c → Did g (hs ++ ks) H n a c
did_then g hs ks H t n a b c d e = record {
  holds = subst (λ K. Holds g K n) (sym (after-append hs ks H)) e.holds;
  events = e.events ∙ ap (λ es. es ++ told ks (after hs H)) d.events ∙ append_assoc a.events (told hs H) (told ks (after hs H)) ∙ ap (λ es. a.events ++ es) (sym (told-append hs ks H));
  acts = e.acts ∙ ap (λ as_. as_ ++ done g.id ks) d.acts ∙ append_assoc a.acts (done g.id hs) (done g.id ks) ∙ ap (λ as_. a.acts ++ as_) (sym (done-append g.id hs ks));
  pushed = λ l. e.pushed l ∙ ap (λ b. b || list_any (puts l) ks) (d.pushed l) ∙ or-assoc (list_any (eqb l) a.pushed) (list_any (puts l) hs) (list_any (puts l) ks)
      ∙ ap (λ b. list_any (eqb l) a.pushed || b) (sym (list_any-append (puts l) hs ks));
}

-- the marks are those
pub did_as : (g : Config) (hs ks H : List Mark) (t : Tables) (a b : Effects) → hs ≡ ks → Did g ks H t a b → Did g hs H t a b
did_as g hs ks H t a b e d = rw e d

-- no mark
pub idle_did : (g : Config) (H : List Mark) (t : Tables) (a : Effects) → Holds g H t → Did g [] H t a a
idle_did g H t a holds = record { holds = holds; events = sym (append-nil a.events); acts = sym (append-nil a.acts); pushed = λ l. or-nil (list_any (eqb l) a.pushed) }

-- a mark that tells and does nothing, and puts nothing on a link
pub silent_did : (g : Config) (h : Mark) (H : List Mark) (t : Tables) (a : Effects) → Holds g (h ∷ H) t → told (h ∷ []) H ≡ [] → done g.id (h ∷ []) ≡ [] → ((l : ℕ) → puts l h ≡ false) → Did g (h ∷ []) H t a a
silent_did g h H t a holds e d p = record {
  holds = holds;
  events = sym (ap (λ es. a.events ++ es) e ∙ append-nil a.events);
  acts = sym (ap (λ as_. a.acts ++ as_) d ∙ append-nil a.acts);
  pushed = λ l. or-nil (list_any (eqb l) a.pushed) ∙ ap (λ b. list_any (eqb l) a.pushed || b) (sym (ap (λ b. b || false) (p l)));
}

pub still_known : (H : List Mark) (l : ℕ) (why : Cause) (ks : List ℕ) → AllByRecursion (λ k. eqb l k ≡ false) ks → AreKnown H ks → AreKnown (Ends l why ∷ H) ks
still_known H l why [] a k = tt
still_known H l why (m ∷ ks) a k = (subst IsSome (sym (others_find (λ (v : Life). v.link) l m a.0 (lives H))) k.0, k.1, still_known H l why ks a.1 k.2)

-- each of the links is still known when its turn comes
pub known_at : (why : Cause) (ls : List ℕ) (H : List Mark) (i : ℕ) → i < length ls → AreKnown H ls → IsSome (life (get_or ls i 0) (after (map (λ l. Ends l why) (take i ls)) H))
known_at why [] H i low k = absurd (omega arith)
known_at why (l ∷ ls) H zero low k = k.0
known_at why (l ∷ ls) H (suc i) low k = known_at why ls (Ends l why ∷ H) i (omega arith) (still_known H l why ls k.1 k.2)

-- one more of a list of calls, each of which leaves one mark
pub one_more : (g : Config) (f : ℕ → Mark) (xs : List ℕ) (i : ℕ) (H : List Mark) (t n : Tables) (a b c : Effects) → i < length xs
    → Did g (map f (take i xs)) H t a b → Did g (f (get_or xs i 0) ∷ []) (after (map f (take i xs)) H) n b c → Did g (map f (take (i + 1) xs)) H n a c
one_more g f xs i H t n a b c low d e =
    subst (λ ys. Did g ys H n a c) (sym (ap (map f) (take_more xs i 0 low) ∙ map-append f (take i xs) (get_or xs i 0 ∷ [])))
    (did_then g (map f (take i xs)) (f (get_or xs i 0) ∷ []) H t n a b c d e)

pub all_done : (g : Config) (f : ℕ → Mark) (xs : List ℕ) (i : ℕ) (H : List Mark) (n : Tables) (a c : Effects) → length xs ≤ i → Did g (map f (take i xs)) H n a c → Did g (map f xs) H n a c
all_done g f xs i H n a c high d = subst (λ ys. Did g (map f ys) H n a c) (take_all i xs high) d

-- one more of a list of calls, each of which leaves what its member brings by then
pub one_more_turn : {A : Type 0} (g : Config) (f : A → List Mark → List Mark) (xs : List A) (x : A) (K : List Mark) (t n : Tables) (a b c : Effects)
    → Did g (in_turn f xs K) K t a b → Did g (f x (after (in_turn f xs K) K)) (after (in_turn f xs K) K) n b c → Did g (in_turn f (xs ++ x ∷ []) K) K n a c
one_more_turn g f xs x K t n a b c d e =
    did_as g _ _ K n a c (in_turn-append f xs (x ∷ []) K ∙ ap (λ hs. in_turn f xs K ++ hs) (append-nil (f x (after (in_turn f xs K) K))))
    (did_then g (in_turn f xs K) (f x (after (in_turn f xs K) K)) K t n a b c d e)

-- the same of a list of links, of which the first i have had their turn
pub one_more_link : (g : Config) (f : ℕ → List Mark → List Mark) (ls : List ℕ) (i : ℕ) (K : List Mark) (t n : Tables) (a b c : Effects) → i < length ls → Did g (in_turn f (take i ls) K) K t a b
    → Did g (f (get_or ls i 0) (after (in_turn f (take i ls) K) K)) (after (in_turn f (take i ls) K) K) n b c → Did g (in_turn f (take (i + 1) ls) K) K n a c
one_more_link g f ls i K t n a b c low d e =
    subst (λ ks. Did g (in_turn f ks K) K n a c) (sym (take_more ls i 0 low)) (one_more_turn g f (take i ls) (get_or ls i 0) K t n a b c d e)

pub all_links : (g : Config) (f : ℕ → List Mark → List Mark) (ls : List ℕ) (i : ℕ) (K : List Mark) (n : Tables) (a c : Effects) → length ls ≤ i → Did g (in_turn f (take i ls) K) K n a c → Did g (in_turn f ls K) K n a c
all_links g f ls i K n a c high d = subst (λ ks. Did g (in_turn f ks K) K n a c) (take_all i ls high) d

-- what a call has told and asked for, where nothing was put on a link
pub did_by : (g : Config) (hs H : List Mark) (t : Tables) (a s : Effects) → Holds g (after hs H) t → s.events ≡ a.events ++ told hs H → s.acts ≡ a.acts ++ done g.id hs → s.pushed ≡ a.pushed
    → ((l : ℕ) → list_any (puts l) hs ≡ false) → Did g hs H t a s
did_by g hs H t a s h ev ac pu none = record {
  holds = h;
  events = ev;
  acts = ac;
  pushed = λ l. ap (λ (ks : List ℕ). list_any (eqb l) ks) pu ∙ or-nil (list_any (eqb l) a.pushed) ∙ ap (λ b. list_any (eqb l) a.pushed || b) (sym (none l));
}
