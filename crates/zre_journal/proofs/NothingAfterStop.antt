-- After a stop no peer is known and no connection is open.
use Rattle.std.proofs.Common.{◌≡◌, ℕ, Bool, true, false, cond, not, ◌||◌, eqb, List, [], ◌∷◌, ◌++◌, map, filter, refl, sym, ap, ◌∙◌, eq-eqb}
use Rattle.std.specs.List.{AllByRecursion, list_any}
use Rattle.std.proofs.lemmas.List.{map-id}
use Rattle.std.proofs.lemmas.Bool.{or_right}
use Rattle.zre_outside.specs.declared.entry.Input.{Input}
use Rattle.zre_outside.specs.declared.entry.Input.TheVariants as input
use Rattle.zre_outside.specs.declared.entry.Command.TheVariants as command
use Rattle.zre_peer.specs.declared.causes.Cause.{Cause}
use Rattle.zre_peer.specs.declared.causes.Cause.TheVariants as cause
use Rattle.zre_journal.specs.Endings.{is_end}
use Rattle.zre_values.specs.declared.settings.Settings.{Settings as Config}
use Rattle.zre_journal.specs.Chronicle.{Mark, ClosesAtStop, Ends, SendsBeacon, Stops, after}
use Rattle.zre_journal.specs.Connections.{open_ones}
use Rattle.zre_journal.specs.Peers.{Life, lives}
use Rattle.zre_journal.specs.Happens.{at_input}
use Rattle.zre_journal.specs.Commands.{at_stop}
use Rattle.zre_journal.proofs.JoinedEntries.{after-append}
use Rattle.zre_journal.proofs.KnownPeers.{end_all, ends_keep, ends_open}
use Rattle.zre_journal.proofs.NumberedLists.{All-map}
use Rattle.zre_journal.proofs.WithinLimits.{HasRoom}

-- what comes about at an entry that stops the node
pub at_end : (g : Config) (i : Input) (H K : List Mark) → is_end i ≡ true → at_input g i H K ≡ at_stop g K
at_end g (input.Do command.Quit) H K z = refl
at_end g input.End H K z = refl
at_end g _ H K z = absurd cc

-- ---- things of these numbers are taken out, one after the other

abbrev cleared : {A : Type 0} → (A → ℕ) → List ℕ → List A → List A
cleared key [] xs = xs
cleared key (n ∷ ns) xs = cleared key ns (filter (λ x. not (eqb n (key x))) xs)

-- the number of each of these is among them
abbrev AreAmong : {A : Type 0} → (A → ℕ) → List ℕ → List A → Type 0
AreAmong key ns xs = AllByRecursion (λ x. list_any (λ n. eqb n (key x)) ns ≡ true) xs

still_among : {A : Type 0} (key : A → ℕ) (n : ℕ) (ns : List ℕ) (xs : List A) → AreAmong key (n ∷ ns) xs → AreAmong key ns (filter (λ x. not (eqb n (key x))) xs)
still_among key n ns [] h = tt
still_among {A} key n ns (x ∷ xs) h = by (still_among key n ns xs h.1) (eqb n (key x)) h.0
  where
    by : AreAmong key ns (filter (λ y. not (eqb n (key y))) xs) → (b : Bool) → (b || list_any (λ m. eqb m (key x)) ns) ≡ true
        → AreAmong key ns (cond (not b) (x ∷ filter (λ y. not (eqb n (key y))) xs) (filter (λ y. not (eqb n (key y))) xs))
    by r true q = r
    by r false q = (q, r)

none_left : {A : Type 0} (key : A → ℕ) (ns : List ℕ) (xs : List A) → AreAmong key ns xs → cleared key ns xs ≡ []
none_left key [] [] h = refl
none_left key [] (x ∷ xs) h = let z : false ≡ true = h.0 in absurd cc
none_left key (n ∷ ns) xs h = none_left key ns (filter (λ x. not (eqb n (key x))) xs) (still_among key n ns xs h)

all_among : {A : Type 0} (key : A → ℕ) (xs : List A) → AreAmong key (map key xs) xs
all_among key [] = tt
all_among {A} key (x ∷ xs) = (
  let me : eqb (key x) (key x) ≡ true = eq-eqb (key x) (key x) refl in rw me refl,
  All-map (λ (y : A). list_any (λ n. eqb n (key y)) (map key xs) ≡ true) (λ (y : A). list_any (λ n. eqb n (key y)) (map key (x ∷ xs)) ≡ true) (λ y h. or_right (eqb (key x) (key y)) (list_any (λ n. eqb n (key y)) (map key xs)) h) xs (all_among key xs),
)

-- ---- all peers end, and all connections are dropped

ends_lives : (why : Cause) (vs : List Life) (H : List Mark) → lives (after (end_all why vs) H) ≡ cleared (λ (v : Life). v.link) (map (λ (v : Life). v.link) vs) (lives H)
ends_lives why [] H = refl
ends_lives why (v ∷ vs) H = ends_lives why vs (Ends v.link why ∷ H)

abbrev pub drop_all : List ℕ → List Mark
drop_all cs = map (λ c. ClosesAtStop c) cs

pub drops_lives : (cs : List ℕ) (H : List Mark) → lives (after (drop_all cs) H) ≡ lives H
drops_lives [] H = refl
drops_lives (c ∷ cs) H = drops_lives cs (ClosesAtStop c ∷ H)

drops_open : (cs : List ℕ) (H : List Mark) → open_ones (after (drop_all cs) H) ≡ cleared (λ c. c) cs (open_ones H)
drops_open [] H = refl
drops_open (c ∷ cs) H = drops_open cs (ClosesAtStop c ∷ H)

module _ (g : Config) (H : List Mark) where
  abbrev E : List Mark
  E = end_all cause.Stop (lives H)

  abbrev D : List Mark
  D = drop_all (open_ones H)

  -- the chronicle after a stop
  abbrev pub stopped : List Mark
  stopped = Stops ∷ SendsBeacon 0 ∷ after D (after E H)

  pub stop-is : after (at_stop g H) H ≡ stopped
  stop-is = after-append (E ++ D) (SendsBeacon 0 ∷ Stops ∷ []) H ∙ ap (after (SendsBeacon 0 ∷ Stops ∷ [])) (after-append E D H)

  pub none_known : lives stopped ≡ []
  none_known = drops_lives (open_ones H) (after E H) ∙ ends_lives cause.Stop (lives H) H ∙ none_left (λ (v : Life). v.link) (map (λ (v : Life). v.link) (lives H)) (lives H) (all_among (λ (v : Life). v.link) (lives H))

  pub none_open : open_ones stopped ≡ []
  none_open =
      drops_open (open_ones H) (after E H) ∙ ap (cleared (λ c. c) (open_ones H)) (ends_open cause.Stop (lives H) H)
      ∙ ap (λ ns. cleared (λ c. c) ns (open_ones H)) (sym (map-id (open_ones H))) ∙ none_left (λ c. c) (map (λ c. c) (open_ones H)) (open_ones H) (all_among (λ c. c) (open_ones H))

-- ---- what is kept within limits stays so

room_ends : (g : Config) (why : Cause) (vs : List Life) (H : List Mark) → HasRoom g H → HasRoom g (after (end_all why vs) H)
room_ends g = ends_keep (HasRoom g) (λ l why H o. record { unsent_fits = o.unsent_fits; views_fit = o.views_fit; groups_fit = o.groups_fit; few_groups = o.few_groups })

room_drops : (g : Config) (cs : List ℕ) (H : List Mark) → HasRoom g H → HasRoom g (after (drop_all cs) H)
room_drops g [] H o = o
room_drops g (c ∷ cs) H o = room_drops g cs (ClosesAtStop c ∷ H) (record { unsent_fits = o.unsent_fits; views_fit = o.views_fit; groups_fit = o.groups_fit; few_groups = o.few_groups })

pub room-stopped : (g : Config) (H : List Mark) → HasRoom g H → HasRoom g (stopped g H)
room-stopped g H o = let r = room_drops g (open_ones H) (after (E g H) H) (room_ends g cause.Stop (lives H) H o) in record { unsent_fits = r.unsent_fits; views_fit = r.views_fit; groups_fit = r.groups_fit; few_groups = r.few_groups }
