-- The stop of a node.
use Rattle.std.proofs.Common.{◌≡◌, ℕ, true, false, eqb, List, [], ◌∷◌, ◌++◌, map, Option, Some, None, IsSome, find, refl, sym, ap, ◌∙◌, append_assoc, subst}
use Rattle.std.specs.List.{AllByRecursion}
use Rattle.std.specs.Map.{keys_of}
use Rattle.std.proofs.lemmas.List.{map-id}
use Rattle.zre_beacon.specs.Beacon.{beacon_octets}
use Rattle.zre_peer.specs.declared.causes.Cause.TheVariants as cause
use Rattle.zre_outside.specs.declared.act.Act.TheVariants as act
use Rattle.zre_peer.specs.declared.event.Event.TheVariants as event
use Rattle.zre_values.specs.declared.settings.Settings.{Settings as Config}
use Rattle.zre_journal.specs.Chronicle.{Mark, Ends, ClosesAtStop, SendsBeacon, Stops, after}
use Rattle.zre_journal.specs.Connections.{open_ones, runs}
use Rattle.zre_journal.specs.Peers.{Life, lives, life}
use Rattle.zre_journal.specs.Proper.{Apart}
use Rattle.zre_journal.specs.Commands.{at_stop}
use Rattle.zre_journal.specs.Told.{told}
use Rattle.zre_journal.specs.Done.{done}
use Rattle.zre_journal.proofs.JoinedEntries.{after-append, told-append, done-append}
use Rattle.zre_journal.proofs.ProperAfterMarks.{run_known}
use Rattle.zre_journal.proofs.KnownPeers.{end_all, each_known}
use Rattle.zre_journal.proofs.NothingAfterStop.{stop-is, none_known, none_open, drops_lives}
use Rattle.zre_node.specs.declared.tables.Tables.{Tables}
use Rattle.zre_node.specs.declared.effects.Effects.{Effects}
use Rattle.zre_tables.specs.Tabled.{Tabled}
use Rattle.zre_node.specs.Stands.{Holds, Did, Rests, Stopped, AreKnown, RunNone, IsPeer, IsConn}
use Rattle.zre_tables.proofs.EntriesOfMaps.{keys_are}
use Rattle.zre_node.proofs.MarksAfterMarks.{did_then}

pub map-map : {A B C : Type 0} (f : A → B) (g : B → C) (xs : List A) → map g (map f xs) ≡ map (λ x. g (f x)) xs
map-map f g [] = refl
map-map f g (x ∷ xs) = ap (λ ys. g (f x) ∷ ys) (map-map f g xs)

abbrev pub link_list : List Life → List ℕ
link_list vs = map (λ (v : Life). v.link) vs

pub apart_links : (l : ℕ) (vs : List Life) → AllByRecursion (λ (v : Life). eqb l v.link ≡ false) vs → AllByRecursion (λ k. eqb l k ≡ false) (link_list vs)
apart_links l [] h = tt
apart_links l (v ∷ vs) h = (h.0, apart_links l vs h.1)

pub known_from : (H : List Mark) (vs : List Life) → Apart (λ (v : Life). v.link) vs → AllByRecursion (λ (v : Life). IsSome (life v.link H)) vs → AreKnown H (link_list vs)
known_from H [] a h = tt
known_from H (v ∷ vs) a h = (h.0, apart_links v.link vs a.0, known_from H vs a.1 h.1)

module _ (g : Config) (H : List Mark) (t : Tables) (h : Holds g H t) where
  -- the keys of the tables are the links and the numbers
  pub links_are : keys_of t.peers ≡ link_list (lives H)
  links_are = keys_are (λ (v : Life). v.link) (IsPeer g H) (lives H) t.peers h.peers

  pub numbers_are : keys_of t.conns ≡ open_ones H
  numbers_are = keys_are (λ (c : ℕ). c) (IsConn g H) (open_ones H) t.conns h.keeps.conns ∙ map-id (open_ones H)

  pub all_known : AreKnown H (link_list (lives H))
  all_known = known_from H (lives H) h.keeps.proper.living.apart (each_known H)

-- after the ends of all lives
pub none_known_by : (g : Config) (H : List Mark) (ls : List ℕ) → ls ≡ link_list (lives H) → lives (after (map (λ l. Ends l cause.Stop) ls) H) ≡ []
none_known_by g H ls e =
    let marks : map (λ l. Ends l cause.Stop) ls ≡ end_all cause.Stop (lives H) = ap (λ xs. map (λ l. Ends l cause.Stop) xs) e ∙ map-map (λ (v : Life). v.link) (λ l. Ends l cause.Stop) (lives H) in
    ap (λ ks. lives (after ks H)) marks ∙ sym (drops_lives (open_ones H) (after (end_all cause.Stop (lives H)) H)) ∙ none_known g H

-- no connection runs a peer where none is known
pub run_none : (g : Config) (H : List Mark) (t : Tables) → Holds g H t → lives H ≡ [] → RunNone H
run_none g H t h e c = by (runs c H) refl
  where
    by : (o : Option ℕ) → runs c H ≡ o → o ≡ None
    by None q = refl
    by (Some l) q = let k = run_known H h.keeps.proper c l q in let z : IsSome (find (λ (v : Life). eqb l v.link) []) = subst (λ vs. IsSome (find (λ (v : Life). eqb l v.link) vs)) e k in absurd cc

no_entries : {A V : Type 0} (key : A → ℕ) (P : A → V → Type 0) (xs : List A) (es : List (ℕ × V)) → xs ≡ [] → Tabled key P xs es → es ≡ []
no_entries key P [] [] e t = refl
no_entries key P [] (x ∷ es) e t = absurd t
no_entries key P (x ∷ xs) es e t = absurd cc

-- the whole stop from its parts
pub stops : (g : Config) (H : List Mark) (ls cs : List ℕ) (t m : Tables) (a b c d : Effects) → ls ≡ link_list (lives H) → cs ≡ open_ones H
    → Did g (map (λ l. Ends l cause.Stop) ls) H t a b → Did g (map (λ c. ClosesAtStop c) cs) (after (map (λ l. Ends l cause.Stop) ls) H) m b c
    → d.events ≡ c.events ++ event.Stop ∷ [] → d.acts ≡ c.acts ++ act.Beacon (beacon_octets g.id 0) ∷ [] → Stopped g H (record m { stopped = true }) a d
stops g H ls cs t m a b c d le ce first second ev ac =
    let marks = ap (λ xs. map (λ l. Ends l cause.Stop) xs) le ∙ map-map (λ (v : Life). v.link) (λ l. Ends l cause.Stop) (lives H) in
    let both = did_then g (map (λ l. Ends l cause.Stop) ls) (map (λ c. ClosesAtStop c) cs) H t m a b c first second in
    let hs = map (λ l. Ends l cause.Stop) ls ++ map (λ c. ClosesAtStop c) cs in
    let whole : (hs ++ SendsBeacon 0 ∷ Stops ∷ []) ≡ at_stop g H =
    ap (λ es. es ++ map (λ c. ClosesAtStop c) cs ++ SendsBeacon 0 ∷ Stops ∷ []) marks ∙ ap (λ es. map (λ (v : Life). Ends v.link cause.Stop) (lives H) ++ map (λ c. ClosesAtStop c) es ++ SendsBeacon 0 ∷ Stops ∷ []) ce in
    let none : lives (after (map (λ l. Ends l cause.Stop) ls) H) ≡ [] = none_known_by g H ls le in
    let left : lives (after (map (λ c. ClosesAtStop c) cs) (after (map (λ l. Ends l cause.Stop) ls) H)) ≡ [] = drops_lives cs (after (map (λ l. Ends l cause.Stop) ls) H) ∙ none in
    let end : after (hs ++ SendsBeacon 0 ∷ Stops ∷ []) H ≡ Stops ∷ SendsBeacon 0 ∷ after hs H = after-append hs (SendsBeacon 0 ∷ Stops ∷ []) H in
    let gone : lives (after hs H) ≡ [] = ap lives (after-append (map (λ l. Ends l cause.Stop) ls) (map (λ c. ClosesAtStop c) cs) H) ∙ left in
    let shut : open_ones (after hs H) ≡ [] = ap open_ones (sym end) ∙ ap (λ ks. open_ones (after ks H)) whole ∙ ap open_ones (stop-is g H) ∙ none_open g H in
    let rests : Rests g (after (hs ++ SendsBeacon 0 ∷ Stops ∷ []) H) (record m { stopped = true }) = subst (λ K. Rests g K (record m { stopped = true })) (sym end)
    record {
      can = both.holds.keeps.can;
      stopped = refl;
      asleep = refl;
      config = both.holds.keeps.config;
      own = both.holds.keeps.own;
      none_known = gone;
      no_peers = no_entries (λ (v : Life). v.link) (IsPeer g (after hs H)) (lives (after hs H)) m.peers gone both.holds.peers;
      none_open = shut;
      no_conns = no_entries (λ (c : ℕ). c) (IsConn g (after hs H)) (open_ones (after hs H)) m.conns shut both.holds.keeps.conns;
    } in
    let events : d.events ≡ a.events ++ told (hs ++ SendsBeacon 0 ∷ Stops ∷ []) H = ev ∙ ap (λ es. es ++ event.Stop ∷ []) both.events ∙ append_assoc a.events (told hs H) (event.Stop ∷ []) ∙ ap (λ es. a.events ++ es) (sym (told-append hs (SendsBeacon 0 ∷ Stops ∷ []) H)) in
    let acts : d.acts ≡ a.acts ++ done g.id (hs ++ SendsBeacon 0 ∷ Stops ∷ []) = ac ∙ ap (λ es. es ++ act.Beacon (beacon_octets g.id 0) ∷ []) both.acts ∙ append_assoc a.acts (done g.id hs) (act.Beacon (beacon_octets g.id 0) ∷ []) ∙ ap (λ es. a.acts ++ es) (sym (done-append g.id hs (SendsBeacon 0 ∷ Stops ∷ []))) in
    record {
      rests = subst (λ ks. Rests g (after ks H) (record m { stopped = true })) whole rests;
      events = subst (λ ks. d.events ≡ a.events ++ told ks H) whole events;
      acts = subst (λ ks. d.acts ≡ a.acts ++ done g.id ks) whole acts;
    }
