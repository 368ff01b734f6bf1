-- Whole entries, from what calls did.
use Rattle.std.proofs.Common.{◌≡◌, ℕ, Bool, true, false, ◌&&◌, ◌||◌, eqb, ltb, List, [], ◌∷◌, ◌++◌, map, filter, refl, sym, ap, ◌∙◌, append_assoc, append-nil, subst}
use Rattle.std.specs.List.{list_any}
use Rattle.zre_outside.specs.declared.entry.Entry.{Entry}
use Rattle.zre_outside.specs.declared.entry.Input.{Input}
use Rattle.zre_outside.specs.declared.entry.Input.TheVariants as input
use Rattle.zre_outside.specs.declared.entry.Command.TheVariants as command
use Rattle.zre_outside.specs.declared.act.Act.TheVariants as act
use Rattle.zre_journal.specs.Endings.{is_end}
use Rattle.zre_values.specs.declared.settings.Settings.{Settings as Config}
use Rattle.zre_journal.specs.Chronicle.{Mark, Comes, after}
use Rattle.zre_journal.specs.Done.{acts_at, done, offers, is_offered, names, puts}
use Rattle.zre_journal.specs.Events.{events_at}
use Rattle.zre_journal.specs.Happens.{at_input, marks, with_entry, has_stopped}
use Rattle.zre_journal.specs.Arrivals.{at_places}
use Rattle.zre_journal.specs.Commands.{at_stop}
use Rattle.zre_journal.specs.Heard.{newly_completed}
use Rattle.zre_journal.specs.Links.{gate, taken}
use Rattle.zre_journal.specs.Peers.{Life, lives}
use Rattle.zre_journal.specs.Told.{told}
use Rattle.zre_node.specs.declared.effects.Effects.{Effects}
use Rattle.zre_node.specs.declared.tables.Tables.{Tables}
use Rattle.zre_journal.proofs.NothingAfterStop.{at_end}
use Rattle.zre_node.specs.Kinds.{is_about_link, is_incoming}
use Rattle.zre_node.specs.Journal.{StandsIn, Took}
use Rattle.zre_node.specs.Links.{Notes}
use Rattle.zre_node.specs.Offers.{offered}
use Rattle.zre_node.specs.Stands.{Holds, Did, Stopped, is_quiet}

module _ (g : Config) (e : Entry) (H : List Mark) (going : has_stopped H ≡ false) where
  pub its_marks : marks g e H ≡ at_input g e.input H (Comes e ∷ H)
  its_marks = rw going refl

  pub its_acts : acts_at g e H ≡ done g.id (marks g e H) ++ offers g e (marks g e H) (with_entry g e H)
  its_acts = rw going refl

or-swap : (b c : Bool) → (b || c) ≡ (c || b)
or-swap true true = refl
or-swap true false = refl
or-swap false true = refl
or-swap false false = refl

-- the links that are offered are those on which something was put, and the one that the entry names
same_test : (g : Config) (e : Entry) (hs K : List Mark) (pushed : List ℕ) → ((l : ℕ) → list_any (eqb l) pushed ≡ (names l e.input || list_any (puts l) hs)) → (v : Life)
    → (list_any (eqb v.link) pushed && ltb (taken v.link K) (gate g v.link K)) ≡ is_offered g e hs K v
same_test g e hs K pushed p v = ap (λ b. b && ltb (taken v.link K) (gate g v.link K)) (p v.link ∙ or-swap (names v.link e.input) (list_any (puts v.link) hs))

same_offers : (g : Config) (e : Entry) (hs K : List Mark) (pushed : List ℕ) → ((l : ℕ) → list_any (eqb l) pushed ≡ (names l e.input || list_any (puts l) hs)) → offered g K pushed ≡ offers g e hs K
same_offers g e hs K pushed p =
    let same : (λ (v : Life). list_any (eqb v.link) pushed && ltb (taken v.link K) (gate g v.link K)) ≡ is_offered g e hs K = λ i v. same_test g e hs K pushed p v i in
    ap (λ (t : Life → Bool). map (λ (v : Life). act.Offer v.link) (filter t (lives K))) same

-- the tables of a node that goes on
pub goes_on : (g : Config) (K : List Mark) (t : Tables) → Holds g K t → StandsIn g K t
goes_on g K t h = record {
  stopped = h.keeps.awake ∙ sym h.keeps.going;
  going = λ z. h;
  resting = λ z. let w : true ≡ false = sym z ∙ h.keeps.going in absurd cc;
}

-- what an entry's marks did, and then the offers, where the link that it names was noted before
pub took_named : (g : Config) (e : Entry) (H : List Mark) (t : Tables) (a b c : Effects) → has_stopped H ≡ false → ((l : ℕ) → list_any (eqb l) a.pushed ≡ names l e.input)
    → Did g (at_input g e.input H (Comes e ∷ H)) (Comes e ∷ H) t a b → c ≡ record b { acts = b.acts ++ offered g (after (at_input g e.input H (Comes e ∷ H)) (Comes e ∷ H)) b.pushed } → Took g e H t a c
took_named g e H t a b c going named d is =
    let hs = at_input g e.input H (Comes e ∷ H) in
    let m = its_marks g e H going in
    let gives = same_offers g e hs (after hs (Comes e ∷ H)) b.pushed (λ l. d.pushed l ∙ ap (λ q. q || list_any (puts l) hs) (named l)) in
    record {
      stands = subst (λ ks. StandsIn g (after ks (Comes e ∷ H)) t) (sym m) (goes_on g (after hs (Comes e ∷ H)) t d.holds);
      events = ap (λ (s : Effects). s.events) is ∙ d.events ∙ ap (λ ks. a.events ++ told ks (Comes e ∷ H)) (sym m);
      acts = ap (λ (s : Effects). s.acts) is ∙ ap (λ xs. xs ++ offered g (after hs (Comes e ∷ H)) b.pushed) d.acts
          ∙ append_assoc a.acts (done g.id hs) (offered g (after hs (Comes e ∷ H)) b.pushed)
          ∙ ap (λ xs. a.acts ++ (done g.id hs ++ xs)) gives
          ∙ ap (λ ks. a.acts ++ (done g.id ks ++ offers g e ks (after ks (Comes e ∷ H)))) (sym m)
          ∙ ap (λ xs. a.acts ++ xs) (sym (its_acts g e H going));
    }

-- the same of an entry that names none
pub took : (g : Config) (e : Entry) (H : List Mark) (t : Tables) (a b c : Effects) → has_stopped H ≡ false → ((l : ℕ) → names l e.input ≡ false) → a.pushed ≡ []
    → Did g (at_input g e.input H (Comes e ∷ H)) (Comes e ∷ H) t a b → c ≡ record b { acts = b.acts ++ offered g (after (at_input g e.input H (Comes e ∷ H)) (Comes e ∷ H)) b.pushed } → Took g e H t a c
took g e H t a b c going unnamed none d is = took_named g e H t a b c going (λ l. ap (λ (ks : List ℕ). list_any (eqb l) ks) none ∙ sym (unnamed l)) d is

-- the same from effects to which a link was noted
pub took_noted : (g : Config) (e : Entry) (H : List Mark) (t : Tables) (a n b c : Effects) → has_stopped H ≡ false → a.pushed ≡ [] → Notes e.input a n
    → Did g (at_input g e.input H (Comes e ∷ H)) (Comes e ∷ H) t n b → c ≡ record b { acts = b.acts ++ offered g (after (at_input g e.input H (Comes e ∷ H)) (Comes e ∷ H)) b.pushed } → Took g e H t a c
took_noted g e H t a n b c going none notes d is =
    let w = took_named g e H t n b c going (λ l. notes.pushed l ∙ ap (λ (ks : List ℕ). list_any (eqb l) ks || names l e.input) none) d is in
    record {
      stands = w.stands;
      events = w.events ∙ ap (λ xs. xs ++ events_at g e H) notes.events;
      acts = w.acts ∙ ap (λ xs. xs ++ acts_at g e H) notes.acts;
    }

-- a stop, after which no peer is known, so nothing is offered
pub took_stop : (g : Config) (e : Entry) (H : List Mark) (t : Tables) (a c : Effects) → has_stopped H ≡ false → at_input g e.input H (Comes e ∷ H) ≡ at_stop g (Comes e ∷ H) → Stopped g (Comes e ∷ H) t a c → Took g e H t a c
took_stop g e H t a c going is s =
    let hs = at_stop g (Comes e ∷ H) in
    let m : marks g e H ≡ hs = its_marks g e H going ∙ is in
    let none : offers g e hs (after hs (Comes e ∷ H)) ≡ [] = ap (λ (vs : List Life). map (λ (v : Life). act.Offer v.link) (filter (is_offered g e hs (after hs (Comes e ∷ H))) vs)) s.rests.none_known in
    record {
      stands = subst (λ ks. StandsIn g (after ks (Comes e ∷ H)) t) (sym m) record {
        stopped = s.rests.asleep ∙ sym s.rests.stopped;
        going = λ z. let w : true ≡ false = sym s.rests.stopped ∙ z in absurd cc;
        resting = λ z. s.rests;
      };
      events = s.events ∙ ap (λ ks. a.events ++ told ks (Comes e ∷ H)) (sym m);
      acts = s.acts ∙ sym (ap (λ xs. a.acts ++ xs) (its_acts g e H going
          ∙ ap (λ ks. done g.id ks ++ offers g e ks (after ks (Comes e ∷ H))) m ∙ ap (λ xs. done g.id hs ++ xs) none ∙ append-nil (done g.id hs)));
    }

-- ---- entries

pub quiet_incoming : (i : Input) → is_incoming i ≡ true → is_quiet i ≡ true
quiet_incoming (input.Datagram from o) e = refl
quiet_incoming (input.Opened c) e = refl
quiet_incoming (input.Shut c) e = refl
quiet_incoming (input.Linked l) e = refl
quiet_incoming (input.Unlinked l) e = refl
quiet_incoming (input.Took l n) e = refl
quiet_incoming _ e = absurd cc

quiet_end : (i : Input) → is_end i ≡ true → is_quiet i ≡ true
quiet_end input.End e = refl
quiet_end (input.Do command.Quit) e = refl
quiet_end _ e = absurd cc

pub ending : (g : Config) (i : Input) (H K : List Mark) → is_end i ≡ true → (at_input g i H K ≡ at_stop g K) × (is_quiet i ≡ true)
ending g i H K e = (at_end g i H K e, quiet_end i e)

pub unnamed_piece : (e : Entry) (c : ℕ) (o : List ℕ) → e.input ≡ input.Piece c o → (l : ℕ) → names l e.input ≡ false
unnamed_piece e c o is l = rw is refl

pub piece_marks : (g : Config) (e : Entry) (H : List Mark) (c : ℕ) (o : List ℕ) → e.input ≡ input.Piece c o → at_input g e.input H (Comes e ∷ H) ≡ at_places g c (newly_completed g.id c H (Comes e ∷ H)) (Comes e ∷ H)
piece_marks g e H c o is = ap (λ i. at_input g i H (Comes e ∷ H)) is

pub others_about_links : (i : Input) → ((from o : List ℕ) → i ≡ input.Datagram from o → ⊥) → ((c : ℕ) → i ≡ input.Opened c → ⊥) → ((c : ℕ) → i ≡ input.Shut c → ⊥) → is_incoming i ≡ true → is_about_link i ≡ true
others_about_links (input.Datagram from o) d p s e = absurd (d from o refl)
others_about_links (input.Opened c) d p s e = absurd (p c refl)
others_about_links (input.Shut c) d p s e = absurd (s c refl)
others_about_links i d p s e = e
