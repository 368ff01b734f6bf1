-- One entry, at the node.
use Rattle.std.proofs.Common.{◌≡◌, true, false, List, [], ◌∷◌, ◌++◌, refl, sym, ap, ◌∙◌, subst, append-nil}
use Rattle.zre_outside.specs.declared.entry.Entry.{Entry}
use Rattle.zre_outside.specs.declared.act.Act.{Act}
use Rattle.zre_peer.specs.declared.event.Event.{Event}
use Rattle.zre_values.specs.declared.settings.Settings.{Settings as Config}
use Rattle.zre_journal.specs.Chronicle.{Mark, Comes, after}
use Rattle.zre_journal.specs.Done.{acts_at}
use Rattle.zre_journal.specs.Events.{chronicle, events, acts, events_at}
use Rattle.zre_journal.specs.Happens.{marks, has_stopped}
use Rattle.zre_journal.specs.Ledger.{KeepsLedgers}
use Rattle.zre_journal.specs.Told.{told}
use Rattle.zre_journal.proofs.JoinedEntries.{continues}
use Rattle.zre_journal.proofs.NearMessages.{keeps_ledgers}
use Rattle.zre_node.specs.declared.effects.Effects.{Effects}
use Rattle.zre_node.specs.declared.effects.Step.{Step}
use Rattle.zre_node.specs.declared.node.Node.{Node}
use Rattle.zre_node.specs.declared.tables.Tables.{Tables}
use Rattle.zre_node.specs.Journal.{beginning, StandsIn, Took, IsStep}

-- an entry after a stop changes nothing
pub took_nothing : (g : Config) (e : Entry) (H : List Mark) (t : Tables) (a : Effects) → has_stopped H ≡ true → StandsIn g H t → Took g e H t a a
took_nothing g e H t a z s =
    let m : marks g e H ≡ [] = rw z refl in
    let r = s.resting z in
    record {
      stands = subst (λ ks. StandsIn g (after ks (Comes e ∷ H)) t) (sym m) record {
        stopped = s.stopped;
        going = λ w. let k : true ≡ false = sym z ∙ w in absurd cc;
        resting = λ w. record { can = r.can; stopped = z; asleep = r.asleep; config = r.config; own = r.own; none_known = r.none_known; no_peers = r.no_peers; none_open = r.none_open; no_conns = r.no_conns };
      };
      events = sym (append-nil a.events) ∙ ap (λ ks. a.events ++ told ks (Comes e ∷ H)) (sym m);
      acts = sym (append-nil a.acts) ∙ ap (λ xs. a.acts ++ xs) (let k : acts_at g e H ≡ [] = rw z refl in sym k);
    }

-- what was taken is a step
pub steps : (g : Config) (J : List Entry) (e : Entry) (n : Node) (a s : Effects) → n.spent ≡ false → a.events ≡ [] → a.acts ≡ [] → Took g e (chronicle g J) n.tables a s → IsStep g J e n (record { events = s.events; acts = s.acts })
steps g J e n a s whole ev ac w =
    let c = continues g J (e ∷ []) in
    record {
      stands = record { stands = subst (λ K. StandsIn g K n.tables) (sym c.happened) w.stands; whole = whole };
      told = c.told ∙ ap (λ (xs : List Event). events g J ++ xs) (append-nil (events_at g e (chronicle g J)) ∙ sym (w.events ∙ ap (λ (xs : List Event). xs ++ events_at g e (chronicle g J)) ev));
      done = c.done ∙ ap (λ (xs : List Act). acts g J ++ xs) (append-nil (acts_at g e (chronicle g J)) ∙ sym (w.acts ∙ ap (λ (xs : List Act). xs ++ acts_at g e (chronicle g J)) ac));
    }

-- an entry was taken, and what it tells and asks for was handed over
pub finished : (g : Config) (J : List Entry) (e : Entry) (n m : Node) (s : Step) (a : Effects) → (m.tables ≡ n.tables) × (m.spent ≡ false)
    → s ≡ record { events = n.effects.events; acts = n.effects.acts } → a.events ≡ [] → a.acts ≡ [] → Took g e (chronicle g J) n.tables a n.effects → IsStep g J e m s
finished g J e n m s a kept given ev ac w =
    subst (IsStep g J e m) (sym given) (steps g J e m a n.effects kept.1 ev ac (subst (λ t. Took g e (chronicle g J) t a n.effects) (sym kept.0) w))

-- a node that begins to take an entry stands as it did
pub begun : (g : Config) (H : List Mark) (n b : Node) → b ≡ beginning n → StandsIn g H n.tables → StandsIn g H b.tables
begun g H n b is s = subst (λ (m : Node). StandsIn g H m.tables) (sym is) s

-- a step keeps the ledgers of its journal
pub keeps_its_ledgers : (g : Config) (J : List Entry) (e : Entry) (n : Node) (s : Step) → IsStep g J e n s → KeepsLedgers g (J ++ e ∷ []) (events g J ++ s.events)
keeps_its_ledgers g J e n s w = subst (KeepsLedgers g (J ++ e ∷ [])) w.told (keeps_ledgers g (J ++ e ∷ []))
