-- The machine of `table`, fed one more piece, and at the end of its input.
use Rattle.std.proofs.Common.{◌≡◌, ℕ, Option, Some, None, List, [], ◌++◌, refl, sym, ap, subst, append-nil}
use Rattle.std.specs.Option.{option_map_or}
use Rattle.zre_capture.specs.Journal.{journal, settings}
use Rattle.zre_capture.specs.declared.format.Format.TheVariants.{Second}
use Rattle.zre_values.specs.declared.settings.Settings.{Settings}
use Rattle.zre_node.specs.Journal.{StandsFor}
use Rattle.zre_node.specs.declared.node.Node.{Node}
use Rattle.zre_outside.specs.declared.entry.Entry.{Entry}
use Rattle.zre_shared.specs.Lines.{lines}
use Rattle.zre_shared.specs.Replicas.{HeldWrites}
use Rattle.zre_shared.specs.Tables.{table as table_of}
use Rattle.zre_records.specs.declared.replay.headed.Headed.{Headed}
use Rattle.zre_records.specs.declared.table.tabulator.Tabulator.{Tabulator}
use Rattle.zre_commands.specs.pump.Meaning.{Grows}
use Rattle.zre_records.specs.replay.Headed.{Follows, HasRead}
use Rattle.zre_records.specs.replay.Lives.{Lives, AreStill}
use Rattle.zre_records.specs.table.Kept.{GatheredIfAny, Keeps}
use Rattle.zre_records.specs.table.Table.{text, table}
use Rattle.zre_records.specs.table.Tabulator.{Fed}
use Rattle.zre_records.specs.table.Writes.{frames, writes}
use Rattle.zre_records.proofs.replay.HeadReplayerFedPiece.{no_journal, no_settings, tells}

-- nothing is written before the end
pub nothing_written : (group : List ℕ) (o x out : List ℕ) → Grows (table group) o x out out
nothing_written group o x out = record { added = []; longer = refl; appended = sym (append-nil out) }

-- before any frame
pub nothing_kept : (h : HeldWrites) → h.writes ≡ [] → Keeps [] h
unfolding table_of
nothing_kept h e = e

living : (group : List ℕ) (J : List Entry) (s : Settings) (m : Option Node) (h : HeldWrites) → Lives (Some s) J m → Keeps (frames s group J) h → GatheredIfAny (Some s) group J m h
living group J s None h l k = absurd l
living group J s (Some m) h l k = record { stands = l; keeps = k }

living_still : (group : List ℕ) (J : List Entry) (s : Settings) (told : Option Settings) (m : Option Node) (h : HeldWrites) → told ≡ Some s → Lives told J m → Keeps (frames s group J) h
    → GatheredIfAny told group J m h
living_still group J s told m h e l k = subst (λ (t : Option Settings). GatheredIfAny t group J m h) (sym e) (living group J s m h (subst (λ (t : Option Settings). Lives t J m) e l) k)

living_first : (group : List ℕ) (J : List Entry) (told : Option Settings) (m : Option Node) (h : HeldWrites) → J ≡ [] → Lives told J m → Keeps [] h → GatheredIfAny told group J m h
living_first group J None None h e l k = k
living_first group J None (Some m) h e l k = absurd l
living_first group J (Some s) m h e l k = living group J s m h l (subst (λ (K : List Entry). Keeps (frames s group K) h) (sym e) k)

-- before any octet
pub nothing_gathered : (group : List ℕ) (h : Headed Node) (held : HeldWrites) → Follows (λ g J n. StandsFor g J n) h [] → held.writes ≡ [] → GatheredIfAny (settings Second []) group (journal Second []) h.made held
nothing_gathered group h held f e =
    living_first group (journal Second []) (settings Second []) h.made held (no_journal [] no_settings) f.lives (nothing_kept held e)

-- what is told by now, before the node took more
pub gathered_before : (group : List ℕ) (J : List Entry) (before told : Option Settings) (n m : Option Node) (h : HeldWrites) → GatheredIfAny before group J n h → AreStill before J told → Lives told J m
    → GatheredIfAny told group J m h
gathered_before group J None told None m h k still l = living_first group J told m h still l k
gathered_before group J None told (Some n) m h k still l = absurd k
gathered_before group J (Some s) told None m h k still l = absurd k
gathered_before group J (Some s) told (Some n) m h k still l = living_still group J s told m h still l k.keeps

pub lives_with : (group : List ℕ) (J : List Entry) (told : Option Settings) (n : Option Node) (h : HeldWrites) → GatheredIfAny told group J n h → Lives told J n
lives_with group J None None h k = tt
lives_with group J None (Some n) h k = absurd k
lives_with group J (Some s) None h k = absurd k
lives_with group J (Some s) (Some n) h k = k.stands

-- what the machine knew, of the node that lives after a piece was read
piece_before : (t : Tabulator) (o x : List ℕ) (es : List Entry) (h : Headed Node) → Fed t o → HasRead (λ g J n. StandsFor g J n) o x es h → GatheredIfAny (settings Second (o ++ x)) t.group (journal Second o) h.made t.replica
piece_before t o x es h f r =
    gathered_before t.group (journal Second o) (settings Second o) (settings Second (o ++ x)) t.headed.made h.made t.replica f.gathered (tells o x (settings Second (o ++ x)) refl).still r.lives

-- so the machine was fed the piece, once its entries were taken by this node: q is its group, where it was lent
pub piece_taken : (t : Tabulator) (o x : List ℕ) (es : List Entry) (h : Headed Node) (n : Option Node) (held : HeldWrites) (q : List ℕ) → Fed t o → HasRead (λ g J n. StandsFor g J n) o x es h → q ≡ t.group
    → (GatheredIfAny (settings Second (o ++ x)) q (journal Second o) h.made t.replica → GatheredIfAny (settings Second (o ++ x)) q (journal Second o ++ es) n held)
    → GatheredIfAny (settings Second (o ++ x)) t.group (journal Second (o ++ x)) n held
piece_taken t o x es h n held q f r lent taken =
    subst (λ (K : List Entry). GatheredIfAny (settings Second (o ++ x)) t.group K n held) (sym r.more)
    (subst (λ (p : List ℕ). GatheredIfAny (settings Second (o ++ x)) p (journal Second o ++ es) n held) lent
    (taken (subst (λ (p : List ℕ). GatheredIfAny (settings Second (o ++ x)) p (journal Second o) h.made t.replica) (sym lent) (piece_before t o x es h f r))))

-- the lines of what is held then
pub text_is : (t : Tabulator) (o : List ℕ) → Fed t o → lines t.replica.writes ≡ text t.group o
unfolding table_of
text_is t o f = by (settings Second o) t.headed.made f.gathered
  where
    by : (told : Option Settings) (n : Option Node) → GatheredIfAny told t.group (journal Second o) n t.replica
        → lines t.replica.writes ≡ option_map_or (λ (s : Settings). lines (table_of (writes s t.group (journal Second o)))) told []
    by None None k = ap lines k
    by None (Some n) k = absurd k
    by (Some s) None k = absurd k
    by (Some s) (Some n) k = ap lines k.keeps
