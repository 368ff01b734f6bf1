-- The machine of `follow`, fed one more piece.
use Rattle.std.proofs.Common.{◌≡◌, ℕ, true, false, not, ◌&&◌, List, [], ◌++◌, Option, sym, ap, ◌∙◌, subst, true≢false}
use Rattle.std.specs.Prelude.{is_some}
use Rattle.std.proofs.lemmas.List.{append-nil}
use Rattle.zre_values.specs.declared.peer_id.PeerId.{PeerId}
use Rattle.zre_peer.specs.Lines.{lines}
use Rattle.zre_peer.specs.Standing.{Stands, is_spent}
use Rattle.zre_peer.specs.declared.peer_run.Run.{Run}
use Rattle.zre_commands.specs.pump.Meaning.{Grows}
use Rattle.zre_zmtp.specs.Reading.{Reading, Reads, new_items}
use Rattle.zre_zmtp.specs.Stream.{Traffic, fault}
use Rattle.zre_zmtp.specs.declared.want.Want.TheVariants.{Any}
use Rattle.zre_zmtp.specs.declared.fault.ZmtpFault.{ZmtpFault}
use Rattle.zre_zmtp.specs.declared.item.Item.{Item}
use Rattle.zre_commands.specs.declared.follow.follower.Follower.{Follower}
use Rattle.zre_commands.specs.follow.Follow.{follow, over, is_stopped}
use Rattle.zre_commands.specs.follow.Follower.{Fed, peer_of}
use Rattle.zre_commands.specs.follow.Messages.{messages, messages_in}
use Rattle.zre_commands.specs.follow.Runs.{events_after}
use Rattle.zre_commands.specs.follow.Taken.{Took}
use Rattle.zre_commands.specs.Stream.{HasRead, ReadPiece}
use Rattle.zre_commands.proofs.StreamInPieces.{going_reads as stands_after, not_spent as is_unspent, items_are}
use Rattle.zre_commands.proofs.follow.TextIsMonotone.{newly, messages_more, over_stays, over_later, text_over, text_later}

-- ---- after the end of the run

pub over_fed : (f : Follower) (o x : List ℕ) → is_spent f.run ≡ true → Fed f o → Fed f (o ++ x)
over_fed f o x e h =
    let all : over (o ++ x) ≡ true = over_stays o x (sym h.spent ∙ e) in
    record {
      spent = e ∙ sym all;
      stands = λ n. absurd (true≢false (sym all ∙ n));
      read = λ n. absurd (true≢false (sym all ∙ n));
    }

pub over_grows : (f : Follower) (o x out : List ℕ) → is_spent f.run ≡ true → Fed f o → Grows (follow (peer_of f)) o x out out
over_grows f o x out e h = record { added = []; longer = text_over (peer_of f) o x (sym h.spent ∙ e); appended = sym (append-nil out) }

pub over_goes : (f : Follower) (o x : List ℕ) → is_spent f.run ≡ true → Fed f o → false ≡ is_stopped (o ++ x)
over_goes f o x e h = sym (ap (λ b. not b && is_some (fault Any Traffic (o ++ x))) (over_stays o x (sym h.spent ∙ e)))

-- ---- before it

-- what goes on has no fault
faultless : (f : Follower) (o : List ℕ) → is_spent f.run ≡ false → Fed f o → is_stopped o ≡ false → is_some (fault Any Traffic o) ≡ false
faultless f o e h going = sym (ap (λ b. not b && is_some (fault Any Traffic o)) (sym h.spent ∙ e)) ∙ going

-- so its reader stands after it
pub going_reads : (f : Follower) (o : List ℕ) → is_spent f.run ≡ false → Fed f o → is_stopped o ≡ false → Reads Any Traffic o f.reader
going_reads f o e h going = stands_after Traffic o f.fault f.reader (h.read (sym h.spent ∙ e)) (faultless f o e h going)

-- a reader that is spent is of no octets that go on
pub not_spent : {A : Type 0} (f : Follower) (o : List ℕ) → is_spent f.run ≡ false → f.reader.spent ≡ true → Fed f o → is_stopped o ≡ false → A
not_spent f o e s h going = is_unspent Traffic o f.fault f.reader (h.read (sym h.spent ∙ e)) (faultless f o e h going) s

-- a piece was read, and its messages were taken
pub record Fed-more (id : PeerId) (o x : List ℕ) (run : Run) (out out' : List ℕ) : Type 0 where
  pub spent : is_spent run ≡ over (o ++ x)
  pub stands : is_spent run ≡ false → Stands run (messages (o ++ x))
  pub text : Grows (follow id) o x out out'

-- the items were the new ones, and their messages were taken
pub feeds_more : (f : Follower) (o x : List ℕ) (items : List Item) (run : Run) (out out' : List ℕ) → over o ≡ false → items ≡ new_items Any Traffic o x → Took (peer_of f) (messages o) (messages_in items) run out out' → Fed-more (peer_of f) o x run out out'
feeds_more f o x items run out out' on are taken =
    let P : List Item → Type 0 = λ is. Took (peer_of f) (messages o) (messages_in is) run out out' in
    let t = subst P are taken in
    record {
      spent = t.over ∙ sym (over_later o x on);
      stands = λ g. subst (Stands run) (sym (messages_more o x)) (t.stands g);
      text = record { added = lines (events_after (peer_of f) (messages o) (newly o x)); longer = text_later (peer_of f) o x on; appended = t.lines_of };
    }

-- the piece was read into a list that had no items, and their messages were taken out of it
pub piece_taken : (f : Follower) (o x : List ℕ) (found : Option ZmtpFault) (reader : Reading) (before read items : List Item) (run : Run) (out out' : List ℕ) → is_spent f.run ≡ false → Fed f o → is_stopped o ≡ false → before ≡ [] → items ≡ read
    → (Reads Any Traffic o f.reader → ReadPiece Traffic o x found reader before read) → (Stands f.run (messages o) → Took (peer_of f) (messages o) (messages_in items) run out out') → HasRead Traffic (o ++ x) found reader × Fed-more (peer_of f) o x run out out'
piece_taken f o x found reader before read items run out out' e h going none same reads takes =
    let on : over o ≡ false = sym h.spent ∙ e in
    let p = reads (going_reads f o e h going) in
    (p.read, feeds_more f o x items run out out' on (same ∙ items_are Traffic o x found reader before read none p) (takes (h.stands on)))

-- what the machine knows after the piece
pub feeds_on : (id : PeerId) (g : Follower) (o x out out' : List ℕ) → HasRead Traffic (o ++ x) g.fault g.reader → Fed-more id o x g.run out out' → Fed g (o ++ x)
feeds_on id g o x out out' r k = record {
  spent = k.spent;
  stands = λ n. k.stands (k.spent ∙ n);
  read = λ n. r;
}

pub stop_on : (id : PeerId) (o x : List ℕ) (run : Run) (out out' : List ℕ) (found : Option ZmtpFault) (reader : Reading) → HasRead Traffic (o ++ x) found reader → Fed-more id o x run out out' → (not (is_spent run) && is_some found) ≡ is_stopped (o ++ x)
stop_on id o x run out out' found reader r k = ap (λ b. not b && is_some found) k.spent ∙ ap (λ f. not (over (o ++ x)) && is_some f) r.faulty
