-- The machine of `follow`, fed a piece part by part.
use Rattle.std.proofs.Common.{◌≡◌, ◌⊎◌, inl, inr, ℕ, ◌≤◌, Bool, true, false, not, ◌&&◌, List, [], ◌∷◌, ◌++◌, length, take, drop, Option, Some, None, refl, sym, ap, ◌∙◌, subst, append_assoc, true≢false, arith}
use Rattle.std.specs.Prelude.{is_some}
use Rattle.std.proofs.lemmas.Bool.{cases_Bool}
use Rattle.std.proofs.lemmas.List.{append-nil, take-append-drop}
use Rattle.zre_values.specs.declared.memory.OutOfMemory.{OutOfMemory}
use Rattle.zre_values.specs.declared.peer_id.PeerId.{PeerId}
use Rattle.zre_peer.specs.Standing.{Stands, is_spent}
use Rattle.zre_peer.specs.declared.peer_run.Run.{Run}
use Rattle.zre_zmtp.specs.Front.{PassesOn, bodies_of, item_of, passed}
use Rattle.zre_zmtp.specs.Reading.{Reading, Reads, IsOver, new_items}
use Rattle.zre_zmtp.specs.Stream.{Traffic, fault}
use Rattle.zre_zmtp.specs.declared.front.Front.{Front}
use Rattle.zre_zmtp.specs.declared.fault.ZmtpFault.{ZmtpFault}
use Rattle.zre_zmtp.specs.declared.want.Want.TheVariants.{Any}
use Rattle.zre_zmtp.specs.declared.item.Item.{Item}
use Rattle.zre_zmtp.proofs.OctetsCutIntoParts.{cases_Option}
use Rattle.zre_zmtp.proofs.ReadersFollowStreams.{is_over as stays_faulty}
use Rattle.zre_commands.specs.declared.follow.follower.Follower.{Follower}
use Rattle.zre_commands.specs.follow.Follow.{follow, over, text, is_stopped}
use Rattle.zre_commands.specs.follow.Follower.{Fed, GoesOn, peer_of}
use Rattle.zre_commands.specs.follow.Messages.{messages, messages_in, meant_by}
use Rattle.zre_commands.specs.follow.Runs.{events_after, is_over}
use Rattle.zre_commands.specs.follow.Taken.{Took}
use Rattle.zre_commands.specs.pump.Meaning.{Meaning, Grows}
use Rattle.zre_commands.specs.Stream.{HasRead}
use Rattle.zre_peer.specs.Lines.{lines}
use Rattle.zre_commands.proofs.follow.FollowFedPiece.{Fed-more, feeds_more, feeds_on, going_reads, over_fed, over_grows}

-- ---- a part

-- a message at the front of the octets was passed, and taken
pub front_taken : (f g : Follower) (o octets : List ℕ) (m : Front) (out out' : List ℕ) → is_spent f.run ≡ false → Fed f o → is_stopped o ≡ false → PassesOn f.reader g.reader m octets
    → (Stands f.run (messages o) → Took (peer_of f) (messages o) (meant_by (bodies_of m)) g.run out out') → g.fault ≡ f.fault
    → Fed g (o ++ take m.len octets) × Grows (follow (peer_of f)) o (take m.len octets) out out'
front_taken f g o octets m out out' e h going p takes same =
    let x = take m.len octets in
    let on : over o ≡ false = sym h.spent ∙ e in
    let reads : Reads Any Traffic o f.reader = going_reads f o e h going in
    let k = p.front.read Any Traffic o f.reader reads p.rested in
    let after : Reads Any Traffic (o ++ x) g.reader = subst (λ (r : Reading). Reads Any Traffic (o ++ x) r) (sym p.after) k.0 in
    let more : Fed-more (peer_of f) o x g.run out out' = feeds_more f o x (item_of f.reader m ∷ []) g.run out out' on k.1.appended (takes (h.stands on)) in
    let none : g.fault ≡ fault Any Traffic (o ++ x) = same ∙ (h.read on).faulty ∙ reads.faultless ∙ sym after.faultless in
    (feeds_on (peer_of f) g o x out out' (record { faulty = none; reads = λ _. after }) more, more.text)

-- ---- part after part

grows_none : (m : Meaning) (o out : List ℕ) → Grows m o [] out out
grows_none m o out = record { added = []; longer = ap m.text (append-nil o) ∙ sym (append-nil (m.text o)); appended = sym (append-nil out) }

grows_more : (m : Meaning) (o x y out mid out' : List ℕ) → Grows m o x out mid → Grows m (o ++ x) y mid out' → Grows m o (x ++ y) out out'
grows_more m o x y out mid out' a b = record {
  added = a.added ++ b.added;
  longer = ap m.text (sym (append_assoc o x y)) ∙ b.longer ∙ ap (λ (t : List ℕ). t ++ b.added) a.longer ∙ append_assoc (m.text o) a.added b.added;
  appended = b.appended ∙ ap (λ (t : List ℕ). t ++ b.added) a.appended ∙ append_assoc out a.added b.added;
}

-- all but the rest of a piece was taken
pub record IsAmid (was now : Follower) (piece rest out out' : List ℕ) : Type 0 where
  pub front : List ℕ
  pub parts : piece ≡ front ++ rest
  pub came : (o : List ℕ) → Fed was o → is_stopped o ≡ false → Fed now (o ++ front) × Grows (follow (peer_of was)) o front out out'
  pub same : peer_of now ≡ peer_of was

pub begins : (f : Follower) (piece out : List ℕ) → IsAmid f f piece piece out out
begins f piece out = record {
  front = [];
  parts = refl;
  came = λ o h going. (subst (λ (x : List ℕ). Fed f x) (sym (append-nil o)) h, grows_none (follow (peer_of f)) o out);
  same = refl;
}

not_stopped : (f : Follower) (o : List ℕ) → Fed f o → is_spent f.run ≡ false → is_some f.fault ≡ false → is_stopped o ≡ false
not_stopped f o h e none =
    let on : over o ≡ false = sym h.spent ∙ e in
    ap (λ b. not b && is_some (fault Any Traffic o)) on ∙ ap is_some (sym (h.read on).faulty) ∙ none

pub one_more : (was now next : Follower) (piece rest later out mid out' : List ℕ) (len : ℕ) → later ≡ drop len rest → is_spent now.run ≡ false → is_some now.fault ≡ false → IsAmid was now piece rest out mid → peer_of next ≡ peer_of now
    → ((o : List ℕ) → Fed now o → is_stopped o ≡ false → Fed next (o ++ take len rest) × Grows (follow (peer_of now)) o (take len rest) mid out')
    → IsAmid was next piece later out out'
one_more was now next piece rest later out mid out' len back running fine amid same step =
    let x = amid.front in
    let y = take len rest in
    let split : rest ≡ y ++ later = sym (take-append-drop len rest) ∙ ap (λ (l : List ℕ). y ++ l) (sym back) in
    record {
      front = x ++ y;
      parts = amid.parts ∙ ap (λ (l : List ℕ). x ++ l) split ∙ sym (append_assoc x y later);
      came = λ o h going.
          let k = amid.came o h going in
          let s = step (o ++ x) k.0 (not_stopped now (o ++ x) k.0 running fine) in (
            subst (λ (l : List ℕ). Fed next l) (append_assoc o x y) s.0,
            grows_more (follow (peer_of was)) o x y out mid out' k.1 (subst (λ id. Grows (follow id) (o ++ x) y mid out') amid.same s.1),
          );
      same = same ∙ amid.same;
    }

-- a fault stays
fault_fed : (f : Follower) (o x out : List ℕ) (bad : ZmtpFault) → Fed f o → is_spent f.run ≡ false → f.fault ≡ Some bad → Fed f (o ++ x) × Grows (follow (peer_of f)) o x out out
fault_fed f o x out bad h e there =
    let on : over o ≡ false = sym h.spent ∙ e in
    let read = h.read on in
    let stays : IsOver Any Traffic o = stays_faulty Any Traffic o bad (sym read.faulty ∙ there) in
    let same : messages (o ++ x) ≡ messages o = ap messages_in (stays.items x) in (
      record {
        spent = h.spent ∙ sym (ap (λ ms. is_over [] ms) same);
        stands = λ n. subst (Stands f.run) (sym same) (h.stands on);
        read = λ n. record { faulty = read.faulty ∙ sym (stays.fault x); reads = λ none. absurd (let no : None ≡ Some bad = sym none ∙ there in cc) };
      },
      record { added = []; longer = ap (λ ms. lines (events_after (peer_of f) [] ms)) same ∙ sym (append-nil (text (peer_of f) o)); appended = sym (append-nil out) },
    )

-- what goes on no more stays as it is
ended : (f : Follower) (o x out : List ℕ) → Fed f o → GoesOn false f → Fed f (o ++ x) × Grows (follow (peer_of f)) o x out out
ended f o x out h stays =
    elim (cases_Bool (is_spent f.run)) [
      | inl spent ↦ (over_fed f o x spent h, over_grows f o x out spent h)
      | inr running ↦ elim (cases_Option f.fault) [
        | inr there ↦ fault_fed f o x out there.0 h running there.1
        | inl none ↦ elim stays [
          | inl spent ↦ absurd (true≢false (sym spent ∙ running))
          | inr others ↦ elim others [
            | inl spent ↦ absurd (true≢false (sym spent ∙ (going_reads f o running h (not_stopped f o h running (ap is_some none))).unspent))
            | inr there ↦ absurd (true≢false (sym there ∙ ap is_some none))
          ]
        ]
      ]
    ]

all_of : (was now : Follower) (o front rest piece out mid out' : List ℕ) → piece ≡ front ++ rest → peer_of now ≡ peer_of was → Grows (follow (peer_of was)) o front out mid → Fed now ((o ++ front) ++ rest) × Grows (follow (peer_of now)) (o ++ front) rest mid out'
    → Fed now (o ++ piece) × Grows (follow (peer_of was)) o piece out out'
all_of was now o front rest piece out mid out' parts same grown k =
    let whole : (o ++ front) ++ rest ≡ o ++ piece = append_assoc o front rest ∙ ap (λ (l : List ℕ). o ++ l) (sym parts) in (
      subst (λ (l : List ℕ). Fed now l) whole k.0,
      subst (λ (l : List ℕ). Grows (follow (peer_of was)) o l out out') (sym parts)
          (grows_more (follow (peer_of was)) o front rest out mid out' grown (subst (λ id. Grows (follow id) (o ++ front) rest mid out') same k.1)),
    )

-- all of a piece was taken
pub all_taken : (was now : Follower) (piece rest out out' o : List ℕ) → length rest ≤ 0 → IsAmid was now piece rest out out' → Fed was o → is_stopped o ≡ false → Fed now (o ++ piece) × Grows (follow (peer_of was)) o piece out out'
all_taken was now piece [] out out' o none amid h going =
    let k = amid.came o h going in
    all_of was now o amid.front [] piece out out' out' amid.parts amid.same k.1 (subst (λ (l : List ℕ). Fed now l) (sym (append-nil (o ++ amid.front))) k.0, grows_none (follow (peer_of now)) (o ++ amid.front) out')
all_taken was now piece (x ∷ rest) out out' o none amid h going = absurd (omega (arith, none))

-- the rest of a piece isn't examined
pub rest_left : (was now : Follower) (piece rest out out' o : List ℕ) → GoesOn false now → IsAmid was now piece rest out out' → Fed was o → is_stopped o ≡ false → Fed now (o ++ piece) × Grows (follow (peer_of was)) o piece out out'
rest_left was now piece rest out out' o stays amid h going =
    let k = amid.came o h going in
    all_of was now o amid.front rest piece out out' out' amid.parts amid.same k.1 (ended now (o ++ amid.front) rest out' k.0 stays)

-- whether more octets may come
pub stop_fed : (f : Follower) (o : List ℕ) → Fed f o → (not (is_spent f.run) && is_some f.fault) ≡ is_stopped o
stop_fed f o h =
    elim (cases_Bool (over o)) [
      | inl t ↦ ap (λ b. not b && is_some f.fault) (h.spent ∙ t) ∙ sym (ap (λ b. not b && is_some (fault Any Traffic o)) t)
      | inr on ↦ ap (λ b. not b && is_some f.fault) h.spent ∙ ap (λ x. not (over o) && is_some x) (h.read on).faulty
    ]
