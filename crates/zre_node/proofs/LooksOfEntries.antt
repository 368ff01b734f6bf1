-- How many looks an entry takes.
use Rattle.std.proofs.Common.{nat_cmp, eqb, eq-eqb, ◌≡◌, ℕ, ◌+◌, ◌≤◌, Bool, true, false, cond, if◌then◌else◌, List, [], ◌∷◌, ◌++◌, length, Some, None, Result, Ok, Err, IsErrAnd, refl, sym, ap, ◌∙◌, arith, subst, append-nil}
use Rattle.std.proofs.lemmas.Result.{err_from_is_err_and}
use Rattle.zre_values.specs.declared.memory.OutOfMemory.{OutOfMemory}
use Rattle.zre_outside.specs.declared.entry.Entry.{Entry}
use Rattle.zre_outside.specs.declared.entry.Input.{Input}
use Rattle.zre_outside.specs.declared.entry.Input.TheVariants as input
use Rattle.zre_zmtp.specs.Looks.{Looks, IsPaid, IsPaidOnRefusal}
use Rattle.zre_mailbox.specs.Conn.{conn_after, held_of}
use Rattle.zre_link.specs.Heard.{heard_after, held_of as held_of_replies}
use Rattle.zre_values.specs.declared.settings.Settings.{Settings as Config}
use Rattle.zre_journal.specs.Chronicle.{Mark, Comes, after}
use Rattle.zre_journal.specs.Heard.{bytes}
use Rattle.zre_journal.specs.Connections.{is_open, is_ignored}
use Rattle.zre_journal.specs.Events.{chronicle}
use Rattle.zre_journal.specs.Happens.{has_stopped, at_input, marks, with_entry}
use Rattle.zre_journal.specs.Held.{conn_kept, replies_kept, kept}
use Rattle.zre_journal.specs.Links.{line, is_linked, replies, taken}
use Rattle.zre_journal.specs.Peers.{Life, life}
use Rattle.zre_journal.specs.Proper.{IsProper}
use Rattle.zre_journal.proofs.ProperAfterMarks.{Comes-proper}
use Rattle.zre_journal.proofs.JoinedEntries.{continues}
use Rattle.zre_journal.proofs.ReadersHoldLess.{input_lowers, quiet_keeps, piece_moves, piece_lost, piece_part, reply_moves, reply_lost, reply_part}
use Rattle.zre_tables.specs.Holding.{reader_at}
use Rattle.std.specs.BTreeMap.{is_at}
use Rattle.std.specs.Map.{lookup}
use Rattle.zre_link.specs.Link.{link_after}
use Rattle.zre_link.specs.Text.{Member}
use Rattle.zre_values.specs.declared.peer_id.PeerId.{PeerId}
use Rattle.zre_tables.specs.declared.peer.Peer.{Peer}
use Rattle.zre_node.proofs.EntriesThatCome.{quiet_piece, quiet_reply, grown, unread, deaf, hears}
use Rattle.zre_node.proofs.EffectsOnLinks.{its, link_is}
use Rattle.zre_node.proofs.BodyOnOneLink.{row_link}
use Rattle.zre_node.specs.Brings.{octets_of}
use Rattle.zre_node.specs.Kinds.{is_piece}
use Rattle.zre_node.specs.Stands.{Holds, Rests, is_quiet}
use Rattle.zre_node.specs.declared.tables.Tables.{Tables}

-- ---- what was paid

module _ {A : Type 0} where
  -- nothing was looked at, and no more is kept
  pub no_looks : (r : Result A OutOfMemory) (looks kept kept' n : ℕ) → kept' ≤ kept → Looks looks looks kept kept' n r
  no_looks (Ok x) looks kept kept' n less = (omega (arith, less), tt)
  no_looks (Err e) looks kept kept' n less = (tt, omega arith)

  -- a part of what is kept was looked at
  pub part_looks : (r : Result A OutOfMemory) (looks looks' one one' all all' n : ℕ) → all' + one ≡ all + one' → one ≤ all → Looks looks looks' one one' n r → Looks looks looks' all all' n r
  part_looks (Ok x) looks looks' one one' all all' n moves part p = (omega (arith, moves, part, p.0), tt)
  part_looks (Err e) looks looks' one one' all all' n moves part p = (tt, omega (arith, part, p.1))

  -- what was paid before a refusal
  pub refused_looks : (r : Result A OutOfMemory) (looks looks' kept kept' most n : ℕ) → (e : OutOfMemory) → r ≡ Err e → IsPaid looks looks' kept most n → Looks looks looks' kept kept' n r
  refused_looks (Ok x) looks looks' kept kept' most n e is p = cc
  refused_looks (Err x) looks looks' kept kept' most n e is p = (tt, omega (arith, p))

  -- and no more is kept in the end
  pub less_looks : (r : Result A OutOfMemory) (looks looks' kept kept' most n : ℕ) → kept' ≤ most → IsPaid looks looks' kept most n → Looks looks looks' kept kept' n r
  less_looks (Ok x) looks looks' kept kept' most n less p = (omega (arith, less, p), tt)
  less_looks (Err e) looks looks' kept kept' most n less p = (tt, omega (arith, p))

-- a refusal by `?`
pub err_looks : (Q : OutOfMemory → Type 0) (r : Result (Unit {0}) OutOfMemory) → IsErrAnd r Q → (looks looks' kept kept' n : ℕ) → IsPaidOnRefusal looks looks' kept n → Looks looks looks' kept kept' n r
err_looks Q r q looks looks' kept kept' n p = let e = err_from_is_err_and r q in subst (Looks looks looks' kept kept' n) (sym e.1) (tt, p)

-- ---- an entry as a whole

pub entry_lowers : (g : Config) (e : Entry) (H : List Mark) → has_stopped H ≡ false → IsProper H → kept g (with_entry g e H) ≤ kept g (Comes e ∷ H)
entry_lowers g e H going q = subst (λ ks. kept g (after ks (Comes e ∷ H)) ≤ kept g (Comes e ∷ H)) (sym m) (input_lowers g e.input H (Comes e ∷ H) (Comes-proper H q e))
  where
    m : marks g e H ≡ at_input g e.input H (Comes e ∷ H)
    m = ap (λ b. cond b [] (at_input g e.input H (Comes e ∷ H))) going

-- an entry that brings no octets
pub quiet_lowers : (g : Config) (e : Entry) (H : List Mark) → is_quiet e.input ≡ true → has_stopped H ≡ false → IsProper H → kept g (with_entry g e H) ≤ kept g H
quiet_lowers g e H quiet going q = omega (arith, entry_lowers g e H going q, quiet_keeps g H q e (λ c. quiet_piece c e.input quiet) (λ l. quiet_reply l e.input quiet))

pub quiet_looks : {A : Type 0} (g : Config) (e : Entry) (H : List Mark) (t : Tables) → Holds g H t → (i : Input) → e.input ≡ i → is_quiet i ≡ true → (r : Result A OutOfMemory) (looks : ℕ)
    → Looks looks looks (kept g H) (kept g (with_entry g e H)) (octets_of e.input) r
quiet_looks g e H t h i is quiet r looks =
    no_looks r looks (kept g H) (kept g (with_entry g e H)) (octets_of e.input) (quiet_lowers g e H (ap is_quiet is ∙ quiet) h.keeps.going h.keeps.proper)

-- an entry that is neither a piece nor a reply
pub quiet_other : (i : Input) → is_piece i ≡ false → ((l : ℕ) (o : List ℕ) → i ≡ input.Reply l o → ⊥) → is_quiet i ≡ true
quiet_other (input.Piece c o) p r = absurd cc
quiet_other (input.Reply l o) p r = absurd (r l o refl)
quiet_other _ p r = refl

-- after a stop nothing is kept
pub idle_lowers : (g : Config) (e : Entry) (H : List Mark) (t : Tables) → Rests g H t → kept g (with_entry g e H) ≤ kept g H
idle_lowers g e H t r =
    let m : marks g e H ≡ [] = ap (λ b. cond b [] (at_input g e.input H (Comes e ∷ H))) r.stopped in
    let none : kept g (Comes e ∷ H) ≡ 0 = rw (r.none_open, r.none_known) refl in
    subst (λ ks. kept g (after ks (Comes e ∷ H)) ≤ kept g H) (sym m) (omega (arith, none))

-- the journal with the entry
pub kept_happened : (g : Config) (J : List Entry) (e : Entry) → kept g (with_entry g e (chronicle g J)) ≡ kept g (chronicle g (J ++ e ∷ []))
kept_happened g J e = ap (kept g) (sym (continues g J (e ∷ [])).happened)

-- ---- a piece

module _ (g : Config) (H : List Mark) (t : Tables) (h : Holds g H t) (e : Entry) (c : ℕ) (o : List ℕ) (is : e.input ≡ input.Piece c o) where
  pub lost_looks : {A : Type 0} (r : Result A OutOfMemory) (looks : ℕ) → is_open c H ≡ false → Looks looks looks (kept g H) (kept g (Comes e ∷ H)) (length o) r
  lost_looks r looks gone = no_looks r looks (kept g H) (kept g (Comes e ∷ H)) (length o) (omega (arith, piece_lost g H h.keeps.proper e c o is gone))

  pub heard_looks : {A : Type 0} (r : Result A OutOfMemory) (looks looks' : ℕ)
      → ((own : PeerId) (q : List ℕ) → reader_at c t.conns ≡ Some (conn_after own q) → Looks looks looks' (held_of (conn_after own q)) (held_of (conn_after own (q ++ o))) (length o) r)
      → (reader_at c t.conns ≡ None → looks' ≡ looks) → Looks looks looks' (kept g H) (kept g (Comes e ∷ H)) (length o) r
  heard_looks {A} r looks looks' live dead = by (is_open c H) refl (is_ignored c H) refl
    where
      by : (b : Bool) → is_open c H ≡ b → (d : Bool) → is_ignored c H ≡ d → Looks looks looks' (kept g H) (kept g (Comes e ∷ H)) (length o) r
      by false z d q = subst (λ l. Looks looks l (kept g H) (kept g (Comes e ∷ H)) (length o) r) (sym (dead (unread g H t h e c o is z))) (lost_looks r looks z)
      by true z true q =
          let now : conn_kept g (Comes e ∷ H) c ≡ 0 = ap (λ b. cond b 0 (held_of (conn_after g.id (bytes c (Comes e ∷ H))))) q in
          subst (λ l. Looks looks l (kept g H) (kept g (Comes e ∷ H)) (length o) r) (sym (dead (deaf g H t h e c o is z q)))
          (no_looks r looks (kept g H) (kept g (Comes e ∷ H)) (length o) (omega (arith, piece_moves g H h.keeps.proper e c o is z, now)))
      by true z false q =
          let was : conn_kept g H c ≡ held_of (conn_after g.id (bytes c H)) = ap (λ b. cond b 0 (held_of (conn_after g.id (bytes c H)))) q in
          let now : conn_kept g (Comes e ∷ H) c ≡ held_of (conn_after g.id (bytes c H ++ o)) = ap (λ b. cond b 0 (held_of (conn_after g.id (bytes c (Comes e ∷ H))))) q ∙ ap (λ p. held_of (conn_after g.id p)) (grown g H t h e c o is z) in
          part_looks r looks looks' (held_of (conn_after g.id (bytes c H))) (held_of (conn_after g.id (bytes c H ++ o))) (kept g H) (kept g (Comes e ∷ H)) (length o)
          (omega (arith, piece_moves g H h.keeps.proper e c o is z, was, now)) (omega (arith, piece_part g H h.keeps.proper e c o is z, was)) (live g.id (bytes c H) (hears g H t h e c o is z q))

-- ---- a reply

module _ (g : Config) (H : List Mark) (t : Tables) (h : Holds g H t) (e : Entry) (l : ℕ) (o : List ℕ) (is : e.input ≡ input.Reply l o) where
  pub unknown_looks : (A : Type 0) (r : Result A OutOfMemory) (looks : ℕ) → life l H ≡ None → Looks looks looks (kept g H) (kept g (Comes e ∷ H)) (length o) r
  unknown_looks A r looks none = no_looks r looks (kept g H) (kept g (Comes e ∷ H)) (length o) (omega (arith, reply_lost g H h.keeps.proper e l o is none))

  module _ (k : Peer) (was : Some k ≡ lookup (is_at (nat_cmp l)) t.peers) where
    pub replied_looks : {A : Type 0} (r : Result A OutOfMemory) (looks looks' : ℕ)
        → ((own : PeerId) (ms : List Member) (b : Bool) (q : List ℕ) (n : ℕ) → k.link ≡ link_after own ms b q n → Looks looks looks' (held_of_replies (heard_after q)) (held_of_replies (heard_after (if b then q ++ o else q))) (length o) r)
        → Looks looks looks' (kept g H) (kept g (Comes e ∷ H)) (length o) r
    replied_looks {A} r looks looks' paid =
        part_looks r looks looks' (held_of_replies (heard_after (replies l H))) (held_of_replies (heard_after (if is_linked l H then replies l H ++ o else replies l H))) (kept g H) (kept g (Comes e ∷ H)) (length o)
        (omega (arith, reply_moves g H h.keeps.proper e l o is v known, had, now)) (omega (arith, reply_part g H h.keeps.proper e l o is v known, had)) (paid g.id (line l H) (is_linked l H) (replies l H) (taken l H) (row_link g H t h l k was))
      where
        v : Life
        v = (its g H t h l k was).0

        known : life l H ≡ Some v
        known = (its g H t h l k was).1

        same : l ≡ v.link
        same = link_is g H t h l k was

        had : held_of_replies (heard_after (replies l H)) ≡ replies_kept g H v
        had = ap (λ n. held_of_replies (heard_after (replies n H))) same

        grows : (b : Bool) → is_linked l H ≡ b → replies l (Comes e ∷ H) ≡ (if b then replies l H ++ o else replies l H)
        grows true q = let this : eqb l l ≡ true = eq-eqb l l refl in rw (q, is, this) refl
        grows false q = rw q (append-nil (replies l H))

        now : held_of_replies (heard_after (if is_linked l H then replies l H ++ o else replies l H)) ≡ replies_kept g (Comes e ∷ H) v
        now = ap (λ p. held_of_replies (heard_after p)) (sym (grows (is_linked l H) refl)) ∙ ap (λ n. held_of_replies (heard_after (replies n (Comes e ∷ H)))) same
