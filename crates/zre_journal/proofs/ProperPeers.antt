-- Known peers and connections in a proper chronicle, and the marks that begin and end nothing.
use Rattle.std.proofs.Common.{◌≡◌, ℕ, ◌<◌, ◌≤◌, Bool, true, false, cond, eqb, List, ◌∷◌, Option, Some, None, IsSome, refl, sym, ap, ◌∙◌, arith, eqb-true, ne_eqb, subst}
use Rattle.std.specs.Option.{option_and_then}
use Rattle.zre_msg.specs.declared.message.Body.{Body}
use Rattle.zre_outside.specs.declared.entry.Entry.{Entry}
use Rattle.zre_peer.specs.declared.causes.RefuseWhy.{RefuseWhy}
use Rattle.zre_journal.specs.Chronicle.{Mark, Comes, Greets, AnswersPing, HearsBeacon, IsEvasive, Puts, PutsPong, Links, Sends, Joins, Leaves, Refuses, SendsBeacon, Stops}
use Rattle.zre_journal.specs.Connections.{open_ones, is_open, is_new, started, has_ended, runs}
use Rattle.zre_journal.specs.Peers.{Life, lives, births, life, runner}
use Rattle.zre_journal.specs.Proper.{IsProper, AreLives, IsUnused, AreOpen, IsUnheard}
use Rattle.zre_journal.proofs.NumberedLists.{found, found_passes, any_has}
use Rattle.zre_journal.specs.Heard.{was_opened}

-- ---- known peers and connections

module _ (H : List Mark) (p : IsProper H) where
  -- a known peer hasn't ended, and its number is that of a birth
  pub known_lives : (l : ℕ) (v : Life) → life l H ≡ Some v → (has_ended l H ≡ false) × (l ≤ births H) × (l ≡ v.link)
  known_lives l v e =
      let q = eqb-true l v.link (found_passes (λ (u : Life). eqb l u.link) (lives H) v e) in
      let f = found (λ (u : Life). has_ended u.link H ≡ false) (λ (u : Life). eqb l u.link) (lives H) v p.living.living e in
      let n = found (λ (u : Life). u.link ≤ births H) (λ (u : Life). eqb l u.link) (lives H) v p.living.numbered e in
      (subst (λ k. has_ended k H ≡ false) (sym q) f.0, subst (λ k. k ≤ births H) (sym q) n.0, q)

  -- an open connection isn't new
  pub open_is_old : (c d : ℕ) → is_open c H ≡ true → is_new d H ≡ true → eqb d c ≡ false
  open_is_old c d o n = let less : c < d = any_has (λ x. x < d) c (open_ones H) (p.opening.open_old d n) o in ne_eqb d c (λ e. omega arith)

  -- what runs a peer has started it, and the peer is known
  pub has_started : (c l : ℕ) → runs c H ≡ Some l → (started c H ≡ Some l) × (has_ended l H ≡ false)
  has_started c l r = by (started c H) refl r
    where
      by : (o : Option ℕ) → started c H ≡ o → option_and_then (λ k. cond (has_ended k H) None (Some k)) o ≡ Some l → (started c H ≡ Some l) × (has_ended l H ≡ false)
      by None q e = cc
      by (Some k) q e = alive (has_ended k H) refl e
        where
          alive : (b : Bool) → has_ended k H ≡ b → cond b None (Some k) ≡ Some l → (started c H ≡ Some l) × (has_ended l H ≡ false)
          alive true w e = cc
          alive false w e = let same : k ≡ l = cc in (q ∙ ap (λ j. Some j) same, subst (λ j. has_ended j H ≡ false) same w)

  pub run_known : (c l : ℕ) → runs c H ≡ Some l → IsSome (life l H)
  run_known c l r = let s = has_started c l r in p.running.in_life c l s.0 s.1

  pub run_is : (c l : ℕ) → runs c H ≡ Some l → runner l H ≡ Some c
  run_is c l r = let s = has_started c l r in p.running.one_run c l s.0 s.1

  -- the one that a peer is run by, runs it
  pub runner_runs : (c l : ℕ) → runner l H ≡ Some c → has_ended l H ≡ false → runs c H ≡ Some l
  runner_runs c l r n = let s = p.running.its_run c l r n in rw (s, n) refl

-- ---- marks that concern no peer and no connection

module _ (H : List Mark) (p : IsProper H) where
  pub HearsBeacon-proper : (l : ℕ) → IsProper (HearsBeacon l ∷ H)
  HearsBeacon-proper l = record { living = p.living; opening = p.opening; running = p.running }

  pub Greets-proper : (c : ℕ) → IsProper (Greets c ∷ H)
  Greets-proper c = record { living = p.living; opening = p.opening; running = p.running }

  pub AnswersPing-proper : (c : ℕ) (t : List ℕ) → IsProper (AnswersPing c t ∷ H)
  AnswersPing-proper c t = record { living = p.living; opening = p.opening; running = p.running }

  pub IsEvasive-proper : (l : ℕ) → IsProper (IsEvasive l ∷ H)
  IsEvasive-proper l = record { living = p.living; opening = p.opening; running = p.running }

  pub Joins-proper : (group : List ℕ) → IsProper (Joins group ∷ H)
  Joins-proper group = record { living = p.living; opening = p.opening; running = p.running }

  pub Leaves-proper : (group : List ℕ) → IsProper (Leaves group ∷ H)
  Leaves-proper group = record { living = p.living; opening = p.opening; running = p.running }

  pub Refuses-proper : (why : RefuseWhy) → IsProper (Refuses why ∷ H)
  Refuses-proper why = record { living = p.living; opening = p.opening; running = p.running }

  pub SendsBeacon-proper : (port : ℕ) → IsProper (SendsBeacon port ∷ H)
  SendsBeacon-proper port = record { living = p.living; opening = p.opening; running = p.running }

  pub Stops-proper : IsProper (Stops ∷ H)
  Stops-proper = record { living = p.living; opening = p.opening; running = p.running }

-- ---- an entry, and what is put, stands or goes out on the link of a known peer

module _ (H : List Mark) (p : IsProper H) where
  another : (l k : ℕ) → l ≤ births H → births H < k → eqb k l ≡ false
  another l k low h = ne_eqb k l (λ e. omega arith)

  -- the lives that were there, with what is so of a link that is unused yet
  pub living_still : (Unused : ℕ → Type 0) → ((l : ℕ) → births H < l → IsUnused l H → Unused l) → AreLives (lives H) (births H) (λ l. has_ended l H) Unused
  living_still Unused f = record { numbered = p.living.numbered; apart = p.living.apart; living = p.living.living; fresh = λ l h. f l h (p.living.fresh l h) }

  -- the open connections, with what is so of a new one
  pub opening_still : (Unheard : ℕ → Type 0) → ((c : ℕ) → is_new c H ≡ true → IsUnheard c H → Unheard c) → AreOpen (open_ones H) (λ c. is_new c H) (λ c. was_opened c H) Unheard
  opening_still Unheard f = record {
    open_apart = p.opening.open_apart;
    open_old = p.opening.open_old;
    were_opened = p.opening.were_opened;
    rises = p.opening.rises;
    unheard = λ c n. f c n (p.opening.unheard c n);
  }

  pub Comes-proper : (e : Entry) → IsProper (Comes e ∷ H)
  Comes-proper e = record {
    living = living_still (λ l. IsUnused l (Comes e ∷ H)) (λ l h u. record { no_end = u.no_end; no_run = u.no_run; no_member = u.no_member; not_linked = u.not_linked; no_reply = rw (u.no_reply, u.not_linked) refl; none_taken = u.none_taken });
    opening = opening_still (λ c. IsUnheard c (Comes e ∷ H)) (λ c n u. record { not_opened = u.not_opened; not_refused = u.not_refused; not_started = u.not_started; unknown = u.unknown; no_octets = rw (u.no_octets, u.not_opened) refl });
    running = p.running;
  }

  pub Puts-proper : (l : ℕ) (b : Body) → l ≤ births H → IsProper (Puts l b ∷ H)
  Puts-proper l b low = record {
    living = living_still (λ k. IsUnused k (Puts l b ∷ H)) (λ k h u. record { no_end = u.no_end; no_run = u.no_run; no_member = rw (another l k low h) u.no_member; not_linked = u.not_linked; no_reply = u.no_reply; none_taken = u.none_taken });
    opening = p.opening;
    running = p.running;
  }

  pub PutsPong-proper : (l : ℕ) (t : List ℕ) → l ≤ births H → IsProper (PutsPong l t ∷ H)
  PutsPong-proper l t low = record {
    living = living_still (λ k. IsUnused k (PutsPong l t ∷ H)) (λ k h u. record { no_end = u.no_end; no_run = u.no_run; no_member = rw (another l k low h) u.no_member; not_linked = u.not_linked; no_reply = u.no_reply; none_taken = u.none_taken });
    opening = p.opening;
    running = p.running;
  }

  pub Links-proper : (l : ℕ) → l ≤ births H → IsProper (Links l ∷ H)
  Links-proper l low = record {
    living = living_still (λ k. IsUnused k (Links l ∷ H)) (λ k h u. record { no_end = u.no_end; no_run = u.no_run; no_member = u.no_member; not_linked = rw (another l k low h) u.not_linked; no_reply = u.no_reply; none_taken = u.none_taken });
    opening = p.opening;
    running = p.running;
  }

  pub Sends-proper : (l n : ℕ) → l ≤ births H → IsProper (Sends l n ∷ H)
  Sends-proper l n low = record {
    living = living_still (λ k. IsUnused k (Sends l n ∷ H)) (λ k h u. record { no_end = u.no_end; no_run = u.no_run; no_member = u.no_member; not_linked = u.not_linked; no_reply = u.no_reply; none_taken = rw (another l k low h) u.none_taken });
    opening = p.opening;
    running = p.running;
  }
