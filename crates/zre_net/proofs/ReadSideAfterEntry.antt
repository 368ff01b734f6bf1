-- The read side of a connection, after an entry of its node.
use Rattle.std.proofs.Common.{◌≡◌, ℕ, ◌≤◌, Bool, true, false, cond, List, [], ◌∷◌, ◌++◌, length, drop, refl, sym, ap, ◌∙◌, arith, append-nil, eq-eqb}
use Rattle.zre_outside.specs.declared.entry.Entry.{Entry}
use Rattle.zre_outside.specs.declared.entry.Input.{Input}
use Rattle.zre_outside.specs.declared.entry.Input.TheVariants as input
use Rattle.zre_mailbox.specs.Conn.{conn_after}
use Rattle.zre_mailbox.specs.Talk.{talk, completed}
use Rattle.zre_values.specs.declared.settings.Settings.{Settings as Config}
use Rattle.zre_journal.specs.Chronicle.{Mark, Comes}
use Rattle.zre_journal.specs.Events.{chronicle}
use Rattle.zre_journal.specs.Happens.{with_entry}
use Rattle.zre_journal.specs.Heard.{bytes, was_opened, piece_of, newly_completed}
use Rattle.zre_net.specs.declared.running.read_side.ReadSide.{ReadSide}
use Rattle.zre_net.specs.Running.{IsSilent}
use Rattle.zre_net.specs.Rows.{Fits}
use Rattle.zre_net.specs.Sender.{is_slight}
use Rattle.zre_net.proofs.OpenedAfterEntry.{bytes_now, bytes_same, still_old, opened_now, new_old}

module _ (g : Config) (J : List Entry) (e : Entry) where
  abbrev K : List Mark
  K = chronicle g J

  abbrev N : List Mark
  N = with_entry g e K

  -- an entry that brings it no octets
  pub fits_still : (x : ℕ) (read_side : ReadSide) → piece_of x e.input ≡ [] → Fits g x K read_side → Fits g x N read_side
  fits_still x read_side p f = record {
    heard = λ o. f.heard (sym (opened_now g J e x f.old) ∙ o) ∙ ap (λ b. conn_after g.id b) (sym (bytes_same g J e x p));
    old = still_old g J e x f.old;
  }

  -- one that does
  pub fits_piece : (x : ℕ) (o : List ℕ) (read_side now : ReadSide) → e.input ≡ input.Piece x o → ((b : List ℕ) → read_side.conn ≡ conn_after g.id b → now.conn ≡ conn_after g.id (b ++ o)) → Fits g x K read_side → Fits g x N now
  fits_piece x o read_side now i h f = record {
    heard = λ z. let was = sym (opened_now g J e x f.old) ∙ z in h (bytes x K) (f.heard was) ∙ ap (λ b. conn_after g.id b) (sym (bytes_now g J e x ∙ ap (λ b. bytes x K ++ cond b (piece_of x e.input) []) was ∙ ap (λ b. bytes x K ++ b) (ap (piece_of x) i ∙ its_own)));
    old = still_old g J e x f.old;
  }
    where
      its_own : piece_of x (input.Piece x o) ≡ o
      its_own = ap (λ b. cond b o []) (eq-eqb x x refl)

  -- and one with which it opens
  pub fits_new : (x : ℕ) (read_side : ReadSide) → e.input ≡ input.Opened x → bytes x K ≡ [] → read_side.conn ≡ conn_after g.id [] → Fits g x N read_side
  fits_new x read_side i b c = record { heard = λ z. c ∙ ap (λ o. conn_after g.id o) (sym (bytes_same g J e x (ap (piece_of x) i) ∙ b)); old = new_old g J e x i }

-- what a piece completes on a connection whose read_side fits
pub completes_few : (g : Config) (x : ℕ) (K : List Mark) (e : Entry) (o : List ℕ) (read_side : ReadSide) → e.input ≡ input.Piece x o → Fits g x K read_side
    → ((b : List ℕ) → read_side.conn ≡ conn_after g.id b → length (completed g.id b o) ≤ 1) → length (newly_completed g.id x K (Comes e ∷ K)) ≤ 1
completes_few g x K e o read_side i f h = by (was_opened x K) refl
  where
    its_own : piece_of x e.input ≡ o
    its_own = ap (piece_of x) i ∙ ap (λ b. cond b o []) (eq-eqb x x refl)

    dropped : {A : Type 0} (xs : List A) → drop (length xs) xs ≡ []
    dropped [] = refl
    dropped (y ∷ xs) = dropped xs

    by : (b : Bool) → was_opened x K ≡ b → length (drop (length (talk g.id (bytes x K))) (talk g.id (bytes x K ++ cond (was_opened x K) (piece_of x e.input) []))) ≤ 1
    by true z = rw (sym (ap (λ b. length (drop (length (talk g.id (bytes x K))) (talk g.id (bytes x K ++ cond b (piece_of x e.input) [])))) z ∙ ap (λ p. length (completed g.id (bytes x K) p)) its_own)) at (h (bytes x K) (f.heard z))
    by false z = let d = ap (λ b. length (drop (length (talk g.id (bytes x K))) (talk g.id (bytes x K ++ cond b (piece_of x e.input) [])))) z ∙ ap (λ p. length (drop (length (talk g.id (bytes x K))) (talk g.id p))) (append-nil (bytes x K)) ∙ ap (λ xs. length xs) (dropped (talk g.id (bytes x K))) in omega (arith, d)

-- entries that are no pieces bring no octets
pub no_piece : (x : ℕ) (i : Input) → IsSilent i → piece_of x i ≡ []
no_piece x (input.Piece c o) s = absurd s
no_piece x (input.Opened c) s = absurd s
no_piece x _ s = refl

pub is_slight_too : (g : Config) (i : Input) (H K : List Mark) → IsSilent i → is_slight g i H K
is_slight_too g (input.Piece c o) H K s = absurd s
is_slight_too g (input.Opened c) H K s = absurd s
is_slight_too g _ H K s = tt
