-- What holds of the chronicle of every journal: links are numbered by births, no life ends twice, and a peer is run
-- by one connection, its own.
use Rattle.std.specs.Prelude.{◌≡◌, ℕ, ◌<◌, ◌≤◌, Bool, true, false, List, [], ◌∷◌, Option, Some, None, IsSome, nat_eq}
use Rattle.std.specs.List.{AllByRecursion, list_any, find}
use Rattle.zre_values.specs.declared.peer_id.PeerId.{PeerId}
use Rattle.zre_link.specs.Text.{Member}
use Rattle.zre_msg.specs.declared.message.Message.{Message}
use Rattle.zre_journal.specs.Chronicle.{Mark, ever}
use Rattle.zre_journal.specs.Heard.{was_opened, bytes}
use Rattle.zre_journal.specs.Connections.{started, has_ended, open_ones, is_new, refuses, identity}
use Rattle.zre_journal.specs.Links.{line, is_linked, replies, taken}
use Rattle.zre_journal.specs.Peers.{Life, lives, births, runner, counted}

-- no two of these have one number
abbrev pub Apart : {A : Type 0} → (A → ℕ) → List A → Type 0
Apart key [] = Unit {0}
Apart key (x ∷ xs) = AllByRecursion (λ y. nat_eq (key x) (key y) ≡ false) xs × Apart key xs

-- nothing has come about on a link
pub record AreUnused (ended : Bool) (run : Option ℕ) (put : List Member) (linked : Bool) (replied : List ℕ) (gone : ℕ)
    : Type 0 where
  pub no_end : ended ≡ false
  pub no_run : run ≡ None
  pub no_member : put ≡ []
  pub not_linked : linked ≡ false
  pub no_reply : replied ≡ []
  pub none_taken : gone ≡ 0

abbrev pub IsUnused : ℕ → List Mark → Type 0
IsUnused l H = AreUnused (has_ended l H) (runner l H) (line l H) (is_linked l H) (replies l H) (taken l H)

-- nothing has come about on a connection
pub record AreUnheard (opened refused : Bool) (start : Option ℕ) (who : Option PeerId) (octets : List ℕ) : Type 0 where
  pub not_opened : opened ≡ false
  pub not_refused : refused ≡ false
  pub not_started : start ≡ None
  pub unknown : who ≡ None
  pub no_octets : octets ≡ []

abbrev pub IsUnheard : ℕ → List Mark → Type 0
IsUnheard c H = AreUnheard (was_opened c H) (ever (refuses c) H) (started c H) (identity c H) (bytes c H)

-- lives: each has its own number, which is that of its birth, and hasn't ended; no greater number was used
pub record AreLives (vs : List Life) (n : ℕ) (ended : ℕ → Bool) (Unused : ℕ → Type 0) : Type 0 where
  pub numbered : AllByRecursion (λ (v : Life). v.link ≤ n) vs
  pub apart : Apart (λ (v : Life). v.link) vs
  pub living : AllByRecursion (λ (v : Life). ended v.link ≡ false) vs
  pub fresh : (l : ℕ) → n < l → Unused l

-- connections: each has its own number, below every new one, and nothing was heard of a new one
pub record AreOpen (cs : List ℕ) (is_newer : ℕ → Bool) (opened : ℕ → Bool) (Unheard : ℕ → Type 0) : Type 0 where
  pub open_apart : Apart (λ (c : ℕ). c) cs
  pub open_old : (c : ℕ) → is_newer c ≡ true → AllByRecursion (λ d. d < c) cs
  pub were_opened : AllByRecursion (λ c. opened c ≡ true) cs
  pub rises : (c d : ℕ) → is_newer c ≡ true → c ≤ d → is_newer d ≡ true
  pub unheard : (c : ℕ) → is_newer c ≡ true → Unheard c

-- runs: a connection runs the peer that it started, an open one with the identity of that peer, and is the only one
-- of that identity
pub record AreRuns (vs : List Life) (cs : List ℕ) (ended : ℕ → Bool) (run start : ℕ → Option ℕ)
    (who : ℕ → Option PeerId) (messages : ℕ → List Message) : Type 0 where
  pub one_run : (c l : ℕ) → start c ≡ Some l → ended l ≡ false → run l ≡ Some c
  pub in_life : (c l : ℕ) → start c ≡ Some l → ended l ≡ false → IsSome (find (λ (v : Life). nat_eq l v.link) vs)
  pub its_run : (c l : ℕ) → run l ≡ Some c → ended l ≡ false → start c ≡ Some l
  pub is_introduced : (c l : ℕ) → start c ≡ Some l → IsSome (who c)
  pub is_silent : (l : ℕ) → run l ≡ None → messages l ≡ []
  pub is_its_own : (c l : ℕ) (v : Life) → run l ≡ Some c → ended l ≡ false
      → find (λ (u : Life). nat_eq l u.link) vs ≡ Some v → who c ≡ Some v.id
  pub is_heard : (c l : ℕ) → run l ≡ Some c → ended l ≡ false → list_any (nat_eq c) cs ≡ true
  pub is_sole : (c d : ℕ) (p : PeerId) → list_any (nat_eq c) cs ≡ true → list_any (nat_eq d) cs ≡ true
      → who c ≡ Some p → who d ≡ Some p → c ≡ d

pub record IsProper (H : List Mark) : Type 0 where
  pub living : AreLives (lives H) (births H) (λ l. has_ended l H) (λ l. IsUnused l H)
  pub opening : AreOpen (open_ones H) (λ c. is_new c H) (λ c. was_opened c H) (λ c. IsUnheard c H)
  pub running : AreRuns (lives H) (open_ones H) (λ l. has_ended l H) (λ l. runner l H) (λ c. started c H)
      (λ c. identity c H) (λ l. counted l H)
