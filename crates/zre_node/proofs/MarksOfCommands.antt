-- Commands: which marks they leave, and the node's own groups.
use Rattle.std.proofs.Common.{◌≡◌, ℕ, ◌+◌, ◌%◌, ◌<◌, ◌≤◌, Bool, true, false, IsTrue, ◌||◌, ltb, leb, filter, List, [], ◌∷◌, length, Option, Some, None, is_some, nat_cmp, refl, sym, ap, ◌∙◌, subst, arith, lt-ltb, le-ltb}
use Rattle.std.specs.List.{AllByRecursion}
use Rattle.std.specs.BTreeMap.{is_at}
use Rattle.std.specs.Map.{lookup}
use Rattle.std.specs.Str.{bytes_eq}
use Rattle.std.proofs.lemmas.Bool.{le-leb, lt-leb}
use Rattle.std.proofs.lemmas.Slice.Eq.{bytes_eq-Decides}
use Rattle.zre_values.specs.declared.limits.TheConstants.{OWN_GROUPS}
use Rattle.zre_values.specs.declared.peer_id.PeerId.{PeerId}
use Rattle.zre_group.specs.Own.{OwnGroups, is_joined, next_status, with_joined, with_left}
use Rattle.zre_msg.specs.declared.message.Body.{Body}
use Rattle.zre_msg.specs.declared.message.Body.TheVariants as body
use Rattle.zre_outside.specs.declared.entry.Command.{Command}
use Rattle.zre_outside.specs.declared.entry.Entry.{Entry}
use Rattle.zre_outside.specs.declared.entry.Input.TheVariants as input
use Rattle.zre_peer.specs.declared.causes.RefuseWhy.{RefuseWhy}
use Rattle.zre_peer.specs.declared.causes.RefuseWhy.TheVariants as refuse
use Rattle.zre_values.specs.declared.settings.Settings.{Settings as Config}
use Rattle.zre_journal.specs.Chronicle.{Mark, Joins, Leaves, Refuses}
use Rattle.zre_journal.specs.Done.{names}
use Rattle.zre_journal.specs.Peers.{Life, lives, life, life_of, runner, counted, is_entered}
use Rattle.zre_journal.specs.Links.{groups, status}
use Rattle.zre_journal.specs.Commands.{has_group, is_member, is_too_big, at_join, at_leave, at_whisper, at_shout}
use Rattle.zre_journal.specs.Pushes.{push, push_all}
use Rattle.zre_journal.proofs.ProperAfterMarks.{Joins-proper, Leaves-proper, Refuses-proper}
use Rattle.zre_journal.proofs.NumberedLists.{All-append, All-without}
use Rattle.zre_tables.specs.declared.peer.Peer.{Peer}
use Rattle.zre_node.specs.declared.tables.Tables.{Tables}
use Rattle.zre_node.specs.declared.effects.Effects.{Effects}
use Rattle.zre_tables.specs.Searches.{link_among}
use Rattle.zre_node.specs.Stands.{Holds, Did, IsPeer, is_quiet}
use Rattle.zre_node.proofs.BodyOnSeveralLinks.{pushed_after}
use Rattle.zre_node.proofs.MarksOfDatagrams.{link_found, its_life, no_life}
use Rattle.zre_node.proofs.MarksAfterMarks.{did_as, did_then, silent_did}
use Rattle.zre_node.proofs.ConnectionsComeAndGo.{with_conns}
use Rattle.zre_node.proofs.RowsOfKnownPeers.{its_row, no_row}
use Rattle.zre_node.proofs.FirstMessages.{its_own_life}
use Rattle.zre_node.proofs.TicksOfTables.{enters}
use Rattle.zre_node.proofs.UnchangedByMarks.{keeps_as}

-- ---- a refusal

pub refused : (g : Config) (K : List Mark) (t : Tables) → Holds g K t → (why : RefuseWhy) → Holds g (Refuses why ∷ K) t
refused g K t h why = with_conns g K (Refuses why ∷ K) t t.last t.conns h (Refuses-proper K h.keeps.proper why) refl refl refl h.peers refl refl refl h.keeps.last_is h.keeps.conns

-- ---- the node's own groups

module _ (g : Config) (K : List Mark) (t : Tables) (h : Holds g K t) (group : List ℕ) where
  pub joined : (o : OwnGroups) → o ≡ with_joined t.own group → length group ≤ 255 → Holds g (Joins group ∷ K) (record t { own = o })
  joined o is short = record {
    keeps = keeps_as g K _ _ _ h.keeps (Joins-proper K h.keeps.proper group) refl (refl, refl, refl) h.keeps.clock_is h.keeps.births_is h.keeps.last_is (All-append (λ x. length x ≤ 255) (groups K) group h.keeps.groups_fit short) (is ∙ ap (λ (w : OwnGroups). with_joined w group) h.keeps.own) h.keeps.conns;
    peers = h.peers;
  }

  pub left : (o : OwnGroups) → o ≡ with_left t.own group → Holds g (Leaves group ∷ K) (record t { own = o })
  left o is = record {
    keeps = keeps_as g K _ _ _ h.keeps (Leaves-proper K h.keeps.proper group) refl (refl, refl, refl) h.keeps.clock_is h.keeps.births_is h.keeps.last_is (All-without (λ x. length x ≤ 255) group (groups K) h.keeps.groups_fit) (is ∙ ap (λ (w : OwnGroups). with_left w group) h.keeps.own) h.keeps.conns;
    peers = h.peers;
  }

-- a test that can't be passed
unpassed : (b : Bool) → (IsTrue b → ⊥) → b ≡ false
unpassed true n = absurd (n refl)
unpassed false n = refl

passed : (b : Bool) → (b ≡ false → ⊥) → b ≡ true
passed true n = refl
passed false n = absurd (n refl)

-- what the node's own groups said of a group that was joined, or left
module _ (g : Config) (K : List Mark) (t : Tables) (h : Holds g K t) (group o : List ℕ) (is : o ≡ group) where
  pub same_test : is_joined t.own o ≡ has_group group (groups K)
  same_test = ap (λ (w : OwnGroups). is_joined w o) h.keeps.own ∙ ap (λ (x : List ℕ). has_group x (groups K)) is

  pub next_is : next_status t.own ≡ (status K + 1) % 256
  next_is = ap next_status h.keeps.own

  -- it was none of them, and there was room
  pub had_room : (IsTrue (is_joined t.own o) → ⊥) → (is_joined t.own o ≡ false → length t.own.groups ≡ OWN_GROUPS → ⊥) → length t.own.groups ≤ OWN_GROUPS → (has_group group (groups K) ≡ false) × (length (groups K) < OWN_GROUPS)
  had_room other free within =
      let new = unpassed (is_joined t.own o) other in
      let count : length t.own.groups ≡ length (groups K) = ap (λ (w : OwnGroups). length w.groups) h.keeps.own in
      (sym same_test ∙ new, subst (λ (n : ℕ). n < OWN_GROUPS) count (below (length t.own.groups) within (free new)))
    where
      below : (n : ℕ) → n ≤ OWN_GROUPS → (n ≡ OWN_GROUPS → ⊥) → n < OWN_GROUPS
      below n low other_ = omega (arith, low, other_)

  -- it was one of them
  pub had_group : (is_joined t.own o ≡ false → ⊥) → has_group group (groups K) ≡ true
  had_group other = sym same_test ∙ passed (is_joined t.own o) other

-- no group with a long name is joined
pub not_joined : (group : List ℕ) (gs : List (List ℕ)) → 255 < length group → AllByRecursion (λ x. length x ≤ 255) gs → has_group group gs ≡ false
not_joined group [] long a = refl
not_joined group (x ∷ xs) long a = by (not_joined group xs long a.1) (bytes_eq x group) refl
  where
    by : has_group group xs ≡ false → (b : Bool) → bytes_eq x group ≡ b → (b || has_group group xs) ≡ false
    by r true e = let same : x ≡ group = (bytes_eq-Decides x group).0 e in let short : length x ≤ 255 = a.0 in absurd (omega (arith, ap (λ (o : List ℕ). length o) same))
    by r false e = r

-- a join or a leave, and the pushes after it
pub told_all : (g : Config) (K : List Mark) (h : Mark) (b : Body) (m n : Tables) (a s : Effects) → Did g (h ∷ []) K m a a → lives (h ∷ K) ≡ lives K → push_all g (lives K) b (h ∷ K) ≡ push_all g (lives K) b K
    → Did g (push_all g (lives (h ∷ K)) b (h ∷ K)) (h ∷ K) n a s → Did g (h ∷ push_all g (lives K) b K) K n a s
told_all g K h b m n a s first same pushes second =
    did_then g (h ∷ []) (push_all g (lives K) b K) K m n a a s first
    (did_as g _ _ (h ∷ K) n a s (sym (ap (λ (vs : List Life). push_all g vs b (h ∷ K)) same ∙ pushes)) second)

pub joins_tell : (g : Config) (K : List Mark) (group : List ℕ) (b : Body) (m n : Tables) (a s : Effects) → Holds g (Joins group ∷ K) m → Did g (push_all g (lives (Joins group ∷ K)) b (Joins group ∷ K)) (Joins group ∷ K) n a s → Did g (Joins group ∷ push_all g (lives K) b K) K n a s
joins_tell g K group b m n a s held second =
    told_all g K (Joins group) b m n a s (silent_did g (Joins group) K m a held refl refl (λ l. refl)) refl (pushed_after g (lives K) b (Joins group) K (λ l. (refl, refl))) second

pub leaves_tell : (g : Config) (K : List Mark) (group : List ℕ) (b : Body) (m n : Tables) (a s : Effects) → Holds g (Leaves group ∷ K) m → Did g (push_all g (lives (Leaves group ∷ K)) b (Leaves group ∷ K)) (Leaves group ∷ K) n a s → Did g (Leaves group ∷ push_all g (lives K) b K) K n a s
leaves_tell g K group b m n a s held second =
    told_all g K (Leaves group) b m n a s (silent_did g (Leaves group) K m a held refl refl (λ l. refl)) refl (pushed_after g (lives K) b (Leaves group) K (λ l. (refl, refl))) second

-- ---- the known peer with an id, by its row

module _ (g : Config) (K : List Mark) (t : Tables) (h : Holds g K t) (p : PeerId) where
  pub unknown : None ≡ link_among p t.peers → (v : Life) → life_of p K ≡ Some v → is_entered K v ≡ false
  unknown n v e = let z : None ≡ Some v = sym (no_life (life_of p K) (n ∙ link_found g K t p h)) ∙ e in absurd cc

  module _ (l : ℕ) (found : Some l ≡ link_among p t.peers) where
    its : (v : Life) × (life_of p K ≡ Some v) × (v.link ≡ l)
    its = its_life (life_of p K) l (found ∙ link_found g K t p h)

    here : life l K ≡ Some its.0
    here = ap (λ (j : ℕ). life j K) (sym its.2) ∙ (its_own_life K h.keeps.proper p its.0 its.1).0

    -- a known peer has a row
    pub has_row : {C : Type 0} → None ≡ lookup (is_at (nat_cmp l)) t.peers → C
    has_row n = let z : None ≡ Some its.0 = sym (no_row (IsPeer g K) K t.peers h.peers l n) ∙ here in absurd cc

    pub entered_by : (k : Peer) → Some k ≡ lookup (is_at (nat_cmp l)) t.peers → (v : Life) × (life_of p K ≡ Some v) × (is_entered K v ≡ is_some k.run) × (v.link ≡ l)
    entered_by k was =
        let r = its_row (IsPeer g K) K t.peers h.peers l k was in
        let same : r.0 ≡ its.0 = (let z : Some r.0 ≡ Some its.0 = sym r.1 ∙ here in cc) in
        let row : IsPeer g K its.0 k = subst (λ u. IsPeer g K u k) same r.2 in
        (its.0, its.1, sym (enters (runner its.0.link K) its.0.id (counted its.0.link K) k.run row.run_is), its.2)

    pub not_entered : (k : Peer) → Some k ≡ lookup (is_at (nat_cmp l)) t.peers → is_some k.run ≡ false → (v : Life) → life_of p K ≡ Some v → is_entered K v ≡ false
    not_entered k was none v e =
        let r = entered_by k was in
        let same : r.0 ≡ v = (let z : Some r.0 ≡ Some v = sym r.1 ∙ e in cc) in
        subst (λ u. is_entered K u ≡ false) same (r.2 ∙ none)

-- ---- which marks a command leaves, by what the code tests

module _ (g : Config) (K : List Mark) (group : List ℕ) where
  pub too_long : 255 < length group → at_join g group K ≡ Refuses refuse.TooBig ∷ []
  too_long long = let e : ltb 255 (length group) ≡ true = lt-ltb 255 (length group) long in rw e refl

  pub same_group : length group ≤ 255 → has_group group (groups K) ≡ true → at_join g group K ≡ Refuses (refuse.Same group) ∷ []
  same_group short has = let e : ltb 255 (length group) ≡ false = le-ltb 255 (length group) short in rw (e, has) refl

  pub too_many : length group ≤ 255 → has_group group (groups K) ≡ false → OWN_GROUPS ≤ length (groups K) → at_join g group K ≡ Refuses (refuse.Limit group) ∷ []
  too_many short has full = let e : ltb 255 (length group) ≡ false = le-ltb 255 (length group) short in let f : leb OWN_GROUPS (length (groups K)) ≡ true = le-leb OWN_GROUPS (length (groups K)) full in rw (e, has, f) refl

  pub joins : length group ≤ 255 → has_group group (groups K) ≡ false → length (groups K) < OWN_GROUPS → at_join g group K ≡ Joins group ∷ push_all g (lives K) (body.Join group ((status K + 1) % 256)) K
  joins short has room = let e : ltb 255 (length group) ≡ false = le-ltb 255 (length group) short in let f : leb OWN_GROUPS (length (groups K)) ≡ false = lt-leb OWN_GROUPS (length (groups K)) room in rw (e, has, f) refl

  pub no_group : has_group group (groups K) ≡ false → at_leave g group K ≡ Refuses (refuse.NoGroup group) ∷ []
  no_group has = rw has refl

  pub leaves : has_group group (groups K) ≡ true → at_leave g group K ≡ Leaves group ∷ push_all g (lives K) (body.Leave group ((status K + 1) % 256)) K
  leaves has = rw has refl

module _ (g : Config) (K : List Mark) (p : PeerId) (content : List (List ℕ)) where
  pub no_peer : (o : Option Life) → ((v : Life) → o ≡ Some v → is_entered K v ≡ false) → at_whisper g p content o K ≡ Refuses (refuse.NoPeer p) ∷ []
  no_peer None n = refl
  no_peer (Some v) n = rw (n v refl) refl

  pub whisper_is_big : (o : Option Life) (v : Life) → o ≡ Some v → is_entered K v ≡ true → is_too_big g (body.Whisper content) ≡ true → at_whisper g p content o K ≡ Refuses refuse.TooBig ∷ []
  whisper_is_big o v e there big = rw (e, there, big) refl

  pub whispers : (o : Option Life) (v : Life) → o ≡ Some v → is_entered K v ≡ true → is_too_big g (body.Whisper content) ≡ false → at_whisper g p content o K ≡ push g v.link (body.Whisper content) K
  whispers o v e there big = rw (e, there, big) refl

module _ (g : Config) (K : List Mark) (group : List ℕ) (content : List (List ℕ)) where
  pub shout_too_long : 255 < length group → at_shout g group content K ≡ Refuses refuse.TooBig ∷ []
  shout_too_long long = let e : ltb 255 (length group) ≡ true = lt-ltb 255 (length group) long in rw e refl

  pub shout_is_big : length group ≤ 255 → is_too_big g (body.Shout group content) ≡ true → at_shout g group content K ≡ Refuses refuse.TooBig ∷ []
  shout_is_big short big = let e : ltb 255 (length group) ≡ false = le-ltb 255 (length group) short in rw (e, big) refl

  pub shouts : length group ≤ 255 → is_too_big g (body.Shout group content) ≡ false → at_shout g group content K ≡ push_all g (filter (is_member g group K) (lives K)) (body.Shout group content) K
  shouts short big = let e : ltb 255 (length group) ≡ false = le-ltb 255 (length group) short in rw (e, big) refl

-- an entry with a command names no link, and brings no octets
pub command_quiet : (e : Entry) (c : Command) → e.input ≡ input.Do c → ((l : ℕ) → names l e.input ≡ false) × (is_quiet e.input ≡ true)
command_quiet e c is = (λ l. rw is refl, rw is refl)
