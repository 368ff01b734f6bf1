-- What an entry puts on links that asks for a message to be said: on each link that message, or none.
use Rattle.std.proofs.Common.{◌≡◌, ℕ, ◌+◌, Bool, true, false, cond, not, ◌||◌, eqb, ltb, List, [], ◌∷◌, ◌++◌, length, filter, map, Option, Some, None, IsSome, is_some, refl, sym, ap, ◌∙◌, subst, true≢false, eqb-true, eq-eqb}
use Rattle.std.specs.Prelude.{option_to_list}
use Rattle.std.specs.List.{AllByRecursion, list_any}
use Rattle.zre_values.specs.declared.peer_id.PeerId.{PeerId}
use Rattle.zre_values.specs.declared.limits.TheConstants.{UNSENT_OCTETS, GROUP_OCTETS}
use Rattle.zre_outside.specs.declared.entry.Command.TheVariants as command
use Rattle.zre_outside.specs.declared.entry.Entry.{Entry}
use Rattle.zre_outside.specs.declared.entry.Input.{Input}
use Rattle.zre_outside.specs.declared.entry.Input.TheVariants as input
use Rattle.zre_msg.specs.declared.message.Body.{Body}
use Rattle.zre_msg.specs.declared.message.Body.TheVariants as body
use Rattle.zre_peer.specs.declared.causes.Cause.TheVariants as cause
use Rattle.zre_peer.specs.declared.causes.RefuseWhy.{RefuseWhy}
use Rattle.zre_peer.specs.declared.causes.RefuseWhy.TheVariants as refuse
use Rattle.zre_link.specs.Text.{size_of}
use Rattle.zre_values.specs.declared.settings.Settings.{Settings as Config}
use Rattle.zre_journal.specs.Chronicle.{Mark, Comes, Ends, Puts, Refuses, after}
use Rattle.zre_journal.specs.Commands.{is_too_big, at_whisper, is_member, at_shout}
use Rattle.zre_journal.specs.Happens.{at_input, has_stopped, with_entry}
use Rattle.zre_journal.specs.Links.{bodies, line, unsent}
use Rattle.zre_journal.specs.Peers.{Life, lives, life, life_of, is_entered}
use Rattle.zre_journal.specs.Proper.{IsProper, Apart}
use Rattle.zre_journal.specs.Pushes.{push, push_all}
use Rattle.zre_journal.proofs.JoinedEntries.{after-append}
use Rattle.zre_journal.proofs.KnownPeers.{life_stays, known_of, AreKnown, each_known, still_known}
use Rattle.zre_journal.proofs.NumberedLists.{All-kept, Apart-kept, eqb-comm, some_is, any_found}
use Rattle.zre_journal.proofs.ProperPeers.{Comes-proper}
use Rattle.zre_audit.specs.Kept.{reached}
use Rattle.zre_audit.specs.Seen.{asked_by, whispered_by}
use Rattle.zre_audit.proofs.SilentMarks.{BearsNone, Leaves, leaves_all, put_bodies}

-- ---- what is put on one link

pub data PutOn (b : Body) (l : ℕ) (H K : List Mark) : Type 0 where
  Nothing : bodies l K ≡ bodies l H → PutOn b l H K
  Once : bodies l K ≡ bodies l H ++ b ∷ [] → IsSome (life l H) → IsSome (life l K) → PutOn b l H K

-- marks that leave link l as it is
record IsFar (l : ℕ) (H K : List Mark) : Type 0 where
  same_bodies : bodies l K ≡ bodies l H
  same_life : life l K ≡ life l H

far_itself : (l : ℕ) (H : List Mark) → IsFar l H H
far_itself l H = record { same_bodies = refl; same_life = refl }

far_then : (l : ℕ) (H K L : List Mark) → IsFar l H K → IsFar l K L → IsFar l H L
far_then l H K L a b = record { same_bodies = b.same_bodies ∙ a.same_bodies; same_life = b.same_life ∙ a.same_life }

then_far : (b : Body) (l : ℕ) (H K L : List Mark) → PutOn b l H K → IsFar l K L → PutOn b l H L
then_far b l H K L (Nothing e) f = Nothing (f.same_bodies ∙ e)
then_far b l H K L (Once e s t) f = Once (f.same_bodies ∙ e) s (subst IsSome (sym f.same_life) t)

far_put : (b : Body) (l : ℕ) (H K L : List Mark) → IsFar l H K → PutOn b l K L → PutOn b l H L
far_put b l H K L f (Nothing e) = Nothing (e ∙ f.same_bodies)
far_put b l H K L f (Once e s t) = Once (e ∙ ap (λ bs. bs ++ b ∷ []) f.same_bodies) (subst IsSome f.same_life s) t

abbrev AllFar : ℕ → List Life → Type 0
AllFar l vs = AllByRecursion (λ (v : Life). eqb l v.link ≡ false) vs

module _ (g : Config) (b : Body) where
  push_far : (l k : ℕ) (K : List Mark) → eqb l k ≡ false → IsFar l K (after (push g k b K) K)
  push_far l k K n = by (ltb UNSENT_OCTETS (unsent g k K + size_of (line k K) b))
    where
      by : (t : Bool) → IsFar l K (after (cond t (Ends k (cause.Slow (unsent g k K) (size_of (line k K) b)) ∷ []) (Puts k b ∷ [])) K)
      by true = record { same_bodies = refl; same_life = life_stays K k l (cause.Slow (unsent g k K) (size_of (line k K) b)) (eqb-comm k l ∙ n) }
      by false = record { same_bodies = put_bodies l k b K false n; same_life = refl }

  push_here : (l : ℕ) (K : List Mark) → IsSome (life l K) → PutOn b l K (after (push g l b K) K)
  push_here l K s = by (ltb UNSENT_OCTETS (unsent g l K + size_of (line l K) b))
    where
      by : (t : Bool) → PutOn b l K (after (cond t (Ends l (cause.Slow (unsent g l K) (size_of (line l K) b)) ∷ []) (Puts l b ∷ [])) K)
      by true = Nothing refl
      by false = Once (put_bodies l l b K true (eq-eqb l l refl)) s s

  pushes_far : (l : ℕ) (vs : List Life) (K : List Mark) → AllFar l vs → IsFar l K (after (push_all g vs b K) K)
  pushes_far l [] K n = far_itself l K
  pushes_far l (v ∷ vs) K n =
      let p = push g v.link b K in
      subst (IsFar l K) (sym (after-append p (push_all g vs b (after p K)) K))
      (far_then l K (after p K) (after (push_all g vs b (after p K)) (after p K)) (push_far l v.link K n.0) (pushes_far l vs (after p K) n.1))

  known_after : (l : ℕ) (vs : List Life) (K : List Mark) → AllFar l vs → AreKnown K vs → AreKnown (after (push g l b K) K) vs
  known_after l vs K n k = by (ltb UNSENT_OCTETS (unsent g l K + size_of (line l K) b))
    where
      by : (t : Bool) → AreKnown (after (cond t (Ends l (cause.Slow (unsent g l K) (size_of (line l K) b)) ∷ []) (Puts l b ∷ [])) K) vs
      by true = still_known K l (cause.Slow (unsent g l K) (size_of (line l K) b)) vs n k
      by false = k

  pushes_put : (l : ℕ) (vs : List Life) (K : List Mark) → Apart (λ (v : Life). v.link) vs → AreKnown K vs → PutOn b l K (after (push_all g vs b K) K)
  pushes_put l [] K a k = Nothing refl
  pushes_put l (v ∷ vs) K a k = subst (PutOn b l K) (sym (after-append p (push_all g vs b (after p K)) K)) (by (pushes_put l vs (after p K) a.1 (known_after v.link vs K a.0 k.1)) (eqb l v.link) refl)
    where
      p : List Mark
      p = push g v.link b K

      by : PutOn b l (after p K) (after (push_all g vs b (after p K)) (after p K)) → (t : Bool) → eqb l v.link ≡ t → PutOn b l K (after (push_all g vs b (after p K)) (after p K))
      by r true e =
          let here : l ≡ v.link = eqb-true l v.link e in
          let others : AllFar l vs = subst (λ n. AllFar n vs) (sym here) a.0 in
          let one : PutOn b l K (after p K) = subst (λ n. PutOn b n K (after p K)) (sym here) (push_here v.link K k.0) in
          then_far b l K (after p K) (after (push_all g vs b (after p K)) (after p K)) one (pushes_far l vs (after p K) others)
      by r false e = far_put b l K (after p K) (after (push_all g vs b (after p K)) (after p K)) (push_far l v.link K e) r

  -- nobody is born
  push_bears : (k : ℕ) (K : List Mark) → AllByRecursion BearsNone (push g k b K)
  push_bears k K = by (ltb UNSENT_OCTETS (unsent g k K + size_of (line k K) b))
    where
      by : (t : Bool) → AllByRecursion BearsNone (cond t (Ends k (cause.Slow (unsent g k K) (size_of (line k K) b)) ∷ []) (Puts k b ∷ []))
      by true = (tt, tt)
      by false = (tt, tt)

  pushes_bear : (vs : List Life) (K : List Mark) → AllByRecursion BearsNone (push_all g vs b K)
  pushes_bear [] K = tt
  pushes_bear (v ∷ vs) K = joined (push g v.link b K) (push_all g vs b (after (push g v.link b K) K)) (push_bears v.link K) (pushes_bear vs (after (push g v.link b K) K))
    where
      joined : (hs ks : List Mark) → AllByRecursion BearsNone hs → AllByRecursion BearsNone ks → AllByRecursion BearsNone (hs ++ ks)
      joined [] ks x y = y
      joined (h ∷ hs) ks x y = (x.0, joined hs ks x.1 y)

-- ---- an entry

pub record Says (b : Body) (H K : List Mark) : Type 0 where
  pub leaves : Leaves H K
  pub puts : (l : ℕ) → PutOn b l H K

module _ (g : Config) (M : List Mark) (q : IsProper M) where
  refused : (b : Body) (why : RefuseWhy) → Says b M (Refuses why ∷ M)
  refused b why = record { leaves = record { same_births = refl; same_peers = λ l. refl }; puts = λ l. Nothing refl }

  pick : (b : Body) (t : Bool) (hs ks : List Mark) → Says b M (after hs M) → Says b M (after ks M) → Says b M (after (cond t hs ks) M)
  pick b true hs ks x y = x
  pick b false hs ks x y = y

  pushed : (b : Body) (l : ℕ) → IsSome (life l M) → Says b M (after (push g l b M) M)
  pushed b l s = record { leaves = leaves_all (push g l b M) M (push_bears g b l M); puts = λ k. by k (eqb k l) refl }
    where
      by : (k : ℕ) (t : Bool) → eqb k l ≡ t → PutOn b k M (after (push g l b M) M)
      by k true e = let here : k ≡ l = eqb-true k l e in subst (λ n. PutOn b n M (after (push g l b M) M)) (sym here) (push_here g b l M s)
      by k false e = Nothing ((push_far g b k l M e).same_bodies)

  whisper_says : (p : PeerId) (content : List (List ℕ)) → Says (body.Whisper content) M (after (at_whisper g p content (life_of p M) M) M)
  whisper_says p content = by (life_of p M) refl
    where
      by : (o : Option Life) → life_of p M ≡ o → Says (body.Whisper content) M (after (at_whisper g p content o M) M)
      by None e = refused (body.Whisper content) (refuse.NoPeer p)
      by (Some v) e =
          pick (body.Whisper content) (not (is_entered M v)) _ _ (refused (body.Whisper content) (refuse.NoPeer p))
          (pick (body.Whisper content) (is_too_big g (body.Whisper content)) _ _ (refused (body.Whisper content) refuse.TooBig)
          (pushed (body.Whisper content) v.link (subst IsSome (sym (known_of M q p v e)) refl)))

  shout_says : (group : List ℕ) (content : List (List ℕ)) → Says (body.Shout group content) M (after (at_shout g group content M) M)
  shout_says group content =
      let b = body.Shout group content in
      let vs = filter (is_member g group M) (lives M) in
      pick b (ltb GROUP_OCTETS (length group) || is_too_big g b) _ _ (refused b refuse.TooBig)
      (record {
        leaves = leaves_all (push_all g vs b M) M (pushes_bear g b vs M);
        puts = λ l. pushes_put g b l vs M (Apart-kept (λ (v : Life). v.link) (is_member g group M) (lives M) q.living.apart) (All-kept (λ (v : Life). IsSome (life v.link M)) (is_member g group M) (lives M) (each_known M));
      })

  -- where it is said to one peer, nothing is put on the links of others
  or_first : (a : Bool) → (a || false) ≡ false → a ≡ false
  or_first false e = refl
  or_first true e = e

  either_same : (l : ℕ) (t : Bool) (hs ks : List Mark) → bodies l (after hs M) ≡ bodies l M → bodies l (after ks M) ≡ bodies l M → bodies l (after (cond t hs ks) M) ≡ bodies l M
  either_same l true hs ks x y = x
  either_same l false hs ks x y = y

  whisper_far : (p : PeerId) (content : List (List ℕ)) (l : ℕ) (o : Option Life) → list_any (eqb l) (map (λ (v : Life). v.link) (option_to_list o)) ≡ false → bodies l (after (at_whisper g p content o M) M) ≡ bodies l M
  whisper_far p content l None f = refl
  whisper_far p content l (Some v) f =
      let b = body.Whisper content in
      either_same l (not (is_entered M v)) (Refuses (refuse.NoPeer p) ∷ []) (cond (is_too_big g b) (Refuses refuse.TooBig ∷ []) (push g v.link b M)) refl
      (either_same l (is_too_big g b) (Refuses refuse.TooBig ∷ []) (push g v.link b M) refl ((push_far g b l v.link M (or_first (eqb l v.link) f)).same_bodies))

module _ (g : Config) (e : Entry) (H : List Mark) (q : IsProper H) (b : Body) where
  abbrev M : List Mark
  M = Comes e ∷ H

  asked : (i : Input) → asked_by i ≡ Some b → Says b M (after (at_input g i H M) M)
  asked (input.Do (command.Whisper p content)) z =
      let same : body.Whisper content ≡ b = cc in
      subst (λ c. Says c M (after (at_whisper g p content (life_of p M) M) M)) same (whisper_says g M (Comes-proper H q e) p content)
  asked (input.Do (command.Shout group content)) z =
      let same : body.Shout group content ≡ b = cc in
      subst (λ c. Says c M (after (at_shout g group content M) M)) same (shout_says g M (Comes-proper H q e) group content)
  asked (input.Do (command.Join group)) z = absurd (let y : None ≡ Some b = z in cc)
  asked (input.Do (command.Leave group)) z = absurd (let y : None ≡ Some b = z in cc)
  asked (input.Do (command.Bad n)) z = absurd (let y : None ≡ Some b = z in cc)
  asked (input.Do command.Quit) z = absurd (let y : None ≡ Some b = z in cc)
  asked _ z = absurd (let y : None ≡ Some b = z in cc)

  -- with an entry that asks for this message to be said
  pub entry_says : asked_by e.input ≡ Some b → Says b H (with_entry g e H)
  entry_says z = as_before (by (has_stopped H))
    where
      as_before : Says b M (with_entry g e H) → Says b H (with_entry g e H)
      as_before s = record { leaves = record { same_births = s.leaves.same_births; same_peers = s.leaves.same_peers }; puts = λ l. one l (s.puts l) }
        where
          one : (l : ℕ) → PutOn b l M (with_entry g e H) → PutOn b l H (with_entry g e H)
          one l (Nothing x) = Nothing x
          one l (Once x s t) = Once x s t

      by : (t : Bool) → Says b M (after (cond t [] (at_input g e.input H M)) M)
      by true = record { leaves = record { same_births = refl; same_peers = λ l. refl }; puts = λ l. Nothing refl }
      by false = asked e.input z

  -- on the links of no other peers
  only_asked : (i : Input) → asked_by i ≡ Some b → (l : ℕ) → list_any (eqb l) (map (λ (v : Life). v.link) (reached (whispered_by i) H)) ≡ false → bodies l (after (at_input g i H M) M) ≡ bodies l H
  only_asked (input.Do (command.Whisper p content)) z l f = whisper_far g M (Comes-proper H q e) p content l (life_of p M) f
  only_asked (input.Do (command.Shout group content)) z l f = by ((asked (input.Do (command.Shout group content)) z).puts l)
    where
      none : is_some (life l H) ≡ false
      none = sym (any_found (λ (v : Life). v.link) l (lives H)) ∙ f

      by : PutOn b l M (after (at_shout g group content M) M) → bodies l (after (at_shout g group content M) M) ≡ bodies l H
      by (Nothing same) = same
      by (Once more s t) = absurd (let v = some_is (life l H) s in true≢false (sym (ap (λ o. is_some o) v.1) ∙ none))
  only_asked (input.Do (command.Join group)) z l f = absurd (let y : None ≡ Some b = z in cc)
  only_asked (input.Do (command.Leave group)) z l f = absurd (let y : None ≡ Some b = z in cc)
  only_asked (input.Do (command.Bad n)) z l f = absurd (let y : None ≡ Some b = z in cc)
  only_asked (input.Do command.Quit) z l f = absurd (let y : None ≡ Some b = z in cc)
  only_asked _ z l f = absurd (let y : None ≡ Some b = z in cc)

  pub entry_only : asked_by e.input ≡ Some b → (l : ℕ) → list_any (eqb l) (map (λ (v : Life). v.link) (reached (whispered_by e.input) H)) ≡ false → bodies l (with_entry g e H) ≡ bodies l H
  entry_only z l f = by (has_stopped H)
    where
      by : (t : Bool) → bodies l (after (cond t [] (at_input g e.input H M)) M) ≡ bodies l H
      by true = refl
      by false = only_asked e.input z l f

-- they have links of their own
pub reached_apart : (H : List Mark) → IsProper H → (to : Option PeerId) → Apart (λ (v : Life). v.link) (reached to H)
reached_apart H q None = q.living.apart
reached_apart H q (Some p) = by (life_of p H)
  where
    by : (o : Option Life) → Apart (λ (v : Life). v.link) (option_to_list o)
    by None = tt
    by (Some v) = (tt, tt)
