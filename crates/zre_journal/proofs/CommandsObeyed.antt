-- A command is refused once, or sends what it is to send to those that it is meant for.
use Rattle.std.proofs.Common.{◌≡◌, ℕ, ◌+◌, ◌%◌, Bool, true, false, cond, not, ◌||◌, eqb, ltb, leb, List, [], ◌∷◌, ◌++◌, length, map, Option, Some, None, is_some, filter, refl, sym, ap, ◌∙◌, subst, eq-eqb, eqb-true, append-nil}
use Rattle.std.proofs.lemmas.List.Elements.{filter-append, filter_map-append}
use Rattle.std.specs.List.{AllByRecursion, cons_option}
use Rattle.std.specs.Option.{option_map_or}
use Rattle.std.specs.Str.{bytes_eq}
use Rattle.zre_values.specs.declared.limits.TheConstants.{UNSENT_OCTETS, OWN_GROUPS, GROUP_OCTETS}
use Rattle.zre_values.specs.declared.peer_id.PeerId.{PeerId}
use Rattle.zre_msg.specs.declared.message.Body.{Body}
use Rattle.zre_msg.specs.declared.message.Body.TheVariants as body
use Rattle.zre_link.specs.Text.{size_of}
use Rattle.zre_outside.specs.declared.entry.Command.{Command}
use Rattle.zre_outside.specs.declared.entry.Command.TheVariants as command
use Rattle.zre_outside.specs.declared.entry.Entry.{Entry}
use Rattle.zre_peer.specs.declared.causes.Cause.TheVariants as cause
use Rattle.zre_peer.specs.declared.causes.RefuseWhy.{RefuseWhy}
use Rattle.zre_peer.specs.declared.causes.RefuseWhy.TheVariants as refuse
use Rattle.zre_peer.specs.declared.event.Event.TheVariants as event
use Rattle.zre_values.specs.declared.settings.Settings.{Settings as Config}
use Rattle.zre_journal.specs.Chronicle.{Mark, Comes, Ends, Puts, Joins, Leaves, Refuses, ClosesAtStop, SendsBeacon, Stops, after, in_turn}
use Rattle.zre_journal.specs.Commands.{has_group, is_too_big, is_member, at_whisper, at_stop, at_command}
use Rattle.zre_journal.specs.Connections.{open_ones}
use Rattle.zre_journal.specs.Events.{chronicle}
use Rattle.zre_journal.specs.Happens.{at_input}
use Rattle.zre_journal.specs.Links.{groups, status, line, taken, unsent}
use Rattle.zre_journal.specs.Obeying.{refusal, reaches, is_on, on_link, refused_by, refusals, Obeys}
use Rattle.zre_journal.specs.Peers.{Life, lives, life, life_of, is_entered, view}
use Rattle.zre_journal.specs.Proper.{IsProper}
use Rattle.zre_journal.specs.Pushes.{push, push_all}
use Rattle.zre_journal.specs.Told.{told, told_at, exit}
use Rattle.zre_journal.proofs.WithinCounts.{AreNamed, named, none_kept}
use Rattle.zre_journal.proofs.KnownPeers.{known_of}
use Rattle.zre_journal.proofs.NumberedLists.{All-join}
use Rattle.zre_journal.proofs.WhenMarksCome.{choice}
use Rattle.zre_journal.proofs.BroughtInTurn.{is_at, same_push, far_stays, absent, all_turns, some_turns, Meets, Same, Other, meets}
use Rattle.zre_journal.proofs.ProperChronicles.{comes_proper}

-- ---- on one link

module _ (g : Config) (l : ℕ) where
  own_push : (b : Body) (I : List Mark) → on_link l (push g l b I) ≡ push g l b I
  own_push b I = choice (λ hs. on_link l hs ≡ hs) (ltb UNSENT_OCTETS (unsent g l I + size_of (line l I) b)) _ _ (λ z. rw me refl) (λ z. rw me refl)
    where
      me : eqb l l ≡ true
      me = eq-eqb l l refl

  far_push : (k : ℕ) (b : Body) (I : List Mark) → eqb l k ≡ false → on_link l (push g k b I) ≡ []
  far_push k b I far = choice (λ hs. on_link l hs ≡ []) (ltb UNSENT_OCTETS (unsent g k I + size_of (line k I) b)) _ _ (λ z. rw far refl) (λ z. rw far refl)

-- the ends of many come in turn
ends_in_turn : (us : List Life) (J : List Mark) → map (λ (u : Life). Ends u.link cause.Stop) us ≡ in_turn (λ (u : Life) I. Ends u.link cause.Stop ∷ []) us J
ends_in_turn [] J = refl
ends_in_turn (u ∷ us) J = ap (λ hs. Ends u.link cause.Stop ∷ hs) (ends_in_turn us (Ends u.link cause.Stop ∷ J))

-- ---- the command

module _ (g : Config) (K : List Mark) (q : IsProper K) (names : AreNamed K) where
  closings : (l : ℕ) (cs : List ℕ) → on_link l (map (λ c. ClosesAtStop c) cs) ≡ []
  closings l [] = refl
  closings l (c ∷ cs) = closings l cs

  abbrev E : List Mark
  E = map (λ (u : Life). Ends u.link cause.Stop) (lives K)

  abbrev D : List Mark
  D = map (λ c. ClosesAtStop c) (open_ones K)

  at_stop_of : (l : ℕ) → on_link l (at_stop g K) ≡ on_link l (in_turn (λ (u : Life) I. Ends u.link cause.Stop ∷ []) (lives K) K)
  at_stop_of l = filter-append (is_on l) (E ++ D) (SendsBeacon 0 ∷ Stops ∷ []) ∙ append-nil (on_link l (E ++ D)) ∙ filter-append (is_on l) E D
      ∙ ap (λ xs. on_link l E ++ xs) (closings l (open_ones K)) ∙ append-nil (on_link l E) ∙ ap (on_link l) (ends_in_turn (lives K) K)

  -- ---- a known peer

  module _ (v : Life) (known : life v.link K ≡ Some v) where
    abbrev l : ℕ
    l = v.link

    me : eqb l l ≡ true
    me = eq-eqb l l refl

    module _ (b : Body) where
      abbrev push_out : Bool → List Mark
      push_out d = cond d (push g l b K) []

      abbrev push_each : Life → List Mark → List Mark
      push_each u J = push g u.link b J

      own_out : (J : List Mark) → line l J ≡ line l K → taken l J ≡ taken l K → on_link l (push g l b J) ≡ push_out true
      own_out J x y = own_push g l b J ∙ same_push g l b J K x y

      all_pushes : on_link l (push_all g (lives K) b K) ≡ push g l b K
      all_pushes = all_turns (on_link l) refl (filter-append (is_on l)) v K push_out refl push_each (λ u J z. far_push g l u.link b J z) own_out (λ u J z. far_stays g l u.link b J J z) q.living.apart known

      some_pushes : (t : Life → Bool) → on_link l (push_all g (filter t (lives K)) b K) ≡ push_out (t v)
      some_pushes t = some_turns (on_link l) refl (filter-append (is_on l)) v K push_out refl push_each (λ u J z. far_push g l u.link b J z) own_out (λ u J z. far_stays g l u.link b J J z) q.living.apart known t

    abbrev Is : Command → List Mark → Option RefuseWhy → Type 0
    Is c hs why = on_link l hs ≡ cond (is_some why) [] (reaches g c K v)

    whispers : (p : PeerId) (content : List (List ℕ)) → Is (command.Whisper p content) (at_whisper g p content (life_of p K) K) (refusal g (command.Whisper p content) K)
    whispers p content = by (life_of p K) refl
      where
        b : Body
        b = body.Whisper content

        near : (x y : Bool) → on_link l (cond (not x) (Refuses (refuse.NoPeer p) ∷ []) (cond y (Refuses refuse.TooBig ∷ []) (push g l b K)))
            ≡ cond (is_some (cond (not x) (Some (refuse.NoPeer p)) (cond y (Some refuse.TooBig) None))) [] (push g l b K)
        near false y = refl
        near true true = refl
        near true false = own_push g l b K

        away : (u : Life) → eqb l u.link ≡ false → (x y : Bool) → on_link l (cond (not x) (Refuses (refuse.NoPeer p) ∷ []) (cond y (Refuses refuse.TooBig ∷ []) (push g u.link b K)))
            ≡ cond (is_some (cond (not x) (Some (refuse.NoPeer p)) (cond y (Some refuse.TooBig) None))) [] []
        away u z false y = refl
        away u z true true = refl
        away u z true false = far_push g l u.link b K z

        met : (u : Life) → Meets v p u → on_link l (cond (not (is_entered K u)) (Refuses (refuse.NoPeer p) ∷ []) (cond (is_too_big g b) (Refuses refuse.TooBig ∷ []) (push g u.link b K)))
            ≡ cond (is_some (cond (not (is_entered K u)) (Some (refuse.NoPeer p)) (cond (is_too_big g b) (Some refuse.TooBig) None))) [] (cond (bytes_eq p.0 v.id.0) (push g l b K) [])
        met u (Same z is) = rw z (subst (λ (w : Life). on_link l (cond (not (is_entered K w)) (Refuses (refuse.NoPeer p) ∷ []) (cond (is_too_big g b) (Refuses refuse.TooBig ∷ []) (push g w.link b K)))
            ≡ cond (is_some (cond (not (is_entered K w)) (Some (refuse.NoPeer p)) (cond (is_too_big g b) (Some refuse.TooBig) None))) [] (push g l b K)) (sym is) (near (is_entered K v) (is_too_big g b)))
        met u (Other z far) = rw z (away u far (is_entered K u) (is_too_big g b))

        by : (o : Option Life) → life_of p K ≡ o → on_link l (at_whisper g p content o K)
            ≡ cond (is_some (cond (not (option_map_or (is_entered K) o false)) (Some (refuse.NoPeer p)) (cond (is_too_big g b) (Some refuse.TooBig) None))) [] (cond (bytes_eq p.0 v.id.0) (push g l b K) [])
        by None e = refl
        by (Some u) e = met u (meets K q names v known p u e)

    on_known : (c : Command) → Is c (at_command g c K) (refusal g c K)
    on_known (command.Join group) = by (ltb GROUP_OCTETS (length group)) (has_group group (groups K)) (leb OWN_GROUPS (length (groups K)))
      where
        b : Body
        b = body.Join group ((status K + 1) % 256)

        by : (x y z : Bool) → on_link l (cond x (Refuses refuse.TooBig ∷ []) (cond y (Refuses (refuse.Same group) ∷ []) (cond z (Refuses (refuse.Limit group) ∷ []) (Joins group ∷ push_all g (lives K) b K))))
            ≡ cond (is_some (cond x (Some refuse.TooBig) (cond y (Some (refuse.Same group)) (cond z (Some (refuse.Limit group)) None)))) [] (push g l b K)
        by true y z = refl
        by false true z = refl
        by false false true = refl
        by false false false = all_pushes b
    on_known (command.Leave group) = by (has_group group (groups K))
      where
        b : Body
        b = body.Leave group ((status K + 1) % 256)

        by : (x : Bool) → on_link l (cond x (Leaves group ∷ push_all g (lives K) b K) (Refuses (refuse.NoGroup group) ∷ [])) ≡ cond (is_some (cond (not x) (Some (refuse.NoGroup group)) None)) [] (push g l b K)
        by true = all_pushes b
        by false = refl
    on_known (command.Whisper p content) = whispers p content
    on_known (command.Shout group content) = by (ltb GROUP_OCTETS (length group) || is_too_big g b)
      where
        b : Body
        b = body.Shout group content

        by : (x : Bool) → on_link l (cond x (Refuses refuse.TooBig ∷ []) (push_all g (filter (is_member g group K) (lives K)) b K)) ≡ cond (is_some (cond x (Some refuse.TooBig) None)) [] (cond (is_member g group K v) (push g l b K) [])
        by true = refl
        by false = some_pushes b (is_member g group K)
    on_known (command.Bad n) = refl
    on_known command.Quit = at_stop_of l ∙ all_turns (on_link l) refl (filter-append (is_on l)) v K (λ d. cond d (Ends l cause.Stop ∷ []) []) refl (λ (u : Life) I. Ends u.link cause.Stop ∷ []) (λ u J z. rw z refl) (λ J x y. rw me refl) (λ u J z. (refl, refl)) q.living.apart known

  -- ---- another link

  module _ (l : ℕ) (unknown : life l K ≡ None) where
    other_pushes : (t : Life → Bool) (b : Body) → on_link l (push_all g (filter t (lives K)) b K) ≡ []
    other_pushes t b = absent (on_link l) refl (filter-append (is_on l)) l (λ u J. push g u.link b J) (λ u J z. far_push g l u.link b J z) (filter t (lives K)) K (none_kept (is_at l) t (lives K) unknown)

    every_push : (b : Body) → on_link l (push_all g (lives K) b K) ≡ []
    every_push b = absent (on_link l) refl (filter-append (is_on l)) l (λ u J. push g u.link b J) (λ u J z. far_push g l u.link b J z) (lives K) K unknown

    other_whisper : (p : PeerId) (content : List (List ℕ)) → on_link l (at_whisper g p content (life_of p K) K) ≡ []
    other_whisper p content = by (life_of p K) refl
      where
        by : (o : Option Life) → life_of p K ≡ o → on_link l (at_whisper g p content o K) ≡ []
        by None e = refl
        by (Some u) e = choice (λ hs. on_link l hs ≡ []) (not (is_entered K u)) _ _ (λ z. refl) (λ z. choice (λ hs. on_link l hs ≡ []) (is_too_big g (body.Whisper content)) _ _ (λ y. refl) (λ y. far_push g l u.link (body.Whisper content) K far))
          where
            far : eqb l u.link ≡ false
            far = at (eqb l u.link) refl
              where
                at : (t : Bool) → eqb l u.link ≡ t → t ≡ false
                at false z = refl
                at true z = let both : None ≡ Some u = sym unknown ∙ ap (λ n. life n K) (eqb-true l u.link z) ∙ known_of K q p u e in cc

    on_unknown : (c : Command) → on_link l (at_command g c K) ≡ []
    on_unknown (command.Join group) = choice (λ hs. on_link l hs ≡ []) (ltb GROUP_OCTETS (length group)) _ _ (λ z. refl) (λ z. choice (λ hs. on_link l hs ≡ []) (has_group group (groups K)) _ _ (λ y. refl)
        (λ y. choice (λ hs. on_link l hs ≡ []) (leb OWN_GROUPS (length (groups K))) _ _ (λ x. refl) (λ x. every_push (body.Join group ((status K + 1) % 256)))))
    on_unknown (command.Leave group) = choice (λ hs. on_link l hs ≡ []) (has_group group (groups K)) _ _ (λ z. every_push (body.Leave group ((status K + 1) % 256))) (λ z. refl)
    on_unknown (command.Whisper p content) = other_whisper p content
    on_unknown (command.Shout group content) = choice (λ hs. on_link l hs ≡ []) (ltb GROUP_OCTETS (length group) || is_too_big g (body.Shout group content)) _ _ (λ z. refl) (λ z. other_pushes (is_member g group K) (body.Shout group content))
    on_unknown (command.Bad n) = refl
    on_unknown command.Quit = at_stop_of l ∙ absent (on_link l) refl (filter-append (is_on l)) l (λ (u : Life) I. Ends u.link cause.Stop ∷ []) (λ u J z. rw z refl) (lives K) K unknown

-- ---- what is told

-- marks that tell no refusal
abbrev Grants : Mark → Type 0
Grants (Ends l why) = Unit {0}
Grants (Puts l b) = Unit {0}
Grants (Joins group) = Unit {0}
Grants (Leaves group) = Unit {0}
Grants (ClosesAtStop c) = Unit {0}
Grants (SendsBeacon port) = Unit {0}
Grants Stops = Unit {0}
Grants _ = ⊥

abbrev AreGrants : List Mark → Type 0
AreGrants hs = AllByRecursion Grants hs

granted_mark : (h : Mark) (H : List Mark) → Grants h → refusals (told_at h H) ≡ []
granted_mark (Ends l why) H s = by (life l H)
  where
    at : (w : Life) (b : Bool) → refusals (cond b (event.Exit w.id (view w.link H).name why ∷ []) []) ≡ []
    at w true = refl
    at w false = refl

    by : (o : Option Life) → refusals (exit o why H) ≡ []
    by None = refl
    by (Some w) = at w (is_entered H w)
granted_mark (Puts l b) H s = refl
granted_mark (Joins group) H s = refl
granted_mark (Leaves group) H s = refl
granted_mark (ClosesAtStop c) H s = refl
granted_mark (SendsBeacon port) H s = refl
granted_mark Stops H s = refl
granted_mark _ H s = absurd s

granted : (hs H : List Mark) → AreGrants hs → refusals (told hs H) ≡ []
granted [] H s = refl
granted (h ∷ hs) H s = filter_map-append refused_by (told_at h H) (told hs (h ∷ H)) ∙ ap (λ xs. xs ++ refusals (told hs (h ∷ H))) (granted_mark h H s.0) ∙ granted hs (h ∷ H) s.1

module _ (g : Config) (K : List Mark) where
  grants_push : (l : ℕ) (b : Body) (I : List Mark) → AreGrants (push g l b I)
  grants_push l b I = choice AreGrants (ltb UNSENT_OCTETS (unsent g l I + size_of (line l I) b)) _ _ (λ z. (tt, tt)) (λ z. (tt, tt))

  grants_pushes : (us : List Life) (b : Body) (I : List Mark) → AreGrants (push_all g us b I)
  grants_pushes [] b I = tt
  grants_pushes (u ∷ us) b I = All-join Grants (push g u.link b I) (push_all g us b (after (push g u.link b I) I)) (grants_push u.link b I) (grants_pushes us b (after (push g u.link b I) I))

  grants_ends : (us : List Life) → AreGrants (map (λ (u : Life). Ends u.link cause.Stop) us)
  grants_ends [] = tt
  grants_ends (u ∷ us) = (tt, grants_ends us)

  grants_closings : (cs : List ℕ) → AreGrants (map (λ c. ClosesAtStop c) cs)
  grants_closings [] = tt
  grants_closings (c ∷ cs) = (tt, grants_closings cs)

  -- it is refused and brings nothing else, or it isn't and brings what tells no refusal
  data Outcome : List Mark → Option RefuseWhy → Type 0 where
    Refused : (why : RefuseWhy) → Outcome (Refuses why ∷ []) (Some why)
    Granted : (hs : List Mark) → AreGrants hs → Outcome hs None

  at_whisper_out : (p : PeerId) (content : List (List ℕ)) (o : Option Life)
      → Outcome (at_whisper g p content o K) (cond (not (option_map_or (is_entered K) o false)) (Some (refuse.NoPeer p)) (cond (is_too_big g (body.Whisper content)) (Some refuse.TooBig) None))
  at_whisper_out p content None = Refused (refuse.NoPeer p)
  at_whisper_out p content (Some u) = by (is_entered K u) (is_too_big g (body.Whisper content))
    where
      by : (x y : Bool) → Outcome (cond (not x) (Refuses (refuse.NoPeer p) ∷ []) (cond y (Refuses refuse.TooBig ∷ []) (push g u.link (body.Whisper content) K))) (cond (not x) (Some (refuse.NoPeer p)) (cond y (Some refuse.TooBig) None))
      by false y = Refused (refuse.NoPeer p)
      by true true = Refused refuse.TooBig
      by true false = Granted _ (grants_push u.link (body.Whisper content) K)

  outcome : (c : Command) → Outcome (at_command g c K) (refusal g c K)
  outcome (command.Join group) = by (ltb GROUP_OCTETS (length group)) (has_group group (groups K)) (leb OWN_GROUPS (length (groups K)))
    where
      b : Body
      b = body.Join group ((status K + 1) % 256)

      by : (x y z : Bool) → Outcome (cond x (Refuses refuse.TooBig ∷ []) (cond y (Refuses (refuse.Same group) ∷ []) (cond z (Refuses (refuse.Limit group) ∷ []) (Joins group ∷ push_all g (lives K) b K))))
          (cond x (Some refuse.TooBig) (cond y (Some (refuse.Same group)) (cond z (Some (refuse.Limit group)) None)))
      by true y z = Refused refuse.TooBig
      by false true z = Refused (refuse.Same group)
      by false false true = Refused (refuse.Limit group)
      by false false false = Granted (Joins group ∷ push_all g (lives K) b K) (tt, grants_pushes (lives K) b K)
  outcome (command.Leave group) = by (has_group group (groups K))
    where
      b : Body
      b = body.Leave group ((status K + 1) % 256)

      by : (x : Bool) → Outcome (cond x (Leaves group ∷ push_all g (lives K) b K) (Refuses (refuse.NoGroup group) ∷ [])) (cond (not x) (Some (refuse.NoGroup group)) None)
      by true = Granted (Leaves group ∷ push_all g (lives K) b K) (tt, grants_pushes (lives K) b K)
      by false = Refused (refuse.NoGroup group)
  outcome (command.Whisper p content) = at_whisper_out p content (life_of p K)
  outcome (command.Shout group content) = by (ltb GROUP_OCTETS (length group) || is_too_big g b)
    where
      b : Body
      b = body.Shout group content

      by : (x : Bool) → Outcome (cond x (Refuses refuse.TooBig ∷ []) (push_all g (filter (is_member g group K) (lives K)) b K)) (cond x (Some refuse.TooBig) None)
      by true = Refused refuse.TooBig
      by false = Granted (push_all g (filter (is_member g group K) (lives K)) b K) (grants_pushes (filter (is_member g group K) (lives K)) b K)
  outcome (command.Bad n) = Refused (refuse.BadLine n)
  outcome command.Quit = Granted (at_stop g K) (All-join Grants (E ++ D) (SendsBeacon 0 ∷ Stops ∷ []) (All-join Grants E D (grants_ends (lives K)) (grants_closings (open_ones K))) (tt, (tt, tt)))
    where
      E : List Mark
      E = map (λ (u : Life). Ends u.link cause.Stop) (lives K)

      D : List Mark
      D = map (λ c. ClosesAtStop c) (open_ones K)

  -- so it is told as refused once, with that reason
  tells : (hs : List Mark) (o : Option RefuseWhy) → Outcome hs o → refusals (told hs K) ≡ cons_option o []
  tells _ _ (Refused why) = refl
  tells _ _ (Granted hs s) = granted hs K s

  -- and is all that comes about
  alone : (why : RefuseWhy) (hs : List Mark) (o : Option RefuseWhy) → Outcome hs o → o ≡ Some why → hs ≡ Refuses why ∷ []
  alone why _ _ (Refused w) e = let same : w ≡ why = cc in ap (λ x. Refuses x ∷ []) same
  alone why _ _ (Granted hs s) e = cc

pub obeys : (g : Config) (J : List Entry) → Obeys g J
obeys g J = record {
  refused = λ earlier e later c at is.
      let H = chronicle g earlier in
      let K = Comes e ∷ H in
      ap (λ b. refusals (told (cond b [] (at_input g e.input H K)) K)) at.going ∙ ap (λ i. refusals (told (at_input g i H K) K)) is ∙ tells g K (at_command g c K) (refusal g c K) (outcome g K c);
  alone = λ earlier e later c why at is because.
      let H = chronicle g earlier in
      let K = Comes e ∷ H in
      ap (λ i. at_input g i H K) is ∙ alone g K why (at_command g c K) (refusal g c K) (outcome g K c) because;
  reached = λ earlier e later c v at is known.
      let H = chronicle g earlier in
      let K = Comes e ∷ H in
      ap (λ i. on_link v.link (at_input g i H K)) is ∙ on_known g K (comes_proper g earlier e) (λ l u z. named g earlier l u z) v known c;
  nobody_else = λ earlier e later c l at is unknown.
      let H = chronicle g earlier in
      let K = Comes e ∷ H in
      ap (λ i. on_link l (at_input g i H K)) is ∙ on_unknown g K (comes_proper g earlier e) (λ k u z. named g earlier k u z) l unknown c;
}
