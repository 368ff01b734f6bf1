-- Marks that stand in no table, and a tick in its parts.
use Rattle.std.proofs.Common.{◌≡◌, ℕ, ◌+◌, ◌%◌, Bool, true, false, cond, not, ◌&&◌, ◌||◌, eqb, ltb, leb, List, [], ◌∷◌, ◌++◌, length, map, Option, Some, None, filter, find, refl, sym, ap, ◌∙◌, subst, eqb-true, append-nil}
use Rattle.std.proofs.lemmas.List.Elements.{filter_map-append}
use Rattle.std.specs.List.{AllByRecursion, filter_map, cons_option, list_any}
use Rattle.zre_values.specs.declared.limits.TheConstants.{UNSENT_OCTETS, OWN_GROUPS, GROUP_OCTETS}
use Rattle.zre_values.specs.declared.peer_id.PeerId.{PeerId}
use Rattle.zre_zmtp.specs.declared.fault.ZmtpFault.{ZmtpFault}
use Rattle.zre_msg.specs.declared.message.Body.{Body}
use Rattle.zre_msg.specs.declared.message.Body.TheVariants as body
use Rattle.zre_link.specs.Heard.{reply_fault}
use Rattle.zre_link.specs.Link.{answered, slow_at}
use Rattle.zre_link.specs.Text.{size_of}
use Rattle.zre_outside.specs.declared.entry.Command.{Command}
use Rattle.zre_outside.specs.declared.entry.Command.TheVariants as command
use Rattle.zre_peer.specs.declared.causes.Cause.{Cause}
use Rattle.zre_peer.specs.declared.causes.Cause.TheVariants as cause
use Rattle.zre_peer.specs.declared.causes.CloseWhy.{CloseWhy}
use Rattle.zre_peer.specs.declared.causes.CloseWhy.TheVariants as close
use Rattle.zre_values.specs.declared.settings.Settings.{Settings as Config}
use Rattle.zre_journal.specs.Arrivals.{at_shut, end_of_run}
use Rattle.zre_journal.specs.Causes.{where_so}
use Rattle.zre_journal.specs.Chronicle.{Mark, TurnsAway, Ignores, Closes, ClosesAtStop, Born, Ends, IsEvasive, PutsPong, SendsBeacon, after}
use Rattle.zre_journal.specs.Commands.{has_group, is_too_big, is_member, at_whisper, at_stop, at_command}
use Rattle.zre_journal.specs.Connections.{open_ones, is_open, runs}
use Rattle.zre_journal.specs.LinkEntries.{cause_by_reply, at_linked, end_by, answers, at_reply, at_unlinked, at_took}
use Rattle.zre_journal.specs.Links.{groups, status, line, is_linked, replies, newly_pinged, unsent}
use Rattle.zre_journal.specs.Peers.{Life, lives, life_of, is_entered}
use Rattle.zre_journal.specs.Proper.{Apart}
use Rattle.zre_journal.specs.Pushes.{push, push_all}
use Rattle.zre_journal.specs.Tables.{closed_of, closed_in, ignored_of, born_of, evasive_of, evasive_in}
use Rattle.zre_journal.specs.Ticks.{is_silent, is_evasive, is_stale, probe, at_tick}
use Rattle.zre_journal.proofs.NumberedLists.{All-join}
use Rattle.zre_journal.proofs.BroughtInTurn.{none_there}
use Rattle.zre_journal.proofs.WhenMarksCome.{choice}
use Rattle.zre_journal.proofs.MarksOfTicks.{E, F, C}

-- ---- marks that stand in no table

abbrev Bare : Mark → Type 0
Bare (TurnsAway c) = ⊥
Bare (Ignores c why) = ⊥
Bare (Closes c why) = ⊥
Bare (Born l p to) = ⊥
Bare (IsEvasive l) = ⊥
Bare _ = Unit {0}

abbrev pub AreBare : List Mark → Type 0
AreBare hs = AllByRecursion Bare hs

-- what is read off marks, of those alone that stand in a table
abbrev pub Reads : {A : Type 0} → (Mark → Option A) → Type 0
Reads f = (h : Mark) → Bare h → f h ≡ None

pub reads_closed : (c : ℕ) → Reads (closed_of c)
reads_closed c (TurnsAway d) b = absurd b
reads_closed c (Closes d why) b = absurd b
reads_closed c _ b = refl

pub reads_ignored : (c : ℕ) → Reads (ignored_of c)
reads_ignored c (Ignores d why) b = absurd b
reads_ignored c _ b = refl

pub reads_born : (p : PeerId) → Reads (born_of p)
reads_born p (Born l q to) b = absurd b
reads_born p _ b = refl

pub reads_evasive : (l : ℕ) → Reads (evasive_of l)
reads_evasive l (IsEvasive k) b = absurd b
reads_evasive l _ b = refl

module _ {A : Type 0} (f : Mark → Option A) (reads : Reads f) where
  pub bare_none : (hs : List Mark) → AreBare hs → filter_map f hs ≡ []
  bare_none [] b = refl
  bare_none (h ∷ hs) b = ap (λ o. cons_option o (filter_map f hs)) (reads h b.0) ∙ bare_none hs b.1

  pub bare_then : (hs ks : List Mark) → AreBare hs → filter_map f (hs ++ ks) ≡ filter_map f ks
  bare_then hs ks b = filter_map-append f hs ks ∙ ap (λ xs. xs ++ filter_map f ks) (bare_none hs b)

bare_map : {A : Type 0} (f : A → Mark) → ((x : A) → Bare (f x)) → (xs : List A) → AreBare (map f xs)
bare_map f c [] = tt
bare_map f c (x ∷ xs) = (c x, bare_map f c xs)

pub either : (b : Bool) (hs ks : List Mark) → AreBare hs → AreBare ks → AreBare (cond b hs ks)
either b hs ks x y = choice AreBare b hs ks (λ z. x) (λ z. y)

module _ (g : Config) where
  pub bare_push : (l : ℕ) (b : Body) (K : List Mark) → AreBare (push g l b K)
  bare_push l b K = either (ltb UNSENT_OCTETS (unsent g l K + size_of (line l K) b)) _ _ (tt, tt) (tt, tt)

  bare_pushes : (vs : List Life) (b : Body) (K : List Mark) → AreBare (push_all g vs b K)
  bare_pushes [] b K = tt
  bare_pushes (v ∷ vs) b K = All-join Bare (push g v.link b K) (push_all g vs b (after (push g v.link b K) K)) (bare_push v.link b K) (bare_pushes vs b (after (push g v.link b K) K))

  pub bare_run : (o : Option ℕ) (why : Cause) → AreBare (end_of_run g o why)
  bare_run None why = tt
  bare_run (Some l) why = (tt, tt)

  module _ (K : List Mark) where
    bare_answers : (l : ℕ) (ts : List (List ℕ)) (f : Option ZmtpFault) → AreBare (answers g l ts f K)
    bare_answers l ts f = All-join Bare (map (λ s. PutsPong l s) (answered (unsent g l K) ts)) _ (bare_map (λ s. PutsPong l s) (λ s. tt) (answered (unsent g l K) ts)) (by (slow_at (unsent g l K) ts) f)
      where
        by : (s : Option (ℕ × ℕ)) (f : Option ZmtpFault) → AreBare (end_by g l (cause_by_reply s f))
        by (Some s) f = (tt, tt)
        by None (Some f) = (tt, tt)
        by None None = tt

    pub bare_reply : (l : ℕ) (o : Option Life) (H : List Mark) → AreBare (at_reply g l o H K)
    bare_reply l None H = tt
    bare_reply l (Some v) H = either (is_linked l K) _ _ (bare_answers l (newly_pinged l H K) (reply_fault (replies l K))) tt

    pub bare_linked : (l : ℕ) (o : Option Life) → AreBare (at_linked g l o K)
    bare_linked l None = tt
    bare_linked l (Some v) = either (is_linked l K) _ _ tt (tt, tt)

    pub bare_unlinked : (l : ℕ) (o : Option Life) → AreBare (at_unlinked g l o)
    bare_unlinked l None = tt
    bare_unlinked l (Some v) = (tt, tt)

    pub bare_took : (l n : ℕ) (o : Option Life) → AreBare (at_took g l n o K)
    bare_took l n None = tt
    bare_took l n (Some v) = (tt, tt)

    pub bare_stop : AreBare (at_stop g K)
    bare_stop = All-join Bare (map (λ (v : Life). Ends v.link cause.Stop) (lives K) ++ map (λ c. ClosesAtStop c) (open_ones K)) _
        (All-join Bare (map (λ (v : Life). Ends v.link cause.Stop) (lives K)) _ (bare_map (λ (v : Life). Ends v.link cause.Stop) (λ v. tt) (lives K)) (bare_map (λ c. ClosesAtStop c) (λ c. tt) (open_ones K))) (tt, (tt, tt))

    bare_whisper : (p : PeerId) (content : List (List ℕ)) (o : Option Life) → AreBare (at_whisper g p content o K)
    bare_whisper p content None = (tt, tt)
    bare_whisper p content (Some v) = either (not (is_entered K v)) _ _ (tt, tt) (either (is_too_big g (body.Whisper content)) _ _ (tt, tt) (bare_push v.link (body.Whisper content) K))

    pub bare_command : (c : Command) → AreBare (at_command g c K)
    bare_command (command.Join group) = either (ltb GROUP_OCTETS (length group)) _ _ (tt, tt) (either (has_group group (groups K)) _ _ (tt, tt) (either (leb OWN_GROUPS (length (groups K))) _ _ (tt, tt) (tt, bare_pushes (lives K) (body.Join group ((status K + 1) % 256)) K)))
    bare_command (command.Leave group) = either (has_group group (groups K)) _ _ (tt, bare_pushes (lives K) (body.Leave group ((status K + 1) % 256)) K) (tt, tt)
    bare_command (command.Whisper p content) = bare_whisper p content (life_of p K)
    bare_command (command.Shout group content) = either (ltb GROUP_OCTETS (length group) || is_too_big g (body.Shout group content)) _ _ (tt, tt) (bare_pushes (filter (is_member g group K) (lives K)) (body.Shout group content) K)
    bare_command (command.Bad n) = (tt, tt)
    bare_command command.Quit = bare_stop

    pub bare_shut : (c : ℕ) → AreBare (at_shut g c K)
    bare_shut c = either (is_open c K) _ _ (All-join Bare (end_of_run g (runs c K) cause.Shut) _ (bare_run (runs c K) cause.Shut) (tt, tt)) tt

-- ---- a tick

module _ {A : Type 0} (f : Mark → Option A) (reads : Reads f) (g : Config) where
  -- what is read off the marks of those that turn evasive, where it isn't that
  pub probes_none : ((l : ℕ) → f (IsEvasive l) ≡ None) → (vs : List Life) (I : List Mark) → filter_map f (probe g vs I) ≡ []
  probes_none n [] I = refl
  probes_none n (v ∷ vs) I =
      let x = push g v.link body.Ping I in
      ap (λ o. cons_option o (filter_map f (x ++ probe g vs (after x (IsEvasive v.link ∷ I))))) (n v.link)
      ∙ bare_then f reads x (probe g vs (after x (IsEvasive v.link ∷ I))) (bare_push g v.link body.Ping I) ∙ probes_none n vs (after x (IsEvasive v.link ∷ I))

  pub closes_none : ((c : ℕ) → f (Closes c close.Timeout) ≡ None) → (cs : List ℕ) → filter_map f (map (λ c. Closes c close.Timeout) cs) ≡ []
  closes_none n [] = refl
  closes_none n (c ∷ cs) = ap (λ o. cons_option o (filter_map f (map (λ d. Closes d close.Timeout) cs))) (n c) ∙ closes_none n cs

  -- a tick in its parts
  pub tick_read : (K : List Mark) → filter_map f (at_tick g K) ≡ filter_map f (probe g (filter (is_evasive g K) (lives K)) K) ++ filter_map f (map (λ c. Closes c close.Timeout) (filter (is_stale g K) (open_ones K)))
  tick_read K = filter_map-append f (E g K ++ F g K ++ C g K) (SendsBeacon g.port ∷ []) ∙ ap (λ xs. filter_map f (E g K ++ F g K ++ C g K) ++ xs) (bare_none f reads (SendsBeacon g.port ∷ []) (tt, tt)) ∙ append-nil (filter_map f (E g K ++ F g K ++ C g K)) ∙ filter_map-append f (E g K ++ F g K) (C g K)
      ∙ ap (λ xs. xs ++ filter_map f (C g K)) (bare_then f reads (E g K) (F g K) (bare_map (λ (v : Life). Ends v.link cause.Expired) (λ v. tt) (filter (is_silent g g.expired K) (lives K))))

far_any : (c : ℕ) (cs : List ℕ) → AllByRecursion (λ d. eqb c d ≡ false) cs → list_any (eqb c) cs ≡ false
far_any c [] a = refl
far_any c (d ∷ cs) a = rw a.0 (far_any c cs a.1)

pub chosen : (t : ℕ → Bool) (c : ℕ) (cs : List ℕ) → Apart (λ (d : ℕ). d) cs → closed_in c (map (λ d. Closes d close.Timeout) (filter t cs)) ≡ cons_option (where_so (list_any (eqb c) cs && t c) close.Timeout) []
chosen t c [] a = refl
chosen t c (d ∷ cs) a = by (chosen t c cs a.1) (eqb c d) refl (t d) refl
  where
    rest : List CloseWhy
    rest = closed_in c (map (λ x. Closes x close.Timeout) (filter t cs))

    by : rest ≡ cons_option (where_so (list_any (eqb c) cs && t c) close.Timeout) [] → (b : Bool) → eqb c d ≡ b → (s : Bool) → t d ≡ s
        → closed_in c (map (λ x. Closes x close.Timeout) (cond s (d ∷ filter t cs) (filter t cs))) ≡ cons_option (where_so ((b || list_any (eqb c) cs) && t c) close.Timeout) []
    by r true e true z =
        let tc : t c ≡ true = ap t (eqb-true c d e) ∙ z in
        let none : rest ≡ [] = r ∙ ap (λ x. cons_option (where_so (x && t c) close.Timeout) []) (far_any c cs (subst (λ x. AllByRecursion (λ y. eqb x y ≡ false) cs) (sym (eqb-true c d e)) a.0)) in
        rw (e, tc) (ap (λ xs. close.Timeout ∷ xs) none)
    by r true e false z =
        let tc : t c ≡ false = ap t (eqb-true c d e) ∙ z in
        let none : rest ≡ [] = r ∙ ap (λ x. cons_option (where_so (x && t c) close.Timeout) []) (far_any c cs (subst (λ x. AllByRecursion (λ y. eqb x y ≡ false) cs) (sym (eqb-true c d e)) a.0)) in
        rw tc none
    by r false e true z = rw e r
    by r false e false z = r

module _ (g : Config) (v : Life) where
  pub evasive_never : (us : List Life) (I : List Mark) → find (λ (u : Life). eqb v.link u.link) us ≡ None → evasive_in v.link (probe g us I) ≡ []
  evasive_never [] I e = refl
  evasive_never (u ∷ us) I e = by (evasive_never us (after x (IsEvasive u.link ∷ I))) (eqb v.link u.link) refl e
    where
      x : List Mark
      x = push g u.link body.Ping I

      by : (find (λ (w : Life). eqb v.link w.link) us ≡ None → evasive_in v.link (probe g us (after x (IsEvasive u.link ∷ I))) ≡ []) → (b : Bool) → eqb v.link u.link ≡ b → cond b (Some u) (find (λ (w : Life). eqb v.link w.link) us) ≡ None
          → cons_option (where_so b u.link) (evasive_in v.link (x ++ probe g us (after x (IsEvasive u.link ∷ I)))) ≡ []
      by r true z e = cc
      by r false z e = bare_then (evasive_of v.link) (reads_evasive v.link) x (probe g us (after x (IsEvasive u.link ∷ I))) (bare_push g u.link body.Ping I) ∙ r e

  pub evasive_once : (us : List Life) (I : List Mark) → find (λ (u : Life). eqb v.link u.link) us ≡ Some v → Apart (λ (u : Life). u.link) us → evasive_in v.link (probe g us I) ≡ v.link ∷ []
  evasive_once [] I e a = cc
  evasive_once (u ∷ us) I e a = by (λ z. evasive_once us (after x (IsEvasive u.link ∷ I)) z a.1) (eqb v.link u.link) refl e
    where
      x : List Mark
      x = push g u.link body.Ping I

      by : (find (λ (w : Life). eqb v.link w.link) us ≡ Some v → evasive_in v.link (probe g us (after x (IsEvasive u.link ∷ I))) ≡ v.link ∷ []) → (b : Bool) → eqb v.link u.link ≡ b → cond b (Some u) (find (λ (w : Life). eqb v.link w.link) us) ≡ Some v
          → cons_option (where_so b u.link) (evasive_in v.link (x ++ probe g us (after x (IsEvasive u.link ∷ I)))) ≡ v.link ∷ []
      by r true z e =
          let is : u ≡ v = cc in
          ap (λ n. n ∷ evasive_in v.link (x ++ probe g us (after x (IsEvasive u.link ∷ I)))) (ap (λ (w : Life). w.link) is)
          ∙ ap (λ xs. v.link ∷ xs) (bare_then (evasive_of v.link) (reads_evasive v.link) x (probe g us (after x (IsEvasive u.link ∷ I))) (bare_push g u.link body.Ping I)
          ∙ evasive_never us (after x (IsEvasive u.link ∷ I)) (none_there v.link us (subst (λ (w : Life). AllByRecursion (λ (y : Life). eqb w.link y.link ≡ false) us) is a.0)))
      by r false z e = bare_then (evasive_of v.link) (reads_evasive v.link) x (probe g us (after x (IsEvasive u.link ∷ I))) (bare_push g u.link body.Ping I) ∙ r e
