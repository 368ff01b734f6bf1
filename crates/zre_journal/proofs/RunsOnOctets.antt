-- What is counted on each connection is what its octets say, after each entry.
use Rattle.std.proofs.Common.{◌≡◌, ℕ, Bool, true, false, true≢false, cond, not, ◌&&◌, eqb, ltb, List, [], ◌∷◌, ◌++◌, length, map, Option, Some, None, refl, sym, ap, ◌∙◌, subst, eqb-true, append_assoc, append-nil}
use Rattle.std.proofs.lemmas.Bool.{and_from}
use Rattle.std.proofs.lemmas.List.Elements.{filter_map-append}
use Rattle.std.specs.List.{list_any}
use Rattle.zre_values.specs.declared.limits.TheConstants.{CONNECTIONS}
use Rattle.zre_zmtp.specs.declared.fault.ZmtpFault.{ZmtpFault}
use Rattle.zre_mailbox.specs.Talk.{Said, Arrived, Fault, completed as completed_by, talk, arrivals, fault_in, fault_said}
use Rattle.zre_mailbox.proofs.TalkGrows.{goes, nothing_said}
use Rattle.zre_msg.specs.declared.message.Message.{Message}
use Rattle.zre_outside.specs.declared.entry.Entry.{Entry}
use Rattle.zre_outside.specs.declared.entry.Input.{Input}
use Rattle.zre_outside.specs.declared.entry.Input.TheVariants as input
use Rattle.zre_values.specs.declared.settings.Settings.{Settings as Config}
use Rattle.zre_journal.specs.Arrivals.{at_opened, at_places}
use Rattle.zre_journal.specs.Chronicle.{Mark, Comes, Opens, TurnsAway, after}
use Rattle.zre_journal.specs.Connections.{open_ones, is_open, is_new, is_ignored, is_live}
use Rattle.zre_journal.specs.Events.{chronicle}
use Rattle.zre_journal.specs.Happens.{has_stopped, at_input, with_entry}
use Rattle.zre_journal.specs.Heard.{bytes, was_opened, piece_of, newly_completed}
use Rattle.zre_journal.specs.Hearing.{message_in, heard, RunsOnOctets}
use Rattle.zre_journal.specs.Laws.{counted_on}
use Rattle.zre_journal.specs.Proper.{IsProper}
use Rattle.zre_journal.proofs.ProperChronicles.{is_proper, comes_proper}
use Rattle.zre_journal.proofs.StopsLeaveNothing.{leaves_nothing}
use Rattle.zre_journal.proofs.MarkByMark.{are_others}
use Rattle.zre_journal.proofs.CountedIsSaid.{introduced, has_fault, spoken, Follows, quiet_steps, places_follow}
use Rattle.zre_journal.proofs.JoinedEntries.{each_entry}
use Rattle.zre_journal.proofs.HeardUnchanged.{Quiet, AreQuiet}
use Rattle.zre_journal.proofs.SoundMarks.{Sound, AreSound}
use Rattle.zre_journal.proofs.ProperPeers.{has_started, run_is}
use Rattle.zre_journal.proofs.SaidOnConnections.{input_quiet, input_sound}
use Rattle.zre_journal.proofs.WhenMarksCome.{all_same, each_same}
use Rattle.zre_journal.proofs.SaidWithinLimit.{newly_fine}

-- octets come with entries alone
pub quiet_bytes : (d : ℕ) (hs K : List Mark) → AreQuiet d hs → bytes d (after hs K) ≡ bytes d K
quiet_bytes d hs K q = all_same (Quiet d) (bytes d) one hs K q
  where
    one : (h : Mark) (H : List Mark) → Quiet d h → bytes d (h ∷ H) ≡ bytes d H
    one (Comes e) H z = absurd z
    one _ H z = refl

pub sound_bytes : (g : Config) (d : ℕ) (hs K : List Mark) → AreSound g hs K → bytes d (after hs K) ≡ bytes d K
sound_bytes g d hs K s = each_same (Sound g) (bytes d) one hs K s
  where
    one : (h : Mark) (H : List Mark) → Sound g h H → bytes d (h ∷ H) ≡ bytes d H
    one (Comes e) H z = absurd z
    one _ H z = refl

no_more : (d : ℕ) (b : Bool) (o : List ℕ) → o ++ cond b [] [] ≡ o
no_more d true o = append-nil o
no_more d false o = append-nil o

-- an entry with no octets of d
pub same_bytes : (d : ℕ) (e : Entry) (H : List Mark) → piece_of d e.input ≡ [] → bytes d (Comes e ∷ H) ≡ bytes d H
same_bytes d e H n = ap (λ x. bytes d H ++ cond (was_opened d H) x []) n ∙ no_more d (was_opened d H) (bytes d H)

fault_none : (f : Option ZmtpFault) (xs : List Said) → has_fault (xs ++ fault_said f) ≡ false → f ≡ None
fault_none None xs e = refl
fault_none (Some f) [] e = absurd cc
fault_none (Some f) (Arrived a ∷ xs) e = fault_none (Some f) xs e
fault_none (Some f) (Fault k ∷ xs) e = absurd cc

module _ (g : Config) where
  abbrev pub Told : List Mark → Type 0
  Told H = (d : ℕ) → Follows d (talk g.id (bytes d H)) H

  pub come : (d : ℕ) (said : List Said) (e : Entry) (H : List Mark) → Follows d said H → Follows d said (Comes e ∷ H)
  come d said e H o = record { rest = o.rest; front = o.front; whole = o.whole; sound = o.sound; who = o.who }

  -- more octets on one that isn't live
  idle : (d : ℕ) (o more : List ℕ) (H : List Mark) → is_live d H ≡ false → Follows d (talk g.id o) H → Follows d (talk g.id (o ++ more)) H
  idle d o more H dead f =
      let c = completed_by g.id o more in
      record {
        rest = f.rest ++ heard c;
        front = ap heard (goes g.id o more).said ∙ filter_map-append message_in (talk g.id o) c ∙ ap (λ ms. ms ++ heard c) f.front ∙ append_assoc (counted_on d H) f.rest (heard c);
        whole = λ v. absurd (true≢false (sym v ∙ dead));
        sound = λ v. absurd (true≢false (sym v ∙ dead));
        who = λ v. absurd (true≢false (sym v ∙ dead));
      }

  -- a connection opens, of which nothing was heard
  opens : (d : ℕ) (H : List Mark) → IsProper H → is_new d H ≡ true → Follows d (talk g.id (bytes d H)) H → Follows d (talk g.id (bytes d H)) (Opens d ∷ H)
  opens d H q new f =
      let u = q.opening.unheard d new in
      let none : talk g.id (bytes d H) ≡ [] = ap (talk g.id) u.no_octets ∙ nothing_said g.id in
      let zero : [] ≡ counted_on d H ++ f.rest = sym (ap heard none) ∙ f.front in
      record {
        rest = f.rest;
        front = f.front;
        whole = λ v. ap heard none ∙ sym (empty (counted_on d H) f.rest zero);
        sound = λ v. ap has_fault none;
        who = λ v. u.unknown ∙ sym (ap introduced none);
      }
    where
      empty : (ms rest : List Message) → [] ≡ ms ++ rest → ms ≡ []
      empty [] rest e = refl
      empty (m ∷ ms) rest e = absurd (let z : [] ≡ m ∷ (ms ++ rest) = e in cc)

  module _ (J : List Entry) (e : Entry) (o : Told (chronicle g J)) where
    abbrev H : List Mark
    H = chronicle g J

    abbrev K : List Mark
    K = Comes e ∷ H

    as_it_was : (d : ℕ) → piece_of d e.input ≡ [] → Follows d (talk g.id (bytes d K)) K
    as_it_was d n = subst (λ x. Follows d (talk g.id x) K) (sym (same_bytes d e H n)) (come d (talk g.id (bytes d H)) e H (o d))

    quietly : (d : ℕ) → piece_of d e.input ≡ [] → (hs : List Mark) → AreQuiet d hs → Follows d (talk g.id (bytes d (after hs K))) (after hs K)
    quietly d n hs a = subst (λ x. Follows d (talk g.id x) (after hs K)) (sym (quiet_bytes d hs K a)) (quiet_steps d (talk g.id (bytes d K)) hs K a (as_it_was d n))

    -- the octets of d, and what they say
    piece : (d : ℕ) → let hs = at_places g d (newly_completed g.id d H K) K in bytes d (after hs K) ≡ bytes d K → Follows d (talk g.id (bytes d (after hs K))) (after hs K)
    piece d b =
        let more = cond (was_opened d H) (piece_of d e.input) [] in
        let hs = at_places g d (newly_completed g.id d H K) K in
        let all : talk g.id (bytes d K) ≡ talk g.id (bytes d H) ++ newly_completed g.id d H K = (goes g.id (bytes d H) more).said in
        subst (λ x. Follows d (talk g.id x) (after hs K)) (sym b) (subst (λ xs. Follows d xs (after hs K)) (sym all)
        (places_follow g d (newly_completed g.id d H K) (talk g.id (bytes d H)) K (newly_fine g.id d H K) (λ m ys zs z. spoken g.id (bytes d K) ys zs m (all ∙ z)) (comes_proper g J e) (come d (talk g.id (bytes d H)) e H (o d))))

    opened_here : (d : ℕ) → piece_of d e.input ≡ [] → let hs = at_opened g d K in Follows d (talk g.id (bytes d (after hs K))) (after hs K)
    opened_here d n = by (is_new d K) refl (ltb (length (open_ones K)) CONNECTIONS)
      where
        by : (t : Bool) → is_new d K ≡ t → (r : Bool) → let hs = cond t (cond r (Opens d ∷ []) (TurnsAway d ∷ [])) [] in Follows d (talk g.id (bytes d (after hs K))) (after hs K)
        by false f r = as_it_was d n
        by true f false = quietly d n (TurnsAway d ∷ []) (tt, tt)
        by true f true = opens d K (comes_proper g J e) f (as_it_was d n)

    on_input : (i : Input) → e.input ≡ i → (d : ℕ) → let hs = at_input g i H K in Follows d (talk g.id (bytes d (after hs K))) (after hs K)
    on_input (input.Opened c) z d = by (eqb d c) refl
      where
        n : piece_of d e.input ≡ []
        n = ap (piece_of d) z

        by : (t : Bool) → eqb d c ≡ t → let hs = at_opened g c K in Follows d (talk g.id (bytes d (after hs K))) (after hs K)
        by false f = quietly d n (at_opened g c K) (input_quiet g (input.Opened c) H K (comes_proper g J e) d f)
        by true f = subst (λ x. let hs = at_opened g x K in Follows d (talk g.id (bytes d (after hs K))) (after hs K)) (eqb-true d c f) (opened_here d n)
    on_input (input.Piece c octets) z d = by (eqb d c) refl
      where
        by : (t : Bool) → eqb d c ≡ t → let hs = at_places g c (newly_completed g.id c H K) K in Follows d (talk g.id (bytes d (after hs K))) (after hs K)
        by false f = quietly d (ap (piece_of d) z ∙ ap (λ t. cond t octets []) f) (at_places g c (newly_completed g.id c H K) K) (input_quiet g (input.Piece c octets) H K (comes_proper g J e) d f)
        by true f = subst (λ x. let hs = at_places g x (newly_completed g.id x H K) K in Follows d (talk g.id (bytes d (after hs K))) (after hs K)) (eqb-true d c f)
            (piece d (sound_bytes g d (at_places g d (newly_completed g.id d H K) K) K (input_sound g (input.Piece d octets) H K (comes_proper g J e) refl (are_others g J))))
    on_input i z d = quietly d (ap (piece_of d) z) (at_input g i H K) (input_quiet g i H K (comes_proper g J e) d refl)

    next : Told (with_entry g e H)
    next = by (has_stopped H) refl
      where
        by : (b : Bool) → has_stopped H ≡ b → Told (after (cond b [] (at_input g e.input H K)) K)
        by true s = λ d. idle d (bytes d H) (cond (was_opened d H) (piece_of d e.input) []) K (ap (λ cs. list_any (eqb d) cs && not (is_ignored d K)) (leaves_nothing g J s).none_open) (come d (talk g.id (bytes d H)) e H (o d))
        by false s = λ d. on_input e.input refl d

  none_told : Told []
  none_told d = record {
    rest = [];
    front = ap heard (nothing_said g.id);
    whole = λ v. ap heard (nothing_said g.id);
    sound = λ v. ap has_fault (nothing_said g.id);
    who = λ v. sym (ap introduced (nothing_said g.id));
  }

  pub follows_octets : (journal : List Entry) → Told (chronicle g journal)
  follows_octets journal = each_entry g Told next none_told journal

  pub runs_on_octets : (journal : List Entry) → RunsOnOctets g (chronicle g journal)
  runs_on_octets journal = record {
    is_front = λ c. ((told c).rest, (told c).front);
    is_all = λ c l r.
        let live : is_live c H ≡ true = and_from (is_open c H) (not (is_ignored c H)) (p.running.is_heard c l (run_is H p c l r) (has_started H p c l r).1) (rw r refl) in
        ((told c).whole live, fault_none (fault_in g.id (bytes c H)) (map (λ a. Arrived a) (arrivals g.id (bytes c H))) ((told c).sound live));
  }
    where
      H : List Mark
      H = chronicle g journal

      p : IsProper H
      p = is_proper g journal

      told : Told H
      told = follows_octets journal
