-- When marks leave what is kept of groups, links and views within its limits, and that it stays so after marks that do.
use Rattle.std.proofs.Common.{◌≡◌, ℕ, ◌+◌, ◌-◌, ◌<◌, ◌≤◌, Bool, true, false, cond, ◌&&◌, eqb, List, [], ◌∷◌, ◌++◌, length, Some, None, refl, sym, ap, ◌∙◌, arith, eqb-true, subst, append-nil, length-append}
use Rattle.std.specs.List.{AllByRecursion}
use Rattle.std.proofs.lemmas.Bool.{and_parts}
use Rattle.zre_values.specs.declared.limits.TheConstants.{MESSAGE_OCTETS, UNSENT_OCTETS, OWN_GROUPS, GROUP_OCTETS}
use Rattle.zre_msg.specs.Spelling.{octets}
use Rattle.zre_msg.specs.declared.message.Body.{Body}
use Rattle.zre_msg.specs.declared.message.Message.{Message}
use Rattle.zre_zmtp.specs.Written.{pong_frame}
use Rattle.zre_link.specs.Text.{Member, Says, Pongs, text_of, next_message, size_of}
use Rattle.zre_link.proofs.AppendedMembers.{text_more, text_pongs}
use Rattle.zre_peer.specs.Runs.{is_hello}
use Rattle.zre_peer.specs.Views.{view_of, is_small}
use Rattle.zre_peer.proofs.ViewsWithinLimits.{length-without}
use Rattle.zre_values.specs.declared.settings.Settings.{Settings as Config}
use Rattle.zre_journal.specs.Chronicle.{Mark, Comes, Starts, Counts, Puts, PutsPong, Sends, Joins, Leaves, Stops, after, ever, followed}
use Rattle.zre_journal.specs.Config.{CanBe}
use Rattle.zre_journal.specs.Connections.{refuses}
use Rattle.zre_journal.specs.Peers.{counted, view}
use Rattle.zre_journal.specs.Links.{groups, line, taken, unsent}
use Rattle.zre_journal.specs.Proper.{IsProper}
use Rattle.zre_journal.proofs.HelloOctets.{hello_octets}
use Rattle.zre_journal.proofs.HelloFits.{CanIntroduce, new-short}
use Rattle.zre_journal.proofs.NumberedLists.{All-append, All-without}
use Rattle.zre_journal.proofs.WhenMarksCome.{May, Allowed, step, Each}
use Rattle.zre_journal.proofs.ViewOctets.{IsShortView, blank-short, first-short, later-short}

-- what is put and not sent, what is told, and the node's own groups are within their limits
pub record HasRoom (g : Config) (H : List Mark) : Type 0 where
  pub unsent_fits : (l : ℕ) → unsent g l H ≤ UNSENT_OCTETS
  pub views_fit : (l : ℕ) → IsShortView (view l H)
  pub groups_fit : AllByRecursion (λ group. length group ≤ GROUP_OCTETS) (groups H)
  pub few_groups : length (groups H) ≤ OWN_GROUPS

module _ (g : Config) where
  -- whether a mark keeps these limits after H. Neither an entry nor a stop is among those that are asked
  abbrev pub Fits : Mark → List Mark → Type 0
  Fits (Comes e) H = ⊥
  Fits (Starts c l m) H = (ever (refuses c) H ≡ false) × (hello_octets m.body ≤ MESSAGE_OCTETS)
  Fits (Puts l b) H = unsent g l H + size_of (line l H) b ≤ UNSENT_OCTETS
  Fits (PutsPong l t) H = unsent g l H + length (pong_frame t) ≤ UNSENT_OCTETS
  Fits (Joins group) H = (length group ≤ GROUP_OCTETS) × (length (groups H) < OWN_GROUPS)
  Fits Stops H = ⊥
  Fits _ H = Unit {0}

  -- whether marks do, each after those before it
  abbrev pub AllFit : List Mark → List Mark → Type 0
  AllFit hs H = Each Fits hs H

  -- ---- mark by mark

  -- one more body on a link
  put_room : (ms : List Member) (b : Body) (n : ℕ) → length (text_of g.id ms) - n + size_of ms b ≤ UNSENT_OCTETS → length (text_of g.id (ms ++ Says b ∷ [])) - n ≤ UNSENT_OCTETS
  put_room ms b n fits =
      let more : length (text_of g.id (ms ++ Says b ∷ [])) ≡ length (text_of g.id ms) + size_of ms b = ap length (text_more g.id ms b) ∙ length-append (text_of g.id ms) (octets (next_message ms b)) in
      omega (arith, more, fits)

  puts : (l : ℕ) (b : Body) (H : List Mark) → unsent g l H + size_of (line l H) b ≤ UNSENT_OCTETS → ((k : ℕ) → unsent g k H ≤ UNSENT_OCTETS) → (k : ℕ) → unsent g k (Puts l b ∷ H) ≤ UNSENT_OCTETS
  puts l b H fits was k = by (eqb k l) refl
    where
      by : (t : Bool) → eqb k l ≡ t → length (text_of g.id (followed (line k H) (cond t (Some (Says b)) None))) - taken k H ≤ UNSENT_OCTETS
      by true q = put_room (line k H) b (taken k H) (subst (λ x. unsent g x H + size_of (line x H) b ≤ UNSENT_OCTETS) (sym (eqb-true k l q)) fits)
      by false q = was k

  -- one more PONG leaves at most as many more as it has
  pub pong_more : (ms : List Member) (t : List ℕ) (n : ℕ) → length (text_of g.id (ms ++ Pongs t ∷ [])) - n ≤ length (text_of g.id ms) - n + length (pong_frame t)
  pong_more ms t n =
      let more : length (text_of g.id (ms ++ Pongs t ∷ [])) ≡ length (text_of g.id ms) + length (pong_frame t) =
      ap length (text_pongs g.id ms (t ∷ [])) ∙ length-append (text_of g.id ms) (pong_frame t ++ []) ∙ ap (λ (o : List ℕ). length (text_of g.id ms) + length o) (append-nil (pong_frame t)) in
      omega (arith, more)

  pongs : (l : ℕ) (c : List ℕ) (H : List Mark) → unsent g l H + length (pong_frame c) ≤ UNSENT_OCTETS → ((k : ℕ) → unsent g k H ≤ UNSENT_OCTETS) → (k : ℕ) → unsent g k (PutsPong l c ∷ H) ≤ UNSENT_OCTETS
  pongs l c H fits was k = by (eqb k l) refl
    where
      by : (t : Bool) → eqb k l ≡ t → length (text_of g.id (followed (line k H) (cond t (Some (Pongs c)) None))) - taken k H ≤ UNSENT_OCTETS
      by true q =
          let here : length (text_of g.id (line k H)) - taken k H + length (pong_frame c) ≤ UNSENT_OCTETS = subst (λ x. unsent g x H + length (pong_frame c) ≤ UNSENT_OCTETS) (sym (eqb-true k l q)) fits in
          omega (arith, here, pong_more (line k H) c (taken k H))
      by false q = was k

  takes : (l n : ℕ) (H : List Mark) → ((k : ℕ) → unsent g k H ≤ UNSENT_OCTETS) → (k : ℕ) → unsent g k (Sends l n ∷ H) ≤ UNSENT_OCTETS
  takes l n H was k = by (eqb k l)
    where
      by : (t : Bool) → length (text_of g.id (line k H)) - cond t (taken k H + n) (taken k H) ≤ UNSENT_OCTETS
      by true = let r : length (text_of g.id (line k H)) - taken k H ≤ UNSENT_OCTETS = was k in omega (arith, r)
      by false = was k

  starts : (c l : ℕ) (m : Message) (H : List Mark) → IsProper H → May (Starts c l m) H → hello_octets m.body ≤ MESSAGE_OCTETS → ((k : ℕ) → IsShortView (view k H)) → (k : ℕ) → IsShortView (view k (Starts c l m ∷ H))
  starts c l m H q may le was k = by (eqb k l) refl
    where
      silent : counted l H ≡ []
      silent = q.running.is_silent l may.free

      by : (t : Bool) → eqb k l ≡ t → IsShortView (view_of (followed (counted k H) (cond t (Some m) None)))
      by true e =
          let none : counted k H ≡ [] = ap (λ x. counted x H) (eqb-true k l e) ∙ silent in
          let p = and_parts (is_hello m.body && eqb m.sequence 1) (is_small (view_of (m ∷ []))) may.first in
          let h = and_parts (is_hello m.body) (eqb m.sequence 1) p.0 in
          rw none (first-short m h.0 p.1 le)
      by false e = was k

  counts : (c l : ℕ) (m : Message) (H : List Mark) → May (Counts c l m) H → ((k : ℕ) → IsShortView (view k H)) → (k : ℕ) → IsShortView (view k (Counts c l m ∷ H))
  counts c l m H may was k = by (eqb k l) refl
    where
      by : (t : Bool) → eqb k l ≡ t → IsShortView (view_of (followed (counted k H) (cond t (Some m) None)))
      by true e = later-short (counted k H) m may.later (subst (λ x. is_small (view_of (counted x H ++ m ∷ [])) ≡ true) (sym (eqb-true k l e)) may.small) (was k)
      by false e = was k

  pub room-more : (h : Mark) (H : List Mark) → IsProper H → May h H → Fits h H → HasRoom g H → HasRoom g (h ∷ H)
  room-more (Puts l b) H q m f o = record { unsent_fits = puts l b H f o.unsent_fits; views_fit = o.views_fit; groups_fit = o.groups_fit; few_groups = o.few_groups }
  room-more (PutsPong l t) H q m f o = record { unsent_fits = pongs l t H f o.unsent_fits; views_fit = o.views_fit; groups_fit = o.groups_fit; few_groups = o.few_groups }
  room-more (Sends l n) H q m f o = record { unsent_fits = takes l n H o.unsent_fits; views_fit = o.views_fit; groups_fit = o.groups_fit; few_groups = o.few_groups }
  room-more (Starts c l s) H q m f o = record { unsent_fits = o.unsent_fits; views_fit = starts c l s H q m f.1 o.views_fit; groups_fit = o.groups_fit; few_groups = o.few_groups }
  room-more (Counts c l s) H q m f o = record { unsent_fits = o.unsent_fits; views_fit = counts c l s H m o.views_fit; groups_fit = o.groups_fit; few_groups = o.few_groups }
  room-more (Joins group) H q m f o = record {
    unsent_fits = o.unsent_fits;
    views_fit = o.views_fit;
    groups_fit = All-append (λ x. length x ≤ GROUP_OCTETS) (groups H) group o.groups_fit f.0;
    few_groups = omega (arith, f.1, length-append (groups H) (group ∷ []));
  }
  room-more (Leaves group) H q m f o = record {
    unsent_fits = o.unsent_fits;
    views_fit = o.views_fit;
    groups_fit = All-without (λ x. length x ≤ GROUP_OCTETS) group (groups H) o.groups_fit;
    few_groups = omega (arith, length-without group (groups H), o.few_groups);
  }
  room-more _ H q m f o = record { unsent_fits = o.unsent_fits; views_fit = o.views_fit; groups_fit = o.groups_fit; few_groups = o.few_groups }

  pub room-after : (hs H : List Mark) → IsProper H → Allowed hs H → AllFit hs H → HasRoom g H → HasRoom g (after hs H)
  room-after [] H q a f o = o
  room-after (h ∷ hs) H q a f o = room-after hs (h ∷ H) (step h H q a.0) a.1 f.1 (room-more h H q a.0 f.0 o)

  pub room-empty : CanBe g → HasRoom g []
  room-empty can = record {
    unsent_fits = λ l. omega (arith, new-short g.id can.sixteen);
    views_fit = λ l. blank-short;
    groups_fit = tt;
    few_groups = omega arith;
  }

  pub can_introduce : CanBe g → (H : List Mark) → HasRoom g H → CanIntroduce g H
  can_introduce can H o = record { valid = can.valid; sixteen = can.sixteen; host_is = can.host_is; port_fits = can.port_fits; groups_fit = o.groups_fit; few_groups = o.few_groups }
