-- What a node holds stays within its limits.
use Rattle.std.proofs.Common.{◌≡◌, ℕ, ◌+◌, ◌*◌, ◌≤◌, Bool, true, false, cond, eqb, List, [], ◌∷◌, ◌++◌, length, filter, find, None, IsSome, refl, sym, ap, ◌∙◌, arith, subst, append-nil}
use Rattle.std.specs.List.{AllByRecursion, list_all, list_any}
use Rattle.std.proofs.lemmas.Bool.{and_parts}
use Rattle.std.proofs.lemmas.List.Elements.{All-from_recursion}
use Rattle.std.proofs.lemmas.List.Sums.{sum_by-le, sum_by-cons}
use Rattle.zre_values.specs.declared.limits.TheConstants.{UNSENT_OCTETS}
use Rattle.zre_zmtp.specs.declared.want.Want.TheVariants.{Router, Dealer}
use Rattle.zre_mailbox.specs.Talk.{fault_in}
use Rattle.zre_outside.specs.declared.entry.Entry.{Entry}
use Rattle.zre_outside.specs.declared.entry.Input.{Input}
use Rattle.zre_outside.specs.declared.entry.Input.TheVariants as input
use Rattle.zre_link.specs.Heard.{reply_fault}
use Rattle.zre_journal.specs.Endings.{is_end}
use Rattle.zre_values.specs.declared.settings.Settings.{Settings as Config}
use Rattle.zre_journal.specs.Chronicle.{Mark, Comes, after}
use Rattle.zre_journal.specs.Config.{CanBe}
use Rattle.zre_values.specs.Settings.{is_fitting}
use Rattle.zre_journal.specs.Heard.{was_opened, bytes, piece_of}
use Rattle.zre_journal.specs.Connections.{open_ones, is_live}
use Rattle.zre_journal.specs.Peers.{Life, lives, life, is_entered, view}
use Rattle.zre_journal.specs.Links.{groups, is_linked, replies, reply_of, unsent}
use Rattle.zre_journal.specs.Introducing.{Introduces}
use Rattle.zre_journal.specs.Held.{unfinished, header_octets, view_octets, conn_octets, reply_octets, peer_octets, own_octets, held, stream_most, view_most, own_most, Within, bound}
use Rattle.zre_journal.specs.Happens.{has_stopped, at_input, with_entry, chronicle_after}
use Rattle.zre_journal.specs.Commands.{at_stop}
use Rattle.zre_journal.specs.Events.{chronicle}
use Rattle.zre_journal.specs.Proper.{IsProper}
use Rattle.zre_journal.proofs.ProperChronicles.{empty}
use Rattle.zre_journal.proofs.LiveConnectionsFaultless.{names_conn, names_link, AreFaultless, faultless_after, bytes_stay, replies_stay, still_going, not_open, conn_ends, link_ends}
use Rattle.zre_journal.proofs.WithinCounts.{are_few, kept-length}
use Rattle.zre_journal.proofs.HelloFits.{small, fitting, introduces}
use Rattle.zre_journal.proofs.KnownPeers.{each_known}
use Rattle.zre_journal.proofs.NumberedLists.{All-map}
use Rattle.zre_journal.proofs.WithinLimits.{HasRoom, AllFit, room-after, room-empty, can_introduce}
use Rattle.zre_journal.proofs.WhenMarksCome.{Allowed, steps}
use Rattle.zre_journal.proofs.NothingAfterStop.{at_end, stopped, stop-is, none_known, none_open, room-stopped}
use Rattle.zre_journal.proofs.UnfinishedStreams.{unfinished-most}
use Rattle.zre_journal.proofs.ViewOctets.{view-most}
use Rattle.zre_journal.proofs.SaidOnConnections.{input_allowed, input_fits}
use Rattle.zre_journal.proofs.ProperPeers.{Comes-proper}

-- what holds after each entry
record IsSound (g : Config) (H : List Mark) : Type 0 where
  proper : IsProper H
  room : HasRoom g H
  talks : (c : ℕ) → is_live c H ≡ true → fault_in g.id (bytes c H) ≡ None
  answers : (l : ℕ) → IsSome (life l H) → reply_fault (replies l H) ≡ None
  rest : has_stopped H ≡ true → (lives H ≡ []) × (open_ones H ≡ [])

-- ---- one entry

unnamed_conn : (i : Input) (c : ℕ) → names_conn c i ≡ false → piece_of c i ≡ []
unnamed_conn (input.Piece d o) c n = ap (λ b. cond b o []) n
unnamed_conn _ c n = refl

unnamed_link : (i : Input) (l : ℕ) → names_link l i ≡ false → reply_of l i ≡ []
unnamed_link (input.Reply k o) l n = ap (λ b. cond b o []) n
unnamed_link _ l n = refl

-- nothing more is nothing
none_more : (b : Bool) (xs ys : List ℕ) → ys ≡ [] → xs ++ cond b ys [] ≡ xs
none_more true xs ys e = ap (λ zs. xs ++ zs) e ∙ append-nil xs
none_more false xs ys e = append-nil xs

module _ (g : Config) (can : CanBe g) where
  -- nobody is known and nothing is open
  at_rest : (H : List Mark) → IsProper H → HasRoom g H → lives H ≡ [] → open_ones H ≡ [] → IsSound g H
  at_rest H q r e f = record {
    proper = q;
    room = r;
    talks = λ c v. let z : is_live c H ≡ false = not_open g c H (ap (λ cs. list_any (eqb c) cs) f) in let y : true ≡ false = sym v ∙ z in cc;
    answers = λ l s. absurd (none_there l s);
    rest = λ z. (e, f);
  }
    where
      none_there : (l : ℕ) → IsSome (life l H) → ⊥
      none_there l s = let z : IsSome (find (λ (v : Life). eqb l v.link) []) = subst (λ vs. IsSome (find (λ (v : Life). eqb l v.link) vs)) e s in cc

  module _ (e : Entry) (H : List Mark) (o : IsSound g H) where
    come : IsProper (Comes e ∷ H)
    come = Comes-proper H o.proper e

    room : HasRoom g (Comes e ∷ H)
    room = record { unsent_fits = o.room.unsent_fits; views_fit = o.room.views_fit; groups_fit = o.room.groups_fit; few_groups = o.room.few_groups }

    -- the node has stopped
    rests : has_stopped H ≡ true → IsSound g (Comes e ∷ H)
    rests z = let r = o.rest z in at_rest (Comes e ∷ H) come room r.0 r.1

    -- the node stops
    ends : is_end e.input ≡ true → IsSound g (after (at_input g e.input H (Comes e ∷ H)) (Comes e ∷ H))
    ends z =
        let M = Comes e ∷ H in
        let all : after (at_input g e.input H M) M ≡ stopped g M = ap (λ hs. after hs M) (at_end g e.input H M z) ∙ stop-is g M in
        let q : IsProper (stopped g M) = subst IsProper (stop-is g M) (steps (at_stop g M) M come (subst (λ hs. Allowed hs M) (at_end g e.input H M z) (input_allowed g e.input H M come))) in
        subst (IsSound g) (sym all) (at_rest (stopped g M) q (room-stopped g M room) (none_known g M) (none_open g M))

    -- it goes on
    module _ (going : has_stopped H ≡ false) (on : is_end e.input ≡ false) where
      abbrev M : List Mark
      M = Comes e ∷ H

      abbrev hs : List Mark
      hs = at_input g e.input H M

      allowed : Allowed hs M
      allowed = input_allowed g e.input H M come

      fit : AllFit g hs M
      fit = input_fits g e.input H M come can on room

      so_far : AreFaultless g e.input M
      so_far = record {
        talks = λ c n v. ap (fault_in g.id) (none_more (was_opened c H) (bytes c H) (piece_of c e.input) (unnamed_conn e.input c n)) ∙ o.talks c v;
        answers = λ l n s. ap reply_fault (none_more (is_linked l H) (replies l H) (reply_of l e.input) (unnamed_link e.input l n)) ∙ o.answers l s;
      }

      later : AreFaultless g e.input (after hs M)
      later = faultless_after g e.input hs M come allowed fit so_far

      goes_on : IsSound g (after hs M)
      goes_on = record {
        proper = steps hs M come allowed;
        room = room-after g hs M come allowed fit room;
        talks = λ c v. talk c v (names_conn c e.input) refl;
        answers = λ l s. answer l s (names_link l e.input) refl;
        rest = λ z. let y : true ≡ false = sym z ∙ still_going g hs M fit ∙ going in cc;
      }
        where
          talk : (c : ℕ) → is_live c (after hs M) ≡ true → (b : Bool) → names_conn c e.input ≡ b → fault_in g.id (bytes c (after hs M)) ≡ None
          talk c v false n = later.talks c n v
          talk c v true n = ap (fault_in g.id) (bytes_stay g hs M c fit) ∙ conn_ends g e.input c H M (cond (was_opened c H) (piece_of c e.input) []) n refl (o.talks c) v

          unlinked : (l : ℕ) → is_linked l H ≡ false → replies l M ≡ replies l H
          unlinked l u = ap (λ b. replies l H ++ cond b (reply_of l e.input) []) u ∙ append-nil (replies l H)

          answer : (l : ℕ) → IsSome (life l (after hs M)) → (b : Bool) → names_link l e.input ≡ b → reply_fault (replies l (after hs M)) ≡ None
          answer l s false n = later.answers l n s
          answer l s true n = ap reply_fault (replies_stay g hs M l fit) ∙ link_ends g e.input l H M n (λ u k. ap reply_fault (unlinked l u) ∙ o.answers l k) s

    one_more : IsSound g (with_entry g e H)
    one_more = by (has_stopped H) refl (is_end e.input) refl
      where
        by : (b : Bool) → has_stopped H ≡ b → (d : Bool) → is_end e.input ≡ d → IsSound g (after (cond b [] (at_input g e.input H (Comes e ∷ H))) (Comes e ∷ H))
        by true z d y = rests z
        by false z true y = ends y
        by false z false y = goes_on z y

  sound_after : (es : List Entry) (H : List Mark) → IsSound g H → IsSound g (chronicle_after g es H)
  sound_after [] H o = o
  sound_after (e ∷ es) H o = sound_after es (with_entry g e H) (one_more e H o)

  sound : (journal : List Entry) → IsSound g (chronicle g journal)
  sound journal = sound_after journal [] (at_rest [] empty (room-empty g can) refl refl)

  -- nothing that is read has had a fault
  pub talks-faultless : (journal : List Entry) (c : ℕ) → is_live c (chronicle g journal) ≡ true → fault_in g.id (bytes c (chronicle g journal)) ≡ None
  talks-faultless journal = (sound journal).talks

  pub answers-faultless : (journal : List Entry) (l : ℕ) → IsSome (life l (chronicle g journal)) → reply_fault (replies l (chronicle g journal)) ≡ None
  answers-faultless journal = (sound journal).answers

  -- HELLO fits, whatever groups there are
  pub introduced : (journal : List Entry) → Introduces g (chronicle g journal)
  introduced journal = introduces g (chronicle g journal) (can_introduce g can (chronicle g journal) (sound journal).room)

  -- ---- the limits

  headers_most : (hs : List (List ℕ × List ℕ)) → list_all is_fitting hs ≡ true → header_octets hs ≤ length hs * 1279
  headers_most [] h = omega arith
  headers_most (x ∷ hs) h =
      let p = and_parts (is_fitting x) (list_all is_fitting hs) h in
      let f = fitting x p.0 in
      omega (arith, f.0, f.1, headers_most hs p.1, sum_by-cons (λ (y : List ℕ × List ℕ). length y.0 + length y.1) x hs)

  own_within : (H : List Mark) → HasRoom g H → own_octets g H ≤ own_most
  own_within H r =
      let s = small g can.valid in
      omega (arith, s.name, s.few, headers_most g.headers s.fit, r.few_groups, sum_by-le length 255 (groups H) (All-from_recursion (λ group. length group ≤ 255) (groups H) r.groups_fit))

  conns_within : (H : List Mark) → IsSound g H → (cs : List ℕ) → AllByRecursion (λ c. conn_octets g H c ≤ stream_most) (filter (λ c. is_live c H) cs)
  conns_within H o [] = tt
  conns_within H o (c ∷ cs) = by (conns_within H o cs) (is_live c H) refl
    where
      by : AllByRecursion (λ d. conn_octets g H d ≤ stream_most) (filter (λ d. is_live d H) cs) → (b : Bool) → is_live c H ≡ b
          → AllByRecursion (λ d. conn_octets g H d ≤ stream_most) (cond b (c ∷ filter (λ d. is_live d H) cs) (filter (λ d. is_live d H) cs))
      by r true v = (unfinished-most (Dealer g.id) (bytes c H) (o.talks c v), r)
      by r false v = r

  reply_within : (H : List Mark) → IsSound g H → (v : Life) → IsSome (life v.link H) → reply_octets g H v.link ≤ stream_most
  reply_within H o v k = by (is_linked v.link H)
    where
      by : (b : Bool) → cond b (unfinished Router (replies v.link H)) 0 ≤ stream_most
      by true = unfinished-most Router (replies v.link H) (o.answers v.link k)
      by false = omega arith

  pub within : (journal : List Entry) → Within g (chronicle g journal)
  within journal =
      let H = chronicle g journal in
      let o = sound journal in
      let few = are_few g journal in
      let known = each_known H in
      record {
        few_peers = few.few_peers;
        few_connections = few.few_connections;
        by_connections = conns_within H o (open_ones H);
        by_replies = All-map (λ (v : Life). IsSome (life v.link H)) (λ (v : Life). reply_octets g H v.link ≤ stream_most) (reply_within H o) (lives H) known;
        by_unsent = All-map (λ (v : Life). IsSome (life v.link H)) (λ (v : Life). unsent g v.link H ≤ UNSENT_OCTETS) (λ v k. o.room.unsent_fits v.link) (lives H) known;
        by_views = All-map (λ (v : Life). IsSome (life v.link H)) (λ (v : Life). view_octets (view v.link H) ≤ view_most) (λ v k. view-most (view v.link H) (o.room.views_fit v.link)) (lives H) known;
        by_itself = own_within H o.room;
      }

-- ---- the sum

module _ (g : Config) (H : List Mark) (w : Within g H) where
  peer_most : (v : Life) → reply_octets g H v.link ≤ stream_most → unsent g v.link H ≤ UNSENT_OCTETS → view_octets (view v.link H) ≤ view_most → peer_octets g H v ≤ 6618121
  peer_most v a b c = by (is_entered H v)
    where
      by : (t : Bool) → reply_octets g H v.link + unsent g v.link H + cond t (view_octets (view v.link H)) 0 ≤ 6618121
      by true = omega (arith, a, b, c)
      by false = omega (arith, a, b)

  peers_most : (vs : List Life) → AllByRecursion (λ (v : Life). reply_octets g H v.link ≤ stream_most) vs → AllByRecursion (λ (v : Life). unsent g v.link H ≤ UNSENT_OCTETS) vs
      → AllByRecursion (λ (v : Life). view_octets (view v.link H) ≤ view_most) vs → AllByRecursion (λ (v : Life). peer_octets g H v ≤ 6618121) vs
  peers_most [] a b c = tt
  peers_most (v ∷ vs) a b c = (peer_most v a.0 b.0 c.0, peers_most vs a.1 b.1 c.1)

  pub held-most : held g H ≤ bound (length (lives H)) (length (open_ones H))
  held-most =
      let live = filter (λ c. is_live c H) (open_ones H) in
      omega (
        arith,
        sum_by-le (conn_octets g H) 1114121 live (All-from_recursion (λ c. conn_octets g H c ≤ 1114121) live w.by_connections),
        kept-length (λ c. is_live c H) (open_ones H),
        sum_by-le (peer_octets g H) 6618121 (lives H) (All-from_recursion (λ (v : Life). peer_octets g H v ≤ 6618121) (lives H) (peers_most (lives H) w.by_replies w.by_unsent w.by_views)),
        w.by_itself,
      )
