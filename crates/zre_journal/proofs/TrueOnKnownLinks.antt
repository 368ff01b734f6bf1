-- What a node says of itself on the links of known peers is true after each entry.
use Rattle.std.proofs.Common.{ℕ, ◌+◌, ◌%◌, true, false, cond, List, [], ◌∷◌, ◌++◌, refl, sym, ap, ◌∙◌, subst, ◌≡◌}
use Rattle.zre_outside.specs.declared.entry.Entry.{Entry}
use Rattle.zre_msg.specs.declared.message.Body.TheVariants as body
use Rattle.zre_peer.specs.Members.{first_named}
use Rattle.zre_peer.specs.Views.{blank, view_of}
use Rattle.zre_peer.specs.declared.view.View.{View}
use Rattle.zre_values.specs.declared.settings.Settings.{Settings as Config}
use Rattle.zre_journal.specs.Chronicle.{Mark, Comes, Starts, Joins, Leaves, after}
use Rattle.zre_journal.specs.Config.{own_endpoint}
use Rattle.zre_journal.specs.Events.{chronicle}
use Rattle.zre_journal.specs.Peers.{lives, births}
use Rattle.zre_journal.specs.Links.{groups, status, bodies}
use Rattle.zre_journal.specs.Proper.{IsProper}
use Rattle.zre_journal.specs.Pushes.{push_all, birth}
use Rattle.zre_journal.specs.Happens.{has_stopped, with_entry, chronicle_after, marks}
use Rattle.zre_journal.specs.Commands.{has_group}
use Rattle.zre_journal.specs.Truth.{TellsTruth, only_begins_with_hello}
use Rattle.zre_journal.proofs.ProperChronicles.{empty, marks_allowed}
use Rattle.zre_journal.proofs.JoinedEntries.{after-append}
use Rattle.zre_journal.proofs.BodiesOnLinks.{are_bodies}
use Rattle.zre_journal.proofs.WhenMarksCome.{steps, choice}
use Rattle.zre_journal.proofs.TrueOnLink.{told, once_more, once_less, apart_of, view_told, Truth, plain_step, plain_steps, born, changes}
use Rattle.zre_journal.proofs.ProperPeers.{Comes-proper}
use Rattle.zre_journal.proofs.EachMarkOfEntries.{Ground, allowed, plain}
use Rattle.zre_journal.proofs.MarksOfEntries.{Outcome, plainly, birth_of, start_of, joining, leaving, then, all_brought}
use Rattle.zre_journal.proofs.SaidOnConnections.{outcome}

module _ (g : Config) where
  -- ---- one entry

  module _ (K : List Mark) (q : IsProper K) (t : Truth g K) (group : List ℕ) where
    abbrev own_with : List (List ℕ) → View
    own_with gs = record { name = g.name; endpoint = own_endpoint g; headers = first_named g.headers; groups = gs; status = (status K + 1) % 256 }

    joined : has_group group (groups K) ≡ false → Truth g (after (push_all g (lives K) (body.Join group ((status K + 1) % 256)) K) (Joins group ∷ K))
    joined n = changes g (Joins group) (body.Join group ((status K + 1) % 256)) K q t (λ l. refl) (λ l. refl) (ap (λ gs. own_with gs) (ap (λ c. cond c (groups K) (groups K ++ group ∷ [])) n)) refl
        (once_more group (groups K) (apart_of group (groups K) n) t.once)

    left : Truth g (after (push_all g (lives K) (body.Leave group ((status K + 1) % 256)) K) (Leaves group ∷ K))
    left = changes g (Leaves group) (body.Leave group ((status K + 1) % 256)) K q t (λ l. refl) (λ l. refl) refl refl (once_less group (groups K) t.once)

  after_outcome : {w : Ground} {hs K : List Mark} → Outcome g w hs K → IsProper K → Truth g K → Truth g (after hs K)
  after_outcome {w} (plainly {hs = hs} {K = K} b) q t = plain_steps g hs K (plain g w false refl hs K (b false)) t
  after_outcome (birth_of {K = K} p e b) q t = born g K q p e t
  after_outcome (start_of {K = K} p e c m b) q t = plain_step g (Starts c (births K + 1) m) (after (birth g p e K) K) tt (born g K q p e t)
  after_outcome (joining {K = K} group n b) q t = joined K q t group n
  after_outcome (leaving {K = K} group b) q t = left K q t group
  after_outcome {w} (then {hs = hs} {ks = ks} {K = K} a b) q t =
      subst (Truth g) (sym (after-append hs ks K)) (after_outcome b (steps hs K q (allowed g w true hs K (all_brought a))) (after_outcome a q t))

  next : (e : Entry) (H : List Mark) → IsProper H → Truth g H → Truth g (with_entry g e H)
  next e H q t =
      let M = Comes e ∷ H in
      let come : Truth g M = record { once = t.once; first = t.first; true_ = t.true_ } in
      choice (λ hs. Truth g (after hs M)) (has_stopped H) _ _ (λ z. come) (λ z. after_outcome (outcome g e.input H M (Comes-proper H q e)) (Comes-proper H q e) come)

  later : (es : List Entry) (H : List Mark) → IsProper H → Truth g H → Truth g (chronicle_after g es H)
  later [] H q t = t
  later (e ∷ es) H q t = later es (with_entry g e H) (steps (marks g e H) (Comes e ∷ H) (Comes-proper H q e) (marks_allowed g e H q)) (next e H q t)

  truth : (journal : List Entry) → Truth g (chronicle g journal)
  truth journal = later journal [] empty (record { once = tt; first = λ l s. cc; true_ = λ l s. cc })

  pub tells_truth : (journal : List Entry) → TellsTruth g (chronicle g journal)
  unfolding view_of
  tells_truth journal =
      let t = truth journal in
      let H = chronicle g journal in
      record {
        hello_first = λ l s. ap only_begins_with_hello (are_bodies l H) ∙ t.first l s;
        is_true = λ l s. view_told 1 blank (bodies l H) ∙ ap told (are_bodies l H) ∙ t.true_ l s;
      }
