-- Rows of known peers, of which one was lent and came back changed.
use Rattle.std.proofs.Common.{◌≡◌, ℕ, ◌+◌, ◌≤◌, ◌++◌, ◌||◌, Bool, ltb, List, [], ◌∷◌, Some, None, Result, Ok, OnOk, OnErr, IfErr, refl, sym, ap, ◌∙◌}
use Rattle.std.proofs.lemmas.Result.{on_err_weaker}
use Rattle.std.specs.List.{slice_set}
use Rattle.zre_values.specs.declared.limits.TheConstants.{UNSENT_OCTETS}
use Rattle.zre_values.specs.declared.peer_id.PeerId.{PeerId}
use Rattle.zre_values.proofs.AnswersThatAreOk.{on_ok}
use Rattle.zre_msg.specs.declared.message.Body.{Body}
use Rattle.zre_link.specs.declared.fault.PushFault.{PushFault}
use Rattle.zre_link.specs.Link.{Sending, link_after, unsent_of, RefusesPush}
use Rattle.zre_link.specs.Text.{Member, Says, size_of}
use Rattle.zre_timers.specs.Moments.{Moments}
use Rattle.zre_tables.specs.Agreement.{Agree}
use Rattle.zre_tables.specs.Rows.{row_at, with_row}
use Rattle.zre_tables.specs.declared.peer.Peer.{Peer}
use Rattle.zre_tables.proofs.SumsAgreeWithRows.{still_agrees, renewed_agrees}
use Rattle.zre_tables.proofs.RowsInOrder.{Lies}
use Rattle.zre_tables.proofs.ChangedRows.{same, there, put_back, put_same, relink, retaken}

-- row lies under n at i among the rows es: it is lent, and comes back with w as its peer
module _ (n i : ℕ) (es : List (ℕ × Peer)) (row : ℕ × Peer) (it : Lies es n i row) where
  -- it comes back with another link
  pub relinked_agrees : (s : Sending) (heard : Moments) (r : Bool) → Agree es heard r → Agree (slice_set es i (row.0, record row.1 { link = s })) heard r
  relinked_agrees s heard r a = let w = record row.1 { link = s } in still_agrees es _ heard r n row.1 w it.there_is (it.set w) refl a

  -- it comes back after its peer has shown that it is there
  pub renewed : (w : Peer) (heard : Moments) (r r' : Bool) (t : ℕ) → w.active ≡ t → r' ≡ (r || ltb t row.1.active) → Agree es heard r → Agree (slice_set es i (row.0, w)) heard r'
  renewed w heard r r' t active back a = renewed_agrees es _ heard r r' n t row.1 w it.there_is (it.set w) active back a

  -- the rows are seen as `now`
  module _ (now : List (ℕ × Peer)) (view_is : es ≡ now) where
    pub its_link : (x : Peer) (before : Sending) → row_at n now ≡ Some x → x.link ≡ before → row.1.link ≡ before
    its_link x before at is = ap (λ (y : Peer). y.link) (same n es now view_is row.1 (sym it.there_is) x at) ∙ is

    -- its peer has shown that it is there, and it is put back with another run
    pub reran : (p w x : Peer) (t : ℕ) → p ≡ record row.1 { active = t } → w ≡ record p { run = w.run } → row_at n now ≡ Some x → (p.run ≡ x.run) × (slice_set es i (row.0, w) ≡ with_row n (record x { active = t; run = w.run }) now)
    reran p w x t timed ran at =
        let e : row.1 ≡ x = same n es now view_is row.1 (sym it.there_is) x at in (
          ap (λ (y : Peer). y.run) (timed ∙ ap (λ (y : Peer). record y { active = t }) e),
          put_back n es now view_is row.1 (sym it.there_is) w _ (it.set w) _ (retaken row.1 p x w t e timed ran),
        )

    -- it is put back with the link s
    module _ (s : Sending) where
      -- which is what it was
      pub still_linked : s ≡ row.1.link → slice_set es i (row.0, record row.1 { link = s }) ≡ now
      still_linked e = let w = record row.1 { link = s } in put_same n es now view_is row.1 (sym it.there_is) w _ (it.set w) (ap (λ (t : Sending). record row.1 { link = t }) e)

      -- which is what it was, changed
      pub relinked : (x : Peer) (before after : Sending) → (row.1.link ≡ before → s ≡ after) → row_at n now ≡ Some x → x.link ≡ before → slice_set es i (row.0, record row.1 { link = s }) ≡ with_row n (record x { link = after }) now
      relinked x before after so at is =
          let e : row.1 ≡ x = same n es now view_is row.1 (sym it.there_is) x at in
          let w = record row.1 { link = s } in
          put_back n es now view_is row.1 (sym it.there_is) w _ (it.set w) _ (relink row.1 x s after e (so (ap (λ (y : Peer). y.link) e ∙ is)))

      -- a body was put on the link, or was refused
      pub put_or_refused : (r : Result (Unit {0}) PushFault) (b : Body)
          → ((own : PeerId) (line : List Member) (linked : Bool) (o : List ℕ) (g : ℕ) → row.1.link ≡ link_after own line linked o g → OnOk r ((unsent_of own line g + size_of line b ≤ UNSENT_OCTETS) × (s ≡ link_after own (line ++ Says b ∷ []) linked o g)))
          → ((own : PeerId) (line : List Member) (linked : Bool) (o : List ℕ) (g : ℕ) → row.1.link ≡ link_after own line linked o g → IfErr r (λ e. RefusesPush e (unsent_of own line g) (size_of line b))) → OnErr r (s ≡ row.1.link)
          → ((x : Peer) (own : PeerId) (line : List Member) (linked : Bool) (o : List ℕ) (g : ℕ) → row_at n now ≡ Some x → x.link ≡ link_after own line linked o g
          → OnOk r ((unsent_of own line g + size_of line b ≤ UNSENT_OCTETS) × (slice_set es i (row.0, record row.1 { link = s }) ≡ with_row n (record x { link = link_after own (line ++ Says b ∷ []) linked o g }) now)))
          × ((x : Peer) (own : PeerId) (line : List Member) (linked : Bool) (o : List ℕ) (g : ℕ) → row_at n now ≡ Some x → x.link ≡ link_after own line linked o g → IfErr r (λ e. RefusesPush e (unsent_of own line g) (size_of line b)))
          × OnErr r (slice_set es i (row.0, record row.1 { link = s }) ≡ now) × (row_at n now ≡ None → (slice_set es i (row.0, record row.1 { link = s }) ≡ now) × (r ≡ Ok tt))
      put_or_refused r b ok refused unchanged = (
        λ x own line linked o g at is. on_ok r (ok own line linked o g (its_link x _ at is)) (λ a. (a.0, relinked x (link_after own line linked o g) _ (λ z. a.1) at is)),
        λ x own line linked o g at is. refused own line linked o g (its_link x _ at is),
        on_err_weaker r (λ e. still_linked e) unchanged,
        λ none. there n es now view_is row.1 (sym it.there_is) none,
      )
