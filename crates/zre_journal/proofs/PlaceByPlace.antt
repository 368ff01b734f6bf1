-- A journal place by place: what holds before it, and stays where an entry comes and at each of its places, holds after it.
use Rattle.std.proofs.Common.{◌≡◌, ℕ, Bool, true, false, cond, List, [], ◌∷◌, ◌++◌, refl, sym, ap, ◌∙◌, subst, append_assoc, append-nil}
use Rattle.zre_outside.specs.declared.entry.Entry.{Entry}
use Rattle.zre_outside.specs.declared.entry.Input.{Input}
use Rattle.zre_outside.specs.declared.entry.Input.TheVariants as input
use Rattle.zre_mailbox.specs.Talk.{Said}
use Rattle.zre_values.specs.declared.settings.Settings.{Settings as Config}
use Rattle.zre_journal.specs.Arrivals.{at_place, at_places}
use Rattle.zre_journal.specs.Chronicle.{Mark, Comes, after}
use Rattle.zre_journal.specs.Events.{chronicle}
use Rattle.zre_journal.specs.Happens.{has_stopped, at_input, with_entry}
use Rattle.zre_journal.specs.Heard.{newly_completed}
use Rattle.zre_journal.specs.Places.{is_piece, IsEntry, Arrives}
use Rattle.zre_journal.proofs.JoinedEntries.{continues, after-append, in_turn-append}

module _ (g : Config) (J : List Entry) (P : List Mark → Type 0) (come : (H : List Mark) (e : Entry) → P H → P (Comes e ∷ H))
    (whole : (earlier : List Entry) (e : Entry) (later : List Entry) → IsEntry g J earlier e later → is_piece e.input ≡ false
    → P (Comes e ∷ chronicle g earlier) → P (after (at_input g e.input (chronicle g earlier) (Comes e ∷ chronicle g earlier)) (Comes e ∷ chronicle g earlier)))
    (place : (c : ℕ) (one : Said) (K : List Mark) → Arrives g J c one K → P K → P (after (at_place g c one K) K)) where
  module _ (earlier : List Entry) (e : Entry) (later : List Entry) (is : J ≡ earlier ++ e ∷ later) (before : P (chronicle g earlier)) where
    abbrev H : List Mark
    H = chronicle g earlier

    abbrev M : List Mark
    M = Comes e ∷ H

    -- the rest of what its octets say, after the first of it
    said_on : has_stopped H ≡ false → (c : ℕ) (o : List ℕ) → e.input ≡ input.Piece c o → (said more : List Said) → newly_completed g.id c H M ≡ said ++ more
        → P (after (at_places g c said M) M) → P (after (at_places g c (newly_completed g.id c H M) M) M)
    said_on going c o piece said [] all p = subst (λ xs. P (after (at_places g c xs M) M)) (sym (all ∙ append-nil said)) p
    said_on going c o piece said (one ∷ more) all p =
        let K = after (at_places g c said M) M in
        let a : Arrives g J c one K = record {
          earlier = earlier;
          entry = e;
          later = later;
          is_entry = record { in_journal = is; going = going };
          octets = o;
          is_piece = piece;
          said = said;
          more = more;
          completes = all;
          moment = refl;
        } in
        let joined : after (at_places g c (said ++ one ∷ []) M) M ≡ after (at_place g c one K) K =
        ap (λ ks. after ks M) (in_turn-append (at_place g c) said (one ∷ []) M) ∙ after-append (at_places g c said M) (at_place g c one K ++ []) M
        ∙ ap (λ ks. after ks K) (append-nil (at_place g c one K)) in
        said_on going c o piece (said ++ one ∷ []) more (all ∙ sym (append_assoc said (one ∷ []) more)) (subst P (sym joined) (place c one K a p))

    at : has_stopped H ≡ false → (i : Input) → e.input ≡ i → P (after (at_input g i H M) M)
    at going (input.Piece c o) z = said_on going c o z [] (newly_completed g.id c H M) refl (come H e before)
    at going i z = subst (λ j. P (after (at_input g j H M) M)) z (whole earlier e later (record { in_journal = is; going = going }) (ap is_piece z) (come H e before))

    one_more : P (with_entry g e H)
    one_more = by (has_stopped H) refl
      where
        by : (b : Bool) → has_stopped H ≡ b → P (after (cond b [] (at_input g e.input H M)) M)
        by true z = come H e before
        by false z = at z e.input refl

  rest : (earlier later : List Entry) → J ≡ earlier ++ later → P (chronicle g earlier) → P (chronicle g J)
  rest earlier [] is p = subst (λ X. P (chronicle g X)) (sym (is ∙ append-nil earlier)) p
  rest earlier (e ∷ later) is p =
      rest (earlier ++ e ∷ []) later (is ∙ sym (append_assoc earlier (e ∷ []) later))
      (subst P (sym (continues g earlier (e ∷ [])).happened) (one_more earlier e later is p))

  pub walk : P [] → P (chronicle g J)
  walk p = rest [] J refl p
