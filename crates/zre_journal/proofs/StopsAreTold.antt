-- A node stops only where it is told to.
use Rattle.std.proofs.Common.{◌≡◌, Bool, true, false, true≢false, cond, List, [], ◌∷◌, refl, sym, ap, ◌∙◌, subst}
use Rattle.std.specs.Prelude.{◌||◌}
use Rattle.std.specs.List.{list_any}
use Rattle.zre_outside.specs.declared.entry.Entry.{Entry}
use Rattle.zre_journal.specs.Endings.{is_end}
use Rattle.zre_values.specs.declared.settings.Settings.{Settings as Config}
use Rattle.zre_journal.specs.Config.{CanBe}
use Rattle.zre_journal.specs.Chronicle.{Mark, Comes, after}
use Rattle.zre_journal.specs.Events.{chronicle}
use Rattle.zre_journal.specs.Happens.{has_stopped, at_input, with_entry, chronicle_after}
use Rattle.zre_journal.specs.Proper.{IsProper}
use Rattle.zre_journal.proofs.ProperChronicles.{empty}
use Rattle.zre_journal.proofs.LiveConnectionsFaultless.{still_going}
use Rattle.zre_journal.proofs.WithinLimits.{HasRoom, AllFit, room-after, room-empty}
use Rattle.zre_journal.proofs.WhenMarksCome.{Allowed, steps}
use Rattle.zre_journal.proofs.SaidOnConnections.{input_allowed, input_fits}
use Rattle.zre_journal.proofs.ProperPeers.{Comes-proper}

module _ (g : Config) (can : CanBe g) where
  -- an entry that doesn't stop it leaves it going
  module _ (e : Entry) (H : List Mark) (proper : IsProper H) (room : HasRoom g H) (going : has_stopped H ≡ false) (on : is_end e.input ≡ false) where
    abbrev M : List Mark
    M = Comes e ∷ H

    abbrev hs : List Mark
    hs = at_input g e.input H M

    come : IsProper M
    come = Comes-proper H proper e

    spacious : HasRoom g M
    spacious = record { unsent_fits = room.unsent_fits; views_fit = room.views_fit; groups_fit = room.groups_fit; few_groups = room.few_groups }

    allowed : Allowed hs M
    allowed = input_allowed g e.input H M come

    fit : AllFit g hs M
    fit = input_fits g e.input H M come can on spacious

    whole : with_entry g e H ≡ after hs M
    whole = ap (λ b. after (cond b [] hs) M) going

    next_proper : IsProper (with_entry g e H)
    next_proper = subst IsProper (sym whole) (steps hs M come allowed)

    next_room : HasRoom g (with_entry g e H)
    next_room = subst (HasRoom g) (sym whole) (room-after g hs M come allowed fit spacious)

    next_going : has_stopped (with_entry g e H) ≡ false
    next_going = ap has_stopped whole ∙ still_going g hs M fit ∙ going

  later : (es : List Entry) (H : List Mark) → IsProper H → HasRoom g H → has_stopped H ≡ false → has_stopped (chronicle_after g es H) ≡ true → list_any (λ e. is_end e.input) es ≡ true
  later [] H proper room going stopped = absurd (true≢false (sym stopped ∙ going))
  later (e ∷ es) H proper room going stopped = by (is_end e.input) refl (later es (with_entry g e H))
    where
      by : (b : Bool) → is_end e.input ≡ b
          → (IsProper (with_entry g e H) → HasRoom g (with_entry g e H) → has_stopped (with_entry g e H) ≡ false → has_stopped (chronicle_after g es (with_entry g e H)) ≡ true → list_any (λ e. is_end e.input) es ≡ true)
          → list_any (λ e. is_end e.input) (e ∷ es) ≡ true
      by true is next = ap (λ b. b || list_any (λ e. is_end e.input) es) is
      by false is next = ap (λ b. b || list_any (λ e. is_end e.input) es) is
          ∙ next (next_proper e H proper room going is) (next_room e H proper room going is) (next_going e H proper room going is) stopped

  pub told_to_stop : (journal : List Entry) → has_stopped (chronicle g journal) ≡ true → list_any (λ e. is_end e.input) journal ≡ true
  told_to_stop journal = later journal [] empty (room-empty g can) refl
