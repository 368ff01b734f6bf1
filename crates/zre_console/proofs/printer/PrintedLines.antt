-- What is printed, step by step.
use Rattle.std.proofs.Common.{◌≡◌, ℕ, List, [], ◌++◌, ◌∙◌, Option, None, refl, sym, ap, subst, append_assoc, append-nil}
use Rattle.std.specs.Io.KnownBytes.{Appends}
use Rattle.zre_peer.specs.declared.event.Event.{Event}
use Rattle.zre_actor.specs.declared.passes.CallerPass.{CallerPass}
use Rattle.zre_actor.specs.declared.passes.TakerPass.{TakerPass}
use Rattle.zre_actor.specs.Passes.{taken_by}
use Rattle.zre_console.specs.declared.printer.asker.Asker.{Asker}
use Rattle.zre_console.specs.declared.printer.asker.Wish.TheVariants.{No}
use Rattle.zre_console.specs.declared.printer.page.Page.{Page}
use Rattle.zre_console.specs.printer.Asking.{HasAsked}
use Rattle.zre_console.specs.printer.Pages.{Shows}
use Rattle.zre_console.specs.printer.Printing.{Prints, HasPrinted}

module _ (first : Asker) (start : TakerPass) (w : Option (List ℕ)) (a : Asker) (t : TakerPass) (page : Page) (x : Option (List ℕ)) (p : Prints first start w a t page x) where
  pub asked_more : (a' : Asker) → ((pass : CallerPass) → HasAsked pass a → HasAsked pass a') → (page.fault ≡ None → a.wish ≡ No → a'.wish ≡ No) → Prints first start w a' t page x
  asked_more a' asks calm = record {
    events = p.events;
    taken = p.taken;
    shows = p.shows;
    asked = λ pass h. asks pass (p.asked pass h);
    calm = λ none is. calm none (p.calm none is);
  }

  -- nothing more was taken
  pub printed_same : (t' : TakerPass) (page' : Page) (x' : Option (List ℕ)) → taken_by t' ≡ taken_by t → ((v : Option (List ℕ)) (os : List Event) → Shows page v x os → Shows page' v x' os)
      → (page'.fault ≡ None → page.fault ≡ None) → Prints first start w a t' page' x'
  printed_same t' page' x' same shows none = record {
    events = p.events;
    taken = same ∙ p.taken;
    shows = shows w p.events p.shows;
    asked = p.asked;
    calm = λ is. p.calm (none is);
  }

  -- some events were
  pub printed_more : (t' : TakerPass) (page' : Page) (x' : Option (List ℕ)) (es : List Event) → taken_by t' ≡ taken_by t ++ es → ((v : Option (List ℕ)) (os : List Event) → Shows page v x os → Shows page' v x' (os ++ es))
      → (page'.fault ≡ None → page.fault ≡ None) → Prints first start w a t' page' x'
  printed_more t' page' x' es more shows none = record {
    events = p.events ++ es;
    taken = more ∙ ap (λ l. l ++ es) p.taken ∙ append_assoc (taken_by start) p.events es;
    shows = shows w p.events p.shows;
    asked = p.asked;
    calm = λ is. p.calm (none is);
  }

-- what was printed by Last, where a page without a fault was written whole
pub has_printed : (first : Asker) (start : TakerPass) (w : Option (List ℕ)) (a : Asker) (t : TakerPass) (page : Page) (x : Option (List ℕ)) → Prints first start w a t page x → (page.fault ≡ None → page.text ≡ [])
    → HasPrinted first start t a.pass page.fault w x
has_printed first start w a t page x p written = let s = p.shows in record {
  events = p.events;
  taken = p.taken;
  front = (s.done, s.rest, s.are_lines, s.is_written);
  whole = λ none. subst (Appends w x) (whole_is s.done s.rest (s.waits none ∙ written none) ∙ sym s.are_lines) s.is_written;
  last = a;
  is_last = refl;
  asked = p.asked;
  calm = p.calm;
}
  where
    whole_is : (done rest : List ℕ) → rest ≡ [] → done ≡ done ++ rest
    whole_is done rest is = sym (append-nil done) ∙ ap (λ l. done ++ l) (sym is)
