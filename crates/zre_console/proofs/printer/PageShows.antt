-- What a page shows after text came on it.
use Rattle.std.proofs.Common.{◌≡◌, ℕ, true, List, [], ◌∷◌, ◌++◌, ◌∙◌, Option, Some, None, refl, sym, ap, subst, append_assoc, append-nil}
use Rattle.std.specs.Prelude.{is_some}
use Rattle.std.proofs.KnownBytes.{Appends-trans}
use Rattle.std.proofs.lemmas.Grind.{flat_map-append}
use Rattle.zre_outside.specs.declared.sink.NextFault.{NextFault}
use Rattle.zre_outside.specs.Told.{AppendsFront, WritesThrough}
use Rattle.zre_peer.specs.declared.event.Event.{Event}
use Rattle.zre_peer.specs.Lines.{line, lines}
use Rattle.zre_console.specs.declared.printer.page.Page.{Page}
use Rattle.zre_console.specs.printer.Pages.{Shows}

pub none_of : (f : Option NextFault) → is_some f ≡ true → f ≡ None → ⊥
none_of None e is = cc
none_of (Some x) e is = cc

one_more : (es : List Event) (e : Event) → lines (es ++ e ∷ []) ≡ lines es ++ line e
one_more es e = flat_map-append line es (e ∷ []) ∙ ap (λ l. lines es ++ l) (append-nil (line e))

module _ (page : Page) (w x : Option (List ℕ)) (es : List Event) (h : Shows page w x es) where
  -- a line after a fault
  pub missed : (e : Event) → (page.fault ≡ None → ⊥) → Shows page w x (es ++ e ∷ [])
  missed e faulty = record {
    done = h.done;
    rest = h.rest ++ line e;
    are_lines = one_more es e ∙ ap (λ l. l ++ line e) h.are_lines ∙ append_assoc h.done h.rest (line e);
    is_written = h.is_written;
    waits = λ is. absurd (faulty is);
  }

  module _ (page' : Page) (x' : Option (List ℕ)) (none : page.fault ≡ None) where
    all_of : (es' : List Event) (t : List ℕ) → lines es' ≡ lines es ++ t → lines es' ≡ h.done ++ (page.text ++ t)
    all_of es' t more = more ∙ ap (λ l. l ++ t) (h.are_lines ∙ ap (λ r. h.done ++ r) (h.waits none)) ∙ append_assoc h.done page.text t

    -- text came through
    came : (es' : List Event) (t : List ℕ) → lines es' ≡ lines es ++ t → WritesThrough page.text page'.text x x' t → Shows page' w x' es'
    came es' t more k = record {
      done = h.done ++ k.front;
      rest = page'.text;
      are_lines = all_of es' t more ∙ ap (λ r. h.done ++ r) k.are_all ∙ sym (append_assoc h.done k.front page'.text);
      is_written = Appends-trans w x x' h.done k.front h.is_written k.is_written;
      waits = λ is. refl;
    }

    -- and was refused, with a front of it written
    was_refused : (es' : List Event) (t : List ℕ) → lines es' ≡ lines es ++ t → (page'.fault ≡ None → ⊥) → AppendsFront x x' (page.text ++ t) → Shows page' w x' es'
    was_refused es' t more faulty f = record {
      done = h.done ++ f.0;
      rest = f.1;
      are_lines = all_of es' t more ∙ ap (λ r. h.done ++ r) f.2 ∙ sym (append_assoc h.done f.0 f.1);
      is_written = Appends-trans w x x' h.done f.0 h.is_written f.3;
      waits = λ is. absurd (faulty is);
    }

    pub line_came : (e : Event) → WritesThrough page.text page'.text x x' (line e) → Shows page' w x' (es ++ e ∷ [])
    line_came e k = came (es ++ e ∷ []) (line e) (one_more es e) k

    pub line_refused : (e : Event) → (page'.fault ≡ None → ⊥) → AppendsFront x x' (page.text ++ line e) → Shows page' w x' (es ++ e ∷ [])
    line_refused e faulty f = was_refused (es ++ e ∷ []) (line e) (one_more es e) faulty f

    pub all_written : WritesThrough page.text page'.text x x' [] → Shows page' w x' es
    all_written k = came es [] (sym (append-nil (lines es))) k

    pub front_written : (page'.fault ≡ None → ⊥) → AppendsFront x x' page.text → Shows page' w x' es
    front_written faulty f = was_refused es [] (sym (append-nil (lines es))) faulty (subst (AppendsFront x x') (sym (append-nil page.text)) f)
