-- A node and the table of its links, after an entry.
use Rattle.std.proofs.Common.{◌≡◌, ℕ, List, [], ◌∷◌, ◌++◌, length, replicate, Some, sym, ap, ◌∙◌, subst, append-nil}
use Rattle.std.proofs.lemmas.List.{append_cancel_left}
use Rattle.std.specs.Prelude.{IfOk, Result, Ok, Err}
use Rattle.zre_zmtp.specs.Laws.{handshake}
use Rattle.zre_zmtp.specs.declared.writing.SocketType.TheVariants.{Dealer}
use Rattle.zre_outside.specs.declared.entry.Entry.{Entry}
use Rattle.zre_values.specs.declared.settings.Settings.{Settings as Config}
use Rattle.zre_journal.specs.Chronicle.{Comes}
use Rattle.zre_journal.specs.Done.{acts_at}
use Rattle.zre_journal.specs.Events.{chronicle, events, acts, events_at}
use Rattle.zre_journal.specs.Happens.{with_entry}
use Rattle.zre_journal.proofs.JoinedEntries.{continues}
use Rattle.zre_node.specs.declared.effects.Step.{Step}
use Rattle.zre_node.specs.declared.node.Node.{Node}
use Rattle.zre_node.specs.Journal.{StandsFor, IsStep}
use Rattle.zre_net.specs.Lines.{Line}
use Rattle.zre_net.specs.Lines.{connects, fresh}
use Rattle.zre_net.specs.Sender.{is_slight, Keeps, IsLooked}
use Rattle.zre_net.specs.Sending.{Stepped}
use Rattle.zre_net.proofs.LinksAfterEntry.{keeps}

pub if_ok : {T E : Type 0} (P Q : T → Type 0) (r : Result T E) → IfOk r P → ((x : T) → P x → Q x) → IfOk r Q
if_ok P Q (Ok x) p f = f x p
if_ok P Q (Err e) p f = tt

module _ (g : Config) (J : List Entry) (e : Entry) (n : Node) (s : Step) (st : IsStep g J e n s) where
  pub step_told : Stepped g J e s
  step_told = record {
    told = append_cancel_left (events g J) s.events (events_at g e (chronicle g J)) (sym st.told ∙ (continues g J (e ∷ [])).told ∙ ap (λ es. events g J ++ es) (append-nil (events_at g e (chronicle g J))));
    done = append_cancel_left (acts g J) s.acts (acts_at g e (chronicle g J)) (sym st.done ∙ (continues g J (e ∷ [])).done ∙ ap (λ xs. acts g J ++ xs) (append-nil (acts_at g e (chronicle g J))));
  }

  pub sends_one : (h : ℕ) (xs zs ys : List Line) → h ≡ length (handshake Dealer (Some g.id)) → Keeps g (chronicle g J) h xs → is_slight g e.input (chronicle g J) (Comes e ∷ chronicle g J) → zs ≡ xs ++ replicate (connects s.acts) (fresh h)
      → IsLooked g (chronicle g (J ++ e ∷ [])) zs ys → Stepped g J e s × StandsFor g (J ++ e ∷ []) n × Keeps g (chronicle g (J ++ e ∷ [])) h ys
  sends_one h xs zs ys base kept slight made looked =
      let same : chronicle g (J ++ e ∷ []) ≡ with_entry g e (chronicle g J) = (continues g J (e ∷ [])).happened in (
        step_told,
        st.stands,
        subst (λ K. Keeps g K h ys) (sym same)
            (keeps g J e h base slight xs ys kept (subst (λ zs. IsLooked g (with_entry g e (chronicle g J)) zs ys) (made ∙ ap (λ as_. xs ++ replicate (connects as_) (fresh h)) step_told.done) (subst (λ K. IsLooked g K zs ys) same looked))),
      )
