-- A node that goes through a journal, entry by entry.
use Rattle.std.proofs.Common.{◌≡◌, ℕ, ◌+◌, ◌<◌, Option, Some, None, List, [], ◌∷◌, ◌++◌, length, refl, sym, ap, ◌∙◌, append_assoc, append-nil, subst, arith}
use Rattle.std.proofs.lemmas.List.{length-append}
use Rattle.zre_capture.specs.Left.{Gives}
use Rattle.zre_values.specs.declared.settings.Settings.{Settings as Config}
use Rattle.zre_journal.specs.Events.{events}
use Rattle.zre_node.specs.declared.effects.Step.{Step}
use Rattle.zre_node.specs.Journal.{StandsFor, IsStep}
use Rattle.zre_outside.specs.declared.entry.Entry.{Entry}
use Rattle.zre_commands.specs.declared.exercise.run.CountingNode.{CountingNode}
use Rattle.zre_commands.specs.exercise.Counts.{nothing, tally}
use Rattle.zre_commands.specs.exercise.Counted.{Counted, Takes}

one_longer : (J : List Entry) (e : Entry) → length J + 1 ≡ length (J ++ e ∷ [])
one_longer J e = sym (length-append J (e ∷ []))

-- an entry was taken, and its events were counted with it
pub steps_on : (g : Config) (J : List Entry) (e : Entry) (n : CountingNode) (s : Step) → IsStep g J e n.node s →
    n.counts ≡ tally (length J + 1) (events g J ++ s.events) → Counted g (J ++ e ∷ []) n
steps_on g J e n s steps counts = record {
  stands = steps.stands;
  counts = counts ∙ ap (λ k. tally k (events g J ++ s.events)) (one_longer J e) ∙ ap (tally (length (J ++ e ∷ []))) (sym steps.told);
}

-- nothing was taken yet
pub takes_none : (all : List Entry) (n : CountingNode) → Takes all all n n
takes_none all n = record { taken = []; split = refl; counted = λ g J k. subst (λ K. Counted g K n) (sym (append-nil J)) k }

-- one more was taken
pub takes_one : (all before now : List Entry) (e : Entry) (n m o : CountingNode) → before ≡ e ∷ now → Takes all before n m
    → ((g : Config) (J : List Entry) → Counted g J m → Counted g (J ++ e ∷ []) o) → Takes all now n o
takes_one all before now e n m o given t step = record {
  taken = t.taken ++ e ∷ [];
  split = t.split ∙ ap (λ es. t.taken ++ es) given ∙ sym (append_assoc t.taken (e ∷ []) now);
  counted = λ g J k. subst (λ K. Counted g K o) (append_assoc J t.taken (e ∷ [])) (step g (J ++ t.taken) (t.counted g J k));
}

-- more were taken
pub takes_on : (all before now : List Entry) (n m o : CountingNode) → Takes all before n m → Takes before now m o → Takes all now n o
takes_on all before now n m o t u = record {
  taken = t.taken ++ u.taken;
  split = t.split ∙ ap (λ es. t.taken ++ es) u.split ∙ sym (append_assoc t.taken u.taken now);
  counted = λ g J k. subst (λ K. Counted g K o) (append_assoc J t.taken u.taken) (u.counted g (J ++ t.taken) (t.counted g J k));
}

-- all were taken
pub takes_all : (g : Config) (J all left : List Entry) (n m : CountingNode) → left ≡ [] → Takes all left n m → Counted g J n → Counted g (J ++ all) m
takes_all g J all left n m none t k =
    subst (λ K. Counted g K m) (ap (λ es. J ++ es) (sym (t.split ∙ ap (λ es. t.taken ++ es) none ∙ append-nil t.taken))) (t.counted g J k)

-- fewer are left
pub less_left : (all before left : List Entry) (e : Entry) (n m : CountingNode) → all ≡ e ∷ before → Takes before left n m → length left < length all
less_left all before left e n m given t =
    omega (arith, ap (λ (es : List Entry). length es) given, ap (λ (es : List Entry). length es) t.split, length-append t.taken left)

pub two_less : (all left : List Entry) (e f : Entry) → all ≡ e ∷ f ∷ left → length left < length all
two_less all left e f given = omega (arith, ap (λ (es : List Entry). length es) given)

-- what a call that gave an entry left
pub gave : (o : Option Entry) (e : Entry) (before now : List Entry) → o ≡ Some e → Gives o before now → before ≡ e ∷ now
gave o e before now is given = subst (λ x. Gives x before now) is given

-- a call that gave none left nothing
pub gave_none : (o : Option Entry) (before now : List Entry) → Gives o before now → ((e : Entry) → o ≡ Some e → ⊥) → before ≡ []
gave_none None before now given none = given.0
gave_none (Some e) before now given none = absurd (none e refl)

-- before any entry, by settings that are these
pub starts_with : (g h : Config) (n : CountingNode) → StandsFor g [] n.node → g ≡ h → n.counts ≡ nothing → Counted h [] n
starts_with g h n s is e = record { stands = subst (λ k. StandsFor k [] n.node) is s; counts = e }

-- what was counted over a journal
pub counted_all : (g : Config) (J K : List Entry) (n : CountingNode) → Counted g J n → J ≡ K → n.counts ≡ tally (length K) (events g K)
counted_all g J K n counted is = counted.counts ∙ ap (λ I. tally (length I) (events g I)) is
