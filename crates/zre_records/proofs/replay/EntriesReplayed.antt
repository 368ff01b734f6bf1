-- Entries taken after entries.
use Rattle.std.proofs.Common.{◌≡◌, ℕ, ◌+◌, ◌-◌, ◌<◌, List, [], ◌∷◌, ◌++◌, length, take, drop, get_or, set, sym, ap, ◌∙◌, arith, subst, append_assoc, append-nil}
use Rattle.std.proofs.lemmas.Grind.{drop_more_same}
use Rattle.std.proofs.lemmas.List.{take_more, drop_more, length-drop, drop-set-lt}
use Rattle.std.proofs.lemmas.List.Concat.{flat_map-append}
use Rattle.zre_values.specs.declared.settings.Settings.{Settings as Config}
use Rattle.zre_journal.specs.Events.{events}
use Rattle.zre_node.specs.declared.node.Node.{Node}
use Rattle.zre_node.specs.Journal.{StandsFor}
use Rattle.zre_outside.specs.declared.entry.Entry.{Entry}
use Rattle.zre_peer.specs.Lines.{line, lines}
use Rattle.zre_records.specs.replay.Taken.{Took}

pub took_none : (g : Config) (J : List Entry) (n : Node) (out : List ℕ) → StandsFor g J n → Took g J [] n out out
took_none g J n out s = record {
  stands = subst (λ K. StandsFor g K n) (sym (append-nil J)) s;
  told = [];
  more = ap (events g) (append-nil J) ∙ sym (append-nil (events g J));
  appended = sym (append-nil out);
}

pub took_more : (g : Config) (J es fs : List Entry) (n m : Node) (a b c : List ℕ) → Took g J es n a b → Took g (J ++ es) fs m b c → Took g J (es ++ fs) m a c
took_more g J es fs n m a b c t u = record {
  stands = subst (λ K. StandsFor g K m) (append_assoc J es fs) u.stands;
  told = t.told ++ u.told;
  more = ap (events g) (sym (append_assoc J es fs)) ∙ u.more ∙ ap (λ xs. xs ++ u.told) t.more ∙ append_assoc (events g J) t.told u.told;
  appended = u.appended ∙ ap (λ (r : List ℕ). r ++ lines u.told) t.appended ∙ append_assoc a (lines t.told) (lines u.told)
      ∙ ap (λ (r : List ℕ). a ++ r) (sym (flat_map-append line t.told u.told));
}

-- the entry at a place of a list whose later part is that of the entries: it is the next of them
pub next_of : (es left : List Entry) (i : ℕ) (d : Entry) → drop i left ≡ drop i es → i < length left → take (i + 1) es ≡ take i es ++ get_or left i d ∷ []
next_of es left i d same lt =
    let sized = sym (length-drop i left) ∙ ap length same ∙ length-drop i es in
    let more : i < length es = omega (arith, sized, lt) in
    let here : get_or es i d ≡ get_or left i d = ap (λ (xs : List Entry). get_or xs 0 d) (sym (drop_more es i d more) ∙ sym same ∙ drop_more left i d lt) in
    take_more es i d more ∙ ap (λ (x : Entry). take i es ++ x ∷ []) here

-- with another in its place, the part after it is still that of the entries
pub later_of : (es left : List Entry) (i : ℕ) (put : Entry) → drop i left ≡ drop i es → drop (i + 1) (set left i put) ≡ drop (i + 1) es
later_of es left i put same =
    drop-set-lt (i + 1) left i put (omega arith) ∙ drop_more_same left es i same
