-- The chronicle of every journal keeps it.
use Rattle.std.proofs.Common.{◌≡◌, ℕ, Bool, true, false, cond, List, [], ◌∷◌, ◌++◌, refl, sym, ap, ◌∙◌, arith, eq-eqb, append_assoc, append-nil}
use Rattle.std.specs.Prelude.{max}
use Rattle.zre_outside.specs.declared.entry.Entry.{Entry}
use Rattle.zre_outside.specs.declared.entry.Input.{Input}
use Rattle.zre_values.specs.declared.settings.Settings.{Settings as Config}
use Rattle.zre_journal.specs.Chronicle.{Mark, Comes, Opens, Links, ever}
use Rattle.zre_journal.specs.Heard.{clock, opens, was_opened, piece_of, bytes}
use Rattle.zre_journal.specs.Links.{links, is_linked, reply_of, replies}
use Rattle.zre_journal.specs.Events.{chronicle}
use Rattle.zre_journal.specs.Keeping.{entries, greatest, carried, Keeps}
use Rattle.zre_journal.proofs.MarkByMark.{told_and_done}
use Rattle.zre_journal.proofs.KnownAreBorn.{either_or}
use Rattle.zre_journal.proofs.SoundMarks.{Sound}

-- ---- the entries

no_entry : (g : Config) (h : Mark) (H : List Mark) → Sound g h H → entries (h ∷ H) ≡ entries H
no_entry g (Comes e) H s = absurd s
no_entry g _ H s = refl

are_entries : (g : Config) (journal : List Entry) → entries (chronicle g journal) ≡ journal
are_entries g journal = told_and_done g (λ js es done_ H. entries H ≡ js) (λ js es done_ e H x. ap (λ xs. xs ++ e ∷ []) x) (λ js es done_ h H n q m s x. no_entry g h H s ∙ x) (λ js es done_ H k o x. x) (λ js es done_ H vs x. x) refl journal

-- ---- the clock

greatest-append : (xs : List Entry) (e : Entry) → greatest (xs ++ e ∷ []) ≡ max e.at (greatest xs)
greatest-append [] e = refl
greatest-append (x ∷ xs) e = ap (λ n. max x.at n) (greatest-append xs e) ∙ swap x.at e.at (greatest xs)
  where
    swap : (a b n : ℕ) → max a (max b n) ≡ max b (max a n)
    swap a b n = omega arith

clock_is : (H : List Mark) → clock H ≡ greatest (entries H)
clock_is [] = refl
clock_is (Comes e ∷ H) = ap (λ n. max e.at n) (clock_is H) ∙ sym (greatest-append (entries H) e)
clock_is (_ ∷ H) = clock_is H

-- ---- what entries carry

carried-append : (f : Input → List ℕ) (xs : List Entry) (e : Entry) → carried f (xs ++ e ∷ []) ≡ carried f xs ++ f e.input
carried-append f [] e = append-nil (f e.input)
carried-append f (x ∷ xs) e = ap (λ o. f x.input ++ o) (carried-append f xs e) ∙ sym (append_assoc (f x.input) (carried f xs) (f e.input))

-- what was so before is so with a mark more
still : (t : Mark → Bool) (later before : List Mark) (h : Mark) → t h ≡ true → ever t (later ++ h ∷ before) ≡ true
still t [] before h e = ap (λ b. cond b true (ever t before)) e
still t (x ∷ later) before h e = by (t x) (still t later before h e)
  where
    by : (b : Bool) → ever t (later ++ h ∷ before) ≡ true → cond b true (ever t (later ++ h ∷ before)) ≡ true
    by true r = refl
    by false r = r

-- the octets that entries carry after some mark
abbrev gathered : (Mark → Bool) → (Input → List ℕ) → List Mark → List ℕ
gathered t f [] = []
gathered t f (Comes e ∷ H) = gathered t f H ++ cond (ever t H) (f e.input) []
gathered t f (_ ∷ H) = gathered t f H

none_gathered : (t : Mark → Bool) (f : Input → List ℕ) (H : List Mark) → ever t H ≡ false → gathered t f H ≡ []
none_gathered t f [] n = refl
none_gathered t f (Comes e ∷ H) n = let r = (either_or (t (Comes e)) (ever t H) n).1 in ap (λ b. gathered t f H ++ cond b (f e.input) []) r ∙ append-nil (gathered t f H) ∙ none_gathered t f H r
none_gathered t f (h ∷ H) n = none_gathered t f H (either_or (t h) (ever t H) n).1

all_gathered : (t : Mark → Bool) (f : Input → List ℕ) (later before : List Mark) (h : Mark) → t h ≡ true → gathered t f (h ∷ before) ≡ [] → gathered t f (later ++ h ∷ before) ≡ carried f (entries later)
all_gathered t f [] before h is none = none
all_gathered t f (Comes e ∷ later) before h is none =
    ap (λ b. gathered t f (later ++ h ∷ before) ++ cond b (f e.input) []) (still t later before h is)
    ∙ ap (λ o. o ++ f e.input) (all_gathered t f later before h is none) ∙ sym (carried-append f (entries later) e)
all_gathered t f (_ ∷ later) before h is none = all_gathered t f later before h is none

octets : (c : ℕ) (H : List Mark) → bytes c H ≡ gathered (opens c) (piece_of c) H
octets c [] = refl
octets c (Comes e ∷ H) = ap (λ o. o ++ cond (was_opened c H) (piece_of c e.input) []) (octets c H)
octets c (_ ∷ H) = octets c H

answers : (l : ℕ) (H : List Mark) → replies l H ≡ gathered (links l) (reply_of l) H
answers l [] = refl
answers l (Comes e ∷ H) = ap (λ o. o ++ cond (is_linked l H) (reply_of l e.input) []) (answers l H)
answers l (_ ∷ H) = answers l H

pub keeps : (g : Config) (journal : List Entry) → Keeps journal (chronicle g journal)
keeps g journal = record {
  entries_are = are_entries g journal;
  clock_is = clock_is (chronicle g journal) ∙ ap greatest (are_entries g journal);
  none_before_opening = λ c n. octets c (chronicle g journal) ∙ none_gathered (opens c) (piece_of c) (chronicle g journal) n;
  octets_are = λ c later before e n. ap (bytes c) e ∙ octets c (later ++ Opens c ∷ before)
      ∙ all_gathered (opens c) (piece_of c) later before (Opens c) (eq-eqb c c refl) (none_gathered (opens c) (piece_of c) before n);
  none_before_linking = λ l n. answers l (chronicle g journal) ∙ none_gathered (links l) (reply_of l) (chronicle g journal) n;
  replies_are = λ l later before e n. ap (replies l) e ∙ answers l (later ++ Links l ∷ before)
      ∙ all_gathered (links l) (reply_of l) later before (Links l) (eq-eqb l l refl) (none_gathered (links l) (reply_of l) before n);
}
