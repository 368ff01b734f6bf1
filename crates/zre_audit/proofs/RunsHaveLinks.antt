-- Lists of what was said that fit are runs that have links, and the other way round.
use Rattle.std.proofs.Common.{◌≡◌, ◌↔◌, ℕ, true, true≢false, List, [], ◌∷◌, ◌++◌, map, drop, get_or, arith, refl, sym, ap, ◌∙◌, subst}
use Rattle.std.specs.Prelude.{codes}
use Rattle.std.proofs.lemmas.Bool.{and_parts}
use Rattle.std.proofs.lemmas.List.{map-append}
use Rattle.zre_msg.specs.declared.message.Body.{Body}
use Rattle.zre_outside.specs.declared.entry.Entry.{Entry}
use Rattle.zre_values.specs.declared.settings.Settings.{Settings as Config}
use Rattle.zre_journal.specs.Chronicle.{Mark}
use Rattle.zre_journal.specs.Events.{chronicle}
use Rattle.zre_journal.specs.Links.{bodies}
use Rattle.zre_journal.specs.Peers.{counted}
use Rattle.zre_audit.specs.Agreement.{Agree, judged}
use Rattle.zre_audit.specs.Exchanged.{said, bodies_of, is_same_said, runs_of, links_of}
use Rattle.zre_audit.specs.Lines.{line}
use Rattle.zre_audit.specs.Pairing.{HaveLinks, HeardWhatWasPut}
use Rattle.zre_audit.specs.Prefixes.{begins, Fits}
use Rattle.zre_audit.specs.declared.verdicts.Verdict.{Verdict}
use Rattle.zre_audit.specs.declared.verdicts.Verdict.TheVariants.{Yes, No}
use Rattle.zre_audit.proofs.JudgedIsAgreed.{AreSaid, said-are, compared, same_equiv, judged_right, yes_agree}

-- ---- lists that begin others

begun_front : (xs ys : List Body) → AreSaid xs → begins is_same_said xs ys ≡ true → (more : List Body) × (ys ≡ xs ++ more)
begun_front [] ys s e = (ys, refl)
begun_front (x ∷ xs) [] s e = absurd (true≢false (sym e))
begun_front (x ∷ xs) (y ∷ ys) s e =
    let p = and_parts (is_same_said x y) (begins is_same_said xs ys) e in
    let same : x ≡ y = compared x y s.0 p.0 in
    let r = begun_front xs ys s.1 p.1 in
    (r.0, λ i. sym same i ∷ r.1 i)

front_begun : (xs more : List Body) → begins is_same_said xs (xs ++ more) ≡ true
front_begun [] more = refl
front_begun (x ∷ xs) more = let me : is_same_said x x ≡ true = same_equiv.refl x in rw me (front_begun xs more)

-- a list of what numbers have, and the numbers of its parts
record Split (h : ℕ → List Body) (ls : List ℕ) (before : List (List Body)) (place : List Body) (later : List (List Body)) : Type 0 where
  front : List ℕ
  one : ℕ
  back : List ℕ
  stands : ls ≡ front ++ one ∷ back
  front_is : map h front ≡ before
  one_is : h one ≡ place
  back_is : map h back ≡ later

split : (h : ℕ → List Body) (ls : List ℕ) (before : List (List Body)) (place : List Body) (later : List (List Body)) → map h ls ≡ before ++ place ∷ later → Split h ls before place later
split h [] [] place later e = absurd (let w : [] ≡ place ∷ later = e in cc)
split h [] (b ∷ before) place later e = absurd (let w : [] ≡ b ∷ (before ++ place ∷ later) = e in cc)
split h (l ∷ ls) [] place later e = record { front = []; one = l; back = ls; stands = refl; front_is = refl; one_is = (let head : h l ≡ place = cc in head); back_is = ap (drop 1) e }
split h (l ∷ ls) (b ∷ before) place later e =
    let r = split h ls before place later (ap (drop 1) e) in
    let head : h l ≡ b = cc in
    record { front = l ∷ r.front; one = r.one; back = r.back; stands = ap (λ xs. l ∷ xs) r.stands; front_is = λ i. head i ∷ r.front_is i; one_is = r.one_is; back_is = r.back_is }

-- ---- runs and links

module _ (H K : List Mark) where
  abbrev Heard : List ℕ → List (List Body)
  Heard rs = map (λ r. said (bodies_of (counted r H))) rs

  abbrev Put : List ℕ → List (List Body)
  Put ls = map (λ l. said (bodies l K)) ls

  have_links : (rs ls : List ℕ) → Fits is_same_said (Heard rs) (Put ls) → HaveLinks H K rs ls
  have_links [] ls f = tt
  have_links (r ∷ rs) ls f =
      let s = split (λ l. said (bodies l K)) ls f.before f.place f.later f.stands in
      let b = begun_front (said (bodies_of (counted r H))) f.place (said-are (bodies_of (counted r H))) f.is_begun in
      let parts : f.before ++ f.later ≡ Put (s.front ++ s.back) = (λ i. sym s.front_is i ++ sym s.back_is i) ∙ sym (map-append (λ l. said (bodies l K)) s.front s.back) in
      record {
        before = s.front;
        link = s.one;
        later = s.back;
        stands = s.stands;
        more = b.0;
        is_front = s.one_is ∙ b.1;
        leaves = have_links rs (s.front ++ s.back) (subst (Fits is_same_said (Heard rs)) parts f.leaves);
      }

  fit : (rs ls : List ℕ) → HaveLinks H K rs ls → Fits is_same_said (Heard rs) (Put ls)
  fit [] ls f = tt
  fit (r ∷ rs) ls f = record {
    before = Put f.before;
    place = said (bodies f.link K);
    later = Put f.later;
    stands = ap Put f.stands ∙ map-append (λ l. said (bodies l K)) f.before (f.link ∷ f.later);
    is_begun = ap (begins is_same_said (said (bodies_of (counted r H)))) f.is_front ∙ front_begun (said (bodies_of (counted r H))) f.more;
    leaves = subst (Fits is_same_said (Heard rs)) (map-append (λ l. said (bodies l K)) f.before f.later) (fit rs (f.before ++ f.later) f.leaves);
  }

-- ---- two journals

module _ (g k : Config) (J K : List Entry) where
  pub yes_is_agreement : (judged g k J K ≡ Yes) ↔ Agree g k J K
  yes_is_agreement = yes_agree g k J K (judged g k J K) (judged_right g k J K)

  -- no other verdict has the line of a yes
  line_of_yes : (v : Verdict) → line v ≡ codes "AUDIT yes\n" → v ≡ Yes
  line_of_yes Yes e = refl
  line_of_yes (No side run runs links) e = absurd (let d : 110 ≡ 121 = ap (λ o. get_or o 6 0) e in omega (arith, d))

  pub yes_is_written : (line (judged g k J K) ≡ codes "AUDIT yes\n") ↔ Agree g k J K
  yes_is_written = (λ e. yes_is_agreement.0 (line_of_yes (judged g k J K) e), λ a. ap line (yes_is_agreement.1 a))

  pub yes_is_of_links : (judged g k J K ≡ Yes) ↔ HeardWhatWasPut g k J K
  yes_is_of_links = (λ e. to (yes_is_agreement.0 e), λ p. yes_is_agreement.1 (from p))
    where
      to : Agree g k J K → HeardWhatWasPut g k J K
      to a = record {
        first = have_links (chronicle g J) (chronicle k K) (runs_of k.id (chronicle g J)) (links_of g.id (chronicle k K)) a.first;
        second = have_links (chronicle k K) (chronicle g J) (runs_of g.id (chronicle k K)) (links_of k.id (chronicle g J)) a.second;
      }

      from : HeardWhatWasPut g k J K → Agree g k J K
      from p = record {
        first = fit (chronicle g J) (chronicle k K) (runs_of k.id (chronicle g J)) (links_of g.id (chronicle k K)) p.first;
        second = fit (chronicle k K) (chronicle g J) (runs_of g.id (chronicle k K)) (links_of k.id (chronicle g J)) p.second;
      }
