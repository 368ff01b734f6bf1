-- What passes before it is seen that the second of two captures has begun.
use Rattle.std.proofs.Common.{◌≡◌, ℕ, ◌+◌, ◌<◌, ◌≤◌, ◌==◌, Bool, true, false, cond, leb, List, [], ◌∷◌, ◌++◌, Option, Some, length, get_or, take, drop, refl, sym, ap, ◌∙◌, subst, arith, add-one, take_all, append_assoc, append-nil}
use Rattle.std.proofs.Math.Seq.{take-suc}
use Rattle.std.proofs.lemmas.Bool.{leb-true, leb-false}
use Rattle.std.proofs.lemmas.List.{drop_all, drop_more}
use Rattle.std.proofs.lemmas.List.Sums.{fold-append, sum_by-append}
use Rattle.zre_records.specs.audit.Cut.{mark, lines_of}
use Rattle.zre_records.specs.audit.Seam.{Seeking, awaited_after, is_whole, step, after, is_seam, parted, HasPassed, IsPassed, IsUnparted, IsParted}

-- nothing more of the mark is awaited after all its octets
pub whole_is : (n : ℕ) → leb 11 n ≡ is_whole (Some (awaited_after n))
whole_is n = by (leb 11 n) refl
  where
    by : (d : Bool) → leb 11 n ≡ d → d ≡ is_whole (Some (awaited_after n))
    by true e = sym (ap (λ (r : List ℕ). is_whole (Some r)) (drop_all n mark (leb-true 11 n e)))
    by false e = sym (ap (λ (r : List ℕ). is_whole (Some r)) (drop_more mark n 0 (leb-false 11 n e)))

-- ---- what has passed

pub passed_none : (s : Seeking) → HasPassed s [] s
passed_none s = record { awaited = refl; lines = omega arith }

pub lines_more : (o x : List ℕ) → lines_of (o ++ x) ≡ lines_of o + lines_of x
lines_more o x = sum_by-append (λ b. cond (b == 10) 1 0) o x

pub passed_more : (s t u : Seeking) (o x : List ℕ) → HasPassed s o t → HasPassed t x u → HasPassed s (o ++ x) u
passed_more s t u o x p q = record {
  awaited = q.awaited ∙ ap (λ m. after m x) p.awaited ∙ sym (fold-append step s.awaited o x);
  lines = omega (arith, q.lines, p.lines, lines_more o x);
}

-- ---- one octet of a piece after another

-- so far none showed it
pub record IsSought (before : Seeking) (piece : List ℕ) (i : ℕ) (now : Seeking) : Type 0 where
  pub parts : parted before.awaited piece ≡ (take i piece ++ (parted now.awaited (drop i piece)).0, (parted now.awaited (drop i piece)).1)
  pub passed : HasPassed before (take i piece) now

pub sought_none : (s : Seeking) (piece : List ℕ) → IsSought s piece 0 s
sought_none s piece = record { parts = refl; passed = passed_none s }

pub sought_next : (s t u : Seeking) (piece : List ℕ) (i b : ℕ) → i < length piece → b ≡ get_or piece i b → is_seam t.awaited b ≡ false → IsSought s piece i t → IsPassed t b u → IsSought s piece (i + 1) u
sought_next s t u piece i b lt is other k p =
    let front : take i piece ++ b ∷ [] ≡ take (i + 1) piece = rw add-one (ap (λ (x : ℕ). take i piece ++ x ∷ []) is ∙ sym (take-suc piece i b lt)) in
    let rest : drop i piece ≡ b ∷ drop (i + 1) piece = drop_more piece i b lt ∙ ap (λ (x : ℕ). x ∷ drop (i + 1) piece) (sym is) in
    let parts : parted t.awaited (drop i piece) ≡ (b ∷ (parted u.awaited (drop (i + 1) piece)).0, (parted u.awaited (drop (i + 1) piece)).1) =
    ap (parted t.awaited) rest ∙ not_here t.awaited b (drop (i + 1) piece) other
    ∙ ap (λ (m : Option (List ℕ)). (b ∷ (parted m (drop (i + 1) piece)).0, (parted m (drop (i + 1) piece)).1)) (sym p.awaited) in
    record {
      parts = k.parts ∙ ap (λ (c : List ℕ × List ℕ). (take i piece ++ c.0, c.1)) parts
          ∙ ap (λ (x : List ℕ). (x, (parted u.awaited (drop (i + 1) piece)).1)) (sym (append_assoc (take i piece) (b ∷ []) (parted u.awaited (drop (i + 1) piece)).0) ∙ ap (λ (x : List ℕ). x ++ (parted u.awaited (drop (i + 1) piece)).0) front);
      passed = subst (λ (x : List ℕ). HasPassed s x u) front (passed_more s t u (take i piece) (b ∷ []) k.passed p);
    }
  where
    not_here : (m : Option (List ℕ)) (b : ℕ) (o : List ℕ) → is_seam m b ≡ false → parted m (b ∷ o) ≡ (b ∷ (parted (step m b) o).0, (parted (step m b) o).1)
    not_here m b o e = rw e refl

pub sought_all : (s t : Seeking) (piece : List ℕ) (i : ℕ) → length piece ≤ i → IsSought s piece i t → IsUnparted s piece t
sought_all s t piece i le k =
    let all : take i piece ≡ piece = take_all i piece le in
    record {
      parts = k.parts ∙ ap (λ (r : List ℕ). (take i piece ++ (parted t.awaited r).0, (parted t.awaited r).1)) (drop_all i piece le) ∙ ap (λ (x : List ℕ). (x, [])) (append-nil (take i piece) ∙ all);
      passed = subst (λ (x : List ℕ). HasPassed s x t) all k.passed;
    }

pub sought_here : (s t : Seeking) (piece : List ℕ) (i b : ℕ) → i < length piece → b ≡ get_or piece i b → is_seam t.awaited b ≡ true → IsSought s piece i t → IsParted s piece i t
sought_here s t piece i b lt is seam k =
    let rest : drop i piece ≡ b ∷ drop (i + 1) piece = drop_more piece i b lt ∙ ap (λ (x : ℕ). x ∷ drop (i + 1) piece) (sym is) in
    record {
      within = lt;
      parts = k.parts ∙ ap (λ (c : List ℕ × List ℕ). (take i piece ++ c.0, c.1)) (ap (parted t.awaited) rest ∙ here t.awaited b (drop (i + 1) piece) seam)
          ∙ (λ j. (append-nil (take i piece) j, sym rest j));
      passed = k.passed;
    }
  where
    here : (m : Option (List ℕ)) (b : ℕ) (o : List ℕ) → is_seam m b ≡ true → parted m (b ∷ o) ≡ ([], b ∷ o)
    here m b o e = rw e refl
