-- Where the second of two captures begins, as it is defined and as it is seen.
use Rattle.std.proofs.Common.{◌≡◌, ℕ, ◌==◌, Bool, true, false, cond, ◌&&◌, List, [], ◌∷◌, ◌++◌, Option, Some, None, refl, sym, ap, ◌∙◌, true≢false, eqb-true, append-nil}
use Rattle.zre_records.specs.audit.Cut.{mark, is_separator, is_first_field, cut}
use Rattle.zre_records.specs.audit.Seam.{is_whole, same_line, step, after, is_seam, parted}

abbrev Parts : Type 0
Parts = List ℕ × List ℕ

-- ---- no line feed is awaited

abbrev Clean : List ℕ → Type 0
Clean [] = Unit {0}
Clean (c ∷ more) = ((c == 10) ≡ false) × Clean more

abbrev IsClean : Option (List ℕ) → Type 0
IsClean None = Unit {0}
IsClean (Some more) = Clean more

clean_mark : Clean mark
clean_mark = (refl, (refl, (refl, (refl, (refl, (refl, (refl, (refl, (refl, (refl, (refl, tt)))))))))))

step_clean : (m : Option (List ℕ)) (b : ℕ) → IsClean m → IsClean (step m b)
step_clean m b c = by (b == 10)
  where
    same : (n : Option (List ℕ)) → IsClean n → IsClean (same_line n b)
    same None k = tt
    same (Some []) k = tt
    same (Some (x ∷ more)) k = in_line (b == x)
      where
        in_line : (d : Bool) → IsClean (cond d (Some more) None)
        in_line true = k.1
        in_line false = tt

    by : (d : Bool) → IsClean (cond d (Some mark) (same_line m b))
    by true = clean_mark
    by false = same m c

-- ---- the first octet that shows it

joins : (m : Option (List ℕ)) (o : List ℕ) → (parted m o).0 ++ (parted m o).1 ≡ o
joins m [] = refl
joins m (b ∷ o) = by (is_seam m b) (joins (step m b) o)
  where
    by : (d : Bool) → (parted (step m b) o).0 ++ (parted (step m b) o).1 ≡ o
        → (cond {A = Parts} d ([], b ∷ o) (b ∷ (parted (step m b) o).0, (parted (step m b) o).1)).0 ++ (cond {A = Parts} d ([], b ∷ o) (b ∷ (parted (step m b) o).0, (parted (step m b) o).1)).1 ≡ b ∷ o
    by true r = refl
    by false r = ap (λ (x : List ℕ). b ∷ x) r

-- none before it
front_alone : (m : Option (List ℕ)) (o : List ℕ) → (parted m (parted m o).0).1 ≡ []
front_alone m [] = refl
front_alone m (b ∷ o) = by (is_seam m b) refl (front_alone (step m b) o)
  where
    by : (d : Bool) → is_seam m b ≡ d → (parted (step m b) (parted (step m b) o).0).1 ≡ []
        → (parted m (cond {A = Parts} d ([], b ∷ o) (b ∷ (parted (step m b) o).0, (parted (step m b) o).1)).0).1 ≡ []
    by true e r = refl
    by false e r = rw e r

-- what stands from it on is awaited before it
data FromSeam (m : Option (List ℕ)) (o : List ℕ) : Type 0 where
  Nothing : (parted m o).1 ≡ [] → FromSeam m o
  Seen : (b : ℕ) (t : List ℕ) → (parted m o).1 ≡ b ∷ t → is_separator b ≡ true → is_whole (after m (parted m o).0) ≡ true → FromSeam m o

both : (a b : Bool) → (a && b) ≡ true → (a ≡ true) × (b ≡ true)
both true b e = (refl, e)
both false b e = absurd (true≢false (sym e))

from_seam : (m : Option (List ℕ)) (o : List ℕ) → FromSeam m o
from_seam m [] = Nothing refl
from_seam m (b ∷ o) = by (is_seam m b) refl (from_seam (step m b) o)
  where
    by : (d : Bool) → is_seam m b ≡ d → FromSeam (step m b) o → FromSeam m (b ∷ o)
    by true e r = let p = both (is_whole m) (is_separator b) e in Seen b o (rw e refl) p.1 (rw e p.0)
    by false e (Nothing n) = Nothing (rw e n)
    by false e (Seen c t s p w) = Seen c t (rw e s) p (rw e w)

-- more octets
pub parted_later : (m : Option (List ℕ)) (o x : List ℕ) (b : ℕ) (t : List ℕ) → (parted m o).1 ≡ b ∷ t → parted m (o ++ x) ≡ ((parted m o).0, (parted m o).1 ++ x)
parted_later m [] x b t e = absurd cc
parted_later m (c ∷ o) x b t e = by (is_seam m c) refl e (parted_later (step m c) o x b t)
  where
    by : (d : Bool) → is_seam m c ≡ d → (cond {A = Parts} d ([], c ∷ o) (c ∷ (parted (step m c) o).0, (parted (step m c) o).1)).1 ≡ b ∷ t
        → ((parted (step m c) o).1 ≡ b ∷ t → parted (step m c) (o ++ x) ≡ ((parted (step m c) o).0, (parted (step m c) o).1 ++ x))
        → parted m ((c ∷ o) ++ x) ≡ ((parted m (c ∷ o)).0, (parted m (c ∷ o)).1 ++ x)
    by true q e r = rw q refl
    by false q e r = rw q (ap (λ (p : Parts). (c ∷ p.0, p.1)) (r e))

pub parted_on : (m : Option (List ℕ)) (o x : List ℕ) → (parted m o).1 ≡ [] → parted m (o ++ x) ≡ (o ++ (parted (after m o) x).0, (parted (after m o) x).1)
parted_on m [] x e = refl
parted_on m (c ∷ o) x e = by (is_seam m c) refl e (parted_on (step m c) o x)
  where
    by : (d : Bool) → is_seam m c ≡ d → (cond {A = Parts} d ([], c ∷ o) (c ∷ (parted (step m c) o).0, (parted (step m c) o).1)).1 ≡ []
        → ((parted (step m c) o).1 ≡ [] → parted (step m c) (o ++ x) ≡ (o ++ (parted (after (step m c) o) x).0, (parted (after (step m c) o) x).1))
        → parted m ((c ∷ o) ++ x) ≡ ((c ∷ o) ++ (parted (after m (c ∷ o)) x).0, (parted (after m (c ∷ o)) x).1)
    by true q e r = absurd cc
    by false q e r = rw q (ap (λ (p : Parts). (c ∷ p.0, p.1)) (r e))

pub all_before : (m : Option (List ℕ)) (o : List ℕ) → (parted m o).1 ≡ [] → (parted m o).0 ≡ o
all_before m o e = sym (append-nil (parted m o).0) ∙ ap (λ (t : List ℕ). (parted m o).0 ++ t) (sym e) ∙ joins m o

-- ---- what is awaited and what comes

abbrev is_front : Option (List ℕ) → List ℕ → Bool
is_front None o = false
is_front (Some more) o = is_first_field more o

-- an octet before octets that aren't what is awaited after it
front_next : (m : Option (List ℕ)) (b : ℕ) (o : List ℕ) → IsClean m → is_seam m b ≡ false → is_front (step m b) o ≡ false → is_front m (b ∷ o) ≡ false
front_next None b o c s f = refl
front_next (Some []) b o c s f = s
front_next (Some (x ∷ more)) b o c s f = by (b == 10) (b == x) refl refl f
  where
    by : (d e : Bool) → (b == 10) ≡ d → (b == x) ≡ e → is_front (cond d (Some mark) (cond e (Some more) None)) o ≡ false → (e && is_first_field more o) ≡ false
    by d false p q f = refl
    by false true p q f = f
    by true true p q f = absurd (true≢false (sym p ∙ ap (λ n. n == 10) (eqb-true b x q) ∙ c.0))

-- a line feed before any
front_feed : (m : Option (List ℕ)) (b : ℕ) (o : List ℕ) → IsClean m → is_seam m b ≡ false → (b == 10) ≡ true → is_front m (b ∷ o) ≡ false
front_feed None b o c s f = refl
front_feed (Some []) b o c s f = s
front_feed (Some (x ∷ more)) b o c s f = by (b == x) refl
  where
    by : (e : Bool) → (b == x) ≡ e → (e && is_first_field more o) ≡ false
    by false q = refl
    by true q = absurd (true≢false (sym f ∙ ap (λ n. n == 10) (eqb-true b x q) ∙ c.0))

-- no second capture begins with an octet
not_cut : (m : Option (List ℕ)) (b : ℕ) (o p q : List ℕ) → is_front (step m b) o ≡ false → cut o ≡ (p, q) → cut (b ∷ o) ≡ (b ∷ p, q)
not_cut m b o p q f k = by (b == 10) refl f
  where
    at : (b == 10) ≡ true → is_front (step m b) o ≡ false → is_first_field mark o ≡ false
    at e f = sym (ap (λ d. is_front (cond d (Some mark) (same_line m b)) o) e) ∙ f

    by : (d : Bool) → (b == 10) ≡ d → is_front (step m b) o ≡ false → cond {A = Parts} (d && is_first_field mark o) (b ∷ [], o) (b ∷ (cut o).0, (cut o).1) ≡ (b ∷ p, q)
    by false e f = ap (λ (c : Parts). (b ∷ c.0, c.1)) k
    by true e f = ap (λ d. cond {A = Parts} d (b ∷ [], o) (b ∷ (cut o).0, (cut o).1)) (at e f) ∙ ap (λ (c : Parts). (b ∷ c.0, c.1)) k

-- ---- no second capture begins

unseamed : (m : Option (List ℕ)) (b : ℕ) (o : List ℕ) → (parted m (b ∷ o)).1 ≡ [] → is_seam m b ≡ false
unseamed m b o e = by (is_seam m b) refl e
  where
    by : (d : Bool) → is_seam m b ≡ d → (cond {A = Parts} d ([], b ∷ o) (b ∷ (parted (step m b) o).0, (parted (step m b) o).1)).1 ≡ [] → is_seam m b ≡ false
    by true q e = absurd cc
    by false q e = q

unparted : (m : Option (List ℕ)) (b : ℕ) (o : List ℕ) → (parted m (b ∷ o)).1 ≡ [] → (parted (step m b) o).1 ≡ []
unparted m b o e = sym (ap (λ d. (cond {A = Parts} d ([], b ∷ o) (b ∷ (parted (step m b) o).0, (parted (step m b) o).1)).1) (unseamed m b o e)) ∙ e

alone : (m : Option (List ℕ)) (o : List ℕ) → IsClean m → (parted m o).1 ≡ [] → is_whole (after m o) ≡ false → (cut o ≡ (o, [])) × (is_front m o ≡ false)
alone None [] c e w = (refl, refl)
alone (Some []) [] c e w = absurd (true≢false w)
alone (Some (x ∷ more)) [] c e w = (refl, refl)
alone m (b ∷ o) c e w =
    let r = alone (step m b) o (step_clean m b c) (unparted m b o e) w in
    (not_cut m b o o [] r.1 r.0, front_next m b o c (unseamed m b o e) r.1)

-- ---- one begins

data Begun (m : Option (List ℕ)) (o t : List ℕ) : Type 0 where
  Here : (q : List ℕ) → o ≡ q ++ 10 ∷ mark → cut (o ++ t) ≡ (q ++ 10 ∷ [], mark ++ t) → is_front m (o ++ t) ≡ false → Begun m o t
  Before : m ≡ Some o → is_front m (o ++ t) ≡ true → Begun m o t

begun_next : (m : Option (List ℕ)) (b : ℕ) (o t : List ℕ) → IsClean m → is_seam m b ≡ false → Begun (step m b) o t → Begun m (b ∷ o) t
begun_next m b o t c s (Here q e k f) = Here (b ∷ q) (ap (λ (x : List ℕ). b ∷ x) e) (not_cut m b (o ++ t) (q ++ 10 ∷ []) (mark ++ t) f k) (front_next m b (o ++ t) c s f)
begun_next m b o t c s (Before e f) = by (b == 10) refl e f
  where
    same_some : (x y : List ℕ) → Some x ≡ Some y → x ≡ y
    same_some x y e = cc

    feed : (b == 10) ≡ true → mark ≡ o → is_first_field mark (o ++ t) ≡ true → Begun m (b ∷ o) t
    feed p e f = Here [] (ap (λ n. n ∷ o) (eqb-true b 10 p) ∙ ap (λ (x : List ℕ). 10 ∷ x) (sym e))
        (ap (λ d. cond {A = Parts} (d && is_first_field mark (o ++ t)) (b ∷ [], o ++ t) (b ∷ (cut (o ++ t)).0, (cut (o ++ t)).1)) p
        ∙ ap (λ d. cond {A = Parts} d (b ∷ [], o ++ t) (b ∷ (cut (o ++ t)).0, (cut (o ++ t)).1)) f
        ∙ ap (λ n. (n ∷ [], o ++ t)) (eqb-true b 10 p) ∙ ap (λ (x : List ℕ). (10 ∷ [], x ++ t)) (sym e))
        (front_feed m b (o ++ t) c s p)

    in_line : (n : Option (List ℕ)) → same_line n b ≡ Some o → is_first_field o (o ++ t) ≡ true → (n ≡ Some (b ∷ o)) × (is_front n (b ∷ o ++ t) ≡ true)
    in_line None e f = absurd cc
    in_line (Some []) e f = absurd cc
    in_line (Some (x ∷ more)) e f = at (b == x) refl e
      where
        at : (d : Bool) → (b == x) ≡ d → cond d (Some more) None ≡ Some o → (Some (x ∷ more) ≡ Some (b ∷ o)) × ((d && is_first_field more (o ++ t)) ≡ true)
        at false q e = absurd cc
        at true q e =
            let same = same_some more o e in
            (ap (λ n. Some (n ∷ more)) (sym (eqb-true b x q)) ∙ ap (λ (r : List ℕ). Some (b ∷ r)) same, ap (λ (r : List ℕ). is_first_field r (o ++ t)) same ∙ f)

    by : (d : Bool) → (b == 10) ≡ d → cond d (Some mark) (same_line m b) ≡ Some o → is_front (cond d (Some mark) (same_line m b)) (o ++ t) ≡ true → Begun m (b ∷ o) t
    by true p e f = feed p (same_some mark o e) f
    by false p e f =
        let r = in_line m e (sym (ap (λ (n : Option (List ℕ)). is_front n (o ++ t)) e) ∙ f) in
        Before r.0 r.1

begun : (m : Option (List ℕ)) (o t : List ℕ) → IsClean m → (parted m o).1 ≡ [] → is_whole (after m o) ≡ true → is_first_field [] t ≡ true → Begun m o t
begun None [] t c e w s = absurd (true≢false (sym w))
begun (Some []) [] t c e w s = Before refl s
begun (Some (x ∷ more)) [] t c e w s = absurd (true≢false (sym w))
begun m (b ∷ o) t c e w s = begun_next m b o t c (unseamed m b o e) (begun (step m b) o t (step_clean m b c) (unparted m b o e) w s)

-- ---- both ways to see it

-- the second capture has begun with its mark: t is what came after it
pub record IsCut (o q t : List ℕ) : Type 0 where
  pub front : (parted None o).0 ≡ q ++ 10 ∷ mark
  pub rest : (parted None o).1 ≡ t
  pub parts : cut o ≡ (q ++ 10 ∷ [], mark ++ t)
  pub whole : is_whole (after None (parted None o).0) ≡ true

-- or it hasn't
pub record IsAlone (o : List ℕ) : Type 0 where
  pub front : (parted None o).0 ≡ o
  pub rest : (parted None o).1 ≡ []
  pub parts : cut o ≡ (o, [])
  pub unmarked : is_whole (after None o) ≡ false

pub data Cutting (o : List ℕ) : Type 0 where
  Cut : (q t : List ℕ) → IsCut o q t → Cutting o
  Alone : IsAlone o → Cutting o

here : (u o t : List ℕ) → (parted None o).0 ≡ u → (parted None o).1 ≡ t → is_whole (after None u) ≡ true → u ++ t ≡ o → Begun None u t → Cutting o
here u o t e f w j (Before n k) = absurd cc
here u o t e f w j (Here q is k n) = Cut q t (record {
  front = e ∙ is;
  rest = f;
  parts = ap cut (sym j) ∙ k;
  whole = ap (λ (x : List ℕ). is_whole (after None x)) e ∙ w;
})

pub cutting : (o : List ℕ) → Cutting o
cutting o = by (from_seam None o)
  where
    u : List ℕ
    u = (parted None o).0

    at : (w : Bool) → is_whole (after None u) ≡ w → (parted None o).1 ≡ [] → Cutting o
    at true w n = here u o [] refl n w (ap (λ (t : List ℕ). u ++ t) (sym n) ∙ joins None o) (begun None u [] tt (front_alone None o) w refl)
    at false w n =
        let all = all_before None o n in
        let unmarked : is_whole (after None o) ≡ false = sym (ap (λ (x : List ℕ). is_whole (after None x)) all) ∙ w in
        Alone (record { front = all; rest = n; parts = (alone None o tt n unmarked).0; unmarked = unmarked })

    by : FromSeam None o → Cutting o
    by (Nothing n) = at (is_whole (after None u)) refl n
    by (Seen b t s p w) = here u o (b ∷ t) refl s w (ap (λ (x : List ℕ). u ++ x) (sym s) ∙ joins None o) (begun None u (b ∷ t) tt (front_alone None o) w p)
