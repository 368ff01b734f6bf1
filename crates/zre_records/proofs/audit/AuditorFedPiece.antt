-- The machine of `audit`, fed one more piece.
use Rattle.std.proofs.Common.{◌≡◌, ℕ, ◌+◌, ◌-◌, ◌<◌, false, List, [], ◌∷◌, ◌++◌, length, take, take_all, drop, length-drop, get_or, Option, Some, None, Result, OnOk, refl, sym, ap, ◌∙◌, subst, arith}
use Rattle.std.specs.Prelude.{is_some}
use Rattle.std.proofs.lemmas.Bool.{or_parts}
use Rattle.std.proofs.lemmas.List.{drop_more}
use Rattle.zre_values.proofs.AnswersThatAreOk.{on_ok}
use Rattle.zre_audit.specs.declared.watch.Watch.{Watch}
use Rattle.zre_capture.specs.Journal.{settings, bad}
use Rattle.zre_capture.specs.declared.format.Format.TheVariants.{Second}
use Rattle.zre_values.specs.declared.settings.Settings.{Settings}
use Rattle.zre_records.specs.audit.Audit.{later_bad, audit}
use Rattle.zre_records.specs.audit.Auditor.{unseen, HasBegun, Fed}
use Rattle.zre_records.specs.audit.Cut.{mark}
use Rattle.zre_records.specs.audit.Later.{IsLater}
use Rattle.zre_records.specs.audit.Seam.{Seeking, parted, before_seam, from_seam, HasPassed, IsUnparted, IsParted}
use Rattle.zre_records.specs.audit.Watched.{Watched}
use Rattle.zre_records.specs.declared.audit.auditor.Auditor.{Auditor}
use Rattle.zre_records.specs.declared.audit.later.Later.{Later}
use Rattle.zre_records.specs.declared.replay.headed.Headed.{Headed}
use Rattle.zre_records.proofs.audit.SecondCaptureBegins.{parted_later, parted_on, all_before}
use Rattle.zre_records.proofs.audit.CapturesOfText.{stopped_first, stopped_both, mark_not_bad}
use Rattle.zre_records.proofs.audit.BeforeSecondCapture.{passed_more}

-- before any octet
pub nothing_fed : (a : Auditor) → a.seam.awaited ≡ None → a.seam.lines ≡ 0 → Watched a.first [] → a.second ≡ None → Fed a []
nothing_fed a m n f s = record {
  seam = record { awaited = m; lines = n };
  first = f;
  second = subst (λ (l : Option Later). HasBegun (settings Second []) [] l) (sym s) tt;
}

-- ---- before it was seen that the second capture has begun

none_begun : (told : Option Settings) (t : List ℕ) (l : Option Later) → l ≡ None → HasBegun told t l → t ≡ []
none_begun told [] l e h = refl
none_begun told (b ∷ t) None e h = absurd h
none_begun told (b ∷ t) (Some l) e h = absurd cc

pub not_begun : (a : Auditor) (o : List ℕ) → Fed a o → a.second ≡ None → from_seam o ≡ []
not_begun a o f e = none_begun (settings Second (before_seam o)) (from_seam o) a.second e f.second

-- all that came is of the first
pub record IsFirst (a : Auditor) (o : List ℕ) : Type 0 where
  pub rest : from_seam o ≡ []
  pub all : before_seam o ≡ o
  pub seam : HasPassed unseen o a.seam
  pub first : Watched a.first o

pub is_first : (a : Auditor) (o : List ℕ) → Fed a o → a.second ≡ None → IsFirst a o
is_first a o f e =
    let n = not_begun a o f e in
    let all = all_before None o n in
    record {
      rest = n;
      all = all;
      seam = subst (λ (u : List ℕ). HasPassed unseen u a.seam) all f.seam;
      first = subst (λ (u : List ℕ). Watched a.first u) all f.first;
    }

pub first_going : (o : List ℕ) → from_seam o ≡ [] → before_seam o ≡ o → audit.is_stopped o ≡ false → is_some (bad Second o) ≡ false
first_going o n all going = ap (λ (u : List ℕ). is_some (bad Second u)) (sym all) ∙ sym (stopped_first o n) ∙ going

-- a piece without the octet that shows it
pub piece_unparted : (a b : Auditor) (o x : List ℕ) → IsFirst a o → IsUnparted a.seam x b.seam → Watched b.first (o ++ x) → b.second ≡ None → Fed b (o ++ x)
piece_unparted a b o x k u f s =
    let parts : parted None (o ++ x) ≡ (o ++ x, []) =
    parted_on None o x k.rest
    ∙ ap (λ (m : Option (List ℕ)). (o ++ (parted m x).0, (parted m x).1)) (sym k.seam.awaited)
    ∙ ap (λ (c : List ℕ × List ℕ). (o ++ c.0, c.1)) u.parts in
    let front : before_seam (o ++ x) ≡ o ++ x = ap (λ (c : List ℕ × List ℕ). c.0) parts in
    let rest : from_seam (o ++ x) ≡ [] = ap (λ (c : List ℕ × List ℕ). c.1) parts in
    record {
      seam = subst (λ (v : List ℕ). HasPassed unseen v b.seam) (sym front) (passed_more unseen a.seam b.seam o x k.seam u.passed);
      first = subst (λ (v : List ℕ). Watched b.first v) (sym front) f;
      second = subst (λ (t : List ℕ). HasBegun (settings Second (before_seam (o ++ x))) t b.second) (sym rest)
          (subst (λ (l : Option Later). HasBegun (settings Second (before_seam (o ++ x))) [] l) (sym s) tt);
    }

begun_with : (told : Option Settings) (x : List ℕ) (i : ℕ) (l : Later) → i < length x → IsLater told (mark ++ drop i x) l → HasBegun told (drop i x) (Some l)
begun_with told x i l lt k =
    let some : drop i x ≡ get_or x i 0 ∷ drop (i + 1) x = drop_more x i 0 lt in
    subst (λ (t : List ℕ). HasBegun told t (Some l)) (sym some) (subst (λ (t : List ℕ). IsLater told (mark ++ t) l) some k)

-- and one with it
pub piece_parted : (a b : Auditor) (o x : List ℕ) (i : ℕ) (l : Later) → IsFirst a o → IsParted a.seam x i b.seam → Watched b.first (o ++ take i x)
    → IsLater (settings Second (o ++ take i x)) (mark ++ drop i x) l → b.second ≡ Some l → Fed b (o ++ x)
piece_parted a b o x i l k u f later s =
    let parts : parted None (o ++ x) ≡ (o ++ take i x, drop i x) =
    parted_on None o x k.rest
    ∙ ap (λ (m : Option (List ℕ)). (o ++ (parted m x).0, (parted m x).1)) (sym k.seam.awaited)
    ∙ ap (λ (c : List ℕ × List ℕ). (o ++ c.0, c.1)) u.parts in
    let front : before_seam (o ++ x) ≡ o ++ take i x = ap (λ (c : List ℕ × List ℕ). c.0) parts in
    let rest : from_seam (o ++ x) ≡ drop i x = ap (λ (c : List ℕ × List ℕ). c.1) parts in
    record {
      seam = subst (λ (v : List ℕ). HasPassed unseen v b.seam) (sym front) (passed_more unseen a.seam b.seam o (take i x) k.seam u.passed);
      first = subst (λ (v : List ℕ). Watched b.first v) (sym front) f;
      second = subst (λ (v : List ℕ). HasBegun (settings Second v) (from_seam (o ++ x)) b.second) (sym front)
          (subst (λ (t : List ℕ). HasBegun (settings Second (o ++ take i x)) t b.second) (sym rest)
          (subst (λ (n : Option Later). HasBegun (settings Second (o ++ take i x)) (drop i x) n) (sym s) (begun_with (settings Second (o ++ take i x)) x i l u.within later)));
    }

-- what stands from a place on, as a slice
pub rest_is : (i : ℕ) (x : List ℕ) → take (length x - i) (drop i x) ≡ drop i x
rest_is i x = take_all (length x - i) (drop i x) (omega (arith, length-drop i x))

-- what the second was handed first isn't refused
pub mark_going : (told : Option Settings) → is_some (later_bad told mark) ≡ false
mark_going told = ap is_some (mark_not_bad told)

-- ---- since

pub data HasSeen (a : Auditor) (o : List ℕ) (l : Later) : Type 0 where
  Seen : (b : ℕ) (t : List ℕ) → from_seam o ≡ b ∷ t → IsLater (settings Second (before_seam o)) (mark ++ b ∷ t) l → HasSeen a o l

pub has_seen : (a : Auditor) (o : List ℕ) (l : Later) → Fed a o → a.second ≡ Some l → HasSeen a o l
has_seen a o l f e = by (from_seam o) refl (subst (λ (n : Option Later). HasBegun (settings Second (before_seam o)) (from_seam o) n) e f.second)
  where
    by : (t : List ℕ) → from_seam o ≡ t → HasBegun (settings Second (before_seam o)) t (Some l) → HasSeen a o l
    by [] q h = absurd h
    by (b ∷ t) q h = Seen b t q h

later_going : (o : List ℕ) (b : ℕ) (t : List ℕ) → from_seam o ≡ b ∷ t → audit.is_stopped o ≡ false → is_some (later_bad (settings Second (before_seam o)) (mark ++ b ∷ t)) ≡ false
later_going o b t e going = (or_parts (is_some (bad Second (before_seam o))) _ (sym (stopped_both o b t e) ∙ going)).1

pub piece_later : {T E : Type 0} (r : Result T E) (a b : Auditor) (o x : List ℕ) (l m : Later) → Fed a o → a.second ≡ Some l → audit.is_stopped o ≡ false
    → ((told : Option Settings) (y : List ℕ) → IsLater told y l → is_some (later_bad told y) ≡ false → OnOk r (IsLater told (y ++ x) m))
    → b.seam ≡ a.seam → b.first ≡ a.first → b.second ≡ Some m → OnOk r (Fed b (o ++ x))
piece_later r a b o x l m f e going taken seam first second = by (has_seen a o l f e)
  where
    fed : (c : ℕ) (t : List ℕ) → from_seam o ≡ c ∷ t → IsLater (settings Second (before_seam o)) (mark ++ c ∷ (t ++ x)) m → Fed b (o ++ x)
    fed c t q more =
        let parts : parted None (o ++ x) ≡ (before_seam o, from_seam o ++ x) = parted_later None o x c t q in
        let front : before_seam (o ++ x) ≡ before_seam o = ap (λ (p : List ℕ × List ℕ). p.0) parts in
        let rest : from_seam (o ++ x) ≡ c ∷ (t ++ x) = ap (λ (p : List ℕ × List ℕ). p.1) parts ∙ ap (λ (y : List ℕ). y ++ x) q in
        record {
          seam = subst (λ (v : List ℕ). HasPassed unseen v b.seam) (sym front) (subst (λ (s : Seeking). HasPassed unseen (before_seam o) s) (sym seam) f.seam);
          first = subst (λ (v : List ℕ). Watched b.first v) (sym front) (subst (λ (w : Headed Watch). Watched w (before_seam o)) (sym first) f.first);
          second = subst (λ (v : List ℕ). HasBegun (settings Second v) (from_seam (o ++ x)) b.second) (sym front)
              (subst (λ (y : List ℕ). HasBegun (settings Second (before_seam o)) y b.second) (sym rest)
              (subst (λ (n : Option Later). HasBegun (settings Second (before_seam o)) (c ∷ (t ++ x)) n) (sym second) more));
        }

    by : HasSeen a o l → OnOk r (Fed b (o ++ x))
    by (Seen c t q k) = on_ok r (taken (settings Second (before_seam o)) (mark ++ c ∷ t) k (later_going o c t q going)) (fed c t q)
