-- What is found of octets holds of what is said.
use Rattle.std.proofs.Common.{◌≡◌, ◌↔◌, ℕ, ◌+◌, ◌<◌, Bool, true, false, cond, ◌&&◌, ltb, nat_eq, List, [], ◌∷◌, ◌++◌, length, map, Option, Some, None, refl, sym, ap, ◌∙◌, subst, inl, inr, arith, append_assoc, append-nil, true≢false, ltb-true, lt-ltb, bytes_eq, drop, flat_map}
use Rattle.std.proofs.lemmas.Cmp.{nat_list_eq_equiv, lists_equiv, on_equiv}
use Rattle.std.proofs.lemmas.List.{length-append}
use Rattle.std.proofs.lemmas.List.Concat.{flat_map-cons}
use Rattle.std.proofs.lemmas.List.Sums.{sum_by-cons}
use Rattle.std.proofs.lemmas.Slice.Eq.{bytes_eq-Decides}
use Rattle.std.specs.Cmp.{IsEquivalence}
use Rattle.std.specs.Cmp.Lexicographic.{pointwise}
use Rattle.std.specs.List.{AllByRecursion}
use Rattle.zre_msg.specs.declared.message.Body.{Body}
use Rattle.zre_msg.specs.declared.message.Body.TheVariants as body
use Rattle.zre_audit.specs.Coding.{octets_of, code, part, parts}
use Rattle.zre_values.specs.declared.peer_id.PeerId.{PeerId}
use Rattle.zre_journal.specs.Chronicle.{Mark}
use Rattle.zre_journal.specs.Links.{bodies}
use Rattle.zre_journal.specs.Peers.{counted}
use Rattle.zre_audit.specs.Exchanged.{is_said, said, bodies_of, parts_of, is_same_said, runs_of, links_of, heard, put}
use Rattle.zre_outside.specs.declared.entry.Entry.{Entry}
use Rattle.zre_values.specs.declared.settings.Settings.{Settings as Config}
use Rattle.zre_audit.specs.Agreement.{Agree, IsTooMany, Judges, judged, too_many, heard_first, heard_second, put_first, put_second}
use Rattle.zre_audit.specs.Prefixes.{begins, begun, is_short, NoneIsShort, IsFirstShort, first_from, first_short}
use Rattle.zre_audit.specs.declared.verdicts.Verdict.{Verdict}
use Rattle.zre_audit.specs.declared.verdicts.Verdict.TheVariants.{Yes, No}
use Rattle.zre_audit.proofs.CodesArePrefixFree.{part-front, parts-front, parts-mark, rest-of, front-same}
use Rattle.zre_audit.proofs.PlacesForAll.{none-short, has-places}

-- ---- what is the same

pub same_equiv : IsEquivalence is_same_said
same_equiv = on_equiv parts_of (lists_equiv nat_list_eq_equiv)

-- lists of lists of octets that are found the same are
lists_same : (xs ys : List (List ℕ)) → pointwise bytes_eq xs ys ≡ true → xs ≡ ys
lists_same [] [] e = refl
lists_same [] (y ∷ ys) e = absurd (true≢false (sym e))
lists_same (x ∷ xs) [] e = absurd (true≢false (sym e))
lists_same (x ∷ xs) (y ∷ ys) e = by (bytes_eq x y) refl e (lists_same xs ys)
  where
    by : (b : Bool) → bytes_eq x y ≡ b → (b && pointwise bytes_eq xs ys) ≡ true → (pointwise bytes_eq xs ys ≡ true → xs ≡ ys) → x ∷ xs ≡ y ∷ ys
    by true q z r = λ i. (bytes_eq-Decides x y).0 q i ∷ r z i
    by false q z r = absurd (true≢false (sym z))

heads : {A : Type 0} (x y : A) (xs ys : List A) → x ∷ xs ≡ y ∷ ys → (x ≡ y) × (xs ≡ ys)
heads x y xs ys e = (let h : x ≡ y = cc in h, ap (drop 1) e)

one_body : (b c : Body) → is_said b ≡ true → is_said c ≡ true → parts_of b ≡ parts_of c → b ≡ c
one_body (body.Whisper m) (body.Whisper n) s t e = ap (λ k. body.Whisper k) (heads [] [] m n e).1
one_body (body.Whisper m) (body.Shout g n) s t e = absurd (let h = (heads [] (1 ∷ g) m n e).0 in cc)
one_body (body.Shout g m) (body.Whisper n) s t e = absurd (let h = (heads (1 ∷ g) [] m n e).0 in cc)
one_body (body.Shout g m) (body.Shout h n) s t e = let p = heads (1 ∷ g) (1 ∷ h) m n e in λ i. body.Shout (ap (drop 1) p.0 i) (p.1 i)
one_body (body.Hello endpoint groups status name headers) c s t e = absurd (true≢false (sym s))
one_body (body.Join group status) c s t e = absurd (true≢false (sym s))
one_body (body.Leave group status) c s t e = absurd (true≢false (sym s))
one_body body.Ping c s t e = absurd (true≢false (sym s))
one_body body.PingOk c s t e = absurd (true≢false (sym s))
one_body (body.Other number rest more) c s t e = absurd (true≢false (sym s))
one_body b (body.Hello endpoint groups status name headers) s t e = absurd (true≢false (sym t))
one_body b (body.Join group status) s t e = absurd (true≢false (sym t))
one_body b (body.Leave group status) s t e = absurd (true≢false (sym t))
one_body b body.Ping s t e = absurd (true≢false (sym t))
one_body b body.PingOk s t e = absurd (true≢false (sym t))
one_body b (body.Other number rest more) s t e = absurd (true≢false (sym t))

pub same-is : (b c : Body) → is_said b ≡ true → is_said c ≡ true → is_same_said b c ≡ true → b ≡ c
same-is b c s t e = one_body b c s t (lists_same (parts_of b) (parts_of c) e)

-- what isn't said has no parts
unsaid_other : (b c : Body) → is_said b ≡ true → is_said c ≡ false → is_same_said b c ≡ true → ⊥
unsaid_other (body.Whisper m) (body.Whisper n) s t e = true≢false t
unsaid_other (body.Whisper m) (body.Shout g n) s t e = true≢false t
unsaid_other (body.Whisper m) (body.Hello endpoint groups status name headers) s t e = true≢false (sym e)
unsaid_other (body.Whisper m) (body.Join group status) s t e = true≢false (sym e)
unsaid_other (body.Whisper m) (body.Leave group status) s t e = true≢false (sym e)
unsaid_other (body.Whisper m) body.Ping s t e = true≢false (sym e)
unsaid_other (body.Whisper m) body.PingOk s t e = true≢false (sym e)
unsaid_other (body.Whisper m) (body.Other number rest more) s t e = true≢false (sym e)
unsaid_other (body.Shout g m) (body.Whisper n) s t e = true≢false t
unsaid_other (body.Shout g m) (body.Shout h n) s t e = true≢false t
unsaid_other (body.Shout g m) (body.Hello endpoint groups status name headers) s t e = true≢false (sym e)
unsaid_other (body.Shout g m) (body.Join group status) s t e = true≢false (sym e)
unsaid_other (body.Shout g m) (body.Leave group status) s t e = true≢false (sym e)
unsaid_other (body.Shout g m) body.Ping s t e = true≢false (sym e)
unsaid_other (body.Shout g m) body.PingOk s t e = true≢false (sym e)
unsaid_other (body.Shout g m) (body.Other number rest more) s t e = true≢false (sym e)
unsaid_other (body.Hello endpoint groups status name headers) c s t e = true≢false (sym s)
unsaid_other (body.Join group status) c s t e = true≢false (sym s)
unsaid_other (body.Leave group status) c s t e = true≢false (sym s)
unsaid_other body.Ping c s t e = true≢false (sym s)
unsaid_other body.PingOk c s t e = true≢false (sym s)
unsaid_other (body.Other number rest more) c s t e = true≢false (sym s)

pub compared : (b c : Body) → is_said b ≡ true → is_same_said b c ≡ true → b ≡ c
compared b c s e = by (is_said c) refl
  where
    by : (t : Bool) → is_said c ≡ t → b ≡ c
    by true q = same-is b c s q e
    by false q = absurd (unsaid_other b c s q e)

-- ---- no octets begin others

first_body : (b c : Body) (r s : List ℕ) → is_said b ≡ true → is_said c ≡ true → octets_of b ++ r ≡ octets_of c ++ s → b ≡ c
first_body (body.Whisper m) (body.Whisper n) r s y z e = ap (λ k. body.Whisper k) (parts-front m n r s e).0
first_body (body.Whisper m) (body.Shout g n) r s y z e = absurd (parts-mark m r ((part g ++ parts n) ++ s) e)
first_body (body.Shout g m) (body.Whisper n) r s y z e = absurd (parts-mark n s ((part g ++ parts m) ++ r) (sym e))
first_body (body.Shout g m) (body.Shout h n) r s y z e =
    let rest : part g ++ (parts m ++ r) ≡ part h ++ (parts n ++ s) = sym (append_assoc (part g) (parts m) r) ∙ ap (drop 2) e ∙ append_assoc (part h) (parts n) s in
    let p = part-front g h (parts m ++ r) (parts n ++ s) rest in
    let q = parts-front m n r s p.1 in
    λ i. body.Shout (p.0 i) (q.0 i)
first_body (body.Hello endpoint groups status name headers) c r s y z e = absurd (true≢false (sym y))
first_body (body.Join group status) c r s y z e = absurd (true≢false (sym y))
first_body (body.Leave group status) c r s y z e = absurd (true≢false (sym y))
first_body body.Ping c r s y z e = absurd (true≢false (sym y))
first_body body.PingOk c r s y z e = absurd (true≢false (sym y))
first_body (body.Other number rest more) c r s y z e = absurd (true≢false (sym y))
first_body b (body.Hello endpoint groups status name headers) r s y z e = absurd (true≢false (sym z))
first_body b (body.Join group status) r s y z e = absurd (true≢false (sym z))
first_body b (body.Leave group status) r s y z e = absurd (true≢false (sym z))
first_body b body.Ping r s y z e = absurd (true≢false (sym z))
first_body b body.PingOk r s y z e = absurd (true≢false (sym z))
first_body b (body.Other number rest more) r s y z e = absurd (true≢false (sym z))

-- each has some
some_octets : (b : Body) (r : List ℕ) → is_said b ≡ true → begins nat_eq (octets_of b ++ r) [] ≡ false
some_octets b r s = by (octets_of b ++ r) (long b r s)
  where
    long : (b : Body) (r : List ℕ) → is_said b ≡ true → 0 < length (octets_of b ++ r)
    long (body.Whisper m) r s = let p = length-append (parts m) r in let q = ends m in omega (arith, p, q)
      where
        ends : (m : List (List ℕ)) → 0 < length (parts m)
        ends [] = omega arith
        ends (f ∷ fs) = let q = length-append (flat_map part (f ∷ fs)) (1 ∷ 2 ∷ []) in omega (arith, q)
    long (body.Shout g m) r s = omega arith
    long (body.Hello endpoint groups status name headers) r s = absurd (true≢false (sym s))
    long (body.Join group status) r s = absurd (true≢false (sym s))
    long (body.Leave group status) r s = absurd (true≢false (sym s))
    long body.Ping r s = absurd (true≢false (sym s))
    long body.PingOk r s = absurd (true≢false (sym s))
    long (body.Other number rest more) r s = absurd (true≢false (sym s))

    by : (o : List ℕ) → 0 < length o → begins nat_eq o [] ≡ false
    by [] lt = absurd (omega (arith, lt))
    by (x ∷ o) lt = refl

abbrev pub AreSaid : List Body → Type 0
AreSaid bs = AllByRecursion (λ b. is_said b ≡ true) bs

pub said-are : (bs : List Body) → AreSaid (said bs)
said-are [] = tt
said-are (b ∷ bs) = by (is_said b) refl (said-are bs)
  where
    by : (t : Bool) → is_said b ≡ t → AreSaid (said bs) → AreSaid (cond t (b ∷ said bs) (said bs))
    by true e r = (e, r)
    by false e r = r

-- what is said begins what is said exactly where its octets do
begins-code : (bs cs : List Body) → AreSaid bs → AreSaid cs → begins nat_eq (code bs) (code cs) ≡ begins is_same_said bs cs
begins-code [] cs s t = refl
begins-code (b ∷ bs) [] s t = ap (λ o. begins nat_eq o []) (flat_map-cons octets_of b bs) ∙ some_octets b (code bs) s.0
begins-code (b ∷ bs) (c ∷ cs) s t = (λ i. begins nat_eq (flat_map-cons octets_of b bs i) (flat_map-cons octets_of c cs i)) ∙ by (is_same_said b c) refl (begins-code bs cs s.1 t.1)
  where
    by : (w : Bool) → is_same_said b c ≡ w → begins nat_eq (code bs) (code cs) ≡ begins is_same_said bs cs → begins nat_eq (octets_of b ++ code bs) (octets_of c ++ code cs) ≡ (w && begins is_same_said bs cs)
    by true e r = ap (λ x. begins nat_eq (octets_of b ++ code bs) (octets_of x ++ code cs)) (sym (same-is b c s.0 t.0 e)) ∙ front-same (octets_of b) (code bs) (code cs) ∙ r
    by false e r = not_begun (begins nat_eq (octets_of b ++ code bs) (octets_of c ++ code cs)) refl
      where
        not_begun : (w : Bool) → begins nat_eq (octets_of b ++ code bs) (octets_of c ++ code cs) ≡ w → w ≡ false
        not_begun false q = refl
        not_begun true q =
            let rest = rest-of (octets_of b ++ code bs) (octets_of c ++ code cs) q in
            let whole : octets_of c ++ code cs ≡ octets_of b ++ (code bs ++ rest.0) = rest.1 ∙ append_assoc (octets_of b) (code bs) rest.0 in
            let same : c ≡ b = first_body c b (code cs) (code bs ++ rest.0) t.0 s.0 whole in
            absurd (true≢false (sym (same_equiv.refl b) ∙ ap (is_same_said b) (sym same) ∙ e))

-- ---- counts

abbrev pub AllSaid : List (List Body) → Type 0
AllSaid bss = AllByRecursion AreSaid bss

abbrev one : Bool → ℕ
one b = cond b 1 0

begun-code : (bs : List Body) (css : List (List Body)) → AreSaid bs → AllSaid css → begun nat_eq (code bs) (map code css) ≡ begun is_same_said bs css
begun-code bs [] s t = refl
begun-code bs (cs ∷ css) s t =
    let a = sum_by-cons (λ xs. cond (begins nat_eq (code bs) xs) 1 0) (code cs) (map code css) in
    let b = sum_by-cons (λ xs. cond (begins is_same_said bs xs) 1 0) cs css in
    let c = ap one (begins-code bs cs s t.0) in
    let r = begun-code bs css s t.1 in
    omega (arith, a, b, c, r)

-- the first that is found of octets is the first of what is said
module _ (firsts others : List (List Body)) (s : AllSaid firsts) (t : AllSaid others) where
  from_code : (n : ℕ) (bss : List (List Body)) → AllSaid bss → first_from nat_eq n (map code firsts) (map code others) (map code bss) ≡ first_from is_same_said n firsts others bss
  from_code n [] u = refl
  from_code n (bs ∷ bss) u = λ i.
      cond (ltb (begun-code bs others u.0 t i) (begun-code bs firsts u.0 s i)) (Some (n, begun-code bs firsts u.0 s i, begun-code bs others u.0 t i)) (from_code (n + 1) bss u.1 i)

  pub first-code : first_short nat_eq (map code firsts) (map code others) ≡ first_short is_same_said firsts others
  first-code = from_code 1 firsts s

-- ---- the first one, or none

module _ {A : Type 0} (same : A → A → Bool) (firsts others : List (List A)) where
  abbrev pub IsFirst : Option (ℕ × ℕ × ℕ) → Type 0
  IsFirst None = NoneIsShort same firsts others
  IsFirst (Some t) = IsFirstShort same firsts others t.0 t.1 t.2

  abbrev NoneAmong : List (List A) → Type 0
  NoneAmong xss = AllByRecursion (λ ys. is_short same firsts others ys ≡ false) xss

  none_last : (xss : List (List A)) (xs : List A) → NoneAmong xss → is_short same firsts others xs ≡ false → NoneAmong (xss ++ xs ∷ [])
  none_last [] xs n e = (e, tt)
  none_last (ys ∷ xss) xs n e = (n.0, none_last xss xs n.1 e)

  search_from : (done rest : List (List A)) → firsts ≡ done ++ rest → NoneAmong done → (n : ℕ) → n ≡ length done + 1 → IsFirst (first_from same n firsts others rest)
  search_from done [] e n m c = subst NoneAmong (sym (append-nil done) ∙ sym e) n
  search_from done (xs ∷ rest) e n m c = by (is_short same firsts others xs) refl
      (λ z. search_from (done ++ xs ∷ []) rest (e ∙ sym (append_assoc done (xs ∷ []) rest)) (none_last done xs n z) (m + 1) (let l = length-append done (xs ∷ []) in omega (arith, c, l)))
    where
      by : (b : Bool) → is_short same firsts others xs ≡ b → (is_short same firsts others xs ≡ false → IsFirst (first_from same (m + 1) firsts others rest))
          → IsFirst (cond b (Some (m, begun same xs firsts, begun same xs others)) (first_from same (m + 1) firsts others rest))
      by true q r = record { before = done; list = xs; later = rest; stands = e; number_is = c; more_is = refl; fewer_is = refl; exceeds = ltb-true (begun same xs others) (begun same xs firsts) q; none_earlier = n }
      by false q r = r q

  pub first_is : IsFirst (first_short same firsts others)
  first_is = search_from [] firsts refl tt 1 refl

  all-at : (P : List A → Type 0) (front : List (List A)) (xs : List A) (back : List (List A)) → AllByRecursion P (front ++ xs ∷ back) → P xs
  all-at P [] xs back a = a.0
  all-at P (ys ∷ front) xs back a = all-at P front xs back a.1

  -- not both
  pub none_and_first : (number more fewer : ℕ) → NoneIsShort same firsts others → IsFirstShort same firsts others number more fewer → ⊥
  none_and_first number more fewer n f =
      let none = all-at (λ ys. is_short same firsts others ys ≡ false) f.before f.list f.later (subst NoneAmong f.stands n) in
      let a = f.more_is in
      let b = f.fewer_is in
      let c = f.exceeds in
      let some = lt-ltb (begun same f.list others) (begun same f.list firsts) (omega (arith, a, b, c)) in
      true≢false (sym some ∙ none)

-- ---- verdicts

module _ (g k : Config) (J K : List Entry) where
  pub judged_right : Judges g k J K (judged g k J K)
  judged_right = by (first_short is_same_said (heard_first g k J K) (put_second g k J K)) (first_is is_same_said (heard_first g k J K) (put_second g k J K))
      (first_short is_same_said (heard_second g k J K) (put_first g k J K)) (first_is is_same_said (heard_second g k J K) (put_first g k J K))
    where
      by : (o : Option (ℕ × ℕ × ℕ)) → IsFirst is_same_said (heard_first g k J K) (put_second g k J K) o → (p : Option (ℕ × ℕ × ℕ)) → IsFirst is_same_said (heard_second g k J K) (put_first g k J K) p
          → Judges g k J K (too_many 1 o (too_many 2 p Yes))
      by (Some t) x p y = inl (refl, x)
      by None x (Some t) y = inr (refl, x, y)
      by None x None y = record { first = has-places is_same_said same_equiv (heard_first g k J K) (put_second g k J K) x; second = has-places is_same_said same_equiv (heard_second g k J K) (put_first g k J K) y }

  pub not_both : (side run runs links : ℕ) → IsTooMany g k J K side run runs links → Agree g k J K → ⊥
  not_both side run runs links (inl p) a = none_and_first is_same_said (heard_first g k J K) (put_second g k J K) run runs links (none-short is_same_said same_equiv (heard_first g k J K) (put_second g k J K) a.first) p.1
  not_both side run runs links (inr p) a = none_and_first is_same_said (heard_second g k J K) (put_first g k J K) run runs links (none-short is_same_said same_equiv (heard_second g k J K) (put_first g k J K) a.second) p.2

  pub yes_agree : (v : Verdict) → Judges g k J K v → (v ≡ Yes) ↔ Agree g k J K
  yes_agree Yes j = (λ e. j, λ a. refl)
  yes_agree (No side run runs links) j = (λ e. absurd cc, λ a. absurd (not_both side run runs links j a))

said-all : {A : Type 0} (f : A → List Body) (xs : List A) → ((x : A) → AreSaid (f x)) → AllSaid (map f xs)
said-all f [] s = tt
said-all f (x ∷ xs) s = (s x, said-all f xs s)

pub heard-said : (p : PeerId) (H : List Mark) → AllSaid (heard p H)
heard-said p H = said-all (λ l. said (bodies_of (counted l H))) (runs_of p H) (λ l. said-are (bodies_of (counted l H)))

pub put-said : (p : PeerId) (H : List Mark) → AllSaid (put p H)
put-said p H = said-all (λ l. said (bodies l H)) (links_of p H) (λ l. said-are (bodies l H))
