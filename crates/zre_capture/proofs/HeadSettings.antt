-- The head of format 2 and its settings.
use Rattle.std.proofs.Common.{subst, ◌≡◌, ℕ, ◌<◌, ◌≤◌, ◌^◌, ◌&&◌, leb, ltb, cond, Bool, true, false, List, [], ◌∷◌, ◌++◌, length, append_assoc, Some, None, refl, sym, ap, ◌∙◌, arith}
use Rattle.std.specs.Prelude.{codes, decimal, option_and_then}
use Rattle.std.specs.List.{list_all}
use Rattle.std.specs.Str.{bytes_eq}
use Rattle.std.proofs.lemmas.Bool.{and_parts, and_from, leb-true, ltb-true, le-leb, lt-ltb}
use Rattle.std.proofs.lemmas.Option.{same_Some}
use Rattle.zre_values.specs.Address.{address_text, IsAddress}
use Rattle.zre_values.specs.PlainId.{IsPeerId}
use Rattle.zre_values.specs.Settings.{are_apart, is_fitting}
use Rattle.zre_values.specs.Text.{id_text, quoted, quoted_pairs}
use Rattle.zre_capture.specs.Headers.{headers_of}
use Rattle.zre_capture.specs.Heads.{head_fields, head_text, AreSettings}
use Rattle.zre_values.specs.Settings.{is_valid}
use Rattle.zre_capture.specs.Parts.{one}
use Rattle.zre_capture.specs.Reading.{fields_in, plain_with, settings_with, settings_in, settings_of}
use Rattle.zre_capture.specs.Values.{id_of, address_of, number_within, short_of}
use Rattle.zre_capture.specs.declared.format.Format.TheVariants.{Second}
use Rattle.zre_capture.specs.declared.head.PlainSettings.{PlainSettings}
use Rattle.zre_values.specs.declared.settings.Settings.{Settings}
use Rattle.zre_capture.proofs.ReadIsSpelled.{stepped}
use Rattle.zre_capture.proofs.ReadingDifferences.{within-some, within-decimal}
use Rattle.zre_capture.proofs.FieldTexts.{id_of-text, id_of-some, address_of-text, address_of-some}
use Rattle.zre_capture.proofs.QuotedLengths.{short-quoted, short_of-some}
use Rattle.zre_capture.proofs.HeaderLists.{headers_of-pairs, headers_of-some, pairs-visible}
use Rattle.zre_capture.proofs.VisibleFields.{visible, decimal-visible, id-visible, address-visible, quoted-visible, fields-joined}

-- ---- too few fields, and too many

pub few : (fs : List (List ℕ)) → length fs < 9 → settings_in fs ≡ None
unfolding settings_in
few [] lt = refl
few (a ∷ []) lt = refl
few (a ∷ b ∷ []) lt = refl
few (a ∷ b ∷ c ∷ []) lt = refl
few (a ∷ b ∷ c ∷ d ∷ []) lt = refl
few (a ∷ b ∷ c ∷ d ∷ e ∷ []) lt = refl
few (a ∷ b ∷ c ∷ d ∷ e ∷ f ∷ []) lt = refl
few (a ∷ b ∷ c ∷ d ∷ e ∷ f ∷ g ∷ []) lt = refl
few (a ∷ b ∷ c ∷ d ∷ e ∷ f ∷ g ∷ h ∷ []) lt = refl
few (a ∷ b ∷ c ∷ d ∷ e ∷ f ∷ g ∷ h ∷ i ∷ more) lt = absurd (omega (arith, lt))

pub many : (a b c d e f g h : List ℕ) (fs : List (List ℕ)) → None ≡ one fs → settings_in (a ∷ b ∷ c ∷ d ∷ e ∷ f ∷ g ∷ h ∷ fs) ≡ None
unfolding settings_in
many a b c d e f g h [] none = refl
many a b c d e f g h (i ∷ []) none = absurd cc
many a b c d e f g h (i ∷ j ∷ more) none = refl

pub one_is : (fs : List (List ℕ)) (f : List ℕ) → Some f ≡ one fs → fs ≡ f ∷ []
one_is [] f e = absurd cc
one_is (a ∷ []) f e = ap (λ (g : List ℕ). g ∷ []) (sym (same_Some f a e))
one_is (a ∷ b ∷ more) f e = absurd cc

-- ---- what is valid

pub record AreValid (s : Settings) : Type 0 where
  pub name : leb (length s.name) 255 ≡ true
  pub few_headers : leb (length s.headers) 256 ≡ true
  pub fitting : list_all is_fitting s.headers ≡ true
  pub apart : are_apart s.headers ≡ true
  pub port : 0 < s.port
  pub first : 1 ≤ s.evasive
  pub order : s.evasive ≤ s.expired
  pub last : s.expired ≤ 86400000

pub valid : (s : Settings) → is_valid s ≡ true → AreValid s
valid s are =
    let p = and_parts _ _ are in
    let q = and_parts _ _ p.0 in
    let r = and_parts _ _ q.0 in
    let t = and_parts _ _ r.0 in
    let u = and_parts _ _ t.0 in
    let v = and_parts _ _ u.0 in
    let w = and_parts _ _ v.0 in
    record {
      name = w.0;
      few_headers = w.1;
      fitting = v.1;
      apart = u.1;
      port = ltb-true _ _ t.1;
      first = leb-true _ _ r.1;
      order = leb-true _ _ q.1;
      last = leb-true _ _ p.1;
    }

pub valid-from : (s : Settings) → AreValid s → is_valid s ≡ true
valid-from s v =
    and_from _ _ (and_from _ _ (and_from _ _ (and_from _ _ (and_from _ _ (and_from _ _ (and_from _ _ v.name v.few_headers) v.fitting) v.apart)
    (lt-ltb 0 s.port v.port)) (le-leb 1 s.evasive v.first)) (le-leb s.evasive s.expired v.order)) (le-leb s.expired 86400000 v.last)

-- ---- the fields

times-fit : (s : Settings) → AreSettings s → (s.evasive < 2 ^ 64) × (s.expired < 2 ^ 64) × (s.port < 2 ^ 64)
times-fit s are =
    let v = valid s are.valid in
    let order = v.order in
    let last = v.last in
    let port = are.port in
    (omega (arith, order, last), omega (arith, last), omega (arith, port))

both : (f : List ℕ) (fs : List (List ℕ)) → visible f ≡ true → list_all visible fs ≡ true → list_all visible (f ∷ fs) ≡ true
both f fs p q = and_from (visible f) (list_all visible fs) p q

module _ (s : Settings) (are : AreSettings s) where
  abbrev times : List (List ℕ)
  times = decimal s.port ∷ decimal s.evasive ∷ decimal s.expired ∷ quoted_pairs s.headers ∷ []

  times-visible : list_all visible times ≡ true
  times-visible =
      let fit = times-fit s are in
      both (decimal s.port) (decimal s.evasive ∷ decimal s.expired ∷ quoted_pairs s.headers ∷ []) (decimal-visible s.port fit.2)
      (both (decimal s.evasive) (decimal s.expired ∷ quoted_pairs s.headers ∷ []) (decimal-visible s.evasive fit.0)
      (both (decimal s.expired) (quoted_pairs s.headers ∷ []) (decimal-visible s.expired fit.1)
      (both (quoted_pairs s.headers) [] (pairs-visible s.headers are.headers) refl)))

  pub head-visible : list_all visible (head_fields s) ≡ true
  head-visible =
      both (codes "zre-capture") (codes "2" ∷ id_text s.id ∷ quoted s.name ∷ address_text s.host ∷ times) refl
      (both (codes "2") (id_text s.id ∷ quoted s.name ∷ address_text s.host ∷ times) refl
      (both (id_text s.id) (quoted s.name ∷ address_text s.host ∷ times) (id-visible s.id)
      (both (quoted s.name) (address_text s.host ∷ times) (quoted-visible s.name are.name)
      (both (address_text s.host) times (address-visible s.host are.host) times-visible))))

settings_in-head : (s : Settings) → AreSettings s → settings_in (head_fields s) ≡ Some s
unfolding settings_in plain_with
settings_in-head s are =
    let v = valid s are.valid in
    let fit = times-fit s are in
    let port = are.port in
    let order = v.order in
    let last = v.last in
    let some = v.port in
    rw (
      id_of-text s.id are.id,
      address_of-text s.host are.host,
      within-decimal 1 65535 s.port fit.2 (omega (arith, some)) (omega (arith, port)),
      within-decimal 1 86400000 s.evasive fit.0 v.first (omega (arith, order, last)),
      within-decimal s.evasive 86400000 s.expired fit.1 order last,
      short-quoted 255 s.name are.name v.name,
      headers_of-pairs s.headers are.headers v.few_headers v.fitting v.apart,
    ) refl

pub settings_of-head : (s : Settings) → AreSettings s → settings_of (head_text Second s) ≡ Some s
settings_of-head s are =
    ap settings_in (fields-joined (codes "zre-capture") (codes "2" ∷ id_text s.id ∷ quoted s.name ∷ address_text s.host ∷ times s are) (head-visible s are)) ∙ settings_in-head s are

-- ---- what is read is valid

record IsPlain (p : PlainSettings) : Type 0 where
  id : IsPeerId p.id
  host : IsAddress p.host
  some : 1 ≤ p.port
  port : p.port ≤ 65535
  first : 1 ≤ p.evasive
  order : p.evasive ≤ p.expired
  last : p.expired ≤ 86400000

plain-some : (id host port evasive expired : List ℕ) (p : PlainSettings) → plain_with id host port evasive expired ≡ Some p → IsPlain p
unfolding plain_with
plain-some id host port evasive expired p e =
    stepped _ (id_of id) p (IsPlain p) e (λ peer is-id e1.
    stepped _ (address_of host) p (IsPlain p) e1 (λ address is-address e2.
    stepped _ (number_within 1 65535 port) p (IsPlain p) e2 (λ number is-number e3.
    stepped _ (number_within 1 86400000 evasive) p (IsPlain p) e3 (λ silent is-silent e4.
    stepped _ (number_within silent 86400000 expired) p (IsPlain p) e4 (λ gone is-gone e5.
    let n = within-some 1 65535 port number is-number in
    let t = within-some 1 86400000 evasive silent is-silent in
    let u = within-some silent 86400000 expired gone is-gone in
    subst IsPlain (same_Some (record { id = peer; host = address; port = number; evasive = silent; expired = gone }) p e5)
    (record { id = (id_of-some id peer is-id).is; host = (address_of-some host address is-address).is; some = n.above; port = n.below; first = t.above; order = u.above; last = u.below }))))))

with-some : (p : PlainSettings) (name headers : List ℕ) (s : Settings) → IsPlain p → settings_with p name headers ≡ Some s → AreSettings s
with-some p name headers s is e =
    stepped _ (short_of 255 name) s (AreSettings s) e (λ called is-name e1.
    stepped _ (headers_of headers) s (AreSettings s) e1 (λ pairs are-headers e2.
    let n = short_of-some 255 name called is-name in
    let h = headers_of-some headers pairs are-headers in
    let below = is.port in
    subst AreSettings (same_Some (record { id = p.id; name = called; headers = pairs; host = p.host; port = p.port; evasive = p.evasive; expired = p.expired }) s e2)
    (record {
      id = is.id;
      name = n.is;
      headers = h.are;
      host = is.host;
      port = omega (arith, below);
      valid = valid-from (record { id = p.id; name = called; headers = pairs; host = p.host; port = p.port; evasive = p.evasive; expired = p.expired })
          (record { name = n.few; few_headers = h.few; fitting = h.fitting; apart = h.apart; port = is.some; first = is.first; order = is.order; last = is.last });
    })))

marked : (b : Bool) (id name host port evasive expired headers : List ℕ) (s : Settings) → cond b (option_and_then (λ p. settings_with p name headers) (plain_with id host port evasive expired)) None ≡ Some s → AreSettings s
marked false id name host port evasive expired headers s e = absurd cc
marked true id name host port evasive expired headers s e =
    stepped (λ p. settings_with p name headers) (plain_with id host port evasive expired) s (AreSettings s) e
    (λ p is more. with-some p name headers s (plain-some id host port evasive expired p is) more)

settings_in-some : (fs : List (List ℕ)) (s : Settings) → settings_in fs ≡ Some s → AreSettings s
unfolding settings_in
settings_in-some [] s e = absurd cc
settings_in-some (a ∷ []) s e = absurd cc
settings_in-some (a ∷ b ∷ []) s e = absurd cc
settings_in-some (a ∷ b ∷ c ∷ []) s e = absurd cc
settings_in-some (a ∷ b ∷ c ∷ d ∷ []) s e = absurd cc
settings_in-some (a ∷ b ∷ c ∷ d ∷ f ∷ []) s e = absurd cc
settings_in-some (a ∷ b ∷ c ∷ d ∷ f ∷ g ∷ []) s e = absurd cc
settings_in-some (a ∷ b ∷ c ∷ d ∷ f ∷ g ∷ h ∷ []) s e = absurd cc
settings_in-some (a ∷ b ∷ c ∷ d ∷ f ∷ g ∷ h ∷ i ∷ []) s e = absurd cc
settings_in-some (a ∷ b ∷ c ∷ d ∷ f ∷ g ∷ h ∷ i ∷ j ∷ []) s e = marked (bytes_eq a (codes "zre-capture") && bytes_eq b (codes "2")) c d f g h i j s e
settings_in-some (a ∷ b ∷ c ∷ d ∷ f ∷ g ∷ h ∷ i ∷ j ∷ k ∷ more) s e = absurd cc

-- the settings of a head are valid
pub settings_of-some : (text : List ℕ) (s : Settings) → settings_of text ≡ Some s → AreSettings s
settings_of-some text s e = settings_in-some (fields_in text) s e

-- ---- a head that is written

three : (a b c y : List ℕ) → (a ++ (32 ∷ (b ++ (32 ∷ c)))) ++ y ≡ a ++ (32 ∷ (b ++ (32 ∷ (c ++ y))))
three a b c y = append_assoc a (32 ∷ (b ++ (32 ∷ c))) y ∙ ap (λ (r : List ℕ). a ++ (32 ∷ r)) (append_assoc b (32 ∷ c) y)

parts_joined : (out w n s g : List ℕ) → (((out ++ w) ++ n) ++ s) ++ g ≡ out ++ (w ++ (n ++ (s ++ g)))
parts_joined out w n s g = append_assoc ((out ++ w) ++ n) s g ∙ append_assoc (out ++ w) n (s ++ g) ∙ append_assoc out w (n ++ (s ++ g))

pub who_joined : (out a b c d : List ℕ) → (((((out ++ a) ++ b) ++ (32 ∷ [])) ++ c) ++ (32 ∷ [])) ++ d ≡ out ++ (a ++ (b ++ (32 ∷ (c ++ (32 ∷ d)))))
who_joined out a b c d =
    append_assoc ((((out ++ a) ++ b) ++ (32 ∷ [])) ++ c) (32 ∷ []) d ∙ append_assoc (((out ++ a) ++ b) ++ (32 ∷ [])) c (32 ∷ d)
    ∙ append_assoc ((out ++ a) ++ b) (32 ∷ []) (c ++ (32 ∷ d)) ∙ append_assoc (out ++ a) b (32 ∷ (c ++ (32 ∷ d))) ∙ append_assoc out a (b ++ (32 ∷ (c ++ (32 ∷ d))))

pub head_joined : (out a b c d e f g : List ℕ) →
    (((out ++ (codes "zre-capture 2 " ++ (a ++ (32 ∷ (b ++ (32 ∷ c)))))) ++ (32 ∷ (d ++ (32 ∷ (e ++ (32 ∷ f)))))) ++ (32 ∷ [])) ++ g
    ≡ out ++ (codes "zre-capture 2 " ++ (a ++ (32 ∷ (b ++ (32 ∷ (c ++ (32 ∷ (d ++ (32 ∷ (e ++ (32 ∷ (f ++ (32 ∷ g)))))))))))))
head_joined out a b c d e f g =
    parts_joined out (codes "zre-capture 2 " ++ (a ++ (32 ∷ (b ++ (32 ∷ c))))) (32 ∷ (d ++ (32 ∷ (e ++ (32 ∷ f))))) (32 ∷ []) g
    ∙ ap (λ (r : List ℕ). out ++ (codes "zre-capture 2 " ++ r)) (three a b c ((32 ∷ (d ++ (32 ∷ (e ++ (32 ∷ f))))) ++ (32 ∷ g)))
    ∙ ap (λ (r : List ℕ). out ++ (codes "zre-capture 2 " ++ (a ++ (32 ∷ (b ++ (32 ∷ (c ++ (32 ∷ r)))))))) (three d e f (32 ∷ g))
