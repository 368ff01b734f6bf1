-- Calls on a page, one after the other.
use Rattle.std.proofs.Common.{◌≡◌, ℕ, ◌∙◌, Option, Some, None, refl, sym, ap, subst, arith, ⊎_elim}
use Rattle.std.specs.Prelude.{IsSome}
use mathlib.Core.Logic.{inl, inr}
use Rattle.zre_outside.proofs.CountsThatRose.{rose_since, rose_still}
use Rattle.zre_outside.specs.declared.sink.NextFault.{NextFault}
use Rattle.zre_console.specs.declared.printer.page.Page.{Page}
use Rattle.zre_console.specs.printer.Pages.{Tries}

-- a fault stays, so where there is none there was none
pub none_before : (p q : Page) (a b : ℕ) (x y : Option ℕ) → Tries p q a b x y → q.fault ≡ None → p.fault ≡ None
none_before p q a b x y t = by p.fault q.fault (λ is. ap (λ (o : Page). o.fault) (t.stays is))
  where
    by : (f f' : Option NextFault) → (IsSome f → f' ≡ f) → f' ≡ None → f ≡ None
    by None f' stays is = refl
    by (Some z) f' stays is = sym (stays refl) ∙ is

-- a call after another one
pub then_tries : (p q r : Page) (a b c : ℕ) (x y z : Option ℕ) → Tries p q a b x y → Tries q r b c y z → Tries p r a c x z
then_tries p q r a b c x y z s t = record {
  stays = λ is. t.stays (subst (λ (o : Page). IsSome o.fault) (sym (s.stays is)) is) ∙ s.stays is;
  later = let f = s.later in let g = t.later in omega (arith, f, g);
  failed = λ is. ⊎_elim (λ was. ⊎_elim (λ older. inl older) (λ rose. inr (rose_still a b c t.later rose)) (s.failed was)) (λ rose. inr (rose_since a b c s.later rose)) (t.failed is);
  counts = λ none. t.counts none ∙ s.counts (none_before q r b c y z t none);
}
