-- What stands besides: theorems of this crate that no other proof leans on.
use Rattle.std.specs.Prelude.{Result, Ok, Err, ◌≡◌, refl, ℕ, ◌+◌, ◌-◌, ◌*◌, ◌<◌, length}
use Rattle.std.proofs.Common.{arith}
use Rattle.std.proofs.Math.Bool.{true, false}
use mathlib.Core.List.{List, [], ◌∷◌}
use Rattle.refusal.specs.declared.Fault.{Fault}
use Rattle.text.specs.program.FormKinds.{pop_wait, rest_wait}
use Rattle.form_syntax.specs.Found.{is_at, Expects, IntAt, LettersAt, FormAt, LastAt}
use Rattle.form_syntax.specs.laws.Steps.{at-inside, within-from, within_on, on, off}
use Rattle.form_syntax.specs.Found.{NaturalAt}

module _ (s : List ℕ) (at depth : ℕ) (x : Result ℕ Fault) (f : FormAt s at depth x) where
  pub last_off : {bad : Fault} → x ≡ Err bad → LastAt s at depth x
  last_off e = record {
    within = f.within;
    of-pop = λ ws l. off e (f.takes (pop_wait ∷ ws) l);
    of_pow = λ ws l. off e (f.takes (rest_wait ∷ ws) l);
  }

  pub last-all : {i : ℕ} → x ≡ Ok i → (r : Result ℕ Fault) → Expects s i 41 r → LastAt s at depth r
  last-all {i} e r o = record {
    within = within-from s at i r (omega (arith, within_on s at i x e f.within)) o.within;
    of-pop = λ ws l. on e (f.takes (pop_wait ∷ ws) l) (o.takes (record { is = λ y. refl; free = λ y. refl; more = refl }));
    of_pow = λ ws l. on e (f.takes (rest_wait ∷ ws) l) (o.takes (record { is = λ y. refl; free = λ y. refl; more = refl }));
  }

pub form-int : (s : List ℕ) (at depth : ℕ) (r : Result ℕ Fault) → IntAt s at r → FormAt s at depth r
form-int s at depth r h = record { within = h.within; takes = λ ws l. h.takes ws }

-- a byte behind the name stands further on than the form
pub further :
    (s : List ℕ) (at m : ℕ) → is_at s at 40 ≡ true → (x : Result ℕ Fault) → LettersAt s (at + 1) x → {n : ℕ} → x ≡ Ok n → (y : ℕ) →
    is_at s n y ≡ true → 2 * (length s - at) ≡ m → 2 * (length s - (n + 1)) < m
further s at m o x t {n} e y k l = omega (arith, at-inside s at 40 o, within_on s (at + 1) n x e t.within, at-inside s n y k)

module _ (s : List ℕ) (at : ℕ) where
  pub int-natural : (r : Result ℕ Fault) → is_at s at 40 ≡ false → is_at s at 45 ≡ false → NaturalAt s at r → IntAt s at r
  int-natural r o m n = record { within = n.within; takes = n.number o m }
