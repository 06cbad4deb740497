-- What `cmp` says, and how to go by its cases: one rule for a goal that stands over `case_cmp (cmp i j)`.
use Rattle.std.specs.Prelude.{◌⊎◌, ◌≡◌, refl, ℕ, zero, suc, ◌+◌, ◌≤◌, ◌<◌}
use Rattle.std.proofs.Common.{inl, inr, ap, arith}
use Rattle.horner.specs.definitions.Form.{cmp, case_cmp}

module _ {B : Type 0} where
  -- the three cases, each with what is known of i and j there
  pub cmp-cases : (i j : ℕ) (P : B → Type 0) (e : Unit {0} → B) (m l : ℕ → B)
      → (i ≡ j → P (e tt)) → ((d : ℕ) → i ≡ j + suc d → P (m d)) → ((d : ℕ) → j ≡ i + suc d → P (l d))
      → P (case_cmp (cmp i j) e m l)
  cmp-cases zero zero P e m l pe pm pl = pe refl
  cmp-cases zero (suc j) P e m l pe pm pl = pl j (omega arith)
  cmp-cases (suc i) zero P e m l pe pm pl = pm i (omega arith)
  cmp-cases (suc i) (suc j) P e m l pe pm pl =
      cmp-cases i j P e m l (λ h. pe (ap suc h)) (λ d h. pm d (omega arith)) (λ d h. pl d (omega arith))

-- one of two numbers is below the other, or not
pub lt-or-ge : (a b : ℕ) → (a < b) ⊎ (b ≤ a)
lt-or-ge a zero = inr (omega arith)
lt-or-ge zero (suc b) = inl (omega arith)
lt-or-ge (suc a) (suc b) = up (lt-or-ge a b)
  where
    up : (a < b) ⊎ (b ≤ a) → (suc a < suc b) ⊎ (suc b ≤ suc a)
    up (inl l) = inl (omega arith)
    up (inr l) = inr (omega arith)
