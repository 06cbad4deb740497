-- What the laws of proofs/laws/Measure speak of.
use Rattle.std.specs.Prelude.{◌≡◌, ℕ, ◌+◌, ◌≤◌, ◌*◌}
use Rattle.horner.specs.definitions.Rings.{Ring}

-- what is asked of the size of a coefficient
pub record Size {A : Type 0} (R : Ring A) (ν : A → ℕ) : Type 0 where
  pub of_nil : ν R.nil ≡ 0
  pub of-add : (a b : A) → ν (R.◌⊞◌ a b) ≤ ν a + ν b
  pub of-mul : (a b : A) → ν (R.◌·◌ a b) ≤ ν a * ν b
  pub of-neg : (a : A) → ν (R.neg a) ≡ ν a
