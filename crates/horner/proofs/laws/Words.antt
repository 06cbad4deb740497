-- The words of a form of a term within the limits.
use Rattle.std.specs.Prelude.{false, ◌≡◌, ℕ, ◌-◌, ◌≤◌, ℤ}
use Rattle.std.proofs.Common.{arith}
use Rattle.horner.specs.definitions.Form.{size}
use Rattle.horner.specs.definitions.Measures.{terms_of}
use Rattle.horner.specs.definitions.Rings.{Ring}
use Rattle.horner.specs.laws.Within.{Over}
use Rattle.horner.specs.definitions.Term.{Term, norm}
use Rattle.horner.proofs.laws.Limits.{count-norm}
use Rattle.horner.proofs.laws.Term.{normal-norm}
use Rattle.horner.proofs.laws.Room.{words-3073}

module _ {A : Type 0} (R : Ring A) (ι : ℤ → A) (u : R.is_nil R.unit ≡ false) where
  pub norm-words : (n : ℕ) (t : Term) → n ≤ 4 → Over n t → terms_of n t ≤ 256 → size (norm R ι t) ≤ 3073
  norm-words n t l o c = words-3073 R n (norm R ι t) l (normal-norm R ι u n t o) (omega (arith, count-norm R ι u n t o))
