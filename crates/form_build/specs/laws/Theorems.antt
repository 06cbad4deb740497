-- What stands besides: theorems of this crate that no other proof leans on.
use Rattle.std.specs.Prelude.{ℕ, ◌≤◌, ℤ}
use mathlib.Core.List.{List, []}
use Rattle.std.proofs.Common.{arith}
use Rattle.std.proofs.Math.Nat as NatL
use Rattle.horner.specs.definitions.Form.{Form, int, pop, pow}
use Rattle.form_head.specs.declared.Kind.{Kind}
use Rattle.form_head.specs.Heads.{Stands, Standing, Headed}

module _ {s : List ℕ} {at : ℕ} {kind : Kind} {number first : ℕ} (H : Headed s at kind number first) where
  pub number_small : Standing s at → number ≤ 1073741824
  number_small S = go S.g S.rest S.stands
    where
      go : (g : Form ℤ) (rest : List ℕ) → Stands s at g rest → number ≤ 1073741824
      go (int z) rest h = omega (arith, (H _ _ h).is_number)
      go (pop i p) rest h = omega (arith, (H _ _ h).is_number)
      go (pow i p q) rest h = omega (arith, (H _ _ h).is_number)
