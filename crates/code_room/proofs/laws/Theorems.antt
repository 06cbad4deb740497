-- What stands besides: theorems of this crate that no other proof leans on.
use Rattle.std.specs.Prelude.{◌≡◌}
use Rattle.std.proofs.Math.Path.{refl, ap}
use Prim.Native.Nat.{ℕ, zero, suc, ◌-◌}
use native.Mathlib.Omega.{arith}
use Rattle.horner.specs.definitions.Form.{Form, pop, lower}
use Rattle.code.specs.Operations.{pop_of}
use Rattle.code.specs.Widths.{Leaf}
use Rattle.code_room.specs.Tables.{PopSpace, CrossSpace}

module _ (w : ℕ) where
  module _ (p : Form (Leaf w)) where
    pub lower-none : (k : ℕ) → k ≡ 0 → lower k p ≡ p
    lower-none k e = ap (λ z. lower z p) e

    pub lower-some : (k : ℕ) → (k ≡ 0 → ⊥) → lower k p ≡ pop k p
    lower-some zero n = absurd (n refl)
    lower-some (suc k) n = refl

pub cross-pop : {w i o t u : ℕ} {p s : Form (Leaf w)} → CrossSpace w i p s o t u → PopSpace w p (pop_of w 1 s) (o - 1) t u
cross-pop h = record { n = h.n; k = h.k; pos = h.pos; fit = h.fit; tables = omega (arith, h.tables) }
