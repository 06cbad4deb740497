-- What stands besides: theorems of this crate that no other proof leans on.
use Rattle.std.proofs.Common.{refl, sym, ap, subst, arith, ℕ, zero, suc, ◌<◌}
use Rattle.std.proofs.Math.Path.{◌≡◌, ◌∙◌}
use Rattle.std.specs.Prelude.{pos, negsuc}
use Rattle.std.proofs.Math.IntN.{◌-ℤ◌}
use Rattle.std.specs.Int.{w32}
use mir.Val.{SFits, to_z, of_z}
use Rattle.std.proofs.Math.Facts.{to_z-of_z, to_z_pos}

-- what the machine holds for a number below zero
minus_one : (m : ℕ) → negsuc 0 -ℤ pos m ≡ negsuc m
minus_one zero = refl
minus_one (suc m) = ap negsuc (omega arith)

module _ (m : ℕ) (h : m < 2147483648) where
  is : negsuc 0 -ℤ to_z w32 m ≡ negsuc m
  is = ap (λ z. negsuc 0 -ℤ z) (to_z_pos w32 h) ∙ minus_one m

  pub minus-fits : SFits w32 (negsuc 0 -ℤ to_z w32 m)
  minus-fits = subst (SFits w32) (sym is) (record { sfits = h })

  pub minus_is : to_z w32 (of_z w32 (negsuc 0 -ℤ to_z w32 m)) ≡ negsuc m
  minus_is = to_z-of_z minus-fits ∙ is
