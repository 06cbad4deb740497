-- What stands besides: theorems of this crate that no other proof leans on.
use Rattle.std.proofs.Common.{refl, sym, ap, subst, arith, le-ltb, ℕ, suc, ◌+◌, ◌-◌, ◌%◌, ◌<◌}
use Rattle.std.proofs.Math.Path.{◌≡◌, ◌∙◌}
use Rattle.std.specs.Prelude.{cond, ℤ, pos, negsuc}
use Rattle.std.proofs.Math.IntN.{◌+ℤ◌}
use Rattle.std.specs.Int.Signed.{mag}
use Rattle.std.specs.Int.{w32, w64}
use mir.Val.{SFits, to_z, of_z}
use Rattle.std.proofs.Math.Facts.{to_z-of_z, sfits_widen}
use Rattle.reply.specs.definitions.Calls.{remainder}
use Rattle.std.proofs.Math.Nat as NatL

-- twice P more than a signed coordinate is no negative number, and has its remainder
abbrev pub raised : ℤ → ℕ
raised (pos n) = n + 4294967294
raised (negsuc n) = 4294967294 - suc n

pub raised_is : (z : ℤ) → mag z < 2147483648 → z +ℤ pos 4294967294 ≡ pos (raised z)
raised_is (pos n) h = refl
raised_is (negsuc n) h =
    ap (λ b. cond b (negsuc (suc n - suc 4294967294)) (pos (4294967294 - suc n))) (le-ltb 4294967294 (suc n) (omega arith))

pub raised-small : (z : ℤ) → mag z < 2147483648 → raised z < 9223372036854775808
raised-small (pos n) h = omega arith
raised-small (negsuc n) h = omega arith

pub raised-remainder : (z : ℤ) → mag z < 2147483648 → raised z % 2147483647 ≡ remainder z
raised-remainder (pos n) h = NatL.add-mul-mod_self_right n 2 2147483647
raised-remainder (negsuc n) h = omega arith

-- ---- what the machine holds on the way: a signed local holds bits, which are read back as the number
module _ (x : ℤ) (fits : SFits w32 x) where
  pub wide : SFits w64 (to_z w32 (of_z w32 x))
  wide = subst (SFits w64) (sym (to_z-of_z fits)) (sfits_widen {w = w32} {w' = w64} tt fits)

  pub sum_is : to_z w64 (of_z w64 (to_z w32 (of_z w32 x))) +ℤ pos 4294967294 ≡ pos (raised x)
  sum_is = ap (λ z. z +ℤ pos 4294967294) (to_z-of_z wide ∙ to_z-of_z fits) ∙ raised_is x fits.sfits

  pub sum_fits : SFits w64 (to_z w64 (of_z w64 (to_z w32 (of_z w32 x))) +ℤ pos 4294967294)
  sum_fits = subst (SFits w64) (sym sum_is) (record { sfits = raised-small x fits.sfits })

  pub read_is : to_z w64 (of_z w64 (to_z w64 (of_z w64 (to_z w32 (of_z w32 x))) +ℤ pos 4294967294)) ≡ pos (raised x)
  read_is = to_z-of_z sum_fits ∙ sum_is
