-- The bits that a width stands for.
use Rattle.std.specs.Prelude.{Bool, true, false, ◌≡◌, refl, ℕ, ◌^◌, eqb}
use Rattle.reply.specs.definitions.Calls.{bits}
use Rattle.code.specs.Widths.{modulus}

-- where counters of that width wrap
pub modulus-bits : (w : ℕ) → modulus (bits w) ≡ 2 ^ bits w
modulus-bits w = by (eqb w 8)
  where
    by : (b : Bool) → modulus (elim b [ true ↦ 8 | false ↦ 16 ]) ≡ 2 ^ (elim b [ true ↦ 8 | false ↦ 16 ])
    by true = refl
    by false = refl
