-- The absolute value is a size of integers: a sum does not pass the sum of the two, a product not their product. So the weight goes under
-- the operations.
use Rattle.std.specs.Prelude.{◌≡◌, refl, ℕ, zero, suc, ◌+◌, ◌-◌, ◌≤◌, ◌*◌, ◌^◌, T, ltb, ℤ, pos, negsuc, neg_ℤ, ◌+ℤ◌, ◌*ℤ◌, nat_abs}
use Rattle.std.proofs.Common.{sym, subst, arith, ltb→lt}
use Rattle.std.proofs.Math.Nat as NatL
use Rattle.std.proofs.Math.IntN.{sub_ℕ}
use Rattle.horner.specs.definitions.Rings.{ℤ_ring}
use Rattle.horner.specs.laws.Measure.{Size}
use Rattle.horner.proofs.laws.Tests.{cond_cases}

abs_neg : (n : ℕ) → nat_abs (neg_ℤ (pos n)) ≡ n
abs_neg zero = refl
abs_neg (suc n) = refl

abs-sub : (a b : ℕ) → nat_abs (sub_ℕ a b) ≤ a + b
abs-sub a b =
    cond_cases (ltb a b) (λ z. nat_abs z ≤ a + b) (negsuc (b - suc a)) (pos (a - b)) (λ e. omega (arith, ltb→lt a b (subst T (sym e) tt)))
    (λ e. omega arith)

abs-add : (a b : ℤ) → nat_abs (a +ℤ b) ≤ nat_abs a + nat_abs b
abs-add (pos a) (pos b) = omega arith
abs-add (pos a) (negsuc b) = abs-sub a (suc b)
abs-add (negsuc a) (pos b) = omega (arith, abs-sub b (suc a))
abs-add (negsuc a) (negsuc b) = omega arith

abs-mul : (a b : ℤ) → nat_abs (a *ℤ b) ≤ nat_abs a * nat_abs b
abs-mul (pos a) (pos b) = omega arith
abs-mul (pos a) (negsuc b) = omega (arith, abs_neg (a * suc b))
abs-mul (negsuc a) (pos b) = omega (arith, abs_neg (suc a * b))
abs-mul (negsuc a) (negsuc b) = omega arith

abs-negate : (a : ℤ) → nat_abs (neg_ℤ a) ≡ nat_abs a
abs-negate (pos a) = abs_neg a
abs-negate (negsuc a) = refl

pub weight-size : Size ℤ_ring nat_abs
weight-size = record { of_nil = refl; of-add = abs-add; of-mul = abs-mul; of-neg = abs-negate }

-- a product and a power of numbers above 0
pub mul-pos : (a b : ℕ) → 1 ≤ a → 1 ≤ b → 1 ≤ a * b
mul-pos a b h g =
    let e : 1 * 1 ≤ a * b = NatL.mul-le-mul h g in
    omega arith

pub pow_pos : (t k : ℕ) → 1 ≤ t → 1 ≤ t ^ k
pow_pos t zero h = omega (arith, NatL.pow-zero t)
pow_pos t (suc k) h = omega (arith, NatL.pow-succ' t k, mul-pos t (t ^ k) h (pow_pos t k h))
