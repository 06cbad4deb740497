-- What the widths share: laws of the moduli, proved once over the width.
use Rattle.std.specs.Prelude.{◌≡◌, ℕ, zero, suc, ◌<◌, ◌≤◌, Bool, true, false, ◌==◌, ◌≢◌, refl}
use Rattle.std.proofs.Common.{ap, arith, eq-eqb, ne_eqb}
use Rattle.std.proofs.Math.Nat as NatL
use Rattle.code.specs.Widths.{pow_by, mul_by, modulus_by, modulus, modulus-pos, Leaf, ring_of, leaf}
use Rattle.horner.specs.definitions.Rings.{below, power}
use Rattle.horner.proofs.laws.Residues.{red-of}

small_by : (a b : Bool) → (1 < modulus_by a b) × (modulus_by a b ≤ 2147483647)
small_by true b = (omega arith, omega arith)
small_by false true = (omega arith, omega arith)
small_by false false = (omega arith, omega arith)

pub modulus-big : (w : ℕ) → 1 < modulus w
modulus-big w = (small_by (w == 8) (w == 16)).0

pub modulus-small : (w : ℕ) → modulus w ≤ 2147483647
modulus-small w = (small_by (w == 8) (w == 16)).1

pub modulus-8 : (w : ℕ) → w ≡ 8 → modulus w ≡ 256
modulus-8 w e = rw (eq-eqb w 8 e)

pub modulus-16 : (w : ℕ) → w ≡ 16 → modulus w ≡ 65536
modulus-16 w e = rw (ne_eqb w 8 (omega arith), eq-eqb w 16 e)

pub modulus-prime : (w : ℕ) → (w ≢ 16) → (w ≢ 8) → modulus w ≡ 2147483647
modulus-prime w n m = rw (ne_eqb w 8 m, ne_eqb w 16 n)

-- a number below the modulus is its own remainder
pub leaf-number : (w x : ℕ) → x < modulus w → (leaf w x).0 ≡ x
leaf-number w x h = NatL.mod-eq_of_lt h

pub leaf-of : (w : ℕ) (c : Leaf w) → leaf w c.0 ≡ c
leaf-of w c = red-of (modulus w) (modulus-pos w) c

pub leaf-below : (w : ℕ) (c : Leaf w) → c.0 < modulus w
leaf-below w c = below (modulus w) (modulus-pos w) c

pub zero-leaf : (w : ℕ) → (leaf w 0).0 ≡ 0
zero-leaf w = NatL.zero-mod (modulus w)

-- powers by numbers are the ring's powers
pub power-number : (w : ℕ) (a : Leaf w) (i : ℕ) → (power (ring_of w) a i).0 ≡ pow_by (modulus w) a.0 i
power-number w a zero = refl
power-number w a (suc i) = ap (λ z. mul_by (modulus w) a.0 z) (power-number w a i)
