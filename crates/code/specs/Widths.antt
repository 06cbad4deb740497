-- The ring that a function works in, picked by a width: 8 and 16 are counters of so many bits, which wrap; any other number stands for the
-- remainders by P.
use Rattle.std.specs.Prelude.{ℕ, zero, suc, ◌+◌, ◌-◌, ◌*◌, ◌%◌, ◌<◌, Bool, true, false, ◌==◌}
use Rattle.std.proofs.Common.{lit<}
use Rattle.horner.specs.definitions.Rings.{Res, red, mod_ring, prime, prime-pos, Ring}

-- sums, products, negations and powers of remainders, on numbers
abbrev pub add_by : ℕ → ℕ → ℕ → ℕ
add_by m a b = (a + b) % m

abbrev pub mul_by : ℕ → ℕ → ℕ → ℕ
mul_by m a b = (a * b) % m

abbrev pub neg_by : ℕ → ℕ → ℕ
neg_by m a = (m - a) % m

abbrev pub pow_by : ℕ → ℕ → ℕ → ℕ
pow_by m a zero = 1 % m
pow_by m a (suc n) = mul_by m a (pow_by m a n)

-- by "is it 8" and "is it 16"
abbrev pub modulus_by : Bool → Bool → ℕ
modulus_by true b = 256
modulus_by false true = 65536
modulus_by false false = prime

abbrev pub modulus_by-pos : (a b : Bool) → 0 < modulus_by a b
modulus_by-pos true b = lit< tt
modulus_by-pos false true = lit< tt
modulus_by-pos false false = prime-pos

abbrev pub modulus : ℕ → ℕ
modulus w = modulus_by (w == 8) (w == 16)

abbrev pub modulus-pos : (w : ℕ) → 0 < modulus w
modulus-pos w = modulus_by-pos (w == 8) (w == 16)

abbrev pub Leaf : ℕ → Type 0
Leaf w = Res (modulus w)

-- at any width but 8 and 16, as at 0, this is horner's p_ring
abbrev pub ring_of : (w : ℕ) → Ring (Leaf w)
ring_of w = mod_ring (modulus w) (modulus-pos w)

-- the remainder of a number
abbrev pub leaf : (w : ℕ) → ℕ → Leaf w
leaf w n = red (modulus w) (modulus-pos w) n
