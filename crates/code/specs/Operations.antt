-- The operations on forms in the ring of a width, under short names. Each is the algebra's own, as its line says.
use Rattle.std.specs.Prelude.{ℕ, List, map}
use Rattle.horner.specs.definitions.Form.{Form, mkpop, mkpow, sum, negate, scale, zero_form, evalh}
use Rattle.code.specs.Widths.{Leaf, ring_of, leaf}

-- Definition 5, at a point of numbers below the modulus
unfoldable pub value_of : (w : ℕ) → Form (Leaf w) → List ℕ → ℕ
value_of w h N = (evalh (ring_of w) h (map (leaf w) N)).0

-- Definition 7
unfoldable pub pop_of : (w : ℕ) → ℕ → Form (Leaf w) → Form (Leaf w)
pop_of w i p = mkpop i p

-- Definition 8
unfoldable pub pow_of : (w : ℕ) → ℕ → Form (Leaf w) → Form (Leaf w) → Form (Leaf w)
pow_of w i p q = mkpow (ring_of w) i p q

-- Definition 9
unfoldable pub sum_of : (w : ℕ) → Form (Leaf w) → Form (Leaf w) → Form (Leaf w)
sum_of w x y = sum (ring_of w) x y

-- Definition 10
unfoldable pub negate_of : (w : ℕ) → Form (Leaf w) → Form (Leaf w)
negate_of w x = negate (ring_of w) x

-- Definition 11 (1)
unfoldable pub scale_of : (w : ℕ) → ℕ → Form (Leaf w) → Form (Leaf w)
scale_of w a x = scale (ring_of w) (leaf w a) x

unfoldable pub zero_of : (w : ℕ) → Form (Leaf w)
zero_of w = zero_form (ring_of w)
