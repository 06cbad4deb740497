-- A form carried from the ring of one width to that of another: each leaf is read as an integer and reduced, and the POPs and POWs are
-- made again, so that the result is normal also where a leaf has become 0.
use Rattle.std.specs.Prelude.{ℕ}
use Rattle.horner.specs.definitions.Form.{Form, int, pop, pow, mkpop, mkpow}
use Rattle.horner.specs.laws.Residues.{lift}
use Rattle.horner.specs.definitions.Rings.{red_ℤ, Ring}
use Rattle.code.specs.Widths.{modulus, modulus-pos, Leaf, ring_of, leaf}

module _ {A B : Type 0} (S : Ring B) (f : A → B) where
  abbrev pub map_normal : Form A → Form B
  map_normal (int c) = int (f c)
  map_normal (pop i p) = mkpop i (map_normal p)
  map_normal (pow i p q) = mkpow S i (map_normal p) (map_normal q)

-- a leaf read as the integer nearest to 0 that it stands for, and reduced
abbrev pub carried : (v w : ℕ) → Leaf v → Leaf w
carried v w c = red_ℤ (modulus w) (modulus-pos w) (lift (modulus v) (modulus-pos v) c)

-- the form over a counter's numbers, or the remainders by P, of a form over the remainders by P
unfoldable pub reduce_of : (w : ℕ) → Form (Leaf 0) → Form (Leaf w)
reduce_of w x = map_normal (ring_of w) (carried 0 w) x

-- the same from any width, and each leaf times a
unfoldable pub carry_of : (v w a : ℕ) → Form (Leaf v) → Form (Leaf w)
carry_of v w a x = map_normal (ring_of w) (λ c. (ring_of w).◌·◌ (leaf w a) (carried v w c)) x
