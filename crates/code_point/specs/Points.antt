-- The first point at which a form over the remainders by P is not 0, and the least number that fails a test.
use Rattle.std.specs.Prelude.{Bool, true, false, List, ◌≡◌, ℕ, ◌≤◌, ◌<◌}
use Rattle.horner.specs.definitions.Form.{Form, is_zero, Normal}
use Rattle.horner.specs.laws.First.{first_point}
use Rattle.code.specs.Coding.{limits}
use Rattle.code.specs.Widths.{Leaf, ring_of}
use Rattle.code_first.specs.First.{at_first_of}

-- the first point in n variables; 63 is a bound of each degree
unfoldable pub point_of : ℕ → Form (Leaf 0) → List ℕ
point_of n h = first_point (ring_of 0) (limits n) h

-- h is normal in n variables, and not 0: then it has such a point
pub record Ready (n : ℕ) (h : Form (Leaf 0)) : Type 0 where
  pub few : n ≤ 4
  pub normal : Normal (ring_of 0) n h
  pub counts : is_zero (ring_of 0) h ≡ false

-- whether h is 0 once a is put for its first variable
unfoldable pub vanishes : Form (Leaf 0) → ℕ → Bool
vanishes h a = is_zero (ring_of 0) (at_first_of 0 h a)

-- r is the least number that fails a test
pub record IsLeast (t : ℕ → Bool) (r : ℕ) : Type 0 where
  pub fails : t r ≡ false
  pub before : (b : ℕ) → b < r → t b ≡ true

-- some number up to 63 fails it
pub record Fails (t : ℕ → Bool) : Type 0 where
  pub value : ℕ
  pub small : value ≤ 63
  pub fails : t value ≡ false
