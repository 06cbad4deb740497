-- A point of leaves.
use Rattle.std.specs.Prelude.{List, ℕ, ◌<◌, get_or}
use Rattle.code.specs.Widths.{modulus}

-- each number of l is below the modulus of the width
pub record Leaves (w : ℕ) (l : List ℕ) : Type 0 where
  pub below : (k : ℕ) → get_or l k 0 < modulus w
