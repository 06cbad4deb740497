-- What the laws of proofs/laws/Table speak of.
use Rattle.std.specs.Prelude.{List, ℕ, ◌≤◌, min, ℤ}
use Rattle.horner.specs.definitions.Form.{Form}
use Rattle.horner.specs.definitions.Rings.{ℤ_ring}
use Rattle.horner.specs.definitions.Measures.{box, weight, terms}
use Rattle.horner.specs.definitions.Measures.{degrees}
use Rattle.horner.specs.laws.Degree.{Below}

-- what is known of a result z: its weight, its degrees, and its terms, cut to the box
pub record Fits (n w : ℕ) (ds : List ℕ) (t : ℕ) (z : Form ℤ) : Type 0 where
  pub by-weight : weight z ≤ w
  pub by-degrees : Below (degrees n z) ds
  pub by-terms : terms ℤ_ring z ≤ min t (box ds)
