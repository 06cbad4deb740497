-- The product of two forms in the ring of a width, and which two forms fit: document 01's limits on the product, of bounds on its factors.
use Rattle.std.specs.Prelude.{List, ◌≡◌, ℕ, ◌+◌, ◌*◌, ◌≤◌, min, length}
use Rattle.horner.specs.definitions.Form.{Form, prod, Normal}
use Rattle.horner.specs.laws.Degree.{Bounded}
use Rattle.horner.specs.definitions.Measures.{first_or0, sums, box, AllLe, count}
use Rattle.code.specs.Coding.{enc, Good}
use Rattle.code.specs.Operations.{pop_of, pow_of, zero_of}
use Rattle.code.specs.Widths.{Leaf, ring_of}

-- Definition 11
unfoldable pub prod_of : (w : ℕ) → Form (Leaf w) → Form (Leaf w) → Form (Leaf w)
prod_of w x y = prod (ring_of w) x y

-- the first summand of (6), pow(i + j, p r, q s)
abbrev pub lead_of : (w i j : ℕ) (p q r s : Form (Leaf w)) → Form (Leaf w)
lead_of w i j p q r s = pow_of w (i + j) (prod_of w p r) (prod_of w q s)

-- another, pow(i, p pop(1, s), 0)
abbrev pub cross_of : (w i : ℕ) (p s : Form (Leaf w)) → Form (Leaf w)
cross_of w i p s = pow_of w i (prod_of w p (pop_of w 1 s)) (zero_of w)

-- x is normal in n variables, its degrees are within ds, and it has at most c terms
pub record Within (w n c : ℕ) (ds : List ℕ) (x : Form (Leaf w)) : Type 0 where
  pub normal : Normal (ring_of w) n x
  pub bounded : Bounded ds x
  pub few : count (ring_of w) x ≤ c

-- The product of x and y is within the limits: 63 in each of at most 4 variables, 256 terms once they are cut to the box. k bounds its
-- degree in the first variable. As in document 01's table, a factor counts at least one term.
pub record Fit (w n k : ℕ) (x y : Form (Leaf w)) : Type 0 where
  pub dx : List ℕ
  pub dy : List ℕ
  pub cx : ℕ
  pub cy : ℕ
  pub vars : n ≤ 4
  pub len-x : length dx ≡ n
  pub len-y : length dy ≡ n
  pub of-x : Within w n cx dx x
  pub of-y : Within w n cy dy y
  pub pos-x : 1 ≤ cx
  pub pos-y : 1 ≤ cy
  pub degrees : AllLe 63 (sums dx dy)
  pub first : first_or0 (sums dx dy) ≤ k
  pub few : min (cx * cy) (box (sums dx dy)) ≤ 256

-- a good form of at most 3,073 words: every form that the product makes on the way is one
pub record Held (w : ℕ) (z : Form (Leaf w)) : Type 0 where
  pub good : Good w z
  pub words : length (enc w z) ≤ 3073
