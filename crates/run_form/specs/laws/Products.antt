-- What the laws of proofs/laws/Products speak of.
use mathlib.Core.List.{List}
use Rattle.std.specs.Prelude.{ℕ, ◌*◌, ◌≤◌}
use Rattle.horner.specs.definitions.Form.{Form}
use Rattle.horner.specs.definitions.Measures.{sums, box, count}
use Rattle.horner.specs.definitions.Rings.{Res, prime, p_ring}

-- ---- room: the box of the result, or the product of both counts, is at most 256
pub data Few (ds es : List ℕ) (x y : Form (Res prime)) : Type 0 where
  by-box : box (sums ds es) ≤ 256 → Few ds es x y
  by_count : count p_ring x * count p_ring y ≤ 256 → Few ds es x y
