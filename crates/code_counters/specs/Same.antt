-- Two forms over the remainders by P, the same as counters of a width: reduced, the second negated, and added with a sum that wraps, they
-- give 0.
use Rattle.std.specs.Prelude.{Bool, ℕ}
use Rattle.horner.specs.definitions.Form.{Form, is_zero}
use Rattle.code.specs.Operations.{negate_of, sum_of}
use Rattle.code.specs.Widths.{Leaf, ring_of}
use Rattle.code_walk.specs.Carrying.{reduce_of}

abbrev pub same_of : (w : ℕ) → Form (Leaf 0) → Form (Leaf 0) → Bool
same_of w x y = is_zero (ring_of w) (sum_of w (reduce_of w x) (negate_of w (reduce_of w y)))
