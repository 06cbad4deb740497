-- The forms that stand at the front of the tables: a reduced form, the negative of one, and the sum of the two.
-- Assumes nothing.
use Rattle.std.proofs.Common.{ℕ, ◌≤◌, List, length, take, ap, ap₂, subst, arith}
use Rattle.horner.specs.definitions.Form.{Form}
use Rattle.code.specs.Coding.{enc, dec, Codes, Coded, Begins}
use Rattle.code.specs.Operations.{negate_of, sum_of}
use Rattle.code.specs.Widths.{Leaf}
use Rattle.code.specs.laws.Codes.{dec-enc, codes-length}
use Rattle.code.specs.laws.Good.{sum-good, negate_good}
use Rattle.code.specs.laws.Sizes.{negate-length}
use Rattle.code.proofs.Lists.{begins-as}
use Rattle.code.proofs.Making.{front-codes}
use Rattle.code_walk.specs.Carrying.{reduce_of}
use Rattle.code_walk.specs.laws.Carrying.{reduce-good, carry-length, carry-reduce}

reduce-length : (w : ℕ) (x : Form (Leaf 0)) → length (enc w (reduce_of w x)) ≤ length (enc 0 x)
reduce-length w x = subst (λ h. length (enc w h) ≤ length (enc 0 x)) (carry-reduce w x) (carry-length 0 w 1 x)

module _ (w : ℕ) {l d : List ℕ} {n : ℕ} (c : Coded 0 l) (m : Begins n (enc w (reduce_of w (dec 0 l))) d) where
  pub reduced : Codes w (reduce_of w (dec 0 l)) (take n d)
  reduced = front-codes m (reduce-good w (dec 0 l) c.good)

  pub reduced-short : length (take n d) ≤ length l
  reduced-short = omega (arith, codes-length reduced, reduce-length w (dec 0 l), codes-length c)

module _ {w : ℕ} {h : Form (Leaf w)} {l d : List ℕ} {n : ℕ} (c : Codes w h l) (m : Begins n (enc w (negate_of w (dec w l))) d) where
  pub negated : Codes w (negate_of w h) (take n d)
  negated = front-codes (begins-as m (ap (λ g. enc w (negate_of w g)) (dec-enc c))) (negate_good c.good)

  pub negated-length : length (take n d) ≤ length l
  negated-length = omega (arith, codes-length negated, negate-length w h, codes-length c)

pub summed :
    {w : ℕ} {g h : Form (Leaf w)} {l k d : List ℕ} {n : ℕ} → Codes w g l → Codes w h k →
    Begins n (enc w (sum_of w (dec w l) (dec w k))) d → Codes w (sum_of w g h) (take n d)
summed {w} c e m =
    front-codes (begins-as m (ap₂ (λ g h. enc w (sum_of w g h)) (dec-enc c) (dec-enc e))) (sum-good c.good e.good)
