-- The p of a pow with a number put for its first variable, made at the front of a slice, and then scaled.
-- Assumes nothing.
use Rattle.std.proofs.Common.{ℕ, ◌≤◌, List, length, take, ap, arith}
use Rattle.code.specs.Coding.{enc, dec, Codes, Coded, Begins}
use Rattle.code.specs.Operations.{scale_of}
use Rattle.code.specs.laws.Codes.{dec-enc, codes-length}
use Rattle.code.specs.laws.Good.{scale-good}
use Rattle.code.specs.laws.Sizes.{scale-length}
use Rattle.code.proofs.Lists.{begins-as}
use Rattle.code.proofs.Making.{front-codes}
use Rattle.code_first.specs.First.{at_first_of}
use Rattle.code_first.specs.laws.First.{first-length, first_good}

module _ (w a : ℕ) {l e : List ℕ} {n : ℕ} (c : Coded w l) (m : Begins n (enc w (at_first_of w (dec w l) a)) e) where
  pub put-codes : Codes w (at_first_of w (dec w l) a) (take n e)
  put-codes = front-codes m (first_good w (dec w l) a c.good)

  pub put-short : length (take n e) ≤ length l
  put-short = omega (arith, codes-length put-codes, first-length w (dec w l) a, codes-length c)

  module _ (z : ℕ) {k : ℕ} {f : List ℕ} (s : Begins k (enc w (scale_of w z (dec w (take n e)))) f) where
    pub scaled-codes : Codes w (scale_of w z (at_first_of w (dec w l) a)) (take k f)
    scaled-codes =
        front-codes (begins-as s (ap (λ h. enc w (scale_of w z h)) (dec-enc put-codes))) (scale-good z put-codes.good)

    pub scaled-short : length (take k f) ≤ length l
    scaled-short =
        omega (
          arith,
          codes-length scaled-codes,
          scale-length w z (at_first_of w (dec w l) a),
          first-length w (dec w l) a,
          codes-length c,
        )
