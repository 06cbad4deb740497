-- The form that at_first leaves at the front of a table.
-- Assumes nothing.
use Rattle.std.proofs.Common.{Bool, List, length, ℕ, ◌≤◌, arith}
use Rattle.std.specs.Prelude.{take}
use Rattle.std.proofs.Math.Path.{◌≡◌, sym, ap, ◌∙◌}
use Rattle.horner.specs.definitions.Form.{is_zero}
use Rattle.code.specs.Coding.{dec, Codes, Coded, Made, RoomUnder}
use Rattle.code.specs.Widths.{ring_of}
use Rattle.code.specs.laws.Codes.{dec-enc, codes-length}
use Rattle.code.proofs.Making.{front-codes}
use Rattle.code_first.specs.First.{at_first_of}
use Rattle.code_first.specs.laws.First.{first-length, first_good}
use Rattle.code_point.specs.Points.{vanishes}

-- room for more words is room for fewer, in a table that is as long
pub room-kept : {n m : ℕ} {d e : List ℕ} → RoomUnder n d → m ≤ n → length e ≡ length d → RoomUnder m e
room-kept r l k = record { fits = omega (arith, r.fits, l, k); small = omega (arith, r.small, k) }

module _ {l d : List ℕ} (a : ℕ) {m : ℕ} (c : Coded 0 l) (made : Made 0 (at_first_of 0 (dec 0 l) a) m d) where
  pub left-codes : Codes 0 (at_first_of 0 (dec 0 l) a) (take m d)
  left-codes = front-codes made (first_good 0 (dec 0 l) a c.good)

  -- it has no more words than the form
  pub left-short : m ≤ length l
  left-short = omega (arith, made.size, first-length 0 (dec 0 l) a, codes-length c)

  pub left-zero : {r : Bool} → r ≡ is_zero (ring_of 0) (dec 0 (take m d)) → vanishes (dec 0 l) a ≡ r
  unfolding vanishes
  left-zero e = sym (e ∙ ap (is_zero (ring_of 0)) (dec-enc left-codes))
