-- Two forms one behind the other: their sizes, and the two parts that `stack[..a + b].split_at(a)` gives.
-- Assumes nothing.
use Rattle.std.proofs.Common.{List, length, sym, ap, subst, arith, length-take-le, ℕ, ◌+◌, ◌≤◌}
use Rattle.std.specs.Prelude.{take, drop}
use Rattle.std.proofs.Math.Path.{◌≡◌, ◌∙◌}
use Rattle.code.specs.Coding.{enc, dec, Coded}
use Rattle.code.specs.Operations.{sum_of}
use Rattle.code.specs.laws.Codes.{codes-length}
use Rattle.code.specs.laws.Sizes.{sum-length}
use Rattle.code.proofs.Lists.{front_of, behind}
use Rattle.code.proofs.Regions.{length-region}
use Rattle.code_pair.specs.Pair.{left, right, Pair}

module _ {a b : ℕ} {d : List ℕ} (p : Pair a b d) where
  pub left-size : length (enc 0 (left a d)) ≡ a
  left-size = sym (codes-length p.coded-left) ∙ length-take-le a d (omega (arith, p.fits))

  pub right-size : length (enc 0 (right a b d)) ≡ b
  right-size = sym (codes-length p.coded-right) ∙ length-region a b d p.fits

  pub sum_fits : length (enc 0 (sum_of 0 (left a d) (right a b d))) ≤ length d
  sum_fits = omega (arith, sum-length 0 (left a d) (right a b d), left-size, right-size, p.fits)

module _ (a b : ℕ) (d : List ℕ) {x y : List ℕ} (e : x ≡ take a (take (a + b) d)) (f : y ≡ drop a (take (a + b) d)) where
  pub front-is : dec 0 x ≡ left a d
  front-is = ap (dec 0) (e ∙ front_of a b d)

  pub back-is : dec 0 y ≡ right a b d
  back-is = ap (dec 0) (f ∙ behind a b d)

  pub both-coded : Pair a b d → Coded 0 x × Coded 0 y
  both-coded p = (subst (Coded 0) (sym (e ∙ front_of a b d)) p.coded-left, subst (Coded 0) (sym (f ∙ behind a b d)) p.coded-right)
