-- Laws for loops that walk over a line: what is left from i on, and from i + 1 on.
use Rattle.std.specs.Prelude.{true, false, List, [], ◌≡◌, ℕ, suc, ◌+◌, ◌-◌, ◌<◌}
use Rattle.std.proofs.Common.{ap, ◌∙◌, arith}
use Rattle.desk_field.specs.Fields.{first_of, rest_of, signed_of, is_coordinate, coordinates_of}

-- ---- coordinates: k of n are behind, and s is what is left
pub one_more : (n k : ℕ) → k < n → n - k ≡ suc (n - (k + 1))
one_more n k h = omega arith

module _ (n k : ℕ) (s : List ℕ) (h : k < n) where
  pub coordinates-on :
      is_coordinate (signed_of (first_of s)) ≡ true → k + coordinates_of (n - k) s ≡ (k + 1) + coordinates_of (n - (k + 1)) (rest_of s)
  coordinates-on e =
      ap (λ m. k + coordinates_of m s) (one_more n k h)
      ∙ ap (λ b. k + elim b [ true ↦ suc (coordinates_of (n - (k + 1)) (rest_of s)) | false ↦ 0 ]) e
      ∙ omega arith
