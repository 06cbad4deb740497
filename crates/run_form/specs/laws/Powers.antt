-- What the laws of proofs/laws/Powers speak of.
use mathlib.Core.List.{List}
use Prim.Native.Nat.{ℕ, ◌^◌, ◌≤◌}
use Rattle.horner.specs.definitions.Form.{Form}
use Rattle.horner.specs.definitions.Measures.{multiples, box, count}
use Rattle.horner.specs.definitions.Rings.{Res, prime, p_ring}

-- ---- room: the box of the k-th power is at most 256, or c to the k, x having at most c coefficients
pub data FewPowers (ds : List ℕ) (x : Form (Res prime)) (k : ℕ) : Type 0 where
  in-box : box (multiples k ds) ≤ 256 → FewPowers ds x k
  in_count : (c : ℕ) → 1 ≤ c → count p_ring x ≤ c → c ^ k ≤ 256 → FewPowers ds x k
