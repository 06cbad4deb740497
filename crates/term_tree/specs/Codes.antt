-- What a code of a tree shows at its head. That the decoder gives back what it shows of the tree stands in proofs/Codes.
use Rattle.std.specs.Prelude.{cond, List, ◌≡◌, refl, ◌⊎◌, ℤ, pos, negsuc, nat_abs, ltb}
use Rattle.std.proofs.Common.{inl, inr, lt-ltb, le-ltb}
use Prim.Native.Nat.{ℕ, ◌≤◌, ◌<◌}
use native.Mathlib.Omega.{arith}
use Rattle.std.proofs.Math.ListN.{length}
use Rattle.horner.proofs.laws.Compare.{lt-or-ge}
use Rattle.text.specs.definitions.Tree.{Tree, num, letter, neg, two, power}
use Rattle.term_tree.specs.Coding.{int_code, remainder_of, span_of, enc, place_in, end_in}

-- an integer is told from other nodes by its head word
pub code_below : (z : ℤ) → int_code z < 2147483648
unfolding int_code
code_below z = at (lt-or-ge 1073741823 (nat_abs z)) z refl
  where
    by : (w : ℤ) → nat_abs w ≤ 1073741823 → remainder_of w < 2147483648
    by (pos n) h = omega arith
    by (negsuc n) h = omega arith

    at : (1073741823 < nat_abs z) ⊎ (nat_abs z ≤ 1073741823) → (w : ℤ) → w ≡ z →
        cond (ltb 1073741823 (nat_abs z)) 2147483647 (remainder_of z) < 2147483648
    at (inl h) w e = rw (lt-ltb 1073741823 (nat_abs z) h) (omega arith)
    at (inr h) w e = rw (le-ltb 1073741823 (nat_abs z) h) (by z h)

-- place and end are in the second word
pub place-in : (p e : ℕ) → p < 65536 → place_in (span_of p e) ≡ p
place-in p e h = omega arith

-- so is the end
pub end-in : (p e : ℕ) → p < 65536 → end_in (span_of p e) ≡ e
end-in p e h = omega arith

-- a code is never empty
pub enc-pos : (row : List ℕ) (t : Tree) → 2 ≤ length (enc row t)
unfolding enc
enc-pos row (num p w z) = omega arith
enc-pos row (letter p b) = omega arith
enc-pos row (neg p o c x) = omega arith
enc-pos row (two p o c g x y) = omega arith
enc-pos row (power p o c x q n) = omega arith
