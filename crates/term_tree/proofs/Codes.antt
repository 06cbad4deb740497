-- The decoder gives back what a code shows of its tree.
use Rattle.std.specs.Prelude.{List, ◌++◌, ◌≡◌}
use Rattle.std.proofs.Common.{◌∙◌, lt-ltb, le-ltb}
use Prim.Native.Nat.{ℕ, zero, suc, ◌+◌, ◌*◌, ◌-◌, ◌/◌, ◌%◌, ◌≤◌, min}
use native.Mathlib.Omega.{arith}
use Rattle.std.proofs.Math.ListN.{length, length-append}
use Rattle.std.proofs.Math.Seq.{take-append_seam, drop-append_seam}
use Rattle.text.specs.definitions.Bytes.{index_in}
use Rattle.text.specs.definitions.Tree.{Sign, add, sub, mul, Tree, num, letter, neg, two, power}
use Rattle.term_tree.specs.Coding.{int_code, span_of, sign_code, enc, Node, both, seen, node_of, place_in, end_in}
use Rattle.term_tree.specs.Coding.{decn, dec, Short}
use Rattle.term_tree.specs.Codes.{code_below, place-in, end-in}

sign-both : (g : Sign) (s v : ℕ) (k : ℕ) (all x y : Node) → k ≡ s → node_of ((sign_code g + 8 * s - 2147483648) % 8) v k all x y
    ≡ both (place_in v) (end_in v) g x y
sign-both add s v k all x y e = let t : (2147483650 + 8 * s - 2147483648) % 8 ≡ 2 = omega arith in rw (t)
sign-both sub s v k all x y e = let t : (2147483651 + 8 * s - 2147483648) % 8 ≡ 3 = omega arith in rw (t)
sign-both mul s v k all x y e = let t : (2147483652 + 8 * s - 2147483648) % 8 ≡ 4 = omega arith in rw (t)

sign-size : (g : Sign) (s : ℕ) → (sign_code g + 8 * s - 2147483648) / 8 ≡ s
sign-size add s = omega arith
sign-size sub s = omega arith
sign-size mul s = omega arith

sign-node : (g : Sign) (s : ℕ) → 2147483648 ≤ sign_code g + 8 * s
sign-node add s = omega arith
sign-node sub s = omega arith
sign-node mul s = omega arith

module _ (row : List ℕ) where
  -- with a depth that is enough
  pub decn-enc : (t : Tree) (n : ℕ) → Short t → length (enc row t) ≤ n → decn n (enc row t) ≡ seen row t
  unfolding enc decn
  decn-enc (num p w z) zero s l = absurd (omega arith)
  decn-enc (num p w z) (suc n) s l =
      rw (lt-ltb (int_code z) 2147483648 (code_below z), place-in p (p + length w) s, end-in p (p + length w) s)
  decn-enc (letter p b) zero s l = absurd (omega arith)
  decn-enc (letter p b) (suc n) s l =
      let i = index_in row b in
      let t : (2147483648 + 8 * i - 2147483648) % 8 ≡ 0 = omega arith in
      let k : (2147483648 + 8 * i - 2147483648) / 8 ≡ i = omega arith in
      simp (le-ltb (2147483648 + 8 * i) 2147483648 (omega arith), t, k, place-in p (p + 1) s, end-in p (p + 1) s)
  decn-enc (neg p o c x) zero s l = absurd (omega arith)
  decn-enc (neg p o c x) (suc n) s l =
      let ih : decn n (enc row x) ≡ seen row x = decn-enc x n s.1 (omega arith) in
      simp (ih, place-in p (c + 1) s.0, end-in p (c + 1) s.0)
  decn-enc (two p o c g x y) zero s l = absurd (omega arith)
  decn-enc (two p o c g x y) (suc n) s l =
      let X = enc row x in
      let Y = enc row y in
      let len : length (X ++ Y) ≡ length X + length Y = length-append X Y in
      let ihx : decn n X ≡ seen row x = decn-enc x n s.1.0 (omega arith) in
      let ihy : decn n Y ≡ seen row y = decn-enc y n s.1.1 (omega arith) in
      let v = span_of p (c + 1) in
      rw (le-ltb (sign_code g + 8 * length X) 2147483648 (sign-node g (length X)))
      (sign-both g (length X) v _ _ _ _ (sign-size g (length X))
      ∙ simp (sign-size g (length X), take-append_seam, drop-append_seam, ihx, ihy, place-in p (c + 1) s.0, end-in p (c + 1) s.0))
  decn-enc (power p o c x q n) zero s l = absurd (omega arith)
  decn-enc (power p o c x q m) (suc n) s l =
      let ih : decn n (enc row x) ≡ seen row x = decn-enc x n s.1 (omega arith) in
      let t : (2147483653 + 8 * min m 64 - 2147483648) % 8 ≡ 5 = omega arith in
      let k : (2147483653 + 8 * min m 64 - 2147483648) / 8 ≡ min m 64 = omega arith in
      simp (le-ltb (2147483653 + 8 * min m 64) 2147483648 (omega arith), t, k, ih, place-in p (c + 1) s.0, end-in p (c + 1) s.0)

  -- the decoder gives back what the words show of the tree
  pub dec-enc : (t : Tree) → Short t → dec (enc row t) ≡ seen row t
  unfolding dec
  dec-enc t s = decn-enc t (length (enc row t)) s (omega arith)
