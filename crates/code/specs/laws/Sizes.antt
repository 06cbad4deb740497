-- How many words the operations' results take: no more than their parts and a word, and a sum at least one less than its terms together.
use Rattle.std.specs.Prelude.{◌≡◌, ℕ, zero, suc, ◌+◌, ◌<◌, ◌≤◌, length}
use Rattle.std.proofs.Math.Path.{refl}
use Rattle.std.proofs.Common.{arith}
use Rattle.std.proofs.Math.ListN.{length-append}
use Rattle.horner.specs.definitions.Form.{Form, int, pop, pow, size, mkpop, lower, is_zero, zero_form, mkpow, add_int, sum_f, sum, negate}
use Rattle.horner.specs.definitions.Form.{scale}
use Rattle.horner.specs.definitions.Rings.{Ring}
use Rattle.horner.proofs.laws.Compare.{cmp-cases}
use Rattle.horner.proofs.laws.Tests.{cond_cases}
use Rattle.horner.proofs.laws.Value.{size-pos, lower-fits}
use Rattle.code.specs.Coding.{enc}
use Rattle.code.specs.Operations.{sum_of, negate_of, scale_of}
use Rattle.code.specs.Widths.{Leaf, ring_of, leaf}

module _ {A : Type 0} (R : Ring A) where
  open R use {is_nil}

  pub size-mkpop : (i : ℕ) (h : Form A) → size (mkpop i h) ≤ 1 + size h
  size-mkpop zero h = omega arith
  size-mkpop (suc i) (int r) = omega arith
  size-mkpop (suc i) (pop j q) = omega arith
  size-mkpop (suc i) (pow j q r) = omega arith

  -- the size is at most m
  abbrev Fits : ℕ → Form A → Type 0
  Fits m h = size h ≤ m

  pub size-mkpow : (i : ℕ) (p q : Form A) → size (mkpow R i p q) ≤ 1 + size p + size q
  size-mkpow i (int c) q =
      cond_cases (is_nil c) (Fits (1 + 1 + size q)) _ _ (λ e. omega (arith, size-mkpop 1 q)) (λ e. omega arith)
  size-mkpow i (pop j p) q = omega arith
  size-mkpow i (pow j r s) q =
      cond_cases (is_zero R s) (Fits (1 + suc (size r + size s) + size q)) _ _ (λ e. omega (arith, size-pos s)) (λ e. omega arith)

  pub size-add_int : (a : A) (y : Form A) → size (add_int R a y) ≡ size y
  size-add_int a (int b) = refl
  size-add_int a (pop i p) = omega (arith, size-add_int a p)
  size-add_int a (pow i p q) = omega (arith, size-add_int a q)

  -- Definition 9 (4)
  size-rest :
      (j : ℕ) (q r : Form A) (i : ℕ) (p t : Form A) → size t + 1 ≤ size r + size (lower i p) →
      size (pow j q t) + 1 ≤ suc (size p) + suc (size q + size r)
  size-rest j q r zero p t h = omega (arith, h)
  size-rest j q r (suc i) p t h = omega (arith, h)

  pub size-sum_f : (k : ℕ) (x y : Form A) → size x + size y ≤ k → size (sum_f R k x y) + 1 ≤ size x + size y
  size-sum_f zero x y h = absurd (omega (arith, size-pos x))
  size-sum_f (suc k) (int a) y h = omega (arith, size-add_int a y)
  size-sum_f (suc k) (pop i p) (int b) h = omega (arith, size-add_int b p)
  size-sum_f (suc k) (pop i p) (pop j q) h =
      cmp-cases i j (λ z. size z + 1 ≤ suc (size p) + suc (size q)) _ _ _
      (λ e. omega (arith, size-mkpop i (sum_f R k p q), size-sum_f k p q (omega arith)))
      (λ d e. omega (arith, size-mkpop j (sum_f R k (pop (suc d) p) q), size-sum_f k (pop (suc d) p) q (omega arith)))
      (λ d e. omega (arith, size-mkpop i (sum_f R k (pop (suc d) q) p), size-sum_f k (pop (suc d) q) p (omega arith)))
  size-sum_f (suc k) (pop zero p) (pow j q r) h = omega (arith, size-sum_f k p (pow j q r) (omega arith))
  size-sum_f (suc k) (pop (suc i) p) (pow j q r) h =
      size-rest j q r i p (sum_f R k r (lower i p)) (size-sum_f k r (lower i p) (lower-fits R i p r k (omega arith)))
  size-sum_f (suc k) (pow j q r) (int b) h = omega (arith, size-add_int b r)
  size-sum_f (suc k) (pow j q r) (pop zero p) h = omega (arith, size-sum_f k p (pow j q r) (omega arith))
  size-sum_f (suc k) (pow j q r) (pop (suc i) p) h =
      omega (arith, size-rest j q r i p (sum_f R k r (lower i p)) (size-sum_f k r (lower i p) (lower-fits R i p r k (omega arith))))
  size-sum_f (suc k) (pow i p q) (pow j r s) h =
      cmp-cases i j (λ z. size z + 1 ≤ suc (size p + size q) + suc (size r + size s)) _ _ _
      (λ e. omega (arith, size-mkpow i (sum_f R k p r) (sum_f R k q s), size-sum_f k p r (omega arith), size-sum_f k q s (omega arith)))
      (λ d e. omega (
        arith,
        size-mkpow j (sum_f R k (pow (suc d) p (zero_form R)) r) (sum_f R k q s),
        size-sum_f k (pow (suc d) p (zero_form R)) r
            (omega (arith, size-pos q)),
        size-sum_f k q s (omega arith),
      ))
      (λ d e. omega (
        arith,
        size-mkpow i (sum_f R k (pow (suc d) r (zero_form R)) p) (sum_f R k s q),
        size-sum_f k (pow (suc d) r (zero_form R)) p
            (omega (arith, size-pos s)),
        size-sum_f k s q (omega arith),
      ))

  pub size-negate : (x : Form A) → size (negate R x) ≡ size x
  size-negate (int c) = refl
  size-negate (pop i p) = omega (arith, size-negate p)
  size-negate (pow i p q) = omega (arith, size-negate p, size-negate q)

  pub size_scale : (a : A) (x : Form A) → size (scale R a x) ≤ size x
  size_scale a (int b) = omega arith
  size_scale a (pop i p) = omega (arith, size-mkpop i (scale R a p), size_scale a p)
  size_scale a (pow i p q) = omega (arith, size-mkpow i (scale R a p) (scale R a q), size_scale a p, size_scale a q)

-- The code has a word for each node.

module _ (w : ℕ) where
  pub size-enc : (h : Form (Leaf w)) → length (enc w h) ≡ size h
  unfolding enc
  size-enc (int c) = refl
  size-enc (pop i p) = omega (arith, size-enc p)
  size-enc (pow i p q) = omega (arith, size-enc p, size-enc q, length-append (enc w p) (enc w q))

  pub enc-pos : (h : Form (Leaf w)) → 0 < length (enc w h)
  enc-pos h = omega (arith, size-enc h, size-pos h)

  pub sum-length : (x y : Form (Leaf w)) → length (enc w (sum_of w x y)) + 1 ≤ length (enc w x) + length (enc w y)
  unfolding sum_of
  sum-length x y =
      omega (arith, size-enc (sum (ring_of w) x y), size-enc x, size-enc y, size-sum_f (ring_of w) (size x + size y) x y (omega arith))

  pub negate-length : (x : Form (Leaf w)) → length (enc w (negate_of w x)) ≡ length (enc w x)
  unfolding negate_of
  negate-length x = omega (arith, size-enc (negate (ring_of w) x), size-enc x, size-negate (ring_of w) x)

  pub scale-length : (a : ℕ) (x : Form (Leaf w)) → length (enc w (scale_of w a x)) ≤ length (enc w x)
  unfolding scale_of
  scale-length a x = omega (arith, size-enc (scale (ring_of w) (leaf w a) x), size-enc x, size_scale (ring_of w) (leaf w a) x)
