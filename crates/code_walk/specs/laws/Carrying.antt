-- Carried forms: they have the values of the integers' form, reduced; they are normal within the same degrees and no longer; `scale` and
-- `reduce_of` are cases.
use Rattle.std.specs.Prelude.{cond, List, [], ◌∷◌, ◌≡◌, ℕ, suc, ◌-◌, ◌*◌, ◌%◌, ◌≤◌, ◌<◌, ltb, pos, negsuc, length}
use Rattle.std.proofs.Common.{ap, ap₂, ◌∙◌, arith, lt-ltb, le-ltb, ltb-false}
use Rattle.std.proofs.Math.Nat as NatL
use Rattle.horner.specs.definitions.Form.{Form, int, pop, pow, size, mkpop, mkpow, Normal, after}
use Rattle.horner.specs.laws.Degree.{Bounded}
use Rattle.code.specs.Widths.{neg_by, modulus, modulus-pos, Leaf, ring_of, leaf}
use Rattle.horner.specs.definitions.Rings.{red_ℤ, res-ext, Ring}
use Rattle.horner.proofs.laws.Bounds.{bounded-mkpop, bounded-mkpow}
use Rattle.horner.proofs.laws.Normal.{normal-mkpop, normal-mkpow}
use Rattle.horner.proofs.laws.Ring.{unit-mul}
use Rattle.horner.proofs.laws.Tests.{cond_cases}
use Rattle.code.specs.Coding.{enc, limits, Good}
use Rattle.code.specs.Operations.{scale_of}
use Rattle.code.specs.laws.Sizes.{size-enc, size-mkpop, size-mkpow}
use Rattle.code.specs.laws.Widths.{leaf-number, leaf-of, leaf-below}
use Rattle.code_walk.specs.Carrying.{map_normal, carried, reduce_of, carry_of}

module _ {A B : Type 0} (S : Ring B) (f : A → B) where
  pub normal-map_normal : (R : Ring A) (n : ℕ) (x : Form A) → Normal R n x → Normal S n (map_normal S f x)
  normal-map_normal R n (int c) h = tt
  normal-map_normal R n (pop i p) h = normal-mkpop S n i (map_normal S f p) (normal-map_normal R (n - i) p h.2)
  normal-map_normal R n (pow i p q) h =
      normal-mkpow S n i (map_normal S f p) (map_normal S f q) h.0 h.1 (normal-map_normal R n p h.2)
      (normal-map_normal R (n - 1) q h.4)

  pub bounded-map_normal : (ds : List ℕ) (x : Form A) → Bounded ds x → Bounded ds (map_normal S f x)
  bounded-map_normal ds (int c) h = tt
  bounded-map_normal ds (pop i p) h = bounded-mkpop ds i (map_normal S f p) (bounded-map_normal (after i ds) p h)
  bounded-map_normal [] (pow i p q) h = absurd h
  bounded-map_normal (d ∷ ds) (pow i p q) h =
      bounded-mkpow S d ds i (map_normal S f p) (map_normal S f q) h.0 (bounded-map_normal ((d - i) ∷ ds) p h.1)
      (bounded-map_normal ds q h.2)

  size-map_normal : (x : Form A) → size (map_normal S f x) ≤ size x
  size-map_normal (int c) = omega arith
  size-map_normal (pop i p) = omega (arith, size-mkpop S i (map_normal S f p), size-map_normal p)
  size-map_normal (pow i p q) = omega (arith, size-mkpow S i (map_normal S f p) (map_normal S f q), size-map_normal p, size-map_normal q)

-- ---- the leaf

module _ (v w x : ℕ) (l : x < modulus v) where
  -- a number below half of the modulus stands for itself
  pub carried-small : x < modulus v - x → (carried v w (leaf v x)).0 ≡ x % modulus w
  carried-small h =
      ap (λ z. (red_ℤ (modulus w) (modulus-pos w) (cond (ltb (z * 2) (modulus v)) (pos z) (negsuc (modulus v - suc z)))).0)
      (leaf-number v x l)
      ∙ rw (lt-ltb (x * 2) (modulus v) (omega arith))

  -- any other for what it lacks of the modulus, negative
  pub carried-large : modulus v - x ≤ x → (carried v w (leaf v x)).0 ≡ neg_by (modulus w) ((modulus v - x) % modulus w)
  carried-large h =
      let e : suc (modulus v - suc x) ≡ modulus v - x = omega arith in
      ap (λ z. (red_ℤ (modulus w) (modulus-pos w) (cond (ltb (z * 2) (modulus v)) (pos z) (negsuc (modulus v - suc z)))).0)
      (leaf-number v x l)
      ∙ rw (le-ltb (x * 2) (modulus v) (omega arith)) (ap (λ z. neg_by (modulus w) (z % modulus w)) e)

-- read and reduced by one modulus, a leaf comes back
pub carried-back : (w : ℕ) (c : Leaf w) → carried w w c ≡ c
carried-back w c =
    cond_cases (ltb (c.0 * 2) (modulus w)) (λ z. red_ℤ (modulus w) (modulus-pos w) z ≡ c) (pos c.0) (negsuc (modulus w - suc c.0))
    (λ e. leaf-of w c)
    (λ e. res-ext (modulus w) (modulus-pos w) (red_ℤ (modulus w) (modulus-pos w) (negsuc (modulus w - suc c.0))) c
    (back (ltb-false (c.0 * 2) (modulus w) e)))
  where
    back : modulus w ≤ c.0 * 2 → neg_by (modulus w) (suc (modulus w - suc c.0) % modulus w) ≡ c.0
    back h =
        let b : c.0 < modulus w = leaf-below w c in
        let p : 0 < modulus w = modulus-pos w in
        let d : suc (modulus w - suc c.0) ≡ modulus w - c.0 = omega arith in
        let s : modulus w - c.0 < modulus w = omega arith in
        let e : suc (modulus w - suc c.0) % modulus w ≡ modulus w - c.0 = ap (λ z. z % modulus w) d ∙ NatL.mod-eq_of_lt s in
        let f : modulus w - (modulus w - c.0) ≡ c.0 = omega arith in
        ap (λ z. (modulus w - z) % modulus w) e ∙ ap (λ z. z % modulus w) f ∙ NatL.mod-eq_of_lt b

-- ---- the form

pub reduce-good : (w : ℕ) (x : Form (Leaf 0)) → Good 0 x → Good w (reduce_of w x)
unfolding reduce_of
reduce-good w x g =
    record {
      normal = normal-map_normal (ring_of w) (carried 0 w) (ring_of 0) 4 x g.normal;
      bounded = bounded-map_normal (ring_of w)
          (carried 0 w) (limits 4) x g.bounded;
    }

module _ (v w a : ℕ) where
  pub carry-good : (x : Form (Leaf v)) → Good v x → Good w (carry_of v w a x)
  unfolding carry_of
  carry-good x g =
      let f : Leaf v → Leaf w = λ c. (ring_of w).◌·◌ (leaf w a) (carried v w c) in
      record {
        normal = normal-map_normal (ring_of w) f (ring_of v) 4 x g.normal;
        bounded = bounded-map_normal (ring_of w) f (limits 4) x
            g.bounded;
      }

  pub carry-length : (x : Form (Leaf v)) → length (enc w (carry_of v w a x)) ≤ length (enc v x)
  unfolding carry_of
  carry-length x =
      let f : Leaf v → Leaf w = λ c. (ring_of w).◌·◌ (leaf w a) (carried v w c) in
      omega (arith, size-enc w (map_normal (ring_of w) f x), size-enc v x, size-map_normal (ring_of w) f x)

-- the product with a leaf is a form carried to its own ring, times that leaf
pub carry-scale : (w a : ℕ) (x : Form (Leaf w)) → carry_of w w a x ≡ scale_of w a x
unfolding carry_of scale_of
carry-scale w a (int c) = ap (λ z. int ((ring_of w).◌·◌ (leaf w a) z)) (carried-back w c)
carry-scale w a (pop i p) = ap (mkpop i) (carry-scale w a p)
carry-scale w a (pow i p q) = ap₂ (mkpow (ring_of w) i) (carry-scale w a p) (carry-scale w a q)

-- and the reduced form is one carried from the remainders by P, times 1
pub carry-reduce : (w : ℕ) (x : Form (Leaf 0)) → carry_of 0 w 1 x ≡ reduce_of w x
unfolding carry_of reduce_of
carry-reduce w (int c) = ap int (unit-mul (ring_of w) (carried 0 w c))
carry-reduce w (pop i p) = ap (mkpop i) (carry-reduce w p)
carry-reduce w (pow i p q) = ap₂ (mkpow (ring_of w) i) (carry-reduce w p) (carry-reduce w q)
