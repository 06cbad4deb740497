-- Theorem C: over the integers two normal forms that have one value at every point of natural numbers are one form.
use Rattle.std.specs.Prelude.{List, [], ◌∷◌, ◌≡◌, refl, ℕ, zero, suc, ◌+◌, ◌≤◌, ◌*◌, ℤ, pos, negsuc, neg_ℤ, ◌+ℤ◌, ◌*ℤ◌, nat_abs, length}
use Rattle.std.proofs.Common.{sym, ◌∙◌, ap, ap₂, subst, arith}
use Rattle.std.proofs.Math.Path.{◌≡⟨◌⟩◌, ◌∎}
use Rattle.std.proofs.Math.Nat as NatL
use Rattle.horner.specs.definitions.Form.{Form, sum, negate, Normal, nats}
use Rattle.horner.specs.definitions.Rings.{ℤ_ring, Ring, nat}
use Rattle.horner.proofs.laws.Degree.{length-degrees, bounded-degrees, all-le-total}
use Rattle.horner.specs.laws.Degree.{Bounded, total}
use Rattle.horner.specs.definitions.Measures.{AllLe, degrees}
use Rattle.horner.specs.definitions.Points.{InBox}
use Rattle.horner.proofs.laws.Bounds.{bounded-sum, bounded-negate}
use Rattle.horner.proofs.laws.Cancel.{difference}
use Rattle.horner.proofs.laws.Grid.{Vanishes, grid}
use Rattle.horner.proofs.laws.Normal.{normal-sum, normal-negate}
use Rattle.horner.proofs.laws.Roots.{Regular}
use Rattle.horner.proofs.laws.Value.{val-sum, val-negate, Zero, val}

-- a point of a box has as many coordinates
pub length-box : (ds N : List ℕ) → InBox ds N → length N ≡ length ds
length-box [] [] h = refl
length-box [] (a ∷ N) h = absurd h
length-box (d ∷ ds) [] h = absurd h
length-box (d ∷ ds) (a ∷ N) h = ap suc (length-box ds N h.1)

module _ {A : Type 0} (R : Ring A) where
  open R use {◌⊞◌, neg, nil, add-neg}

  -- at a point at which two forms have one value, their difference is 0
  pub val-difference : (x y : Form A) (N : List A) → val R x N ≡ val R y N → val R (sum R x (negate R y)) N ≡ nil
  val-difference x y N e =
      let X = val R x N in
      let Y = val R y N in
      val R (sum R x (negate R y)) N ≡⟨ val-sum R x (negate R y) N ⟩
      X ⊞ val R (negate R y) N ≡⟨ ap₂ ◌⊞◌ e (val-negate R y N) ⟩
      Y ⊞ neg Y ≡⟨ add-neg Y ⟩
      nil ∎

  normal-difference : (n : ℕ) (x y : Form A) → Normal R n x → Normal R n y → Normal R n (sum R x (negate R y))
  normal-difference n x y hx hy = normal-sum R n x (negate R y) hx (normal-negate R n y hy)

  -- normal forms within bounds that have one value at each point of the box are one form, where the numbers up to the bounds divide no
  -- zero
  pub canon-box : (K : ℕ) → Regular R K → (ds : List ℕ) → AllLe K ds → (x y : Form A) → Normal R (length ds) x → Normal R (length ds) y
      → Bounded ds x → Bounded ds y → ((N : List ℕ) → InBox ds N → val R x (nats R N) ≡ val R y (nats R N)) → x ≡ y
  canon-box K regular ds le x y hx hy bx by agree =
      let n = length ds in
      let bounded : Bounded ds (sum R x (negate R y)) = bounded-sum R ds x (negate R y) bx (bounded-negate R ds y by) in
      let zero : Zero R (sum R x (negate R y)) =
      grid R K regular ds le (sum R x (negate R y)) (normal-difference n x y hx hy) bounded
      (λ N m. val-difference x y (nats R N) (agree N m)) in
      difference R n x y hx (normal-negate R n y hy) zero

-- over any ring in which no number divides zero
module _ {A : Type 0} (R : Ring A) (regular : (K : ℕ) → Regular R K) where
  -- a normal form that is 0 over the box of its degrees is 0
  pub zero-of-box : (n : ℕ) (x : Form A) → Normal R n x → Vanishes R (degrees n x) x → Zero R x
  zero-of-box n x hx v =
      let ds = degrees n x in
      let normal : Normal R (length ds) x = subst (λ z. Normal R z x) (sym (length-degrees R n x hx)) hx in
      grid R (total ds) (regular (total ds)) ds (all-le-total ds) x normal (bounded-degrees R n x hx) v

  pub canon : (n : ℕ) (x y : Form A) → Normal R n x → Normal R n y
      → ((N : List ℕ) → length N ≡ n → val R x (nats R N) ≡ val R y (nats R N)) → x ≡ y
  canon n x y hx hy agree =
      let z = sum R x (negate R y) in
      let hz : Normal R n z = normal-difference R n x y hx hy in
      let vanishes : Vanishes R (degrees n z) z =
      λ N m. val-difference R x y (nats R N) (agree N (length-box (degrees n z) N m ∙ length-degrees R n z hz)) in
      difference R n x y hx (normal-negate R n y hy) (zero-of-box n z hz vanishes)

-- ---- the integers
nat-pos : (k : ℕ) → nat ℤ_ring k ≡ pos k
nat-pos zero = refl
nat-pos (suc k) =
    pos 1 +ℤ nat ℤ_ring k ≡⟨ ap (λ z. pos 1 +ℤ z) (nat-pos k) ⟩
    pos (1 + k) ≡⟨ ap pos (omega arith) ⟩
    pos (suc k) ∎

mul-nil-ℕ : (k m : ℕ) → 1 ≤ k → k * m ≡ 0 → m ≡ 0
mul-nil-ℕ k m h e = NatL.eq_of_mul-eq-mul_left k h m 0 (e ∙ sym (NatL.mul-zero k))

pub pos-mul-nil : (k : ℕ) (r : ℤ) → 1 ≤ k → pos k *ℤ r ≡ pos 0 → r ≡ pos 0
pos-mul-nil k (pos m) h e = ap pos (mul-nil-ℕ k m h (ap nat_abs e))
pos-mul-nil k (negsuc m) h e = absurd (omega (arith, mul-nil-ℕ k (suc m) h (abs_neg (k * suc m) ∙ ap nat_abs e)))
  where
    abs_neg : (n : ℕ) → n ≡ nat_abs (neg_ℤ (pos n))
    abs_neg zero = refl
    abs_neg (suc n) = refl

pub ℤ-regular : (K : ℕ) → Regular ℤ_ring K
ℤ-regular K k lo hi r e = pos-mul-nil k r lo (ap (λ z. z *ℤ r) (sym (nat-pos k)) ∙ e)

pub canon-ℤ : (n : ℕ) (x y : Form ℤ) → Normal ℤ_ring n x → Normal ℤ_ring n y
    → ((N : List ℕ) → length N ≡ n → val ℤ_ring x (nats ℤ_ring N) ≡ val ℤ_ring y (nats ℤ_ring N)) → x ≡ y
canon-ℤ n x y hx hy agree = canon ℤ_ring ℤ-regular n x y hx hy agree
