-- The cases of Definition 9, of the sum in the ring of a width. The forms are read off the facts that they are good.
-- Assumes nothing.
use Rattle.std.proofs.Common.{refl, sym, ap₂, ℕ, zero, suc, ◌+◌, ◌-◌, ◌<◌, ◌≤◌, arith}
use Rattle.std.proofs.Math.Path.{◌≡◌, ap, subst, ◌∙◌}
use Rattle.horner.specs.definitions.Form.{cmp, case_cmp, Form, int, pop, pow, size, mkpop, mkpow, sum_f}
use Rattle.horner.specs.definitions.Rings.{Ring}
use Rattle.horner.proofs.laws.Equations.{sum_is, sum-int, sum-pop-int, sum-pow-int, sum-pop-pow, sum-3a, sum-3b, sum-6a, sum-6b}
use Rattle.horner.proofs.laws.Value.{size-pos}
use Rattle.code.specs.Coding.{Good}
use Rattle.code.specs.Operations.{pop_of, pow_of, sum_of, zero_of}
use Rattle.code.specs.Widths.{Leaf, ring_of}
use Rattle.code.specs.laws.Good.{good-pop}

-- The sum does not depend on the order of its terms: the cases of Definition 9 go both ways round.

flip :
    {B : Type 0} (i j : ℕ) (e e' : Unit {0} → B) (m l m' l' : ℕ → B) → (i ≡ j → e tt ≡ e' tt) → ((d : ℕ) → m d ≡ l' d) →
    ((d : ℕ) → l d ≡ m' d) →
    case_cmp (cmp i j) e m l ≡ case_cmp (cmp j i) e' m' l'
flip zero zero e e' m l m' l' f g h = f refl
flip zero (suc j) e e' m l m' l' f g h = h j
flip (suc i) zero e e' m l m' l' f g h = g i
flip (suc i) (suc j) e e' m l m' l' f g h = flip i j e e' m l m' l' (λ q. f (ap suc q)) g h

module _ {A : Type 0} (R : Ring A) where
  sum_f-comm : (k : ℕ) (x y : Form A) → size x + size y ≤ k → sum_f R k x y ≡ sum_f R k y x
  sum_f-comm zero x y h = absurd (omega (arith, size-pos x))
  sum_f-comm (suc k) (int a) (int b) h = ap int (R.add_comm a b)
  sum_f-comm (suc k) (int a) (pop j q) h = refl
  sum_f-comm (suc k) (int a) (pow j q r) h = refl
  sum_f-comm (suc k) (pop i p) (int b) h = refl
  sum_f-comm (suc k) (pop i p) (pop j q) h =
      flip i j _ _ _ _ _ _ (λ e. ap₂ mkpop e (sum_f-comm k p q (omega arith))) (λ d. refl) (λ d. refl)
  sum_f-comm (suc k) (pop zero p) (pow j q r) h = refl
  sum_f-comm (suc k) (pop (suc i) p) (pow j q r) h = refl
  sum_f-comm (suc k) (pow j q r) (int b) h = refl
  sum_f-comm (suc k) (pow j q r) (pop zero p) h = refl
  sum_f-comm (suc k) (pow j q r) (pop (suc i) p) h = refl
  sum_f-comm (suc k) (pow i p q) (pow j r s) h =
      flip i j _ _ _ _ _ _
      (λ e t. mkpow R (e t) (sum_f-comm k p r (omega arith) t) (sum_f-comm k q s (omega arith) t)) (λ d. refl) (λ d. refl)

pub sum_comm : (w : ℕ) (x y : Form (Leaf w)) → sum_of w x y ≡ sum_of w y x
unfolding sum_of
sum_comm w x y =
    let k : ℕ = size x + size y in
    sum_f-comm (ring_of w) k x y (omega arith) ∙ sum_is (ring_of w) k y x (omega arith)

-- (1) and (2)
module _ (w : ℕ) (a : Leaf w) (i : ℕ) where
  pub int-pop : (p : Form (Leaf w)) → sum_of w (int a) (pop i p) ≡ pop i (sum_of w (int a) p)
  unfolding sum_of
  int-pop p = sum-int (ring_of w) a (pop i p) ∙ ap (pop i) (sym (sum-int (ring_of w) a p))

  pub int_pow : (p q : Form (Leaf w)) → sum_of w (int a) (pow i p q) ≡ pow i p (sum_of w (int a) q)
  unfolding sum_of
  int_pow p q = sum-int (ring_of w) a (pow i p q) ∙ ap (pow i p) (sym (sum-int (ring_of w) a q))

  pub pop-int : (p : Form (Leaf w)) → sum_of w (pop i p) (int a) ≡ pop i (sum_of w (int a) p)
  unfolding sum_of
  pop-int p = sum-pop-int (ring_of w) i p a ∙ ap (pop i) (sym (sum-int (ring_of w) a p))

  pub pow-int : (p q : Form (Leaf w)) → sum_of w (pow i p q) (int a) ≡ pow i p (sum_of w (int a) q)
  unfolding sum_of
  pow-int p q = sum-pow-int (ring_of w) i p q a ∙ ap (pow i p) (sym (sum-int (ring_of w) a q))

-- (3), (a) and (b); (c) is (b) turned
module _ {w i j : ℕ} {p q : Form (Leaf w)} (g : Good w (pop i p)) (h : Good w (pop j q)) where
  pub pops-eq : i ≡ j → sum_of w (pop i p) (pop j q) ≡ pop_of w i (sum_of w p q)
  unfolding sum_of pop_of
  pops-eq e = subst (λ k. sum_of w (pop i p) (pop k q) ≡ pop_of w i (sum_of w p q)) e (sum-3a (ring_of w) i p q)

  pub pops-gt : j < i → sum_of w (pop i p) (pop j q) ≡ pop_of w j (sum_of w (pop (i - j) p) q)
  unfolding sum_of pop_of
  pops-gt l = sum-3b (ring_of w) i j p q l

-- (4), first with the exponent as it is matched on; (5) is its turned form
module _ (w j : ℕ) (p q r : Form (Leaf w)) where
  more : (i : ℕ) → 0 < i → (i ≡ 1 → ⊥) → sum_of w (pop i p) (pow j q r) ≡ pow j q (sum_of w r (pop (i - 1) p))
  unfolding sum_of
  more zero l n = absurd (omega arith)
  more (suc zero) l n = absurd (n refl)
  more (suc (suc i)) l n =
      let e : suc i ≡ suc (suc i) - 1 = omega arith in
      sum-pop-pow (ring_of w) (suc i) j p q r ∙ ap (λ k. pow j q (sum_of w r (pop k p))) e

module _ {w i j : ℕ} {p q r : Form (Leaf w)} (g : Good w (pop i p)) (h : Good w (pow j q r)) where
  pub pop-pow-1 : i ≡ 1 → sum_of w (pop i p) (pow j q r) ≡ pow j q (sum_of w r p)
  unfolding sum_of
  pop-pow-1 e = rw e (sum-pop-pow (ring_of w) 0 j p q r)

  pub pop-pow : (i ≡ 1 → ⊥) → sum_of w (pop i p) (pow j q r) ≡ pow j q (sum_of w (pop (i - 1) p) r)
  pop-pow n = more w j p q r i (good-pop g).0 n ∙ ap (pow j q) (sum_comm w r (pop (i - 1) p))

-- (6), (a) and (b); (c) is (b) turned
module _ {w i j : ℕ} {p q r s : Form (Leaf w)} (g : Good w (pow i p q)) (h : Good w (pow j r s)) where
  pub pows-eq : i ≡ j → sum_of w (pow i p q) (pow j r s) ≡ pow_of w i (sum_of w p r) (sum_of w q s)
  unfolding sum_of pow_of
  pows-eq e = subst (λ k. sum_of w (pow i p q) (pow k r s) ≡ pow_of w i (sum_of w p r) (sum_of w q s)) e (sum-6a (ring_of w) i p q r s)

  pub pows-gt : j < i → sum_of w (pow i p q) (pow j r s) ≡ pow_of w j (sum_of w (pow (i - j) p (zero_of w)) r) (sum_of w q s)
  unfolding sum_of pow_of zero_of
  pows-gt l = sum-6b (ring_of w) i j p q r s l
