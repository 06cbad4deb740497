-- The value of a product is the product of the values, and so of powers: Lemmas 5 and 6.
use Rattle.std.specs.Prelude.{List, ◌≡◌, refl, ℕ, zero, suc, ◌+◌, ◌≤◌}
use Rattle.std.proofs.Common.{◌∙◌, ap, ap₂, arith}
use Rattle.std.proofs.Math.Path.{◌≡⟨◌⟩◌, ◌∎}
use Rattle.horner.specs.definitions.Form.{Form, int, pop, pow, size, mkpop, lower, zero_form, mkpow, sum, scale, prod_f, prod, raise}
use Rattle.horner.specs.definitions.Form.{tl, after, hd}
use Rattle.horner.specs.definitions.Rings.{Ring, power}
use Rattle.horner.proofs.laws.Compare.{cmp-cases}
use Rattle.horner.proofs.laws.Ring.{mul_left_comm, add-mul, power-add}
use Rattle.horner.proofs.laws.Value.{no_fuel, lower-fits', size-mkpop, val-mkpop, val-lower, val-mkpow-by, pops_same, pops-more}
use Rattle.horner.proofs.laws.Value.{val-sum, val}

module _ {A : Type 0} (R : Ring A) where
  open R use {◌⊞◌, ◌·◌, nil, add-nil, add_assoc, add_comm, mul_assoc, mul_comm, mul-add}

  scale-step : (u a p q : A) → u · (a · p) ⊞ a · q ≡ a · (u · p ⊞ q)
  scale-step u a p q = simp (mul-add, mul_left_comm R)

  pub val-scale : (a : A) (y : Form A) (N : List A) → val R (scale R a y) N ≡ a · val R y N
  val-scale a (int b) N = refl
  val-scale a (pop i p) N = val-mkpop R i (scale R a p) N ∙ val-scale a p (after i N)
  val-scale a (pow i p q) N =
      let u = power R (hd R N) i in
      let P = val R p N in
      let Q = val R q (tl N) in
      let parts = val-mkpow-by R i (scale R a p) (scale R a q) N (a · P) (a · Q) (val-scale a p N) (val-scale a q (tl N)) in
      val R (scale R a (pow i p q)) N ≡⟨ parts ⟩
      u · (a · P) ⊞ a · Q ≡⟨ scale-step u a P Q ⟩
      a · (u · P ⊞ Q) ∎

  -- Definition 11 (4): t and u are the products of what the POP holds with q and r
  prod-tail : (j : ℕ) (q r : Form A) (i : ℕ) (p t u : Form A) (N : List A) → val R t N ≡ val R (pop (suc i) p) N · val R q N
      → val R u (tl N) ≡ val R (lower i p) (tl N) · val R r (tl N)
      → val R (mkpow R j t u) N ≡ val R (pop (suc i) p) N · val R (pow j q r) N
  prod-tail j q r i p t u N e f =
      let v = power R (hd R N) j in
      let P = val R (pop (suc i) p) N in
      let Q = val R q N in
      let T = val R r (tl N) in
      val R (mkpow R j t u) N ≡⟨ val-mkpow-by R j t u N (P · Q) (P · T) e (f ∙ ap (λ z. z · T) (val-lower R i p (tl N))) ⟩
      v · (P · Q) ⊞ P · T ≡⟨ scale-step v P Q T ⟩
      P · (v · Q ⊞ T) ∎

  -- (u P + Q) (v T + S), as Definition 11 (6) puts it together
  prod-step : (u v p q t s : A) → u · v · (p · t) ⊞ q · s ⊞ (u · (p · s) ⊞ nil) ⊞ (v · (t · q) ⊞ nil) ≡ (u · p ⊞ q) · (v · t ⊞ s)
  prod-step u v p q t s = simp (add-nil, mul-add, add-mul R, mul_assoc, mul_comm, mul_left_comm R, add_assoc, add_comm)

  -- Definition 11 (6): pr, qs, ps and rq are the products of the parts
  prod-six : (i j : ℕ) (p q r s pr qs ps rq : Form A) (N : List A)
      → val R pr N ≡ val R p N · val R r N → val R qs (tl N) ≡ val R q (tl N) · val R s (tl N)
      → val R ps N ≡ val R p N · val R (mkpop 1 s) N → val R rq N ≡ val R r N · val R (mkpop 1 q) N
      → val R (sum R (sum R (mkpow R (i + j) pr qs) (mkpow R i ps (zero_form R))) (mkpow R j rq (zero_form R))) N
      ≡ val R (pow i p q) N · val R (pow j r s) N
  prod-six i j p q r s pr qs ps rq N e₁ e₂ e₃ e₄ =
      let a = hd R N in
      let u = power R a i in
      let v = power R a j in
      let P = val R p N in
      let Q = val R q (tl N) in
      let T = val R r N in
      let S = val R s (tl N) in
      let one = mkpow R (i + j) pr qs in
      let two = mkpow R i ps (zero_form R) in
      let three = mkpow R j rq (zero_form R) in
      let one-is : val R one N ≡ u · v · (P · T) ⊞ Q · S =
      val-mkpow-by R (i + j) pr qs N (P · T) (Q · S) e₁ e₂ ∙ ap (λ w. w · (P · T) ⊞ Q · S) (power-add R a i j) in
      let two_is : val R two N ≡ u · (P · S) ⊞ nil =
      val-mkpow-by R i ps (zero_form R) N (P · S) nil (e₃ ∙ ap (◌·◌ P) (val-mkpop R 1 s N)) refl in
      let three-is : val R three N ≡ v · (T · Q) ⊞ nil =
      val-mkpow-by R j rq (zero_form R) N (T · Q) nil (e₄ ∙ ap (◌·◌ T) (val-mkpop R 1 q N)) refl in
      val R (sum R (sum R one two) three) N ≡⟨ val-sum R (sum R one two) three N ⟩
      val R (sum R one two) N ⊞ val R three N ≡⟨ ap (λ z. z ⊞ val R three N) (val-sum R one two N) ⟩
      val R one N ⊞ val R two N ⊞ val R three N ≡⟨ ap₂ ◌⊞◌ (ap₂ ◌⊞◌ one-is two_is) three-is ⟩
      u · v · (P · T) ⊞ Q · S ⊞ (u · (P · S) ⊞ nil) ⊞ (v · (T · Q) ⊞ nil) ≡⟨ prod-step u v P Q T S ⟩
      (u · P ⊞ Q) · (v · T ⊞ S) ∎

  val-prod_f : (k : ℕ) (x y : Form A) → size x + size y ≤ k → (N : List A) → val R (prod_f R k x y) N ≡ val R x N · val R y N
  val-prod_f zero x y h N = absurd (no_fuel R x y h)
  val-prod_f (suc k) (int a) y h N = val-scale a y N
  val-prod_f (suc k) (pop i p) (int b) h N = val-scale b (pop i p) N ∙ mul_comm b (val R p (after i N))
  val-prod_f (suc k) (pop i p) (pop j q) h N =
      cmp-cases i j (λ z. val R z N ≡ val R (pop i p) N · val R (pop j q) N) _ _ _
      (λ e. pops_same R ◌·◌ i j p q (prod_f R k p q) N e (val-prod_f k p q (omega arith) (after i N)))
      (λ d e. pops-more R ◌·◌ i j d p q (prod_f R k (pop (suc d) p) q) N e (val-prod_f k (pop (suc d) p) q (omega arith) (after j N)))
      (λ d e. pops-more R ◌·◌ j i d q p (prod_f R k (pop (suc d) q) p) N e (val-prod_f k (pop (suc d) q) p (omega arith) (after i N))
      ∙ mul_comm (val R (pop j q) N) (val R (pop i p) N))
  val-prod_f (suc k) (pop zero p) (pow j q r) h N = val-prod_f k p (pow j q r) (omega arith) N
  val-prod_f (suc k) (pop (suc i) p) (pow j q r) h N =
      prod-tail j q r i p (prod_f R k (pop (suc i) p) q) (prod_f R k (lower i p) r) N
      (val-prod_f k (pop (suc i) p) q (omega arith) N) (val-prod_f k (lower i p) r (lower-fits' R i p r k (omega arith)) (tl N))
  val-prod_f (suc k) (pow j q r) (int b) h N = val-scale b (pow j q r) N ∙ mul_comm b (val R (pow j q r) N)
  val-prod_f (suc k) (pow j q r) (pop zero p) h N = val-prod_f k p (pow j q r) (omega arith) N ∙ mul_comm (val R p N) (val R (pow j q r) N)
  val-prod_f (suc k) (pow j q r) (pop (suc i) p) h N =
      prod-tail j q r i p (prod_f R k (pop (suc i) p) q) (prod_f R k (lower i p) r) N
      (val-prod_f k (pop (suc i) p) q (omega arith) N) (val-prod_f k (lower i p) r (lower-fits' R i p r k (omega arith)) (tl N))
      ∙ mul_comm (val R (pop (suc i) p) N) (val R (pow j q r) N)
  val-prod_f (suc k) (pow i p q) (pow j r s) h N =
      prod-six i j p q r s (prod_f R k p r) (prod_f R k q s) (prod_f R k p (mkpop 1 s)) (prod_f R k r (mkpop 1 q)) N
      (val-prod_f k p r (omega arith) N) (val-prod_f k q s (omega arith) (tl N))
      (val-prod_f k p (mkpop 1 s) (omega (arith, size-mkpop R s)) N) (val-prod_f k r (mkpop 1 q) (omega (arith, size-mkpop R q)) N)

  -- Lemma 5
  pub val-prod : (x y : Form A) (N : List A) → val R (prod R x y) N ≡ val R x N · val R y N
  val-prod x y N = val-prod_f (size x + size y) x y (omega arith) N

  -- Lemma 6
  pub val-raise : (x : Form A) (n : ℕ) (N : List A) → val R (raise R x n) N ≡ power R (val R x N) n
  val-raise x zero N = refl
  val-raise x (suc n) N =
      val R (prod R x (raise R x n)) N ≡⟨ val-prod x (raise R x n) N ⟩
      val R x N · val R (raise R x n) N ≡⟨ ap (◌·◌ (val R x N)) (val-raise x n N) ⟩
      val R x N · power R (val R x N) n ∎
