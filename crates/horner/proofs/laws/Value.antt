-- The value of what the operations make: pop, pow, the sum and the negation (Lemmas 1 to 4; the product is in Product).
use Rattle.std.specs.Prelude.{true, List, ◌≡◌, refl, ℕ, zero, suc, ◌+◌, ◌≤◌}
use Rattle.std.proofs.Common.{true≢false, sym, ◌∙◌, ap, ap₂, arith}
use Rattle.std.proofs.Math.Path.{◌≡⟨◌⟩◌, ◌∎}
use Rattle.std.proofs.Math.Nat as NatL
use Rattle.horner.specs.definitions.Form.{Form, int, pop, pow, size, mkpop, lower, is_zero, zero_form, mkpow, add_int, sum_f, sum}
use Rattle.horner.specs.definitions.Form.{negate, tl, after, hd}
use Rattle.horner.specs.definitions.Rings.{Ring, power}
use Rattle.horner.proofs.laws.Compare.{cmp-cases}
use Rattle.horner.proofs.laws.Ring.{nil-add, add_left_comm, mul-nil, mul-neg, neg-of-add, power-add}
use Rattle.horner.proofs.laws.Tests.{cond_cases}

module _ {A : Type 0} where
  pub size-pos : (x : Form A) → 1 ≤ size x
  size-pos (int c) = omega arith
  size-pos (pop i p) = omega arith
  size-pos (pow i p q) = omega arith

  pub after-add : (i j : ℕ) (N : List A) → after (i + j) N ≡ after j (after i N)
  after-add zero j N = rw NatL.zero-add
  after-add (suc i) j N = rw NatL.suc-add (after-add i j (tl N))

module _ {A : Type 0} (R : Ring A) where
  open R use {◌⊞◌, neg, ◌·◌, nil, is_nil, add_assoc, add_comm, add-nil, mul_assoc, mul-add, is_nil-true}

  -- Definition 5 with a missing coordinate read as 0. Its laws hold at every point; at a point as long as the row it is `evalh`. At a
  -- shorter one Lemma 3 is false of `evalh`: (POW 1 1 5) has the value 0 at (), and it is the sum of 5 and (POW 1 1 0).
  abbrev pub val : Form A → List A → A
  val (int c) N = c
  val (pop i p) N = val p (after i N)
  val (pow i p q) N = power R (hd R N) i · val p N ⊞ val q (tl N)

  -- ---- sizes, by which the sum and the product go down
  pub no_fuel : (x y : Form A) → size x + size y ≤ 0 → ⊥
  no_fuel x y h = omega (arith, size-pos x)

  pub lower-fits : (i : ℕ) (p r : Form A) (k : ℕ) → size r + suc (size p) ≤ k → size r + size (lower i p) ≤ k
  lower-fits zero p r k h = omega arith
  lower-fits (suc i) p r k h = h

  pub lower-fits' : (i : ℕ) (p r : Form A) (k : ℕ) → suc (size p) + size r ≤ k → size (lower i p) + size r ≤ k
  lower-fits' zero p r k h = omega arith
  lower-fits' (suc i) p r k h = h

  -- the size of a form that mkpop made
  pub size-mkpop : (s : Form A) → size (mkpop 1 s) ≤ suc (size s)
  size-mkpop (int c) = omega arith
  size-mkpop (pop i p) = omega arith
  size-mkpop (pow i p q) = omega arith

  -- ---- POP and POW
  -- Lemma 1
  pub val-mkpop : (i : ℕ) (p : Form A) (N : List A) → val (mkpop i p) N ≡ val p (after i N)
  val-mkpop zero p N = refl
  val-mkpop (suc i) (int c) N = refl
  val-mkpop (suc i) (pop j q) N = ap (val q) (after-add (suc i) j N)
  val-mkpop (suc i) (pow j q r) N = refl

  pub val-lower : (i : ℕ) (p : Form A) (N : List A) → val (lower i p) N ≡ val p (after i N)
  val-lower zero p N = refl
  val-lower (suc i) p N = refl

  abbrev pub Zero : Form A → Type 0
  Zero p = is_zero R p ≡ true

  pub is_zero-val : (p : Form A) → Zero p → (N : List A) → val p N ≡ nil
  is_zero-val (int c) h N = is_nil-true c h
  is_zero-val (pop i p) h N = absurd (true≢false (sym h))
  is_zero-val (pow i p q) h N = absurd (true≢false (sym h))

  -- Lemma 2
  pub val-mkpow : (i : ℕ) (p q : Form A) (N : List A) → val (mkpow R i p q) N ≡ power R (hd R N) i · val p N ⊞ val q (tl N)
  val-mkpow i (int c) q N =
      cond_cases (is_nil c) (λ z. val z N ≡ power R (hd R N) i · c ⊞ val q (tl N)) _ _ (λ h. no_lead (is_nil-true c h)) (λ h. refl)
    where
      no_lead : c ≡ nil → val (mkpop 1 q) N ≡ power R (hd R N) i · c ⊞ val q (tl N)
      no_lead h =
          let u = power R (hd R N) i in
          let Q = val q (tl N) in
          val (mkpop 1 q) N ≡⟨ val-mkpop 1 q N ⟩
          Q ≡⟨ sym (nil-add R Q) ⟩
          nil ⊞ Q ≡⟨ ap (λ z. z ⊞ Q) (sym (mul-nil R u)) ⟩
          u · nil ⊞ Q ≡⟨ ap (λ z. u · z ⊞ Q) (sym h) ⟩
          u · c ⊞ Q ∎
  val-mkpow i (pop j p) q N = refl
  val-mkpow i (pow j r s) q N =
      cond_cases (is_zero R s) (λ z. val z N ≡ power R (hd R N) i · val (pow j r s) N ⊞ val q (tl N)) _ _
      (λ h. merged (is_zero-val s h (tl N))) (λ h. refl)
    where
      merged : val s (tl N) ≡ nil → val (pow (i + j) r q) N ≡ power R (hd R N) i · val (pow j r s) N ⊞ val q (tl N)
      merged h =
          let a = hd R N in
          let u = power R a i in
          let v = power R a j in
          let P = val r N in
          let Q = val q (tl N) in
          power R a (i + j) · P ⊞ Q ≡⟨ ap (λ z. z · P ⊞ Q) (power-add R a i j) ⟩
          u · v · P ⊞ Q ≡⟨ ap (λ z. z ⊞ Q) (mul_assoc u v P) ⟩
          u · (v · P) ⊞ Q ≡⟨ ap (λ z. u · z ⊞ Q) (sym (add-nil (v · P))) ⟩
          u · (v · P ⊞ nil) ⊞ Q ≡⟨ ap (λ z. u · (v · P ⊞ z) ⊞ Q) (sym h) ⟩
          u · (v · P ⊞ val s (tl N)) ⊞ Q ∎

  -- the same, with the values of the two parts known
  pub val-mkpow-by : (i : ℕ) (p q : Form A) (N : List A) (a b : A) → val p N ≡ a → val q (tl N) ≡ b
      → val (mkpow R i p q) N ≡ power R (hd R N) i · a ⊞ b
  val-mkpow-by i p q N a b e f = val-mkpow i p q N ∙ ap₂ (λ z w. power R (hd R N) i · z ⊞ w) e f

  -- ---- two POPs, Definitions 9 (3) and 11 (3): z is the sum or the product of what they hold
  module _ (◌⋆◌ : A → A → A) where
    infixl 60 ◌⋆◌
    pub pops_same : (i j : ℕ) (p q z : Form A) (N : List A) → i ≡ j → val z (after i N) ≡ val p (after i N) ⋆ val q (after i N)
        → val (mkpop i z) N ≡ val (pop i p) N ⋆ val (pop j q) N
    pops_same i j p q z N e h =
        val (mkpop i z) N ≡⟨ val-mkpop i z N ⟩
        val z (after i N) ≡⟨ h ⟩
        val p (after i N) ⋆ val q (after i N) ≡⟨ ap (λ k. val p (after i N) ⋆ val q (after k N)) e ⟩
        val (pop i p) N ⋆ val (pop j q) N ∎

    pub pops-more : (i j d : ℕ) (p q z : Form A) (N : List A) → i ≡ j + suc d
        → val z (after j N) ≡ val (pop (suc d) p) (after j N) ⋆ val q (after j N)
        → val (mkpop j z) N ≡ val (pop i p) N ⋆ val (pop j q) N
    pops-more i j d p q z N e h =
        let Q = val q (after j N) in
        val (mkpop j z) N ≡⟨ val-mkpop j z N ⟩
        val z (after j N) ≡⟨ h ⟩
        val p (after (suc d) (after j N)) ⋆ Q ≡⟨ ap (λ M. val p M ⋆ Q) (sym (after-add j (suc d) N)) ⟩
        val p (after (j + suc d) N) ⋆ Q ≡⟨ ap (λ k. val p (after k N) ⋆ Q) (sym e) ⟩
        val (pop i p) N ⋆ val (pop j q) N ∎

  -- ---- the sum
  pub val-add_int : (a : A) (y : Form A) (N : List A) → val (add_int R a y) N ≡ a ⊞ val y N
  val-add_int a (int b) N = refl
  val-add_int a (pop i p) N = val-add_int a p (after i N)
  val-add_int a (pow i p q) N =
      let L = power R (hd R N) i · val p N in
      let Q = val q (tl N) in
      L ⊞ val (add_int R a q) (tl N) ≡⟨ ap (◌⊞◌ L) (val-add_int a q (tl N)) ⟩
      L ⊞ (a ⊞ Q) ≡⟨ add_left_comm R L a Q ⟩
      a ⊞ (L ⊞ Q) ∎

  -- Definition 9 (4): t is the sum of r and what the POP holds
  sum-tail : (j : ℕ) (q r : Form A) (i : ℕ) (p t : Form A) (N : List A) → val t (tl N) ≡ val r (tl N) ⊞ val (lower i p) (tl N)
      → val (pow j q t) N ≡ val (pow j q r) N ⊞ val (pop (suc i) p) N
  sum-tail j q r i p t N h =
      let L = power R (hd R N) j · val q N in
      let T = val r (tl N) in
      L ⊞ val t (tl N) ≡⟨ ap (◌⊞◌ L) h ⟩
      L ⊞ (T ⊞ val (lower i p) (tl N)) ≡⟨ ap (λ z. L ⊞ (T ⊞ z)) (val-lower i p (tl N)) ⟩
      L ⊞ (T ⊞ val (pop (suc i) p) N) ≡⟨ sym (add_assoc L T (val (pop (suc i) p) N)) ⟩
      L ⊞ T ⊞ val (pop (suc i) p) N ∎

  -- Definition 9 (6): (u P + Q) + (u T + S), and (u v P + Q) + (u T + S)
  same-powers : (u p q t s : A) → u · (p ⊞ t) ⊞ (q ⊞ s) ≡ u · p ⊞ q ⊞ (u · t ⊞ s)
  same-powers u p q t s = simp (mul-add, add_assoc, add_comm, add_left_comm R)

  more-powers : (u v p q t s : A) → u · (v · p ⊞ nil ⊞ t) ⊞ (q ⊞ s) ≡ u · v · p ⊞ q ⊞ (u · t ⊞ s)
  more-powers u v p q t s = simp (add-nil, mul-add, mul_assoc, add_assoc, add_comm, add_left_comm R)

  -- y and z are the sums of the parts
  sum_same : (i j : ℕ) (p q r s y z : Form A) (N : List A) → i ≡ j → val y N ≡ val p N ⊞ val r N
      → val z (tl N) ≡ val q (tl N) ⊞ val s (tl N)
      → val (mkpow R i y z) N ≡ val (pow i p q) N ⊞ val (pow j r s) N
  sum_same i j p q r s y z N e f g =
      let u = power R (hd R N) i in
      let P = val p N in
      let Q = val q (tl N) in
      let T = val r N in
      let S = val s (tl N) in
      val (mkpow R i y z) N ≡⟨ val-mkpow-by i y z N (P ⊞ T) (Q ⊞ S) f g ⟩
      u · (P ⊞ T) ⊞ (Q ⊞ S) ≡⟨ same-powers u P Q T S ⟩
      u · P ⊞ Q ⊞ (u · T ⊞ S) ≡⟨ ap (λ k. u · P ⊞ Q ⊞ (power R (hd R N) k · T ⊞ S)) e ⟩
      val (pow i p q) N ⊞ val (pow j r s) N ∎

  -- (POW d+1 p 0), as (6) makes it of the difference of two exponents
  abbrev alone : ℕ → Form A → Form A
  alone d p = pow (suc d) p (zero_form R)

  sum_more : (i j d : ℕ) (p q r s y z : Form A) (N : List A) → i ≡ j + suc d → val y N ≡ val (alone d p) N ⊞ val r N
      → val z (tl N) ≡ val q (tl N) ⊞ val s (tl N) → val (mkpow R j y z) N ≡ val (pow i p q) N ⊞ val (pow j r s) N
  sum_more i j d p q r s y z N e f g =
      let a = hd R N in
      let u = power R a j in
      let v = power R a (suc d) in
      let P = val p N in
      let Q = val q (tl N) in
      let T = val r N in
      let S = val s (tl N) in
      val (mkpow R j y z) N ≡⟨ val-mkpow-by j y z N (v · P ⊞ nil ⊞ T) (Q ⊞ S) f g ⟩
      u · (v · P ⊞ nil ⊞ T) ⊞ (Q ⊞ S) ≡⟨ more-powers u v P Q T S ⟩
      u · v · P ⊞ Q ⊞ (u · T ⊞ S) ≡⟨ ap (λ w. w · P ⊞ Q ⊞ (u · T ⊞ S)) (sym (power-add R a j (suc d))) ⟩
      power R a (j + suc d) · P ⊞ Q ⊞ (u · T ⊞ S) ≡⟨ ap (λ k. power R a k · P ⊞ Q ⊞ (u · T ⊞ S)) (sym e) ⟩
      val (pow i p q) N ⊞ val (pow j r s) N ∎

  val-sum_f : (k : ℕ) (x y : Form A) → size x + size y ≤ k → (N : List A) → val (sum_f R k x y) N ≡ val x N ⊞ val y N
  val-sum_f zero x y h N = absurd (no_fuel x y h)
  val-sum_f (suc k) (int a) y h N = val-add_int a y N
  val-sum_f (suc k) (pop i p) (int b) h N = val-add_int b p (after i N) ∙ add_comm b (val p (after i N))
  val-sum_f (suc k) (pop i p) (pop j q) h N =
      cmp-cases i j (λ z. val z N ≡ val (pop i p) N ⊞ val (pop j q) N) _ _ _
      (λ e. pops_same ◌⊞◌ i j p q (sum_f R k p q) N e (val-sum_f k p q (omega arith) (after i N)))
      (λ d e. pops-more ◌⊞◌ i j d p q (sum_f R k (pop (suc d) p) q) N e (val-sum_f k (pop (suc d) p) q (omega arith) (after j N)))
      (λ d e. pops-more ◌⊞◌ j i d q p (sum_f R k (pop (suc d) q) p) N e (val-sum_f k (pop (suc d) q) p (omega arith) (after i N))
      ∙ add_comm (val (pop j q) N) (val (pop i p) N))
  val-sum_f (suc k) (pop zero p) (pow j q r) h N = val-sum_f k p (pow j q r) (omega arith) N
  val-sum_f (suc k) (pop (suc i) p) (pow j q r) h N =
      sum-tail j q r i p (sum_f R k r (lower i p)) N (val-sum_f k r (lower i p) (lower-fits i p r k (omega arith)) (tl N))
      ∙ add_comm (val (pow j q r) N) (val (pop (suc i) p) N)
  val-sum_f (suc k) (pow j q r) (int b) h N = val-add_int b (pow j q r) N ∙ add_comm b (val (pow j q r) N)
  val-sum_f (suc k) (pow j q r) (pop zero p) h N = val-sum_f k p (pow j q r) (omega arith) N ∙ add_comm (val p N) (val (pow j q r) N)
  val-sum_f (suc k) (pow j q r) (pop (suc i) p) h N =
      sum-tail j q r i p (sum_f R k r (lower i p)) N (val-sum_f k r (lower i p) (lower-fits i p r k (omega arith)) (tl N))
  val-sum_f (suc k) (pow i p q) (pow j r s) h N =
      cmp-cases i j (λ z. val z N ≡ val (pow i p q) N ⊞ val (pow j r s) N) _ _ _
      (λ e. sum_same i j p q r s (sum_f R k p r) (sum_f R k q s) N e (val-sum_f k p r (omega arith) N) (val-sum_f k q s (omega arith) (tl N)))
      (λ d e. sum_more i j d p q r s (sum_f R k (alone d p) r) (sum_f R k q s) N e
      (val-sum_f k (alone d p) r (omega (arith, size-pos q)) N) (val-sum_f k q s (omega arith) (tl N)))
      (λ d e. sum_more j i d r s p q (sum_f R k (alone d r) p) (sum_f R k s q) N e
      (val-sum_f k (alone d r) p (omega (arith, size-pos s)) N) (val-sum_f k s q (omega arith) (tl N))
      ∙ add_comm (val (pow j r s) N) (val (pow i p q) N))

  -- Lemma 3
  pub val-sum : (x y : Form A) (N : List A) → val (sum R x y) N ≡ val x N ⊞ val y N
  val-sum x y N = val-sum_f (size x + size y) x y (omega arith) N

  -- ---- the negation: Lemma 4
  pub val-negate : (x : Form A) (N : List A) → val (negate R x) N ≡ neg (val x N)
  val-negate (int a) N = refl
  val-negate (pop i p) N = val-negate p (after i N)
  val-negate (pow i p q) N =
      let u = power R (hd R N) i in
      let P = val p N in
      let Q = val q (tl N) in
      u · val (negate R p) N ⊞ val (negate R q) (tl N) ≡⟨ ap₂ (λ z w. u · z ⊞ w) (val-negate p N) (val-negate q (tl N)) ⟩
      u · neg P ⊞ neg Q ≡⟨ ap (λ z. z ⊞ neg Q) (mul-neg R u P) ⟩
      neg (u · P) ⊞ neg Q ≡⟨ sym (neg-of-add R (u · P) Q) ⟩
      neg (u · P ⊞ Q) ∎
