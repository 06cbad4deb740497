-- What a form's measures and values are in the polynomial's own coefficients: the value is the sum of the coefficients times their
-- monomials, the weight the sum of the absolute coefficients, the terms the number of those that are not 0, and each degree the highest
-- power that occurs.
use Rattle.std.specs.Prelude.{List, [], ◌∷◌, ◌≡◌, refl, ℕ, zero, suc, ◌+◌, ◌-◌, ◌≤◌, ℤ, nat_abs, length, get_or}
use Rattle.std.proofs.Common.{sym, ◌∙◌, ap, ap₂, subst, arith}
use Rattle.std.proofs.Math.Path.{◌≡⟨◌⟩◌, ◌∎}
use Rattle.horner.specs.definitions.Measures.{shift, coefs, coef_of, constant, coef_at, sum_to, sum_box, monomial, meas, weight, one_if, count}
use Rattle.horner.specs.definitions.Form.{Form, int, pop, pow, zero_form, Normal, tl, hd}
use Rattle.horner.specs.definitions.Rings.{ℤ_ring, Ring, power}
use Rattle.horner.specs.laws.Degree.{Bounded}
use Rattle.horner.proofs.laws.Count.{count-size}
use Rattle.horner.proofs.laws.Grid.{vals, val-coefs, normal-coefs, bounded-coefs, length-coefs}
use Rattle.horner.specs.laws.Grid.{All}
use Rattle.horner.proofs.laws.Measure.{meas-lower}
use Rattle.horner.proofs.laws.Ring.{unit-mul, mul-nil}
use Rattle.horner.proofs.laws.Roots.{horner}
use Rattle.horner.proofs.laws.Value.{val}

-- ---- sums over an interval and over a box
module _ {B : Type 0} (join : B → B → B) where
  pub sum_to-cong : (d : ℕ) (f g : ℕ → B) → ((k : ℕ) → f k ≡ g k) → sum_to join d f ≡ sum_to join d g
  sum_to-cong zero f g e = e 0
  sum_to-cong (suc d) f g e = ap₂ join (e 0) (sum_to-cong d (λ k. f (suc k)) (λ k. g (suc k)) (λ k. e (suc k)))

  pub sum_box-cong : (ds : List ℕ) (f g : List ℕ → B) → ((ks : List ℕ) → f ks ≡ g ks) → sum_box join ds f ≡ sum_box join ds g
  sum_box-cong [] f g e = e []
  sum_box-cong (d ∷ ds) f g e = sum_to-cong d _ _ (λ k. sum_box-cong ds (λ ks. f (k ∷ ks)) (λ ks. g (k ∷ ks)) (λ ks. e (k ∷ ks)))

-- a map that keeps the sum
module _ {B C : Type 0} (join : B → B → B) (meet : C → C → C) (h : B → C) (keeps : (a b : B) → h (join a b) ≡ meet (h a) (h b)) where
  pub sum_to-map : (d : ℕ) (f : ℕ → B) → h (sum_to join d f) ≡ sum_to meet d (λ k. h (f k))
  sum_to-map zero f = refl
  sum_to-map (suc d) f = keeps (f 0) (sum_to join d (λ k. f (suc k))) ∙ ap (meet (h (f 0))) (sum_to-map d (λ k. f (suc k)))

  pub sum_box-map : (ds : List ℕ) (f : List ℕ → B) → h (sum_box join ds f) ≡ sum_box meet ds (λ ks. h (f ks))
  sum_box-map [] f = refl
  sum_box-map (d ∷ ds) f =
      sum_to-map d (λ k. sum_box join ds (λ ks. f (k ∷ ks))) ∙ sum_to-cong meet d _ _ (λ k. sum_box-map ds (λ ks. f (k ∷ ks)))

-- ---- a list of forms, by its places
module _ {A : Type 0} (P : Form A → Type 0) (z : Form A) (pz : P z) where
  pub All-get_d : (ps : List (Form A)) → All P ps → (k : ℕ) → P (get_or ps k z)
  All-get_d [] h k = pz
  All-get_d (p ∷ ps) h zero = h.0
  All-get_d (p ∷ ps) h (suc k) = All-get_d ps h.1 k

module _ {A : Type 0} (R : Ring A) where
  open R use {◌⊞◌, ◌·◌, nil, unit, add-nil, mul_assoc, mul-add}

  -- of 0 each coefficient is 0
  pub coef_at-zero : (ks : List ℕ) → coef_at R ks (zero_form R) ≡ nil
  coef_at-zero [] = refl
  coef_at-zero (zero ∷ ks) = coef_at-zero ks
  coef_at-zero (suc k ∷ ks) = coef_at-zero ks

  pub normal-coef_of : (n k : ℕ) (x : Form A) → Normal R (suc n) x → Normal R n (coef_of R k x)
  normal-coef_of n k x h = All-get_d (Normal R n) (zero_form R) tt (coefs R x) normal k
    where
      one_less : suc n - 1 ≡ n
      one_less = omega arith

      normal : All (Normal R n) (coefs R x)
      normal = subst (λ z. All (Normal R z) (coefs R x)) one_less (normal-coefs R (suc n) x h)

  pub bounded-coef_of : (k d : ℕ) (ds : List ℕ) (x : Form A) → Bounded (d ∷ ds) x → Bounded ds (coef_of R k x)
  bounded-coef_of k d ds x b = All-get_d (Bounded ds) (zero_form R) tt (coefs R x) (bounded-coefs R d ds x b) k

  -- with no variable left a normal form is its constant
  pub constant-is : (x : Form A) → Normal R 0 x → x ≡ int (constant R x)
  constant-is (int c) h = refl
  constant-is (pop i (int c)) h = absurd h.1
  constant-is (pop i (pop j p)) h = absurd h.1
  constant-is (pop i (pow j p q)) h = absurd (omega (arith, h.2.1))
  constant-is (pow i p q) h = absurd (omega (arith, h.1))

  -- ---- the value
  -- a list of coefficients, lowest first, at a: the powers of a times them
  horner-sum : (d : ℕ) (ps : List (Form A)) (N : List A) (a : A) → length ps ≤ suc d
      → horner R (vals R ps N) a ≡ sum_to ◌⊞◌ d (λ k. power R a k · val R (get_or ps k (zero_form R)) N)
  horner-sum zero [] N a h = sym (mul-nil R unit)
  horner-sum zero (p ∷ []) N a h = ap (◌⊞◌ (val R p N)) (mul-nil R a) ∙ add-nil (val R p N) ∙ sym (unit-mul R (val R p N))
  horner-sum zero (p ∷ q ∷ ps) N a h = absurd (omega arith)
  horner-sum (suc d) [] N a h =
      nil ≡⟨ sym (add-nil nil) ⟩
      nil ⊞ nil ≡⟨ ap₂ ◌⊞◌ (sym (mul-nil R unit)) (horner-sum d [] N a (omega arith)) ⟩
      unit · nil ⊞ sum_to ◌⊞◌ d (λ k. power R a k · nil) ≡⟨ ap (◌⊞◌ (unit · nil)) (sum_to-cong ◌⊞◌ d _ _ (λ k. nil-powers k (suc k))) ⟩
      unit · nil ⊞ sum_to ◌⊞◌ d (λ k. power R a (suc k) · nil) ∎
    where
      nil-powers : (i j : ℕ) → power R a i · nil ≡ power R a j · nil
      nil-powers i j = mul-nil R (power R a i) ∙ sym (mul-nil R (power R a j))
  horner-sum (suc d) (p ∷ ps) N a h =
      let P = val R p N in
      let f : ℕ → A = λ k. val R (get_or ps k (zero_form R)) N in
      P ⊞ a · horner R (vals R ps N) a ≡⟨ ap (λ z. P ⊞ a · z) (horner-sum d ps N a (omega arith)) ⟩
      P ⊞ a · sum_to ◌⊞◌ d (λ k. power R a k · f k) ≡⟨ ap (◌⊞◌ P) (sum_to-map ◌⊞◌ ◌⊞◌ (◌·◌ a) (mul-add a) d (λ k. power R a k · f k)) ⟩
      P ⊞ sum_to ◌⊞◌ d (λ k. a · (power R a k · f k)) ≡⟨ ap (◌⊞◌ P) (sum_to-cong ◌⊞◌ d _ _ (λ k. sym (mul_assoc a (power R a k) (f k)))) ⟩
      P ⊞ sum_to ◌⊞◌ d (λ k. power R a (suc k) · f k) ≡⟨ ap (λ z. z ⊞ sum_to ◌⊞◌ d (λ k. power R a (suc k) · f k)) (sym (unit-mul R P)) ⟩
      unit · P ⊞ sum_to ◌⊞◌ d (λ k. power R a (suc k) · f k) ∎

  -- a factor goes into a sum of products
  factor-in : (u : A) (ds : List ℕ) (f g : List ℕ → A) → u · sum_box ◌⊞◌ ds (λ ks. f ks · g ks) ≡ sum_box ◌⊞◌ ds (λ ks. u · f ks · g ks)
  factor-in u ds f g =
      u · sum_box ◌⊞◌ ds (λ ks. f ks · g ks) ≡⟨ sum_box-map ◌⊞◌ ◌⊞◌ (◌·◌ u) (mul-add u) ds (λ ks. f ks · g ks) ⟩
      sum_box ◌⊞◌ ds (λ ks. u · (f ks · g ks)) ≡⟨ sum_box-cong ◌⊞◌ ds _ _ (λ ks. sym (mul_assoc u (f ks) (g ks))) ⟩
      sum_box ◌⊞◌ ds (λ ks. u · f ks · g ks) ∎

  pub val-sum_box : (ds : List ℕ) (x : Form A) (N : List A) → Normal R (length ds) x → Bounded ds x
      → val R x N ≡ sum_box ◌⊞◌ ds (λ ks. monomial R ks N · coef_at R ks x)
  val-sum_box [] x N h b = ap (λ z. val R z N) (constant-is x h) ∙ sym (unit-mul R (constant R x))
  val-sum_box (d ∷ ds) x N h b =
      let n = length ds in
      let M = tl N in
      let u : ℕ → A = power R (hd R N) in
      let y : ℕ → Form A = λ k. coef_of R k x in
      val R x N ≡⟨ val-coefs R (suc n) x h N ⟩
      horner R (vals R (coefs R x) M) (hd R N) ≡⟨ horner-sum d (coefs R x) M (hd R N) (length-coefs R d ds x b) ⟩
      sum_to ◌⊞◌ d (λ k. u k · val R (y k) M)
      ≡⟨ sum_to-cong ◌⊞◌ d _ _ (λ k. ap (◌·◌ (u k)) (val-sum_box ds (y k) M (normal-coef_of n k x h) (bounded-coef_of k d ds x b))) ⟩
      sum_to ◌⊞◌ d (λ k. u k · sum_box ◌⊞◌ ds (λ ks. monomial R ks M · coef_at R ks (y k)))
      ≡⟨ sum_to-cong ◌⊞◌ d _ _ (λ k. factor-in (u k) ds (λ ks. monomial R ks M) (λ ks. coef_at R ks (y k))) ⟩
      sum_to ◌⊞◌ d (λ k. sum_box ◌⊞◌ ds (λ ks. u k · monomial R ks M · coef_at R ks (y k))) ∎

  -- ---- the measures that add up: each coefficient counts once
  module _ (ν : A → ℕ) (of_nil : ν nil ≡ 0) where
    abbrev total_meas : List (Form A) → ℕ
    total_meas [] = 0
    total_meas (p ∷ ps) = meas ν p + total_meas ps

    meas-shift : (i : ℕ) (ps : List (Form A)) → total_meas (shift R i ps) ≡ total_meas ps
    meas-shift zero ps = refl
    meas-shift (suc i) ps = omega (arith, meas-shift i ps, of_nil)

    meas-coefs : (n : ℕ) (x : Form A) → Normal R n x → total_meas (coefs R x) ≡ meas ν x
    meas-coefs n (int c) h = omega arith
    meas-coefs n (pop zero p) h = absurd (omega (arith, h.0))
    meas-coefs n (pop (suc i) p) h = omega (arith, meas-lower ν i p)
    meas-coefs n (pow zero p q) h = absurd (omega (arith, h.0))
    meas-coefs n (pow (suc i) p q) h = omega (arith, meas-shift i (coefs R p), meas-coefs n p h.2)

    sum_to-meas : (d : ℕ) (ps : List (Form A)) → length ps ≤ suc d → sum_to ◌+◌ d (λ k. meas ν (get_or ps k (zero_form R))) ≡ total_meas ps
    sum_to-meas zero [] h = of_nil
    sum_to-meas zero (p ∷ []) h = omega arith
    sum_to-meas zero (p ∷ q ∷ ps) h = absurd (omega arith)
    sum_to-meas (suc d) [] h = omega (arith, of_nil, sum_to-meas d [] (omega arith))
    sum_to-meas (suc d) (p ∷ ps) h = omega (arith, sum_to-meas d ps (omega arith))

    pub meas-sum_box : (ds : List ℕ) (x : Form A) → Normal R (length ds) x → Bounded ds x
        → meas ν x ≡ sum_box ◌+◌ ds (λ ks. ν (coef_at R ks x))
    meas-sum_box [] x h b = ap (meas ν) (constant-is x h)
    meas-sum_box (d ∷ ds) x h b =
        let n = length ds in
        let ps = coefs R x in
        meas ν x ≡⟨ sym (meas-coefs (suc n) x h) ⟩
        total_meas ps ≡⟨ sym (sum_to-meas d ps (length-coefs R d ds x b)) ⟩
        sum_to ◌+◌ d (λ k. meas ν (coef_of R k x))
        ≡⟨ sum_to-cong ◌+◌ d _ _ (λ k. meas-sum_box ds (coef_of R k x) (normal-coef_of n k x h) (bounded-coef_of k d ds x b)) ⟩
        sum_to ◌+◌ d (λ k. sum_box ◌+◌ ds (λ ks. ν (coef_at R ks (coef_of R k x)))) ∎

  -- "terms the number of coefficients that are not 0"
  pub count-sum_box : (ds : List ℕ) (x : Form A) → Normal R (length ds) x → Bounded ds x
      → count R x ≡ sum_box ◌+◌ ds (λ ks. one_if R (coef_at R ks x))
  count-sum_box = meas-sum_box (one_if R) (count-size R).of_nil

-- "weight is the sum of the absolute coefficients"
pub weight-sum_box : (ds : List ℕ) (x : Form ℤ) → Normal ℤ_ring (length ds) x → Bounded ds x
    → weight x ≡ sum_box ◌+◌ ds (λ ks. nat_abs (coef_at ℤ_ring ks x))
weight-sum_box = meas-sum_box ℤ_ring nat_abs refl
