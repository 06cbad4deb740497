-- The defining equations of the sum and the product, Definitions 9 and 11, of `sum` and `prod` themselves: any fuel that is no less than
-- the two sizes gives the same form.
use Rattle.std.specs.Prelude.{◌≡◌, refl, ℕ, zero, suc, ◌+◌, ◌-◌, ◌≤◌, ◌<◌}
use Rattle.std.proofs.Common.{sym, ◌∙◌, ap, ap₂, arith}
use Rattle.horner.specs.definitions.Form.{Cmp, same, more, less, cmp, case_cmp, Form, int, pop, pow, size, mkpop, lower, zero_form}
use Rattle.horner.specs.definitions.Form.{mkpow, add_int, sum_f, sum, scale, prod_f, prod}
use Rattle.horner.specs.definitions.Rings.{Ring}
use Rattle.horner.proofs.laws.Value.{size-pos, no_fuel, lower-fits, lower-fits', size-mkpop}

-- ---- what cmp computes
pub cmp-same : (i : ℕ) → cmp i i ≡ same
cmp-same zero = refl
cmp-same (suc i) = cmp-same i

pub cmp-more : (j d : ℕ) → cmp (suc (j + d)) j ≡ more d
cmp-more zero d = ap more (omega arith)
cmp-more (suc j) d = ap (λ z. cmp z j) (one_up j d) ∙ cmp-more j d
  where
    one_up : (j d : ℕ) → suc j + d ≡ suc (j + d)
    one_up j d = omega arith

pub cmp-less : (i d : ℕ) → cmp i (suc (i + d)) ≡ less d
cmp-less zero d = ap less (omega arith)
cmp-less (suc i) d = ap (λ z. cmp i z) (one_up i d) ∙ cmp-less i d
  where
    one_up : (j d : ℕ) → suc j + d ≡ suc (j + d)
    one_up j d = omega arith

case-cong : {B : Type 0} (c : Cmp) (e e' : Unit {0} → B) (m m' l l' : ℕ → B) → e tt ≡ e' tt → ((d : ℕ) → m d ≡ m' d)
    → ((d : ℕ) → l d ≡ l' d)
    → case_cmp c e m l ≡ case_cmp c e' m' l'
case-cong same e e' m m' l l' f g h = f
case-cong (more d) e e' m m' l l' f g h = g d
case-cong (less d) e e' m m' l l' f g h = h d

case_at : {B : Type 0} (c c' : Cmp) (e : Unit {0} → B) (m l : ℕ → B) → c ≡ c' → case_cmp c e m l ≡ case_cmp c' e m l
case_at c c' e m l h = ap (λ z. case_cmp z e m l) h

distance : (i j : ℕ) → j < i → suc (i - suc j) ≡ i - j
distance i j h = omega arith

cmp-gt : (i j : ℕ) → j < i → cmp i j ≡ more (i - suc j)
cmp-gt i j h = ap (λ z. cmp z j) whole ∙ cmp-more j (i - suc j)
  where
    whole : i ≡ suc (j + (i - suc j))
    whole = omega arith

cmp-lt : (i j : ℕ) → i < j → cmp i j ≡ less (j - suc i)
cmp-lt i j h = ap (λ z. cmp i z) whole ∙ cmp-less i (j - suc i)
  where
    whole : j ≡ suc (i + (j - suc i))
    whole = omega arith

module _ {A : Type 0} (R : Ring A) where
  open R use {add_comm, mul_comm}

  six-cong : (i j : ℕ) {a a' b b' c c' d d' : Form A} → a ≡ a' → b ≡ b' → c ≡ c' → d ≡ d'
      → sum R (sum R (mkpow R (i + j) a b) (mkpow R i c (zero_form R))) (mkpow R j d (zero_form R))
      ≡ sum R (sum R (mkpow R (i + j) a' b') (mkpow R i c' (zero_form R))) (mkpow R j d' (zero_form R))
  six-cong i j e f g h =
      λ t. sum R (sum R (mkpow R (i + j) (e t) (f t)) (mkpow R i (g t) (zero_form R))) (mkpow R j (h t) (zero_form R))

  sum_f-fuel : (k l : ℕ) (x y : Form A) → size x + size y ≤ k → size x + size y ≤ l → sum_f R k x y ≡ sum_f R l x y
  sum_f-fuel zero l x y h g = absurd (no_fuel R x y h)
  sum_f-fuel (suc k) zero x y h g = absurd (no_fuel R x y g)
  sum_f-fuel (suc k) (suc l) (int a) y h g = refl
  sum_f-fuel (suc k) (suc l) (pop i p) (int b) h g = refl
  sum_f-fuel (suc k) (suc l) (pop i p) (pop j q) h g =
      case-cong (cmp i j) _ _ _ _ _ _
      (ap (mkpop i) (sum_f-fuel k l p q (omega arith) (omega arith)))
      (λ d. ap (mkpop j) (sum_f-fuel k l (pop (suc d) p) q (omega arith) (omega arith)))
      (λ d. ap (mkpop i) (sum_f-fuel k l (pop (suc d) q) p (omega arith) (omega arith)))
  sum_f-fuel (suc k) (suc l) (pop zero p) (pow j q r) h g = sum_f-fuel k l p (pow j q r) (omega arith) (omega arith)
  sum_f-fuel (suc k) (suc l) (pop (suc i) p) (pow j q r) h g =
      ap (pow j q) (sum_f-fuel k l r (lower i p) (lower-fits R i p r k (omega arith)) (lower-fits R i p r l (omega arith)))
  sum_f-fuel (suc k) (suc l) (pow j q r) (int b) h g = refl
  sum_f-fuel (suc k) (suc l) (pow j q r) (pop zero p) h g = sum_f-fuel k l p (pow j q r) (omega arith) (omega arith)
  sum_f-fuel (suc k) (suc l) (pow j q r) (pop (suc i) p) h g =
      ap (pow j q) (sum_f-fuel k l r (lower i p) (lower-fits R i p r k (omega arith)) (lower-fits R i p r l (omega arith)))
  sum_f-fuel (suc k) (suc l) (pow i p q) (pow j r s) h g =
      case-cong (cmp i j) _ _ _ _ _ _
      (ap₂ (mkpow R i) (sum_f-fuel k l p r (omega arith) (omega arith)) (sum_f-fuel k l q s (omega arith) (omega arith)))
      (λ d. ap₂ (mkpow R j) (sum_f-fuel k l (pow (suc d) p (zero_form R)) r (omega (arith, size-pos q)) (omega (arith, size-pos q)))
      (sum_f-fuel k l q s (omega arith) (omega arith)))
      (λ d. ap₂ (mkpow R i) (sum_f-fuel k l (pow (suc d) r (zero_form R)) p (omega (arith, size-pos s)) (omega (arith, size-pos s)))
      (sum_f-fuel k l s q (omega arith) (omega arith)))

  -- `sum` is `sum_f` at any fuel that is enough
  pub sum_is : (k : ℕ) (x y : Form A) → size x + size y ≤ k → sum_f R k x y ≡ sum R x y
  sum_is k x y h = sum_f-fuel k (size x + size y) x y h (omega arith)

  -- ---- Definition 9
  pub sum-int : (a : A) (y : Form A) → sum R (int a) y ≡ add_int R a y
  sum-int a y = sym (sum_is (suc (size y)) (int a) y (omega arith))

  pub sum-pop-int : (i : ℕ) (p : Form A) (b : A) → sum R (pop i p) (int b) ≡ add_int R b (pop i p)
  sum-pop-int i p b = sym (sum_is (suc (suc (size p))) (pop i p) (int b) (omega arith))

  pub sum-pow-int : (i : ℕ) (p q : Form A) (b : A) → sum R (pow i p q) (int b) ≡ add_int R b (pow i p q)
  sum-pow-int i p q b = sym (sum_is (suc (suc (size p + size q))) (pow i p q) (int b) (omega arith))

  -- (2)
  pub sum-2 : (x : Form A) (b : A) → sum R x (int b) ≡ sum R (int b) x
  sum-2 (int a) b = ap int (add_comm a b)
  sum-2 (pop i p) b = sum-pop-int i p b ∙ sym (sum-int b (pop i p))
  sum-2 (pow i p q) b = sum-pow-int i p q b ∙ sym (sum-int b (pow i p q))

  pub sum-pop-pop : (i j : ℕ) (p q : Form A)
      → sum R (pop i p) (pop j q)
      ≡ case_cmp (cmp i j) (λ u. mkpop i (sum R p q)) (λ d. mkpop j (sum R (pop (suc d) p) q)) (λ d. mkpop i (sum R (pop (suc d) q) p))
  sum-pop-pop i j p q =
      let k : ℕ = suc (size p + size q) in
      sym (sum_is (suc k) (pop i p) (pop j q) (omega arith))
      ∙ case-cong (cmp i j) _ _ _ _ _ _
      (ap (mkpop i) (sum_is k p q (omega arith)))
      (λ d. ap (mkpop j) (sum_is k (pop (suc d) p) q (omega arith)))
      (λ d. ap (mkpop i) (sum_is k (pop (suc d) q) p (omega arith)))

  pub sum-pop-pow : (i j : ℕ) (p q r : Form A) → sum R (pop (suc i) p) (pow j q r) ≡ pow j q (sum R r (lower i p))
  sum-pop-pow i j p q r =
      let k : ℕ = suc (size p + size q + size r) in
      sym (sum_is (suc k) (pop (suc i) p) (pow j q r) (omega arith))
      ∙ ap (pow j q) (sum_is k r (lower i p) (lower-fits R i p r k (omega arith)))

  pub sum-pow-pop : (i j : ℕ) (p q r : Form A) → sum R (pow j q r) (pop (suc i) p) ≡ sum R (pop (suc i) p) (pow j q r)
  sum-pow-pop i j p q r =
      let k : ℕ = suc (size p + size q + size r) in
      sym (sum_is (suc k) (pow j q r) (pop (suc i) p) (omega arith)) ∙ sum_is (suc k) (pop (suc i) p) (pow j q r) (omega arith)

  pub sum-pow-pow : (i j : ℕ) (p q r s : Form A)
      → sum R (pow i p q) (pow j r s)
      ≡ case_cmp (cmp i j)
      (λ u. mkpow R i (sum R p r) (sum R q s))
      (λ d. mkpow R j (sum R (pow (suc d) p (zero_form R)) r) (sum R q s))
      (λ d. mkpow R i (sum R (pow (suc d) r (zero_form R)) p) (sum R s q))
  sum-pow-pow i j p q r s =
      let k : ℕ = suc (size p + size q + size r + size s) in
      sym (sum_is (suc k) (pow i p q) (pow j r s) (omega arith))
      ∙ case-cong (cmp i j) _ _ _ _ _ _
      (ap₂ (mkpow R i) (sum_is k p r (omega arith)) (sum_is k q s (omega arith)))
      (λ d. ap₂ (mkpow R j) (sum_is k (pow (suc d) p (zero_form R)) r (omega (arith, size-pos q))) (sum_is k q s (omega arith)))
      (λ d. ap₂ (mkpow R i) (sum_is k (pow (suc d) r (zero_form R)) p (omega (arith, size-pos s))) (sum_is k s q (omega arith)))

  -- the cases of (3), (4) and (6) as the paper states them, with differences
  pub sum-3a : (i : ℕ) (p q : Form A) → sum R (pop i p) (pop i q) ≡ mkpop i (sum R p q)
  sum-3a i p q = sum-pop-pop i i p q ∙ case_at (cmp i i) same _ _ _ (cmp-same i)

  pub sum-3b : (i j : ℕ) (p q : Form A) → j < i → sum R (pop i p) (pop j q) ≡ mkpop j (sum R (pop (i - j) p) q)
  sum-3b i j p q h =
      sum-pop-pop i j p q ∙ case_at (cmp i j) (more (i - suc j)) _ _ _ (cmp-gt i j h)
      ∙ ap (λ z. mkpop j (sum R (pop z p) q)) (distance i j h)

  pub sum-3c : (i j : ℕ) (p q : Form A) → i < j → sum R (pop i p) (pop j q) ≡ mkpop i (sum R (pop (j - i) q) p)
  sum-3c i j p q h =
      sum-pop-pop i j p q ∙ case_at (cmp i j) (less (j - suc i)) _ _ _ (cmp-lt i j h)
      ∙ ap (λ z. mkpop i (sum R (pop z q) p)) (distance j i h)

  pub sum-6a : (i : ℕ) (p q r s : Form A) → sum R (pow i p q) (pow i r s) ≡ mkpow R i (sum R p r) (sum R q s)
  sum-6a i p q r s = sum-pow-pow i i p q r s ∙ case_at (cmp i i) same _ _ _ (cmp-same i)

  pub sum-6b : (i j : ℕ) (p q r s : Form A) → j < i
      → sum R (pow i p q) (pow j r s) ≡ mkpow R j (sum R (pow (i - j) p (zero_form R)) r) (sum R q s)
  sum-6b i j p q r s h =
      sum-pow-pow i j p q r s ∙ case_at (cmp i j) (more (i - suc j)) _ _ _ (cmp-gt i j h)
      ∙ ap (λ z. mkpow R j (sum R (pow z p (zero_form R)) r) (sum R q s)) (distance i j h)

  pub sum-6c : (i j : ℕ) (p q r s : Form A) → i < j
      → sum R (pow i p q) (pow j r s) ≡ mkpow R i (sum R (pow (j - i) r (zero_form R)) p) (sum R s q)
  sum-6c i j p q r s h =
      sum-pow-pow i j p q r s ∙ case_at (cmp i j) (less (j - suc i)) _ _ _ (cmp-lt i j h)
      ∙ ap (λ z. mkpow R i (sum R (pow z r (zero_form R)) p) (sum R s q)) (distance j i h)

  -- ---- the product
  prod_f-fuel : (k l : ℕ) (x y : Form A) → size x + size y ≤ k → size x + size y ≤ l → prod_f R k x y ≡ prod_f R l x y
  prod_f-fuel zero l x y h g = absurd (no_fuel R x y h)
  prod_f-fuel (suc k) zero x y h g = absurd (no_fuel R x y g)
  prod_f-fuel (suc k) (suc l) (int a) y h g = refl
  prod_f-fuel (suc k) (suc l) (pop i p) (int b) h g = refl
  prod_f-fuel (suc k) (suc l) (pop i p) (pop j q) h g =
      case-cong (cmp i j) _ _ _ _ _ _
      (ap (mkpop i) (prod_f-fuel k l p q (omega arith) (omega arith)))
      (λ d. ap (mkpop j) (prod_f-fuel k l (pop (suc d) p) q (omega arith) (omega arith)))
      (λ d. ap (mkpop i) (prod_f-fuel k l (pop (suc d) q) p (omega arith) (omega arith)))
  prod_f-fuel (suc k) (suc l) (pop zero p) (pow j q r) h g = prod_f-fuel k l p (pow j q r) (omega arith) (omega arith)
  prod_f-fuel (suc k) (suc l) (pop (suc i) p) (pow j q r) h g =
      ap₂ (mkpow R j) (prod_f-fuel k l (pop (suc i) p) q (omega arith) (omega arith))
      (prod_f-fuel k l (lower i p) r (lower-fits' R i p r k (omega arith)) (lower-fits' R i p r l (omega arith)))
  prod_f-fuel (suc k) (suc l) (pow j q r) (int b) h g = refl
  prod_f-fuel (suc k) (suc l) (pow j q r) (pop zero p) h g = prod_f-fuel k l p (pow j q r) (omega arith) (omega arith)
  prod_f-fuel (suc k) (suc l) (pow j q r) (pop (suc i) p) h g =
      ap₂ (mkpow R j) (prod_f-fuel k l (pop (suc i) p) q (omega arith) (omega arith))
      (prod_f-fuel k l (lower i p) r (lower-fits' R i p r k (omega arith)) (lower-fits' R i p r l (omega arith)))
  prod_f-fuel (suc k) (suc l) (pow i p q) (pow j r s) h g =
      six-cong i j (prod_f-fuel k l p r (omega arith) (omega arith)) (prod_f-fuel k l q s (omega arith) (omega arith))
      (prod_f-fuel k l p (mkpop 1 s) (omega (arith, size-mkpop R s)) (omega (arith, size-mkpop R s)))
      (prod_f-fuel k l r (mkpop 1 q) (omega (arith, size-mkpop R q)) (omega (arith, size-mkpop R q)))

  pub prod-is : (k : ℕ) (x y : Form A) → size x + size y ≤ k → prod_f R k x y ≡ prod R x y
  prod-is k x y h = prod_f-fuel k (size x + size y) x y h (omega arith)

  -- ---- Definition 11
  pub prod-int : (a : A) (y : Form A) → prod R (int a) y ≡ scale R a y
  prod-int a y = sym (prod-is (suc (size y)) (int a) y (omega arith))

  pub prod-pop-int : (i : ℕ) (p : Form A) (b : A) → prod R (pop i p) (int b) ≡ scale R b (pop i p)
  prod-pop-int i p b = sym (prod-is (suc (suc (size p))) (pop i p) (int b) (omega arith))

  pub prod-pow-int : (i : ℕ) (p q : Form A) (b : A) → prod R (pow i p q) (int b) ≡ scale R b (pow i p q)
  prod-pow-int i p q b = sym (prod-is (suc (suc (size p + size q))) (pow i p q) (int b) (omega arith))

  -- (2)
  pub prod-2 : (x : Form A) (b : A) → prod R x (int b) ≡ prod R (int b) x
  prod-2 (int a) b = ap int (mul_comm a b)
  prod-2 (pop i p) b = prod-pop-int i p b ∙ sym (prod-int b (pop i p))
  prod-2 (pow i p q) b = prod-pow-int i p q b ∙ sym (prod-int b (pow i p q))

  pub prod-pop-pop : (i j : ℕ) (p q : Form A)
      → prod R (pop i p) (pop j q)
      ≡ case_cmp (cmp i j) (λ u. mkpop i (prod R p q)) (λ d. mkpop j (prod R (pop (suc d) p) q)) (λ d. mkpop i (prod R (pop (suc d) q) p))
  prod-pop-pop i j p q =
      let k : ℕ = suc (size p + size q) in
      sym (prod-is (suc k) (pop i p) (pop j q) (omega arith))
      ∙ case-cong (cmp i j) _ _ _ _ _ _
      (ap (mkpop i) (prod-is k p q (omega arith)))
      (λ d. ap (mkpop j) (prod-is k (pop (suc d) p) q (omega arith)))
      (λ d. ap (mkpop i) (prod-is k (pop (suc d) q) p (omega arith)))

  pub prod-pop-pow : (i j : ℕ) (p q r : Form A)
      → prod R (pop (suc i) p) (pow j q r) ≡ mkpow R j (prod R (pop (suc i) p) q) (prod R (lower i p) r)
  prod-pop-pow i j p q r =
      let k : ℕ = suc (size p + size q + size r) in
      sym (prod-is (suc k) (pop (suc i) p) (pow j q r) (omega arith))
      ∙ ap₂ (mkpow R j) (prod-is k (pop (suc i) p) q (omega (arith, size-pos r)))
      (prod-is k (lower i p) r (lower-fits' R i p r k (omega arith)))

  pub prod-pow-pop : (i j : ℕ) (p q r : Form A) → prod R (pow j q r) (pop (suc i) p) ≡ prod R (pop (suc i) p) (pow j q r)
  prod-pow-pop i j p q r =
      let k : ℕ = suc (size p + size q + size r) in
      sym (prod-is (suc k) (pow j q r) (pop (suc i) p) (omega arith)) ∙ prod-is (suc k) (pop (suc i) p) (pow j q r) (omega arith)

  pub prod-pow-pow : (i j : ℕ) (p q r s : Form A)
      → prod R (pow i p q) (pow j r s)
      ≡ sum R (sum R (mkpow R (i + j) (prod R p r) (prod R q s)) (mkpow R i (prod R p (mkpop 1 s)) (zero_form R)))
      (mkpow R j (prod R r (mkpop 1 q)) (zero_form R))
  prod-pow-pow i j p q r s =
      let k : ℕ = suc (size p + size q + size r + size s) in
      sym (prod-is (suc k) (pow i p q) (pow j r s) (omega arith))
      ∙ six-cong i j (prod-is k p r (omega arith)) (prod-is k q s (omega arith))
      (prod-is k p (mkpop 1 s) (omega (arith, size-mkpop R s))) (prod-is k r (mkpop 1 q) (omega (arith, size-mkpop R q)))

  pub prod-3a : (i : ℕ) (p q : Form A) → prod R (pop i p) (pop i q) ≡ mkpop i (prod R p q)
  prod-3a i p q = prod-pop-pop i i p q ∙ case_at (cmp i i) same _ _ _ (cmp-same i)

  pub prod-3b : (i j : ℕ) (p q : Form A) → j < i → prod R (pop i p) (pop j q) ≡ mkpop j (prod R (pop (i - j) p) q)
  prod-3b i j p q h =
      prod-pop-pop i j p q ∙ case_at (cmp i j) (more (i - suc j)) _ _ _ (cmp-gt i j h)
      ∙ ap (λ z. mkpop j (prod R (pop z p) q)) (distance i j h)

  pub prod-3c : (i j : ℕ) (p q : Form A) → i < j → prod R (pop i p) (pop j q) ≡ mkpop i (prod R (pop (j - i) q) p)
  prod-3c i j p q h =
      prod-pop-pop i j p q ∙ case_at (cmp i j) (less (j - suc i)) _ _ _ (cmp-lt i j h)
      ∙ ap (λ z. mkpop i (prod R (pop z q) p)) (distance j i h)
