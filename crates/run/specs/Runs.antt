-- Runs of monomials over a ring: a monomial is its exponents, one for each variable of the row, and its coefficient. A sorted run lists
-- them from the highest exponents to the lowest, first variable first, with no coefficient 0.
use Rattle.std.specs.Prelude.{cond, List, [], ◌∷◌, map, ◌++◌, ◌≡◌, ℕ, zero, suc, ◌+◌, ◌-◌, length}
use Rattle.horner.specs.definitions.Measures.{monomial}
use Rattle.horner.specs.definitions.Form.{Form, int, pop, pow, mkpop, mkpow, zero_form, sum}
use Rattle.horner.specs.definitions.Measures.{zeros, sums}
use Rattle.horner.specs.definitions.Rings.{Ring}
use Rattle.run.specs.Merging.{is_level, cmp_l, rekey, Each, Falls, Solid, push, merge}

-- exponents and coefficient, monomial by monomial
abbrev pub Run : Type 0 → Type 0
Run A = List (List ℕ × A)

-- a key of n exponents
abbrev pub Long : ℕ → List ℕ → Type 0
Long n ks = length ks ≡ n

-- times the i-th power of the first variable
abbrev pub raise_key : ℕ → List ℕ → List ℕ
raise_key i [] = []
raise_key i (k ∷ ks) = (i + k) ∷ ks

module _ {A : Type 0} (R : Ring A) where
  open R use {◌⊞◌, neg, ◌·◌, nil, unit, is_nil}

  -- in a row of n variables
  pub record Sorted (n : ℕ) (r : Run A) : Type 0 where
    pub long : Each (Long n) r
    pub falls : Falls cmp_l r
    pub solid : Solid is_nil r

  -- ---- what a run means: the sum of what its monomials mean
  abbrev pub total : {K : Type 0} → (K → A → A) → List (K × A) → A
  total f [] = nil
  total f (m ∷ r) = f m.0 m.1 ⊞ total f r

  -- the coefficient of v_0^k_0 v_1^k_1 ..
  abbrev pub coef_r : List ℕ → Run A → A
  coef_r ks r = total (λ es c. cond (is_level (cmp_l es ks)) c nil) r

  -- the value at a point
  abbrev pub val_r : Run A → List A → A
  val_r r N = total (λ ks c. monomial R ks N · c) r

  -- ---- a run's form: the sum of its monomials
  -- times the k-th power of the first variable, a form in the variables from the second on
  abbrev pub powered : ℕ → Form A → Form A
  powered zero p = mkpop 1 p
  powered (suc k) p = mkpow R (suc k) (mkpop 1 p) (zero_form R)

  -- the form of one monomial
  abbrev pub single : List ℕ → A → Form A
  single [] c = int c
  single (k ∷ ks) c = powered k (single ks c)

  -- the form of a run
  abbrev pub to_form : Run A → Form A
  to_form [] = zero_form R
  to_form (m ∷ r) = sum R (single m.0 m.1) (to_form r)

  -- ---- a form's run, in a row of n
  abbrev pub to_run : ℕ → Form A → Run A
  to_run n (int c) = push is_nil (zeros n []) c []
  to_run n (pop i p) = rekey (zeros i) (to_run (n - i) p)
  to_run n (pow i p q) = rekey (raise_key i) (to_run n p) ++ rekey (zeros 1) (to_run (n - 1) q)

  -- ---- the operations
  -- the sum of two runs
  abbrev pub sum_r : Run A → Run A → Run A
  sum_r r s = merge is_nil cmp_l ◌⊞◌ r s

  -- a monomial times a run
  abbrev pub times_r : List ℕ → A → Run A → Run A
  times_r ks c s = map (λ u. (sums ks u.0, c · u.1)) s

  -- the negative of a run
  abbrev pub negate_r : Run A → Run A
  negate_r s = map (λ u. (u.0, neg u.1)) s

  -- z and the product of r and s
  abbrev pub prod_into : Run A → Run A → Run A → Run A
  prod_into z [] s = z
  prod_into z (m ∷ r) s = prod_into (sum_r z (times_r m.0 m.1 s)) r s

  -- the product of two runs
  abbrev pub prod_r : Run A → Run A → Run A
  prod_r r s = prod_into [] r s
