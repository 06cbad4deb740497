-- Document 01's measures: weight, degree in each variable, terms; of terms by the table, of forms as the polynomial's own, by its
-- coefficients and not by how it is written.
use Rattle.std.specs.Prelude.{cond, Bool, ◌&&◌, List, [], ◌∷◌, map, ℕ, zero, suc, ◌+◌, ◌-◌, ◌≤◌, ◌*◌, ◌^◌, max, min, ◌%◌, eqb, ℤ, nat_abs, get_or}
use Rattle.horner.specs.definitions.Form.{Form, int, pop, pow, lower, zero_form, tl, hd}
use Rattle.horner.specs.definitions.Rings.{Ring, power}
use Rattle.horner.specs.definitions.Term.{Term, num, var, minus, plus, diff, times, expt}

-- ---- lists of degrees, one for each variable of the row
abbrev pub zeros : ℕ → List ℕ → List ℕ
zeros zero ds = ds
zeros (suc i) ds = 0 ∷ zeros i ds

abbrev pub first_or0 : List ℕ → ℕ
first_or0 [] = 0
first_or0 (d ∷ ds) = d

-- "larger"
abbrev pub maxs : List ℕ → List ℕ → List ℕ
maxs [] es = []
maxs (d ∷ ds) [] = d ∷ ds
maxs (d ∷ ds) (e ∷ es) = max d e ∷ maxs ds es

-- "sum"
abbrev pub sums : List ℕ → List ℕ → List ℕ
sums ds [] = ds
sums ds (e ∷ es) = (first_or0 ds + e) ∷ sums (tl ds) es

-- "n times"
abbrev pub multiples : ℕ → List ℕ → List ℕ
multiples k ds = map (λ d. k * d) ds

-- "the box is the product, over the row, of degree plus 1"
abbrev pub box : List ℕ → ℕ
box [] = 1
box (d ∷ ds) = suc d * box ds

-- each degree is at most K
abbrev pub AllLe : ℕ → List ℕ → Type 0
AllLe K [] = Unit {0}
AllLe K (d ∷ ds) = (d ≤ K) × AllLe K ds

-- ---- of a term, by document 01's table
abbrev pub weight_of : Term → ℕ
weight_of (num z) = nat_abs z
weight_of (var i) = 1
weight_of (minus s) = weight_of s
weight_of (plus s t) = weight_of s + weight_of t
weight_of (diff s t) = weight_of s + weight_of t
weight_of (times s t) = weight_of s * weight_of t
weight_of (expt s k) = weight_of s ^ k

-- in a row of n
abbrev pub degrees_of : ℕ → Term → List ℕ
degrees_of n (num z) = zeros n []
degrees_of n (var i) = zeros i (1 ∷ zeros (n - suc i) [])
degrees_of n (minus s) = degrees_of n s
degrees_of n (plus s t) = maxs (degrees_of n s) (degrees_of n t)
degrees_of n (diff s t) = maxs (degrees_of n s) (degrees_of n t)
degrees_of n (times s t) = sums (degrees_of n s) (degrees_of n t)
degrees_of n (expt s k) = multiples k (degrees_of n s)

abbrev pub box_of : ℕ → Term → ℕ
box_of n t = box (degrees_of n t)

-- "After each row of the table, terms is cut down to the box if that is less" (an integer, a letter and (- x) are within it already)
abbrev pub terms_of : ℕ → Term → ℕ
terms_of n (num z) = 1
terms_of n (var i) = 1
terms_of n (minus s) = terms_of n s
terms_of n (plus s t) = min (terms_of n s + terms_of n t) (box_of n (plus s t))
terms_of n (diff s t) = min (terms_of n s + terms_of n t) (box_of n (diff s t))
terms_of n (times s t) = min (terms_of n s * terms_of n t) (box_of n (times s t))
terms_of n (expt s k) = min (terms_of n s ^ k) (box_of n (expt s k))

-- ---- of a form: "those of the polynomial itself"
-- a size of coefficients, summed over the leaves (laws/Coefficients: over all coefficients of the polynomial)
module _ {A : Type 0} (ν : A → ℕ) where
  abbrev pub meas : Form A → ℕ
  meas (int c) = ν c
  meas (pop i p) = meas p
  meas (pow i p q) = meas p + meas q

-- "weight is the sum of the absolute coefficients"
abbrev pub weight : Form ℤ → ℕ
weight x = meas nat_abs x

module _ {A : Type 0} (R : Ring A) where
  open R use {is_nil}

  abbrev pub one_if : A → ℕ
  one_if c = cond (is_nil c) 0 1

  -- the number of coefficients that are not 0
  abbrev pub count : Form A → ℕ
  count x = meas one_if x

  -- "terms the number of coefficients that are not 0 (1 for the zero polynomial)"
  abbrev pub terms : Form A → ℕ
  terms x = max 1 (count x)

module _ {A : Type 0} where
  -- "degree the highest power": in each of n variables
  abbrev pub degrees : ℕ → Form A → List ℕ
  degrees n (int c) = zeros n []
  degrees n (pop i p) = zeros i (degrees (n - i) p)
  degrees n (pow i p q) = (i + first_or0 (degrees n p)) ∷ maxs (tl (degrees n p)) (degrees (n - 1) q)

  -- how many parentheses open at once
  abbrev pub nest : Form A → ℕ
  nest (int c) = 0
  nest (pop i p) = suc (nest p)
  nest (pow i p q) = suc (max (nest p) (nest q))

-- ---- the coefficients of the polynomial that a normal form stands for
module _ {A : Type 0} (R : Ring A) where
  open R use {nil}

  -- ---- in the first variable alone, lowest power first: forms in the other variables
  abbrev pub shift : ℕ → List (Form A) → List (Form A)
  shift zero ps = ps
  shift (suc i) ps = zero_form R ∷ shift i ps

  abbrev pub coefs : Form A → List (Form A)
  coefs (int c) = int c ∷ []
  coefs (pop zero p) = []
  coefs (pop (suc i) p) = lower i p ∷ []
  coefs (pow zero p q) = []
  coefs (pow (suc i) p q) = q ∷ shift i (coefs p)

  -- the coefficient of the first variable's k-th power; laws/Grid, val-coefs: the value is the sum of their values times these powers
  abbrev pub coef_of : ℕ → Form A → Form A
  coef_of k x = get_or (coefs x) k (zero_form R)

  -- the number that is left where no variable is
  abbrev pub constant : Form A → A
  constant (int c) = c
  constant (pop i p) = nil
  constant (pow i p q) = nil

  -- the coefficient of v_0^k_0 v_1^k_1 ..
  abbrev pub coef_at : List ℕ → Form A → A
  coef_at [] x = constant x
  coef_at (k ∷ ks) x = coef_at ks (coef_of k x)

-- f added up over 0 .. d, and over all lists of exponents within the bounds ds
module _ {B : Type 0} (join : B → B → B) where
  abbrev pub sum_to : ℕ → (ℕ → B) → B
  sum_to zero f = f 0
  sum_to (suc d) f = join (f 0) (sum_to d (λ k. f (suc k)))

  abbrev pub sum_box : List ℕ → (List ℕ → B) → B
  sum_box [] f = f []
  sum_box (d ∷ ds) f = sum_to d (λ k. sum_box ds (λ ks. f (k ∷ ks)))

-- v_0^k_0 v_1^k_1 .. at a point
module _ {A : Type 0} (R : Ring A) where
  open R use {◌·◌, unit}

  abbrev pub monomial : List ℕ → List A → A
  monomial [] N = unit
  monomial (k ∷ ks) N = power R (hd R N) k · monomial ks (tl N)

-- each coefficient of the form is a multiple of m
abbrev pub multiples_of : ℕ → Form ℤ → Bool
multiples_of m (int z) = eqb (nat_abs z % m) 0
multiples_of m (pop i p) = multiples_of m p
multiples_of m (pow i p q) = multiples_of m p && multiples_of m q
