-- What is proved of sparse Horner forms, in reading order: each statement under its words, in full, and proved by the one name that
-- carries it in laws/. Lemmas and the theorem have the numbers of document 000. (Clauses.antt: its Definitions 9 and 11 as printed.)
use Rattle.std.specs.Prelude.{false, List, ◌∷◌, ◌⊎◌, ◌↔◌, ◌≡◌, ℕ, ◌+◌, ◌-◌, ◌*◌, ◌^◌, ◌≤◌, ◌<◌, T, ℤ, nat_abs, length}
use Rattle.horner.specs.definitions.Measures.{coef_at, maxs, sums, multiples, box, AllLe, weight_of, degrees_of, terms_of, weight}
use Rattle.horner.specs.definitions.Measures.{one_if, count, terms, degrees, nest, sum_box, monomial}
use Rattle.horner.specs.definitions.Form.{Form, pop, pow, size, is_zero, mkpop, mkpow, sum, negate, prod, raise, Normal, evalh, nats}
use Rattle.horner.specs.definitions.Rings.{ℤ_ring, Res, red_ℤ, prime, prime-pos, p_ring, Ring, power}
use Rattle.horner.specs.laws.Within.{Within, Over}
use Rattle.horner.specs.laws.Degree.{Bounded}
use Rattle.horner.specs.definitions.Points.{InBox, Before, leaves, IsPoint, point_of}
use Rattle.horner.specs.laws.Residues.{lift}
use Rattle.horner.specs.definitions.Term.{Term, evalp, norm, norm_ℤ, eval_ℤ, norm_p}
use Rattle.horner.proofs.laws.Answer.{same-iff, gap-zero, degrees-norm_p, point-is}
use Rattle.horner.specs.laws.Answer.{gap}
use Rattle.horner.proofs.laws.Cancel.{cancel}
use Rattle.horner.proofs.laws.Canonical.{canon-ℤ}
use Rattle.horner.proofs.laws.Carry.{carry-sum, carry-negate, carry-prod, carry-raise, lift-carry}
use Rattle.horner.specs.laws.Carry.{carry}
use Rattle.horner.proofs.laws.Coefficients.{val-sum_box, weight-sum_box, count-sum_box}
use Rattle.horner.proofs.laws.Decide.{equal-ℤ, equal-res, is_normal-is, eq_form, is_normal}
use Rattle.horner.specs.laws.Decide.{eq_ℤ, eq_res}
use Rattle.horner.proofs.laws.Evalh.{evalh-val, evalh-mkpop, evalh-mkpow, evalh-sum, evalh-negate, evalh-prod, evalh-raise}
use Rattle.horner.specs.laws.First.{first_point}
use Rattle.horner.proofs.laws.First.{first-is, IsFirst}
use Rattle.horner.proofs.laws.Grid.{grid}
use Rattle.horner.proofs.laws.Highest.{in_bounds, Reaches, reaches}
use Rattle.horner.specs.laws.Hom.{map_form}
use Rattle.horner.proofs.laws.Lifting.{residue, exact}
use Rattle.horner.proofs.laws.Normal.{normal-mkpop, normal-mkpow, normal-sum, normal-negate, normal-prod, normal-raise}
use Rattle.horner.proofs.laws.Points.{point-unique, point-before}
use Rattle.horner.proofs.laws.Roots.{Regular}
use Rattle.horner.proofs.laws.Room.{size-pows, pows-count, pows-box, words-3073, nest-255}
use Rattle.horner.specs.laws.Room.{pows}
use Rattle.horner.proofs.laws.Words.{norm-words}
use Rattle.horner.proofs.laws.Table.{sum_fits, prod-fits, negate-fits, raise-fits, norm-fits}
use Rattle.horner.specs.laws.Table.{Fits}
use Rattle.horner.proofs.laws.Term.{evalh-norm, normal-norm, theorem-1, only-form}
use Rattle.horner.proofs.laws.Value.{Zero, val}

module _ {A : Type 0} (R : Ring A) where
  open R use {◌⊞◌, ◌·◌, neg, unit, is_nil}

  infixl 65 ◌⊕◌
  infixl 70 ◌⊗◌
  -- document 000's signs for the sum and the product of forms
  abbrev ◌⊕◌ : Form A → Form A → Form A
  ◌⊕◌ = sum R

  abbrev ◌⊗◌ : Form A → Form A → Form A
  ◌⊗◌ = prod R

  -- ==== Values: Lemmas 1 to 7
  -- pop(i, p) has the value of (POP i p)
  pub lemma-1 : (i : ℕ) (p : Form A) (N : List A) → evalh R (mkpop i p) N ≡ evalh R (pop i p) N
  lemma-1 = evalh-mkpop R

  -- pow(i, p, q) has the value of (POW i p q)
  pub lemma-2 : (n i : ℕ) (p q : Form A) (a : A) (N : List A) → 1 ≤ i → 1 ≤ n → n ≤ length (a ∷ N) → Normal R n p → Normal R (n - 1) q
      → evalh R (mkpow R i p q) (a ∷ N) ≡ evalh R (pow i p q) (a ∷ N)
  lemma-2 = evalh-mkpow R

  -- the value of a sum is the sum of the values, at every point at least as long as the row
  pub lemma-3 : (n : ℕ) (N : List A) → n ≤ length N → (x y : Form A) → Normal R n x → Normal R n y
      → evalh R (x ⊕ y) N ≡ evalh R x N ⊞ evalh R y N
  lemma-3 = evalh-sum R

  -- the value of a negation is the negation of the value
  pub lemma-4 : (n : ℕ) (N : List A) → n ≤ length N → (x : Form A) → Normal R n x → evalh R (negate R x) N ≡ neg (evalh R x N)
  lemma-4 = evalh-negate R

  -- the value of a product is the product of the values
  pub lemma-5 : (n : ℕ) (N : List A) → n ≤ length N → (x y : Form A) → Normal R n x → Normal R n y
      → evalh R (x ⊗ y) N ≡ evalh R x N · evalh R y N
  lemma-5 = evalh-prod R

  -- the value of a power is the power of the value
  pub lemma-6 : (n : ℕ) (N : List A) → n ≤ length N → (x : Form A) (k : ℕ) → Normal R n x
      → evalh R (raise R x k) N ≡ power R (evalh R x N) k
  lemma-6 = evalh-raise R

  -- the normal form of a term has the term's value
  pub lemma-7 : (ι : ℤ → A) → is_nil unit ≡ false → (n : ℕ) (t : Term) (N : List A) → Over n t → n ≤ length N
      → evalh R (norm R ι t) N ≡ evalp R ι t N
  lemma-7 = evalh-norm R

  -- at such points Definition 5's value is `val`, which reads a missing coordinate as 0 and which the laws below speak of
  pub value-is : (n : ℕ) (x : Form A) (N : List A) → Normal R n x → n ≤ length N → evalh R x N ≡ val R x N
  value-is = evalh-val R

  -- ==== Normality: the other halves of Lemmas 1 to 7
  -- what the operations make of normal forms is normal, and so is the form of a term
  pub lemma-1-normal : (n i : ℕ) (p : Form A) → Normal R (n - i) p → Normal R n (mkpop i p)
  lemma-1-normal = normal-mkpop R

  pub lemma-2-normal : (n i : ℕ) (p q : Form A) → 1 ≤ i → 1 ≤ n → Normal R n p → Normal R (n - 1) q → Normal R n (mkpow R i p q)
  lemma-2-normal = normal-mkpow R

  pub lemma-3-normal : (n : ℕ) (x y : Form A) → Normal R n x → Normal R n y → Normal R n (x ⊕ y)
  lemma-3-normal = normal-sum R

  pub lemma-4-normal : (n : ℕ) (x : Form A) → Normal R n x → Normal R n (negate R x)
  lemma-4-normal = normal-negate R

  pub lemma-5-normal : (n : ℕ) (x y : Form A) → Normal R n x → Normal R n y → Normal R n (x ⊗ y)
  lemma-5-normal = normal-prod R

  pub lemma-6-normal : (n : ℕ) (x : Form A) (k : ℕ) → Normal R n x → Normal R n (raise R x k)
  lemma-6-normal = normal-raise R

  pub lemma-7-normal : (ι : ℤ → A) → is_nil unit ≡ false → (n : ℕ) (t : Term) → Over n t → Normal R n (norm R ι t)
  lemma-7-normal = normal-norm R

  -- normality is decided by a test
  pub normality-decided : (n : ℕ) (x : Form A) → T (is_normal R n x) ↔ Normal R n x
  normality-decided = is_normal-is R

  -- ==== Canonicity: Lemma 9 and Theorem 1
  -- normal forms whose sum is 0 are one another's negations
  pub lemma-9 : (n : ℕ) (x y : Form A) → Normal R n x → Normal R n y → Zero R (x ⊕ y) → x ≡ negate R y
  lemma-9 = cancel R

-- over the integers, normal forms with one value at every point of natural numbers are one form
pub canonical : (n : ℕ) (x y : Form ℤ) → Normal ℤ_ring n x → Normal ℤ_ring n y
    → ((N : List ℕ) → length N ≡ n → val ℤ_ring x (nats ℤ_ring N) ≡ val ℤ_ring y (nats ℤ_ring N)) → x ≡ y
canonical = canon-ℤ

-- two terms have one normal form exactly when they have one value at every point
pub theorem-one : (n : ℕ) (f g : Term) → Over n f → Over n g
    → (norm_ℤ f ≡ norm_ℤ g) ↔ ((N : List ℤ) → length N ≡ n → eval_ℤ f N ≡ eval_ℤ g N)
theorem-one = theorem-1

-- of all normal forms only the term's own has its values, be it at the points of natural numbers alone
pub one-normal-form : (n : ℕ) (t : Term) → Over n t → (x : Form ℤ) → Normal ℤ_ring n x
    → ((N : List ℕ) → length N ≡ n → evalh ℤ_ring x (nats ℤ_ring N) ≡ eval_ℤ t (nats ℤ_ring N)) → x ≡ norm_ℤ t
one-normal-form = only-form

-- equality of forms is decided by a test, over the integers and over the remainders by m
pub equality-decided : (x y : Form ℤ) → T (eq_form eq_ℤ x y) ↔ (x ≡ y)
equality-decided = equal-ℤ

pub equality-decided-by : (m : ℕ) → 0 < m → (x y : Form (Res m)) → T (eq_form (eq_res m) x y) ↔ (x ≡ y)
equality-decided-by = equal-res

-- ==== The grid and the first point, over a ring in which the numbers 1 to K divide no zero
module _ {A : Type 0} (R : Ring A) where
  open R use {nil}

  -- a normal form that vanishes at every point of the box of its degrees is 0 (more than Lemma 8)
  pub vanishing : (K : ℕ) → Regular R K → (ds : List ℕ) → AllLe K ds → (x : Form A) → Normal R (length ds) x → Bounded ds x
      → ((N : List ℕ) → InBox ds N → val R x (nats R N) ≡ nil) → Zero R x
  vanishing = grid R

  -- of a form that is not 0, `first_point` is the first point in the row's order at which its value is not 0, and lies within the degrees
  pub first-point : (K : ℕ) → Regular R K → (ds : List ℕ) → AllLe K ds → (x : Form A) → Normal R (length ds) x → Bounded ds x
      → is_zero R x ≡ false → IsFirst R ds x (first_point R ds x)
  first-point = first-is R

-- two terms that differ: the search through the box finds demand 3's point
pub point-of-demand : (n : ℕ) (f g : Term) → Within n f → Within n g → is_zero p_ring (gap f g) ≡ false
    → IsPoint prime n f g (point_of prime n f g)
point-of-demand = point-is

-- the degrees of a form over the remainders are those of the form over the integers
pub point-bounds : (n : ℕ) (t : Term) → Within n t → degrees n (norm_p t) ≡ degrees n (norm_ℤ t)
point-bounds = degrees-norm_p

-- by every modulus: there is no other such point
pub point-only : (m n : ℕ) (f g : Term) (M N : List ℕ) → IsPoint m n f g M → IsPoint m n f g N → M ≡ N
point-only = point-unique

-- and it comes before every other one at which the remainders differ
pub point-first : (m n : ℕ) (f g : Term) (N : List ℕ) → IsPoint m n f g N
    → (M : List ℕ) → length M ≡ n → (leaves m f M ≡ leaves m g M → ⊥) → (M ≡ N) ⊎ Before N M
point-first = point-before

-- ==== Remainders by P = 2,147,483,647
-- the form of a term over the remainders is the remainder of its form over the integers
pub remainder-of-form : (n : ℕ) (t : Term) → Over n t → AllLe 63 (degrees_of n t) → weight_of t < prime
    → norm_p t ≡ map_form (red_ℤ prime prime-pos) (norm_ℤ t)
remainder-of-form = residue

-- and within the weight limit the form over the integers comes back from it
pub form-comes-back : (n : ℕ) (t : Term) → Over n t → AllLe 63 (degrees_of n t) → weight_of t ≤ 1073741823
    → map_form (lift prime prime-pos) (norm_p t) ≡ norm_ℤ t
form-comes-back = exact

-- so within the limits the forms over the remainders are one exactly when the terms have one value at every point of the integers
pub same-exactly : (n : ℕ) (f g : Term) → Within n f → Within n g
    → (norm_p f ≡ norm_p g) ↔ ((N : List ℤ) → length N ≡ n → eval_ℤ f N ≡ eval_ℤ g N)
same-exactly = same-iff

-- which is where their difference is 0
pub same-difference : (n : ℕ) (f g : Term) → Within n f → Within n g → Zero p_ring (gap f g) ↔ (norm_p f ≡ norm_p g)
same-difference = gap-zero

-- the operations on forms go over to the remainders: `carry` takes the remainder of each coefficient
pub carried-sum : (n : ℕ) (x y : Form ℤ) → Normal ℤ_ring n x → Normal ℤ_ring n y → (ds : List ℕ) → length ds ≡ n → AllLe 63 ds
    → Bounded ds x → Bounded ds y → weight x + weight y < prime → sum p_ring (carry x) (carry y) ≡ carry (sum ℤ_ring x y)
carried-sum = carry-sum

pub carried-negation : (x : Form ℤ) → carry (negate ℤ_ring x) ≡ negate p_ring (carry x)
carried-negation = carry-negate

pub carried-product : (n : ℕ) (x y : Form ℤ) → Normal ℤ_ring n x → Normal ℤ_ring n y → (ds es : List ℕ)
    → length (sums ds es) ≡ n → AllLe 63 (sums ds es) → Bounded ds x → Bounded es y
    → weight x < prime → weight y < prime → weight x * weight y < prime → prod p_ring (carry x) (carry y) ≡ carry (prod ℤ_ring x y)
carried-product = carry-prod

pub carried-power : (n : ℕ) (x : Form ℤ) → Normal ℤ_ring n x → (ds : List ℕ) (k : ℕ) → length ds ≡ n → AllLe 63 (multiples k ds)
    → Bounded ds x → weight x < prime → weight x ^ k < prime → raise p_ring (carry x) k ≡ carry (raise ℤ_ring x k)
carried-power = carry-raise

-- and come back
pub carried-back : (x : Form ℤ) → weight x ≤ 1073741823 → map_form (lift prime prime-pos) (carry x) ≡ x
carried-back = lift-carry

-- ==== Coefficients: a form's value and measures are those of its polynomial
module _ {A : Type 0} (R : Ring A) where
  open R use {◌⊞◌, ◌·◌, nil}

  -- the value is the sum of all coefficients, each times its powers of the variables
  pub value-by-coefficients : (ds : List ℕ) (x : Form A) (N : List A) → Normal R (length ds) x → Bounded ds x
      → val R x N ≡ sum_box ◌⊞◌ ds (λ ks. monomial R ks N · coef_at R ks x)
  value-by-coefficients = val-sum_box R

  -- `count` is the number of coefficients that are not 0
  pub count-by-coefficients : (ds : List ℕ) (x : Form A) → Normal R (length ds) x → Bounded ds x
      → count R x ≡ sum_box ◌+◌ ds (λ ks. one_if R (coef_at R ks x))
  count-by-coefficients = count-sum_box R

  -- no power with a coefficient is above the bounds
  pub powers-within : (ds ks : List ℕ) (x : Form A) → Bounded ds x → length ks ≡ length ds → (coef_at R ks x ≡ nil → ⊥) → InBox ds ks
  powers-within = in_bounds R

  -- and each degree is that of a coefficient that is not 0
  pub degree-reached : (n j : ℕ) (x : Form A) → j < n → Normal R n x → is_zero R x ≡ false → Reaches R n j x
  degree-reached = reaches R

-- "weight is the sum of the absolute coefficients"
pub weight-by-coefficients : (ds : List ℕ) (x : Form ℤ) → Normal ℤ_ring (length ds) x → Bounded ds x
    → weight x ≡ sum_box ◌+◌ ds (λ ks. nat_abs (coef_at ℤ_ring ks x))
weight-by-coefficients = weight-sum_box

-- ==== The table of measures: weight, degrees and terms of a result are within its row
pub table-sum : (n : ℕ) (x y : Form ℤ) → Normal ℤ_ring n x → Normal ℤ_ring n y
    → Fits n (weight x + weight y) (maxs (degrees n x) (degrees n y)) (terms ℤ_ring x + terms ℤ_ring y) (sum ℤ_ring x y)
table-sum = sum_fits

pub table-product : (n : ℕ) (x y : Form ℤ) → Normal ℤ_ring n x → Normal ℤ_ring n y
    → Fits n (weight x * weight y) (sums (degrees n x) (degrees n y)) (terms ℤ_ring x * terms ℤ_ring y) (prod ℤ_ring x y)
table-product = prod-fits

pub table-negation : (n : ℕ) (x : Form ℤ) → Normal ℤ_ring n x → Fits n (weight x) (degrees n x) (terms ℤ_ring x) (negate ℤ_ring x)
table-negation = negate-fits

pub table-power : (n : ℕ) (x : Form ℤ) → Normal ℤ_ring n x → (k : ℕ)
    → Fits n (weight x ^ k) (multiples k (degrees n x)) (terms ℤ_ring x ^ k) (raise ℤ_ring x k)
table-power = raise-fits

-- a term's own measures bound those of its form
pub table-term : (n : ℕ) (t : Term) → Over n t → Fits n (weight_of t) (degrees_of n t) (terms_of n t) (norm_ℤ t)
table-term = norm-fits

-- ==== Room
module _ {A : Type 0} (R : Ring A) where
  open R use {unit, is_nil}

  -- words ≤ 3 · POW + 1
  pub words-by-pows : (n : ℕ) (x : Form A) → Normal R n x → size x ≤ 3 * pows x + 1
  words-by-pows = size-pows R

  -- POW ≤ n · terms
  pub pows-by-count : (n : ℕ) (x : Form A) → Normal R n x → pows x ≤ n * count R x
  pows-by-count = pows-count R

  -- POW < box
  pub pows-by-box : (n : ℕ) (ds : List ℕ) (x : Form A) → Normal R n x → Bounded ds x → pows x + 1 ≤ box ds
  pows-by-box = pows-box R

  -- in at most 4 variables, with at most 256 coefficients that are not 0, a form has at most 3,073 words; so has a term's
  pub most-words : (n : ℕ) (x : Form A) → n ≤ 4 → Normal R n x → count R x ≤ 256 → size x ≤ 3073
  most-words = words-3073 R

  pub most-words-of-term : (ι : ℤ → A) → is_nil unit ≡ false → (n : ℕ) (t : Term) → n ≤ 4 → Over n t → terms_of n t ≤ 256
      → size (norm R ι t) ≤ 3073
  most-words-of-term = norm-words R

  -- in at most 4 variables, each of degree at most 63, a form nests at most 255 deep
  pub most-nested : (ds : List ℕ) (x : Form A) → length ds ≤ 4 → AllLe 63 ds → Normal R (length ds) x → Bounded ds x → nest x ≤ 255
  most-nested = nest-255 R
