-- Sparse Horner forms (Definition 4), the operations on them (Definitions 7 to 12), their values (Definition 5), and which are normal
-- (Definition 6 as document 01 corrects it, with levels).
-- Definitions 9 and 11 call themselves on forms that are no parts of their arguments, so `sum_f` and `prod_f` take a number that falls with
-- each call; `sum` and `prod` start them with the two sizes, which is always enough: Clauses has each clause as printed, of `sum` and
-- `prod` themselves.
use Rattle.std.specs.Prelude.{Bool, false, cond, true, not, List, [], ◌∷◌, map, ◌≡◌, ℕ, zero, suc, ◌+◌, ◌-◌, ◌≤◌, T, drop}
use Rattle.horner.specs.definitions.Rings.{Ring, power, nat}

-- ---- two numbers compared, with their distance
pub data Cmp : Type 0 where
  same : Cmp
  more : ℕ → Cmp
  less : ℕ → Cmp

-- more d: i is j + (d + 1). less d: j is i + (d + 1)
abbrev pub cmp : ℕ → ℕ → Cmp
cmp zero zero = same
cmp zero (suc j) = less j
cmp (suc i) zero = more i
cmp (suc i) (suc j) = cmp i j

-- the branches are functions, so that only the one taken is computed
abbrev pub case_cmp : {B : Type 0} → Cmp → (Unit {0} → B) → (ℕ → B) → (ℕ → B) → B
case_cmp same e m l = e tt
case_cmp (more d) e m l = m d
case_cmp (less d) e m l = l d

-- Definition 4: "(a) An integer; (b) A list (POP i p), where i is a natural number and p is a SHF; (c) A list (POW i p q), where .. p and
-- q are SHFs."
pub data Form (A : Type 0) : Type 0 where
  int : A → Form A
  pop : ℕ → Form A → Form A
  pow : ℕ → Form A → Form A → Form A

module _ {A : Type 0} where
  -- the number of nodes, and of the words of a coded form
  abbrev pub size : Form A → ℕ
  size (int c) = 1
  size (pop i p) = suc (size p)
  size (pow i p q) = suc (size p + size q)

  -- Definition 7, pop(i, p): "(a) If i = 0 or p is an integer, then p. (b) If p = (POP j q), then (POP i+j q). (c) Otherwise, (POP i p)."
  abbrev pub mkpop : ℕ → Form A → Form A
  mkpop zero p = p
  mkpop (suc i) (int c) = int c
  mkpop (suc i) (pop j q) = pop (suc i + j) q
  mkpop (suc i) (pow j q r) = pop (suc i) (pow j q r)

  -- with i + 1 for the i of a POP: (POP i p), and p itself where that i is 0
  abbrev pub lower : ℕ → Form A → Form A
  lower zero p = p
  lower (suc i) p = pop (suc i) p

module _ {A : Type 0} (R : Ring A) where
  open R use {◌⊞◌, neg, ◌·◌, nil, unit, is_nil}

  abbrev pub is_zero : Form A → Bool
  is_zero (int c) = is_nil c
  is_zero (pop i p) = false
  is_zero (pow i p q) = false

  abbrev pub zero_form : Form A
  zero_form = int nil

  -- Definition 8, pow(i, p, q): "(a) If p = 0, then pop(1, q). (b) If p = (POW j r 0), then (POW i+j r q). (c) Otherwise, (POW i p q)."
  abbrev pub mkpow : ℕ → Form A → Form A → Form A
  mkpow i (int c) q = cond (is_nil c) (mkpop 1 q) (pow i (int c) q)
  mkpow i (pop j p) q = pow i (pop j p) q
  mkpow i (pow j r s) q = cond (is_zero s) (pow (i + j) r q) (pow i (pow j r s) q)

  -- Definition 9 (1): "(a) y an integer: x + y. (b) y = (POP i p): (POP i x ⊕ p). (c) y = (POW i p q): (POW i p x ⊕ q)."
  abbrev pub add_int : A → Form A → Form A
  add_int a (int b) = int (a ⊞ b)
  add_int a (pop i p) = pop i (add_int a p)
  add_int a (pow i p q) = pow i p (add_int a q)

  -- Definition 9, (1) to (6). A (POP 0 p), which no normal form has, is taken for p
  abbrev pub sum_f : ℕ → Form A → Form A → Form A
  sum_f zero x y = x
  sum_f (suc k) (int a) y = add_int a y
  sum_f (suc k) (pop i p) (int b) = add_int b (pop i p)
  sum_f (suc k) (pop i p) (pop j q) =
      case_cmp (cmp i j)
      (λ u. mkpop i (sum_f k p q))
      (λ d. mkpop j (sum_f k (pop (suc d) p) q))
      (λ d. mkpop i (sum_f k (pop (suc d) q) p))
  sum_f (suc k) (pop zero p) (pow j q r) = sum_f k p (pow j q r)
  sum_f (suc k) (pop (suc i) p) (pow j q r) = pow j q (sum_f k r (lower i p))
  sum_f (suc k) (pow j q r) (int b) = add_int b (pow j q r)
  sum_f (suc k) (pow j q r) (pop zero p) = sum_f k p (pow j q r)
  sum_f (suc k) (pow j q r) (pop (suc i) p) = pow j q (sum_f k r (lower i p))
  sum_f (suc k) (pow i p q) (pow j r s) =
      case_cmp (cmp i j)
      (λ u. mkpow i (sum_f k p r) (sum_f k q s))
      (λ d. mkpow j (sum_f k (pow (suc d) p zero_form) r) (sum_f k q s))
      (λ d. mkpow i (sum_f k (pow (suc d) r zero_form) p) (sum_f k s q))

  -- x ⊕ y
  abbrev pub sum : Form A → Form A → Form A
  sum x y = sum_f (size x + size y) x y

  -- Definition 10, ⊖ x: "(1) -x. (2) (POP i ⊖p). (3) (POW i ⊖p ⊖q)."
  abbrev pub negate : Form A → Form A
  negate (int a) = int (neg a)
  negate (pop i p) = pop i (negate p)
  negate (pow i p q) = pow i (negate p) (negate q)

  -- Definition 11 (1): "(a) y an integer: xy. (b) y = (POP i p): pop(i, x ⊗ p). (c) y = (POW i p q): pow(i, x ⊗ p, x ⊗ q)."
  abbrev pub scale : A → Form A → Form A
  scale a (int b) = int (a · b)
  scale a (pop i p) = mkpop i (scale a p)
  scale a (pow i p q) = mkpow i (scale a p) (scale a q)

  -- Definition 11, (1) to (6), with document 01's exponent j in the last summand of (6). In (4) the POW is made by mkpow, which keeps the
  -- form normal also where the ring has divisors of zero; over the integers it is the printed (POW ..): laws/Domain, prod-4-ℤ
  abbrev pub prod_f : ℕ → Form A → Form A → Form A
  prod_f zero x y = x
  prod_f (suc k) (int a) y = scale a y
  prod_f (suc k) (pop i p) (int b) = scale b (pop i p)
  prod_f (suc k) (pop i p) (pop j q) =
      case_cmp (cmp i j)
      (λ u. mkpop i (prod_f k p q))
      (λ d. mkpop j (prod_f k (pop (suc d) p) q))
      (λ d. mkpop i (prod_f k (pop (suc d) q) p))
  prod_f (suc k) (pop zero p) (pow j q r) = prod_f k p (pow j q r)
  prod_f (suc k) (pop (suc i) p) (pow j q r) = mkpow j (prod_f k (pop (suc i) p) q) (prod_f k (lower i p) r)
  prod_f (suc k) (pow j q r) (int b) = scale b (pow j q r)
  prod_f (suc k) (pow j q r) (pop zero p) = prod_f k p (pow j q r)
  prod_f (suc k) (pow j q r) (pop (suc i) p) = mkpow j (prod_f k (pop (suc i) p) q) (prod_f k (lower i p) r)
  prod_f (suc k) (pow i p q) (pow j r s) =
      sum (sum (mkpow (i + j) (prod_f k p r) (prod_f k q s)) (mkpow i (prod_f k p (mkpop 1 s)) zero_form))
      (mkpow j (prod_f k r (mkpop 1 q)) zero_form)

  -- x ⊗ y
  abbrev pub prod : Form A → Form A → Form A
  prod x y = prod_f (size x + size y) x y

  -- Definition 12: "x^k = 1 if k = 0, x ⊗ x^(k-1) if k > 0"
  abbrev pub raise : Form A → ℕ → Form A
  raise x zero = int unit
  raise x (suc n) = prod x (raise x n)

  -- Definition 13 (b): "x = v_i: norm(x, V) = pop(i, (POW 1 1 0))"
  abbrev pub letter : ℕ → Form A
  letter i = mkpop i (pow 1 (int unit) zero_form)

-- ---- the value of a form at a point, which lists the values of the variables in the row's order
module _ {A : Type 0} where
  -- N without its first member, and without its first i: N^(1) and N^(i) of document 000
  abbrev pub tl : List A → List A
  tl [] = []
  tl (a ∷ N) = N

  abbrev pub after : ℕ → List A → List A
  after zero N = N
  after (suc i) N = after i (tl N)

module _ {A : Type 0} (R : Ring A) where
  open R use {◌⊞◌, ◌·◌, nil}

  -- Definition 5. "(a) If h is an integer, then evalh(h, N) = h. (b) If h = (POP i p), then evalh(h, N) = evalh(p, N^(i)). (c) If h =
  -- (POW i p q) and head(N) = n, then evalh(h, N) = n^i evalh(p, N) + evalh(q, N^(1)). (d) If h = (POW i p q) and N = (), then evalh(h,
  -- N) = 0."
  abbrev pub evalh : Form A → List A → A
  evalh (int c) N = c
  evalh (pop i p) N = evalh p (drop i N)
  evalh (pow i p q) (a ∷ N) = power R a i · evalh p (a ∷ N) ⊞ evalh q N
  evalh (pow i p q) [] = nil

  -- the first member; 0 where there is none
  abbrev pub hd : List A → A
  hd [] = nil
  hd (a ∷ N) = a

  -- a point of natural numbers
  abbrev pub nats : List ℕ → List A
  nats N = map (nat R) N

-- ---- normal forms
module _ {A : Type 0} where
  abbrev pub is_pow : Form A → Bool
  is_pow (int c) = false
  is_pow (pop i p) = false
  is_pow (pow i p q) = true

module _ {A : Type 0} (R : Ring A) where
  open R use {is_nil}

  -- "its p is neither 0 nor (POW j r 0)"; and as a test
  abbrev pub Lead : Form A → Type 0
  Lead (int c) = is_nil c ≡ false
  Lead (pop i p) = Unit {0}
  Lead (pow j r s) = is_zero R s ≡ false

  abbrev pub leads : Form A → Bool
  leads (int c) = not (is_nil c)
  leads (pop i p) = true
  leads (pow j r s) = not (is_zero R s)

  -- Definition 6. "A form stands at a level, 0 at the outside. POP i puts p at the level plus i; POW leaves p at its level and puts q one
  -- higher. .. It is normal when each POP has i of at least 1 and a POW inside; each POW stands at a level below the row's length, has i
  -- of at least 1, and its p is neither 0 nor (POW j r 0)." Here n is the row's length less the level: how many variables are left.
  abbrev pub Normal : ℕ → Form A → Type 0
  Normal n (int c) = Unit {0}
  Normal n (pop i p) = (1 ≤ i) × T (is_pow p) × Normal (n - i) p
  Normal n (pow i p q) = (1 ≤ i) × (1 ≤ n) × Normal n p × Lead p × Normal (n - 1) q
