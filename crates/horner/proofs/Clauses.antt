-- Definitions 9 and 11, clause by clause as printed, of the sum and the product themselves. The definitions go by a number that falls;
-- these equations do not name it. Each is proved by the one name that carries it in laws/.
use Rattle.std.specs.Prelude.{◌≡◌, ℕ, suc, ◌+◌, ◌-◌, ◌<◌, ℤ}
use Rattle.horner.specs.definitions.Form.{Form, int, pop, pow, lower, zero_form, mkpop, mkpow, add_int, scale, sum, prod, Normal}
use Rattle.horner.specs.definitions.Rings.{ℤ_ring, Ring}
use Rattle.horner.proofs.laws.Domain.{prod-4-ℤ}
use Rattle.horner.proofs.laws.Equations.{sum-int, sum-2, sum-3a, sum-3b, sum-3c, sum-pop-pow, sum-pow-pop, sum-6a, sum-6b, sum-6c}
use Rattle.horner.proofs.laws.Equations.{prod-int, prod-2, prod-3a, prod-3b, prod-3c, prod-pop-pow, prod-pow-pop, prod-pow-pow}

module _ {A : Type 0} (R : Ring A) where
  infixl 65 ◌⊕◌
  infixl 70 ◌⊗◌
  -- document 000's signs, and 0 as a form
  abbrev ◌⊕◌ : Form A → Form A → Form A
  ◌⊕◌ = sum R

  abbrev ◌⊗◌ : Form A → Form A → Form A
  ◌⊗◌ = prod R

  abbrev 𝟘 : Form A
  𝟘 = zero_form R

  -- ---- Definition 9, the sum
  -- (1) An integer goes down to the leaf at the end
  pub definition-9-1 : (a : A) (y : Form A) → int a ⊕ y ≡ add_int R a y
  definition-9-1 = sum-int R

  -- (2) and so with the integer on the right
  pub definition-9-2 : (x : Form A) (b : A) → x ⊕ int b ≡ int b ⊕ x
  definition-9-2 = sum-2 R

  -- (3) Two POPs: with one i, with the first greater, with the second greater
  pub definition-9-3a : (i : ℕ) (p q : Form A) → pop i p ⊕ pop i q ≡ mkpop i (p ⊕ q)
  definition-9-3a = sum-3a R

  pub definition-9-3b : (i j : ℕ) (p q : Form A) → j < i → pop i p ⊕ pop j q ≡ mkpop j (pop (i - j) p ⊕ q)
  definition-9-3b = sum-3b R

  pub definition-9-3c : (i j : ℕ) (p q : Form A) → i < j → pop i p ⊕ pop j q ≡ mkpop i (pop (j - i) q ⊕ p)
  definition-9-3c = sum-3c R

  -- (4), (5) A POP and a POW, either way round; `lower i p` is (POP i p), and p itself where i is 0
  pub definition-9-4 : (i j : ℕ) (p q r : Form A) → pop (suc i) p ⊕ pow j q r ≡ pow j q (r ⊕ lower i p)
  definition-9-4 = sum-pop-pow R

  pub definition-9-5 : (i j : ℕ) (p q r : Form A) → pow j q r ⊕ pop (suc i) p ≡ pop (suc i) p ⊕ pow j q r
  definition-9-5 = sum-pow-pop R

  -- (6) Two POWs: with one i, with the first greater, with the second greater
  pub definition-9-6a : (i : ℕ) (p q r s : Form A) → pow i p q ⊕ pow i r s ≡ mkpow R i (p ⊕ r) (q ⊕ s)
  definition-9-6a = sum-6a R

  pub definition-9-6b : (i j : ℕ) (p q r s : Form A) → j < i → pow i p q ⊕ pow j r s ≡ mkpow R j (pow (i - j) p 𝟘 ⊕ r) (q ⊕ s)
  definition-9-6b = sum-6b R

  pub definition-9-6c : (i j : ℕ) (p q r s : Form A) → i < j → pow i p q ⊕ pow j r s ≡ mkpow R i (pow (j - i) r 𝟘 ⊕ p) (s ⊕ q)
  definition-9-6c = sum-6c R

  -- ---- Definition 11, the product
  -- (1) An integer times each part
  pub definition-11-1 : (a : A) (y : Form A) → int a ⊗ y ≡ scale R a y
  definition-11-1 = prod-int R

  -- (2) and so with the integer on the right
  pub definition-11-2 : (x : Form A) (b : A) → x ⊗ int b ≡ int b ⊗ x
  definition-11-2 = prod-2 R

  -- (3) Two POPs
  pub definition-11-3a : (i : ℕ) (p q : Form A) → pop i p ⊗ pop i q ≡ mkpop i (p ⊗ q)
  definition-11-3a = prod-3a R

  pub definition-11-3b : (i j : ℕ) (p q : Form A) → j < i → pop i p ⊗ pop j q ≡ mkpop j (pop (i - j) p ⊗ q)
  definition-11-3b = prod-3b R

  pub definition-11-3c : (i j : ℕ) (p q : Form A) → i < j → pop i p ⊗ pop j q ≡ mkpop i (pop (j - i) q ⊗ p)
  definition-11-3c = prod-3c R

  -- (4), (5) A POP and a POW, either way round, the POW made by pow; over the integers it is the printed one: definition-11-4-ℤ
  pub definition-11-4 : (i j : ℕ) (p q r : Form A) → pop (suc i) p ⊗ pow j q r ≡ mkpow R j (pop (suc i) p ⊗ q) (lower i p ⊗ r)
  definition-11-4 = prod-pop-pow R

  pub definition-11-5 : (i j : ℕ) (p q r : Form A) → pow j q r ⊗ pop (suc i) p ≡ pop (suc i) p ⊗ pow j q r
  definition-11-5 = prod-pow-pop R

  -- (6) Two POWs, with document 01's exponent j in the last summand
  pub definition-11-6 : (i j : ℕ) (p q r s : Form A)
      → pow i p q ⊗ pow j r s ≡ mkpow R (i + j) (p ⊗ r) (q ⊗ s) ⊕ mkpow R i (p ⊗ mkpop 1 s) 𝟘 ⊕ mkpow R j (r ⊗ mkpop 1 q) 𝟘
  definition-11-6 = prod-pow-pow R

-- (4) over the integers: the printed (POW ..), which needs no pow
pub definition-11-4-ℤ : (n i j : ℕ) (p q r : Form ℤ) → Normal ℤ_ring n (pop (suc i) p) → Normal ℤ_ring n (pow j q r)
    → prod ℤ_ring (pop (suc i) p) (pow j q r) ≡ pow j (prod ℤ_ring (pop (suc i) p) q) (prod ℤ_ring (lower i p) r)
definition-11-4-ℤ = prod-4-ℤ
