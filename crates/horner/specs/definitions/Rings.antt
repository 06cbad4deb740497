-- Commutative rings with a test for zero; the integers; the remainders by m, for any m > 0, and P = 2,147,483,647. Document 000 speaks of
-- the integers; the same definitions serve the remainders, so they are given over any such ring.
use Rattle.std.specs.Prelude.{Bool, true, false, ◌≡◌, refl, ℕ, zero, suc, ◌+◌, ◌-◌, ◌<◌, ◌*◌, ◌%◌, T, ltb, eqb, ℤ, pos, negsuc, neg_ℤ, ◌+ℤ◌, ◌*ℤ◌}
use Rattle.std.proofs.Common.{true≢false, sym, ◌∙◌, ap, subst, mod-lt, add_comm, mul_comm, ltb→lt, eqb→eq, lit<, lt→ltb}
use mathlib.Core.HLevel.{Σ_prop_path}
use Rattle.std.proofs.Math.Nat.{zero-mod}
use Rattle.std.proofs.Math.Dec.{T_prop}
use Rattle.std.proofs.Math.IntN.{+ℤ_invr, +ℤ_idr, +ℤ_assoc, +ℤ_comm, *ℤ_comm}
use Rattle.horner.specs.laws.Integers.{*ℤ-+ℤ, *ℤ-assoc, *ℤ-unit}
use Rattle.horner.specs.laws.Modulus.{mod-add-assoc, mod-add-nil, mod-add-neg, mod-mul-assoc, mod-mul-unit, mod-mul-add}

pub record Ring (A : Type 0) : Type 0 where
  infixl 65 ◌⊞◌
  infixl 70 ◌·◌
  pub ◌⊞◌ : A → A → A
  pub neg : A → A
  pub ◌·◌ : A → A → A
  pub nil : A
  pub unit : A
  pub is_nil : A → Bool
  pub add_assoc : (a b c : A) → a ⊞ b ⊞ c ≡ a ⊞ (b ⊞ c)
  pub add_comm : (a b : A) → a ⊞ b ≡ b ⊞ a
  pub add-nil : (a : A) → a ⊞ nil ≡ a
  pub add-neg : (a : A) → a ⊞ neg a ≡ nil
  pub mul_assoc : (a b c : A) → a · b · c ≡ a · (b · c)
  pub mul_comm : (a b : A) → a · b ≡ b · a
  pub mul-unit : (a : A) → a · unit ≡ a
  pub mul-add : (a b c : A) → a · (b ⊞ c) ≡ a · b ⊞ a · c
  pub is_nil-true : (a : A) → is_nil a ≡ true → a ≡ nil
  pub is_nil-nil : is_nil nil ≡ true

module _ {A : Type 0} (R : Ring A) where
  open R use {◌⊞◌, ◌·◌, nil, unit}

  -- a to the n; "any value to the power 0 is 1"
  abbrev pub power : A → ℕ → A
  power a zero = unit
  power a (suc n) = a · power a n

  -- the natural number n in the ring
  abbrev pub nat : ℕ → A
  nat zero = nil
  nat (suc n) = unit ⊞ nat n

-- ---- the integers
abbrev pub is_zero_ℤ : ℤ → Bool
is_zero_ℤ (pos zero) = true
is_zero_ℤ (pos (suc n)) = false
is_zero_ℤ (negsuc n) = false

pub is_zero_ℤ-true : (a : ℤ) → is_zero_ℤ a ≡ true → a ≡ pos zero
is_zero_ℤ-true (pos zero) h = refl
is_zero_ℤ-true (pos (suc n)) h = absurd (true≢false (sym h))
is_zero_ℤ-true (negsuc n) h = absurd (true≢false (sym h))

abbrev pub ℤ_ring : Ring ℤ
ℤ_ring = record {
  ◌⊞◌ = ◌+ℤ◌;
  neg = neg_ℤ;
  ◌·◌ = ◌*ℤ◌;
  nil = pos zero;
  unit = pos (suc zero);
  is_nil = is_zero_ℤ;
  add_assoc = +ℤ_assoc;
  add_comm = +ℤ_comm;
  add-nil = +ℤ_idr;
  add-neg = +ℤ_invr;
  mul_assoc = *ℤ-assoc;
  mul_comm = *ℤ_comm;
  mul-unit = *ℤ-unit;
  mul-add = *ℤ-+ℤ;
  is_nil-true = is_zero_ℤ-true;
  is_nil-nil = refl;
}

-- ---- the remainders by m
-- a number with a computed proof that it is below m, which is `tt` at literals
abbrev pub Res : ℕ → Type 0
Res m = (n : ℕ) × T (ltb n m)

-- "A remainder is from 0 to P - 1, also for negative values": of an integer, by m
abbrev pub remainder_by : ℕ → ℤ → ℕ
remainder_by m (pos n) = n % m
remainder_by m (negsuc n) = (m - suc n % m) % m

module _ (m : ℕ) (m-pos : 0 < m) where
  abbrev pub red : ℕ → Res m
  red n = (n % m, lt→ltb (n % m) m (mod-lt n m-pos))

  abbrev pub addᵐ : Res m → Res m → Res m
  addᵐ a b = red (a.0 + b.0)

  abbrev pub mulᵐ : Res m → Res m → Res m
  mulᵐ a b = red (a.0 * b.0)

  abbrev pub negᵐ : Res m → Res m
  negᵐ a = red (m - a.0)

  abbrev remainder-below : (z : ℤ) → remainder_by m z < m
  remainder-below (pos n) = mod-lt n m-pos
  remainder-below (negsuc n) = mod-lt (m - suc n % m) m-pos

  abbrev pub red_ℤ : ℤ → Res m
  red_ℤ z = (remainder_by m z, lt→ltb (remainder_by m z) m (remainder-below z))

  -- ---- the ring
  pub res-ext : (a b : Res m) → a.0 ≡ b.0 → a ≡ b
  res-ext a b e = Σ_prop_path (λ n. T_prop (ltb n m)) e

  pub below : (a : Res m) → a.0 < m
  below a = ltb→lt a.0 m a.1

  abbrev pub mod_ring : Ring (Res m)
  mod_ring = record {
    ◌⊞◌ = addᵐ;
    neg = negᵐ;
    ◌·◌ = mulᵐ;
    nil = red 0;
    unit = red 1;
    is_nil = λ a. eqb a.0 0;
    add_assoc = λ a b c. res-ext _ _ (mod-add-assoc m a.0 b.0 c.0);
    add_comm = λ a b. ap red (add_comm a.0 b.0);
    add-nil = λ a. res-ext _ _ (mod-add-nil m a.0 (below a));
    add-neg = λ a. res-ext _ _ (mod-add-neg m a.0 (below a));
    mul_assoc = λ a b c. res-ext _ _ (mod-mul-assoc m a.0 b.0 c.0);
    mul_comm = λ a b. ap red (mul_comm a.0 b.0);
    mul-unit = λ a. res-ext _ _ (mod-mul-unit m a.0 (below a));
    mul-add = λ a b c. res-ext _ _ (mod-mul-add m a.0 b.0 c.0);
    is_nil-true = λ a e. res-ext _ _ (eqb→eq a.0 0 (subst T (sym e) tt) ∙ sym (zero-mod m));
    is_nil-nil = ap (λ z. eqb z 0) (zero-mod m);
  }

-- "P is 2,147,483,647, a prime."
abbrev pub prime : ℕ
prime = 2147483647

abbrev pub prime-pos : 0 < prime
prime-pos = lit< tt

abbrev pub p_ring : Ring (Res prime)
p_ring = mod_ring prime prime-pos
