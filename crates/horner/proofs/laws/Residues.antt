-- The numbers below m, with sums and products by remainder, are a ring. A number comes with a computed test that it is below m, which is
-- `tt` at literals.
use Rattle.std.specs.Prelude.{◌≡◌, refl, ℕ, zero, suc, ◌+◌, ◌-◌, ◌<◌, ◌*◌, ◌%◌}
use Rattle.std.proofs.Common.{sym, ◌∙◌, ap, arith}
use Rattle.std.proofs.Math.Path.{◌≡⟨◌⟩◌, ◌∎}
use Rattle.std.proofs.Math.Nat as NatL
use Rattle.horner.specs.definitions.Rings.{Res, red, addᵐ, mulᵐ, res-ext, below, mod_ring, nat}
use Rattle.horner.specs.laws.Modulus.{mul-mod-l, mul-mod-r}
use Rattle.horner.proofs.laws.Ring.{mul-nil}

module _ (m : ℕ) (m-pos : 0 < m) where
  pub red-of : (a : Res m) → red m m-pos a.0 ≡ a
  red-of a = res-ext m m-pos (red m m-pos a.0) a (NatL.mod-eq_of_lt (below m m-pos a))

  pub red-add : (a b : ℕ) → red m m-pos (a + b) ≡ addᵐ m m-pos (red m m-pos a) (red m m-pos b)
  red-add a b = res-ext m m-pos (red m m-pos (a + b)) (addᵐ m m-pos (red m m-pos a) (red m m-pos b)) (NatL.add-mod a b m)

  pub red-mul : (a b : ℕ) → red m m-pos (a * b) ≡ mulᵐ m m-pos (red m m-pos a) (red m m-pos b)
  red-mul a b =
      res-ext m m-pos (red m m-pos (a * b)) (mulᵐ m m-pos (red m m-pos a) (red m m-pos b)) (sym (mul-mod-l m a (b % m) ∙ mul-mod-r m a b))

  -- the naturals in the ring are the remainders
  pub nat-red : (n : ℕ) → nat (mod_ring m m-pos) n ≡ red m m-pos n
  nat-red zero = refl
  nat-red (suc n) = ap (addᵐ m m-pos (red m m-pos 1)) (nat-red n) ∙ sym (red-add 1 n) ∙ ap (red m m-pos) (one_more n)
    where
      one_more : (n : ℕ) → 1 + n ≡ suc n
      one_more n = omega arith

  -- what has an inverse divides no zero
  open mod_ring m m-pos use {◌·◌, nil, mul-unit, mul_comm, mul_assoc}

  abbrev ρ : ℕ → Res m
  ρ n = red m m-pos n

  pub unit-regular : (k inv : ℕ) → (k * inv) % m ≡ 1 % m → (r : Res m) → ρ k · r ≡ nil → r ≡ nil
  unit-regular k inv e r h =
      r ≡⟨ sym (mul-unit r) ⟩
      r · ρ 1 ≡⟨ mul_comm r (ρ 1) ⟩
      ρ 1 · r ≡⟨ ap (λ z. z · r) one ⟩
      ρ inv · ρ k · r ≡⟨ mul_assoc (ρ inv) (ρ k) r ⟩
      ρ inv · (ρ k · r) ≡⟨ ap (◌·◌ (ρ inv)) h ⟩
      ρ inv · nil ≡⟨ mul-nil (mod_ring m m-pos) (ρ inv) ⟩
      nil ∎
    where
      one : ρ 1 ≡ ρ inv · ρ k
      one = res-ext m m-pos (ρ 1) (ρ (inv * k)) (sym e ∙ ap (λ z. z % m) (NatL.mul_comm k inv)) ∙ red-mul inv k
