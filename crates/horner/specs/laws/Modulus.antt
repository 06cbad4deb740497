-- Remainders by m of natural numbers: a remainder within a sum or a product, and the laws of a ring, for definitions/Residues.
use Rattle.std.specs.Prelude.{◌≡◌, ℕ, ◌+◌, ◌-◌, ◌<◌, ◌*◌, ◌%◌, ◌/◌}
use Rattle.std.proofs.Common.{sym, ◌∙◌, ap, arith}
use Rattle.std.proofs.Math.Path.{◌≡⟨◌⟩◌, ◌∎}
use Rattle.std.proofs.Math.Nat as NatL

module _ (m : ℕ) where
  pub mul-mod-l : (a b : ℕ) → (a % m * b) % m ≡ (a * b) % m
  mul-mod-l a b =
      (a % m * b) % m ≡⟨ sym (NatL.add-mul-mod_self_right (a % m * b) (a / m * b) m) ⟩
      (a % m * b + a / m * b * m) % m ≡⟨ ap (λ z. (a % m * b + z) % m) turned ⟩
      (a % m * b + a / m * m * b) % m ≡⟨ ap (λ z. z % m) (sym (NatL.add-mul (a % m) (a / m * m) b)) ⟩
      ((a % m + a / m * m) * b) % m ≡⟨ ap (λ z. (z * b) % m) (NatL.mod-add-div' a m) ⟩
      (a * b) % m ∎
    where
      turned : a / m * b * m ≡ a / m * m * b
      turned =
          a / m * b * m ≡⟨ NatL.mul_assoc (a / m) b m ⟩
          a / m * (b * m) ≡⟨ ap (λ z. a / m * z) (NatL.mul_comm b m) ⟩
          a / m * (m * b) ≡⟨ sym (NatL.mul_assoc (a / m) m b) ⟩
          a / m * m * b ∎

  pub mul-mod-r : (a b : ℕ) → (a * (b % m)) % m ≡ (a * b) % m
  mul-mod-r a b =
      (a * (b % m)) % m ≡⟨ ap (λ z. z % m) (NatL.mul_comm a (b % m)) ⟩
      (b % m * a) % m ≡⟨ mul-mod-l b a ⟩
      (b * a) % m ≡⟨ ap (λ z. z % m) (NatL.mul_comm b a) ⟩
      (a * b) % m ∎

  pub mod-add-assoc : (a b c : ℕ) → ((a + b) % m + c) % m ≡ (a + (b + c) % m) % m
  mod-add-assoc a b c =
      ((a + b) % m + c) % m ≡⟨ NatL.mod-add-mod (a + b) m c ⟩
      (a + b + c) % m ≡⟨ ap (λ z. z % m) (NatL.add_assoc a b c) ⟩
      (a + (b + c)) % m ≡⟨ sym (NatL.add-mod-mod a (b + c) m) ⟩
      (a + (b + c) % m) % m ∎

  pub mod-mul-assoc : (a b c : ℕ) → ((a * b) % m * c) % m ≡ (a * ((b * c) % m)) % m
  mod-mul-assoc a b c =
      ((a * b) % m * c) % m ≡⟨ mul-mod-l (a * b) c ⟩
      (a * b * c) % m ≡⟨ ap (λ z. z % m) (NatL.mul_assoc a b c) ⟩
      (a * (b * c)) % m ≡⟨ sym (mul-mod-r a (b * c)) ⟩
      (a * ((b * c) % m)) % m ∎

  pub mod-mul-add : (a b c : ℕ) → (a * ((b + c) % m)) % m ≡ ((a * b) % m + (a * c) % m) % m
  mod-mul-add a b c =
      (a * ((b + c) % m)) % m ≡⟨ mul-mod-r a (b + c) ⟩
      (a * (b + c)) % m ≡⟨ ap (λ z. z % m) (NatL.mul-add a b c) ⟩
      (a * b + a * c) % m ≡⟨ NatL.add-mod (a * b) (a * c) m ⟩
      ((a * b) % m + (a * c) % m) % m ∎

  pub mod-add-neg : (a : ℕ) → a < m → (a + (m - a) % m) % m ≡ 0 % m
  mod-add-neg a h =
      (a + (m - a) % m) % m ≡⟨ NatL.add-mod-mod a (m - a) m ⟩
      (a + (m - a)) % m ≡⟨ ap (λ z. z % m) (omega arith) ⟩
      m % m ≡⟨ NatL.mod_self m ⟩
      0 ≡⟨ sym (NatL.zero-mod m) ⟩
      0 % m ∎

  -- 0 and 1, and the numbers below m
  pub mod-add-nil : (a : ℕ) → a < m → (a + 0 % m) % m ≡ a
  mod-add-nil a h = NatL.add-mod-mod a 0 m ∙ ap (λ z. z % m) (NatL.add-zero a) ∙ NatL.mod-eq_of_lt h

  pub mod-mul-unit : (a : ℕ) → a < m → (a * (1 % m)) % m ≡ a
  mod-mul-unit a h = mul-mod-r a 1 ∙ ap (λ z. z % m) (NatL.mul-one a) ∙ NatL.mod-eq_of_lt h
