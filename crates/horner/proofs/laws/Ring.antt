-- A commutative ring with a test for zero, the laws that follow, and the set of them that `simp` sorts sums and products with.
use Rattle.std.specs.Prelude.{◌≡◌, ℕ, zero, suc}
use Rattle.std.proofs.Common.{sym, ◌∙◌, ap}
use Rattle.std.proofs.Math.Path.{◌≡⟨◌⟩◌, ◌∎}
use Prim.Native.Nat as Nat
use Rattle.std.proofs.Math.Nat as NatL
use Rattle.horner.specs.definitions.Rings.{Ring, power, nat}

-- the operations by short names, and the laws that follow
module _ {A : Type 0} (R : Ring A) where
  open R use {◌⊞◌, neg, ◌·◌, nil, unit, add_assoc, add_comm, add-nil, add-neg, mul_assoc, mul_comm, mul-unit, mul-add}

  pub nil-add : (a : A) → nil ⊞ a ≡ a
  nil-add a = add_comm nil a ∙ add-nil a

  pub neg-add : (a : A) → neg a ⊞ a ≡ nil
  neg-add a = add_comm (neg a) a ∙ add-neg a

  pub add_left_comm : (a b c : A) → a ⊞ (b ⊞ c) ≡ b ⊞ (a ⊞ c)
  add_left_comm a b c = sym (add_assoc a b c) ∙ ap (λ z. z ⊞ c) (add_comm a b) ∙ add_assoc b a c

  pub mul_left_comm : (a b c : A) → a · (b · c) ≡ b · (a · c)
  mul_left_comm a b c = sym (mul_assoc a b c) ∙ ap (λ z. z · c) (mul_comm a b) ∙ mul_assoc b a c

  pub add-mul : (a b c : A) → (a ⊞ b) · c ≡ a · c ⊞ b · c
  add-mul a b c = simp (mul_comm, mul-add)

  pub unit-mul : (a : A) → unit · a ≡ a
  unit-mul a = mul_comm unit a ∙ mul-unit a

  -- cancellation
  pub add-cancel : (a b c : A) → a ⊞ b ≡ a ⊞ c → b ≡ c
  add-cancel a b c h =
      sym (drop-left b) ∙ ap (λ z. neg a ⊞ z) h ∙ drop-left c
    where
      drop-left : (x : A) → neg a ⊞ (a ⊞ x) ≡ x
      drop-left x = sym (add_assoc (neg a) a x) ∙ ap (λ z. z ⊞ x) (neg-add a) ∙ nil-add x

  -- an inverse is the only one
  pub neg_unique : (a b : A) → a ⊞ b ≡ nil → b ≡ neg a
  neg_unique a b h = add-cancel a b (neg a) (h ∙ sym (add-neg a))

  pub mul-nil : (a : A) → a · nil ≡ nil
  mul-nil a = add-cancel (a · nil) (a · nil) nil (sym (mul-add a nil nil) ∙ ap (◌·◌ a) (add-nil nil) ∙ sym (add-nil (a · nil)))

  pub nil-mul : (a : A) → nil · a ≡ nil
  nil-mul a = mul_comm nil a ∙ mul-nil a

  pub mul-neg : (a b : A) → a · neg b ≡ neg (a · b)
  mul-neg a b = neg_unique (a · b) (a · neg b) (sym (mul-add a b (neg b)) ∙ ap (◌·◌ a) (add-neg b) ∙ mul-nil a)

  pub neg-neg : (a : A) → neg (neg a) ≡ a
  neg-neg a = sym (neg_unique (neg a) a (neg-add a))

  pub neg-nil : neg nil ≡ nil
  neg-nil = sym (neg_unique nil nil (add-nil nil))

  -- sums of four
  pub add-four : (a b c d : A) → a ⊞ b ⊞ (c ⊞ d) ≡ a ⊞ c ⊞ (b ⊞ d)
  add-four a b c d = simp (add_assoc, add_left_comm)

  pub neg-of-add : (a b : A) → neg (a ⊞ b) ≡ neg a ⊞ neg b
  neg-of-add a b = sym (neg_unique (a ⊞ b) (neg a ⊞ neg b) both)
    where
      both : a ⊞ b ⊞ (neg a ⊞ neg b) ≡ nil
      both =
          a ⊞ b ⊞ (neg a ⊞ neg b) ≡⟨ add-four a b (neg a) (neg b) ⟩
          a ⊞ neg a ⊞ (b ⊞ neg b) ≡⟨ ap (λ z. z ⊞ (b ⊞ neg b)) (add-neg a) ⟩
          nil ⊞ (b ⊞ neg b) ≡⟨ nil-add (b ⊞ neg b) ⟩
          b ⊞ neg b ≡⟨ add-neg b ⟩
          nil ∎

  pub power-add : (a : A) (m n : ℕ) → power R a (Nat.◌+◌ m n) ≡ power R a m · power R a n
  power-add a zero n = rw NatL.zero-add (sym (unit-mul (power R a n)))
  power-add a (suc m) n = rw NatL.suc-add (ap (◌·◌ a) (power-add a m n) ∙ sym (mul_assoc a (power R a m) (power R a n)))

  pub nat-add : (m n : ℕ) → nat R (Nat.◌+◌ m n) ≡ nat R m ⊞ nat R n
  nat-add zero n = rw NatL.zero-add (sym (nil-add (nat R n)))
  nat-add (suc m) n = rw NatL.suc-add (ap (◌⊞◌ unit) (nat-add m n) ∙ sym (add_assoc unit (nat R m) (nat R n)))
