-- The integers of lib.IntN are a ring: what lib.IntN lacks (associativity of the product, distributivity), and the instance.
use Rattle.std.specs.Prelude.{◌≡◌, zero, suc, ℤ, pos, negsuc, neg_ℤ, ◌+ℤ◌, ◌*ℤ◌}
use Rattle.std.proofs.Common.{sym, ◌∙◌, ap}
use Rattle.std.proofs.Math.Path.{◌≡⟨◌⟩◌, ◌∎}
use Rattle.std.proofs.Math.IntN.{suc_ℤ, pred_ℤ, +ℤ_idl, +ℤ_invr, suc_ℤ-+ℤ, pred_ℤ-+ℤ, suc_ℤ-*ℤ, pred_ℤ-*ℤ, zero-*ℤ, one, +ℤ_idr, +ℤ_assoc, +ℤ_comm, *ℤ_comm, *ℤ-one}

-- induction by successor and predecessor
pub ℤ-step : (P : ℤ → Type 0) → P (pos zero) → ((k : ℤ) → P k → P (suc_ℤ k)) → ((k : ℤ) → P k → P (pred_ℤ k)) → (k : ℤ) → P k
ℤ-step P z s p (pos zero) = z
ℤ-step P z s p (pos (suc n)) = s (pos n) (ℤ-step P z s p (pos n))
ℤ-step P z s p (negsuc zero) = p (pos zero) z
ℤ-step P z s p (negsuc (suc n)) = p (negsuc n) (ℤ-step P z s p (negsuc n))

-- (x + y) + z is (x + z) + y
+ℤ-right-comm : (x y z : ℤ) → (x +ℤ y) +ℤ z ≡ (x +ℤ z) +ℤ y
+ℤ-right-comm x y z = +ℤ_assoc x y z ∙ ap (λ w. x +ℤ w) (+ℤ_comm y z) ∙ sym (+ℤ_assoc x z y)

pub +ℤ-*ℤ : (a b c : ℤ) → (a +ℤ b) *ℤ c ≡ (a *ℤ c) +ℤ (b *ℤ c)
+ℤ-*ℤ a b c = ℤ-step (λ a. (a +ℤ b) *ℤ c ≡ (a *ℤ c) +ℤ (b *ℤ c)) base up down a
  where
    base : (pos zero +ℤ b) *ℤ c ≡ (pos zero *ℤ c) +ℤ (b *ℤ c)
    base = ap (λ z. z *ℤ c) (+ℤ_idl b) ∙ sym (+ℤ_idl (b *ℤ c)) ∙ ap (λ z. z +ℤ (b *ℤ c)) (sym (zero-*ℤ c))

    up : (k : ℤ) → (k +ℤ b) *ℤ c ≡ (k *ℤ c) +ℤ (b *ℤ c) → (suc_ℤ k +ℤ b) *ℤ c ≡ (suc_ℤ k *ℤ c) +ℤ (b *ℤ c)
    up k h =
        (suc_ℤ k +ℤ b) *ℤ c ≡⟨ ap (λ z. z *ℤ c) (suc_ℤ-+ℤ k b) ⟩
        suc_ℤ (k +ℤ b) *ℤ c ≡⟨ suc_ℤ-*ℤ (k +ℤ b) c ⟩
        ((k +ℤ b) *ℤ c) +ℤ c ≡⟨ ap (λ z. z +ℤ c) h ⟩
        ((k *ℤ c) +ℤ (b *ℤ c)) +ℤ c ≡⟨ +ℤ-right-comm (k *ℤ c) (b *ℤ c) c ⟩
        ((k *ℤ c) +ℤ c) +ℤ (b *ℤ c) ≡⟨ ap (λ z. z +ℤ (b *ℤ c)) (sym (suc_ℤ-*ℤ k c)) ⟩
        (suc_ℤ k *ℤ c) +ℤ (b *ℤ c) ∎

    down : (k : ℤ) → (k +ℤ b) *ℤ c ≡ (k *ℤ c) +ℤ (b *ℤ c) → (pred_ℤ k +ℤ b) *ℤ c ≡ (pred_ℤ k *ℤ c) +ℤ (b *ℤ c)
    down k h =
        (pred_ℤ k +ℤ b) *ℤ c ≡⟨ ap (λ z. z *ℤ c) (pred_ℤ-+ℤ k b) ⟩
        pred_ℤ (k +ℤ b) *ℤ c ≡⟨ pred_ℤ-*ℤ (k +ℤ b) c ⟩
        ((k +ℤ b) *ℤ c) +ℤ neg_ℤ c ≡⟨ ap (λ z. z +ℤ neg_ℤ c) h ⟩
        ((k *ℤ c) +ℤ (b *ℤ c)) +ℤ neg_ℤ c ≡⟨ +ℤ-right-comm (k *ℤ c) (b *ℤ c) (neg_ℤ c) ⟩
        ((k *ℤ c) +ℤ neg_ℤ c) +ℤ (b *ℤ c) ≡⟨ ap (λ z. z +ℤ (b *ℤ c)) (sym (pred_ℤ-*ℤ k c)) ⟩
        (pred_ℤ k *ℤ c) +ℤ (b *ℤ c) ∎

pub *ℤ-+ℤ : (a b c : ℤ) → a *ℤ (b +ℤ c) ≡ (a *ℤ b) +ℤ (a *ℤ c)
*ℤ-+ℤ a b c = *ℤ_comm a (b +ℤ c) ∙ +ℤ-*ℤ b c a ∙ ap (λ z. z +ℤ (c *ℤ a)) (*ℤ_comm b a) ∙ ap (λ z. (a *ℤ b) +ℤ z) (*ℤ_comm c a)

-- a product with a negation, from distributivity
neg_ℤ-*ℤ : (a b : ℤ) → neg_ℤ a *ℤ b ≡ neg_ℤ (a *ℤ b)
neg_ℤ-*ℤ a b =
    sym (+ℤ_idl (neg_ℤ a *ℤ b)) ∙ ap (λ z. z +ℤ (neg_ℤ a *ℤ b)) (sym (+ℤ_comm (neg_ℤ (a *ℤ b)) (a *ℤ b) ∙ +ℤ_invr (a *ℤ b)))
    ∙ +ℤ_assoc (neg_ℤ (a *ℤ b)) (a *ℤ b) (neg_ℤ a *ℤ b)
    ∙ ap (λ z. neg_ℤ (a *ℤ b) +ℤ z) (sym (+ℤ-*ℤ a (neg_ℤ a) b) ∙ ap (λ z. z *ℤ b) (+ℤ_invr a) ∙ zero-*ℤ b)
    ∙ +ℤ_idr (neg_ℤ (a *ℤ b))

pub *ℤ-assoc : (a b c : ℤ) → (a *ℤ b) *ℤ c ≡ a *ℤ (b *ℤ c)
*ℤ-assoc a b c = ℤ-step (λ a. (a *ℤ b) *ℤ c ≡ a *ℤ (b *ℤ c)) base up down a
  where
    base : (pos zero *ℤ b) *ℤ c ≡ pos zero *ℤ (b *ℤ c)
    base = ap (λ z. z *ℤ c) (zero-*ℤ b) ∙ zero-*ℤ c ∙ sym (zero-*ℤ (b *ℤ c))

    up : (k : ℤ) → (k *ℤ b) *ℤ c ≡ k *ℤ (b *ℤ c) → (suc_ℤ k *ℤ b) *ℤ c ≡ suc_ℤ k *ℤ (b *ℤ c)
    up k h = ap (λ z. z *ℤ c) (suc_ℤ-*ℤ k b) ∙ +ℤ-*ℤ (k *ℤ b) b c ∙ ap (λ z. z +ℤ (b *ℤ c)) h ∙ sym (suc_ℤ-*ℤ k (b *ℤ c))

    down : (k : ℤ) → (k *ℤ b) *ℤ c ≡ k *ℤ (b *ℤ c) → (pred_ℤ k *ℤ b) *ℤ c ≡ pred_ℤ k *ℤ (b *ℤ c)
    down k h =
        ap (λ z. z *ℤ c) (pred_ℤ-*ℤ k b) ∙ +ℤ-*ℤ (k *ℤ b) (neg_ℤ b) c ∙ ap (λ z. z +ℤ (neg_ℤ b *ℤ c)) h
        ∙ ap (λ z. (k *ℤ (b *ℤ c)) +ℤ z) (neg_ℤ-*ℤ b c) ∙ sym (pred_ℤ-*ℤ k (b *ℤ c))

pub *ℤ-unit : (a : ℤ) → a *ℤ pos (suc zero) ≡ a
unfolding one
*ℤ-unit a = *ℤ-one a
