-- The integers in any ring, and forms carried from one ring to another.
use Rattle.std.specs.Prelude.{List, [], ◌∷◌, map, ◌≡◌, refl, ℕ, zero, suc, ℤ, pos, negsuc, neg_ℤ, ◌+ℤ◌, ◌*ℤ◌}
use Rattle.std.proofs.Common.{sym, ◌∙◌, ap, ap₂}
use Rattle.std.proofs.Math.Path.{◌≡⟨◌⟩◌, ◌∎}
use Rattle.std.proofs.Math.IntN.{suc_ℤ, pred_ℤ, suc-pred, +ℤ_idl, +ℤ_invr, suc_ℤ-+ℤ, pred_ℤ-+ℤ, suc_ℤ-*ℤ, pred_ℤ-*ℤ, zero-*ℤ}
use Rattle.horner.specs.definitions.Form.{Form, int, pop, pow, tl, after, hd}
use Rattle.horner.specs.definitions.Rings.{ℤ_ring, Ring, power, nat}
use Rattle.horner.specs.laws.Integers.{ℤ-step}
use Rattle.horner.proofs.laws.Ring.{nil-add, neg-add, add-mul, unit-mul, neg_unique, nil-mul, mul-neg, neg-of-add}
use Rattle.horner.proofs.laws.Value.{val}
use Rattle.horner.specs.laws.Hom.{Hom, map_form}

module _ {A : Type 0} (R : Ring A) where
  open R use {◌⊞◌, neg, ◌·◌, nil, unit, add_assoc, add_comm, add-nil, add-neg, mul_comm, mul-unit}

  abbrev pub from_ℤ : ℤ → A
  from_ℤ (pos n) = nat R n
  from_ℤ (negsuc n) = neg (nat R (suc n))

  from_suc : (k : ℤ) → from_ℤ (suc_ℤ k) ≡ unit ⊞ from_ℤ k
  from_suc (pos n) = refl
  from_suc (negsuc zero) = sym (ap (λ z. unit ⊞ neg z) (add-nil unit) ∙ add-neg unit)
  from_suc (negsuc (suc n)) =
      let b = nat R (suc n) in
      neg b ≡⟨ sym (nil-add R (neg b)) ⟩
      nil ⊞ neg b ≡⟨ ap (λ z. z ⊞ neg b) (sym (add-neg unit)) ⟩
      unit ⊞ neg unit ⊞ neg b ≡⟨ add_assoc unit (neg unit) (neg b) ⟩
      unit ⊞ (neg unit ⊞ neg b) ≡⟨ ap (◌⊞◌ unit) (sym (neg-of-add R unit b)) ⟩
      unit ⊞ neg (unit ⊞ b) ∎

  from-pred : (k : ℤ) → from_ℤ (pred_ℤ k) ≡ neg unit ⊞ from_ℤ k
  from-pred k =
      let b = from_ℤ (pred_ℤ k) in
      b ≡⟨ sym (nil-add R b) ⟩
      nil ⊞ b ≡⟨ ap (λ z. z ⊞ b) (sym (neg-add R unit)) ⟩
      neg unit ⊞ unit ⊞ b ≡⟨ add_assoc (neg unit) unit b ⟩
      neg unit ⊞ (unit ⊞ b) ≡⟨ ap (◌⊞◌ (neg unit)) (sym (from_suc (pred_ℤ k))) ⟩
      neg unit ⊞ from_ℤ (suc_ℤ (pred_ℤ k)) ≡⟨ ap (λ z. neg unit ⊞ from_ℤ z) (suc-pred k) ⟩
      neg unit ⊞ from_ℤ k ∎

  from-add : (a b : ℤ) → from_ℤ (a +ℤ b) ≡ from_ℤ a ⊞ from_ℤ b
  from-add a b = ℤ-step (λ a. from_ℤ (a +ℤ b) ≡ from_ℤ a ⊞ from_ℤ b) (ap from_ℤ (+ℤ_idl b) ∙ sym (nil-add R B)) up down a
    where
      B : A
      B = from_ℤ b

      up : (k : ℤ) → from_ℤ (k +ℤ b) ≡ from_ℤ k ⊞ B → from_ℤ (suc_ℤ k +ℤ b) ≡ from_ℤ (suc_ℤ k) ⊞ B
      up k h =
          from_ℤ (suc_ℤ k +ℤ b) ≡⟨ ap from_ℤ (suc_ℤ-+ℤ k b) ⟩
          from_ℤ (suc_ℤ (k +ℤ b)) ≡⟨ from_suc (k +ℤ b) ⟩
          unit ⊞ from_ℤ (k +ℤ b) ≡⟨ ap (◌⊞◌ unit) h ⟩
          unit ⊞ (from_ℤ k ⊞ B) ≡⟨ sym (add_assoc unit (from_ℤ k) B) ⟩
          unit ⊞ from_ℤ k ⊞ B ≡⟨ ap (λ z. z ⊞ B) (sym (from_suc k)) ⟩
          from_ℤ (suc_ℤ k) ⊞ B ∎

      down : (k : ℤ) → from_ℤ (k +ℤ b) ≡ from_ℤ k ⊞ B → from_ℤ (pred_ℤ k +ℤ b) ≡ from_ℤ (pred_ℤ k) ⊞ B
      down k h =
          from_ℤ (pred_ℤ k +ℤ b) ≡⟨ ap from_ℤ (pred_ℤ-+ℤ k b) ⟩
          from_ℤ (pred_ℤ (k +ℤ b)) ≡⟨ from-pred (k +ℤ b) ⟩
          neg unit ⊞ from_ℤ (k +ℤ b) ≡⟨ ap (◌⊞◌ (neg unit)) h ⟩
          neg unit ⊞ (from_ℤ k ⊞ B) ≡⟨ sym (add_assoc (neg unit) (from_ℤ k) B) ⟩
          neg unit ⊞ from_ℤ k ⊞ B ≡⟨ ap (λ z. z ⊞ B) (sym (from-pred k)) ⟩
          from_ℤ (pred_ℤ k) ⊞ B ∎

  from-neg : (a : ℤ) → from_ℤ (neg_ℤ a) ≡ neg (from_ℤ a)
  from-neg a = neg_unique R (from_ℤ a) (from_ℤ (neg_ℤ a)) (sym (from-add a (neg_ℤ a)) ∙ ap from_ℤ (+ℤ_invr a))

  neg-unit-mul : (x : A) → neg unit · x ≡ neg x
  neg-unit-mul x = mul_comm (neg unit) x ∙ mul-neg R x unit ∙ ap neg (mul-unit x)

  from-mul : (a b : ℤ) → from_ℤ (a *ℤ b) ≡ from_ℤ a · from_ℤ b
  from-mul a b = ℤ-step (λ a. from_ℤ (a *ℤ b) ≡ from_ℤ a · from_ℤ b) (ap from_ℤ (zero-*ℤ b) ∙ sym (nil-mul R B)) up down a
    where
      B : A
      B = from_ℤ b

      up : (k : ℤ) → from_ℤ (k *ℤ b) ≡ from_ℤ k · B → from_ℤ (suc_ℤ k *ℤ b) ≡ from_ℤ (suc_ℤ k) · B
      up k h =
          let K = from_ℤ k in
          from_ℤ (suc_ℤ k *ℤ b) ≡⟨ ap from_ℤ (suc_ℤ-*ℤ k b) ⟩
          from_ℤ ((k *ℤ b) +ℤ b) ≡⟨ from-add (k *ℤ b) b ⟩
          from_ℤ (k *ℤ b) ⊞ B ≡⟨ ap (λ z. z ⊞ B) h ⟩
          K · B ⊞ B ≡⟨ add_comm (K · B) B ⟩
          B ⊞ K · B ≡⟨ ap (λ z. z ⊞ K · B) (sym (unit-mul R B)) ⟩
          unit · B ⊞ K · B ≡⟨ sym (add-mul R unit K B) ⟩
          (unit ⊞ K) · B ≡⟨ ap (λ z. z · B) (sym (from_suc k)) ⟩
          from_ℤ (suc_ℤ k) · B ∎

      down : (k : ℤ) → from_ℤ (k *ℤ b) ≡ from_ℤ k · B → from_ℤ (pred_ℤ k *ℤ b) ≡ from_ℤ (pred_ℤ k) · B
      down k h =
          let K = from_ℤ k in
          from_ℤ (pred_ℤ k *ℤ b) ≡⟨ ap from_ℤ (pred_ℤ-*ℤ k b) ⟩
          from_ℤ ((k *ℤ b) +ℤ neg_ℤ b) ≡⟨ from-add (k *ℤ b) (neg_ℤ b) ⟩
          from_ℤ (k *ℤ b) ⊞ from_ℤ (neg_ℤ b) ≡⟨ ap₂ ◌⊞◌ h (from-neg b) ⟩
          K · B ⊞ neg B ≡⟨ add_comm (K · B) (neg B) ⟩
          neg B ⊞ K · B ≡⟨ ap (λ z. z ⊞ K · B) (sym (neg-unit-mul B)) ⟩
          neg unit · B ⊞ K · B ≡⟨ sym (add-mul R (neg unit) K B) ⟩
          (neg unit ⊞ K) · B ≡⟨ ap (λ z. z · B) (sym (from-pred k)) ⟩
          from_ℤ (pred_ℤ k) · B ∎

  pub from-hom : Hom ℤ_ring R from_ℤ
  from-hom = record { keeps-add = from-add; keeps-mul = from-mul; keeps-neg = from-neg; keeps-nil = refl; keeps-unit = add-nil unit }

-- ---- forms and points carried over
module _ {A B : Type 0} (f : A → B) where
  map-tl : (N : List A) → map f (tl N) ≡ tl (map f N)
  map-tl [] = refl
  map-tl (a ∷ N) = refl

  pub map-after : (i : ℕ) (N : List A) → map f (after i N) ≡ after i (map f N)
  map-after zero N = refl
  map-after (suc i) N = map-after i (tl N) ∙ ap (after i) (map-tl N)

module _ {A B : Type 0} (R : Ring A) (S : Ring B) (f : A → B) (h : Hom R S f) where
  pub map-hd : (N : List A) → f (hd R N) ≡ hd S (map f N)
  map-hd [] = h.keeps-nil
  map-hd (a ∷ N) = refl

  pub map-power : (a : A) (n : ℕ) → f (power R a n) ≡ power S (f a) n
  map-power a zero = h.keeps-unit
  map-power a (suc n) = h.keeps-mul a (power R a n) ∙ ap (S.◌·◌ (f a)) (map-power a n)

  pub val-map : (x : Form A) (N : List A) → val S (map_form f x) (map f N) ≡ f (val R x N)
  val-map (int c) N = refl
  val-map (pop i p) N = ap (val S (map_form f p)) (sym (map-after f i N)) ∙ val-map p (after i N)
  val-map (pow i p q) N =
      let u = power R (hd R N) i in
      let P = val R p N in
      let Q = val R q (tl N) in
      let head : power S (hd S (map f N)) i ≡ f u = ap (λ z. power S z i) (sym (map-hd N)) ∙ sym (map-power (hd R N) i) in
      let lead : S.◌·◌ (power S (hd S (map f N)) i) (val S (map_form f p) (map f N)) ≡ f (R.◌·◌ u P) =
      ap₂ S.◌·◌ head (val-map p N) ∙ sym (h.keeps-mul u P) in
      let rest : val S (map_form f q) (tl (map f N)) ≡ f Q = ap (val S (map_form f q)) (sym (map-tl f N)) ∙ val-map q (tl N) in
      val S (map_form f (pow i p q)) (map f N) ≡⟨ ap₂ S.◌⊞◌ lead rest ⟩
      S.◌⊞◌ (f (R.◌·◌ u P)) (f Q) ≡⟨ sym (h.keeps-add (R.◌·◌ u P) Q) ⟩
      f (R.◌⊞◌ (R.◌·◌ u P) Q) ∎
