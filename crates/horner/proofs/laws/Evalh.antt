-- Theorem E for Definition 5's own value: Lemmas 1 to 6, at points at least as long as the row. (Lemma 7 is in laws/Term.)
use Rattle.std.specs.Prelude.{List, [], ◌∷◌, ◌≡◌, refl, ℕ, zero, suc, ◌+◌, ◌-◌, ◌≤◌, length, drop}
use Rattle.std.proofs.Common.{sym, ◌∙◌, ap, ap₂, arith, length-drop}
use Rattle.std.proofs.Math.Path.{◌≡⟨◌⟩◌, ◌∎}
use Rattle.horner.specs.definitions.Form.{Form, int, pop, pow, mkpop, mkpow, sum, negate, prod, raise, Normal, after, evalh}
use Rattle.horner.specs.definitions.Rings.{Ring, power}
use Rattle.horner.proofs.laws.Normal.{normal-mkpow, normal-sum, normal-negate, normal-prod, normal-raise}
use Rattle.horner.proofs.laws.Product.{val-prod, val-raise}
use Rattle.horner.proofs.laws.Value.{after-add, val-mkpow, val-sum, val-negate, val}

module _ {A : Type 0} where
  after-nil : (i : ℕ) → after {A = A} i [] ≡ []
  after-nil zero = refl
  after-nil (suc i) = after-nil i

  pub after-drop : (i : ℕ) (N : List A) → after i N ≡ drop i N
  after-drop zero N = refl
  after-drop (suc i) [] = after-nil i
  after-drop (suc i) (a ∷ N) = after-drop i N

module _ {A : Type 0} (R : Ring A) where
  open R use {◌⊞◌, neg, ◌·◌}

  pub evalh-val : (n : ℕ) (x : Form A) (N : List A) → Normal R n x → n ≤ length N → evalh R x N ≡ val R x N
  evalh-val n (int c) N h l = refl
  evalh-val n (pop i p) N h l =
      evalh-val (n - i) p (drop i N) h.2 (omega (arith, length-drop i N)) ∙ ap (val R p) (sym (after-drop i N))
  evalh-val n (pow i p q) [] h l = absurd (omega (arith, h.1))
  evalh-val n (pow i p q) (a ∷ N) h l =
      ap₂ (λ z w. power R a i · z ⊞ w) (evalh-val n p (a ∷ N) h.2 l) (evalh-val (n - 1) q N h.4 (omega arith))

  -- Lemma 1, at every point
  pub evalh-mkpop : (i : ℕ) (p : Form A) (N : List A) → evalh R (mkpop i p) N ≡ evalh R (pop i p) N
  evalh-mkpop zero p N = refl
  evalh-mkpop (suc i) (int c) N = refl
  evalh-mkpop (suc i) (pop j q) N = ap (evalh R q) dropped
    where
      dropped : drop (suc i + j) N ≡ drop j (drop (suc i) N)
      dropped =
          drop (suc i + j) N ≡⟨ sym (after-drop (suc i + j) N) ⟩
          after (suc i + j) N ≡⟨ after-add (suc i) j N ⟩
          after j (after (suc i) N) ≡⟨ after-drop j (after (suc i) N) ⟩
          drop j (after (suc i) N) ≡⟨ ap (drop j) (after-drop (suc i) N) ⟩
          drop j (drop (suc i) N) ∎
  evalh-mkpop (suc i) (pow j q r) N = refl

  -- Lemma 2
  pub evalh-mkpow : (n i : ℕ) (p q : Form A) (a : A) (N : List A) → 1 ≤ i → 1 ≤ n → n ≤ length (a ∷ N) → Normal R n p → Normal R (n - 1) q
      → evalh R (mkpow R i p q) (a ∷ N) ≡ evalh R (pow i p q) (a ∷ N)
  evalh-mkpow n i p q a N hi hn l hp hq =
      let u = power R a i in
      let ep : val R p (a ∷ N) ≡ evalh R p (a ∷ N) = sym (evalh-val n p (a ∷ N) hp l) in
      let eq : val R q N ≡ evalh R q N = sym (evalh-val (n - 1) q N hq (omega arith)) in
      evalh R (mkpow R i p q) (a ∷ N) ≡⟨ evalh-val n (mkpow R i p q) (a ∷ N) (normal-mkpow R n i p q hi hn hp hq) l ⟩
      val R (mkpow R i p q) (a ∷ N) ≡⟨ val-mkpow R i p q (a ∷ N) ⟩
      u · val R p (a ∷ N) ⊞ val R q N ≡⟨ ap₂ (λ z w. u · z ⊞ w) ep eq ⟩
      u · evalh R p (a ∷ N) ⊞ evalh R q N ∎

  module _ (n : ℕ) (N : List A) (long : n ≤ length N) where
    -- at a point as long as the row
    same-value : (x : Form A) → Normal R n x → evalh R x N ≡ val R x N
    same-value x h = evalh-val n x N h long

    -- Lemma 3
    pub evalh-sum : (x y : Form A) → Normal R n x → Normal R n y → evalh R (sum R x y) N ≡ evalh R x N ⊞ evalh R y N
    evalh-sum x y hx hy =
        evalh R (sum R x y) N ≡⟨ same-value (sum R x y) (normal-sum R n x y hx hy) ⟩
        val R (sum R x y) N ≡⟨ val-sum R x y N ⟩
        val R x N ⊞ val R y N ≡⟨ ap₂ ◌⊞◌ (sym (same-value x hx)) (sym (same-value y hy)) ⟩
        evalh R x N ⊞ evalh R y N ∎

    -- Lemma 4
    pub evalh-negate : (x : Form A) → Normal R n x → evalh R (negate R x) N ≡ neg (evalh R x N)
    evalh-negate x hx =
        evalh R (negate R x) N ≡⟨ same-value (negate R x) (normal-negate R n x hx) ⟩
        val R (negate R x) N ≡⟨ val-negate R x N ⟩
        neg (val R x N) ≡⟨ ap neg (sym (same-value x hx)) ⟩
        neg (evalh R x N) ∎

    -- Lemma 5
    pub evalh-prod : (x y : Form A) → Normal R n x → Normal R n y → evalh R (prod R x y) N ≡ evalh R x N · evalh R y N
    evalh-prod x y hx hy =
        evalh R (prod R x y) N ≡⟨ same-value (prod R x y) (normal-prod R n x y hx hy) ⟩
        val R (prod R x y) N ≡⟨ val-prod R x y N ⟩
        val R x N · val R y N ≡⟨ ap₂ ◌·◌ (sym (same-value x hx)) (sym (same-value y hy)) ⟩
        evalh R x N · evalh R y N ∎

    -- Lemma 6
    pub evalh-raise : (x : Form A) (m : ℕ) → Normal R n x → evalh R (raise R x m) N ≡ power R (evalh R x N) m
    evalh-raise x m hx =
        evalh R (raise R x m) N ≡⟨ same-value (raise R x m) (normal-raise R n x m hx) ⟩
        val R (raise R x m) N ≡⟨ val-raise R x m N ⟩
        power R (val R x N) m ≡⟨ ap (λ z. power R z m) (sym (same-value x hx)) ⟩
        power R (evalh R x N) m ∎
