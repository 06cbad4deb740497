-- Normal forms (Definition 6 as corrected: the p of a POW is not 0, and a POW stands below the row's length), and theorem N: the
-- operations keep them.
use Rattle.std.specs.Prelude.{Bool, true, false, ◌≡◌, refl, ℕ, zero, suc, ◌+◌, ◌-◌, ◌≤◌, T}
use Rattle.std.proofs.Common.{true≢false, sym, ◌∙◌, ap, subst, arith}
use Rattle.horner.specs.definitions.Form.{Form, int, pop, pow, size, mkpop, lower, is_zero, zero_form, mkpow, add_int, sum_f, sum}
use Rattle.horner.specs.definitions.Form.{negate, scale, prod_f, prod, raise, is_pow, Lead, Normal}
use Rattle.horner.specs.definitions.Rings.{Ring}
use Rattle.horner.proofs.laws.Compare.{cmp-cases}
use Rattle.horner.proofs.laws.Ring.{neg-neg, neg-nil}
use Rattle.horner.proofs.laws.Tests.{cond_cases}
use Rattle.horner.proofs.laws.Value.{size-pos, lower-fits, lower-fits', size-mkpop}

module _ {A : Type 0} (R : Ring A) where
  open R use {neg, nil, is_nil, is_nil-true, is_nil-nil}

  -- the number of variables, written another way
  at : {m n : ℕ} (p : Form A) → m ≡ n → Normal R m p → Normal R n p
  at p e h = subst (λ z. Normal R z p) e h

  pub normal-mkpop : (n i : ℕ) (p : Form A) → Normal R (n - i) p → Normal R n (mkpop i p)
  normal-mkpop n zero p h = at p (omega arith) h
  normal-mkpop n (suc i) (int c) h = tt
  normal-mkpop n (suc i) (pop j q) h = (omega arith, h.1, at q (omega arith) h.2)
  normal-mkpop n (suc i) (pow j q r) h = (omega arith, tt, h)

  pub normal-lower : (n i : ℕ) (p : Form A) → T (is_pow p) → Normal R (n - suc i) p → Normal R (n - 1) (lower i p)
  normal-lower n zero p g h = h
  normal-lower n (suc i) p g h = (omega arith, g, at p (omega arith) h)

  pub normal-mkpow : (n i : ℕ) (p q : Form A) → 1 ≤ i → 1 ≤ n → Normal R n p → Normal R (n - 1) q → Normal R n (mkpow R i p q)
  normal-mkpow n i (int c) q hi hn hp hq =
      cond_cases (is_nil c) (Normal R n) _ _ (λ e. normal-mkpop n 1 q hq) (λ e. (hi, hn, hp, e, hq))
  normal-mkpow n i (pop j p) q hi hn hp hq = (hi, hn, hp, tt, hq)
  normal-mkpow n i (pow j r s) q hi hn hp hq =
      cond_cases (is_zero R s) (Normal R n) _ _ (λ e. (omega arith, hn, hp.2, hp.3, hq)) (λ e. (hi, hn, hp, e, hq))

  -- a form that leads is not 0, and a POW is not
  pub lead-not-zero : (x : Form A) → Lead R x → is_zero R x ≡ false
  lead-not-zero (int c) h = h
  lead-not-zero (pop i p) h = refl
  lead-not-zero (pow i p q) h = refl

  pub pow-not-zero : (x : Form A) → T (is_pow x) → is_zero R x ≡ false
  pow-not-zero (int c) h = absurd h
  pow-not-zero (pop i p) h = refl
  pow-not-zero (pow i p q) h = refl

  pub lower-not-zero : (i : ℕ) (p : Form A) → T (is_pow p) → is_zero R (lower i p) ≡ false
  lower-not-zero zero (int c) h = absurd h
  lower-not-zero zero (pop j p) h = absurd h
  lower-not-zero zero (pow j p q) h = refl
  lower-not-zero (suc i) p h = refl

  -- a POW stands below the row's length
  pub pow-level : (n : ℕ) (p : Form A) → T (is_pow p) → Normal R n p → 1 ≤ n
  pow-level n (int c) w h = absurd w
  pow-level n (pop i p) w h = absurd w
  pow-level n (pow i p q) w h = h.1

  -- ---- the sum
  pow-add_int : (a : A) (p : Form A) → T (is_pow p) → T (is_pow (add_int R a p))
  pow-add_int a (int c) h = h
  pow-add_int a (pop i p) h = h
  pow-add_int a (pow i p q) h = tt

  pub normal-add_int : (n : ℕ) (a : A) (y : Form A) → Normal R n y → Normal R n (add_int R a y)
  normal-add_int n a (int b) h = tt
  normal-add_int n a (pop i p) h = (h.0, pow-add_int a p h.1, normal-add_int (n - i) a p h.2)
  normal-add_int n a (pow i p q) h = (h.0, h.1, h.2, h.3, normal-add_int (n - 1) a q h.4)

  pub normal-sum_f : (k n : ℕ) (x y : Form A) → size x + size y ≤ k → Normal R n x → Normal R n y → Normal R n (sum_f R k x y)
  normal-sum_f zero n x y h hx hy = hx
  normal-sum_f (suc k) n (int a) y h hx hy = normal-add_int n a y hy
  normal-sum_f (suc k) n (pop i p) (int b) h hx hy = normal-add_int n b (pop i p) hx
  normal-sum_f (suc k) n (pop i p) (pop j q) h hx hy =
      cmp-cases i j (Normal R n) _ _ _
      (λ e. normal-mkpop n i (sum_f R k p q) (normal-sum_f k (n - i) p q (omega arith) hx.2 (at q (omega arith) hy.2)))
      (λ d e. normal-mkpop n j (sum_f R k (pop (suc d) p) q)
      (normal-sum_f k (n - j) (pop (suc d) p) q (omega arith) (omega arith, hx.1, at p (omega arith) hx.2) hy.2))
      (λ d e. normal-mkpop n i (sum_f R k (pop (suc d) q) p)
      (normal-sum_f k (n - i) (pop (suc d) q) p (omega arith) (omega arith, hy.1, at q (omega arith) hy.2) hx.2))
  normal-sum_f (suc k) n (pop zero p) (pow j q r) h hx hy = normal-sum_f k n p (pow j q r) (omega arith) (at p (omega arith) hx.2) hy
  normal-sum_f (suc k) n (pop (suc i) p) (pow j q r) h hx hy = (
    hy.0,
    hy.1,
    hy.2,
    hy.3,
    normal-sum_f k (n - 1) r (lower i p) (lower-fits R i p r k (omega arith)) hy.4 (normal-lower n i p hx.1 hx.2),
  )
  normal-sum_f (suc k) n (pow j q r) (int b) h hx hy = normal-add_int n b (pow j q r) hx
  normal-sum_f (suc k) n (pow j q r) (pop zero p) h hx hy = normal-sum_f k n p (pow j q r) (omega arith) (at p (omega arith) hy.2) hx
  normal-sum_f (suc k) n (pow j q r) (pop (suc i) p) h hx hy = (
    hx.0,
    hx.1,
    hx.2,
    hx.3,
    normal-sum_f k (n - 1) r (lower i p) (lower-fits R i p r k (omega arith)) hx.4 (normal-lower n i p hy.1 hy.2),
  )
  normal-sum_f (suc k) n (pow i p q) (pow j r s) h hx hy =
      cmp-cases i j (Normal R n) _ _ _
      (λ e. normal-mkpow n i (sum_f R k p r) (sum_f R k q s) hx.0 hx.1
      (normal-sum_f k n p r (omega arith) hx.2 hy.2) (normal-sum_f k (n - 1) q s (omega arith) hx.4 hy.4))
      (λ d e. normal-mkpow n j (sum_f R k (pow (suc d) p (zero_form R)) r) (sum_f R k q s) hy.0 hx.1
      (normal-sum_f k n (pow (suc d) p (zero_form R)) r (omega (arith, size-pos q)) (omega arith, hx.1, hx.2, hx.3, tt) hy.2)
      (normal-sum_f k (n - 1) q s (omega arith) hx.4 hy.4))
      (λ d e. normal-mkpow n i (sum_f R k (pow (suc d) r (zero_form R)) p) (sum_f R k s q) hx.0 hx.1
      (normal-sum_f k n (pow (suc d) r (zero_form R)) p (omega (arith, size-pos s)) (omega arith, hx.1, hy.2, hy.3, tt) hx.2)
      (normal-sum_f k (n - 1) s q (omega arith) hy.4 hx.4))

  pub normal-sum : (n : ℕ) (x y : Form A) → Normal R n x → Normal R n y → Normal R n (sum R x y)
  normal-sum n x y hx hy = normal-sum_f (size x + size y) n x y (omega arith) hx hy

  -- ---- the negation
  is_nil-neg : (c : A) → is_nil c ≡ false → is_nil (neg c) ≡ false
  is_nil-neg c h = decide (is_nil (neg c)) refl
    where
      decide : (b : Bool) → is_nil (neg c) ≡ b → b ≡ false
      decide false e = refl
      decide true e = absurd (true≢false (sym is_nil-nil ∙ ap is_nil (sym neg-nil') ∙ h))
        where
          neg-nil' : c ≡ nil
          neg-nil' = sym (neg-neg R c) ∙ ap neg (is_nil-true (neg c) e) ∙ neg-nil R

  is_zero-negate : (s : Form A) → is_zero R s ≡ false → is_zero R (negate R s) ≡ false
  is_zero-negate (int c) h = is_nil-neg c h
  is_zero-negate (pop i p) h = refl
  is_zero-negate (pow i p q) h = refl

  pub lead-negate : (p : Form A) → Lead R p → Lead R (negate R p)
  lead-negate (int c) h = is_nil-neg c h
  lead-negate (pop i p) h = tt
  lead-negate (pow j r s) h = is_zero-negate s h

  pub pow-negate : (p : Form A) → T (is_pow p) → T (is_pow (negate R p))
  pow-negate (int c) h = h
  pow-negate (pop i p) h = h
  pow-negate (pow i p q) h = tt

  pub normal-negate : (n : ℕ) (x : Form A) → Normal R n x → Normal R n (negate R x)
  normal-negate n (int a) h = tt
  normal-negate n (pop i p) h = (h.0, pow-negate p h.1, normal-negate (n - i) p h.2)
  normal-negate n (pow i p q) h = (h.0, h.1, normal-negate n p h.2, lead-negate p h.3, normal-negate (n - 1) q h.4)

  -- ---- the product
  pub normal-scale : (n : ℕ) (a : A) (y : Form A) → Normal R n y → Normal R n (scale R a y)
  normal-scale n a (int b) h = tt
  normal-scale n a (pop i p) h = normal-mkpop n i (scale R a p) (normal-scale (n - i) a p h.2)
  normal-scale n a (pow i p q) h =
      normal-mkpow n i (scale R a p) (scale R a q) h.0 h.1 (normal-scale n a p h.2) (normal-scale (n - 1) a q h.4)

  pub normal-prod_f : (k n : ℕ) (x y : Form A) → size x + size y ≤ k → Normal R n x → Normal R n y → Normal R n (prod_f R k x y)
  normal-prod_f zero n x y h hx hy = hx
  normal-prod_f (suc k) n (int a) y h hx hy = normal-scale n a y hy
  normal-prod_f (suc k) n (pop i p) (int b) h hx hy = normal-scale n b (pop i p) hx
  normal-prod_f (suc k) n (pop i p) (pop j q) h hx hy =
      cmp-cases i j (Normal R n) _ _ _
      (λ e. normal-mkpop n i (prod_f R k p q) (normal-prod_f k (n - i) p q (omega arith) hx.2 (at q (omega arith) hy.2)))
      (λ d e. normal-mkpop n j (prod_f R k (pop (suc d) p) q)
      (normal-prod_f k (n - j) (pop (suc d) p) q (omega arith) (omega arith, hx.1, at p (omega arith) hx.2) hy.2))
      (λ d e. normal-mkpop n i (prod_f R k (pop (suc d) q) p)
      (normal-prod_f k (n - i) (pop (suc d) q) p (omega arith) (omega arith, hy.1, at q (omega arith) hy.2) hx.2))
  normal-prod_f (suc k) n (pop zero p) (pow j q r) h hx hy = normal-prod_f k n p (pow j q r) (omega arith) (at p (omega arith) hx.2) hy
  normal-prod_f (suc k) n (pop (suc i) p) (pow j q r) h hx hy =
      normal-mkpow n j (prod_f R k (pop (suc i) p) q) (prod_f R k (lower i p) r) hy.0 hy.1
      (normal-prod_f k n (pop (suc i) p) q (omega arith) hx hy.2)
      (normal-prod_f k (n - 1) (lower i p) r (lower-fits' R i p r k (omega arith)) (normal-lower n i p hx.1 hx.2) hy.4)
  normal-prod_f (suc k) n (pow j q r) (int b) h hx hy = normal-scale n b (pow j q r) hx
  normal-prod_f (suc k) n (pow j q r) (pop zero p) h hx hy = normal-prod_f k n p (pow j q r) (omega arith) (at p (omega arith) hy.2) hx
  normal-prod_f (suc k) n (pow j q r) (pop (suc i) p) h hx hy =
      normal-mkpow n j (prod_f R k (pop (suc i) p) q) (prod_f R k (lower i p) r) hx.0 hx.1
      (normal-prod_f k n (pop (suc i) p) q (omega arith) hy hx.2)
      (normal-prod_f k (n - 1) (lower i p) r (lower-fits' R i p r k (omega arith)) (normal-lower n i p hy.1 hy.2) hx.4)
  normal-prod_f (suc k) n (pow i p q) (pow j r s) h hx hy =
      normal-sum n (sum R (mkpow R (i + j) (prod_f R k p r) (prod_f R k q s)) (mkpow R i (prod_f R k p (mkpop 1 s)) (zero_form R)))
      (mkpow R j (prod_f R k r (mkpop 1 q)) (zero_form R))
      (normal-sum n (mkpow R (i + j) (prod_f R k p r) (prod_f R k q s)) (mkpow R i (prod_f R k p (mkpop 1 s)) (zero_form R))
      (normal-mkpow n (i + j) (prod_f R k p r) (prod_f R k q s) (omega arith) hx.1
      (normal-prod_f k n p r (omega arith) hx.2 hy.2) (normal-prod_f k (n - 1) q s (omega arith) hx.4 hy.4))
      (normal-mkpow n i (prod_f R k p (mkpop 1 s)) (zero_form R) hx.0 hx.1
      (normal-prod_f k n p (mkpop 1 s) (omega (arith, size-mkpop R s)) hx.2 (normal-mkpop n 1 s hy.4)) tt))
      (normal-mkpow n j (prod_f R k r (mkpop 1 q)) (zero_form R) hy.0 hx.1
      (normal-prod_f k n r (mkpop 1 q) (omega (arith, size-mkpop R q)) hy.2 (normal-mkpop n 1 q hx.4)) tt)

  pub normal-prod : (n : ℕ) (x y : Form A) → Normal R n x → Normal R n y → Normal R n (prod R x y)
  normal-prod n x y hx hy = normal-prod_f (size x + size y) n x y (omega arith) hx hy

  pub normal-raise : (n : ℕ) (x : Form A) (m : ℕ) → Normal R n x → Normal R n (raise R x m)
  normal-raise n x zero h = tt
  normal-raise n x (suc m) h = normal-prod n x (raise R x m) h (normal-raise n x m h)
