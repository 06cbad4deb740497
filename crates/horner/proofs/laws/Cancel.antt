-- Lemma 9: normal forms whose sum is 0 are one another's negations.
use Rattle.std.proofs.Common.{true≢false, sym, ◌∙◌, ap, ap₂, subst, arith}
use Rattle.std.specs.Prelude.{◌≡◌, ℕ, zero, suc, ◌+◌, ◌-◌, ◌≤◌, T}
use Rattle.std.proofs.Math.Path.{◌≡⟨◌⟩◌, ◌∎}
use Rattle.horner.specs.definitions.Form.{Form, int, pop, pow, size, mkpop, is_zero, zero_form, mkpow, sum_f, sum, negate, is_pow, Lead}
use Rattle.horner.specs.definitions.Form.{Normal}
use Rattle.horner.specs.definitions.Rings.{Ring}
use Rattle.horner.proofs.laws.Compare.{cmp-cases}
use Rattle.horner.proofs.laws.Normal.{lead-negate, pow-negate}
use Rattle.horner.proofs.laws.Ring.{neg_unique, neg-neg}
use Rattle.horner.proofs.laws.Tests.{cond_cases}
use Rattle.horner.proofs.laws.Value.{size-pos, no_fuel, Zero}

module _ {A : Type 0} (R : Ring A) where
  open R use {◌⊞◌, is_nil, add_comm, is_nil-true, is_nil-nil}

  pub zero_is : (x : Form A) → Zero R x → x ≡ zero_form R
  zero_is (int c) h = ap int (is_nil-true c h)
  zero_is (pop i p) h = absurd (true≢false (sym h))
  zero_is (pow i p q) h = absurd (true≢false (sym h))

  pub zero-mkpop : (i : ℕ) (p : Form A) → Zero R (mkpop i p) → Zero R p
  zero-mkpop zero p h = h
  zero-mkpop (suc i) (int c) h = h
  zero-mkpop (suc i) (pop j q) h = h
  zero-mkpop (suc i) (pow j q r) h = h

  pub zero-mkpow : (i : ℕ) (p q : Form A) → Zero R (mkpow R i p q) → Zero R p × Zero R q
  zero-mkpow i (int c) q g =
      cond_cases (is_nil c) (λ z. Zero R z → Zero R (int c) × Zero R q) _ _
      (λ e h. (e, zero-mkpop 1 q h)) (λ e h. absurd (true≢false (sym h))) g
  zero-mkpow i (pop j p) q h = absurd (true≢false (sym h))
  zero-mkpow i (pow j r s) q g =
      cond_cases (is_zero R s) (λ z. Zero R z → Zero R (pow j r s) × Zero R q) _ _
      (λ e h. absurd (true≢false (sym h))) (λ e h. absurd (true≢false (sym h))) g

  pub negate-negate : (x : Form A) → negate R (negate R x) ≡ x
  negate-negate (int a) = ap int (neg-neg R a)
  negate-negate (pop i p) = ap (pop i) (negate-negate p)
  negate-negate (pow i p q) = ap₂ (pow i) (negate-negate p) (negate-negate q)

  -- a POP is no negation of a POW, nor (POW d r 0) of a form that leads
  pop-not : (i : ℕ) (p q : Form A) → T (is_pow q) → pop i p ≡ negate R q → ⊥
  pop-not i p q h e = subst (λ x. T (is_pow x)) (sym e) (pow-negate R q h)

  tail-not : (i : ℕ) (p q : Form A) → Lead R q → pow i p (zero_form R) ≡ negate R q → ⊥
  tail-not i p q h e = true≢false (sym is_nil-nil ∙ subst (Lead R) (sym e) (lead-negate R q h))

  cancel_f : (k n : ℕ) (x y : Form A) → size x + size y ≤ k → Normal R n x → Normal R n y → Zero R (sum_f R k x y) → x ≡ negate R y
  cancel_f zero n x y h hx hy z = absurd (no_fuel R x y h)
  cancel_f (suc k) n (int a) (int b) h hx hy z = ap int (neg_unique R b a (add_comm b a ∙ is_nil-true (a ⊞ b) z))
  cancel_f (suc k) n (int a) (pop j q) h hx hy z = absurd (true≢false (sym z))
  cancel_f (suc k) n (int a) (pow j q r) h hx hy z = absurd (true≢false (sym z))
  cancel_f (suc k) n (pop i p) (int b) h hx hy z = absurd (true≢false (sym z))
  cancel_f (suc k) n (pop i p) (pop j q) h hx hy z =
      cmp-cases i j (λ w. Zero R w → pop i p ≡ pop j (negate R q)) _ _ _
      (λ e z. ap₂ pop e (cancel_f k (n - i) p q (omega arith) hx.2 (subst (λ w. Normal R (n - w) q) (sym e) hy.2)
      (zero-mkpop i (sum_f R k p q) z)))
      (λ d e z. let x' = pop (suc d) p in
      let hx' : Normal R (n - j) x' = (omega arith, hx.1, subst (λ w. Normal R w p) (minus n i j d e) hx.2) in
      absurd (pop-not (suc d) p q hy.1 (cancel_f k (n - j) x' q (omega arith) hx' hy.2 (zero-mkpop j (sum_f R k x' q) z))))
      (λ d e z. let y' = pop (suc d) q in
      let hy' : Normal R (n - i) y' = (omega arith, hy.1, subst (λ w. Normal R w q) (minus n j i d e) hy.2) in
      absurd (pop-not (suc d) q p hx.1 (cancel_f k (n - i) y' p (omega arith) hy' hx.2 (zero-mkpop i (sum_f R k y' p) z))))
      z
    where
      minus : (n i j d : ℕ) → i ≡ j + suc d → n - i ≡ n - j - suc d
      minus n i j d e = omega arith
  cancel_f (suc k) n (pop zero p) (pow j q r) h hx hy z = absurd (omega (arith, hx.0))
  cancel_f (suc k) n (pop (suc i) p) (pow j q r) h hx hy z = absurd (true≢false (sym z))
  cancel_f (suc k) n (pow j q r) (int b) h hx hy z = absurd (true≢false (sym z))
  cancel_f (suc k) n (pow j q r) (pop zero p) h hx hy z = absurd (omega (arith, hy.0))
  cancel_f (suc k) n (pow j q r) (pop (suc i) p) h hx hy z = absurd (true≢false (sym z))
  cancel_f (suc k) n (pow i p q) (pow j r s) h hx hy z =
      cmp-cases i j (λ w. Zero R w → pow i p q ≡ pow j (negate R r) (negate R s)) _ _ _
      (λ e z. let zs = zero-mkpow i (sum_f R k p r) (sum_f R k q s) z in
      let ep : p ≡ negate R r = cancel_f k n p r (omega arith) hx.2 hy.2 zs.0 in
      let eq : q ≡ negate R s = cancel_f k (n - 1) q s (omega arith) hx.4 hy.4 zs.1 in
      λ t. pow (e t) (ep t) (eq t))
      (λ d e z. let p' = pow (suc d) p (zero_form R) in
      let hp : Normal R n p' = (omega arith, hx.1, hx.2, hx.3, tt) in
      let zp : Zero R (sum_f R k p' r) = (zero-mkpow j (sum_f R k p' r) (sum_f R k q s) z).0 in
      absurd (tail-not (suc d) p r hy.3 (cancel_f k n p' r (omega (arith, size-pos q)) hp hy.2 zp)))
      (λ d e z. let r' = pow (suc d) r (zero_form R) in
      let hr : Normal R n r' = (omega arith, hx.1, hy.2, hy.3, tt) in
      let zr : Zero R (sum_f R k r' p) = (zero-mkpow i (sum_f R k r' p) (sum_f R k s q) z).0 in
      absurd (tail-not (suc d) r p hx.3 (cancel_f k n r' p (omega (arith, size-pos s)) hr hx.2 zr)))
      z

  -- Lemma 9
  pub cancel : (n : ℕ) (x y : Form A) → Normal R n x → Normal R n y → Zero R (sum R x y) → x ≡ negate R y
  cancel n x y hx hy z = cancel_f (size x + size y) n x y (omega arith) hx hy z

  -- two normal forms whose difference is 0 are one
  pub difference : (n : ℕ) (x y : Form A) → Normal R n x → Normal R n (negate R y) → Zero R (sum R x (negate R y)) → x ≡ y
  difference n x y hx hy z =
      x ≡⟨ cancel n x (negate R y) hx hy z ⟩
      negate R (negate R y) ≡⟨ negate-negate y ⟩
      y ∎
