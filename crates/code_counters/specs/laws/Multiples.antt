-- Forms over the remainders by m: a difference of reduced forms is 0 exactly where each coefficient of the difference is a multiple of m.
-- m may be any number but 0, so that the ring may have divisors of zero.
use Rattle.std.specs.Prelude.{Bool, true, false, ◌&&◌, List, ◌≡◌, refl, ℕ, zero, suc, ◌-◌, ◌<◌, ◌%◌, eqb, ℤ, pos, negsuc, nat_abs, length}
use Rattle.std.proofs.Common.{sym, ◌∙◌, ap, ap₂, subst, arith, eqb→eq}
use Rattle.std.proofs.Math.Nat as NatL
use Rattle.std.proofs.Math.Dec.{eqb-suc-zero}
use Rattle.horner.specs.definitions.Measures.{coef_at, multiples_of}
use Rattle.horner.specs.definitions.Form.{Form, int, pop, pow, mkpop, is_zero, mkpow, sum, negate, Normal}
use Rattle.horner.specs.definitions.Rings.{ℤ_ring, Res, red_ℤ, mod_ring, Ring}
use Rattle.horner.proofs.laws.Lifting.{red-hom}
use Rattle.horner.proofs.laws.Normal.{normal-sum, normal-negate}
use Rattle.horner.proofs.laws.Tests.{cond_cases, true-is}
use Rattle.code_walk.specs.Carrying.{map_normal}
use Rattle.code_walk.specs.Shapes.{Decides}
use Rattle.code_walk.specs.laws.Carrying.{normal-map_normal}
use Rattle.code_counters.specs.laws.Reading.{coef, coef-sum, coef-negate, coef-map_normal, coef-is, vanish, vanished}

-- two tests that come out true together are one
both : (a b : Bool) → (a ≡ true → b ≡ true) → (b ≡ true → a ≡ true) → a ≡ b
both true b f g = sym (f refl)
both false true f g = g refl
both false false f g = refl

-- ---- when a form is 0
module _ {A : Type 0} (R : Ring A) where
  is_zero-mkpop : (i : ℕ) (p : Form A) → is_zero R (mkpop i p) ≡ is_zero R p
  is_zero-mkpop zero p = refl
  is_zero-mkpop (suc i) (int c) = refl
  is_zero-mkpop (suc i) (pop j q) = refl
  is_zero-mkpop (suc i) (pow j q r) = refl

  is_zero-mkpow : (i : ℕ) (p q : Form A) → is_zero R (mkpow R i p q) ≡ is_zero R p && is_zero R q
  is_zero-mkpow i (int c) q =
      cond_cases (R.is_nil c) (λ z. is_zero R z ≡ R.is_nil c && is_zero R q) _ _
      (λ e. is_zero-mkpop 1 q ∙ ap (λ b. b && is_zero R q) (sym e))
      (λ e. ap (λ b. b && is_zero R q) (sym e))
  is_zero-mkpow i (pop j p) q = refl
  is_zero-mkpow i (pow j r s) q = cond_cases (is_zero R s) (λ z. is_zero R z ≡ false) _ _ (λ e. refl) (λ e. refl)

  -- two normal forms that have the same coefficients are both 0, or none is
  zero-together :
      (n : ℕ) (x y : Form A) → Normal R n x → Normal R n y → ((ks : List ℕ) → coef R x ks ≡ coef R y ks) → is_zero R x ≡ is_zero R y
  zero-together n x y hx hy e = both (is_zero R x) (is_zero R y) (over n x y hx hy e) (over n y x hy hx (λ ks. sym (e ks)))
    where
      over :
          (n : ℕ) (x y : Form A) → Normal R n x → Normal R n y → ((ks : List ℕ) → coef R x ks ≡ coef R y ks) → is_zero R x ≡ true →
          is_zero R y ≡ true
      over n x y hx hy e z =
          vanish R n y hy
          (λ ks l. coef-is R ks y (subst (λ k. Normal R k y) (sym l) hy) ∙ sym (e ks)
          ∙ sym (coef-is R ks x (subst (λ k. Normal R k x) (sym l) hx)) ∙ vanished R ks x z)

module _ (m : ℕ) (m-pos : 0 < m) where
  abbrev S : Ring (Res m)
  S = mod_ring m m-pos

  abbrev ρ : ℤ → Res m
  ρ = red_ℤ m m-pos

  -- ---- a remainder is 0 where the number is a multiple
  negative-nil : (r : ℕ) → r < m → eqb ((m - r) % m) 0 ≡ eqb r 0
  negative-nil zero l = ap (λ z. eqb (z % m) 0) whole ∙ ap (λ z. eqb z 0) (NatL.mod_self m)
    where
      whole : m - 0 ≡ m
      whole = omega arith
  negative-nil (suc r) l = ap (λ z. eqb z 0) (NatL.mod-eq_of_lt less ∙ more) ∙ eqb-suc-zero (m - suc (suc r)) ∙ sym (eqb-suc-zero r)
    where
      less : m - suc r < m
      less = omega arith

      more : m - suc r ≡ suc (m - suc (suc r))
      more = omega arith

  nil-multiple : (z : ℤ) → S.is_nil (ρ z) ≡ eqb (nat_abs z % m) 0
  nil-multiple (pos n) = refl
  nil-multiple (negsuc n) = negative-nil (suc n % m) (NatL.mod-lt (suc n) m-pos)

  -- a form reduced by m is 0 where each of its numbers is a multiple
  pub zero-multiples : (z : Form ℤ) → is_zero S (map_normal S ρ z) ≡ multiples_of m z
  zero-multiples (int c) = nil-multiple c
  zero-multiples (pop i p) = is_zero-mkpop S i (map_normal S ρ p) ∙ zero-multiples p
  zero-multiples (pow i p q) = is_zero-mkpow S i (map_normal S ρ p) (map_normal S ρ q) ∙ ap₂ ◌&&◌ (zero-multiples p) (zero-multiples q)

  -- ---- the difference
  coef-reduced : (x : Form ℤ) (ks : List ℕ) → coef S (map_normal S ρ x) ks ≡ ρ (coef ℤ_ring x ks)
  coef-reduced x ks = coef-map_normal ℤ_ring S ρ (red-hom m m-pos).keeps-add (red-hom m m-pos).keeps-nil x ks

  coef-difference : (x y : Form ℤ) (ks : List ℕ)
      → coef S (sum S (map_normal S ρ x) (negate S (map_normal S ρ y))) ks ≡ coef S (map_normal S ρ (sum ℤ_ring x (negate ℤ_ring y))) ks
  coef-difference x y ks =
      coef-sum S (map_normal S ρ x) (negate S (map_normal S ρ y)) ks
      ∙ ap₂ S.◌⊞◌ (coef-reduced x ks)
      (coef-negate S (map_normal S ρ y) ks ∙ ap S.neg (coef-reduced y ks) ∙ sym ((red-hom m m-pos).keeps-neg (coef ℤ_ring y ks)))
      ∙ sym ((red-hom m m-pos).keeps-add (coef ℤ_ring x ks) (ℤ_ring.neg (coef ℤ_ring y ks)))
      ∙ ap ρ (sym (coef-sum ℤ_ring x (negate ℤ_ring y) ks ∙ ap (ℤ_ring.◌⊞◌ (coef ℤ_ring x ks)) (coef-negate ℤ_ring y ks)))
      ∙ sym (coef-reduced (sum ℤ_ring x (negate ℤ_ring y)) ks)

  -- the difference of the reduced forms is 0 where each number of the difference over the integers is a multiple of m
  pub difference-multiples : (n : ℕ) (x y : Form ℤ) → Normal ℤ_ring n x → Normal ℤ_ring n y
      → is_zero S (sum S (map_normal S ρ x) (negate S (map_normal S ρ y))) ≡ multiples_of m (sum ℤ_ring x (negate ℤ_ring y))
  difference-multiples n x y hx hy =
      zero-together S n (sum S (map_normal S ρ x) (negate S (map_normal S ρ y))) (map_normal S ρ (sum ℤ_ring x (negate ℤ_ring y)))
      (normal-sum S n (map_normal S ρ x) (negate S (map_normal S ρ y)) (normal-map_normal S ρ ℤ_ring n x hx)
      (normal-negate S n (map_normal S ρ y) (normal-map_normal S ρ ℤ_ring n y hy)))
      (normal-map_normal S ρ ℤ_ring n (sum ℤ_ring x (negate ℤ_ring y))
      (normal-sum ℤ_ring n x (negate ℤ_ring y) hx (normal-negate ℤ_ring n y hy)))
      (coef-difference x y)
      ∙ zero-multiples (sum ℤ_ring x (negate ℤ_ring y))

  -- ---- the test says what its name says
  coef_at-reduced : (ks : List ℕ) (z : Form ℤ) → Normal ℤ_ring (length ks) z → coef_at S ks (map_normal S ρ z) ≡ ρ (coef_at ℤ_ring ks z)
  coef_at-reduced ks z h =
      coef-is S ks (map_normal S ρ z) (normal-map_normal S ρ ℤ_ring (length ks) z h) ∙ coef-reduced z ks ∙ ap ρ (sym (coef-is ℤ_ring ks z h))

  multiple-nil : (z : ℤ) → nat_abs z % m ≡ 0 → ρ z ≡ S.nil
  multiple-nil z e = S.is_nil-true (ρ z) (nil-multiple z ∙ ap (λ k. eqb k 0) e)

  nil-is-multiple : (z : ℤ) → ρ z ≡ S.nil → nat_abs z % m ≡ 0
  nil-is-multiple z e = eqb→eq (nat_abs z % m) 0 (true-is (sym (nil-multiple z) ∙ ap S.is_nil e ∙ S.is_nil-nil))

  -- `multiples_of` is true of a normal form in n variables exactly where each coefficient of its polynomial is a multiple of m
  pub multiples-coefs :
      (n : ℕ) (z : Form ℤ) → Normal ℤ_ring n z →
      Decides (multiples_of m z) ((ks : List ℕ) → length ks ≡ n → nat_abs (coef_at ℤ_ring ks z) % m ≡ 0)
  multiples-coefs n z h = record {
    yes =
        λ e ks l. nil-is-multiple (coef_at ℤ_ring ks z)
        (sym (coef_at-reduced ks z (at ks l)) ∙ vanished S ks (map_normal S ρ z) (zero-multiples z ∙ e));
    no = λ e. sym (zero-multiples z)
        ∙ vanish S n (map_normal S ρ z) (normal-map_normal S ρ ℤ_ring n z h)
        (λ ks l. coef_at-reduced ks z (at ks l) ∙ multiple-nil (coef_at ℤ_ring ks z) (e ks l));
  }
    where
      at : (ks : List ℕ) → length ks ≡ n → Normal ℤ_ring (length ks) z
      at ks l = subst (λ k. Normal ℤ_ring k z) (sym l) h
