-- Forms over the remainders by a prime stand for forms over the integers: within the limits, the normal form of a term over the
-- remainders is that over the integers with each coefficient's remainder, and the integers come back from it.
use Rattle.std.specs.Prelude.{true, cond, List, [], ◌∷◌, ◌≡◌, refl, ℕ, zero, suc, ◌-◌, ◌≤◌, ◌<◌, ◌*◌, ◌%◌, T, ltb, eqb, ℤ, pos, negsuc, nat_abs, length}
use Rattle.std.proofs.Common.{true≢false, sym, ◌∙◌, ap, ap₂, subst, arith, ltb→lt, lt→ltb}
use Rattle.std.proofs.Math.Path.{fun_ext, ◌≡⟨◌⟩◌, ◌∎}
use Rattle.std.proofs.Math.Nat as NatL
use Rattle.std.proofs.Math.Dec.{eqb-suc-zero}
use Rattle.horner.specs.definitions.Form.{Form, int, pop, pow, is_zero, is_pow, Lead, Normal, after}
use Rattle.horner.specs.definitions.Rings.{is_zero_ℤ, ℤ_ring, negᵐ, red_ℤ, mod_ring, prime, prime-pos, p_ring}
use Rattle.horner.specs.laws.Degree.{Bounded}
use Rattle.horner.specs.definitions.Measures.{AllLe, weight_of, degrees_of, weight, degrees}
use Rattle.horner.proofs.laws.Residues.{nat-red}
use Rattle.horner.specs.laws.Residues.{lift}
use Rattle.horner.specs.laws.Within.{Over}
use Rattle.horner.specs.definitions.Term.{Term, norm_ℤ, norm_p}
use Rattle.horner.proofs.laws.Hom.{from_ℤ, from-hom}
use Rattle.horner.specs.laws.Hom.{Hom, map_form}
use Rattle.horner.proofs.laws.Limits.{weight-norm, length-degrees_of, bounded-norm}
use Rattle.horner.proofs.laws.Prime.{P-regular}
use Rattle.horner.proofs.laws.Term.{normal-norm, transfer}
use Rattle.horner.proofs.laws.Tests.{cond_cases, is_true}

pub bounded-map : {A B : Type 0} (f : A → B) (ds : List ℕ) (x : Form A) → Bounded ds x → Bounded ds (map_form f x)
bounded-map f ds (int c) h = tt
bounded-map f ds (pop i p) h = bounded-map f (after i ds) p h
bounded-map f [] (pow i p q) h = absurd h
bounded-map f (d ∷ ds) (pow i p q) h = (h.0, bounded-map f ((d - i) ∷ ds) p h.1, bounded-map f ds q h.2)

pow-map : {A B : Type 0} (f : A → B) (x : Form A) → T (is_pow x) → T (is_pow (map_form f x))
pow-map f (int c) h = h
pow-map f (pop i p) h = h
pow-map f (pow i p q) h = tt

module _ (m : ℕ) (m-pos : 0 < m) where
  red-from : (z : ℤ) → from_ℤ (mod_ring m m-pos) z ≡ red_ℤ m m-pos z
  red-from (pos n) = nat-red m m-pos n
  red-from (negsuc n) = ap (negᵐ m m-pos) (nat-red m m-pos (suc n))

  pub red-hom : Hom ℤ_ring (mod_ring m m-pos) (red_ℤ m m-pos)
  red-hom = subst (Hom ℤ_ring (mod_ring m m-pos)) (fun_ext red-from) (from-hom (mod_ring m m-pos))

  -- the number that stands for a small negative one
  neg_small : (n : ℕ) → suc n < m → (red_ℤ m m-pos (negsuc n)).0 ≡ m - suc n
  neg_small n h = ap (λ z. (m - z) % m) (NatL.mod-eq_of_lt h) ∙ NatL.mod-eq_of_lt (less-m n)
    where
      less-m : (n : ℕ) → m - suc n < m
      less-m n = omega arith

  -- a small integer's remainder is 0 only at 0
  red-is_nil : (z : ℤ) → nat_abs z < m → (mod_ring m m-pos).is_nil (red_ℤ m m-pos z) ≡ is_zero_ℤ z
  red-is_nil (pos zero) h = ap (λ w. eqb w 0) (NatL.zero-mod m)
  red-is_nil (pos (suc n)) h = ap (λ w. eqb w 0) (NatL.mod-eq_of_lt h) ∙ eqb-suc-zero n
  red-is_nil (negsuc n) h = ap (λ w. eqb w 0) (neg_small n h ∙ one_more n h) ∙ eqb-suc-zero (m - suc (suc n))
    where
      one_more : (n : ℕ) → suc n < m → m - suc n ≡ suc (m - suc (suc n))
      one_more n g = omega arith

  red-is_zero : (x : Form ℤ) → weight x < m → is_zero (mod_ring m m-pos) (map_form (red_ℤ m m-pos) x) ≡ is_zero ℤ_ring x
  red-is_zero (int c) h = red-is_nil c h
  red-is_zero (pop i p) h = refl
  red-is_zero (pow i p q) h = refl

  red-lead : (x : Form ℤ) → weight x < m → Lead ℤ_ring x → Lead (mod_ring m m-pos) (map_form (red_ℤ m m-pos) x)
  red-lead (int c) h l = red-is_nil c h ∙ l
  red-lead (pop i p) h l = tt
  red-lead (pow i p q) h l = red-is_zero q (omega arith) ∙ l

  pub normal-red : (n : ℕ) (x : Form ℤ) → weight x < m → Normal ℤ_ring n x → Normal (mod_ring m m-pos) n (map_form (red_ℤ m m-pos) x)
  normal-red n (int c) h g = tt
  normal-red n (pop i p) h g = (g.0, pow-map (red_ℤ m m-pos) p g.1, normal-red (n - i) p h g.2)
  normal-red n (pow i p q) h g =
      (g.0, g.1, normal-red n p (omega arith) g.2, red-lead p (omega arith) g.3, normal-red (n - 1) q (omega arith) g.4)

  -- ---- back: a number below half of m for itself, any other for what it lacks of m, negative
  abbrev standing : ℕ → ℤ
  standing w = cond (ltb (w * 2) m) (pos w) (negsuc (m - suc w))

  pub lift-red : (z : ℤ) → nat_abs z * 2 < m → lift m m-pos (red_ℤ m m-pos z) ≡ z
  lift-red (pos n) h =
      lift m m-pos (red_ℤ m m-pos (pos n)) ≡⟨ ap standing (NatL.mod-eq_of_lt (small n h)) ⟩
      standing n ≡⟨ cond_cases (ltb (n * 2) m) (λ w. w ≡ pos n) _ _ (λ e. refl) (λ e. absurd (true≢false (sym below ∙ e))) ⟩
      pos n ∎
    where
      small : (n : ℕ) → n * 2 < m → n < m
      small n h = omega arith

      below : ltb (n * 2) m ≡ true
      below = is_true (ltb (n * 2) m) (lt→ltb (n * 2) m h)
  lift-red (negsuc n) h =
      lift m m-pos (red_ℤ m m-pos (negsuc n)) ≡⟨ ap standing (neg_small n (small n h)) ⟩
      standing (m - suc n) ≡⟨ cond_cases (ltb ((m - suc n) * 2) m) (λ w. w ≡ negsuc n) _ _ (λ e. absurd (above e)) (λ e. back) ⟩
      negsuc n ∎
    where
      small : (n : ℕ) → suc n * 2 < m → suc n < m
      small n h = omega arith

      large : (n : ℕ) → suc n * 2 < m → (m - suc n) * 2 < m → ⊥
      large n h g = omega arith

      above : ltb ((m - suc n) * 2) m ≡ true → ⊥
      above e = large n h (ltb→lt ((m - suc n) * 2) m (subst T (sym e) tt))

      back : negsuc (m - suc (m - suc n)) ≡ negsuc n
      back = ap negsuc (omega (arith, h))

  pub lift-form : (x : Form ℤ) → weight x * 2 < m → map_form (lift m m-pos) (map_form (red_ℤ m m-pos) x) ≡ x
  lift-form (int c) h = ap int (lift-red c h)
  lift-form (pop i p) h = ap (pop i) (lift-form p h)
  lift-form (pow i p q) h = ap₂ (pow i) (lift-form p (omega arith)) (lift-form q (omega arith))

-- ---- the prime
module _ (n : ℕ) (t : Term) (over : Over n t) (degrees : AllLe 63 (degrees_of n t)) where
  pub residue : weight_of t < prime → norm_p t ≡ map_form (red_ℤ prime prime-pos) (norm_ℤ t)
  residue w =
      let ρ = red_ℤ prime prime-pos in
      let over' : Over (length ds) t = subst (λ z. Over z t) (sym len) over in
      let normal : Normal ℤ_ring (length ds) (norm_ℤ t) = normal-norm ℤ_ring (λ z. z) refl (length ds) t over' in
      transfer p_ring ρ (red-hom prime prime-pos) 63 P-regular refl ds degrees t over'
      (normal-red prime prime-pos (length ds) (norm_ℤ t) (omega (arith, weight-norm t)) normal)
      (bounded-norm p_ring ρ n t over) (bounded-map ρ ds (norm_ℤ t) (bounded-norm ℤ_ring (λ z. z) n t over))
    where
      ds : List ℕ
      ds = degrees_of n t

      len : length ds ≡ n
      len = length-degrees_of n t over

  -- the weight limit: the integers' form comes back
  pub exact : weight_of t ≤ 1073741823 → map_form (lift prime prime-pos) (norm_p t) ≡ norm_ℤ t
  exact w =
      let back = map_form (lift prime prime-pos) in
      back (norm_p t) ≡⟨ ap back (residue (omega arith)) ⟩
      back (map_form (red_ℤ prime prime-pos) (norm_ℤ t)) ≡⟨ lift-form prime prime-pos (norm_ℤ t) (omega (arith, weight-norm t)) ⟩
      norm_ℤ t ∎
