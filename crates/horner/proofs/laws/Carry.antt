-- The operations on forms carried from the integers to the remainders by a prime: within the limits, the operation over the remainders
-- gives the remainders of the operation over the integers.
use Rattle.std.specs.Prelude.{List, map, ◌≡◌, ℕ, ◌+◌, ◌≤◌, ◌<◌, ◌*◌, ◌^◌, ℤ, ◌+ℤ◌, ◌*ℤ◌, nat_abs, length}
use Rattle.std.proofs.Common.{sym, ◌∙◌, ap, ap₂, subst, arith}
use Rattle.std.proofs.Math.Path.{◌≡⟨◌⟩◌, ◌∎}
use Rattle.std.proofs.lemmas.List.{length-map}
use Rattle.horner.specs.definitions.Form.{Form, int, pop, pow, sum, negate, prod, raise, Normal, nats}
use Rattle.horner.specs.definitions.Rings.{ℤ_ring, Res, prime, prime-pos, p_ring, power}
use Rattle.horner.specs.laws.Degree.{Bounded}
use Rattle.horner.specs.definitions.Measures.{sums, multiples, AllLe, weight}
use Rattle.horner.specs.laws.Residues.{lift}
use Rattle.horner.proofs.laws.Bounds.{bounded-sum, bounded-prod, bounded-raise}
use Rattle.horner.proofs.laws.Canonical.{canon-box}
use Rattle.horner.proofs.laws.Hom.{map-power, val-map}
use Rattle.horner.specs.laws.Hom.{Hom, map_form}
use Rattle.horner.proofs.laws.Lifting.{bounded-map, red-hom, normal-red, lift-form}
use Rattle.horner.proofs.laws.Measure.{meas-sum, meas-prod, meas-raise}
use Rattle.horner.proofs.laws.Normal.{normal-sum, normal-prod, normal-raise}
use Rattle.horner.proofs.laws.Prime.{P-regular}
use Rattle.horner.proofs.laws.Term.{map-nats}
use Rattle.horner.proofs.laws.Product.{val-prod, val-raise}
use Rattle.horner.proofs.laws.Value.{val-sum, val}
use Rattle.horner.proofs.laws.Weight.{weight-size}
use Rattle.horner.specs.laws.Carry.{ρ, carry}

ρ-hom : Hom ℤ_ring p_ring ρ
ρ-hom = red-hom prime prime-pos

pub carry-negate : (x : Form ℤ) → carry (negate ℤ_ring x) ≡ negate p_ring (carry x)
carry-negate (int c) = ap int ((red-hom prime prime-pos).keeps-neg c)
carry-negate (pop i p) = ap (pop i) (carry-negate p)
carry-negate (pow i p q) = ap₂ (pow i) (carry-negate p) (carry-negate q)

-- a value over the remainders is the remainder of the value
val-carry : (x : Form ℤ) (N : List ℕ) → val p_ring (carry x) (nats p_ring N) ≡ ρ (val ℤ_ring x (nats ℤ_ring N))
val-carry x N =
    let M = nats ℤ_ring N in
    val p_ring (carry x) (nats p_ring N) ≡⟨ ap (val p_ring (carry x)) (sym (map-nats p_ring ρ ρ-hom N)) ⟩
    val p_ring (carry x) (map ρ M) ≡⟨ val-map ℤ_ring p_ring ρ ρ-hom x M ⟩
    ρ (val ℤ_ring x M) ∎

normal-carry : (n : ℕ) (x : Form ℤ) → weight x < prime → Normal ℤ_ring n x → Normal p_ring n (carry x)
normal-carry = normal-red prime prime-pos

-- a form over the remainders that has the remainders of v's values is v carried over
carried : (n : ℕ) (ds : List ℕ) → length ds ≡ n → AllLe 63 ds → (u : Form (Res prime)) (v : Form ℤ) → Normal p_ring n u → Normal ℤ_ring n v
    → weight v < prime → Bounded ds u → Bounded ds v
    → ((N : List ℕ) → val p_ring u (nats p_ring N) ≡ ρ (val ℤ_ring v (nats ℤ_ring N))) → u ≡ carry v
carried n ds l le u v hu hv w bu bv agree =
    let hu' : Normal p_ring (length ds) u = subst (λ z. Normal p_ring z u) (sym l) hu in
    let hv' : Normal p_ring (length ds) (carry v) = subst (λ z. Normal p_ring z (carry v)) (sym l) (normal-carry n v w hv) in
    canon-box p_ring 63 P-regular ds le u (carry v) hu' hv' bu (bounded-map ρ ds v bv) (λ N m. agree N ∙ sym (val-carry v N))

module _ (n : ℕ) (x y : Form ℤ) (hx : Normal ℤ_ring n x) (hy : Normal ℤ_ring n y) where
  pub carry-sum : (ds : List ℕ) → length ds ≡ n → AllLe 63 ds → Bounded ds x → Bounded ds y → weight x + weight y < prime
      → sum p_ring (carry x) (carry y) ≡ carry (sum ℤ_ring x y)
  carry-sum ds l le bx by w =
      carried n ds l le (sum p_ring (carry x) (carry y)) (sum ℤ_ring x y)
      (normal-sum p_ring n (carry x) (carry y) (normal-carry n x (omega arith) hx) (normal-carry n y (omega arith) hy))
      (normal-sum ℤ_ring n x y hx hy) (omega (arith, meas-sum ℤ_ring nat_abs weight-size x y))
      (bounded-sum p_ring ds (carry x) (carry y) (bounded-map ρ ds x bx) (bounded-map ρ ds y by)) (bounded-sum ℤ_ring ds x y bx by) agree
    where
      agree : (N : List ℕ) → val p_ring (sum p_ring (carry x) (carry y)) (nats p_ring N) ≡ ρ (val ℤ_ring (sum ℤ_ring x y) (nats ℤ_ring N))
      agree N =
          let M = nats ℤ_ring N in
          let K = nats p_ring N in
          let X = val ℤ_ring x M in
          let Y = val ℤ_ring y M in
          val p_ring (sum p_ring (carry x) (carry y)) K ≡⟨ val-sum p_ring (carry x) (carry y) K ⟩
          p_ring.◌⊞◌ (val p_ring (carry x) K) (val p_ring (carry y) K) ≡⟨ ap₂ p_ring.◌⊞◌ (val-carry x N) (val-carry y N) ⟩
          p_ring.◌⊞◌ (ρ X) (ρ Y) ≡⟨ sym (ρ-hom.keeps-add X Y) ⟩
          ρ (X +ℤ Y) ≡⟨ ap ρ (sym (val-sum ℤ_ring x y M)) ⟩
          ρ (val ℤ_ring (sum ℤ_ring x y) M) ∎

  pub carry-prod : (ds es : List ℕ) → length (sums ds es) ≡ n → AllLe 63 (sums ds es) → Bounded ds x → Bounded es y
      → weight x < prime → weight y < prime → weight x * weight y < prime → prod p_ring (carry x) (carry y) ≡ carry (prod ℤ_ring x y)
  carry-prod ds es l le bx by wx wy w =
      carried n (sums ds es) l le (prod p_ring (carry x) (carry y)) (prod ℤ_ring x y)
      (normal-prod p_ring n (carry x) (carry y) (normal-carry n x wx hx) (normal-carry n y wy hy))
      (normal-prod ℤ_ring n x y hx hy) (omega (arith, meas-prod ℤ_ring nat_abs weight-size x y))
      (bounded-prod p_ring ds es (carry x) (carry y) (bounded-map ρ ds x bx) (bounded-map ρ es y by))
      (bounded-prod ℤ_ring ds es x y bx by) agree
    where
      agree : (N : List ℕ)
          → val p_ring (prod p_ring (carry x) (carry y)) (nats p_ring N) ≡ ρ (val ℤ_ring (prod ℤ_ring x y) (nats ℤ_ring N))
      agree N =
          let M = nats ℤ_ring N in
          let K = nats p_ring N in
          let X = val ℤ_ring x M in
          let Y = val ℤ_ring y M in
          val p_ring (prod p_ring (carry x) (carry y)) K ≡⟨ val-prod p_ring (carry x) (carry y) K ⟩
          p_ring.◌·◌ (val p_ring (carry x) K) (val p_ring (carry y) K) ≡⟨ ap₂ p_ring.◌·◌ (val-carry x N) (val-carry y N) ⟩
          p_ring.◌·◌ (ρ X) (ρ Y) ≡⟨ sym (ρ-hom.keeps-mul X Y) ⟩
          ρ (X *ℤ Y) ≡⟨ ap ρ (sym (val-prod ℤ_ring x y M)) ⟩
          ρ (val ℤ_ring (prod ℤ_ring x y) M) ∎

-- powers
pub carry-raise : (n : ℕ) (x : Form ℤ) → Normal ℤ_ring n x → (ds : List ℕ) (k : ℕ) → length ds ≡ n → AllLe 63 (multiples k ds)
    → Bounded ds x → weight x < prime → weight x ^ k < prime → raise p_ring (carry x) k ≡ carry (raise ℤ_ring x k)
carry-raise n x hx ds k l le bx wx w =
    carried n (multiples k ds) (length-map ds (λ d. k * d) ∙ l) le (raise p_ring (carry x) k) (raise ℤ_ring x k)
    (normal-raise p_ring n (carry x) k (normal-carry n x wx hx)) (normal-raise ℤ_ring n x k hx)
    (omega (arith, meas-raise ℤ_ring nat_abs weight-size (omega arith) x (weight x) (omega arith) k))
    (bounded-raise p_ring ds (carry x) (bounded-map ρ ds x bx) k) (bounded-raise ℤ_ring ds x bx k) agree
  where
    agree : (N : List ℕ) → val p_ring (raise p_ring (carry x) k) (nats p_ring N) ≡ ρ (val ℤ_ring (raise ℤ_ring x k) (nats ℤ_ring N))
    agree N =
        let M = nats ℤ_ring N in
        let X = val ℤ_ring x M in
        val p_ring (raise p_ring (carry x) k) (nats p_ring N) ≡⟨ val-raise p_ring (carry x) k (nats p_ring N) ⟩
        power p_ring (val p_ring (carry x) (nats p_ring N)) k ≡⟨ ap (λ z. power p_ring z k) (val-carry x N) ⟩
        power p_ring (ρ X) k ≡⟨ sym (map-power ℤ_ring p_ring ρ ρ-hom X k) ⟩
        ρ (power ℤ_ring X k) ≡⟨ ap ρ (sym (val-raise ℤ_ring x k M)) ⟩
        ρ (val ℤ_ring (raise ℤ_ring x k) M) ∎

-- and back: within the weight limit nothing is lost
pub lift-carry : (x : Form ℤ) → weight x ≤ 1073741823 → map_form (lift prime prime-pos) (carry x) ≡ x
lift-carry x w = lift-form prime prime-pos x (omega arith)
