-- "It answers 'same' when each coefficient of the difference is a multiple of 2 to the width": what the code answers on the forms over the
-- remainders by P.
use Rattle.std.specs.Prelude.{◌≡◌, refl, ℕ}
use Rattle.std.proofs.Common.{◌∙◌, ap, ap₂}
use Rattle.horner.specs.definitions.Measures.{multiples_of}
use Rattle.horner.specs.definitions.Form.{Form, int, pop, pow, mkpop, mkpow, is_zero, sum, negate, Normal}
use Rattle.horner.specs.definitions.Rings.{ℤ_ring, red_ℤ, prime, prime-pos, Ring}
use Rattle.horner.specs.laws.Within.{Within}
use Rattle.horner.specs.laws.Residues.{lift}
use Rattle.horner.specs.definitions.Term.{Term, diff, norm_ℤ, norm_p}
use Rattle.horner.specs.laws.Hom.{map_form}
use Rattle.horner.proofs.laws.Lifting.{exact}
use Rattle.horner.proofs.laws.Term.{normal-norm}
use Rattle.code.specs.Operations.{negate_of, sum_of}
use Rattle.code.specs.Widths.{modulus, modulus-pos, ring_of}
use Rattle.code_walk.specs.Carrying.{map_normal, reduce_of}
use Rattle.code_counters.specs.Same.{same_of}
use Rattle.code_counters.specs.laws.Multiples.{difference-multiples}

map_normal-twice :
    {A B C : Type 0} (S : Ring C) (f : A → B) (g : B → C) (x : Form A) → map_normal S (λ c. g (f c)) x ≡ map_normal S g (map_form f x)
map_normal-twice S f g (int c) = refl
map_normal-twice S f g (pop i p) = ap (mkpop i) (map_normal-twice S f g p)
map_normal-twice S f g (pow i p q) = ap₂ (mkpow S i) (map_normal-twice S f g p) (map_normal-twice S f g q)

-- a term's form over the remainders by P, reduced, is its form over the integers, reduced
reduced : (n w : ℕ) (t : Term) → Within n t → reduce_of w (norm_p t) ≡ map_normal (ring_of w) (red_ℤ (modulus w) (modulus-pos w)) (norm_ℤ t)
unfolding reduce_of
reduced n w t h =
    map_normal-twice (ring_of w) (lift prime prime-pos) (red_ℤ (modulus w) (modulus-pos w)) (norm_p t)
    ∙ ap (map_normal (ring_of w) (red_ℤ (modulus w) (modulus-pos w))) (exact n t h.over h.degrees h.weight)

normal-of : (n : ℕ) (t : Term) → Within n t → Normal ℤ_ring n (norm_ℤ t)
normal-of n t h = normal-norm ℤ_ring (λ z. z) refl n t h.over

-- at every width
pub counters-same :
    (n w : ℕ) (f g : Term) → Within n f → Within n g → same_of w (norm_p f) (norm_p g) ≡ multiples_of (modulus w) (norm_ℤ (diff f g))
unfolding sum_of negate_of
counters-same n w f g hf hg =
    ap₂ (λ x y. is_zero (ring_of w) (sum (ring_of w) x (negate (ring_of w) y))) (reduced n w f hf) (reduced n w g hg)
    ∙ difference-multiples (modulus w) (modulus-pos w) n (norm_ℤ f) (norm_ℤ g) (normal-of n f hf) (normal-of n g hg)
