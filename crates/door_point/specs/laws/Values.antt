-- The remainder of a value is the value at the coordinates' remainders: of a term's form, and of any form.
use Rattle.std.specs.Prelude.{List, [], ◌∷◌, map, ◌≡◌, refl, ℕ, zero, suc, ℤ, length, drop}
use Rattle.std.proofs.Common.{sym, ap, ap₂, ◌∙◌, arith}
use Rattle.std.proofs.lemmas.List.{length-map}
use Rattle.horner.specs.definitions.Form.{Form, int, pop, pow, evalh}
use Rattle.horner.specs.definitions.Rings.{ℤ_ring, Res, red_ℤ, prime, prime-pos, p_ring, Ring, power}
use Rattle.horner.specs.laws.Within.{Within}
use Rattle.horner.specs.definitions.Term.{Term, norm_p, eval_ℤ}
use Rattle.horner.proofs.laws.Hom.{map-power}
use Rattle.horner.specs.laws.Hom.{Hom, map_form}
use Rattle.horner.proofs.laws.Lifting.{red-hom}
use Rattle.horner.proofs.laws.Term.{evalh-norm, eval-map}
use Rattle.code.specs.Operations.{value_of}
use Rattle.code.specs.Widths.{leaf}
use Rattle.code.specs.laws.Widths.{leaf-of}
use Rattle.reply.specs.definitions.Calls.{remainder}
use Rattle.door_point.specs.Point.{residues_of}

abbrev by_p : ℤ → Res prime
by_p = red_ℤ prime prime-pos

-- Definition 5's value is carried over by a map that keeps sums and products
map-drop : {A B : Type 0} (f : A → B) (i : ℕ) (N : List A) → map f (drop i N) ≡ drop i (map f N)
map-drop f zero N = refl
map-drop f (suc i) [] = refl
map-drop f (suc i) (a ∷ N) = map-drop f i N

module _ {A B : Type 0} (R : Ring A) (S : Ring B) (f : A → B) (h : Hom R S f) where
  pub evalh-map : (x : Form A) (N : List A) → evalh S (map_form f x) (map f N) ≡ f (evalh R x N)
  evalh-map (int c) N = refl
  evalh-map (pop i p) N = ap (evalh S (map_form f p)) (sym (map-drop f i N)) ∙ evalh-map p (drop i N)
  evalh-map (pow i p q) [] = sym h.keeps-nil
  evalh-map (pow i p q) (a ∷ N) =
      ap₂ S.◌⊞◌
      (ap₂ S.◌·◌ (sym (map-power R S f h a i)) (evalh-map p (a ∷ N)) ∙ sym (h.keeps-mul (power R a i) (evalh R p (a ∷ N))))
      (evalh-map q N)
      ∙ sym (h.keeps-add (R.◌·◌ (power R a i) (evalh R p (a ∷ N))) (evalh R q N))

-- the coordinates' remainders as leaves
point-leaves : (N : List ℤ) → map (leaf 0) (residues_of N) ≡ map by_p N
unfolding residues_of
point-leaves [] = refl
point-leaves (z ∷ N) = ap₂ ◌∷◌ (leaf-of 0 (by_p z)) (point-leaves N)

-- a form over the integers, at any point
pub value-form : (f : Form ℤ) (N : List ℤ) → value_of 0 (map_form (red_ℤ prime prime-pos) f) (residues_of N) ≡ remainder (evalh ℤ_ring f N)
unfolding value_of
value-form f N =
    ap (λ M. (evalh p_ring (map_form by_p f) M).0) (point-leaves N)
    ∙ ap (λ (r : Res prime). r.0) (evalh-map ℤ_ring p_ring by_p (red-hom prime prime-pos) f N)

-- the form of a term over n variables, at a point of n coordinates
pub value-term : (n : ℕ) (t : Term) (N : List ℤ) → Within n t → length N ≡ n → value_of 0 (norm_p t) (residues_of N) ≡ remainder (eval_ℤ t N)
unfolding value_of
value-term n t N w l =
    ap (λ M. (evalh p_ring (norm_p t) M).0) (point-leaves N)
    ∙ ap (λ (r : Res prime). r.0) (evalh-norm p_ring by_p refl n t (map by_p N) w.over (omega (arith, length-map N by_p))
    ∙ eval-map p_ring by_p (red-hom prime prime-pos) t N)
