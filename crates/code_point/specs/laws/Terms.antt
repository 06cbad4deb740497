-- The point at which two terms differ is the first point of the difference of their forms.
use Rattle.std.specs.Prelude.{false, List, ◌⊎◌, ◌≡◌, refl, ℕ, ◌≤◌, length}
use Rattle.std.proofs.Common.{inl, inr, sym, subst, ◌∙◌}
use Rattle.horner.specs.definitions.Form.{is_zero, negate, Normal}
use Rattle.horner.specs.laws.Within.{Within}
use Rattle.horner.specs.definitions.Points as H
use Rattle.horner.specs.definitions.Points.{Before, IsPoint}
use Rattle.horner.specs.definitions.Rings.{red_ℤ, prime, prime-pos, p_ring}
use Rattle.horner.specs.definitions.Term.{Term, norm_p}
use Rattle.horner.proofs.laws.Answer.{gap-nil, point-is}
use Rattle.horner.specs.laws.Answer.{gap}
use Rattle.horner.proofs.laws.Canonical.{length-box}
use Rattle.horner.proofs.laws.First.{first-is, IsFirst}
use Rattle.horner.proofs.laws.Normal.{normal-sum, normal-negate}
use Rattle.horner.proofs.laws.Points.{point-before}
use Rattle.horner.proofs.laws.Prime.{P-regular}
use Rattle.horner.proofs.laws.Term.{normal-norm}
use Rattle.code.specs.Coding.{limits, Good}
use Rattle.code.specs.Operations.{sum_of, negate_of}
use Rattle.code_point.specs.Points.{point_of, Ready}
use Rattle.code_point.specs.laws.Bounds.{bounded-good, length-limits, limits-63}

-- the difference as the functions on codes give it
pub gap_of : (f g : Term) → sum_of 0 (norm_p f) (negate_of 0 (norm_p g)) ≡ gap f g
unfolding sum_of negate_of
gap_of f g = refl

module _ (n : ℕ) (f g : Term) (few : n ≤ 4) (F : Within n f) (G : Within n g) (nz : is_zero p_ring (gap f g) ≡ false) where
  pub terms-ready : Ready n (gap f g)
  terms-ready = record {
    few = few;
    normal =
        normal-sum p_ring n (norm_p f) (negate p_ring (norm_p g)) (normal-norm p_ring (red_ℤ prime prime-pos) refl n f F.over)
        (normal-negate p_ring n (norm_p g) (normal-norm p_ring (red_ℤ prime prime-pos) refl n g G.over));
    counts = nz;
  }

  module _ (good : Good 0 (gap f g)) where
    first_of : IsFirst p_ring (limits n) (gap f g) (point_of n (gap f g))
    unfolding point_of
    first_of =
        first-is p_ring 63 P-regular (limits n) (limits-63 n) (gap f g)
        (subst (λ z. Normal p_ring z (gap f g)) (sym (length-limits n)) terms-ready.normal)
        (bounded-good n (gap f g) few good terms-ready.normal) nz

    -- document 01's point is the one that is found
    pub terms-point : H.point_of prime n f g ≡ point_of n (gap f g)
    terms-point = sym (at (point-before prime n f g M P N l (λ e. first_of.counts ((gap-nil n f g F G N).1 e))))
      where
        M : List ℕ
        M = H.point_of prime n f g

        N : List ℕ
        N = point_of n (gap f g)

        P : IsPoint prime n f g M
        P = point-is n f g F G nz

        l : length N ≡ n
        l = length-box (limits n) N first_of.inside ∙ length-limits n

        at : (N ≡ M) ⊎ Before M N → N ≡ M
        at (inl e) = e
        at (inr b) = absurd (P.differs ((gap-nil n f g F G M).0 (first_of.earlier M b (P.long ∙ sym (length-limits n)))))
