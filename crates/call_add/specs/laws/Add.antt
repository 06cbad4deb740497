-- What `add` answers, by what is read of the two forms.
use Rattle.std.specs.Prelude.{List, ◌≡◌, ℕ, ◌≤◌, ℤ}
use Rattle.std.proofs.Math.Path.{refl, sym, ap₂}
use Rattle.std.proofs.Common.{◌∙◌, subst, arith}
use Rattle.horner.specs.definitions.Form.{Form as HForm, sum}
use Rattle.horner.specs.definitions.Rings.{ℤ_ring}
use Rattle.horner.specs.definitions.Measures.{degrees, maxs}
use Rattle.horner.proofs.laws.Carry.{carry-sum}
use Rattle.horner.proofs.laws.Degree.{bounded-mono, length-maxs, maxs-left, maxs-right}
use Rattle.horner.proofs.laws.Normal.{normal-sum}
use Rattle.horner.proofs.laws.Table.{sum_fits}
use Rattle.code.specs.Coding.{Made}
use Rattle.code.specs.Operations.{sum_of}
use Rattle.reply.specs.definitions.Calls.{of_sum}
use Rattle.measure.specs.Measure.{add_m, limit_m}
use Rattle.code_pair.specs.Pair.{left, right}
use Rattle.form_build.specs.Build.{over_p}
use Rattle.door_forms.specs.Forms.{IsPair}
use Rattle.door_forms.specs.Operation.{OperationLaws}
use Rattle.door_forms.specs.declared.FormPair.{FormPair}
use Rattle.door_forms.specs.laws.Limits.{Meets, Inside, sum_meets, inside}
use Rattle.door_forms.specs.laws.Results.{Within, operand, result, decoded, words}

-- ---- the operation
sum-within :
    (m : ℕ) (x y : HForm ℤ) → Within m (degrees m x) x → Within m (degrees m y) y → Inside (of_sum m x y) →
    Within m (maxs (degrees m x) (degrees m y)) (sum ℤ_ring x y)
sum-within m x y wx wy I =
    result (normal-sum ℤ_ring m x y wx.normal wy.normal) (length-maxs (degrees m x) (degrees m y) ∙ wx.sized) I.low I.light I.few
    (sum_fits m x y wx.normal wy.normal)

pub sum_laws : OperationLaws of_sum add_m (sum ℤ_ring)
sum_laws = record { meets = λ m few x y lx ly. sum_meets m few x y lx ly refl refl; within = sum-within }

module _ {m : ℕ} {s t l : List ℕ} {p : FormPair} (few : m ≤ 4) (P : IsPair m s t p l) where
  wx : Within m (degrees m P.of_left.f) P.of_left.f
  wx = operand m s few P.of_left.f P.of_left.accepted

  wy : Within m (degrees m P.of_right.f) P.of_right.f
  wy = operand m t few P.of_right.f P.of_right.accepted

  pub meets : Meets (of_sum m P.of_left.f P.of_right.f) (add_m p.left.measures p.right.measures)
  meets = sum_meets m few P.of_left.f P.of_right.f wx.sized wy.sized P.of_left.found P.of_right.found

  module _ (z : limit_m (add_m p.left.measures p.right.measures) ≡ 0) where
    pub within : Within m (maxs (degrees m P.of_left.f) (degrees m P.of_right.f)) (sum ℤ_ring P.of_left.f P.of_right.f)
    within = sum-within m P.of_left.f P.of_right.f wx wy (inside meets z)

    pub is_sum : sum_of 0 (left p.left.words l) (right p.left.words p.right.words l) ≡ over_p (sum ℤ_ring P.of_left.f P.of_right.f)
    unfolding sum_of
    is_sum =
        let I = inside meets z in
        let f = P.of_left.f in
        let g = P.of_right.f in
        ap₂ (sum_of 0) (decoded few wx P.of_left.made) (decoded few wy P.of_right.made)
        ∙ carry-sum m f g wx.normal wy.normal (maxs (degrees m f) (degrees m g))
        (length-maxs (degrees m f) (degrees m g) ∙ wx.sized) I.low
        (bounded-mono f (degrees m f) _ (maxs-left (degrees m f) (degrees m g)) wx.bounded)
        (bounded-mono g (degrees m g) _ (maxs-right (degrees m f) (degrees m g) (wy.sized ∙ sym wx.sized)) wy.bounded)
        (omega (arith, I.light))

    pub sum-made :
        {r : ℕ} {d : List ℕ} → Made 0 (sum_of 0 (left p.left.words l) (right p.left.words p.right.words l)) r d →
        Made 0 (over_p (sum ℤ_ring P.of_left.f P.of_right.f)) r d
    sum-made {r} {d} M = subst (λ f. Made 0 f r d) is_sum M
