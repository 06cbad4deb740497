-- What `multiply` answers, by what is read of the two forms.
use Rattle.std.specs.Prelude.{List, ◌≡◌, refl, ℕ, ◌≤◌, ℤ, length}
use Rattle.std.proofs.Common.{sym, ap, subst, ◌∙◌, arith}
use Rattle.std.proofs.Math.Path.{ap₂}
use Rattle.horner.specs.definitions.Form.{Form as HForm, prod}
use Rattle.horner.specs.definitions.Rings.{ℤ_ring}
use Rattle.horner.specs.definitions.Measures.{degrees, sums, terms}
use Rattle.horner.proofs.laws.Bounds.{length-sums}
use Rattle.horner.proofs.laws.Carry.{carry-prod}
use Rattle.horner.proofs.laws.Normal.{normal-prod}
use Rattle.horner.proofs.laws.Table.{prod-fits}
use Rattle.code.specs.Coding.{Made, enc}
use Rattle.code.specs.Widths.{Leaf}
use Rattle.code_room.specs.Fit.{Fit, prod_of}
use Rattle.code_room.specs.Tables.{Space, Tables}
use Rattle.code_room.proofs.laws.Lists.{first-le}
use Rattle.code_room.proofs.laws.Tables.{tables-for}
use Rattle.reply.specs.definitions.Calls.{of_product}
use Rattle.measure.specs.Measure.{mul_m, limit_m}
use Rattle.code_pair.specs.Pair.{left, right}
use Rattle.form_build.specs.Build.{over_p}
use Rattle.door_forms.specs.Forms.{IsPair}
use Rattle.door_forms.specs.Operation.{OperationLaws}
use Rattle.door_forms.specs.declared.FormPair.{FormPair}
use Rattle.door_forms.specs.laws.Limits.{Meets, Inside, product-meets, inside}
use Rattle.door_forms.specs.laws.Results.{Within, operand, result, over-remainders, decoded, few_words, words}

-- ---- the operation
product-within :
    (m : ℕ) (x y : HForm ℤ) → Within m (degrees m x) x → Within m (degrees m y) y → Inside (of_product m x y) →
    Within m (sums (degrees m x) (degrees m y)) (prod ℤ_ring x y)
product-within m x y wx wy I =
    result (normal-prod ℤ_ring m x y wx.normal wy.normal) (length-sums (degrees m x) (degrees m y) (wx.sized ∙ sym wy.sized) ∙ wy.sized)
    I.low I.light I.few (prod-fits m x y wx.normal wy.normal)

pub product-laws : OperationLaws of_product mul_m (prod ℤ_ring)
product-laws = record { meets = λ m few x y lx ly. product-meets m few x y lx ly refl refl; within = product-within }

-- as much of the tables as is lent
pub lengths : {o u v : ℕ} → o ≡ 16384 → u ≡ 16384 → v ≡ 6146 → Tables 15684 15684 o u v
lengths h i j = omega (arith, h, i, j)

module _ {m : ℕ} {s t l : List ℕ} {p : FormPair} (few : m ≤ 4) (P : IsPair m s t p l) where
  wx : Within m (degrees m P.of_left.f) P.of_left.f
  wx = operand m s few P.of_left.f P.of_left.accepted

  wy : Within m (degrees m P.of_right.f) P.of_right.f
  wy = operand m t few P.of_right.f P.of_right.accepted

  pub meets : Meets (of_product m P.of_left.f P.of_right.f) (mul_m p.left.measures p.right.measures)
  meets = product-meets m few P.of_left.f P.of_right.f wx.sized wy.sized P.of_left.found P.of_right.found

  sized : length (sums (degrees m P.of_left.f) (degrees m P.of_right.f)) ≡ m
  sized = length-sums (degrees m P.of_left.f) (degrees m P.of_right.f) (wx.sized ∙ sym wy.sized) ∙ wy.sized

  module _ (z : limit_m (mul_m p.left.measures p.right.measures) ≡ 0) where
    pub within : Within m (sums (degrees m P.of_left.f) (degrees m P.of_right.f)) (prod ℤ_ring P.of_left.f P.of_right.f)
    within = product-within m P.of_left.f P.of_right.f wx wy (inside meets z)

    -- the two factors fit, and the tables are long enough
    fit : Fit 0 m 63 (over_p P.of_left.f) (over_p P.of_right.f)
    fit =
        let I = inside meets z in
        record {
          dx = degrees m P.of_left.f;
          dy = degrees m P.of_right.f;
          cx = terms ℤ_ring P.of_left.f;
          cy = terms ℤ_ring P.of_right.f;
          vars = few;
          len-x = wx.sized;
          len-y = wy.sized;
          of-x = over-remainders few wx;
          of-y = over-remainders few wy;
          pos-x = omega arith;
          pos-y = omega arith;
          degrees = I.low;
          first = first-le 63 (sums (degrees m P.of_left.f) (degrees m P.of_right.f)) I.low;
          few = I.few;
        }

    pub space : {o u v : ℕ} → Tables 15684 15684 o u v → Space 0 (left p.left.words l) (right p.left.words p.right.words l) o u v
    space {o} {u} {v} T =
        let S : Space 0 (over_p P.of_left.f) (over_p P.of_right.f) o u v = record
        { n = m; k = 63; fit = fit; tables = tables-for few (omega arith) T } in
        subst (λ (h : HForm (Leaf 0)). Space 0 h (right p.left.words p.right.words l) o u v) (sym (decoded few wx P.of_left.made))
        (subst (λ (h : HForm (Leaf 0)). Space 0 (over_p P.of_left.f) h o u v) (sym (decoded few wy P.of_right.made)) S)

    pub is-product : prod_of 0 (left p.left.words l) (right p.left.words p.right.words l) ≡ over_p (prod ℤ_ring P.of_left.f P.of_right.f)
    unfolding prod_of
    is-product =
        let I = inside meets z in
        let f = P.of_left.f in
        let g = P.of_right.f in
        ap₂ (prod_of 0) (decoded few wx P.of_left.made) (decoded few wy P.of_right.made)
        ∙ carry-prod m f g wx.normal wy.normal (degrees m f) (degrees m g) sized I.low wx.bounded wy.bounded
        (omega (arith, wx.light)) (omega (arith, wy.light))
        (omega (arith, I.light))

    pub product-room : length (enc 0 (prod_of 0 (left p.left.words l) (right p.left.words p.right.words l))) ≤ 3073
    product-room = omega (arith, ap (λ (h : HForm (Leaf 0)). length (enc 0 h)) is-product, few_words few within)

    pub product-made :
        {r : ℕ} {d : List ℕ} → Made 0 (prod_of 0 (left p.left.words l) (right p.left.words p.right.words l)) r d →
        Made 0 (over_p (prod ℤ_ring P.of_left.f P.of_right.f)) r d
    product-made {r} {d} M = subst (λ (f : HForm (Leaf 0)). Made 0 f r d) is-product M
