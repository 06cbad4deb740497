-- The code of the negative of a form, from the codes of its parts.
-- Assumes nothing.
use Rattle.std.proofs.Common.{sym, List, [], ◌∷◌, ◌++◌, ℕ, length}
use Rattle.std.proofs.Math.Path.{◌≡◌, ap, ◌∙◌}
use Rattle.std.proofs.Math.ListN.{get_or}
use Rattle.horner.specs.definitions.Form.{Form}
use Rattle.code.specs.Widths.{neg_by, modulus, Leaf}
use Rattle.code.specs.Coding.{enc, dec}
use Rattle.code.specs.Operations.{negate_of}
use Rattle.code.specs.laws.Codes.{IsInt, codes-length}
use Rattle.code.specs.laws.Parts.{inner, left_of, right_of, PopOf, PowOf, pop-made, pow-made}
use Rattle.code.specs.laws.Sizes.{negate-length}
use Rattle.code.specs.laws.Widths.{leaf-number}

pub neg-int : {w : ℕ} {h : Form (Leaf w)} {x r : ℕ} → IsInt w h x → r ≡ neg_by (modulus w) x → r ∷ [] ≡ enc w (negate_of w h)
unfolding enc negate_of
neg-int {w} {h} {x} v e = ap (λ n. n ∷ []) (e ∙ ap (neg_by (modulus w)) (sym (leaf-number w x v.below))) ∙ rw v.is

module _ {w : ℕ} {l : List ℕ} {i : ℕ} where
  pub neg-pop : PopOf w l i → (get_or l 0 0 ∷ []) ++ enc w (negate_of w (dec w (inner l))) ≡ enc w (negate_of w (dec w l))
  unfolding negate_of
  neg-pop v = pop-made v (negate_of w (dec w (inner l))) ∙ ap (λ h. enc w (negate_of w h)) (sym v.is)

  -- the negative of a pow's p is as long as its p
  pub neg_left : {s : ℕ} → PowOf w l i s → length (enc w (negate_of w (dec w (left_of s l)))) ≡ length (left_of s l)
  neg_left {s} v = negate-length w (dec w (left_of s l)) ∙ sym (codes-length v.left)

  pub neg-pow :
      {s : ℕ} → PowOf w l i s →
      ((get_or l 0 0 ∷ []) ++ enc w (negate_of w (dec w (left_of s l)))) ++ enc w (negate_of w (dec w (right_of s l))) ≡ enc w
      (negate_of w (dec w l))
  unfolding negate_of
  neg-pow {s} v =
      pow-made v (negate_of w (dec w (left_of s l))) (negate_of w (dec w (right_of s l))) (neg_left v)
      ∙ ap (λ h. enc w (negate_of w h)) (sym v.is)
