-- The codes of two forms are equal where the forms are; the code of 0.
use Rattle.std.specs.Prelude.{Bool, List, ◌≡◌, ℕ, ◌+◌, get_or}
use Rattle.std.proofs.Math.Path.{refl}
use Rattle.std.proofs.Common.{sym, ap, ◌∙◌, arith}
use Rattle.std.proofs.Math.Dec.{eqb}
use borrow.Author.Tests.{ne_eqb}
use Rattle.horner.specs.definitions.Form.{Form, int, pop, pow, is_zero}
use Rattle.code.specs.Coding.{enc, Codes}
use Rattle.code.specs.Widths.{Leaf, ring_of}
use Rattle.code.specs.laws.Codes.{codes_same}
use Rattle.code_walk.specs.Shapes.{Decides}

module _ (w : ℕ) where
  -- the code of 0 begins with 0, and no other does
  pub zero-head : {h : Form (Leaf w)} {l : List ℕ} → Codes w h l → eqb (get_or l 0 0) 0 ≡ is_zero (ring_of w) h
  unfolding enc
  zero-head {h} c = rw c.is (head h)
    where
      head : (h : Form (Leaf w)) → eqb (get_or (enc w h) 0 0) 0 ≡ is_zero (ring_of w) h
      head (int c) = refl
      head (pop i p) = ne_eqb (2147483648 + i) 0 (omega arith)
      head (pow i p q) = ne_eqb (get_or (enc w (pow i p q)) 0 0) 0 (omega arith)

-- what decides whether two codes are equal decides whether their forms are
pub decides-forms :
    {w : ℕ} {g h : Form (Leaf w)} {l k : List ℕ} {r : Bool} → Codes w g l → Codes w h k → Decides r (l ≡ k) → Decides r (g ≡ h)
decides-forms {w} {g} {h} {l} {k} c e d = record {
  yes = λ t. codes_same c (rw (d.yes t) e);
  no = λ q. d.no (c.is ∙ ap (enc w) q ∙ sym e.is);
}
