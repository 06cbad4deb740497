-- The text of a coded form from the texts of its parts.
use Rattle.std.specs.Prelude.{List, [], ◌∷◌, ◌++◌, ◌≡◌, ℕ, suc, ◌-◌, ◌%◌, ◌*◌, ◌≤◌, ◌<◌, get_or}
use Rattle.std.proofs.Common.{append_assoc, sym, ap, ◌∙◌, arith, lt-ltb, le-ltb}
use Rattle.horner.specs.definitions.Form.{Form, pop, pow}
use Rattle.code.specs.Coding.{dec}
use Rattle.code.specs.Widths.{Leaf}
use Rattle.code.specs.laws.Codes.{IsInt}
use Rattle.code.specs.laws.Parts.{inner, first, rest, PopAt, PowAt}
use Rattle.code.specs.laws.Widths.{leaf-number}
use Rattle.form_write.specs.Write.{text_of, numeral, leaf_text, head_text}

-- a leaf below half of P is itself, any other what it lacks of P, negative
pub leaf-plain : (x : ℕ) → x ≤ 1073741823 → numeral x ≡ leaf_text x
unfolding text_of
leaf-plain x h = rw (leaf-number 0 x (omega arith), lt-ltb (x * 2) 2147483647 (omega arith))

pub leaf-minus : (x : ℕ) → 1073741823 < x → x < 2147483647 → (45 ∷ []) ++ numeral (2147483647 - x) ≡ leaf_text x
unfolding text_of
leaf-minus x h l =
    let e : 2147483647 - x ≡ suc (2147483647 - suc x) = omega arith in
    rw (leaf-number 0 x (omega arith), le-ltb (x * 2) 2147483647 (omega arith), e)

pub text-int : {h : Form (Leaf 0)} {x : ℕ} → IsInt 0 h x → leaf_text x ≡ text_of h
text-int v = ap text_of (sym v.is)

-- "In a written POW the text of q is written right after the text of p and one space."
pub text-pop : (i : ℕ) (p : Form (Leaf 0)) → (head_text 80 i ++ text_of p) ++ (41 ∷ []) ≡ text_of (pop i p)
unfolding text_of head_text
text-pop i p = append_assoc (head_text 80 i) (text_of p) (41 ∷ [])

pub text-pow : (i : ℕ) (p q : Form (Leaf 0)) → (((head_text 87 i ++ text_of p) ++ (32 ∷ [])) ++ text_of q) ++ (41 ∷ []) ≡ text_of (pow i p q)
unfolding text_of head_text
text-pow i p q = simp append_assoc

module _ {l : List ℕ} where
  pub text-pop-at : PopAt 0 l → (head_text 80 (get_or l 0 0 % 64) ++ text_of (dec 0 (inner l))) ++ (41 ∷ []) ≡ text_of (dec 0 l)
  text-pop-at v = text-pop (get_or l 0 0 % 64) (dec 0 (inner l)) ∙ ap text_of (sym v.is)

  pub text-pow-at :
      PowAt 0 l →
      (((head_text 87 (get_or l 0 0 % 64) ++ text_of (dec 0 (first l))) ++ (32 ∷ [])) ++ text_of (dec 0 (rest l))) ++ (41 ∷ []) ≡ text_of
      (dec 0 l)
  text-pow-at v = text-pow (get_or l 0 0 % 64) (dec 0 (first l)) (dec 0 (rest l)) ∙ ap text_of (sym v.is)
