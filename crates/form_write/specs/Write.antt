-- The text of a form over the remainders by P, and what it is to write a text at the front of a buffer.
use Rattle.std.specs.Prelude.{List, [], ◌∷◌, ◌++◌, ◌≡◌, ℕ, ◌≤◌, length, drop}
use Rattle.horner.specs.definitions.Form.{Form, int}
use Rattle.horner.specs.laws.Residues.{lift}
use Rattle.horner.specs.definitions.Rings.{prime, prime-pos}
use Rattle.horner.specs.laws.Hom.{map_form}
use Rattle.text.specs.definitions.FormReading.{text}
use Rattle.text.specs.definitions.Bytes.{decimal}
use Rattle.code.specs.Widths.{Leaf, leaf}

-- the text of the form over the integers that h stands for
unfoldable pub text_of : Form (Leaf 0) → List ℕ
text_of h = text (map_form (lift prime prime-pos) h)

-- "An integer is `0`, or an optional `-` and digits without a leading zero": of a number not below zero
abbrev pub numeral : ℕ → List ℕ
numeral n = decimal n

-- the text of a leaf
abbrev pub leaf_text : ℕ → List ℕ
leaf_text x = text_of (int (leaf 0 x))

-- "(POP i " where c is P, "(POW i " where c is W
unfoldable pub head_text : ℕ → ℕ → List ℕ
head_text c i = (40 ∷ 80 ∷ 79 ∷ c ∷ 32 ∷ []) ++ (decimal i ++ (32 ∷ []))

-- the text w, of r bytes, stands at the front of new, and behind it what stood there in old
pub record Wrote (r : ℕ) (w old new : List ℕ) : Type 0 where
  pub size : r ≡ length w
  pub fits : r ≤ length old
  pub is : new ≡ w ++ drop r old
