-- From the text of a form to its code over the remainders by P.
use Rattle.std.specs.Prelude.{List, ◌≡◌, ℕ, ◌-◌, ◌≤◌, ℤ, length}
use Rattle.horner.specs.definitions.Form.{Form}
use Rattle.horner.specs.definitions.Measures.{weight}
use Rattle.horner.specs.definitions.Rings.{red_ℤ, prime, prime-pos}
use Rattle.horner.specs.laws.Hom.{map_form}
use Rattle.code.specs.Coding.{Good, Made, enc}
use Rattle.code.specs.Widths.{Leaf}
use Rattle.text.specs.definitions.Bytes.{read}
use Rattle.text.specs.definitions.FormReading.{accept_form}
use Rattle.form_head.specs.declared.Kind.{Kind}
use Rattle.form_head.specs.declared.Kind.TheVariants.{Integer, Negative, Pop, Pow}
use Rattle.form_head.specs.Heads.{Stands, Ends}

-- a form with the remainder by P of each coefficient
abbrev pub over_p : Form ℤ → Form (Leaf 0)
over_p g = map_form (red_ℤ prime prime-pos) g

-- the word of an integer, by its kind
abbrev pub leaf_word : Kind → ℕ → ℕ
leaf_word Integer number = number
leaf_word Negative number = 2147483647 - number
leaf_word Pop number = 2147483647 - number
leaf_word Pow number = 2147483647 - number

-- what a form must be for its code to be written
pub record Fit (g : Form ℤ) : Type 0 where
  pub good : Good 0 (over_p g)
  pub light : weight g ≤ 1073741823

-- such a form stands at the place, and l words are enough for its code
pub record ReadyAt (s : List ℕ) (at l : ℕ) : Type 0 where
  pub g : Form ℤ
  pub rest : List ℕ
  pub stands : Stands s at g rest
  pub fit : Fit g
  pub room : length (enc 0 (over_p g)) ≤ l
  pub small : l ≤ 33554432

-- the code of the form at the place stands at the front of d
pub record BuiltAt (s : List ℕ) (at words next : ℕ) (d : List ℕ) : Type 0 where
  pub ends : Ends s at next
  pub made : (g : Form ℤ) (rest : List ℕ) → Stands s at g rest → Fit g → Made 0 (over_p g) words d

-- s is the text of an accepted form over a row of m
pub record Accepted (m : ℕ) (s : List ℕ) : Type 0 where
  pub f : Form ℤ
  pub is : accept_form m s ≡ read f
