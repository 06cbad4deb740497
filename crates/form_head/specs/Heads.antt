-- A form at a place of a text, and what it begins with.
use Rattle.std.specs.Prelude.{Bool, true, false, List, [], ◌∷◌, ◌++◌, ◌≡◌, ℕ, ◌+◌, min, ℤ, pos, negsuc, nat_abs, length, drop}
use Rattle.horner.specs.definitions.Form.{Form, int, pop, pow}
use Rattle.text.specs.definitions.Bytes.{digit, write_int, value_from}
use Rattle.text.specs.definitions.FormReading.{text, pop_head, pow_head}
use Rattle.form_head.specs.declared.Kind.{Kind}
use Rattle.form_head.specs.declared.Kind.TheVariants.{Integer, Negative, Pop, Pow}

-- the digits that a text begins with
abbrev pub digits : List ℕ → List ℕ
digits [] = []
digits (x ∷ xs) = elim (digit x) [ true ↦ x ∷ digits xs | false ↦ [] ]

-- the text does not begin with a digit
abbrev pub NoDigit : List ℕ → Type 0
NoDigit [] = Unit {0}
NoDigit (x ∷ xs) = digit x ≡ false

-- the number that the digits at a place stand for, cut down to the limit, and the place behind them
pub record NumberAt (s : List ℕ) (at limit value next : ℕ) : Type 0 where
  pub is-value : value ≡ min (value_from 0 (digits (drop at s))) limit
  pub is-next : next ≡ at + length (digits (drop at s))

-- the form g stands at the place, and rest behind it
pub record Stands (s : List ℕ) (at : ℕ) (g : Form ℤ) (rest : List ℕ) : Type 0 where
  pub parts : drop at s ≡ text g ++ rest
  pub calm : NoDigit rest

-- some form stands there
pub record Standing (s : List ℕ) (at : ℕ) : Type 0 where
  pub g : Form ℤ
  pub rest : List ℕ
  pub stands : Stands s at g rest

-- "A form is an integer, `(POP i p)` or `(POW i p q)`"
abbrev pub kind_of : Form ℤ → Kind
kind_of (int (pos n)) = Integer
kind_of (int (negsuc n)) = Negative
kind_of (pop i p) = Pop
kind_of (pow i p q) = Pow

-- POP or POW
abbrev pub is_node : Kind → Bool
is_node Integer = false
is_node Negative = false
is_node Pop = true
is_node Pow = true

-- the magnitude of an integer, or i, cut down above their limits
abbrev pub number_of : Form ℤ → ℕ
number_of (int z) = min (nat_abs z) 1073741824
number_of (pop i p) = min i 64
number_of (pow i p q) = min i 64

-- an integer's text, or what is written before p
abbrev pub head_text : Form ℤ → List ℕ
head_text (int z) = write_int z
head_text (pop i p) = pop_head i
head_text (pow i p q) = pow_head i

pub record HeadIs (at : ℕ) (kind : Kind) (number next : ℕ) (g : Form ℤ) : Type 0 where
  pub is-kind : kind ≡ kind_of g
  pub is_number : number ≡ number_of g
  pub is-next : next ≡ at + length (head_text g)

-- of whatever form stands there
abbrev pub Headed : (s : List ℕ) (at : ℕ) (kind : Kind) (number next : ℕ) → Type 0
Headed s at kind number next = (g : Form ℤ) (rest : List ℕ) → Stands s at g rest → HeadIs at kind number next g

-- the place behind whatever form stands there
abbrev pub Ends : (s : List ℕ) (at next : ℕ) → Type 0
Ends s at next = (g : Form ℤ) (rest : List ℕ) → Stands s at g rest → next ≡ at + length (text g)
