-- Which node the words of a tree begin with, by the first of them, and where the words of its operands stand.
use Rattle.std.specs.Prelude.{true, List, ◌≡◌, ℕ, ◌+◌, ◌-◌, ◌/◌, ◌%◌, ◌≤◌, ◌<◌, min, ℤ, length, get_or, take, drop}
use Rattle.std.proofs.Common.{sym, ap, subst, arith, length-drop, length-take}
use Rattle.code.specs.laws.Codes.{tail-part}
use Rattle.text.specs.definitions.Bytes.{is_in_row, index_in}
use Rattle.text.specs.definitions.Tree.{Sign, add, sub, mul, Tree, num, letter, neg, two, power, letters}
use Rattle.term_tree.specs.Coding.{int_code, span_of, enc, Short}
use Rattle.term_tree.specs.Codes.{enc-pos}

-- w is the code of the term t, whose letters are in the row
pub record Codes (row : List ℕ) (t : Tree) (w : List ℕ) : Type 0 where
  pub is : w ≡ enc row t
  pub four : length row ≤ 4
  pub known : letters (is_in_row row) t ≡ true
  pub short : Short t

-- every code has two words
pub long : {row w : List ℕ} {t : Tree} → Codes row t w → 2 ≤ length w
long {row} {w} {t} C = subst (λ l. 2 ≤ length l) (sym C.is) (enc-pos row t)

-- ---- the first two words of a node
-- the head word
abbrev pub head_of : List ℕ → ℕ
head_of w = get_or w 0 0

-- the word for its place and end
abbrev pub span_in : List ℕ → ℕ
span_in w = get_or w 1 0

-- the tag in the head word
abbrev pub tag_of : List ℕ → ℕ
tag_of w = (head_of w - 2147483648) % 8

-- and the number
abbrev pub number_of : List ℕ → ℕ
number_of w = (head_of w - 2147483648) / 8

-- which operator it is, by the tag
pub data Operator (w : List ℕ) : Sign → Type 0 where
  is-add : tag_of w ≡ 2 → Operator w add
  is-sub : tag_of w ≡ 3 → Operator w sub
  is_mul : tag_of w ≡ 4 → Operator w mul

-- ---- the node that the head word tells
-- an integer
pub data IsNum (w : List ℕ) : Tree → Type 0 where
  is-num : (p : ℕ) (u : List ℕ) (z : ℤ) → head_of w ≡ int_code z → span_in w ≡ span_of p (p + length u) → IsNum w (num p u z)

-- a letter
pub data IsLetter (row w : List ℕ) : Tree → Type 0 where
  is-letter : (p b : ℕ) → number_of w ≡ index_in row b → span_in w ≡ span_of p (p + 1) → IsLetter row w (letter p b)

-- the words of the one operand of `(- x)` and of a power
abbrev pub operand : List ℕ → List ℕ
operand w = take (length w - 2) (drop 2 w)

-- they are fewer
pub operand-shorter : {row w : List ℕ} {t : Tree} → Codes row t w → length (operand w) < length w
operand-shorter {row} {w} C = omega (arith, ap length (tail-part 2 w), length-drop 2 w, long C)

-- `(- x)`
pub data IsNeg (row w : List ℕ) : Tree → Type 0 where
  is-neg : (p o c : ℕ) (x : Tree) → span_in w ≡ span_of p (c + 1) → Codes row x (operand w) → IsNeg row w (neg p o c x)

-- a power: an exponent above the limit is cut down
pub data IsPower (row w : List ℕ) : Tree → Type 0 where
  is-power :
      (p o c : ℕ) (x : Tree) (q n : ℕ) → number_of w ≡ min n 64 → span_in w ≡ span_of p (c + 1) → Codes row x (operand w) →
      IsPower row w (power p o c x q n)

-- one of the two that have one operand
pub data IsOne (row w : List ℕ) : Tree → Type 0 where
  one-neg : (p o c : ℕ) (x : Tree) → Codes row x (operand w) → IsOne row w (neg p o c x)
  one_power : (p o c : ℕ) (x : Tree) (q n : ℕ) → Codes row x (operand w) → IsOne row w (power p o c x q n)

-- and the tags that tell it
pub data OneTag (w : List ℕ) : Type 0 where
  tag-neg : tag_of w ≡ 1 → OneTag w
  tag-power : tag_of w ≡ 5 → OneTag w

-- ---- two operands
-- the words of the first
abbrev pub left_of : List ℕ → List ℕ
left_of w = take (2 + number_of w - 2) (drop 2 w)

-- and of the second
abbrev pub right_of : List ℕ → List ℕ
right_of w = take (length w - (2 + number_of w)) (drop (2 + number_of w) w)

-- t has two operands
pub record Pair (row w : List ℕ) (t : Tree) : Type 0 where
  pub p : ℕ
  pub o : ℕ
  pub c : ℕ
  pub g : Sign
  pub x : Tree
  pub y : Tree
  pub is : t ≡ two p o c g x y
  pub operator : Operator w g
  pub span : span_in w ≡ span_of p (c + 1)
  pub inside : 2 + number_of w + 2 ≤ length w
  pub left : Codes row x (left_of w)
  pub right : Codes row y (right_of w)

module _ {row w : List ℕ} {t : Tree} (P : Pair row w t) where
  -- the words of the first are fewer
  pub left-shorter : length (left_of w) < length w
  left-shorter = omega (arith, length-take (2 + number_of w - 2) (drop 2 w), P.inside)

  -- so are those of the second
  pub right-shorter : length (right_of w) < length w
  right-shorter = omega (arith, ap length (tail-part (2 + number_of w) w), length-drop (2 + number_of w) w, P.inside)

-- the head word is none of an integer, of a letter, of `(- x)` and of a power
pub record TwoTag (w : List ℕ) : Type 0 where
  pub node : 2147483648 ≤ head_of w
  pub no-letter : tag_of w ≡ 0 → ⊥
  pub no-neg : tag_of w ≡ 1 → ⊥
  pub no_power : tag_of w ≡ 5 → ⊥
