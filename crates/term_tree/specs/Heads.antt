-- What the first word of a node says, as code has it, and the operands of a node that has two.
use Rattle.std.specs.Prelude.{List, ◌≡◌, ℕ, ◌+◌, ◌-◌, ◌/◌, ◌%◌, ◌≤◌, ◌<◌, length, take, drop}
use Rattle.text.specs.definitions.Tree.{Sign, add, sub, mul, Tree, two}
use Rattle.term_tree.specs.Coding.{span_of}
use Rattle.term_tree.specs.Shapes.{Codes, span_in}
use Rattle.term_tree.specs.declared.Head.{Head}
use Rattle.term_tree.specs.declared.Head.TheVariants as H
use Rattle.term_tree.specs.declared.Operation.{Operation}
use Rattle.term_tree.specs.declared.Operation.TheVariants.{Add, Subtract, Multiply}

-- the operator in a tree
abbrev pub sign_of : Operation → Sign
sign_of Add = add
sign_of Subtract = sub
sign_of Multiply = mul

-- its tag
abbrev pub tag_for : Operation → ℕ
tag_for Add = 2
tag_for Subtract = 3
tag_for Multiply = 4

-- what a word says: a tag above 5, which no node has, is read as that of a power
abbrev pub HeadIs : ℕ → Head → Type 0
HeadIs h (H.Integer n) = (h ≡ n) × (h < 2147483648)
HeadIs h (H.Letter i) = (2147483648 ≤ h) × (((h - 2147483648) % 8 ≡ 0) × ((h - 2147483648) / 8 ≡ i))
HeadIs h H.Negative = (2147483648 ≤ h) × ((h - 2147483648) % 8 ≡ 1)
HeadIs h (H.Pair o k) = (2147483648 ≤ h) × (((h - 2147483648) % 8 ≡ tag_for o) × ((h - 2147483648) / 8 ≡ k))
HeadIs h (H.Power k) = (2147483648 ≤ h) × ((5 ≤ (h - 2147483648) % 8) × ((h - 2147483648) / 8 ≡ k))

-- the words of a first operand of k words, and those of the second
abbrev pub first_of : ℕ → List ℕ → List ℕ
first_of k w = take (2 + k - 2) (drop 2 w)

abbrev pub second_of : ℕ → List ℕ → List ℕ
second_of k w = take (length w - (2 + k)) (drop (2 + k) w)

-- t has two operands, of which the first takes k words
pub record Operands (row w : List ℕ) (f : Operation) (k : ℕ) (t : Tree) : Type 0 where
  pub p : ℕ
  pub o : ℕ
  pub c : ℕ
  pub x : Tree
  pub y : Tree
  pub is : t ≡ two p o c (sign_of f) x y
  pub span : span_in w ≡ span_of p (c + 1)
  pub inside : 2 + k + 2 ≤ length w
  pub first : Codes row x (first_of k w)
  pub second : Codes row y (second_of k w)
