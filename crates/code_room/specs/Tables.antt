-- How many words the product asks of its tables. o, t and u are the lengths of the table that it is written to, and of two for work.
use Rattle.std.specs.Prelude.{ℕ, ◌+◌, ◌*◌, ◌-◌, ◌<◌, ◌≤◌}
use Rattle.horner.specs.definitions.Form.{Form}
use Rattle.code.specs.Operations.{pop_of}
use Rattle.code.specs.Widths.{Leaf}
use Rattle.code_room.specs.Fit.{cross_of, Fit, Held}

-- the words that a product in n variables, of degree k in the first, asks of the table that it is written to: a head word for each power
-- of the first variable; for each variable below, a form that waits (3,073), its head word and those of that variable's powers; and the
-- product itself
abbrev pub words_for : ℕ → ℕ → ℕ
words_for n k = k + 3137 * n + 3073

-- a words in the first table, b in the second, two forms in the third, and none longer than a node's word can say
pub record Tables (a b o t u : ℕ) : Type 0 where
  pub first : a ≤ o
  pub second : b ≤ t
  pub third : 6146 ≤ u
  pub first_small : o ≤ 33554432
  pub second-small : t ≤ 33554432
  pub third-small : u ≤ 33554432

-- for the product of any two forms that fit
pub record Space (w : ℕ) (x y : Form (Leaf w)) (o t u : ℕ) : Type 0 where
  pub n : ℕ
  pub k : ℕ
  pub fit : Fit w n k x y
  pub tables : Tables (words_for n k) (words_for n k) o t u

-- the same where a factor is pop(i, .) with i of at least 1: t is used one variable down only
pub record PopSpace (w : ℕ) (x y : Form (Leaf w)) (o t u : ℕ) : Type 0 where
  pub n : ℕ
  pub k : ℕ
  pub pos : 1 ≤ n
  pub fit : Fit w n k x y
  pub tables : Tables (words_for n k) (words_for (n - 1) 63) o t u

-- for pow(i, p pop(1, s), 0): a word more, for its head
pub record CrossSpace (w i : ℕ) (p s : Form (Leaf w)) (o t u : ℕ) : Type 0 where
  pub n : ℕ
  pub k : ℕ
  pub pos : 1 ≤ n
  pub fit : Fit w n k p (pop_of w 1 s)
  pub pos-i : 0 < i
  pub held : Held w (cross_of w i p s)
  pub tables : Tables (1 + words_for n k) (words_for (n - 1) 63) o t u
