-- The powers of a form in the ring of a width, and which powers fit the tables.
use Rattle.std.specs.Prelude.{List, ◌≡◌, ℕ, ◌+◌, ◌^◌, ◌≤◌, ◌<◌, min, length, drop}
use Rattle.horner.specs.definitions.Form.{Form, raise}
use Rattle.horner.specs.definitions.Measures.{multiples, box, AllLe}
use Rattle.code.specs.Coding.{Made, enc}
use Rattle.code.specs.Widths.{Leaf, ring_of}
use Rattle.code_room.specs.Fit.{Within}
use Rattle.code_room.specs.Tables.{words_for, Tables}

-- Definition 12
unfoldable pub raise_of : (w : ℕ) → Form (Leaf w) → ℕ → Form (Leaf w)
raise_of w x k = raise (ring_of w) x k

-- The k-th power of x is within the limits of document 01: x is normal in vars variables, its degrees are within ds, it has at most c
-- terms, and counts for at least one. s, o, t and u are the lengths of the table that x stands in, in its first n words, and of the
-- product's three. Behind x each lower power has room, held words; the k-th is put in the place of x.
pub record Raising (w : ℕ) (x : Form (Leaf w)) (k n s o t u : ℕ) : Type 0 where
  pub vars : ℕ
  pub ds : List ℕ
  pub c : ℕ
  pub few-vars : vars ≤ 4
  pub len : length ds ≡ vars
  pub of-x : Within w vars c ds x
  pub pos : 1 ≤ c
  pub degrees : AllLe 63 (multiples k ds)
  pub few : min (c ^ k) (box (multiples k ds)) ≤ 256
  pub held : ℕ
  pub lower : (j : ℕ) → j < k → length (enc w (raise_of w x j)) ≤ held
  pub fits : n + held ≤ s
  pub whole : length (enc w (raise_of w x k)) ≤ s
  pub tables : Tables (words_for vars 63) (words_for vars 63) o t u

-- l begins with the code of x, of n words, and then has that of y, of m
pub record Stacked (w : ℕ) (x y : Form (Leaf w)) (n m : ℕ) (l : List ℕ) : Type 0 where
  pub below : Made w x n l
  pub above : Made w y m (drop n l)
