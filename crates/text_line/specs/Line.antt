-- Numbers in a line, and the line of a difference.
use Rattle.std.specs.Prelude.{List, [], ◌∷◌, ◌++◌, ℕ}
use Rattle.text.specs.definitions.Bytes.{bytes, decimal}

-- each number behind a space
abbrev pub numbers_text : List ℕ → List ℕ
numbers_text [] = []
numbers_text (x ∷ xs) = (32 ∷ decimal x) ++ numbers_text xs

-- `DIFF x1 .. xn l r`
abbrev pub different_text : List ℕ → ℕ → ℕ → List ℕ
different_text N l r = ((bytes "DIFF" ++ numbers_text N) ++ (32 ∷ decimal l)) ++ (32 ∷ decimal r)
