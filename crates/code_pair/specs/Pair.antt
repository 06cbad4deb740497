-- Two forms one behind the other.
use Rattle.std.specs.Prelude.{List, ℕ, ◌+◌, ◌≤◌, length, take, drop}
use Rattle.horner.specs.definitions.Form.{Form}
use Rattle.code.specs.Coding.{Coded, dec}
use Rattle.code.specs.Widths.{Leaf}

-- the form in the first a words, and the one in the b words behind them
abbrev pub left : ℕ → List ℕ → Form (Leaf 0)
left a d = dec 0 (take a d)

abbrev pub right : ℕ → ℕ → List ℕ → Form (Leaf 0)
right a b d = dec 0 (take b (drop a d))

pub record Pair (a b : ℕ) (d : List ℕ) : Type 0 where
  pub fits : a + b ≤ length d
  pub coded-left : Coded 0 (take a d)
  pub coded-right : Coded 0 (take b (drop a d))
