-- How long the work tables are.
use Rattle.std.specs.Prelude.{ℕ, ◌≤◌}

-- the fixed length of a work table, in words
abbrev pub table : ℕ
table = 16384

-- tables of the fixed length or more
pub record Full (a b c d : ℕ) : Type 0 where
  pub first : table ≤ a
  pub second : table ≤ b
  pub third : table ≤ c
  pub fourth : table ≤ d

-- tables long enough for a product of two forms, whose third table needs less
pub record Long (a b c d : ℕ) : Type 0 where
  pub first : table ≤ a
  pub second : table ≤ b
  pub third : table ≤ c
  pub fourth : 6146 ≤ d
