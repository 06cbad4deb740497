-- What a test tells.
use Rattle.std.specs.Prelude.{Bool, true, ◌≡◌}

-- r is true exactly where P holds
pub record Decides (r : Bool) (P : Type 0) : Type 0 where
  pub yes : r ≡ true → P
  pub no : P → r ≡ true
