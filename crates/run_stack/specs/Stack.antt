-- Products and powers of runs in words, and the room that they take.
use Rattle.std.specs.Prelude.{cond, List, [], ◌≡◌, ℕ, zero, suc, ◌+◌, ◌≤◌, ◌<◌, leb, length, take}
use Rattle.code.specs.Coding.{Begins}
use Rattle.run_merge.specs.Words.{pairs, produced, Producing}

-- the product of two runs: the shorter one goes first, monomial by monomial
unfoldable pub multiplied : List ℕ → List ℕ → List ℕ
multiplied x y = cond (leb (length x) (length y)) (produced [] (pairs x) y) (produced [] (pairs y) x)

-- all that is added up on the way to the product of x and y fits w words, whichever goes first
pub record ProductRoom (x y : List ℕ) (w : ℕ) : Type 0 where
  pub left-first : length x ≤ length y → Producing [] (pairs x) y w
  pub right-first : length y < length x → Producing [] (pairs y) x w

-- the power j + 1 of a run
unfoldable pub raised : ℕ → List ℕ → List ℕ
raised zero x = x
raised (suc j) x = multiplied x (raised j x)

-- all that is added up on the way to the power j + 1 fits w words; s words take that power, and x with each lower one behind it
pub record PowerRoom (x : List ℕ) (j w s : ℕ) : Type 0 where
  pub step : (i : ℕ) → i < j → ProductRoom x (raised i x) w
  pub behind : (i : ℕ) → i < j → length x + length (raised i x) ≤ s
  pub fits : length (raised j x) ≤ s

-- the stack begins with x still, of a words, and out with z, of r
pub record Beside (x z : List ℕ) (a r : ℕ) (stack out : List ℕ) : Type 0 where
  pub kept : take a stack ≡ x
  pub written : Begins r z out
