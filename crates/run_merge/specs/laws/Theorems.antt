-- What stands besides: theorems of this crate that no other proof leans on.
use mathlib.Core.List.{List, []}
use Rattle.std.specs.Prelude.{refl, ℕ, ◌-◌}
use Rattle.std.proofs.Common.{arith}
use Rattle.run_merge.specs.Words.{pairs, produced, Producing}
use Rattle.run_merge.specs.laws.Products.{Multiplying}

-- at the beginning of x nothing is
pub multiplying-start : (x y : List ℕ) (w : ℕ) (d : List ℕ) → Producing [] (pairs x) y w → Multiplying (produced [] (pairs x) y) x y w 0 0 d
multiplying-start x y w d p = record { inside = omega arith; producing = p; is = refl }
