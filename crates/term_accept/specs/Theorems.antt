-- What stands besides: theorems of this crate that no other proof leans on.
use Rattle.std.specs.Prelude.{◌≡◌, Result, Ok, List, ℕ, ◌≤◌, length}
use Rattle.std.proofs.Common.{arith, length-take}
use Rattle.std.proofs.Math.Path.{ap}
use Rattle.dialect.specs.declared.Dialect.{Dialect}
use Rattle.refusal.specs.declared.Flaw.{Flaw}
use Rattle.term_parse.specs.Found.{ParsedAs}
use Rattle.term_accept.specs.Accepted.{parsed}

module _ (D : Dialect) (row s out : List ℕ) (r : Result ℕ Flaw) (A : ParsedAs D row s out r) where
  module _ (k : ℕ) (q : r ≡ Ok k) where
    -- the words are there
    pub inside : k ≤ length out
    inside = let P = parsed D row s out r A k q in omega (arith, length-take k out, ap length P.is, P.size)
