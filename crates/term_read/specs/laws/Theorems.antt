-- What stands besides: theorems of this crate that no other proof leans on.
use Rattle.std.specs.Prelude.{true, Result, Ok, List, ◌≡◌, ℕ, ◌≤◌, length}
use Rattle.std.proofs.Common.{sym, ap, subst, arith, length-take}
use Rattle.dialect.specs.Dialects.{ordinary}
use Rattle.dialect.specs.declared.Dialect.{Dialect}
use Rattle.text.specs.definitions.Bytes.{is_row}
use Rattle.text_laws.specs.laws.Rows.{row-length}
use Rattle.refusal.specs.declared.Flaw.{Flaw}
use Rattle.term_accept.specs.Accepted.{AcceptedAs}
use Rattle.term_parse.specs.Found.{ParseReady}
use Rattle.term_read.specs.laws.Building.{found}

-- what parsing asks for document 01's own terms
pub parse-ready : (row : List ℕ) (d : Dialect) {n : ℕ} → is_row row ≡ true → d ≡ ordinary → 6145 ≤ n → ParseReady d row n
parse-ready row d {n} r e h =
    subst (λ D. ParseReady D row n) (sym e) (record { four = (row-length row r).1; short = omega arith; room = omega (arith, h) })

module _ (row s out : List ℕ) (q : Result ℕ Flaw) (d : Dialect) (e : d ≡ ordinary) (B : AcceptedAs d row s out q) where
  module _ {k : ℕ} (h : q ≡ Ok k) where
    -- the words of the tree lie in their table
    pub tree-inside : k ≤ length out
    tree-inside = let F = found row s out q d e B h in omega (arith, length-take k out, ap length F.is, F.size)
