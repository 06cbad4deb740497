-- `door_terms::read_into` meets its contract: what is refused, or the run copied to the front of the last table.
use Rattle.std.proofs.Common.{refl, arith, length-take-le}
use Rattle.std.proofs.lemmas.Result.{err_from_is_err_and}
use Rattle.code.proofs.Lists.{begins-le}
use Rattle.term_read.specs.Read.{IsRun}
use Rattle.term_read.specs.laws.Reading.{read-words, refused-any}
use Rattle.term_read.specs.laws.Terms.{run-words}
use Rattle.door_terms.specs.laws.Terms.{copied}
use Rattle.door_terms.proofs.read_into.Goals as goal

pub returns-in_err-n : goal.returns-in_err-n
returns-in_err-n c =
    let p = err_from_is_err_and c.from_residual.result c.from_residual.ensures.1 in
    rw (p.1, p.2) (refused-any (IsRun _ _) _ refl c.in_err-n.ensures)

pub copy-requires : goal.copy-requires
copy-requires c =
    let T = read-words c.in_ok-n.was c.read_run.ensures in
    omega (
      arith,
      length-take-le c.in_ok-n.n c.read_run.new.stack (begins-le T.made),
      run-words c.requires.row_value T,
      c.requires.roomy.second,
      c.read_run.auto.other,
    )

pub returns : goal.returns
returns c =
    copied _ c.in_ok-n.was c.read_run.ensures c.copy.ensures
