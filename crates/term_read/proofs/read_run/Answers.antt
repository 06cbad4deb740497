-- `term_read::read_run` meets its contract: what is refused, and the run that is built of the tree.
use Rattle.std.proofs.Common.{sym, ap, subst, arith, length-take-le}
use Rattle.std.specs.Prelude.{Err}
use Rattle.term_read.specs.Read.{RunRead}
use Rattle.term_read.specs.laws.Building.{run-refused, tree_plain, run-built}
use Rattle.term_read.proofs.read_run.Goals as goal

pub build_term-requires : goal.build_term-requires
build_term-requires c =
    let e = length-take-le 1024 c.args.other.now c.requires.roomy.second in
    tree_plain c.args.row.now c.args.s.now c.accept_term.new.out c.accept_term.result c.ordinary.result c.ordinary.ensures
    c.accept_term.ensures c.in-Ok.is c.requires.row_value c.requires.roomy.waits (omega (arith, e))
    (omega (arith, e, c.requires.roomy.first))

pub returns-in-Ok : goal.returns-in-Ok
returns-in-Ok c =
    run-built c.args.row.now c.args.s.now c.accept_term.new.out c.accept_term.result c.ordinary.result c.ordinary.ensures
    c.accept_term.ensures c.in-Ok.is c.requires.row_value c.build_term.ensures

pub returns-in-Err : goal.returns-in-Err
returns-in-Err c =
    subst (λ r. RunRead c.args.row.now c.args.s.now r c.args.stack.now)
    (ap Err (sym c.from.ensures))
    (run-refused c.args.row.now c.args.s.now c.accept_term.new.out c.accept_term.result c.ordinary.result c.ordinary.ensures
    c.accept_term.ensures _ c.in-Err.is)
