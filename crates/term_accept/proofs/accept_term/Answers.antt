-- `term_accept::accept_term` meets its contract: the reading, and then the measures.
use Rattle.std.proofs.Common.{◌∙◌, sym, subst}
use Rattle.refusal.proofs.Exits.{exits}
use Rattle.term_accept.specs.Accepted.{AcceptedAs, refused-first, fits, over}
use Rattle.term_accept.proofs.accept_term.Goals as goal

pub returns-in_err-k : goal.returns-in_err-k
returns-in_err-k c =
    subst (AcceptedAs c.args.d c.args.row.now c.args.s.now c.parse.new.out)
    (c.in_err-k.was ∙ sym (exits c.from_residual.ensures.1))
    (refused-first c.args.d c.args.row.now c.args.s.now c.parse.new.out c.parse.result c.parse.ensures _ c.in_err-k.was)

pub returns-in-Ok : goal.returns-in-Ok
returns-in-Ok c =
    fits c.args.d c.args.row.now c.args.s.now c.parse.new.out c.parse.result c.parse.ensures _ c.in_ok-k.was c.requires.four _
    c.measure_tree.ensures _ c.in-Ok.is

pub returns-in-Err : goal.returns-in-Err
returns-in-Err c =
    over c.args.d c.args.row.now c.args.s.now c.parse.new.out c.parse.result c.parse.ensures _ c.in_ok-k.was c.requires.four _
    c.measure_tree.ensures _ c.in-Err.is
