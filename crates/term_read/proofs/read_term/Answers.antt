-- `term_read::read_term` meets its contract: the run is read into one table, and its form made in another.
use Rattle.std.proofs.Common.{sym, subst, arith, length-take-le, length}
use Rattle.std.proofs.Math.Path.{◌≡◌, ◌∙◌}
use Rattle.std.specs.Prelude.{take}
use Rattle.refusal.proofs.Exits.{exits}
use Rattle.term_read.specs.Read.{IsTerm, IsRun, TermRead}
use Rattle.term_read.specs.laws.Building.{code-placed, code-even, code-room, form-built}
use Rattle.term_read.specs.laws.Reading.{read-words, refused-any}
use Rattle.term_read.proofs.read_term.Goals as goal

pub returns-in_err-n : goal.returns-in_err-n
returns-in_err-n c =
    subst (λ r. TermRead c.args.row.now c.args.s.now r c.read_run.new.out)
    (c.in_err-n.was ∙ sym (exits c.from_residual.ensures.1))
    (refused-any (IsTerm c.args.row.now c.args.s.now) _ c.in_err-n.was c.read_run.ensures)

pub slice_bounds-to_code-end-4 : goal.slice_bounds-to_code-end-4
slice_bounds-to_code-end-4 c =
    sym (length-take-le 16384 c.read_run.new.out (omega (arith, c.read_run.auto.out, c.requires.long.first)))

pub to_code-requires-clause-placed : goal.to_code-requires-clause-placed
to_code-requires-clause-placed c =
    let run : IsRun c.args.row.now c.args.s.now c.in_ok-n.n c.read_run.new.stack = read-words c.in_ok-n.was c.read_run.ensures in
    (code-placed c.requires.row_value run, code-even c.requires.row_value run)

pub to_code-requires-clause-n_in_bounds : goal.to_code-requires-clause-n_in_bounds
to_code-requires-clause-n_in_bounds c =
    let run : IsRun c.args.row.now c.args.s.now c.in_ok-n.n c.read_run.new.stack = read-words c.in_ok-n.was c.read_run.ensures in
    let table : length (take 16384 c.read_run.new.out) ≡ 16384 =
    length-take-le 16384 c.read_run.new.out (omega (arith, c.read_run.auto.out, c.requires.long.first)) in
    (code-room c.requires.row_value run _ (omega (arith, table)), omega (arith, table))

pub returns : goal.returns
returns c =
    let run : IsRun c.args.row.now c.args.s.now c.in_ok-n.n c.read_run.new.stack = read-words c.in_ok-n.was c.read_run.ensures in
    form-built c.requires.row_value run _ _ c.to_code.ensures
