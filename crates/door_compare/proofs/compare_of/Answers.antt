-- `door_compare::compare_of` meets its contract: a text is refused, or the verdict is told of the two runs.
use Rattle.door_terms.specs.laws.Terms.{pair_runs}
use Rattle.door_compare.specs.laws.Pairs.{pair-beside, pair-told}
use Rattle.door_compare.proofs.compare_of.Goals as goal

pub verdict-requires-clause-beside : goal.verdict-requires-clause-beside
verdict-requires-clause-beside c =
    pair-beside c.requires.row_value (pair_runs c.in_ok-runs.was c.read_pair.ensures)

pub returns : goal.returns
returns c =
    let t = pair-told c.requires.row_value (pair_runs c.in_ok-runs.was c.read_pair.ensures) c.args.point.now c.verdict.ensures in
    record { value = t.0; point_then = t.1 }
