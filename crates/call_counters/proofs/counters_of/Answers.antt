-- `call_counters::counters_of` meets its contract: the width or a text is refused, or the forms of the two runs are compared.
use Rattle.std.proofs.Common.{ap, sym}
use Rattle.std.proofs.Math.Path.{◌∙◌}
use Rattle.std.specs.Prelude.{Ok}
use Rattle.door_terms.specs.laws.Forms.{runs-paired}
use Rattle.door_terms.specs.laws.Terms.{pair_runs}
use Rattle.call_counters.specs.laws.Whole.{pair-inner}
use Rattle.call_counters.proofs.counters_of.Goals as goal

pub verdict-requires-clause-paired : goal.verdict-requires-clause-paired
verdict-requires-clause-paired c =
    runs-paired c.requires.row_value (pair_runs c.in_ok-runs.was c.read_pair.ensures)

pub returns : goal.returns
returns c =
    ap Ok c.verdict.ensures
    ∙ pair-inner c.args.width c.requires.row_value (sym c.bits_of.ensures ∙ c.in_ok-bits.was)
    (pair_runs c.in_ok-runs.was c.read_pair.ensures)
