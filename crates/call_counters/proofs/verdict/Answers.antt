-- `call_counters::verdict` meets its contract: the codes of the two forms are made side by side, and compared.
use Rattle.std.proofs.Common.{ap₂}
use Rattle.std.proofs.Math.Path.{◌∙◌}
use Rattle.std.specs.Prelude.{drop}
use Rattle.code_counters.specs.Same.{same_of}
use Rattle.door_compare.specs.laws.Sides.{forms-sides, forms-left, forms-right}
use Rattle.call_counters.proofs.verdict.Goals as goal

pub counted-requires-clause-sides : goal.counted-requires-clause-sides
counted-requires-clause-sides c =
    forms-sides c.requires.paired (drop 16384 c.args.a.now) c.code_pair-forms.ensures

pub returns : goal.returns
returns c =
    c.counted.ensures
    ∙ ap₂ (same_of c.args.width) (forms-left c.requires.paired (drop 16384 c.args.a.now) c.code_pair-forms.ensures)
    (forms-right c.requires.paired (drop 16384 c.args.a.now) c.code_pair-forms.ensures)
