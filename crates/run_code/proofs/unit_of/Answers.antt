-- `run_code::unit_of` meets its contract.
-- Assumes nothing.
use Rattle.run_code.proofs.Units.{unit-shift}
use Rattle.run_code.proofs.unit_of.Goals as goal

pub returns : goal.returns
returns c = unit-shift c.args.m c.requires
