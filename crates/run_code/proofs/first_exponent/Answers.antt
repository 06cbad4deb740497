-- `run_code::first_exponent` meets its contract.
-- Assumes nothing.
use Rattle.run_code.proofs.Units.{key-shift}
use Rattle.run_code.proofs.first_exponent.Goals as goal

pub returns : goal.returns
returns c = key-shift c.args.key c.args.m c.requires
