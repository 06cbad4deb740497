-- `code::modulus_of` meets its contract.
-- Assumes nothing.
use Rattle.std.proofs.Common.{sym, arith}
use Rattle.code.specs.laws.Widths.{modulus-8, modulus-16, modulus-prime}
use Rattle.code.proofs.modulus_of.Goals as goal

pub returns-in-8 : goal.returns-in-8
returns-in-8 c = sym (modulus-8 c.args.width c.in-8.is)

pub returns-in-16 : goal.returns-in-16
returns-in-16 c = sym (modulus-16 c.args.width c.in-16.is)

pub returns-in_default : goal.returns-in_default
returns-in_default c = sym (modulus-prime c.args.width (omega arith) (omega arith))
