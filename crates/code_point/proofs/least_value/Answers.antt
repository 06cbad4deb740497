-- `code_point::least_value` meets its contract. The loop's invariant: the tables are as long as at first, and the form vanishes at each
-- number passed. So the number is at most one at which it does not, which is at most 63; the measure is what is left to 64. Assumes
-- nothing.
use Rattle.std.proofs.Common.{arith}
use Rattle.std.proofs.Math.Path.{◌∙◌}
use Rattle.code.specs.laws.Codes.{coded}
use Rattle.code_point.specs.laws.Least.{fails-within, pass-more}
use Rattle.code_point.proofs.Forms.{left-codes, left-zero}
use Rattle.code_point.proofs.least_value.Goals as goal

pub is_zero-requires : goal.is_zero-requires
is_zero-requires c =
    coded (left-codes c.loop-a.a c.requires.coded c.at_first-m.ensures)

pub returns-then-not-is_zero : goal.returns-then-not-is_zero
returns-then-not-is_zero c =
    let z = left-zero c.loop-a.a c.requires.coded c.at_first-m.ensures c.is_zero.ensures in
    (record { fails = z ∙ c.if-not-is_zero.true; before = c.loop-a.invariant.1.1 }, c.at_first-m.ensures)

pub loop-a-preserved : goal.loop-a-preserved
loop-a-preserved c =
    let z = left-zero c.loop-a.a c.requires.coded c.at_first-m.ensures c.is_zero.ensures in (
      c.at_first-m.auto.out ∙ c.loop-a.invariant.0,
      (c.at_first-m.auto.spare ∙ c.loop-a.invariant.1.0, pass-more c.loop-a.invariant.1.1 (z ∙ c.if-not-is_zero.false)),
    )

pub loop-a-smaller : goal.loop-a-smaller
loop-a-smaller c = omega (arith, fails-within c.requires.fails c.loop-a.invariant.1.1)
