-- `run_merge::add_times` meets its contract. The loop's invariant: what is written so far, and then what is left of x and of y make, is
-- the sum.
-- Assumes nothing.
use Rattle.std.proofs.Common.{arith}
use Rattle.run_merge.specs.laws.Steps.{adding-over, adding-level, adding-under}
use Rattle.run_merge.specs.laws.Steps.{adding-left-end, adding-right-end}
use Rattle.run_merge.proofs.Past.{adding-past-x, adding-past-y}
use Rattle.run_merge.proofs.add_times.Goals as goal

pub returns-in_default-y : goal.returns-in_default-y
returns-in_default-y c =
    adding-right-end c.loop-x.invariant (omega arith) c.rest.ensures

pub loop-x-preserved-then-a-b : goal.loop-x-preserved-then-a-b
loop-x-preserved-then-a-b c =
    adding-past-x (adding-over c.loop-x.invariant (omega arith) (omega arith) (omega arith) c.put-n.ensures (omega arith))

pub loop-x-preserved-then-a-b-2 : goal.loop-x-preserved-then-a-b-2
loop-x-preserved-then-a-b-2 c =
    adding-past-y (adding-past-x (adding-level c.loop-x.invariant (omega arith) (omega arith) c.if-a-b-2.true
    c.leaf_product-d.ensures.0 c.leaf_sum.ensures.0 c.put-n-then-a-b-2.ensures (omega arith)))

pub loop-x-preserved : goal.loop-x-preserved
loop-x-preserved c =
    adding-past-y (adding-under c.loop-x.invariant (omega arith) (omega arith) (omega (arith, c.if-a-b-2.false, c.if-a-b.false))
    c.leaf_product-d.ensures.0 c.put-n-else-a-b-2.ensures (omega arith))

pub returns : goal.returns
returns c =
    adding-left-end c.loop-x.invariant (omega arith) c.rest-2.ensures
