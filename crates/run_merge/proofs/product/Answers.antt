-- `run_merge::product` meets its contract. The loop's invariant: what stands at the front of out, and then the products of what is left of
-- x, make the product.
-- Assumes nothing.
use Rattle.std.proofs.Common.{arith}
use Rattle.run_merge.specs.laws.Products.{next, multiplying-copied, multiplying-past, multiplying-end}
use Rattle.run_merge.proofs.product.Goals as goal

pub add_times-n-requires : goal.add_times-n-requires
add_times-n-requires c =
    let v = next c.loop-x.invariant (omega arith) in
    record { fits = v.fits-z; c_lt_prime = (v.below, v.fits-y); y_in_bounds = omega (arith, v.room) }

pub loop-x-preserved : goal.loop-x-preserved
loop-x-preserved c =
    multiplying-past (multiplying-copied _ _ _ c.loop-x.invariant (omega arith) c.add_times-n.ensures c.copy.ensures)

pub returns : goal.returns
returns c =
    multiplying-end c.loop-x.invariant (omega arith)
