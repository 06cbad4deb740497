-- `run_merge::rest` meets its contract. The loop's invariant: what is written so far, and then the product with what is left of y, is what
-- is to be written.
-- Assumes nothing.
use Rattle.std.proofs.Common.{arith}
use Rattle.run_merge.specs.laws.Steps.{scaled-end, rest-start, rest-done, resting-on}
use Rattle.run_merge.proofs.Past.{resting-past}
use Rattle.run_merge.proofs.rest.Goals as goal

pub loop-y-init : goal.loop-y-init
loop-y-init c =
    record { within = omega arith; room = omega arith; fits = c.requires.c_lt_prime.1; going = rest-start _ _ _ (omega arith) }

pub loop-y-preserved : goal.loop-y-preserved
loop-y-preserved c =
    resting-past (resting-on c.loop-y.invariant (omega arith) c.leaf_product.ensures.0 c.put-n.ensures (omega arith))

pub returns : goal.returns
returns c =
    rest-done (omega arith) c.loop-y.invariant.going (scaled-end c.args.k c.args.c c.loop-y.y.now 0 (omega arith))
