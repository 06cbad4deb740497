-- `run_stack::product` meets its contract: that of `run_merge::product`, the shorter run first.
-- Assumes nothing.
use Rattle.code.proofs.Lists.{begins-as}
use Rattle.run_stack.specs.laws.Stack.{left-first, right-first}
use Rattle.run_stack.proofs.product.Goals as goal

pub returns-then-x-y : goal.returns-then-x-y
returns-then-x-y c =
    begins-as c.product.ensures (left-first c.args.x.now c.args.y.now c.if-x-y.true)

pub returns-else-x-y : goal.returns-else-x-y
returns-else-x-y c =
    begins-as c.product-else-x-y.ensures (right-first c.args.x.now c.args.y.now c.if-x-y.false)
