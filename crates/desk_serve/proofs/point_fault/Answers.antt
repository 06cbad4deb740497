-- `desk_serve::point_fault` meets its contract.
use Rattle.std.proofs.Common.{ap, arith}
use Rattle.desk_serve.specs.Serve.{some_fault}
use Rattle.desk_serve.specs.Laws.{fault-missing, fault-wrong, fault-none, some-fault}
use Rattle.desk_serve.proofs.point_fault.Goals as goal

pub returns-then-n-lt3 : goal.returns-then-n-lt3
returns-then-n-lt3 c =
    some-fault (λ e. omega (arith, c.count-n.ensures)) (fault-missing c.args.line.now c.count-n.ensures c.if-n-lt3.true)

pub returns-then-k-m : goal.returns-then-k-m
returns-then-k-m c =
    some-fault (λ e. omega arith)
    (fault-wrong c.args.line.now c.count-n.ensures c.coordinates-k.ensures c.if-n-lt3.false c.if-k-m.true)

pub returns : goal.returns
returns c =
    ap some_fault (fault-none c.args.line.now c.count-n.ensures c.coordinates-k.ensures c.if-n-lt3.false c.if-k-m.false)
