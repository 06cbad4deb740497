-- `run_merge::put` meets its contract.
-- Assumes nothing.
use Rattle.std.proofs.Common.{arith, length-set}
use Rattle.run_merge.specs.laws.Steps.{wrote_none, wrote-some}
use Rattle.run_merge.proofs.put.Goals as goal

pub returns-then-c-eq0 : goal.returns-then-c-eq0
returns-then-c-eq0 c =
    wrote_none _ _ _ _ c.if-c-eq0.true

pub bounds-out-n-2 : goal.bounds-out-n-2
bounds-out-n-2 c =
    simp length-set (omega arith)

pub returns : goal.returns
returns c =
    wrote-some _ _ _ _ c.if-c-eq0.false c.requires
