use Rattle.std.proofs.Common.{length}
use Rattle.std.specs.Prelude.{[]}
use Rattle.run_merge.specs.Words.{pairs, produced}
use Rattle.run_merge.specs.laws.Products.{Multiplying}
use Rattle.run_merge.proofs.product.Given as goal

abbrev pub invariant-loop-x : goal.invariant-loop-x
invariant-loop-x l = Multiplying (produced [] (pairs l.fn.x) l.y) l.x l.y (length l.initial.other) 0 l.n l.out

abbrev pub decreases-loop-x : goal.decreases-loop-x
decreases-loop-x l = length l.x
