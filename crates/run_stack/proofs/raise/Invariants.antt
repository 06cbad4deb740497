use Rattle.std.specs.Prelude.{take}
use Rattle.run_stack.specs.Stack.{raised, Beside}
use Rattle.run_stack.proofs.raise.Given as goal

abbrev pub invariant-loop-i : goal.invariant-loop-i
invariant-loop-i l = Beside (take l.a l.fn.stack) (raised l._i (take l.a l.fn.stack)) l.a l.m l.stack l.out
