use Rattle.std.specs.Prelude.{take}
use Rattle.code.specs.Coding.{dec}
use Rattle.code_power.specs.Raise.{raise_of, Stacked}
use Rattle.code_power.proofs.raise.Given as goal

abbrev pub invariant-loop-i : goal.invariant-loop-i
invariant-loop-i l =
    Stacked l.width (dec l.width (take l.n l.fn.s)) (raise_of l.width (dec l.width (take l.n l.fn.s)) l._i) l.n l.m l.s
