-- `code_first::put_lower` meets its contract: a copy, or a store and a copy after it.
-- Assumes nothing.
use Rattle.std.proofs.Common.{◌+◌, ◌-◌, sym, ap, ◌∙◌, arith}
use Rattle.code.specs.Coding.{enc, dec}
use Rattle.code.proofs.Lists.{begins-as, begins-set, begins-tail}
use Rattle.code.proofs.Regions.{begins-copy}
use Rattle.code_first.specs.laws.First.{lower-code, lower-same}
use Rattle.code_first.proofs.put_lower.Goals as goal

pub returns-then-i-eq1 : goal.returns-then-i-eq1
returns-then-i-eq1 c =
    begins-as (begins-copy c.args.p.now _ c.copy.new.out c.copy.ensures)
    (c.requires.coded.is
    ∙ ap (enc c.args.width)
    (sym (lower-same c.args.width c.args.i (dec c.args.width c.args.p.now) c.if-i-eq1.true)))

pub returns : goal.returns
returns c =
    begins-as
    (begins-tail (begins-set c.args.out.now (2147483648 + (c.args.i - 1)) (omega (arith, c.requires.room_under)))
    (begins-copy c.args.p.now _ c.copy-2.new.out c.copy-2.ensures))
    (lower-code c.args.width c.args.i c.requires.coded (omega (arith, c.requires.i_nonzero.0, c.if-i-eq1.false)))
