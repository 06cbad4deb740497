-- `form_head::head_at` meets its contract, by the first byte and the fourth.
use Rattle.std.proofs.Common.{arith}
use Rattle.form_head.specs.laws.Heads.{standing-some, node-inside, head-below, head-natural, head-pop, head-pow}
use Rattle.form_head.proofs.head_at.Goals as goal

pub bounds-s-at : goal.bounds-s-at
bounds-s-at c =
    standing-some c.requires

pub returns-then-b-eq45 : goal.returns-then-b-eq45
returns-then-b-eq45 c =
    head-below _ c.if-b-eq45.true c.number_at-n.ensures

pub number_at-n-requires-then-b-ne40 : goal.number_at-n-requires-then-b-ne40
number_at-n-requires-then-b-ne40 c =
    omega (arith, standing-some c.requires)

pub returns-then-b-ne40 : goal.returns-then-b-ne40
returns-then-b-ne40 c =
    head-natural _ c.if-b-eq45.false c.if-b-ne40.true c.number_at-n-then-b-ne40.ensures

pub number_at-i-requires : goal.number_at-i-requires
number_at-i-requires c =
    omega (arith, (node-inside c.requires c.if-b-ne40.false).0)

pub overflow_add-next : goal.overflow_add-next
overflow_add-next c =
    omega (arith, (node-inside c.requires c.if-b-ne40.false).1 _ _ c.number_at-i.ensures)

pub bounds-s-at-2 : goal.bounds-s-at-2
bounds-s-at-2 c =
    omega (arith, (node-inside c.requires c.if-b-ne40.false).0)

pub returns-then-s-at-eq80 : goal.returns-then-s-at-eq80
returns-then-s-at-eq80 c =
    head-pop _ c.if-b-ne40.false c.if-s-at-eq80.true c.number_at-i.ensures

pub returns : goal.returns
returns c =
    head-pow _ c.if-b-ne40.false c.if-s-at-eq80.false c.number_at-i.ensures
