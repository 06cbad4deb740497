-- `door_compare::parted` meets its contract: the codes of the two forms are made side by side, and the point is looked for.
use Rattle.std.proofs.Common.{length-take-le}
use Rattle.std.specs.Prelude.{drop}
use Rattle.door_compare.specs.laws.Sides.{forms-sides, forms-few, forms-ready, forms-told, wide-rooms}
use Rattle.door_compare.proofs.parted.Goals as goal

pub part-requires-clause-sides : goal.part-requires-clause-sides
part-requires-clause-sides c =
    let P = c.requires.parting.runs in
    let C = c.code_pair-forms.ensures in
    (forms-sides P (drop 16384 c.args.a.now) C, forms-ready P (drop 16384 c.args.a.now) C c.requires.parting.ready)

pub part-requires-clause-rooms : goal.part-requires-clause-rooms
part-requires-clause-rooms c =
    let s = forms-few c.requires.parting.runs (drop 16384 c.args.a.now) c.code_pair-forms.ensures in
    let i = length-take-le 16384 c.args.b.now c.requires.full.second in
    let j = length-take-le 16384 c.args.c.now c.requires.full.third in
    (wide-rooms s j (length-take-le 16384 c.args.d.now c.requires.full.fourth), wide-rooms s i j)

pub returns : goal.returns
returns c =
    forms-told c.requires.parting.runs (drop 16384 c.args.a.now) c.code_pair-forms.ensures (c.part.ensures.value, c.part.ensures.point_then)
