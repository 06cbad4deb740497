-- `door_compare::gap` meets its contract: the right form is negated, and the sum taken.
use Rattle.door_compare.specs.laws.Points.{gap-negated, gap-room, gap-made}
use Rattle.door_compare.proofs.gap.Goals as goal

pub sum-requires-clause-coded : goal.sum-requires-clause-coded
sum-requires-clause-coded c =
    (c.requires.sides.left, gap-negated c.requires.sides c.negate-m.ensures)

pub sum-requires-clause-room_under : goal.sum-requires-clause-room_under
sum-requires-clause-room_under c =
    gap-room c.requires.sides _ c.requires.rooms c.negate-m.ensures

pub returns : goal.returns
returns c =
    gap-made c.requires.sides c.negate-m.ensures c.sum.ensures
