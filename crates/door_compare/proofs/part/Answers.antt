-- `door_compare::part` meets its contract: the first point of the difference, and the value of each form there.
use Rattle.std.proofs.Common.{ap, ap₂, arith}
use Rattle.std.proofs.Math.Path.{◌∙◌}
use Rattle.std.specs.Prelude.{Ok, take}
use Rattle.reply.specs.declared.Comparison.TheVariants.{Different}
use Rattle.code.specs.laws.Codes.{tail-part}
use Rattle.code.specs.Coding.{dec}
use Rattle.code.specs.Operations.{value_of}
use Rattle.door_compare.specs.Compare.{gap_of}
use Rattle.door_compare.specs.laws.Points.{gap-coded, gap-size, gap-ready, gap-point, point-front, point-leaves}
use Rattle.door_compare.proofs.part.Goals as goal

pub first_point-requires-clause-coded : goal.first_point-requires-clause-coded
first_point-requires-clause-coded c =
    gap-coded c.requires.sides.0 c.gap-g.ensures

pub first_point-requires-clause-room_under : goal.first_point-requires-clause-room_under
first_point-requires-clause-room_under c =
    let z = gap-size c.requires.sides.0 c.gap-g.ensures in
    (omega (arith, z, c.requires.rooms.1), omega (arith, z, c.requires.rooms.1, c.gap-g.auto.b))

pub first_point-requires-clause-ready : goal.first_point-requires-clause-ready
first_point-requires-clause-ready c =
    gap-ready c.requires.sides.0 c.gap-g.ensures c.args.n c.requires.sides.1

pub value-x-requires-clause-leaves : goal.value-x-requires-clause-leaves
value-x-requires-clause-leaves c =
    point-leaves c.args.n (gap_of c.args.k c.args.l.now) c.args.point.now
    (gap-point c.requires.sides.0 c.gap-g.ensures c.args.n c.args.point.now c.first_point.ensures)

pub value-y-requires-clause-leaves : goal.value-y-requires-clause-leaves
value-y-requires-clause-leaves c =
    point-leaves c.args.n (gap_of c.args.k c.args.l.now) c.args.point.now
    (gap-point c.requires.sides.0 c.gap-g.ensures c.args.n c.args.point.now c.first_point.ensures)

pub returns : goal.returns
returns c =
    let q = gap-point c.requires.sides.0 c.gap-g.ensures c.args.n c.args.point.now c.first_point.ensures in
    let f = point-front c.args.n (gap_of c.args.k c.args.l.now) c.args.point.now q in
    record {
      value = ap₂ (λ v w. Ok (Different v w)) (c.value-x.ensures.0 ∙ ap (value_of 0 (dec 0 (take c.args.k c.args.l.now))) f)
          (c.value-y.ensures.0 ∙ ap₂ (λ x N. value_of 0 (dec 0 x) N) (tail-part c.args.k c.args.l.now) f);
      point_then = q;
    }
