-- `form_write::write_leaf` meets its contract: a leaf above half of P is written as a sign and what it lacks of P.
use Rattle.std.proofs.Common.{arith, length-set}
use Rattle.form_write.specs.laws.Sizes.{leaf-length-plain, leaf-length-minus}
use Rattle.form_write.specs.laws.Texts.{leaf-plain, leaf-minus}
use Rattle.form_write.specs.laws.Wrote.{wrote_none, wrote_as, wrote-byte, wrote_on, wrote-room}
use Rattle.form_write.proofs.write_leaf.Goals as goal

pub write_number-requires : goal.write_number-requires
write_number-requires c =
    omega (arith, leaf-length-plain c.args.x c.if-x-le-HALF.true, c.requires.x_in_bounds)

pub returns-then-x-le-HALF : goal.returns-then-x-le-HALF
returns-then-x-le-HALF c =
    wrote_as c.write_number.ensures (leaf-plain c.args.x c.if-x-le-HALF.true)

pub bounds-out-0 : goal.bounds-out-0
bounds-out-0 c =
    omega (arith, leaf-length-minus c.args.x c.if-x-le-HALF.false c.requires.x_bound, c.requires.x_in_bounds)

pub slice_bounds-write_number-count : goal.slice_bounds-write_number-count
slice_bounds-write_number-count c =
    simp length-set (omega (arith, leaf-length-minus c.args.x c.if-x-le-HALF.false c.requires.x_bound, c.requires.x_in_bounds))

pub slice_bounds-write_number-start : goal.slice_bounds-write_number-start
slice_bounds-write_number-start c =
    simp length-set (omega (arith, leaf-length-minus c.args.x c.if-x-le-HALF.false c.requires.x_bound, c.requires.x_in_bounds))

pub write_number-n-requires : goal.write_number-n-requires
write_number-n-requires c =
    let l = leaf-length-minus c.args.x c.if-x-le-HALF.false c.requires.x_bound in
    omega (arith, l, c.requires.x_in_bounds, wrote-room (wrote-byte (wrote_none c.args.out.now) 45 (omega (arith, l, c.requires.x_in_bounds))))

pub returns : goal.returns
returns c =
    let l = leaf-length-minus c.args.x c.if-x-le-HALF.false c.requires.x_bound in
    wrote_as
    (wrote_on (wrote-byte (wrote_none c.args.out.now) 45 (omega (arith, l, c.requires.x_in_bounds))) c.write_number-n.ensures)
    (leaf-minus c.args.x c.if-x-le-HALF.false c.requires.x_bound)
