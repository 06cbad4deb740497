-- `form_write::write_head` meets its contract: five bytes, a numeral, a space.
use Rattle.std.proofs.Common.{arith, length-set}
use Rattle.form_write.specs.laws.Sizes.{head-length}
use Rattle.form_write.specs.laws.Wrote.{wrote_on, wrote-room, wrote-length}
use Rattle.form_write.proofs.Heads.{wrote-five, wrote-head}
use Rattle.form_write.proofs.write_head.Goals as goal

pub bounds-out-0 : goal.bounds-out-0
bounds-out-0 c =
    omega (arith, c.requires, head-length c.args.c c.args.i)

pub bounds-out-1 : goal.bounds-out-1
bounds-out-1 c =
    simp length-set (omega (arith, c.requires, head-length c.args.c c.args.i))

pub bounds-out-2 : goal.bounds-out-2
bounds-out-2 c =
    simp length-set (omega (arith, c.requires, head-length c.args.c c.args.i))

pub bounds-out-3 : goal.bounds-out-3
bounds-out-3 c =
    simp length-set (omega (arith, c.requires, head-length c.args.c c.args.i))

pub bounds-out-4 : goal.bounds-out-4
bounds-out-4 c =
    simp length-set (omega (arith, c.requires, head-length c.args.c c.args.i))

pub slice_bounds-write_number-count : goal.slice_bounds-write_number-count
slice_bounds-write_number-count c =
    simp length-set (omega (arith, c.requires, head-length c.args.c c.args.i))

pub slice_bounds-write_number-start : goal.slice_bounds-write_number-start
slice_bounds-write_number-start c =
    simp length-set (omega (arith, c.requires, head-length c.args.c c.args.i))

pub write_number-n-requires : goal.write_number-n-requires
write_number-n-requires c =
    let l = head-length c.args.c c.args.i in
    omega (arith, c.requires, l, wrote-room (wrote-five c.args.c c.args.out.now (omega (arith, c.requires, l))))

pub bounds-out-e : goal.bounds-out-e
bounds-out-e c =
    let l = head-length c.args.c c.args.i in
    let f = wrote-five c.args.c c.args.out.now (omega (arith, c.requires, l)) in
    omega (
      arith,
      c.requires,
      l,
      c.write_number-n.ensures.size,
      wrote-length (wrote_on f c.write_number-n.ensures),
    )

pub returns : goal.returns
returns c =
    wrote-head c.args.c c.args.i c.args.out.now c.write_number-n.new.out
    (omega (arith, c.requires, head-length c.args.c c.args.i, c.write_number-n.ensures.size))
    c.write_number-n.ensures
