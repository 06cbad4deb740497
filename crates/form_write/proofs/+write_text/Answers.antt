-- `form_write::write_text` meets its contract: each part is written through the rest of the buffer, behind what stands there. The measure
-- is the number of words.
use Rattle.std.proofs.Common.{ap, arith, length}
use Rattle.code.specs.laws.Codes.{some, int_view}
use Rattle.code.specs.laws.Parts.{pop-at, pow-at}
use Rattle.form_write.specs.laws.Sizes.{pop-length, pow-length}
use Rattle.form_write.specs.laws.Texts.{text-int}
use Rattle.form_write.specs.laws.Wrote.{wrote_as, wrote_on, wrote-length}
use Rattle.form_write.proofs.Nodes.{pop-room, pop-size, wrote-pop, pow_room, pow-size, wrote-left, pow-room-right, pow-whole, wrote-pow}
use Rattle.form_write.proofs.+write_text.Goals as goal

pub bounds-x-0 : goal.bounds-x-0
bounds-x-0 t c =
    omega (arith, some c.requires.coded)

pub write_leaf-requires : goal.write_leaf-requires
write_leaf-requires t c =
    let v = int_view c.requires.coded c.if-w-lt-NODE.true in
    record {
      x_bound = v.below;
      x_in_bounds = omega (arith, c.requires.x_in_bounds, ap length (text-int v));
    }

pub returns-then-w-lt-NODE : goal.returns-then-w-lt-NODE
returns-then-w-lt-NODE t c =
    wrote_as c.write_leaf.ensures (text-int (int_view c.requires.coded c.if-w-lt-NODE.true))

pub write_head-h-requires : goal.write_head-h-requires
write_head-h-requires t c =
    omega (arith, c.requires.x_in_bounds, pop-length (pop-at c.requires.coded c.if-w-lt-NODE.false c.if-s-eq0.true))

pub write_text-n-requires : goal.write_text-n-requires
write_text-n-requires t c =
    let v = pop-at c.requires.coded c.if-w-lt-NODE.false c.if-s-eq0.true in
    (omega (arith, v, c.decreases), (v.part, pop-room v c.requires.x_in_bounds c.write_head-h.ensures))

pub bounds-out-e : goal.bounds-out-e
bounds-out-e t c =
    omega (
      arith,
      pop-size (pop-at c.requires.coded c.if-w-lt-NODE.false c.if-s-eq0.true) c.requires.x_in_bounds c.write_head-h.ensures
          c.write_text-n.ensures,
      wrote-length (wrote_on c.write_head-h.ensures c.write_text-n.ensures),
    )

pub returns-then-s-eq0 : goal.returns-then-s-eq0
returns-then-s-eq0 t c =
    wrote-pop (pop-at c.requires.coded c.if-w-lt-NODE.false c.if-s-eq0.true) c.requires.x_in_bounds
    c.write_head-h.ensures c.write_text-n.ensures

pub write_head-h-requires-2 : goal.write_head-h-requires-2
write_head-h-requires-2 t c =
    omega (arith, c.requires.x_in_bounds, pow-length (pow-at c.requires.coded c.if-w-lt-NODE.false c.if-s-eq0.false))

pub slice_bounds-write_text-end-2 : goal.slice_bounds-write_text-end-2
slice_bounds-write_text-end-2 t c =
    omega (arith, pow-at c.requires.coded c.if-w-lt-NODE.false c.if-s-eq0.false)

pub write_text-n-requires-2 : goal.write_text-n-requires-2
write_text-n-requires-2 t c =
    let v = pow-at c.requires.coded c.if-w-lt-NODE.false c.if-s-eq0.false in
    (omega (arith, v, c.decreases), (v.left, pow_room v c.requires.x_in_bounds c.write_head-h-2.ensures))

pub bounds-out-e-2 : goal.bounds-out-e-2
bounds-out-e-2 t c =
    omega (
      arith,
      pow-size (pow-at c.requires.coded c.if-w-lt-NODE.false c.if-s-eq0.false) c.requires.x_in_bounds c.write_head-h-2.ensures
          c.write_text-n-2.ensures,
      wrote-length (wrote_on c.write_head-h-2.ensures c.write_text-n-2.ensures),
    )

pub slice_bounds-write_text-count-5 : goal.slice_bounds-write_text-count-5
slice_bounds-write_text-count-5 t c =
    let w = wrote-left (pow-at c.requires.coded c.if-w-lt-NODE.false c.if-s-eq0.false) c.requires.x_in_bounds
    c.write_head-h-2.ensures c.write_text-n-2.ensures in
    omega (arith, w.fits, wrote-length w)

pub slice_bounds-write_text-start-5 : goal.slice_bounds-write_text-start-5
slice_bounds-write_text-start-5 t c =
    let w = wrote-left (pow-at c.requires.coded c.if-w-lt-NODE.false c.if-s-eq0.false) c.requires.x_in_bounds
    c.write_head-h-2.ensures c.write_text-n-2.ensures in
    omega (arith, w.fits, wrote-length w)

pub write_text-m-requires : goal.write_text-m-requires
write_text-m-requires t c =
    let v = pow-at c.requires.coded c.if-w-lt-NODE.false c.if-s-eq0.false in (
      omega (arith, v, c.decreases),
      (v.right, pow-room-right v c.requires.x_in_bounds c.write_head-h-2.ensures c.write_text-n-2.ensures),
    )

pub bounds-out-g : goal.bounds-out-g
bounds-out-g t c =
    let v = pow-at c.requires.coded c.if-w-lt-NODE.false c.if-s-eq0.false in
    omega (
      arith,
      pow-whole v c.requires.x_in_bounds c.write_head-h-2.ensures c.write_text-n-2.ensures
          c.write_text-m.ensures,
      wrote-length (wrote_on (wrote-left v c.requires.x_in_bounds c.write_head-h-2.ensures c.write_text-n-2.ensures)
          c.write_text-m.ensures),
    )

pub returns : goal.returns
returns t c =
    wrote-pow (pow-at c.requires.coded c.if-w-lt-NODE.false c.if-s-eq0.false) c.requires.x_in_bounds c.write_head-h-2.ensures c.write_text-n-2.ensures
    c.write_text-m.ensures
