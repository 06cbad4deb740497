-- `code_walk::carry` meets its contract: the parts are carried behind a free word, and the pop or the pow is made of them. The measure is
-- the number of words.
-- Assumes nothing.
use Rattle.std.proofs.Common.{◌+◌, ◌-◌, length, arith}
use borrow.Rule.Slice.PartMut.{put_mid}
use Rattle.code.specs.laws.Codes.{some, coded}
use Rattle.code.specs.laws.Good.{good-pop, good-pow}
use Rattle.code.specs.laws.Parts.{leaf-said, pop-said, pow-said}
use Rattle.code.specs.Coding.{dec}
use Rattle.code.proofs.Lists.{begins-as, begins-set, length-tail-part}
use Rattle.code.proofs.Making.{pop-asks, pop-gives, pow-asks, pow-gives}
use Rattle.code_walk.specs.laws.Carrying.{carry-good}
use Rattle.code_walk.proofs.Carrying.{carried-int, carried-pop, carried-pow, carried-short, carried-one, carried-two}
use Rattle.code_walk.proofs.+carry.Goals as goal

pub bounds-y-0 : goal.bounds-y-0
bounds-y-0 t c = some c.requires.coded

pub leaf_carried-requires : goal.leaf_carried-requires
leaf_carried-requires t c = (leaf-said c.requires.coded c.in-Leaf.ensures).below

pub bounds-out-0 : goal.bounds-out-0
bounds-out-0 t c = omega (arith, some c.requires.coded)

pub returns-in-Leaf : goal.returns-in-Leaf
returns-in-Leaf t c =
    begins-as (begins-set c.args.out.now _ (omega (arith, some c.requires.coded)))
    (carried-int c.args.width c.args.a _ _ (leaf-said c.requires.coded c.in-Leaf.ensures) c.requires.a_bound
    c.leaf_carried.ensures.0 c.leaf_product.ensures.0)

pub carry-n-requires : goal.carry-n-requires
carry-n-requires t c =
    let v = pop-said c.requires.coded c.in-Pop.ensures in
    (omega (arith, v), (c.requires.a_bound, (v.part, omega (arith, v, length-tail-part 1 c.args.out.now))))

pub make_pop-requires : goal.make_pop-requires
make_pop-requires t c =
    let v = pop-said c.requires.coded c.in-Pop.ensures in
    let m = carried-one c.args.width c.args.a c.args.out.now (omega (arith, c.requires.room_under)) v.part c.carry-n.ensures in
    record {
      n_in_bounds = omega (arith, v, carried-short c.args.width c.args.a v.part c.carry-n.ensures);
      coded = coded m;
      i_nonzero = (good-pop v.node).0;
      good = pop-asks c.in-Pop.i m (carried-pop c.args.width c.args.a v)
          (carry-good c.args.from c.args.width c.args.a (dec c.args.from c.args.y.now) c.requires.coded.good);
    }

pub returns-in-Pop : goal.returns-in-Pop
returns-in-Pop t c =
    let v = pop-said c.requires.coded c.in-Pop.ensures in
    pop-gives c.in-Pop.i
    (carried-one c.args.width c.args.a c.args.out.now (omega (arith, c.requires.room_under)) v.part c.carry-n.ensures)
    (carried-pop c.args.width c.args.a v) c.make_pop.ensures

pub slice_bounds-carry-end-in-Pow : goal.slice_bounds-carry-end-in-Pow
slice_bounds-carry-end-in-Pow t c = omega (arith, pow-said c.requires.coded c.in-Pow.ensures)

pub carry-n-requires-in-Pow : goal.carry-n-requires-in-Pow
carry-n-requires-in-Pow t c =
    let v = pow-said c.requires.coded c.in-Pow.ensures in
    (omega (arith, v), (c.requires.a_bound, (v.left, omega (arith, v, length-tail-part 1 c.args.out.now))))

pub carry-m-requires : goal.carry-m-requires
carry-m-requires t c =
    let v = pow-said c.requires.coded c.in-Pow.ensures in
    let n-short = carried-short c.args.width c.args.a v.left c.carry-n-in-Pow.ensures in (
      omega (arith, v),
      (
        c.requires.a_bound,
        (
          v.right,
          omega (
            arith,
            v,
            n-short,
            c.requires.room_under,
            length-tail-part (1 + c.carry-n-in-Pow.result)
                (put_mid 1 (length c.args.out.now - 1) c.args.out.now c.carry-n-in-Pow.new.out),
          ),
        ),
      ),
    )

pub make_pow-requires : goal.make_pow-requires
make_pow-requires t c =
    let v = pow-said c.requires.coded c.in-Pow.ensures in
    let m = carried-two c.args.width c.args.a c.args.out.now (omega (arith, v, c.requires.room_under)) (omega arith) v.left v.right
    c.carry-n-in-Pow.ensures c.carry-m.ensures in
    let n-short = carried-short c.args.width c.args.a v.left c.carry-n-in-Pow.ensures in
    let m-short = carried-short c.args.width c.args.a v.right c.carry-m.ensures in
    record {
      b_in_bounds = omega (arith, v, n-short, m-short, c.requires.room_under);
      coded = (coded m.0, coded m.1);
      i_nonzero = (good-pow v.node).0;
      good = pow-asks c.in-Pow.i m (carried-pow c.args.width c.args.a v)
          (carry-good c.args.from c.args.width c.args.a (dec c.args.from c.args.y.now) c.requires.coded.good);
    }

pub returns-in-Pow : goal.returns-in-Pow
returns-in-Pow t c =
    let v = pow-said c.requires.coded c.in-Pow.ensures in
    pow-gives c.in-Pow.i
    (carried-two c.args.width c.args.a c.args.out.now (omega (arith, v, c.requires.room_under)) (omega arith) v.left v.right
    c.carry-n-in-Pow.ensures c.carry-m.ensures)
    (carried-pow c.args.width c.args.a v) c.make_pow.ensures
