-- `code_sum::add_int` meets its contract: a leaf and a leaf, or a node whose last part gets the leaf. The measure is the number of words.
-- Assumes nothing.
use Rattle.std.proofs.Common.{get_or, arith}
use Rattle.code.specs.laws.Codes.{some}
use Rattle.code.specs.laws.Good.{good-pow}
use Rattle.code.specs.laws.Parts.{leaf-said, pop-said, pow-said}
use Rattle.code.proofs.Lists.{begins-as, begins-set, begins-tail, length-tail-part, length-after-set}
use Rattle.code_sum.proofs.Sums.{add-int-int, add-int-pop, add-int-pow}
use Rattle.code_sum.proofs.+add_int.Goals as goal

pub bounds-y-0 : goal.bounds-y-0
bounds-y-0 t c = some c.requires.coded

pub leaf_sum-requires : goal.leaf_sum-requires
leaf_sum-requires t c = (c.requires.a_bound, (leaf-said c.requires.coded c.in-Leaf.ensures).below)

pub bounds-out-0 : goal.bounds-out-0
bounds-out-0 t c = omega (arith, some c.requires.coded)

pub returns-in-Leaf : goal.returns-in-Leaf
returns-in-Leaf t c =
    begins-as (begins-set c.args.out.now _ (omega (arith, some c.requires.coded)))
    (add-int-int c.args.a c.leaf_sum.result (leaf-said c.requires.coded c.in-Leaf.ensures) c.requires.a_bound c.leaf_sum.ensures.0)

pub add_int-n-requires : goal.add_int-n-requires
add_int-n-requires t c =
    let v = pop-said c.requires.coded c.in-Pop.ensures in
    (omega (arith, v), (c.requires.a_bound, (v.part, omega (arith, v, length-after-set c.args.out.now (get_or c.args.y.now 0 0)))))

pub returns-in-Pop : goal.returns-in-Pop
returns-in-Pop t c =
    let v = pop-said c.requires.coded c.in-Pop.ensures in
    begins-as (begins-tail (begins-set c.args.out.now (get_or c.args.y.now 0 0) (omega (arith, v))) c.add_int-n.ensures)
    (add-int-pop c.args.a v)

pub slice_bounds-put_pow-end : goal.slice_bounds-put_pow-end
slice_bounds-put_pow-end t c = omega (arith, pow-said c.requires.coded c.in-Pow.ensures)

pub put_pow-f-requires : goal.put_pow-f-requires
put_pow-f-requires t c =
    let v = pow-said c.requires.coded c.in-Pow.ensures in
    record {
      i_bound = (good-pow v.node).1.0;
      room_under = omega (arith, v);
    }

pub add_int-n-requires-in-Pow : goal.add_int-n-requires-in-Pow
add_int-n-requires-in-Pow t c =
    let v = pow-said c.requires.coded c.in-Pow.ensures in (
      omega (arith, v),
      (
        c.requires.a_bound,
        (v.right, omega (arith, v, c.put_pow-f.ensures.size, length-tail-part c.put_pow-f.result c.put_pow-f.new.out)),
      ),
    )

pub returns-in-Pow : goal.returns-in-Pow
returns-in-Pow t c =
    begins-as (begins-tail c.put_pow-f.ensures c.add_int-n-in-Pow.ensures)
    (add-int-pow c.args.a (pow-said c.requires.coded c.in-Pow.ensures))
