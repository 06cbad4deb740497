-- `code_walk::negate` meets its contract: a leaf is stored; a pop and a pow keep their head word, and their parts are written after it.
-- The measure is the number of words. Assumes nothing.
use Rattle.std.proofs.Common.{◌+◌, ◌-◌, length, get_or, set, rules, arith, ◌≡◌}
use Rattle.std.proofs.Math.Path.{◌∙◌}
use borrow.Rule.Slice.PartMut.{put_mid}
use Rattle.code.specs.laws.Codes.{some}
use Rattle.code.specs.laws.Parts.{leaf-said, pop-said, pow-said}
use Rattle.code.proofs.Lists.{begins-as, begins-set, begins-tail, length-tail-part, length-after-set}
use Rattle.code_walk.proofs.Negative.{neg-int, neg-pop, neg_left, neg-pow}
use Rattle.code_walk.proofs.+negate.Goals as goal

pub bounds-x-0 : goal.bounds-x-0
bounds-x-0 t c = some c.requires.coded

pub leaf_negation-requires : goal.leaf_negation-requires
leaf_negation-requires t c = (leaf-said c.requires.coded c.in-Leaf.ensures).below

pub bounds-out-0 : goal.bounds-out-0
bounds-out-0 t c = omega (arith, some c.requires.coded)

pub returns-in-Leaf : goal.returns-in-Leaf
returns-in-Leaf t c =
    begins-as (begins-set c.args.out.now _ (omega (arith, some c.requires.coded)))
    (neg-int (leaf-said c.requires.coded c.in-Leaf.ensures) c.leaf_negation.ensures.0)

pub slice_bounds-negate-end-in-Pow : goal.slice_bounds-negate-end-in-Pow
slice_bounds-negate-end-in-Pow t c = omega (arith, pow-said c.requires.coded c.in-Pow.ensures)

pub negate-n-requires : goal.negate-n-requires
negate-n-requires t c =
    let v = pop-said c.requires.coded c.in-Pop.ensures in
    (omega (arith, v), (v.part, omega (arith, v, length-after-set c.args.out.now (get_or c.args.x.now 0 0))))

pub returns-in-Pop : goal.returns-in-Pop
returns-in-Pop t c =
    let v = pop-said c.requires.coded c.in-Pop.ensures in
    begins-as
    (begins-tail (begins-set c.args.out.now (get_or c.args.x.now 0 0) (omega (arith, v))) c.negate-n.ensures)
    (neg-pop v)

pub negate-n-requires-in-Pow : goal.negate-n-requires-in-Pow
negate-n-requires-in-Pow t c =
    let v = pow-said c.requires.coded c.in-Pow.ensures in
    (omega (arith, v), (v.left, omega (arith, v, length-after-set c.args.out.now (get_or c.args.x.now 0 0))))

pub negate-m-requires : goal.negate-m-requires
negate-m-requires t c =
    let v = pow-said c.requires.coded c.in-Pow.ensures in
    let n-size = c.negate-n-in-Pow.ensures.size ∙ neg_left v in
    let kept : length
    (put_mid 1 (length (set c.args.out.now 0 (get_or c.args.x.now 0 0)) - 1) (set c.args.out.now 0 (get_or c.args.x.now 0 0))
    c.negate-n-in-Pow.new.out)
    ≡ length c.args.out.now = search rules in (
      omega (arith, v),
      (
        v.right,
        omega (
          arith,
          v,
          n-size,
          kept,
          length-tail-part (1 + c.negate-n-in-Pow.result) (put_mid 1
              (length (set c.args.out.now 0 (get_or c.args.x.now 0 0)) - 1)
              (set c.args.out.now 0 (get_or c.args.x.now 0 0))
              c.negate-n-in-Pow.new.out),
        ),
      ),
    )

pub returns-in-Pow : goal.returns-in-Pow
returns-in-Pow t c =
    let v = pow-said c.requires.coded c.in-Pow.ensures in
    begins-as
    (begins-tail (begins-tail (begins-set c.args.out.now (get_or c.args.x.now 0 0) (omega (arith, v)))
    c.negate-n-in-Pow.ensures) c.negate-m.ensures)
    (neg-pow v)
