-- `code_walk::value` meets its contract: the value of a form is worked out from the values of its parts. The measure is the number of
-- words.
-- Assumes nothing.
use Rattle.std.proofs.Common.{sym, arith}
use Rattle.std.proofs.lemmas.Bool.{eqb-true, eqb-false}
use Rattle.std.proofs.Math.Path.{◌∙◌}
use Rattle.code.specs.laws.Codes.{some}
use Rattle.code.specs.laws.Parts.{leaf-said, pop-said, pow-said}
use Rattle.code.specs.Widths.{modulus-pos}
use Rattle.code_walk.proofs.Evaluation.{leaves-tail, eval-int, eval-pop, eval-none, eval-pow}
use Rattle.code_walk.proofs.+value.Goals as goal

pub bounds-x-0 : goal.bounds-x-0
bounds-x-0 t c = some c.requires.coded

pub returns-in-Leaf : goal.returns-in-Leaf
returns-in-Leaf t c =
    let v = leaf-said c.requires.coded c.in-Leaf.ensures in
    (eval-int c.args.point.now v, v.below)

pub value-requires : goal.value-requires
value-requires t c =
    let v = pop-said c.requires.coded c.in-Pop.ensures in
    (omega (arith, v), (v.part, leaves-tail c.min-k.result c.requires.leaves))

pub returns-in-Pop : goal.returns-in-Pop
returns-in-Pop t c =
    (c.value.ensures.0 ∙ rw c.min-k.ensures (eval-pop c.args.point.now (pop-said c.requires.coded c.in-Pop.ensures)), c.value.ensures.1)

pub returns-in-Pow : goal.returns-in-Pow
returns-in-Pow t c =
    let v = pow-said c.requires.coded c.in-Pow.ensures in
    (eval-none c.args.point.now v (eqb-true _ 0 (sym c.if-is_empty.ensures)), modulus-pos c.args.width)

pub slice_bounds-value-end-in-Pow-2 : goal.slice_bounds-value-end-in-Pow-2
slice_bounds-value-end-in-Pow-2 t c = omega (arith, pow-said c.requires.coded c.in-Pow.ensures)

pub value-a-requires : goal.value-a-requires
value-a-requires t c =
    let v = pow-said c.requires.coded c.in-Pow.ensures in
    (omega (arith, v), (v.left, c.requires.leaves))

pub value-b-requires : goal.value-b-requires
value-b-requires t c =
    let v = pow-said c.requires.coded c.in-Pow.ensures in
    (omega (arith, v), (v.right, leaves-tail 1 c.requires.leaves))

pub returns-in-Pow-2 : goal.returns-in-Pow-2
returns-in-Pow-2 t c = (
  c.leaf_sum.ensures.0
      ∙ rw (c.leaf_product.ensures.0, c.leaf_power-n.ensures.0, c.value-a.ensures.0, c.value-b.ensures.0)
      (eval-pow c.args.point.now (pow-said c.requires.coded c.in-Pow.ensures) (eqb-false _ 0 (sym c.if-is_empty.ensures))
      c.requires.leaves),
  c.leaf_sum.ensures.1,
)
