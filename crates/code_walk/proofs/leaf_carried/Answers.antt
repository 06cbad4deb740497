-- `code_walk::leaf_carried` meets its contract: a number below half of its modulus stands for itself, any other for what it lacks,
-- negative.
-- Assumes nothing.
use Rattle.std.proofs.Common.{sym, ap, subst, arith, ◌-◌, ◌%◌, ◌<◌, ◌≤◌}
use Rattle.std.proofs.Math.Path.{◌≡◌, ◌∙◌}
use Rattle.code.specs.Widths.{modulus, leaf, neg_by}
use Rattle.code.specs.laws.Widths.{leaf-number}
use Rattle.code_walk.specs.Carrying.{carried}
use Rattle.code_walk.specs.laws.Carrying.{carried-small, carried-large, carried-back}
use Rattle.code_walk.proofs.leaf_carried.Goals as goal

pub returns-then-from-width : goal.returns-then-from-width
returns-then-from-width c = (
  sym (leaf-number c.args.from c.args.x c.requires)
      ∙ sym (ap (λ z. z.0) (carried-back c.args.from (leaf c.args.from c.args.x)))
      ∙ ap (λ w. (carried c.args.from w (leaf c.args.from c.args.x)).0) c.if-from-width.true,
  subst (λ w. c.args.x < modulus w) c.if-from-width.true c.requires,
)

pub overflow_sub-d : goal.overflow_sub-d
overflow_sub-d c =
    omega (arith, c.modulus_of.ensures, c.requires)

pub returns-then-x-d : goal.returns-then-x-d
returns-then-x-d c =
    let gap : (c.modulus_of.result - c.args.x) ≡ modulus c.args.from - c.args.x =
    ap (λ z. z - c.args.x) c.modulus_of.ensures in
    let h : c.args.x < modulus c.args.from - c.args.x = omega (arith, gap, c.if-x-d.true) in (
      c.leaf_of.ensures.0 ∙ sym (carried-small c.args.from c.args.width c.args.x c.requires h),
      c.leaf_of.ensures.1,
    )

pub leaf_negation-requires : goal.leaf_negation-requires
leaf_negation-requires c =
    c.leaf_of-2.ensures.1

pub returns : goal.returns
returns c =
    let gap : (c.modulus_of.result - c.args.x) ≡ modulus c.args.from - c.args.x =
    ap (λ z. z - c.args.x) c.modulus_of.ensures in
    let h : modulus c.args.from - c.args.x ≤ c.args.x = omega (arith, gap, c.if-x-d.false) in (
      c.leaf_negation.ensures.0
          ∙ ap (neg_by (modulus c.args.width))
          (c.leaf_of-2.ensures.0 ∙ ap (λ z. z % modulus c.args.width) gap)
          ∙ sym (carried-large c.args.from c.args.width c.args.x c.requires h),
      c.leaf_negation.ensures.1,
    )
