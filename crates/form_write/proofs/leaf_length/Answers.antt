-- `form_write::leaf_length` meets its contract: a leaf above half of P has a sign.
use Rattle.std.proofs.Common.{sym, arith, ◌-◌}
use Rattle.std.proofs.Math.Path.{◌∙◌}
use Rattle.form_write.specs.laws.Sizes.{leaf-length-plain, leaf-length-minus, numeral-most}
use Rattle.form_write.proofs.leaf_length.Goals as goal

pub returns-then-x-le-HALF : goal.returns-then-x-le-HALF
returns-then-x-le-HALF c =
    c.digits_of.ensures ∙ sym (leaf-length-plain c.args.x c.if-x-le-HALF.true)

pub overflow_add-result : goal.overflow_add-result
overflow_add-result c =
    omega (arith, c.digits_of-2.ensures, numeral-most (2147483647 - c.args.x) (omega arith))

pub returns : goal.returns
returns c =
    omega (
      arith,
      c.digits_of-2.ensures,
      leaf-length-minus c.args.x c.if-x-le-HALF.false c.requires,
    )
