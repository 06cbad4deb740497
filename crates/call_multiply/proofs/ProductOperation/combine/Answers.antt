-- `combine` of `Product` meets its contract: the product of the two codes stands for the product of the forms.
use Rattle.std.proofs.Common.{arith, length-take-le}
use Rattle.door_forms.specs.laws.Forms.{side_by_side}
use Rattle.call_multiply.specs.laws.Multiply.{lengths, space, product-room, product-made}
use Rattle.call_multiply.proofs.ProductOperation.combine.Goals as goal

pub multiply-requires : goal.multiply-requires
multiply-requires c =
    let F = c.requires.fitting in
    let T = lengths (length-take-le 16384 c.args.b.now c.requires.long.second) (length-take-le 16384 c.args.c.now c.requires.long.third)
    (length-take-le 6146 c.args.d.now c.requires.long.fourth) in
    record {
      pair = side_by_side F.few F.pair;
      space = space F.few F.pair F.fits T;
      stack_in_bounds = omega (arith, product-room F.few F.pair F.fits, c.requires.long.first);
    }

pub returns : goal.returns
returns c F =
    product-made F.few F.pair F.fits c.multiply.ensures
