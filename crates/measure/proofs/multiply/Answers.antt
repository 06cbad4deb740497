-- `measure::multiply` meets its contract, field by field.
use Rattle.std.proofs.Common.{refl, arith, mul-le-mul, ◌*◌, ◌≤◌, min}
use Rattle.measure.specs.Made.{made}
use Rattle.measure.proofs.multiply.Goals as goal

pub overflow_mul-a : goal.overflow_mul-a
overflow_mul-a c =
    let a = c.args.a.terms in
    let d = c.args.b.terms in
    let e : a * d ≤ 256 * 256 = mul-le-mul c.requires.0.terms-small c.requires.1.terms-small in
    omega arith

pub returns : goal.returns
returns c =
    made (min (c.args.a.terms * c.args.b.terms)) c.cut_product.ensures refl refl refl refl
    c.box_of.ensures c.min.ensures
