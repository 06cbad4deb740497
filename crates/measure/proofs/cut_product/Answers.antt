-- `measure::cut_product` meets its contract: the product of two 32-bit numbers fits 64 bits.
use Rattle.std.proofs.Common.{◌*◌, ◌≤◌, mul-le-mul, arith}
use Rattle.measure.proofs.cut_product.Goals as goal

pub overflow_mul-p : goal.overflow_mul-p
overflow_mul-p c =
    let a = c.from.result in
    let b = c.from-2.result in
    let la : a ≤ 4294967295 = omega arith in
    let lb : b ≤ 4294967295 = omega arith in
    let e : a * b ≤ 4294967295 * 4294967295 = mul-le-mul la lb in
    omega arith
