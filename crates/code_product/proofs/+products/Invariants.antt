use Rattle.std.proofs.Common.{◌+◌, ◌*◌, length}
use Rattle.code_product.proofs.+products.Given as goal

abbrev pub decreases-add_cross : goal.decreases-add_cross
decreases-add_cross l = 8 * (2 + length l.p.now + length l.s.now)

abbrev pub decreases-mul_any_pop : goal.decreases-mul_any_pop
decreases-mul_any_pop l = 8 * (1 + length l.x.now + length l.p.now) + 5

abbrev pub decreases-mul_by_pop : goal.decreases-mul_by_pop
decreases-mul_by_pop l = 8 * (1 + length l.p.now + length l.s.now) + 6

abbrev pub decreases-mul_lead : goal.decreases-mul_lead
decreases-mul_lead l =
    8 * (2 + length l.p.now + length l.q.now + length l.r.now + length
    l.s.now) + 3

abbrev pub decreases-mul_lower : goal.decreases-mul_lower
decreases-mul_lower l = 8 * (1 + length l.p.now + length l.y.now) + 7

abbrev pub decreases-mul_pop : goal.decreases-mul_pop
decreases-mul_pop l = 8 * (1 + length l.p.now + length l.y.now) + 5

abbrev pub decreases-mul_pop_pow : goal.decreases-mul_pop_pow
decreases-mul_pop_pow l = 8 * (2 + length l.p.now + length l.r.now + length l.s.now) + 3

abbrev pub decreases-mul_pops : goal.decreases-mul_pops
decreases-mul_pops l = 8 * (2 + length l.p.now + length l.q.now) + 4

abbrev pub decreases-mul_pops_ge : goal.decreases-mul_pops_ge
decreases-mul_pops_ge l = 8 * (2 + length l.p.now + length l.q.now) + 3

abbrev pub decreases-mul_pows : goal.decreases-mul_pows
decreases-mul_pows l =
    8 * (2 + length l.p.now + length l.q.now + length l.r.now + length
    l.s.now) + 4

abbrev pub decreases-product : goal.decreases-product
decreases-product l = 8 * (length l.x.now + length l.y.now) + 6
