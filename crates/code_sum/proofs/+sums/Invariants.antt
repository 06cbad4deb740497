-- Four times the number of words, and then how far a function is from the calls on fewer words; where two pops or two pows change places,
-- they do so once.
use Rattle.std.proofs.Common.{◌+◌, ◌*◌, ◌-◌, min, length}
use Rattle.code_sum.proofs.+sums.Given as goal

abbrev pub decreases-add_pop : goal.decreases-add_pop
decreases-add_pop l = 4 * (1 + length l.p.now + length l.y.now) + 2

abbrev pub decreases-add_pop_pow : goal.decreases-add_pop_pow
decreases-add_pop_pow l = 4 * (2 + length l.p.now + length l.q.now + length l.r.now) + 1

abbrev pub decreases-add_pops : goal.decreases-add_pops
decreases-add_pops l = 4 * (2 + length l.p.now + length l.q.now) + min 1 (l.j - l.i)

abbrev pub decreases-add_pow : goal.decreases-add_pow
decreases-add_pow l = 4 * (1 + length l.p.now + length l.q.now + length l.y.now) + 2

abbrev pub decreases-add_pows : goal.decreases-add_pows
decreases-add_pows l =
    4 * (2 + length l.p.now + length l.q.now + length l.r.now + length
    l.s.now) + min 1 (l.j - l.i)

abbrev pub decreases-sum : goal.decreases-sum
decreases-sum l = 4 * (length l.x.now + length l.y.now) + 3
