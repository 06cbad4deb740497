-- `code::make_pop` meets its contract: by the head word of the form that stands at 1, a leaf is moved to 0, a pop's exponent
-- grows and its words are moved down, and a pow is left where it is.
-- Assumes nothing.
use Rattle.std.proofs.Common.{arith}
use Rattle.code.proofs.Placed.{placed-some, pops-leaf, pops-pop-small, pops-pop, pops-pow-small, pops-pow}
use Rattle.code.proofs.make_pop.Goals as goal

pub bounds-out-1 : goal.bounds-out-1
bounds-out-1 c = omega (arith, placed-some 1 c.args.n c.args.out.now c.requires.n_in_bounds c.requires.coded)

pub returns-in-Leaf : goal.returns-in-Leaf
returns-in-Leaf c =
    pops-leaf c.args.i c.args.n c.args.out.now c.requires.i_nonzero c.requires.n_in_bounds c.requires.coded c.in-Leaf.ensures

pub overflow_add-out : goal.overflow_add-out
overflow_add-out c =
    let small = pops-pop-small c.args.i c.args.n c.args.out.now c.requires.i_nonzero c.requires.n_in_bounds c.requires.coded
    c.in-Pop.ensures c.requires.good in
    omega (arith, small)

pub overflow_add-out-in-Pop : goal.overflow_add-out-in-Pop
overflow_add-out-in-Pop c =
    let small = pops-pop-small c.args.i c.args.n c.args.out.now c.requires.i_nonzero c.requires.n_in_bounds c.requires.coded
    c.in-Pop.ensures c.requires.good in
    omega (arith, small)

pub overflow_sub-n : goal.overflow_sub-n
overflow_sub-n c = omega (arith, placed-some 1 c.args.n c.args.out.now c.requires.n_in_bounds c.requires.coded)

pub returns-in-Pop : goal.returns-in-Pop
returns-in-Pop c =
    pops-pop c.args.i c.args.n c.args.out.now c.requires.i_nonzero c.requires.n_in_bounds c.requires.coded c.shift.new.s c.in-Pop.ensures
    c.shift.ensures

pub overflow_add-out-in-Pow : goal.overflow_add-out-in-Pow
overflow_add-out-in-Pow c =
    let small = pops-pow-small c.args.i c.args.n c.args.out.now c.requires.i_nonzero c.requires.n_in_bounds c.requires.coded
    c.in-Pow.ensures c.requires.good in
    omega (arith, small)

pub returns-in-Pow : goal.returns-in-Pow
returns-in-Pow c =
    pops-pow c.args.i c.args.n c.args.out.now c.requires.i_nonzero c.requires.n_in_bounds c.requires.coded c.in-Pow.ensures
