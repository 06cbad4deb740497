-- The answers of each function of the cycle.
use Rattle.std.proofs.Common.{◌+◌, ◌-◌, length, ◌≤◌, sym, ap, subst, arith, length-set}
use Rattle.std.proofs.Math.Path.{◌∙◌}
use Rattle.horner.specs.definitions.Form.{pop, pow}
use Rattle.code.specs.Coding.{dec, enc, Good}
use Rattle.code.specs.Operations.{sum_of}
use Rattle.code.specs.laws.Codes.{some, coded, sum-shorter, dec-enc}
use Rattle.code.specs.laws.Good.{good-pop, good-pow, good-less-pop, sum-good, good-less-pow}
use Rattle.code.specs.laws.Parts.{leaf-said, pop-said, pow-said, inner}
use Rattle.code.proofs.Lists.{begins-le, begins-as, begins-set, begins-tail, length-after-set, length-tail-part}
use Rattle.code.proofs.Making.{made-codes, pop-asks, pop-gives, zero-codes}
use Rattle.code_sum.proofs.Sums.{add-pop-int, add-pop-pow-1, add-pop-pow-more, add-pow-int}
use Rattle.code_sum.proofs.Equations.{sum_comm, pops-eq, pops-gt}
use Rattle.code_sum.proofs.Lefts.{LeftSum, left-eq, left-gt, pows-coded, pows-ask, pows-give}
use Rattle.code_sum.proofs.+sums.Goals.{add_pows-then-i-j-2, add_pows-else-i-j-2}
use Rattle.code_sum.proofs.+sums.Goals as goal

-- ---- add_pop: `add_pop` meets its contract, if the calls that it makes do.

pub add_pop-bounds-y-0 : goal.add_pop-bounds-y-0
add_pop-bounds-y-0 t c = some c.requires.coded.1

pub add_pop-bounds-out-0 : goal.add_pop-bounds-out-0
add_pop-bounds-out-0 t c = omega (arith, some c.requires.coded.1)

pub add_pop-slice_bounds-add_int-count : goal.add_pop-slice_bounds-add_int-count
add_pop-slice_bounds-add_int-count t c = simp length-set (omega (arith, some c.requires.coded.1))

pub add_pop-slice_bounds-add_int-start : goal.add_pop-slice_bounds-add_int-start
add_pop-slice_bounds-add_int-start t c = simp length-set (omega (arith, some c.requires.coded.1))

pub add_pop-add_int-n-requires : goal.add_pop-add_int-n-requires
add_pop-add_int-n-requires t c =
    record {
      a_bound = (leaf-said c.requires.coded.1 c.in-Leaf.ensures).below;
      coded = c.requires.coded.0;
      room_under = omega (arith, some c.requires.coded.1, length-after-set c.args.out.now (2147483648 + c.args.i));
    }

pub add_pop-returns-in-Leaf : goal.add_pop-returns-in-Leaf
add_pop-returns-in-Leaf t c =
    begins-as
    (begins-tail (begins-set c.args.out.now (2147483648 + c.args.i) (omega (arith, some c.requires.coded.1)))
    c.add_int-n.ensures)
    (add-pop-int c.requires.good (leaf-said c.requires.coded.1 c.in-Leaf.ensures))

pub add_pop-add_pops-requires : goal.add_pop-add_pops-requires
add_pop-add_pops-requires t c =
    let v = pop-said c.requires.coded.1 c.in-Pop.ensures in
    (omega (arith, v), ((c.requires.coded.0, v.part), ((c.requires.good, v.node), omega (arith, v))))

pub add_pop-returns-in-Pop : goal.add_pop-returns-in-Pop
add_pop-returns-in-Pop t c =
    begins-as c.add_pops.ensures
    (ap (λ h. enc c.args.width (sum_of c.args.width (pop c.args.i (dec c.args.width c.args.p.now)) h))
    (sym (pop-said c.requires.coded.1 c.in-Pop.ensures).is))

pub add_pop-slice_bounds-add_pop_pow-end : goal.add_pop-slice_bounds-add_pop_pow-end
add_pop-slice_bounds-add_pop_pow-end t c = omega (arith, pow-said c.requires.coded.1 c.in-Pow.ensures)

pub add_pop-add_pop_pow-requires : goal.add_pop-add_pop_pow-requires
add_pop-add_pop_pow-requires t c =
    let v = pow-said c.requires.coded.1 c.in-Pow.ensures in
    (omega (arith, v), ((c.requires.coded.0, (v.left, v.right)), ((c.requires.good, v.node), omega (arith, v))))

pub add_pop-returns-in-Pow : goal.add_pop-returns-in-Pow
add_pop-returns-in-Pow t c =
    begins-as c.add_pop_pow.ensures
    (ap (λ h. enc c.args.width (sum_of c.args.width (pop c.args.i (dec c.args.width c.args.p.now)) h))
    (sym (pow-said c.requires.coded.1 c.in-Pow.ensures).is))

-- ---- add_pop_pow: `add_pop_pow` meets its contract, if the calls that it makes do.

pub add_pop_pow-put_pow-f-requires : goal.add_pop_pow-put_pow-f-requires
add_pop_pow-put_pow-f-requires t c =
    record {
      i_bound = (good-pow c.requires.good.1).1.0;
      room_under = omega (arith, some c.requires.coded.0, some c.requires.coded.1.1);
    }

pub add_pop_pow-returns-then-i-eq1 : goal.add_pop_pow-returns-then-i-eq1
add_pop_pow-returns-then-i-eq1 t c =
    begins-as (begins-tail c.put_pow-f.ensures c.sum-n.ensures)
    (add-pop-pow-1 c.requires.coded.1.0 c.requires.good.0 c.requires.good.1 c.if-i-eq1.true)

pub add_pop_pow-add_pop-n-requires : goal.add_pop_pow-add_pop-n-requires
add_pop_pow-add_pop-n-requires t c = (
  omega (arith, some c.requires.coded.1.0),
  (
    (c.requires.coded.0, c.requires.coded.1.1),
    (
      good-less-pop 1 (omega (arith, (good-pop c.requires.good.0).0, c.if-i-eq1.false)) c.requires.good.0,
      omega (arith, c.put_pow-f.ensures.size, length-tail-part c.put_pow-f.result c.put_pow-f.new.out, some c.requires.coded.0),
    ),
  ),
)

pub add_pop_pow-returns : goal.add_pop_pow-returns
add_pop_pow-returns t c =
    begins-as (begins-tail c.put_pow-f.ensures c.add_pop-n.ensures)
    (add-pop-pow-more c.requires.coded.1.0 c.requires.good.0 c.requires.good.1 c.if-i-eq1.false)

-- ---- add_pops: `add_pops` meets its contract, if the calls that it makes do.

pub add_pops-returns-then-i-j : goal.add_pops-returns-then-i-j
add_pops-returns-then-i-j t c =
    begins-as c.add_pops.ensures
    (ap (enc c.args.width) (sum_comm c.args.width (pop c.args.j (dec c.args.width c.args.q.now))
    (pop c.args.i (dec c.args.width c.args.p.now))))

pub add_pops-make_pop-requires : goal.add_pops-make_pop-requires
add_pops-make_pop-requires t c =
    let m = (made-codes 1 c.args.out.now _ _ (omega (arith, some c.requires.coded.0)) c.sum-n.ensures
    (sum-good c.requires.coded.0.good c.requires.coded.1.good)) in
    record {
      n_in_bounds = omega (arith, c.sum-n.ensures.size, sum-shorter c.requires.coded.0 c.requires.coded.1);
      coded = coded m;
      i_nonzero = (good-pop c.requires.good.0).0;
      good = pop-asks c.args.i m (pops-eq c.requires.good.0 c.requires.good.1 c.if-i-j-2.true)
          (sum-good c.requires.good.0 c.requires.good.1);
    }

pub add_pops-returns-then-i-j-2 : goal.add_pops-returns-then-i-j-2
add_pops-returns-then-i-j-2 t c =
    pop-gives c.args.i
    (made-codes 1 c.args.out.now _ _ (omega (arith, some c.requires.coded.0)) c.sum-n.ensures
    (sum-good c.requires.coded.0.good c.requires.coded.1.good))
    (pops-eq c.requires.good.0 c.requires.good.1 c.if-i-j-2.true)
    c.make_pop.ensures

pub add_pops-add_pop-n-requires : goal.add_pops-add_pop-n-requires
add_pops-add_pop-n-requires t c = (
  omega arith,
  (
    (c.requires.coded.0, c.requires.coded.1),
    (good-less-pop c.args.j (omega arith) c.requires.good.0, omega (arith, length-tail-part 1 c.args.out.now, some c.requires.coded.0)),
  ),
)

pub add_pops-make_pop-requires-2 : goal.add_pops-make_pop-requires-2
add_pops-make_pop-requires-2 t c =
    let m = (made-codes 1 c.args.out.now _ _ (omega (arith, some c.requires.coded.0)) c.add_pop-n.ensures
    (sum-good (good-less-pop c.args.j (omega arith) c.requires.good.0) c.requires.coded.1.good)) in
    record {
      n_in_bounds = omega (arith, begins-le c.add_pop-n.ensures, length-tail-part 1 c.args.out.now, some c.requires.coded.0);
      coded = coded m;
      i_nonzero = (good-pop c.requires.good.1).0;
      good = pop-asks c.args.j m (pops-gt c.requires.good.0 c.requires.good.1 (omega arith))
          (sum-good c.requires.good.0 c.requires.good.1);
    }

pub add_pops-returns : goal.add_pops-returns
add_pops-returns t c =
    pop-gives c.args.j
    (made-codes 1 c.args.out.now _ _ (omega (arith, some c.requires.coded.0)) c.add_pop-n.ensures
    (sum-good (good-less-pop c.args.j (omega arith) c.requires.good.0) c.requires.coded.1.good))
    (pops-gt c.requires.good.0 c.requires.good.1 (omega arith)) c.make_pop-2.ensures

-- ---- add_pow: `add_pow` meets its contract, if the calls that it makes do.

pub add_pow-bounds-y-0 : goal.add_pow-bounds-y-0
add_pow-bounds-y-0 t c = some c.requires.coded.1.1

pub add_pow-put_pow-f-requires : goal.add_pow-put_pow-f-requires
add_pow-put_pow-f-requires t c =
    record {
      i_bound = (good-pow c.requires.good).1.0;
      room_under = omega (arith, some c.requires.coded.1.1, some c.requires.coded.1.0);
    }

pub add_pow-add_int-n-requires : goal.add_pow-add_int-n-requires
add_pow-add_int-n-requires t c =
    record {
      a_bound = (leaf-said c.requires.coded.1.1 c.in-Leaf.ensures).below;
      coded = c.requires.coded.1.0;
      room_under = omega (
        arith,
        some c.requires.coded.1.1,
        c.put_pow-f.ensures.size,
        length-tail-part c.put_pow-f.result c.put_pow-f.new.out,
      );
    }

pub add_pow-returns-in-Leaf : goal.add_pow-returns-in-Leaf
add_pow-returns-in-Leaf t c =
    begins-as (begins-tail c.put_pow-f.ensures c.add_int-n.ensures)
    (add-pow-int c.requires.coded.0 c.requires.good (leaf-said c.requires.coded.1.1 c.in-Leaf.ensures))

pub add_pow-add_pop_pow-requires : goal.add_pow-add_pop_pow-requires
add_pow-add_pop_pow-requires t c =
    let v = pop-said c.requires.coded.1.1 c.in-Pop.ensures in
    (omega (arith, v), ((v.part, (c.requires.coded.0, c.requires.coded.1.0)), ((v.node, c.requires.good), omega (arith, v))))

pub add_pow-returns-in-Pop : goal.add_pow-returns-in-Pop
add_pow-returns-in-Pop t c =
    begins-as c.add_pop_pow.ensures
    (ap (enc c.args.width) (sum_comm c.args.width
    (pop c.in-Pop.j (dec c.args.width (inner c.args.y.now)))
    (pow c.args.i (dec c.args.width c.args.p.now) (dec c.args.width c.args.q.now))
    ∙ ap (sum_of c.args.width (pow c.args.i (dec c.args.width c.args.p.now) (dec c.args.width c.args.q.now)))
    (sym (pop-said c.requires.coded.1.1 c.in-Pop.ensures).is)))

pub add_pow-slice_bounds-add_pows-end : goal.add_pow-slice_bounds-add_pows-end
add_pow-slice_bounds-add_pows-end t c = omega (arith, pow-said c.requires.coded.1.1 c.in-Pow.ensures)

pub add_pow-add_pows-requires : goal.add_pow-add_pows-requires
add_pow-add_pows-requires t c =
    let v = pow-said c.requires.coded.1.1 c.in-Pow.ensures in (
      omega (arith, v),
      (((c.requires.coded.0, c.requires.coded.1.0), (v.left, v.right)), ((c.requires.good, v.node), omega (arith, v))),
    )

pub add_pow-returns-in-Pow : goal.add_pow-returns-in-Pow
add_pow-returns-in-Pow t c =
    begins-as c.add_pows.ensures
    (ap (λ h. enc c.args.width
    (sum_of c.args.width (pow c.args.i (dec c.args.width c.args.p.now) (dec c.args.width c.args.q.now)) h))
    (sym (pow-said c.requires.coded.1.1 c.in-Pow.ensures).is))

-- ---- add_pows: `add_pows` meets its contract, if the calls that it makes do.

pub add_pows-returns-then-i-j : goal.add_pows-returns-then-i-j
add_pows-returns-then-i-j t c =
    begins-as c.add_pows.ensures
    (ap (enc c.args.width) (sum_comm c.args.width
    (pow c.args.j (dec c.args.width c.args.r.now) (dec c.args.width c.args.s.now))
    (pow c.args.i (dec c.args.width c.args.p.now) (dec c.args.width c.args.q.now))))

pub add_pows-add_pow-a-requires : goal.add_pows-add_pow-a-requires
add_pows-add_pow-a-requires t c = (
  omega (arith, some c.requires.coded.0.1, some c.requires.coded.1.1),
  (
    (c.requires.coded.0.0, (coded (zero-codes c.args.width), c.requires.coded.1.0)),
    (
      subst (λ h. Good c.args.width (pow (c.args.i - c.args.j) (dec c.args.width c.args.p.now) h))
          (sym (dec-enc (zero-codes c.args.width))) (good-less-pow c.args.j (omega arith) c.requires.good.0),
      omega (arith, length-tail-part 1 c.args.out.now, some c.requires.coded.0.1, some c.requires.coded.1.1),
    ),
  ),
)

pub add_pows-sum-b-requires : goal.add_pows-sum-b-requires
add_pows-sum-b-requires t c =
    let l : LeftSum c.args.width c.args.i c.args.j c.args.p.now c.args.q.now c.args.r.now c.args.s.now c.if-i-j-2.out c.if-i-j-2.a =
    elim c.if-i-j-2.branch [
      | add_pows-then-i-j-2 w ↦ left-eq c.args.out.now (omega (arith, some c.requires.coded.0.0)) c.requires.coded c.requires.good
          w.if-i-j-2.true w.out-is w.a-is w.sum-a.ensures
      | add_pows-else-i-j-2 w ↦ left-gt c.args.out.now (omega (arith, some c.requires.coded.0.0)) c.requires.coded c.requires.good
          (omega (arith, w.if-i-j-2.false)) w.out-is w.a-is w.add_pow-a.ensures
    ] in (
      omega (arith, some c.requires.coded.0.0, some c.requires.coded.1.0),
      (
        (c.requires.coded.0.1, c.requires.coded.1.1),
        omega (
          arith,
          l.short,
          length-tail-part (1 + c.if-i-j-2.a) c.if-i-j-2.out,
          some c.requires.coded.0.1,
          some c.requires.coded.1.1,
        ),
      ),
    )

pub add_pows-make_pow-requires : goal.add_pows-make_pow-requires
add_pows-make_pow-requires t c =
    let l : LeftSum c.args.width c.args.i c.args.j c.args.p.now c.args.q.now c.args.r.now c.args.s.now c.if-i-j-2.out c.if-i-j-2.a =
    elim c.if-i-j-2.branch [
      | add_pows-then-i-j-2 w ↦ left-eq c.args.out.now (omega (arith, some c.requires.coded.0.0)) c.requires.coded c.requires.good
          w.if-i-j-2.true w.out-is w.a-is w.sum-a.ensures
      | add_pows-else-i-j-2 w ↦ left-gt c.args.out.now (omega (arith, some c.requires.coded.0.0)) c.requires.coded c.requires.good
          (omega (arith, w.if-i-j-2.false)) w.out-is w.a-is w.add_pow-a.ensures
    ] in
    let k : 1 + c.if-i-j-2.a ≤ length c.if-i-j-2.out = omega (arith, l.short, some c.requires.coded.0.1) in
    let d = c.args.out.now in
    let pos : 1 ≤ length d = omega (arith, some c.requires.coded.0.0) in
    record {
      b_in_bounds = omega (arith, l.short, c.sum-b.ensures.size, sum-shorter c.requires.coded.0.1 c.requires.coded.1.1);
      coded = pows-coded d pos c.requires.coded c.requires.good l k c.sum-b.ensures;
      i_nonzero = (good-pow c.requires.good.1).0;
      good = pows-ask d pos c.requires.coded c.requires.good l k c.sum-b.ensures;
    }

pub add_pows-returns : goal.add_pows-returns
add_pows-returns t c =
    let l : LeftSum c.args.width c.args.i c.args.j c.args.p.now c.args.q.now c.args.r.now c.args.s.now c.if-i-j-2.out c.if-i-j-2.a =
    elim c.if-i-j-2.branch [
      | add_pows-then-i-j-2 w ↦ left-eq c.args.out.now (omega (arith, some c.requires.coded.0.0)) c.requires.coded c.requires.good
          w.if-i-j-2.true w.out-is w.a-is w.sum-a.ensures
      | add_pows-else-i-j-2 w ↦ left-gt c.args.out.now (omega (arith, some c.requires.coded.0.0)) c.requires.coded c.requires.good
          (omega (arith, w.if-i-j-2.false)) w.out-is w.a-is w.add_pow-a.ensures
    ] in
    pows-give c.args.out.now (omega (arith, some c.requires.coded.0.0)) c.requires.coded c.requires.good l
    (omega (arith, l.short, some c.requires.coded.0.1)) c.sum-b.ensures c.make_pow.ensures

-- ---- sum: `sum` meets its contract, if the calls that it makes do.

pub sum-bounds-x-0 : goal.sum-bounds-x-0
sum-bounds-x-0 t c = some c.requires.coded.0

pub sum-add_int-requires : goal.sum-add_int-requires
sum-add_int-requires t c =
    record {
      a_bound = (leaf-said c.requires.coded.0 c.in-Leaf.ensures).below;
      coded = c.requires.coded.1;
      room_under = omega (arith, some c.requires.coded.0);
    }

pub sum-returns-in-Leaf : goal.sum-returns-in-Leaf
sum-returns-in-Leaf t c =
    begins-as c.add_int.ensures
    (ap (λ h. enc c.args.width (sum_of c.args.width h (dec c.args.width c.args.y.now)))
    (sym (leaf-said c.requires.coded.0 c.in-Leaf.ensures).is))

pub sum-add_pop-requires : goal.sum-add_pop-requires
sum-add_pop-requires t c =
    let v = pop-said c.requires.coded.0 c.in-Pop.ensures in
    (omega (arith, v), ((v.part, c.requires.coded.1), (v.node, omega (arith, v))))

pub sum-returns-in-Pop : goal.sum-returns-in-Pop
sum-returns-in-Pop t c =
    begins-as c.add_pop.ensures
    (ap (λ h. enc c.args.width (sum_of c.args.width h (dec c.args.width c.args.y.now)))
    (sym (pop-said c.requires.coded.0 c.in-Pop.ensures).is))

pub sum-slice_bounds-add_pow-end : goal.sum-slice_bounds-add_pow-end
sum-slice_bounds-add_pow-end t c = omega (arith, pow-said c.requires.coded.0 c.in-Pow.ensures)

pub sum-add_pow-requires : goal.sum-add_pow-requires
sum-add_pow-requires t c =
    let v = pow-said c.requires.coded.0 c.in-Pow.ensures in
    (omega (arith, v), ((v.left, (v.right, c.requires.coded.1)), (v.node, omega (arith, v))))

pub sum-returns-in-Pow : goal.sum-returns-in-Pow
sum-returns-in-Pow t c =
    begins-as c.add_pow.ensures
    (ap (λ h. enc c.args.width (sum_of c.args.width h (dec c.args.width c.args.y.now)))
    (sym (pow-said c.requires.coded.0 c.in-Pow.ensures).is))
