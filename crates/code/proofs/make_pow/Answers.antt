-- `code::make_pow` meets its contract: by the head word of the form a, and where that is a pow by its q, pow(i, a, b) is
-- pop(1, b), a merged pow or a plain one.
-- Assumes nothing.
use Rattle.std.proofs.Common.{arith, rules, ap, sym, ◌∙◌, subst, length-set}
use Rattle.code.specs.Coding.{dec, enc, Good}
use Rattle.code.specs.Heads.{HeadIs}
use Rattle.code.specs.Operations.{pop_of}
use Rattle.code.proofs.Lists.{begins-as, length-tail-part}
use Rattle.code.proofs.Placed.{placed-some, pow_small, lifted}
use Rattle.code.proofs.Placed.{pows-zero-form, pows-zero-size, pows-zero-moved, pows-last, pows-merged-size, pows-merged-small, pows-merged}
use Rattle.code.proofs.Placed.{pows-plain-leaf, pows-plain-pop, pows-plain-pow}
use Rattle.code.proofs.make_pow.Goals.{in_default-via-in-Leaf+in_default, in_default-via-in-Pow+else-out-s-eq0, in_default-via-in_default}
use Rattle.code.proofs.make_pow.Goals as goal

pub bounds-out-1 : goal.bounds-out-1
bounds-out-1 c = omega (arith, placed-some 1 c.args.a c.args.out.now (omega arith) c.requires.coded.0)

pub make_pop-n-requires : goal.make_pop-n-requires
make_pop-n-requires c =
    let out = c.args.out.now in
    let room = c.requires.b_in_bounds.0 in
    let said = rw c.in-Leaf-eq0.field-0-test at c.in-Leaf-eq0.ensures in
    let one = pows-zero-size c.args.i c.args.a c.args.b out room c.requires.coded said in
    let form = pows-zero-form c.args.i c.args.a c.args.b out room c.requires.coded said in
    let moved = pows-zero-moved c.args.i c.args.a c.args.b out room c.requires.coded said in
    record {
      n_in_bounds = omega (arith, one, length-tail-part 1 out);
      coded = rw moved c.requires.coded.1;
      i_nonzero = omega arith;
      good = rw moved (subst (Good c.args.width) form c.requires.good);
    }

pub returns-in-Leaf-eq0 : goal.returns-in-Leaf-eq0
returns-in-Leaf-eq0 c =
    let out = c.args.out.now in
    let room = c.requires.b_in_bounds.0 in
    let said = rw c.in-Leaf-eq0.field-0-test at c.in-Leaf-eq0.ensures in
    begins-as
    (lifted out _ _ c.make_pop-n.result (omega arith) c.make_pop-n.ensures (c.make_pop-n.auto.out ∙ length-tail-part 1 out)
    c.shift.ensures (search rules))
    (ap (λ l. enc c.args.width (pop_of c.args.width 1 (dec c.args.width l)))
    (pows-zero-moved c.args.i c.args.a c.args.b out room c.requires.coded said)
    ∙ ap (enc c.args.width) (sym (pows-zero-form c.args.i c.args.a c.args.b out room c.requires.coded said)))

pub bounds-out-s : goal.bounds-out-s
bounds-out-s c =
    pows-last c.args.i c.args.a c.args.b c.args.out.now c.requires.b_in_bounds.0 c.requires.coded c.in-Pow.ensures

pub overflow_add-out-in-Pow : goal.overflow_add-out-in-Pow
overflow_add-out-in-Pow c =
    let small = pows-merged-small c.args.i c.args.a c.args.b c.args.out.now c.requires.b_in_bounds.0 c.requires.coded c.in-Pow.ensures
    c.if-out-s-eq0.true c.requires.good in
    omega (arith, small)

pub overflow_add-out-in-Pow-2 : goal.overflow_add-out-in-Pow-2
overflow_add-out-in-Pow-2 c =
    let small = pows-merged-small c.args.i c.args.a c.args.b c.args.out.now c.requires.b_in_bounds.0 c.requires.coded c.in-Pow.ensures
    c.if-out-s-eq0.true c.requires.good in
    let size = pows-merged-size c.args.i c.args.a c.args.b c.args.out.now c.requires.b_in_bounds.0 c.requires.coded c.in-Pow.ensures
    c.if-out-s-eq0.true in
    omega (arith, small, size)

pub join-requires : goal.join-requires
join-requires c =
    let size = pows-merged-size c.args.i c.args.a c.args.b c.args.out.now c.requires.b_in_bounds.0 c.requires.coded c.in-Pow.ensures
    c.if-out-s-eq0.true in
    simp length-set (omega (arith, size, c.requires.b_in_bounds.0))

pub returns-in-Pow : goal.returns-in-Pow
returns-in-Pow c =
    pows-merged c.args.i c.args.a c.args.b c.args.out.now c.requires.b_in_bounds.0 c.requires.coded c.in-Pow.ensures
    c.if-out-s-eq0.true c.join.new.out c.join.ensures

pub plain_pow-requires-clause-i_bound : goal.plain_pow-requires-clause-i_bound
plain_pow-requires-clause-i_bound c =
    let out = c.args.out.now in
    let room = c.requires.b_in_bounds.0 in
    elim c.in_default.branch [
      | in_default-via-in-Leaf+in_default w ↦ pow_small
          (pows-plain-leaf c.args.i c.args.a c.args.b out room c.requires.coded w.in_default.ensures w.in_default.field-0-test.1)
          c.requires.good
      | in_default-via-in-Pow+else-out-s-eq0 w ↦ pow_small
          (pows-plain-pow c.args.i c.args.a c.args.b out room c.requires.coded w.in-Pow.ensures w.if-out-s-eq0.false)
          c.requires.good
      | in_default-via-in_default w ↦ pow_small
          (pows-plain-pop c.args.i c.args.a c.args.b out room c.requires.coded (subst (HeadIs _) w.in_default.is c.head_of.ensures))
          c.requires.good
    ]

pub returns-in_default : goal.returns-in_default
returns-in_default c =
    let out = c.args.out.now in
    let room = c.requires.b_in_bounds.0 in
    begins-as c.plain_pow.ensures (ap (enc c.args.width) (sym
    (elim c.in_default.branch [
      | in_default-via-in-Leaf+in_default w ↦ pows-plain-leaf c.args.i c.args.a c.args.b out room c.requires.coded
          w.in_default.ensures w.in_default.field-0-test.1
      | in_default-via-in-Pow+else-out-s-eq0 w ↦ pows-plain-pow c.args.i c.args.a c.args.b out room c.requires.coded
          w.in-Pow.ensures w.if-out-s-eq0.false
      | in_default-via-in_default w ↦ pows-plain-pop c.args.i c.args.a c.args.b out room c.requires.coded
          (subst (HeadIs _) w.in_default.is c.head_of.ensures)
    ])))
