-- `form_write::text_length` meets its contract: the head, the parts and the signs between them. The measure is the number of words.
use Rattle.std.proofs.Common.{ap, arith, ◌%◌, length}
use Rattle.std.proofs.Math.Path.{◌∙◌}
use Rattle.std.proofs.Math.ListN.{get_or}
use Rattle.code.specs.laws.Codes.{some, int_view}
use Rattle.code.specs.laws.Parts.{pop-at, pow-at}
use Rattle.form_write.specs.laws.Sizes.{numeral-most, coded-most}
use Rattle.form_write.specs.laws.Texts.{text-int}
use Rattle.form_write.proofs.Lengths.{pop-total, pow-total}
use Rattle.form_write.proofs.+text_length.Goals as goal

pub bounds-x-0 : goal.bounds-x-0
bounds-x-0 t c =
    omega (arith, some c.requires.coded)

pub leaf_length-requires : goal.leaf_length-requires
leaf_length-requires t c =
    (int_view c.requires.coded c.if-w-lt-NODE.true).below

pub returns-then-w-lt-NODE : goal.returns-then-w-lt-NODE
returns-then-w-lt-NODE t c =
    c.leaf_length.ensures ∙ ap length (text-int (int_view c.requires.coded c.if-w-lt-NODE.true))

pub overflow_add-h : goal.overflow_add-h
overflow_add-h t c =
    omega (arith, c.digits_of-h.ensures, numeral-most (get_or c.args.x.now 0 0 % 64) (omega arith))

pub text_length-n-requires : goal.text_length-n-requires
text_length-n-requires t c =
    let v = pop-at c.requires.coded c.if-w-lt-NODE.false c.if-s-eq0.true in
    (omega (arith, v, c.decreases), (v.part, omega (arith, v, c.requires.x_len_bound)))

pub overflow_add-result : goal.overflow_add-result
overflow_add-result t c =
    omega (
      arith,
      pop-total (pop-at c.requires.coded c.if-w-lt-NODE.false c.if-s-eq0.true) c.digits_of-h.ensures c.text_length-n.ensures,
      coded-most c.requires.coded,
      c.requires.x_len_bound,
    )

pub overflow_add-result-then-s-eq0 : goal.overflow_add-result-then-s-eq0
overflow_add-result-then-s-eq0 t c =
    omega (
      arith,
      pop-total (pop-at c.requires.coded c.if-w-lt-NODE.false c.if-s-eq0.true) c.digits_of-h.ensures c.text_length-n.ensures,
      coded-most c.requires.coded,
      c.requires.x_len_bound,
    )

pub returns-then-s-eq0 : goal.returns-then-s-eq0
returns-then-s-eq0 t c =
    pop-total (pop-at c.requires.coded c.if-w-lt-NODE.false c.if-s-eq0.true) c.digits_of-h.ensures c.text_length-n.ensures

pub slice_bounds-text_length-end-2 : goal.slice_bounds-text_length-end-2
slice_bounds-text_length-end-2 t c =
    omega (arith, pow-at c.requires.coded c.if-w-lt-NODE.false c.if-s-eq0.false)

pub text_length-n-requires-2 : goal.text_length-n-requires-2
text_length-n-requires-2 t c =
    let v = pow-at c.requires.coded c.if-w-lt-NODE.false c.if-s-eq0.false in
    (omega (arith, v, c.decreases), (v.left, omega (arith, v, c.requires.x_len_bound)))

pub text_length-m-requires : goal.text_length-m-requires
text_length-m-requires t c =
    let v = pow-at c.requires.coded c.if-w-lt-NODE.false c.if-s-eq0.false in
    (omega (arith, v, c.decreases), (v.right, omega (arith, v, c.requires.x_len_bound)))

pub overflow_add-result-2 : goal.overflow_add-result-2
overflow_add-result-2 t c =
    omega (
      arith,
      pow-total (pow-at c.requires.coded c.if-w-lt-NODE.false c.if-s-eq0.false)
          c.digits_of-h.ensures c.text_length-n-2.ensures c.text_length-m.ensures,
      coded-most c.requires.coded,
      c.requires.x_len_bound,
    )

pub overflow_add-result-3 : goal.overflow_add-result-3
overflow_add-result-3 t c =
    omega (
      arith,
      pow-total (pow-at c.requires.coded c.if-w-lt-NODE.false c.if-s-eq0.false)
          c.digits_of-h.ensures c.text_length-n-2.ensures c.text_length-m.ensures,
      coded-most c.requires.coded,
      c.requires.x_len_bound,
    )

pub overflow_add-result-4 : goal.overflow_add-result-4
overflow_add-result-4 t c =
    omega (
      arith,
      pow-total (pow-at c.requires.coded c.if-w-lt-NODE.false c.if-s-eq0.false)
          c.digits_of-h.ensures c.text_length-n-2.ensures c.text_length-m.ensures,
      coded-most c.requires.coded,
      c.requires.x_len_bound,
    )

pub overflow_add-result-5 : goal.overflow_add-result-5
overflow_add-result-5 t c =
    omega (
      arith,
      pow-total (pow-at c.requires.coded c.if-w-lt-NODE.false c.if-s-eq0.false)
          c.digits_of-h.ensures c.text_length-n-2.ensures c.text_length-m.ensures,
      coded-most c.requires.coded,
      c.requires.x_len_bound,
    )

pub returns : goal.returns
returns t c =
    pow-total (pow-at c.requires.coded c.if-w-lt-NODE.false c.if-s-eq0.false)
    c.digits_of-h.ensures c.text_length-n-2.ensures c.text_length-m.ensures
