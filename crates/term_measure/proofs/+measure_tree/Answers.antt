use Rattle.std.proofs.Common.{refl, arith}
use Rattle.std.proofs.lemmas.Result.{err_from_is_err_and}
use Rattle.term_tree.specs.Shapes.{long, operand-shorter, tag-neg}
use Rattle.term_measure.specs.laws.One.{finds-int, finds-letter, power-head, one-coded, one-off, one-small, finds-neg, finds-raised}
use Rattle.term_measure.specs.laws.Two.{left-coded, right-coded, fewer-left, fewer-right, pair_inside, left-off, left-small}
use Rattle.term_measure.specs.laws.Two.{right-off, right-small, finds-two}
use Rattle.term_measure.proofs.+measure_tree.Goals as goal

pub bounds-w-1 : goal.bounds-w-1
bounds-w-1 t c = omega (arith, long c.requires.codes)

pub bounds-w-0 : goal.bounds-w-0
bounds-w-0 t c = omega (arith, long c.requires.codes)

pub slice_bounds-measure_tree-count : goal.slice_bounds-measure_tree-count
slice_bounds-measure_tree-count t c = long c.requires.codes

pub slice_bounds-measure_tree-start : goal.slice_bounds-measure_tree-start
slice_bounds-measure_tree-start t c = omega (arith, long c.requires.codes)

pub measure_tree-requires : goal.measure_tree-requires
measure_tree-requires t c =
    let h = c.in-Negative.ensures in (
      omega (arith, c.decreases, operand-shorter c.requires.codes),
      one-coded _ h.0 (tag-neg h.1) c.requires,
    )

pub returns-in_err-a-in-Negative : goal.returns-in_err-a-in-Negative
returns-in_err-a-in-Negative t c =
    let h = c.in-Negative.ensures in
    let p = err_from_is_err_and c.from_residual.result c.from_residual.ensures.1 in
    rw (p.1, p.2) (one-off _ h.0 (tag-neg h.1) _ c.in_err-a-in-Negative.ensures _ refl)

pub slice_bounds-measure_tree-count-in-Power : goal.slice_bounds-measure_tree-count-in-Power
slice_bounds-measure_tree-count-in-Power t c = long c.requires.codes

pub slice_bounds-measure_tree-start-in-Power : goal.slice_bounds-measure_tree-start-in-Power
slice_bounds-measure_tree-start-in-Power t c = omega (arith, long c.requires.codes)

pub measure_tree-requires-in-Power : goal.measure_tree-requires-in-Power
measure_tree-requires-in-Power t c =
    let h = c.in-Power.ensures in (
      omega (arith, c.decreases, operand-shorter c.requires.codes),
      one-coded _ h.0 (power-head _ h c.requires) c.requires,
    )

pub returns-in_err-base-in-Power : goal.returns-in_err-base-in-Power
returns-in_err-base-in-Power t c =
    let h = c.in-Power.ensures in
    let p = err_from_is_err_and c.from_residual-in_err-base-in-Power.result c.from_residual-in_err-base-in-Power.ensures.1 in
    rw (p.1, p.2) (one-off _ h.0 (power-head _ h c.requires) _ c.in_err-base-in-Power.ensures _ refl)

pub judge_power-requires : goal.judge_power-requires
judge_power-requires t c =
    let h = c.in-Power.ensures in
    one-small _ h.0 _ c.in_ok-base-in-Power.ensures _ refl (one-coded _ h.0 (power-head _ h c.requires) c.requires)

pub slice_bounds-measure_tree-end-in-Pair : goal.slice_bounds-measure_tree-end-in-Pair
slice_bounds-measure_tree-end-in-Pair t c = omega (arith, pair_inside _ _ _ c.in-Pair.ensures c.requires)

pub measure_tree-requires-in-Pair : goal.measure_tree-requires-in-Pair
measure_tree-requires-in-Pair t c = (
  omega (arith, c.decreases, fewer-left _ _ _ c.in-Pair.ensures c.requires),
  left-coded _ _ _ c.in-Pair.ensures c.requires,
)

pub returns-in_err-left-in-Pair : goal.returns-in_err-left-in-Pair
returns-in_err-left-in-Pair t c =
    let p = err_from_is_err_and c.from_residual-in_err-left-in-Pair.result c.from_residual-in_err-left-in-Pair.ensures.1 in
    rw (p.1, p.2) (left-off _ _ _ c.in-Pair.ensures _ c.in_err-left-in-Pair.ensures _ refl)

pub slice_bounds-measure_tree-count-in-Pair-2 : goal.slice_bounds-measure_tree-count-in-Pair-2
slice_bounds-measure_tree-count-in-Pair-2 t c = omega (arith, pair_inside _ _ _ c.in-Pair.ensures c.requires)

pub slice_bounds-measure_tree-start-in-Pair-2 : goal.slice_bounds-measure_tree-start-in-Pair-2
slice_bounds-measure_tree-start-in-Pair-2 t c = omega (arith, pair_inside _ _ _ c.in-Pair.ensures c.requires)

pub measure_tree-requires-in-Pair-2 : goal.measure_tree-requires-in-Pair-2
measure_tree-requires-in-Pair-2 t c = (
  omega (arith, c.decreases, fewer-right _ _ _ c.in-Pair.ensures c.requires),
  right-coded _ _ _ c.in-Pair.ensures c.requires,
)

pub returns-in_err-right-in-Pair : goal.returns-in_err-right-in-Pair
returns-in_err-right-in-Pair t c =
    let p = err_from_is_err_and c.from_residual-in_err-right-in-Pair.result c.from_residual-in_err-right-in-Pair.ensures.1 in
    rw (p.1, p.2) (right-off _ _ _ c.in-Pair.ensures _ c.in_ok-left-in-Pair.ensures _ refl _ c.in_err-right-in-Pair.ensures _ refl)

pub joined-requires : goal.joined-requires
joined-requires t c = (
  left-small _ _ _ c.in-Pair.ensures _ c.in_ok-left-in-Pair.ensures _ refl _ c.in_ok-right-in-Pair.ensures c.requires,
  right-small _ _ _ c.in-Pair.ensures _ c.in_ok-left-in-Pair.ensures _ refl _ c.in_ok-right-in-Pair.ensures _ refl c.requires,
)

pub returns-in-Integer : goal.returns-in-Integer
returns-in-Integer t c = finds-int _ c.in-Integer.ensures _ c.integer.ensures _ c.judge.ensures

pub returns-in-Letter : goal.returns-in-Letter
returns-in-Letter t c = finds-letter _ c.in-Letter.ensures _ c.letter.ensures _ c.judge-in-Letter.ensures

pub returns-in_ok-a-in-Negative : goal.returns-in_ok-a-in-Negative
returns-in_ok-a-in-Negative t c =
    let h = c.in-Negative.ensures in
    finds-neg _ h.0 _ c.in_ok-a-in-Negative.ensures _ refl h _ c.judge-in-Negative.ensures

pub returns-in_ok-base-in-Power : goal.returns-in_ok-base-in-Power
returns-in_ok-base-in-Power t c =
    let h = c.in-Power.ensures in
    finds-raised _ h.0 _ c.in_ok-base-in-Power.ensures _ refl h c.requires _ c.judge_power.ensures

pub returns-in_ok-right-in-Pair : goal.returns-in_ok-right-in-Pair
returns-in_ok-right-in-Pair t c =
    finds-two _ _ _ c.in-Pair.ensures _ c.in_ok-left-in-Pair.ensures _ refl _ c.in_ok-right-in-Pair.ensures _ refl _ c.joined.ensures _ c.judge-in-Pair.ensures
