-- `term_build::build` meets its contract, node by node; the number that falls is that of the words.
use Rattle.std.proofs.Common.{refl, sym, ◌∙◌, arith}
use Rattle.term_tree.specs.Shapes.{operand-shorter, tag-neg, tag-power}
use Rattle.term_tree.proofs.Shapes.{power-tag}
use Rattle.term_build.specs.laws.Nodes.{built-size, built-inside, given-as, given-one, two-words, built-fits, built-int}
use Rattle.term_build.specs.laws.Nodes.{letter-room, built-letter, built-neg, built-one, room-power, built-power}
use Rattle.term_build.specs.laws.Two.{pair_inside, given-left, fewer-left, fewer-right, given-behind, joining, built-two}
use Rattle.term_build.proofs.+build.Goals as goal

pub bounds-w-0 : goal.bounds-w-0
bounds-w-0 t c =
    omega (arith, two-words c.requires)

pub returns-in-Integer : goal.returns-in-Integer
returns-in-Integer t c =
    built-int _ _ c.in-Integer.ensures c.put.ensures

pub letter_run-requires : goal.letter_run-requires
letter_run-requires t c =
    letter-room _ _ _ c.in-Letter.ensures c.requires

pub returns-in-Letter : goal.returns-in-Letter
returns-in-Letter t c =
    built-letter _ _ _ c.in-Letter.ensures c.letter_run.ensures

pub slice_bounds-build-count : goal.slice_bounds-build-count
slice_bounds-build-count t c =
    two-words c.requires

pub slice_bounds-build-start : goal.slice_bounds-build-start
slice_bounds-build-start t c =
    omega (arith, two-words c.requires)

pub build-a-requires : goal.build-a-requires
build-a-requires t c =
    let h = c.in-Negative.ensures in (
      omega (arith, c.decreases, operand-shorter c.requires.codes),
      given-one _ _ h.0 (tag-neg h.1) c.requires,
    )

pub negate-requires-clause-a_in_bounds : goal.negate-requires-clause-a_in_bounds
negate-requires-clause-a_in_bounds t c =
    let h = c.in-Negative.ensures in
    let g = given-one _ _ h.0 (tag-neg h.1) c.requires in (
      built-inside g c.build-a.ensures,
      omega (arith, built-size g c.build-a.ensures, g.more, g.most, c.build-a.auto.out),
    )

pub negate-requires-clause-fits : goal.negate-requires-clause-fits
negate-requires-clause-fits t c =
    let h = c.in-Negative.ensures in
    built-fits (given-one _ _ h.0 (tag-neg h.1) c.requires) c.build-a.ensures

pub returns-in-Negative : goal.returns-in-Negative
returns-in-Negative t c =
    let h = c.in-Negative.ensures in
    built-neg _ _ h.0 h.1 c.build-a.ensures c.negate.ensures

pub returns-in-Power-eq0 : goal.returns-in-Power-eq0
returns-in-Power-eq0 t c =
    let h = c.in-Power-eq0.ensures in
    built-one _ _ h.0 (power-tag c.requires.codes h.0 h.1.0) (h.1.1 ∙ c.in-Power-eq0.field-0-test)
    c.put-in-Power-eq0.ensures

pub slice_bounds-build-count-in-Power : goal.slice_bounds-build-count-in-Power
slice_bounds-build-count-in-Power t c =
    two-words c.requires

pub slice_bounds-build-start-in-Power : goal.slice_bounds-build-start-in-Power
slice_bounds-build-start-in-Power t c =
    omega (arith, two-words c.requires)

pub build-base-requires : goal.build-base-requires
build-base-requires t c =
    let h = c.in-Power.ensures in (
      omega (arith, c.decreases, operand-shorter c.requires.codes),
      given-one _ _ h.0 (tag-power (power-tag c.requires.codes h.0 h.1.0)) c.requires,
    )

pub raise-requires-clause-le_k : goal.raise-requires-clause-le_k
raise-requires-clause-le_k t c =
    let h = c.in-Power.ensures in
    let g = given-one _ _ h.0 (tag-power (power-tag c.requires.codes h.0 h.1.0)) c.requires in (
      omega arith,
      built-inside g c.build-base.ensures,
      omega (arith, c.requires.most, c.build-base.auto.out, c.build-base.auto.other),
    )

pub raise-requires-clause-power_room : goal.raise-requires-clause-power_room
raise-requires-clause-power_room t c =
    let h = c.in-Power.ensures in
    room-power _ _ h.0 (power-tag c.requires.codes h.0 h.1.0) _ (omega (arith, h.1.1)) c.build-base.ensures
    (given-as (sym c.build-base.auto.stack) (sym c.build-base.auto.out) (sym c.build-base.auto.other) c.requires)

pub returns-in-Power : goal.returns-in-Power
returns-in-Power t c =
    let h = c.in-Power.ensures in
    built-power _ _ h.0 (power-tag c.requires.codes h.0 h.1.0) _ (omega (arith, h.1.1)) c.build-base.ensures
    c.raise.ensures

pub slice_bounds-build-end-in-Pair : goal.slice_bounds-build-end-in-Pair
slice_bounds-build-end-in-Pair t c =
    omega (arith, pair_inside _ _ _ _ c.in-Pair.ensures c.requires)

pub build-left-requires : goal.build-left-requires
build-left-requires t c = (
  omega (arith, c.decreases, fewer-left _ _ _ _ c.in-Pair.ensures c.requires),
  given-left _ _ _ _ c.in-Pair.ensures c.requires,
)

pub slice_bounds-build-count-in-Pair-2 : goal.slice_bounds-build-count-in-Pair-2
slice_bounds-build-count-in-Pair-2 t c =
    omega (arith, pair_inside _ _ _ _ c.in-Pair.ensures c.requires)

pub slice_bounds-build-start-in-Pair-2 : goal.slice_bounds-build-start-in-Pair-2
slice_bounds-build-start-in-Pair-2 t c =
    omega (arith, pair_inside _ _ _ _ c.in-Pair.ensures c.requires)

pub offset_bounds-stack-left : goal.offset_bounds-stack-left
offset_bounds-stack-left t c =
    let g = given-left _ _ _ _ c.in-Pair.ensures c.requires in
    omega (arith, built-size g c.build-left.ensures)

pub slice_bounds-build-count-in-Pair-3 : goal.slice_bounds-build-count-in-Pair-3
slice_bounds-build-count-in-Pair-3 t c =
    built-inside (given-left _ _ _ _ c.in-Pair.ensures c.requires) c.build-left.ensures

pub slice_bounds-build-start-in-Pair-3 : goal.slice_bounds-build-start-in-Pair-3
slice_bounds-build-start-in-Pair-3 t c =
    built-inside (given-left _ _ _ _ c.in-Pair.ensures c.requires) c.build-left.ensures

pub build-right-requires : goal.build-right-requires
build-right-requires t c = (
  omega (arith, c.decreases, fewer-right _ _ _ _ c.in-Pair.ensures c.requires),
  given-behind _ _ _ _ c.in-Pair.ensures c.requires c.build-left.ensures
      c.build-left.auto.stack c.build-left.auto.out c.build-left.auto.other,
)

pub join-requires : goal.join-requires
join-requires t c =
    let g = given-as refl (sym (c.build-right.auto.out ∙ c.build-left.auto.out))
    (sym (c.build-right.auto.other ∙ c.build-left.auto.other)) c.requires in
    joining _ _ _ _ c.in-Pair.ensures g c.build-left.ensures c.build-right.ensures
    c.build-left.auto.stack c.build-right.auto.stack

pub returns-in-Pair : goal.returns-in-Pair
returns-in-Pair t c =
    built-two _ _ _ _ c.in-Pair.ensures c.requires c.build-left.ensures
    c.build-right.ensures c.build-left.auto.stack c.build-right.auto.stack c.join.ensures
