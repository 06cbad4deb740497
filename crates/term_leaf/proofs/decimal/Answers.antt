-- `term_leaf::decimal` meets its contract: the digits behind a sign, or all bytes.
use Rattle.std.proofs.Common.{ap, arith, length-drop, List, length, ℕ, ◌-◌, min}
use Rattle.std.proofs.Math.Path.{◌≡◌, ◌∙◌}
use Rattle.std.specs.Prelude.{take, drop}
use Rattle.std.proofs.Math.Seq.{take_all}
use Rattle.text.specs.definitions.Bytes.{all, digit, value_from}
use Rattle.term_leaf.specs.laws.Integers.{integer-long, digits-below, digits-plain, below-cut, below_code, plain-cut, plain_code}
use Rattle.term_leaf.proofs.decimal.Goals as goal

rest_part : (w : List ℕ) → take (length w - 1) (drop 1 w) ≡ drop 1 w
rest_part w = take_all (length w - 1) (drop 1 w) (omega (arith, length-drop 1 w))

pub bounds-w-0 : goal.bounds-w-0
bounds-w-0 c =
    omega (arith, integer-long c.args.w.now c.requires)

pub slice_bounds-cut_value-count : goal.slice_bounds-cut_value-count
slice_bounds-cut_value-count c =
    omega (arith, integer-long c.args.w.now c.requires)

pub slice_bounds-cut_value-start : goal.slice_bounds-cut_value-start
slice_bounds-cut_value-start c =
    omega (arith, integer-long c.args.w.now c.requires)

pub cut_value-m-requires : goal.cut_value-m-requires
cut_value-m-requires c =
    ap (all digit) (rest_part c.args.w.now) ∙ digits-below c.args.w.now c.requires c.if-w-eq45.true

pub returns-then-m-eq1073741824 : goal.returns-then-m-eq1073741824
returns-then-m-eq1073741824 c =
    below-cut c.args.w.now _ c.if-w-eq45.true
    (c.cut_value-m.ensures ∙ ap (λ v. min (value_from 0 v) 1073741824) (rest_part c.args.w.now)) c.if-m-eq1073741824.true

pub returns-then-w-eq45 : goal.returns-then-w-eq45
returns-then-w-eq45 c =
    below_code c.args.w.now _ c.if-w-eq45.true
    (c.cut_value-m.ensures ∙ ap (λ v. min (value_from 0 v) 1073741824) (rest_part c.args.w.now)) c.if-m-eq1073741824.false

pub cut_value-m-requires-2 : goal.cut_value-m-requires-2
cut_value-m-requires-2 c =
    digits-plain c.args.w.now c.requires c.if-w-eq45.false

pub returns-then-m-eq1073741824-2 : goal.returns-then-m-eq1073741824-2
returns-then-m-eq1073741824-2 c =
    plain-cut c.args.w.now _ c.if-w-eq45.false c.cut_value-m-2.ensures c.if-m-eq1073741824-2.true

pub returns : goal.returns
returns c =
    plain_code c.args.w.now _ c.if-w-eq45.false c.cut_value-m-2.ensures c.if-m-eq1073741824-2.false
