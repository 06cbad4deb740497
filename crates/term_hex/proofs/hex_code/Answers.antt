-- `term_hex::hex_code` meets its contract.
use Rattle.std.proofs.Common.{ap, arith, length-drop, List, length, ℕ, ◌-◌, min}
use Rattle.std.proofs.Math.Path.{◌≡◌, ◌∙◌}
use Rattle.std.specs.Prelude.{take, drop}
use Rattle.std.proofs.Math.Seq.{take_all}
use Rattle.text.specs.definitions.Bytes.{all}
use Rattle.text.specs.definitions.Integers.{hex_digit, hex_from}
use Rattle.term_hex.specs.Laws.{hex, code-cut, code-plain}
use Rattle.term_hex.proofs.hex_code.Goals as goal

rest_part : (w : List ℕ) → take (length w - 2) (drop 2 w) ≡ drop 2 w
rest_part w = take_all (length w - 2) (drop 2 w) (omega (arith, length-drop 2 w))

pub slice_bounds-cut_hex-count : goal.slice_bounds-cut_hex-count
slice_bounds-cut_hex-count c =
    omega (arith, (hex c.args.w.now c.requires).long)

pub slice_bounds-cut_hex-start : goal.slice_bounds-cut_hex-start
slice_bounds-cut_hex-start c =
    omega (arith, (hex c.args.w.now c.requires).long)

pub cut_hex-m-requires : goal.cut_hex-m-requires
cut_hex-m-requires c =
    ap (all hex_digit) (rest_part c.args.w.now) ∙ (hex c.args.w.now c.requires).digits

pub returns-then-m-eq1073741824 : goal.returns-then-m-eq1073741824
returns-then-m-eq1073741824 c =
    code-cut _ _ (c.cut_hex-m.ensures ∙ ap (λ v. min (hex_from 0 v) 1073741824) (rest_part c.args.w.now)) c.if-m-eq1073741824.true

pub returns : goal.returns
returns c =
    code-plain _ _ (c.cut_hex-m.ensures ∙ ap (λ v. min (hex_from 0 v) 1073741824) (rest_part c.args.w.now)) c.if-m-eq1073741824.false
