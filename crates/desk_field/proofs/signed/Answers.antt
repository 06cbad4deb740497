-- `desk_field::signed` meets its contract, by the first byte.
use Rattle.std.proofs.Common.{◌∙◌, ap, arith, rules, length-drop, ◌-◌, length}
use Rattle.std.specs.Prelude.{drop}
use Rattle.std.proofs.Math.Seq.{take_all}
use Rattle.text.specs.definitions.Bytes.{read_nat, below0}
use Rattle.desk_field.specs.Fields.{signed32}
use Rattle.desk_field.specs.Numbers.{signed-minus, signed-plain, signed-short}
use Rattle.desk_field.proofs.signed.Goals.{in_default-via-then-w-lt1, in_default-via-else-w-lt1+in_default-1}
use Rattle.desk_field.proofs.signed.Goals as goal

pub returns-in-45 : goal.returns-in-45
returns-in-45 c =
    let w = c.args.w.now in
    c.below_zero.ensures
    ∙ ap (λ v. signed32 (below0 (read_nat v))) (take_all (length w - 1) (drop 1 w) (omega (arith, length-drop 1 w)))
    ∙ signed-minus w (λ e. omega arith) (omega arith)

pub returns-in_default : goal.returns-in_default
returns-in_default c =
    let v = c.args.w.now in
    c.from_zero.ensures
    ∙ elim c.in_default.branch [
      | in_default-via-then-w-lt1 w ↦ signed-short v (search rules)
      | in_default-via-else-w-lt1+in_default-1 w ↦ signed-plain v (search rules) (search rules)
    ]
