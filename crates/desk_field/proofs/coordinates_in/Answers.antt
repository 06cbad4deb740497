use Rattle.std.proofs.Common.{sym, ap, ◌∙◌, ◌+◌, ◌-◌}
use Rattle.desk_field.specs.Fields.{coordinates_of}
use Rattle.desk_field.specs.Walk.{coordinates-on}
use Rattle.desk_field.proofs.coordinates_in.Goals as goal

pub loop-k-preserved : goal.loop-k-preserved
loop-k-preserved c =
    ap (λ v. (c.loop-k.k + 1) + coordinates_of (c.args.n - (c.loop-k.k + 1)) v) c.rest-left.ensures
    ∙ sym (coordinates-on c.args.n c.loop-k.k c.loop-k.left.now c.loop-k-test.true
    (sym c.begins_coordinate.ensures ∙ c.if-not-begins_coordinate.false))
    ∙ c.loop-k.invariant
