-- `desk_compare::compare_line` meets its contract.
use Rattle.std.proofs.Common.{List, [], ◌∷◌, sym, arith, length-take, length-take-le, ℕ, length}
use Rattle.door_compare.specs.Compare.{is-compared}
use Rattle.form_write.specs.laws.Wrote.{wrote_as}
use Rattle.desk_serve.specs.Laws.{counted-not}
use Rattle.desk_compare.specs.Laws.{compare-fields}
use Rattle.desk_compare.proofs.compare_line.Goals as goal

pub returns-then-n-ne4 : goal.returns-then-n-ne4
returns-then-n-ne4 c =
    wrote_as c.miscounted.ensures
    (counted-not 4 c.args.line.now _ c.count-n.ensures c.if-n-ne4.true)

pub slice_bounds-compared-end : goal.slice_bounds-compared-end
slice_bounds-compared-end c =
    sym (length-take-le c.min-e.result c.compare-answer.new.point
    (omega (arith, c.min-e.ensures, c.compare-answer.auto.point)))

pub compared-requires : goal.compared-requires
compared-requires c =
    let e = c.min-e.result in
    let point = c.compare-answer.new.point in
    record {
      point_len_bound = omega (arith, c.min-e.ensures, length-take e point);
      room_in_bounds = c.requires;
    }

pub returns : goal.returns
returns c =
    let tables : List ℕ =
    length c.args.a.now ∷ length c.args.b.now ∷ length c.args.c.now ∷ length c.args.d.now ∷ [] in
    wrote_as c.compared.ensures
    (compare-fields tables c.args.line.now _ c.count-n.ensures c.if-n-ne4.false
    c.field-row.ensures c.field-s.ensures c.field-t.ensures
    c.min-e.ensures
    (is-compared c.compare-answer.ensures) c.compare-answer.ensures.point)
