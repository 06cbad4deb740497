-- `door_forms::two_of` meets its contract: a text is refused, a limit is passed, or the result is written.
use Rattle.std.specs.Prelude.{Err}
use Rattle.std.proofs.Common.{◌≡◌, ◌∙◌, sym, ap, arith, length, length-take-le, rules}
use Rattle.refusal.specs.Refusal.{of_neither}
use Rattle.code.proofs.Lists.{begins-le}
use Rattle.code.specs.laws.Codes.{coded}
use Rattle.text_laws.specs.laws.Rows.{row-length}
use Rattle.reply.specs.definitions.Reply.{fitted, result_after}
use Rattle.form_read.specs.laws.Read.{form_small}
use Rattle.refusal.proofs.Exits.{mapped_ok, mapped_err, exits}
use Rattle.door_result.specs.Result.{written_of}
use Rattle.door_forms.specs.laws.Forms.{read-pair}
use Rattle.door_forms.specs.laws.Limits.{within-err}
use Rattle.door_forms.specs.laws.Operations.{pair-meets, pair-codes, pair-words, pair-text, fitting}
use Rattle.door_forms.specs.laws.Two.{two-stopped, two-goes}
use Rattle.door_forms.proofs.two_of.Goals as goal

pub measure-found-requires : goal.measure-found-requires
measure-found-requires g c =
    let few = (row-length c.args.row.now c.requires.row_value).1 in
    let P = read-pair c.in_ok-pair.was c.read_pair.ensures in
    (form_small few P.of_left, form_small few P.of_right)

pub returns-in_err-map_err : goal.returns-in_err-map_err
returns-in_err-map_err g c =
    let few = (row-length c.args.row.now c.requires.row_value).1 in
    let P = read-pair c.in_ok-pair.was c.read_pair.ensures in
    let m = mapped_err _ _ c.map_err.ensures.cases c.in_err-map_err.was in
    let w = within-err c.measure-found.ensures c.within.ensures m.1 in
    let e = two-stopped (g.O.Operation.measured (length c.args.row.now)) g.O.Operation.op c.args.row.now c.args.s.now c.args.t.now
    (length c.args.res.now) P (pair-meets g.met.O.Operation.laws few P) c.args.res.now w.0 w.1 in
    let q : c.in_err-map_err.field-0.0 ≡ of_neither m.0 = search (rules, m.2) in
    record {
      value = exits c.from_residual-in_err-map_err.ensures.1 ∙ ap Err q ∙ e.0;
      res_after = e.1;
    }

pub slice_bounds-write_result-end : goal.slice_bounds-write_result-end
slice_bounds-write_result-end g c =
    let few = (row-length c.args.row.now c.requires.row_value).1 in
    let P = read-pair c.in_ok-pair.was c.read_pair.ensures in
    let F = fitting few P c.measure-found.ensures c.within.ensures (mapped_ok _ _ c.map_err.ensures.cases c.in_ok-map_err.was) in
    begins-le (c.combine-words.ensures F)

pub slice_bounds-write_result-end-2 : goal.slice_bounds-write_result-end-2
slice_bounds-write_result-end-2 g c =
    let few = (row-length c.args.row.now c.requires.row_value).1 in
    let P = read-pair c.in_ok-pair.was c.read_pair.ensures in
    let F = fitting few P c.measure-found.ensures c.within.ensures (mapped_ok _ _ c.map_err.ensures.cases c.in_ok-map_err.was) in
    sym (length-take-le c.combine-words.result c.combine-words.new.a (begins-le (c.combine-words.ensures F)))

pub write_result-requires : goal.write_result-requires
write_result-requires g c =
    let few = (row-length c.args.row.now c.requires.row_value).1 in
    let P = read-pair c.in_ok-pair.was c.read_pair.ensures in
    let F = fitting few P c.measure-found.ensures c.within.ensures (mapped_ok _ _ c.map_err.ensures.cases c.in_ok-map_err.was) in
    let M = c.combine-words.ensures F in
    record {
      coded = coded (pair-codes g.met.O.Operation.laws few P F.fits M);
      x_len_bound = omega (
        arith,
        length-take-le c.combine-words.result c.combine-words.new.a (begins-le M),
        pair-words g.met.O.Operation.laws few P F.fits M,
      );
    }

pub returns : goal.returns
returns g c =
    let few = (row-length c.args.row.now c.requires.row_value).1 in
    let P = read-pair c.in_ok-pair.was c.read_pair.ensures in
    let F = fitting few P c.measure-found.ensures c.within.ensures (mapped_ok _ _ c.map_err.ensures.cases c.in_ok-map_err.was) in
    let e = ap (fitted (length c.args.res.now)) (pair-text g.met.O.Operation.laws few P F.fits (c.combine-words.ensures F))
    ∙ sym (two-goes (g.O.Operation.measured (length c.args.row.now)) g.O.Operation.op c.args.row.now c.args.s.now c.args.t.now
    (length c.args.res.now) P (pair-meets g.met.O.Operation.laws few P) F.fits) in
    record {
      value = c.write_result.ensures.value ∙ ap written_of e;
      res_after = c.write_result.ensures.res_after ∙ ap (λ x. result_after x c.args.res.now) e;
    }
