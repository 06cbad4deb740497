-- `call_raise::raise_of` meets its contract: the form is refused, the exponent or a limit is passed, or the power is written.
use Rattle.std.specs.Prelude.{Err}
use Rattle.std.proofs.Common.{◌≡◌, ap, arith, length-take-le, length, rules}
use Rattle.std.proofs.Math.Path.{◌∙◌}
use Rattle.refusal.specs.Refusal.{of_neither}
use Rattle.reply.specs.definitions.Reply.{result_after}
use Rattle.code.proofs.Lists.{begins-le}
use Rattle.code.specs.laws.Codes.{coded}
use Rattle.text_laws.specs.laws.Rows.{row-length}
use Rattle.form_read.specs.laws.Read.{read-form, form_small, form-coded}
use Rattle.refusal.proofs.Exits.{mapped_ok, mapped_err, exits}
use Rattle.door_result.specs.Result.{written_of}
use Rattle.door_forms.specs.laws.Limits.{within-ok, within-err}
use Rattle.call_raise.specs.laws.Raise.{lengths, raising, power-codes, power-words, raise-stopped, raise-is}
use Rattle.call_raise.proofs.raise_of.Goals as goal

pub raise-found-requires : goal.raise-found-requires
raise-found-requires c =
    let few = (row-length c.args.row.now c.requires.row_value).1 in
    (form_small few (read-form (mapped_ok _ _ c.map_err.ensures.cases c.in_ok-form.was) c.read_form-reading.ensures), c.if-k-gt63.false)

pub returns-in_err-map_err : goal.returns-in_err-map_err
returns-in_err-map_err c =
    let few = (row-length c.args.row.now c.requires.row_value).1 in
    let F = read-form (mapped_ok _ _ c.map_err.ensures.cases c.in_ok-form.was) c.read_form-reading.ensures in
    let m = mapped_err _ _ c.map_err-2.ensures.cases c.in_err-map_err.was in
    let w = within-err c.raise-found.ensures c.within.ensures m.1 in
    let q : c.in_err-map_err.field-0.0 ≡ of_neither m.0 = search (rules, m.2) in
    let e = raise-stopped c.args.row.now few F c.args.k (length c.args.res.now) c.if-k-gt63.false c.args.res.now w.0 w.1 in
    record {
      value = exits c.from_residual-in_err-map_err.ensures.1 ∙ ap Err q ∙ e.0;
      res_after = e.1;
    }

pub raise-words-requires : goal.raise-words-requires
raise-words-requires c =
    let few = (row-length c.args.row.now c.requires.row_value).1 in
    let F = read-form (mapped_ok _ _ c.map_err.ensures.cases c.in_ok-form.was) c.read_form-reading.ensures in
    let z = within-ok c.raise-found.ensures c.within.ensures (mapped_ok _ _ c.map_err-2.ensures.cases c.in_ok-map_err.was) in
    let T = lengths (length-take-le 16384 c.args.b.now c.requires.long.second) (length-take-le 16384 c.args.c.now c.requires.long.third)
    (length-take-le 6146 c.args.d.now c.requires.long.fourth) in
    record {
      coded = form-coded few F;
      raising = raising few F c.args.k z (omega (arith, c.requires.long.first, c.read_form-reading.auto.out)) T;
    }

pub write_result-requires : goal.write_result-requires
write_result-requires c =
    let few = (row-length c.args.row.now c.requires.row_value).1 in
    let F = read-form (mapped_ok _ _ c.map_err.ensures.cases c.in_ok-form.was) c.read_form-reading.ensures in
    let z = within-ok c.raise-found.ensures c.within.ensures (mapped_ok _ _ c.map_err-2.ensures.cases c.in_ok-map_err.was) in
    record {
      coded = coded (power-codes few F c.args.k z c.raise-words.ensures);
      x_len_bound = omega (
        arith,
        length-take-le c.raise-words.result c.raise-words.new.s (begins-le c.raise-words.ensures),
        power-words few F c.args.k z c.raise-words.ensures,
      );
    }

pub returns : goal.returns
returns c =
    let few = (row-length c.args.row.now c.requires.row_value).1 in
    let F = read-form (mapped_ok _ _ c.map_err.ensures.cases c.in_ok-form.was) c.read_form-reading.ensures in
    let z = within-ok c.raise-found.ensures c.within.ensures (mapped_ok _ _ c.map_err-2.ensures.cases c.in_ok-map_err.was) in
    let e = raise-is c.args.row.now few F c.args.k (length c.args.res.now) c.if-k-gt63.false z c.raise-words.ensures in
    record {
      value = c.write_result.ensures.value ∙ ap written_of e;
      res_after = c.write_result.ensures.res_after ∙ ap (λ x. result_after x c.args.res.now) e;
    }
