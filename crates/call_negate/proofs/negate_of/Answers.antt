-- `call_negate::negate_of` meets its contract: the form is refused, or its negative is written.
use Rattle.refusal.proofs.Exits.{mapped_ok}
use Rattle.std.proofs.Common.{ap, arith, length-take-le, length}
use Rattle.std.proofs.Math.Path.{◌∙◌}
use Rattle.reply.specs.definitions.Reply.{result_after}
use Rattle.code.proofs.Lists.{begins-le}
use Rattle.code.specs.laws.Codes.{coded}
use Rattle.text_laws.specs.laws.Rows.{row-length}
use Rattle.door_result.specs.Result.{written_of}
use Rattle.form_read.specs.laws.Read.{read-form, form-coded, form-words}
use Rattle.call_negate.specs.laws.Negate.{negative-codes, negative-words, negate-is}
use Rattle.call_negate.proofs.negate_of.Goals as goal

pub negate-k-requires : goal.negate-k-requires
negate-k-requires c =
    let few = (row-length c.args.row.now c.requires.row_value).1 in
    let F = read-form (mapped_ok _ _ c.map_err.ensures.cases c.in_ok-form.was) c.read_form-reading.ensures in
    record {
      coded = form-coded few F;
      x_in_bounds = omega (
        arith,
        length-take-le c.in_ok-form.form.words c.read_form-reading.new.out (begins-le F.made),
        form-words few F,
        c.requires.table_in_bounds.1,
      );
    }

pub write_result-requires : goal.write_result-requires
write_result-requires c =
    let few = (row-length c.args.row.now c.requires.row_value).1 in
    let F = read-form (mapped_ok _ _ c.map_err.ensures.cases c.in_ok-form.was) c.read_form-reading.ensures in
    record {
      coded = coded (negative-codes few F c.negate-k.ensures);
      x_len_bound = omega (
        arith,
        length-take-le c.negate-k.result c.negate-k.new.out (begins-le c.negate-k.ensures),
        negative-words few F c.negate-k.ensures,
      );
    }

pub returns : goal.returns
returns c =
    let F = read-form (mapped_ok _ _ c.map_err.ensures.cases c.in_ok-form.was) c.read_form-reading.ensures in
    let e = negate-is c.args.row.now (row-length c.args.row.now c.requires.row_value).1 F (length c.args.res.now)
    c.negate-k.ensures in
    record {
      value = c.write_result.ensures.value ∙ ap written_of e;
      res_after = c.write_result.ensures.res_after ∙ ap (λ x. result_after x c.args.res.now) e;
    }
