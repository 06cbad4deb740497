-- `call_form::form_of` meets its contract: the term is refused, or its form is written.
use Rattle.std.proofs.Common.{ap, arith, length-take-le, length}
use Rattle.std.proofs.Math.Path.{◌∙◌}
use Rattle.code.specs.laws.Codes.{coded}
use Rattle.code.proofs.Lists.{begins-le}
use Rattle.term_read.specs.laws.Reading.{read-words}
use Rattle.term_read.specs.laws.Terms.{term-codes, term_words}
use Rattle.refusal.proofs.Exits.{mapped_ok}
use Rattle.door_result.specs.Result.{written_of}
use Rattle.reply.specs.definitions.Reply.{result_after}
use Rattle.call_form.specs.laws.Form.{form-is}
use Rattle.call_form.proofs.form_of.Goals as goal

pub write_result-requires : goal.write_result-requires
write_result-requires c =
    let T = read-words (mapped_ok _ _ c.map_err.ensures.cases c.in_ok-n.was) c.read_term-reading.ensures in
    record {
      coded = coded (term-codes c.requires.row_value T);
      x_len_bound = omega (
        arith,
        length-take-le c.in_ok-n.n c.read_term-reading.new.a (begins-le T.made),
        term_words c.requires.row_value T,
      );
    }

pub returns : goal.returns
returns c =
    let e = form-is (length c.args.res.now) c.requires.row_value (read-words (mapped_ok _ _ c.map_err.ensures.cases c.in_ok-n.was) c.read_term-reading.ensures) in
    record {
      value = c.write_result.ensures.value ∙ ap written_of e;
      res_after = c.write_result.ensures.res_after ∙ ap (λ x. result_after x c.args.res.now) e;
    }
