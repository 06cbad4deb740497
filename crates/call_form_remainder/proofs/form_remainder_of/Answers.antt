-- `call_form_remainder::form_remainder_of` meets its contract: the form is refused, or its value is worked out at the coordinates'
-- remainders.
use Rattle.std.proofs.Common.{refl, length}
use Rattle.std.specs.Prelude.{drop}
use Rattle.refusal.proofs.Exits.{mapped_ok}
use Rattle.text_laws.specs.laws.Rows.{row-length}
use Rattle.form_read.specs.laws.Read.{read-form, form-coded}
use Rattle.door_point.specs.laws.Residues.{front-leaves}
use Rattle.call_form_remainder.specs.laws.Remainder.{remainder_is}
use Rattle.call_form_remainder.proofs.form_remainder_of.Goals as goal

pub value-v-requires : goal.value-v-requires
value-v-requires c =
    record {
      coded = form-coded (row-length c.args.row.now c.requires.row_value).1 (read-form (mapped_ok _ _ c.map_err.ensures.cases c.in_ok-form.was) c.read_form-reading.ensures);
      leaves = front-leaves c.args.point.now (length c.args.point.now) (drop (length c.args.point.now) c.args.b.now) refl c.put_point.ensures;
    }

pub returns : goal.returns
returns c =
    remainder_is c.args.row.now c.args.point.now (length c.args.point.now) (drop (length c.args.point.now) c.args.b.now) (row-length c.args.row.now c.requires.row_value).1
    (read-form (mapped_ok _ _ c.map_err.ensures.cases c.in_ok-form.was) c.read_form-reading.ensures) refl c.put_point.ensures c.value-v.ensures.0
