-- `door_forms::read_pair` meets its contract: the left form is refused, the right one is, or both stand side by side.
use Rattle.std.proofs.Common.{◌≡◌, ◌∙◌, ap, arith, rules}
use Rattle.std.specs.Prelude.{Err}
use Rattle.code.proofs.Lists.{length-tail-part}
use Rattle.refusal.specs.Refusal.{on_side}
use Rattle.refusal.specs.declared.Side.TheVariants.{Right}
use Rattle.form_read.specs.laws.Read.{form-words, read-form, read-refusal}
use Rattle.refusal.proofs.Exits.{mapped_ok, mapped_err, exits}
use Rattle.door_forms.specs.Forms.{left-refusal, right-refusal}
use Rattle.door_forms.specs.laws.Forms.{both-read}
use Rattle.door_forms.proofs.read_pair.Goals as goal

pub returns-in_default : goal.returns-in_default
returns-in_default c =
    left-refusal _ (read-refusal c.unwrap_err.ensures c.read_form-reading.ensures) (ap Err c.on_side.ensures)

pub read_form-behind-requires : goal.read_form-behind-requires
read_form-behind-requires c =
    let F = read-form c.in-Ok.is c.read_form-reading.ensures in (
      c.requires.0,
      omega (
        arith,
        form-words c.requires.0 F,
        c.read_form-reading.auto.out,
        c.requires.1,
        length-tail-part c.in-Ok.left.words c.read_form-reading.new.out,
      ),
    )

pub returns-in_err-right : goal.returns-in_err-right
returns-in_err-right c =
    let F = read-form c.in-Ok.is c.read_form-reading.ensures in
    let m = mapped_err _ _ c.map_err.ensures.cases c.in_err-right.was in
    let q : c.in_err-right.field-0.0 ≡ on_side Right m.0 = search (rules, m.2) in
    right-refusal F.f m.0 F.accepted (read-refusal m.1 c.read_form-behind.ensures) (exits c.from_residual.ensures.1 ∙ ap Err q)

pub returns : goal.returns
returns c =
    both-read c.read_form-reading.new.out c.read_form-behind.new.out
    (read-form c.in-Ok.is c.read_form-reading.ensures)
    (read-form (mapped_ok _ _ c.map_err.ensures.cases c.in_ok-right.was) c.read_form-behind.ensures)
