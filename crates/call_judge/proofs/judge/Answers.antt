-- `call_judge::judge` meets its contract: the row is looked at, then the text.
use Rattle.std.proofs.Common.{◌≡◌, ap, sym, rules}
use Rattle.std.proofs.Math.Path.{◌∙◌}
use Rattle.refusal.specs.Refusal.{on_side}
use Rattle.refusal.specs.declared.Side.TheVariants.{Left}
use Rattle.reply.specs.definitions.Reply.{refuses, told}
use Rattle.refusal.proofs.Exits.{mapped_ok, mapped_err, exits}
use Rattle.call_judge.specs.laws.Judge.{row-refused, text-refused, text-stands}
use Rattle.call_judge.proofs.judge.Goals as goal

pub returns-then-not-is_row : goal.returns-then-not-is_row
returns-then-not-is_row c =
    record {
      answer = ap refuses c.of_neither.ensures
          ∙ row-refused c.args.row.now c.args.s.now (sym c.is_row.ensures ∙ c.if-not-is_row.true);
    }

pub returns-in_err-map_err : goal.returns-in_err-map_err
returns-in_err-map_err c =
    let m = mapped_err _ _ c.map_err.ensures.cases c.in_err-map_err.was in
    let q : c.in_err-map_err.field-0.0 ≡ on_side Left m.0 = search (rules, m.2) in
    record {
      answer = ap told (exits c.from_residual.ensures.1) ∙ ap refuses q
          ∙ text-refused c.args.row.now c.args.s.now (sym c.is_row.ensures ∙ c.if-not-is_row.false) (sym c.accept_form.ensures ∙ m.1);
    }

pub returns : goal.returns
returns c =
    record {
      answer = text-stands c.args.row.now c.args.s.now (sym c.is_row.ensures ∙ c.if-not-is_row.false)
          (sym c.accept_form.ensures ∙ mapped_ok _ _ c.map_err.ensures.cases c.in_ok-map_err.was);
    }
