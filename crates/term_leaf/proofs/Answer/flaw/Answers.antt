-- `term_leaf::Answer::flaw` meets its contract: the dialect's own number, or the refusal's.
use Rattle.std.proofs.Common.{◌∙◌, refl, sym, ap, ◌%◌, eq-eqb, ne_eqb}
use Rattle.std.specs.Prelude.{cond}
use Rattle.term_leaf.specs.laws.Answers.{flaw-is}
use Rattle.term_leaf.proofs.Answer.flaw.Goals.{then-own-eq0, else-own-eq0}
use Rattle.term_leaf.proofs.Answer.flaw.Goals as goal

pub returns-clause-number : goal.returns-clause-number
returns-clause-number c =
    elim c.if-own-eq0.branch [
      | then-own-eq0 w ↦ w.result-is ∙ sym (ap (λ b. cond b c.args.d.wrong (c.args.self.packed % 8)) (eq-eqb _ 0 w.if-own-eq0.true))
      | else-own-eq0 w ↦ w.result-is ∙ sym (ap (λ b. cond b c.args.d.wrong (c.args.self.packed % 8)) (ne_eqb _ 0 w.if-own-eq0.false))
    ]

pub returns-clause-refusal : goal.returns-clause-refusal
returns-clause-refusal c h =
    flaw-is c.args.d c.args.self h (returns-clause-number c) refl refl
