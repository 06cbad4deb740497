-- `term_leaf::peek` meets its contract, by the reader's answer.
use Rattle.std.proofs.Common.{sym}
use Rattle.std.proofs.Math.Path.{◌∙◌}
use Rattle.term_leaf.specs.laws.Tokens.{token_end, token-open, token-close, token-word}
use Rattle.term_leaf.proofs.peek.Goals as goal

pub returns-in-Open : goal.returns-in-Open
returns-in-Open c =
    token-open c.args.s.now _ c.requires _ _ (sym c.next-step.ensures ∙ c.in-Open.is)

pub returns-in-Close : goal.returns-in-Close
returns-in-Close c =
    token-close c.args.s.now _ c.requires _ _ (sym c.next-step.ensures ∙ c.in-Close.is)

pub returns-in-Word : goal.returns-in-Word
returns-in-Word c =
    token-word c.args.s.now _ c.requires _ _ (sym c.next-step.ensures ∙ c.in-Word.is)

pub returns-in-End : goal.returns-in-End
returns-in-End c =
    token_end c.args.s.now _ c.requires (sym c.next-step.ensures ∙ c.in-End.is)
