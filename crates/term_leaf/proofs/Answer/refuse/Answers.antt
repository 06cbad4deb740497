-- `term_leaf::Answer::refuse` meets its contract.
use Rattle.term_leaf.specs.laws.Answers.{refuse-is}
use Rattle.term_leaf.proofs.Answer.refuse.Goals as goal

pub returns : goal.returns
returns c =
    refuse-is _ _ _ c.requires.0 c.requires.1.0 c.requires.1.1
