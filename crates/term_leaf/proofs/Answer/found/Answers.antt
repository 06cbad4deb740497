-- `term_leaf::Answer::found` meets its contract.
use Rattle.term_leaf.specs.laws.Answers.{found-is}
use Rattle.term_leaf.proofs.Answer.found.Goals as goal

pub returns : goal.returns
returns c =
    found-is _ _ c.requires.0 c.requires.1
