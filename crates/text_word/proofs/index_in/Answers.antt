-- `text_word::index_in` meets its contract: the place of the first letter that is b.
use Rattle.std.proofs.Common.{◌∙◌, rules, tests, eqb}
use Rattle.std.proofs.lemmas.Iterator.{YieldsList-from_slice}
use Rattle.std.proofs.lemmas.Iterator.Search.{position_from_yields_List}
use Rattle.text_word.proofs.Walk.{index-position}
use Rattle.text_word.proofs.index_in.Goals as goal

pub returns : goal.returns
returns c =
    c.unwrap_or.ensures
    ∙ index-position c.args.row.now c.args.b c.position.result
    (position_from_yields_List (λ x. eqb c.args.b x) _ _ c.position.result c.position.ensures.ran (YieldsList-from_slice c.args.row.now cc)
    (λ x b q k. search (rules, tests)))
