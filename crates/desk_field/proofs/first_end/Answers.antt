-- `desk_field::first_end` meets its contract: the place that the search gives is the first tab's.
use Rattle.std.proofs.Common.{◌∙◌, sym, subst, rules, tests, eqb}
use Rattle.std.proofs.lemmas.Iterator.{YieldsList-from_slice}
use Rattle.std.proofs.lemmas.Iterator.Search.{position_from_yields_List}
use Rattle.text_word.proofs.Walk.{index-position}
use Rattle.desk_field.specs.Fields.{EndsAt}
use Rattle.desk_field.proofs.Tabs.{ends}
use Rattle.desk_field.proofs.first_end.Goals as goal

pub returns : goal.returns
returns c =
    let e =
    c.unwrap_or.ensures
    ∙ index-position c.args.s.now 9 c.position.result
    (position_from_yields_List (λ x. eqb 9 x) _ _ c.position.result c.position.ensures.ran (YieldsList-from_slice c.args.s.now cc)
    (λ x b q k. search (rules, tests))) in
    subst (λ n. EndsAt n c.args.s.now) (sym e) (ends c.args.s.now)
