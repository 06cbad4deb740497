-- `text_word::is_positive` meets its contract: digits that do not begin with 0.
use Rattle.std.proofs.Common.{◌≡◌, ◌∙◌, sym, arith, rules, tests}
use Rattle.std.proofs.lemmas.Iterator.{YieldsList-from_slice}
use Rattle.std.proofs.lemmas.Iterator.Search.{all_from_yields_List}
use Rattle.std.specs.List.{list_all}
use Rattle.text.specs.definitions.Bytes.{digit}
use Rattle.text_word.specs.Words.{positive-digits}
use Rattle.text_word.proofs.Walk.{all-list}
use Rattle.text_word.proofs.is_positive.Goals as goal

pub returns-in_default : goal.returns-in_default
returns-in_default c =
    let e : c.all.result ≡ list_all digit c.args.w.now =
    all_from_yields_List digit _ _ c.all.result c.all.ensures.ran (YieldsList-from_slice c.args.w.now cc)
    (λ x b q k. search (rules, tests)) in
    e ∙ sym (all-list digit c.args.w.now) ∙ sym (positive-digits c.args.w.now (omega arith) (λ z. omega arith))
