-- `form_head::digits_end` meets its contract: the digits at the place are counted.
use Rattle.std.proofs.Common.{◌≡◌, ap, arith, length, length-drop, take, drop, ◌+◌, ◌-◌, ◌∙◌, rules, tests}
use Rattle.std.proofs.lemmas.List.{take_all}
use Rattle.std.proofs.lemmas.Iterator.{YieldsList-from_slice}
use Rattle.std.proofs.lemmas.Iterator.Consumers.{count_from_yields_List}
use Rattle.std.proofs.lemmas.Iterator.Search.{YieldsList-from_take_while}
use Rattle.std.proofs.lemmas.List.Folds.{length-prefix_len}
use Rattle.text.specs.definitions.Bytes.{digit}
use Rattle.form_head.specs.laws.Digits.{digits-count}
use Rattle.form_head.proofs.digits_end.Goals as goal

pub returns : goal.returns
returns c =
    let s = c.args.s.now in
    let rest = drop c.args.at s in
    let whole : take (length s - c.args.at) rest ≡ rest = take_all _ _ (omega (arith, length-drop c.args.at s)) in
    ap (λ n. c.args.at + n)
    (count_from_yields_List c.take_while.result _ c.count.ensures.ran
    (YieldsList-from_take_while _ digit (YieldsList-from_slice rest (rw c.take_while.ensures.source (c.iter.ensures.rest ∙ whole)))
    c.take_while.ensures.closure c.take_while.ensures.done (λ x b q k. search (rules, tests)))
    ∙ length-prefix_len digit rest ∙ digits-count rest)
