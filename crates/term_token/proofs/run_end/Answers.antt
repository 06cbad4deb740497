-- `term_token::run_end` meets its contract: the place of the first byte that doesn't pass, or the text's end.
use Rattle.std.proofs.Common.{◌≡◌, ◌∙◌, sym, ap, arith, rules, tests, List, ℕ, length, length-drop, ◌+◌}
use Rattle.std.specs.Prelude.{not, drop}
use Rattle.std.proofs.lemmas.Iterator.{YieldsList-from_slice}
use Rattle.std.proofs.lemmas.Iterator.Search.{position_from_yields_List}
use Rattle.term_token.specs.Steps.{lead}
use Rattle.term_token.proofs.Lead.{rest-part, lead-some, lead-none}
use Rattle.term_token.proofs.run_end.Goals as goal

pub returns-in-Some-clause-value : goal.returns-in-Some-clause-value
returns-in-Some-clause-value g c t h =
    let n = lead-some t _ c.position.result
    (position_from_yields_List (λ x. not (t x)) _ _ c.position.result c.position.ensures.ran (YieldsList-from_slice _ c.iter.ensures.rest)
    (λ x b q k. search (rules, tests, h))) _ c.in-Some.is in
    ap (λ m. c.args.at + m) (n ∙ ap (lead t) (rest-part c.args.s.now c.args.at))

pub returns-clause-value : goal.returns-clause-value
returns-clause-value g c t h =
    let l : length c.args.s.now ≡ c.args.at + length (drop c.args.at c.args.s.now) = omega (arith, length-drop c.args.at c.args.s.now) in
    let n : _ = lead-none t _ c.position.result
    (position_from_yields_List (λ x. not (t x)) _ _ c.position.result c.position.ensures.ran (YieldsList-from_slice _ c.iter.ensures.rest)
    (λ x b q k. search (rules, tests, h))) c.in-None.is in
    l ∙ ap (λ (w : List ℕ). c.args.at + length w) (sym (rest-part c.args.s.now c.args.at))
    ∙ ap (λ m. c.args.at + m) (n ∙ ap (lead t) (rest-part c.args.s.now c.args.at))
